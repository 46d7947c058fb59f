-- Edits that are applied one after the other, and taken back from the last to the first.
use Rattle.std.proofs.Common.{◌≡◌, ℕ, zero, suc, ◌+◌, ◌<◌, ◌≤◌, List, [], ◌∷◌, ◌++◌, length, take, slice_get, Some, None, refl, sym, ◌∙◌, ap, ap₂, subst, arith, inl, inr}
use Rattle.std.specs.List.{All}
use Rattle.std.proofs.lemmas.List.{length-append}
use Rattle.std.proofs.lemmas.List.Elements.{All-head, All-tail, All-take}
use Rattle.md_graph.specs.declared.TheConstants.{NAMES}
use Rattle.md_graph.specs.NameSet.{AllBelow}
use Rattle.md_graph.specs.PlainGraph.{PlainGraph, IsGraph}
use Rattle.md_graph.proofs.SetLemmas.{of_insert, of_remove}
use Rattle.md_script.specs.declared.edit.Edit.{Edit}
use Rattle.md_script.specs.declared.edit.Edit.TheVariants.{AddEdge, DelEdge, AddVertex, DelVertex}
use Rattle.md_script.specs.Edit.{HasNamesBelow, reason_of, after}
use Rattle.md_script.specs.Pasts.{inverse_of, all_after, taken_back, inverses_of, Applies, MayBack, HasApplied, TakesBack}
use Rattle.md_script.proofs.ChangeLemmas.{names_within, after_is_graph}
use Rattle.md_script.proofs.BackLemmas.{inverse_back}

-- ---- lists

pub read_within : {X : Type 0} (xs : List X) (i : ℕ) (x : X) → slice_get xs i ≡ Some x → i < length xs
read_within [] i x is = absurd (cc)
read_within (y ∷ xs) zero x is = omega arith
read_within (y ∷ xs) (suc i) x is = let rest = read_within xs i x is in omega arith

pub take_read : {X : Type 0} (xs : List X) (i : ℕ) (x : X) → slice_get xs i ≡ Some x → take (i + 1) xs ≡ take i xs ++ x ∷ []
take_read [] i x is = absurd (cc)
take_read (y ∷ xs) zero x is = let same : y ≡ x = cc in ap (λ z. z ∷ []) same
take_read (y ∷ xs) (suc i) x is = let on : suc i + 1 ≡ suc (i + 1) = omega arith in ap (λ n. take n (y ∷ xs)) on ∙ ap (λ l. y ∷ l) (take_read xs i x is)

-- the length of the last item
pub last_length : List (List Edit) → ℕ
last_length [] = 0
last_length (last ∷ others) = length last

pub smaller_last : (items new behind : List (List Edit)) (left : List Edit) (e : Edit) → items ≡ (left ++ e ∷ []) ∷ behind → new ≡ left ∷ behind → last_length new < last_length items
unfolding last_length
smaller_last items new behind left e was is =
    let a : last_length items ≡ length (left ++ e ∷ []) = ap last_length was in
    let b : last_length new ≡ length left = ap last_length is in
    let l = length-append left (e ∷ []) in
    omega arith

-- ---- one edit more

pub all_after-push : (g : PlainGraph) (edits : List Edit) (e : Edit) → all_after g (edits ++ e ∷ []) ≡ after (all_after g edits) e
all_after-push g [] e = refl
all_after-push g (x ∷ edits) e = all_after-push (after g x) edits e

inverses_of-push : (g : PlainGraph) (edits : List Edit) (e : Edit) → inverses_of g (edits ++ e ∷ []) ≡ inverses_of g edits ++ inverse_of (all_after g edits) e ∷ []
inverses_of-push g [] e = refl
inverses_of-push g (x ∷ edits) e = ap (λ l. inverse_of g x ∷ l) (inverses_of-push (after g x) edits e)

pub taken_back-push : (g : PlainGraph) (edits : List Edit) (e : Edit) → taken_back g (edits ++ e ∷ []) ≡ taken_back (after g e) edits
taken_back-push g [] e = refl
taken_back-push g (x ∷ edits) e = ap (λ (k : PlainGraph). after k x) (taken_back-push g edits e)

module _ (Kept : PlainGraph → Type 0) where
  Applies-push : (g : PlainGraph) (edits : List Edit) (e : Edit) → Applies Kept g edits → reason_of (all_after g edits) e ≡ None → Kept (after (all_after g edits) e) → Applies Kept g (edits ++ e ∷ [])
  Applies-push g [] e applies none kept = (none, (kept, tt))
  Applies-push g (x ∷ edits) e applies none kept = (applies.0, (applies.1.0, Applies-push (after g x) edits e applies.1.1 none kept))

  pub applied_more : (g h k : PlainGraph) (edits back : List Edit) (i : ℕ) (e p : Edit) → HasApplied Kept g edits h back i → slice_get edits i ≡ Some e → reason_of h e ≡ None → Kept k → k ≡ after h e → p ≡ inverse_of h e
      → HasApplied Kept g edits k (back ++ p ∷ []) (i + 1)
  applied_more g h k edits back i e p so is none kept next inverse =
      let front = take i edits in
      let more = take_read edits i e is in
      let within = read_within edits i e is in
      let here : after h e ≡ after (all_after g front) e = ap (λ (j : PlainGraph). after j e) so.graph_is in
      record {
        within = omega arith;
        applies =
            subst (Applies Kept g) (sym more)
            (Applies-push g front e so.applies (ap (λ (j : PlainGraph). reason_of j e) (sym so.graph_is) ∙ none) (subst Kept (next ∙ here) kept));
        graph_is = next ∙ here ∙ sym (all_after-push g front e) ∙ ap (all_after g) (sym more);
        back_is =
            ap₂ (λ (l : List Edit) (q : Edit). l ++ q ∷ []) so.back_is (inverse ∙ ap (λ (j : PlainGraph). inverse_of j e) so.graph_is)
            ∙ sym (inverses_of-push g front e)
            ∙ ap (inverses_of g) (sym more);
      }

-- ---- the last edit is taken back first

module _ (limit : ℕ) (Kept : PlainGraph → Type 0) where
  -- what the last of edits that can be taken back needs, and the others behind it
  pub record BackFirst (g : PlainGraph) (e : Edit) (edits : List Edit) : Type 0 where
    pub no_reason : reason_of g e ≡ None
    pub names : HasNamesBelow limit e
    pub kept : Kept (after g e)
    pub others : MayBack limit Kept (after g e) edits

  pub back_first : (g : PlainGraph) (edits : List Edit) (e : Edit) → MayBack limit Kept g (edits ++ e ∷ []) → BackFirst g e edits
  back_first g [] e may = record { no_reason = may.1.0; names = may.1.1.0; kept = may.1.1.1; others = tt }
  back_first g (x ∷ edits) e may =
      let rest = back_first g edits e may.0 in
      let same = taken_back-push g edits e in
      record {
        no_reason = rest.no_reason;
        names = rest.names;
        kept = rest.kept;
        others = (rest.others, (ap (λ (k : PlainGraph). reason_of k x) (sym same) ∙ may.1.0, (may.1.1.0, subst (λ (k : PlainGraph). Kept (after k x)) same may.1.1.1)));
      }

  pub back-push : (g : PlainGraph) (edits : List Edit) (e : Edit) → reason_of g e ≡ None → HasNamesBelow limit e → Kept (after g e) → MayBack limit Kept (after g e) edits → MayBack limit Kept g (edits ++ e ∷ [])
  back-push g [] e none names kept others = (tt, (none, (names, kept)))
  back-push g (x ∷ edits) e none names kept others =
      let same = taken_back-push g edits e in
      (back-push g edits e none names kept others.0, (ap (λ (k : PlainGraph). reason_of k x) same ∙ others.1.0, (others.1.1.0, subst (λ (k : PlainGraph). Kept (after k x)) (sym same) others.1.1.1)))

  -- a history of which the last item is being taken back: what is left of it leads from the graph to the one before the item
  abbrev pub IsGoingBack : PlainGraph → PlainGraph → List (List Edit) → List (List Edit) → Type 0
  IsGoingBack before g items others = (last : List Edit) × (items ≡ last ∷ others) × MayBack limit Kept g last × (taken_back g last ≡ before)

  -- the edit that comes next
  pub next_back : (before g : PlainGraph) (items others behind : List (List Edit)) (left : List Edit) (e : Edit) → IsGoingBack before g items others → items ≡ (left ++ e ∷ []) ∷ behind → BackFirst g e left
  next_back before g items others behind left e so is =
      let f : so.0 ∷ others ≡ (left ++ e ∷ []) ∷ behind = sym so.1 ∙ is in
      let same : so.0 ≡ left ++ e ∷ [] = cc in
      back_first g left e (subst (MayBack limit Kept g) same so.2)

  pub go_back : (before g h : PlainGraph) (items new others behind : List (List Edit)) (left : List Edit) (e : Edit) → IsGoingBack before g items others → items ≡ (left ++ e ∷ []) ∷ behind → new ≡ left ∷ behind → h ≡ after g e
      → IsGoingBack before h new others
  go_back before g h items new others behind left e so is made next =
      let f : so.0 ∷ others ≡ (left ++ e ∷ []) ∷ behind = sym so.1 ∙ is in
      let same : so.0 ≡ left ++ e ∷ [] = cc in
      let rest : others ≡ behind = cc in
      let first = back_first g left e (subst (MayBack limit Kept g) same so.2) in (
        left,
        made ∙ ap (λ l. left ∷ l) (sym rest),
        subst (λ (k : PlainGraph). MayBack limit Kept k left) (sym next) first.others,
        ap (λ (k : PlainGraph). taken_back k left) next ∙ sym (taken_back-push g left e) ∙ ap (taken_back g) (sym same) ∙ so.3,
      )

  pub gone_back : (before g : PlainGraph) (items others behind : List (List Edit)) → IsGoingBack before g items others → items ≡ [] ∷ behind → (g ≡ before) × (others ≡ behind)
  gone_back before g items others behind so is =
      let f : so.0 ∷ others ≡ [] ∷ behind = sym so.1 ∙ is in
      let same : so.0 ≡ [] = cc in
      (ap (taken_back g) (sym same) ∙ so.3, cc)

  -- the front of an item is left to be taken back
  pub record IsThrough (before g : PlainGraph) (last : List Edit) (left : ℕ) : Type 0 where
    pub within : left ≤ length last
    pub may : MayBack limit Kept g (take left last)
    pub leads : taken_back g (take left last) ≡ before

  module _ (before g : PlainGraph) (last : List Edit) (left new : ℕ) (e : Edit) (so : IsThrough before g last left) (less : left ≡ new + 1) (is : slice_get last new ≡ Some e) where
    front_is : take left last ≡ take new last ++ e ∷ []
    front_is = ap (λ n. take n last) less ∙ take_read last new e is

    pub through_first : BackFirst g e (take new last)
    through_first = back_first g (take new last) e (subst (MayBack limit Kept g) front_is so.may)

    pub through_next : (h : PlainGraph) → h ≡ after g e → IsThrough before h last new
    through_next h next = record {
      within = (let w = so.within in omega arith);
      may = subst (λ (k : PlainGraph). MayBack limit Kept k (take new last)) (sym next) through_first.others;
      leads = ap (λ (k : PlainGraph). taken_back k (take new last)) next ∙ sym (taken_back-push g (take new last) e) ∙ ap (taken_back g) (sym front_is) ∙ so.leads;
    }

  -- what is taken back gives a graph again, by other edits
  pub record GivesAgain (first g : PlainGraph) (edits : List Edit) : Type 0 where
    pub may : MayBack limit Kept g edits
    pub leads : taken_back g edits ≡ first

  pub again_more : (first g h : PlainGraph) (edits : List Edit) (e back : Edit) → GivesAgain first g edits → TakesBack limit g e back → h ≡ after g e → Kept g → GivesAgain first h (edits ++ back ∷ [])
  again_more first g h edits e back so takes next kept =
      let home : after h back ≡ g = ap (λ (k : PlainGraph). after k back) next ∙ takes.gives in
      record {
        may =
            back-push h edits back (ap (λ (k : PlainGraph). reason_of k back) next ∙ takes.no_reason) takes.names (subst Kept (sym home) kept)
            (subst (λ (k : PlainGraph). MayBack limit Kept k edits) (sym home) so.may);
        leads = taken_back-push h edits back ∙ ap (λ (k : PlainGraph). taken_back k edits) home ∙ so.leads;
      }

-- ---- what was applied can be taken back

pub after_below : (limit : ℕ) (g : PlainGraph) (edit : Edit) → AllBelow g.vertices limit → HasNamesBelow limit edit → AllBelow (after g edit).vertices limit
after_below limit g (AddEdge u v) below names = below
after_below limit g (DelEdge u v) below names = below
after_below limit g (AddVertex x list) below names = λ w has. elim (of_insert g.vertices x w has) [ inl same ↦ subst (λ y. y < limit) (sym same) names.0 | inr old ↦ below w old ]
after_below limit g (DelVertex x) below names = λ w has. below w (of_remove g.vertices x w has).1

-- edits can be taken back, and give a graph again
pub record GoesBack (limit : ℕ) (Kept : PlainGraph → Type 0) (g h : PlainGraph) (edits : List Edit) : Type 0 where
  pub may : MayBack limit Kept h edits
  pub leads : taken_back h edits ≡ g

pub applied_goes_back : (limit : ℕ) (Kept : PlainGraph → Type 0) (g : PlainGraph) (edits : List Edit) → limit ≤ NAMES → IsGraph g → AllBelow g.vertices limit → Kept g → All (HasNamesBelow limit) edits → Applies Kept g edits
    → GoesBack limit Kept g (all_after g edits) (inverses_of g edits)
applied_goes_back limit Kept g [] few is below kept names applies = record { may = tt; leads = refl }
applied_goes_back limit Kept g (edit ∷ edits) few is below kept names applies =
    let own = All-head (HasNamesBelow limit) edit edits names in
    let takes = inverse_back limit g few is below edit own applies.0 in
    let rest =
    applied_goes_back limit Kept (after g edit) edits few (after_is_graph g edit is (names_within few edit own) applies.0) (after_below limit g edit below own) applies.1.0 (All-tail (HasNamesBelow limit) edit edits names) applies.1.1 in
    let home : after (taken_back (all_after (after g edit) edits) (inverses_of (after g edit) edits)) (inverse_of g edit) ≡ g = ap (λ (k : PlainGraph). after k (inverse_of g edit)) rest.leads ∙ takes.gives in
    record {
      may = (rest.may, (ap (λ (k : PlainGraph). reason_of k (inverse_of g edit)) rest.leads ∙ takes.no_reason, (takes.names, subst Kept (sym home) kept)));
      leads = home;
    }

-- the same of what a history keeps of the first edits of a list, or of all
pub kept_goes_back : (limit : ℕ) (Kept : PlainGraph → Type 0) (g h : PlainGraph) (edits back : List Edit) (n : ℕ) → limit ≤ NAMES → IsGraph g → AllBelow g.vertices limit → Kept g → All (HasNamesBelow limit) edits → HasApplied Kept g edits h back n
    → GoesBack limit Kept g h back
kept_goes_back limit Kept g h edits back n few is below kept names so =
    let goes = applied_goes_back limit Kept g (take n edits) few is below kept (All-take (HasNamesBelow limit) n edits names) so.applies in
    subst (λ (k : PlainGraph). GoesBack limit Kept g k back) (sym so.graph_is) (subst (GoesBack limit Kept g (all_after g (take n edits))) (sym so.back_is) goes)

pub one_goes_back : (limit : ℕ) (Kept : PlainGraph → Type 0) (g h : PlainGraph) (edit back : Edit) → Kept g → TakesBack limit g edit back → h ≡ after g edit → GoesBack limit Kept g h (back ∷ [])
one_goes_back limit Kept g h edit back kept takes next =
    let home : after h back ≡ g = ap (λ (k : PlainGraph). after k back) next ∙ takes.gives in
    record {
      may = (tt, (ap (λ (k : PlainGraph). reason_of k back) next ∙ takes.no_reason, (takes.names, subst Kept (sym home) kept)));
      leads = home;
    }

-- ---- what may be taken back

-- over more graphs
pub back_weaker : (limit : ℕ) (Kept Other : PlainGraph → Type 0) → ((k : PlainGraph) → Kept k → Other k) → (g : PlainGraph) (edits : List Edit) → MayBack limit Kept g edits → MayBack limit Other g edits
back_weaker limit Kept Other weaker g [] may = tt
back_weaker limit Kept Other weaker g (edit ∷ edits) may = (back_weaker limit Kept Other weaker g edits may.0, (may.1.0, (may.1.1.0, weaker _ may.1.1.1)))

-- the graph before edits that can be taken back is one of those that may be kept
pub back_kept : (limit : ℕ) (Kept : PlainGraph → Type 0) (g : PlainGraph) (edits : List Edit) → Kept g → MayBack limit Kept g edits → Kept (taken_back g edits)
back_kept limit Kept g [] kept may = kept
back_kept limit Kept g (edit ∷ edits) kept may = may.1.1.1
