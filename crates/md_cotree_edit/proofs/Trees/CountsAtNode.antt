-- What is counted at a node of a tree where each place stands once is counted from its row.
use Rattle.std.proofs.Common.{◌≡◌, ◌⊎◌, ℕ, ◌+◌, ◌*◌, ◌<◌, ◌≤◌, Bool, true, false, cond, ◌==◌, List, [], ◌∷◌, length, Some, refl, sym, ◌∙◌, ap, subst, inl, inr, arith}
use Rattle.std.proofs.lemmas.Bool.{cases_eq, cases_lt}
use Rattle.md_lists.specs.declared.kinds.PlaceKind.TheVariants.{Leaf}
use Rattle.md_lists.specs.Words.{holds_once}
use Rattle.md_graph.specs.Linked.{times}
use Rattle.md_lists.specs.Links.{Links, kind_at, parent_at, children_at, tally_at, note_at, AreLinks}
use Rattle.md_lists.proofs.LinkLaws.{holds-once-same}
use Rattle.md_cotree.specs.PlaceTrees.{PlaceTree, tip, inner, PlaceTrees, no_more, then, place_kind, roots, row_length, times_in, times_among, Alternates, AllAlternate}
use Rattle.md_cotree.proofs.Frames.{hit}
use Rattle.md_cotree.proofs.Rows.{length_roots}
use Rattle.md_cotree_edit.specs.Counts.{kind_code, kind_in, kind_row, child_in, child_row}
use Rattle.md_cotree_edit.specs.Contexts.{Frame, fill, plug, AreTreesKept}
use Rattle.md_cotree_edit.specs.Marks.{full_count, full_row, walked_count, tally_in, tally_row, note_in, note_row, CanTake, AllCanTake, Walked, AllWalked, TellMarks}
use Rattle.md_cotree_edit.proofs.Trees.LocalCounts.{cond_no, cond_yes, not_at}
use Rattle.md_cotree_edit.proofs.Trees.SameRows.{in_order}
use Rattle.md_cotree_edit.proofs.Trees.KeptTrees.{kept_once, kind_is}

-- ---- subtrees

abbrev mutual
  -- s is the tree, or stands in it
  pub Sub : PlaceTree → PlaceTree → Type 0
  Sub s (tip p v) = tip p v ≡ s
  Sub s (inner p k ts) = (inner p k ts ≡ s) ⊎ SubRow s ts

  pub SubRow : PlaceTree → PlaceTrees → Type 0
  SubRow s no_more = ⊥
  SubRow s (then t ts) = Sub s t ⊎ SubRow s ts

pub sub_refl : (t : PlaceTree) → Sub t t
sub_refl (tip p v) = refl
sub_refl (inner p k ts) = inl refl

mutual
  pub times_sub : (p : ℕ) (s t : PlaceTree) → Sub s t → times_in p s ≤ times_in p t
  times_sub p s (tip q v) e = subst (λ z. times_in p z ≤ times_in p (tip q v)) e (omega arith)
  times_sub p s (inner q k ts) (inl e) = subst (λ z. times_in p z ≤ times_in p (inner q k ts)) e (omega arith)
  times_sub p s (inner q k ts) (inr sub) = let low = times_sub_row p s ts sub in omega arith

  pub times_sub_row : (p : ℕ) (s : PlaceTree) (ts : PlaceTrees) → SubRow s ts → times_in p s ≤ times_among p ts
  times_sub_row p s no_more sub = absurd sub
  times_sub_row p s (then t ts) (inl sub) = let low = times_sub p s t sub in omega arith
  times_sub_row p s (then t ts) (inr sub) = let low = times_sub_row p s ts sub in omega arith

mutual
  pub sub_trans : (r s t : PlaceTree) → Sub r s → Sub s t → Sub r t
  sub_trans r s (tip p v) low e = subst (Sub r) (sym e) low
  sub_trans r s (inner p k ts) low (inl e) = subst (Sub r) (sym e) low
  sub_trans r s (inner p k ts) low (inr sub) = inr (sub_trans_row r s ts low sub)

  sub_trans_row : (r s : PlaceTree) (ts : PlaceTrees) → Sub r s → SubRow s ts → SubRow r ts
  sub_trans_row r s no_more low sub = absurd sub
  sub_trans_row r s (then t ts) low (inl sub) = inl (sub_trans r s t low sub)
  sub_trans_row r s (then t ts) low (inr sub) = inr (sub_trans_row r s ts low sub)

pub sub_plug : (s : PlaceTree) (fs : List Frame) (t : PlaceTree) → Sub s t → Sub s (plug fs t)
sub_plug s [] t sub = sub
sub_plug s (f ∷ fs) t sub = sub_plug s fs (fill f t) (inr (inl sub))

mutual
  pub alternates_sub : (s t : PlaceTree) → Sub s t → Alternates t → Alternates s
  alternates_sub s (tip q v) e is = subst Alternates e is
  alternates_sub s (inner q k ts) (inl e) is = subst Alternates e is
  alternates_sub s (inner q k ts) (inr sub) is = alternates_sub_row s ts sub is.2

  alternates_sub_row : (s : PlaceTree) (ts : PlaceTrees) → SubRow s ts → AllAlternate ts → Alternates s
  alternates_sub_row s no_more sub is = absurd sub
  alternates_sub_row s (then t ts) (inl sub) is = alternates_sub s t sub is.0
  alternates_sub_row s (then t ts) (inr sub) is = alternates_sub_row s ts sub is.1

mutual
  pub take_sub : (m : ℕ → ℕ) (s t : PlaceTree) → Sub s t → CanTake m t → CanTake m s
  take_sub m s (tip q v) e is = subst (CanTake m) e is
  take_sub m s (inner q k ts) (inl e) is = subst (CanTake m) e is
  take_sub m s (inner q k ts) (inr sub) is = take_sub_row m s ts sub is.2

  take_sub_row : (m : ℕ → ℕ) (s : PlaceTree) (ts : PlaceTrees) → SubRow s ts → AllCanTake m ts → CanTake m s
  take_sub_row m s no_more sub is = absurd sub
  take_sub_row m s (then t ts) (inl sub) is = take_sub m s t sub is.0
  take_sub_row m s (then t ts) (inr sub) is = take_sub_row m s ts sub is.1

mutual
  pub walked_sub : (m w : ℕ → ℕ) (s t : PlaceTree) → Sub s t → Walked m w t → Walked m w s
  walked_sub m w s (tip q v) e is = subst (Walked m w) e is
  walked_sub m w s (inner q k ts) (inl e) is = subst (Walked m w) e is
  walked_sub m w s (inner q k ts) (inr sub) is = walked_sub_row m w s ts sub is.2

  walked_sub_row : (m w : ℕ → ℕ) (s : PlaceTree) (ts : PlaceTrees) → SubRow s ts → AllWalked m w ts → Walked m w s
  walked_sub_row m w s no_more sub is = absurd sub
  walked_sub_row m w s (then t ts) (inl sub) is = walked_sub m w s t sub is.0
  walked_sub_row m w s (then t ts) (inr sub) is = walked_sub_row m w s ts sub is.1

-- ---- what is counted at a place

abbrev mutual
  -- a number of a leaf by its name, or of a node by its kind and its row, at a place where it stands once; 0 where it doesn't
  pub at_in : (ℕ → ℕ) → (Bool → PlaceTrees → ℕ) → ℕ → PlaceTree → ℕ
  at_in h g q (tip p v) = cond (p == q) (h v) 0
  at_in h g q (inner p k ts) = cond (p == q) (g k ts) 0 + at_row h g q ts

  pub at_row : (ℕ → ℕ) → (Bool → PlaceTrees → ℕ) → ℕ → PlaceTrees → ℕ
  at_row h g q no_more = 0
  at_row h g q (then t ts) = at_in h g q t + at_row h g q ts

module _ (h : ℕ → ℕ) (g : Bool → PlaceTrees → ℕ) (q : ℕ) where
  mutual
    pub at_none : (t : PlaceTree) → times_in q t ≡ 0 → at_in h g q t ≡ 0
    at_none (tip p v) none = cond_no p q (h v) (not_at p q none)
    at_none (inner p k ts) none =
        let here = cond_no p q (g k ts) (not_at p q (omega arith)) in
        let rest = ats_none ts (omega arith) in
        omega arith

    pub ats_none : (ts : PlaceTrees) → times_among q ts ≡ 0 → at_row h g q ts ≡ 0
    ats_none no_more none = refl
    ats_none (then t ts) none = let first = at_none t (omega arith) in let rest = ats_none ts (omega arith) in omega arith

  mutual
    pub at_sub : (s t : PlaceTree) → Sub s t → times_in q t ≤ 1 → 0 < times_in q s → at_in h g q t ≡ at_in h g q s
    at_sub s (tip p v) e one some = ap (at_in h g q) e
    at_sub s (inner p k ts) (inl e) one some = ap (at_in h g q) e
    at_sub s (inner p k ts) (inr sub) one some =
        let low = times_sub_row q s ts sub in
        let here = cond_no p q (g k ts) (not_at p q (omega arith)) in
        let rest = at_sub_row s ts sub (omega arith) some in
        omega arith

    at_sub_row : (s : PlaceTree) (ts : PlaceTrees) → SubRow s ts → times_among q ts ≤ 1 → 0 < times_in q s → at_row h g q ts ≡ at_in h g q s
    at_sub_row s no_more sub one some = absurd sub
    at_sub_row s (then t ts) (inl sub) one some =
        let low = times_sub q s t sub in
        let first = at_sub s t sub (omega arith) some in
        let none = ats_none ts (omega arith) in
        omega arith
    at_sub_row s (then t ts) (inr sub) one some =
        let low = times_sub_row q s ts sub in
        let rest = at_sub_row s ts sub (omega arith) some in
        let none = at_none t (omega arith) in
        omega arith

  pub at_node : (k : Bool) (us : PlaceTrees) (t : PlaceTree) → Sub (inner q k us) t → times_in q t ≤ 1 → at_in h g q t ≡ g k us
  at_node k us t sub one =
      let here = hit q q refl in
      let low = times_sub q (inner q k us) t sub in
      let up = at_sub (inner q k us) t sub one (omega arith) in
      let root = cond_yes q q (g k us) refl in
      let none = ats_none us (omega arith) in
      omega arith

  pub at_tip : (v : ℕ) (t : PlaceTree) → Sub (tip q v) t → times_in q t ≤ 1 → at_in h g q t ≡ h v
  at_tip v t sub one =
      let here = hit q q refl in
      let up = at_sub (tip q v) t sub one (omega arith) in
      let root = cond_yes q q (h v) refl in
      omega arith

-- ---- tallies, notes, children and kinds are such counts

pub nothing : (b : Bool) → ◌≡◌ {A = ℕ} 0 (cond b 0 0)
nothing true = refl
nothing false = refl

module _ (m w : ℕ → ℕ) (q : ℕ) where
  mutual
    tally_is : (t : PlaceTree) → tally_in m q t ≡ at_in (λ v. 0) (λ k ts. full_count m ts) q t
    tally_is (tip p v) = nothing (p == q)
    tally_is (inner p k ts) = λ i. cond (p == q) (full_count m ts) 0 + tallies_are ts i

    tallies_are : (ts : PlaceTrees) → tally_row m q ts ≡ at_row (λ v. 0) (λ k us. full_count m us) q ts
    tallies_are no_more = refl
    tallies_are (then t ts) = λ i. tally_is t i + tallies_are ts i

  mutual
    note_is : (t : PlaceTree) → note_in m w q t ≡ at_in m (λ k ts. full_row m ts + 2 * walked_count m w ts) q t
    note_is (tip p v) = refl
    note_is (inner p k ts) = λ i. cond (p == q) (full_row m ts + 2 * walked_count m w ts) 0 + notes_are ts i

    notes_are : (ts : PlaceTrees) → note_row m w q ts ≡ at_row m (λ k us. full_row m us + 2 * walked_count m w us) q ts
    notes_are no_more = refl
    notes_are (then t ts) = λ i. note_is t i + notes_are ts i

module _ (q c : ℕ) where
  mutual
    child_is : (t : PlaceTree) → child_in q c t ≡ at_in (λ v. 0) (λ k ts. times c (roots ts)) q t
    child_is (tip p v) = nothing (p == q)
    child_is (inner p k ts) = λ i. cond (p == q) (times c (roots ts)) 0 + children_are ts i

    children_are : (ts : PlaceTrees) → child_row q c ts ≡ at_row (λ v. 0) (λ k us. times c (roots us)) q ts
    children_are no_more = refl
    children_are (then t ts) = λ i. child_is t i + children_are ts i

module _ (q : ℕ) where
  mutual
    kind_of_place : (t : PlaceTree) → kind_in q t ≡ at_in (λ v. kind_code (Some (Leaf v))) (λ k ts. kind_code (Some (place_kind k))) q t
    kind_of_place (tip p v) = refl
    kind_of_place (inner p k ts) = λ i. cond (p == q) (kind_code (Some (place_kind k))) 0 + kinds_of_places ts i

    kinds_of_places : (ts : PlaceTrees) → kind_row q ts ≡ at_row (λ v. kind_code (Some (Leaf v))) (λ k us. kind_code (Some (place_kind k))) q ts
    kinds_of_places no_more = refl
    kinds_of_places (then t ts) = λ i. kind_of_place t i + kinds_of_places ts i

-- a parent has a row
mutual
  pub find_row : (q c : ℕ) (t : PlaceTree) → 0 < child_in q c t → (k : Bool) × (us : PlaceTrees) × Sub (inner q k us) t
  find_row q c (tip p v) some = absurd (omega arith)
  find_row q c (inner p k ts) some =
      elim (cases_eq p q) [
        | inl same ↦ (k, ts, inl (λ i. inner (same i) k ts))
        | inr other ↦
            let here = cond_no p q (times c (roots ts)) other in
            let rest = find_rows q c ts (omega arith) in
            (rest.0, rest.1, inr rest.2)
      ]

  find_rows : (q c : ℕ) (ts : PlaceTrees) → 0 < child_row q c ts → (k : Bool) × (us : PlaceTrees) × SubRow (inner q k us) ts
  find_rows q c no_more some = absurd (omega arith)
  find_rows q c (then t ts) some =
      elim (cases_lt 0 (child_in q c t)) [
        | inl here ↦ let first = find_row q c t here in (first.0, first.1, inl first.2)
        | inr none ↦ let rest = find_rows q c ts (omega arith) in (rest.0, rest.1, inr rest.2)
      ]

-- ---- what the lists say of a node of the tree that they keep

module _ (l : Links) (t : PlaceTree) (kept : AreTreesKept l (then t no_more)) where
  pub kept_one : (p : ℕ) → times_in p t ≤ 1
  kept_one p = let e = kept_once l (then t no_more) kept p in omega arith

  pub node_child : (q : ℕ) (k : Bool) (us : PlaceTrees) → Sub (inner q k us) t → (c : ℕ) → times c (roots us) ≡ holds_once (parent_at l c) q
  node_child q k us sub c =
      let e = kept.links q c in
      let f = child_is q c t in
      let at = at_node (λ v. 0) (λ j ts. times c (roots ts)) q k us t sub (kept_one q) in
      omega arith

  pub node_kind : (q : ℕ) (k : Bool) (us : PlaceTrees) → Sub (inner q k us) t → kind_at l q ≡ Some (place_kind k)
  node_kind q k us sub =
      let e = kept.kinds q in
      let f = kind_of_place q t in
      let at : at_in (λ v. kind_code (Some (Leaf v))) (λ j ts. kind_code (Some (place_kind j))) q t ≡ kind_code (Some (place_kind k)) =
      at_node (λ v. kind_code (Some (Leaf v))) (λ j ts. kind_code (Some (place_kind j))) q k us t sub (kept_one q) in
      kind_is (kind_at l q) (place_kind k) (kinds_join _ _ _ _ e f at)
    where
      kinds_join : (a b n o : ℕ) → a + 0 ≡ o → a ≡ b → b ≡ n → n ≡ o
      kinds_join a b n o e f g = omega arith

  pub node_length : AreLinks l → (q : ℕ) (k : Bool) (us : PlaceTrees) → Sub (inner q k us) t → length (children_at l q) ≡ row_length us
  node_length ok q k us sub =
      let order = in_order (children_at l q) us (λ c. node_child q k us sub c ∙ sym (ok.agree q c)) in
      ap length (sym order.at) ∙ length_roots order.row ∙ order.same.long

  pub find_parent : (q c : ℕ) → parent_at l c ≡ Some q → (k : Bool) × (us : PlaceTrees) × Sub (inner q k us) t
  find_parent q c is =
      find_row q c t (let e = kept.links q c in let f = ap (λ o. holds_once o q) is in let one = holds-once-same q in omega arith)

  module _ (m w : ℕ → ℕ) (told : TellMarks l m w t) where
    pub node_tally : (q : ℕ) (k : Bool) (us : PlaceTrees) → Sub (inner q k us) t → tally_at l q ≡ full_count m us
    node_tally q k us sub = told.tallies q ∙ tally_is m w q t ∙ at_node (λ v. 0) (λ j ts. full_count m ts) q k us t sub (kept_one q)

    pub node_note : (q : ℕ) (k : Bool) (us : PlaceTrees) → Sub (inner q k us) t → note_at l q ≡ full_row m us + 2 * walked_count m w us
    node_note q k us sub = told.notes q ∙ note_is m w q t ∙ at_node m (λ j ts. full_row m ts + 2 * walked_count m w ts) q k us t sub (kept_one q)

    pub tip_tally : (q v : ℕ) → Sub (tip q v) t → tally_at l q ≡ 0
    tip_tally q v sub = told.tallies q ∙ tally_is m w q t ∙ at_tip (λ x. 0) (λ j ts. full_count m ts) q v t sub (kept_one q)

    pub tip_note : (q v : ℕ) → Sub (tip q v) t → note_at l q ≡ m v
    tip_note q v sub = told.notes q ∙ note_is m w q t ∙ at_tip m (λ j ts. full_row m ts + 2 * walked_count m w ts) q v t sub (kept_one q)
