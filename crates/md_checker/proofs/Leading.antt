-- Lists of arcs that lead from an arc to its reverse, from the front on.
use Rattle.std.proofs.Common.{◌≡◌, ◌≢◌, ◌⊎◌, ◌↔◌, ℕ, ◌+◌, ◌-◌, ◌<◌, Bool, IsTrue, true, false, ◌&&◌, ◌==◌, List, [], ◌∷◌, ◌++◌, take, drop, length, get_or, slice_get, Some, refl, sym, ◌∙◌, ap, subst, inl, inr, arith}
use Rattle.std.proofs.lemmas.List.{take_more, take_all, length-drop}
use Rattle.std.proofs.lemmas.Bool.{ne_eqb, eq-eqb, eqb-true, and_parts, and_from}
use Rattle.std.specs.FinSet.{empty, contains}
use Rattle.md_graph.specs.PlainGraph.{PlainGraph, IsGraph, adjacent, complement}
use Rattle.md_graph.proofs.GraphLemmas.{adjacent_self, IsGraph-complement, adjacent-complement}
use Rattle.md_graph.specs.Sets.{NameSet}
use Rattle.md_graph.specs.Rows.{row_of}
use Rattle.md_graph.proofs.SetLemmas.{clash, empty_if}
use Rattle.md_forcing.specs.declared.arc.Arc.{Arc}
use Rattle.md_forcing.specs.Lists.{Holds, NoRepeats}
use Rattle.md_forcing.specs.Forcing.{arc, reverse, IsArc, ForcesDirectly, Leads, Reaches, IsListToReverse}
use Rattle.md_forcing.specs.ArcSet.{HasArc}
use Rattle.md_forcing.proofs.ListLemmas.{holds_left, holds_right, of_append, once_push, same_some}
use Rattle.md_comparability.specs.Chains.{IsForcingChain, HasForcingChain}
use Rattle.md_comparability.specs.Walking.{IsStopped, IsWholeOrientation}
use Rattle.md_comparability.proofs.Cutting.{list_to_reverse, list_reaches}
use Rattle.md_comparability.proofs.Least.{precedes_or_same}
use Rattle.md_checker.proofs.Ordering.{split_at, twice, agreed}

same_rest : (x y : Arc) (xs ys : List Arc) → x ∷ xs ≡ y ∷ ys → xs ≡ ys
same_rest x y xs ys e = cc

same_first : (x y : Arc) (xs ys : List Arc) → x ∷ xs ≡ y ∷ ys → x ≡ y
same_first x y xs ys e = cc

pub arc_test : (a b : Arc) (r : Bool) → r ≡ ((a.tail == b.tail) && (a.head == b.head)) → IsTrue r ↔ (a ≡ b)
arc_test a b r is = (
  λ t. let parts = and_parts (a.tail == b.tail) (a.head == b.head) (sym is ∙ t) in λ i. record { tail = eqb-true a.tail b.tail parts.0 i; head = eqb-true a.head b.head parts.1 i },
  λ same. is ∙ and_from _ _ (eq-eqb a.tail b.tail (ap (λ x. x.tail) same)) (eq-eqb a.head b.head (ap (λ x. x.head) same)),
)

pub begins : (list : List Arc) (first d : Arc) (r : Bool) → (length list == 0) ≡ false → IsTrue r ↔ (get_or list 0 d ≡ first) → IsTrue r ↔ ((rest : List Arc) × (list ≡ first ∷ rest))
begins [] first d r some is = absurd (clash refl some)
begins (x ∷ xs) first d r some is =
    (λ t. (xs, ap (λ a. a ∷ xs) (is.0 t)), λ p. is.1 (same_first x first xs p.0 p.1))

module _ (e : ℕ → ℕ → Bool) where
  leads_front : (l s : List Arc) (a last c b : Arc) → Leads e a l last → Leads e a (l ++ c ∷ s) b → IsArc e c × ForcesDirectly e last c
  leads_front [] s a last c b same leads = (leads.0, subst (λ x. ForcesDirectly e x c) same leads.1)
  leads_front (d ∷ l) s a last c b x y = leads_front l s d last c b x.2 y.2

  leads_push : (l : List Arc) (a last c : Arc) → Leads e a l last → IsArc e c → ForcesDirectly e last c → Leads e a (l ++ c ∷ []) c
  leads_push [] a last c same is f = (is, subst (λ x. ForcesDirectly e x c) (sym same) f, refl)
  leads_push (d ∷ l) a last c leads is f = (leads.0, leads.1, leads_push l d last c leads.2 is f)

  leads_same : (l : List Arc) (a b c : Arc) → Leads e a l b → Leads e a l c → b ≡ c
  leads_same [] a b c x y = sym x ∙ y
  leads_same (d ∷ l) a b c x y = leads_same l d b c x.2 y.2

  -- the first arc and the front lead to the last one, without repeats, and these are seen
  pub record IsLed (first last : Arc) (seen : List NameSet) (front : List Arc) : Type 0 where
    pub leads : Leads e first front last
    pub once : NoRepeats (first ∷ front)
    pub known : (a : Arc) → HasArc seen a ↔ Holds (first ∷ front) a

  pub led_start : (first : Arc) (none seen : List NameSet) → ((v : ℕ) → row_of none v ≡ empty) → ((a : Arc) → HasArc seen a ↔ (HasArc none a ⊎ (a ≡ first))) → IsLed first first seen []
  led_start first none seen empties taken = record {
    leads = refl;
    once = (λ h. h, tt);
    known = λ a. (
      λ h. elim ((taken a).0 h) [ inl old ↦ clash old (empty_if _ (empties a.tail) a.head) | inr same ↦ inl same ],
      λ h. elim h [ inl same ↦ (taken a).1 (inr same) | inr none_there ↦ absurd none_there ],
    );
  }

  module _ (first last : Arc) (seen : List NameSet) (rest : List Arc) (i : ℕ) (below : i < length rest) (next d : Arc) (read : next ≡ get_or rest i d) where
    pushed : take (i + 1) rest ≡ take i rest ++ next ∷ []
    pushed = take_more rest i d below ∙ ap (λ x. take i rest ++ x ∷ []) (sym read)

    split : take i rest ++ next ∷ drop (i + 1) rest ≡ rest
    split = ap (λ x. take i rest ++ x ∷ drop (i + 1) rest) read ∙ split_at rest i d below

    pub led_more : (new : List NameSet) → IsLed first last seen (take i rest) → IsArc e next → ForcesDirectly e last next → (HasArc seen next → ⊥) → ((a : Arc) → HasArc new a ↔ (HasArc seen a ⊎ (a ≡ next))) → IsLed first next new (take (i + 1) rest)
    led_more new led is forces unseen taken = subst (IsLed first next new) (sym pushed) (record {
      leads = leads_push (take i rest) first last next led.leads is forces;
      once = once_push (first ∷ take i rest) next led.once (λ h. unseen ((led.known next).1 h));
      known = λ a. (
        λ h. elim ((taken a).0 h) [
          | inl old ↦ holds_left (first ∷ take i rest) (next ∷ []) a ((led.known a).0 old)
          | inr same ↦ holds_right (first ∷ take i rest) (next ∷ []) a (inl same)
        ],
        λ h. elim (of_append (first ∷ take i rest) (next ∷ []) a h) [
          | inl old ↦ (taken a).1 (inl ((led.known a).1 old))
          | inr new_one ↦ elim new_one [ inl same ↦ (taken a).1 (inr same) | inr none_there ↦ absurd none_there ]
        ],
      );
    })

    pub led_astray : IsLed first last seen (take i rest) → (IsArc e next × ForcesDirectly e last next → ⊥) → IsListToReverse e first (first ∷ rest) → ⊥
    led_astray led not_forced list =
        not_forced (leads_front (take i rest) (drop (i + 1) rest) first last next (reverse first) led.leads
        (subst (λ r. Leads e first r (reverse first)) (sym (same_rest _ _ _ _ list.begins) ∙ sym split) list.leads))

    pub led_again : IsLed first last seen (take i rest) → HasArc seen next → IsListToReverse e first (first ∷ rest) → ⊥
    led_again led known list =
        twice (first ∷ take i rest) (drop (i + 1) rest) next (subst (λ r. NoRepeats (first ∷ r)) (sym split) list.no_repeats) ((led.known next).0 known)

  pub led_end : (first last : Arc) (seen : List NameSet) (rest : List Arc) → IsArc e first → IsLed first last seen rest → (last ≡ reverse first) ↔ IsListToReverse e first (first ∷ rest)
  led_end first last seen rest is led = (
    λ same. record { rest = rest; begins = refl; starts = is; leads = subst (Leads e first rest) same led.leads; no_repeats = led.once },
    λ list. leads_same rest first last (reverse first) led.leads (subst (λ r. Leads e first r (reverse first)) (sym (same_rest _ _ _ _ list.begins)) list.leads),
  )

-- ---- the least edge

module _ (e : ℕ → ℕ → Bool) (class : List (Arc × ℕ)) (stopped : IsStopped e class) where
  pub first_is : (first : Arc) (place : ℕ) → slice_get class 0 ≡ Some (first, place) → first ≡ arc stopped.u stopped.v
  first_is first place stands = ap (λ p. p.0) (same_some _ _ (sym stands ∙ stopped.is.begins))

  turns : Reaches e (arc stopped.u stopped.v) (arc stopped.v stopped.u)
  turns = (stopped.is.reached (arc stopped.v stopped.u)).0 stopped.turns

  pub first_arc : (first : Arc) → first ≡ arc stopped.u stopped.v → IsArc e first
  first_arc first is = subst (IsArc e) (sym is) turns.0

  pub chain_from : (chain : List Arc) → IsListToReverse e (arc stopped.u stopped.v) chain ↔ IsForcingChain e chain
  chain_from chain = (
    λ list. record {
      u = stopped.u;
      v = stopped.v;
      ascending = stopped.ascending;
      turns = list;
      least = λ x y other up l. stopped.least x y up (list_reaches e (arc x y) other l);
    },
    λ is. let here = list_to_reverse e (arc stopped.u stopped.v) turns in
        elim (precedes_or_same is.u is.v stopped.u stopped.v) [
          | inl less ↦ absurd (stopped.least is.u is.v is.ascending (list_reaches e (arc is.u is.v) chain is.turns) less)
          | inr other ↦ elim other [
            | inl more ↦ absurd (is.least stopped.u stopped.v here.0 stopped.ascending here.1 more)
            | inr same ↦ subst (λ a. IsListToReverse e a chain) (λ i. arc (same.0 i) (same.1 i)) is.turns
          ]
        ],
  )

  -- such a class has a chain
  pub stopped_has_one : HasForcingChain e
  stopped_has_one =
      let l = list_to_reverse e (arc stopped.u stopped.v) turns in (l.0, (chain_from l.0).0 l.1)

  module _ (chain list : List Arc) (first : Arc) (list_is : list ≡ chain) (first_is_least : first ≡ arc stopped.u stopped.v) where
    pub not_begun : ((rest : List Arc) × (list ≡ first ∷ rest) → ⊥) → IsForcingChain e chain → ⊥
    not_begun none is =
        let l = (chain_from chain).1 is in
        none (l.rest, list_is ∙ l.begins ∙ ap (λ a. a ∷ l.rest) (sym first_is_least))

    pub judged : {b : Bool} → (rest : List Arc) × (list ≡ first ∷ rest) → IsTrue b ↔ IsListToReverse e first (first ∷ take (length list - 1) (drop 1 list)) → IsTrue b ↔ IsForcingChain e chain
    judged begun is =
        let size = length-drop 1 list in
        let tail = take_all (length list - 1) (drop 1 list) (omega arith) in
        let whole : first ∷ take (length list - 1) (drop 1 list) ≡ chain = ap (λ l. first ∷ l) tail ∙ ap (λ l. first ∷ drop 1 l) begun.1 ∙ sym begun.1 ∙ list_is in
        agreed is (subst (λ l. IsListToReverse e first l ↔ IsForcingChain e chain) (sym whole)
        (subst (λ a. IsListToReverse e a chain ↔ IsForcingChain e chain) (sym first_is_least) (chain_from chain)))

pub whole_has_none : (e : ℕ → ℕ → Bool) (chosen : List NameSet) → IsWholeOrientation e chosen → (chain : List Arc) → IsForcingChain e chain → ⊥
whole_has_none e chosen whole chain is = whole.free (arc is.u is.v) (list_reaches e (arc is.u is.v) chain is.turns)

-- ---- the complement

module _ {g : PlainGraph} (is : IsGraph g) (u v : ℕ) where
  pub apart_self : u ≡ v → false ≡ adjacent (complement g) u v
  apart_self same =
      subst (λ k. false ≡ adjacent (complement g) u k) same (sym (adjacent_self (IsGraph-complement is) u))

  pub apart_edge : u ≢ v → adjacent g u v ≡ true → false ≡ adjacent (complement g) u v
  apart_edge differ edge = sym (adjacent-complement is u v ∙ rw (ne_eqb u v differ, edge) (bits (contains g.vertices u) (contains g.vertices v)))
    where
      bits : (x y : Bool) → ((x && y) && (true && false)) ≡ false
      bits true true = refl
      bits true false = refl
      bits false y = refl

  pub apart_both : u ≢ v → adjacent g u v ≡ false → contains g.vertices u ≡ true → (r : Bool) → r ≡ contains g.vertices v → r ≡ adjacent (complement g) u v
  apart_both differ edge here r is_r =
      is_r ∙ sym (adjacent-complement is u v ∙ rw (ne_eqb u v differ, edge, here) (bits (contains g.vertices v)))
    where
      bits : (y : Bool) → ((true && y) && (true && true)) ≡ y
      bits true = refl
      bits false = refl

  pub apart_none : u ≢ v → contains g.vertices u ≡ false → false ≡ adjacent (complement g) u v
  apart_none differ none = sym (adjacent-complement is u v ∙ rw none refl)
