-- Trees that stand in the lists are kept there, and trees that are kept stand there with their children in some order.
use Rattle.std.proofs.Common.{◌≡◌, ℕ, ◌+◌, ◌<◌, ◌≤◌, Bool, true, cond, ◌==◌, List, [], ◌∷◌, Option, Some, None, is_some, refl, sym, ◌∙◌, ap, inl, inr, arith}
use Rattle.std.proofs.lemmas.Bool.{cases_eq, cases_lt}
use Rattle.md_lists.specs.declared.kinds.PlaceKind.{PlaceKind}
use Rattle.md_lists.specs.declared.kinds.PlaceKind.TheVariants.{Leaf, Parallel, Series}
use Rattle.md_lists.specs.Words.{holds_once}
use Rattle.md_graph.specs.Linked.{times}
use Rattle.md_lists.specs.Links.{Links, kind_at, parent_at, children_at, IsLive, AreLinks}
use Rattle.md_lists.proofs.LinkLaws.{not_alive, holds-once-same, child_parent}
use Rattle.md_cotree.specs.PlaceTrees.{PlaceTree, tip, inner, PlaceTrees, no_more, then, place_of, roots, place_kind, times_in, times_among, Stands, StandsBelow, FillsLists}
use Rattle.md_cotree.proofs.Frames.{hit, miss, root_in}
use Rattle.md_cotree_edit.specs.Counts.{kind_code, kind_in, kind_row, child_in, child_row}
use Rattle.md_cotree_edit.specs.Contexts.{AreTreesKept}
use Rattle.md_cotree_edit.proofs.Trees.SameRows.{SameRow, SameTree, same_refl, same_trans, same_rest, same_first, same_inner, in_order}
use Rattle.md_cotree_edit.proofs.Trees.LocalCounts.{cond_no, cond_yes, sum_no, sum_yes, not_at, child_none, children_none, kind_none, kinds_none, child_low, children_low}

-- the order of children doesn't count
pub kept_along : (l : Links) (ts us : PlaceTrees) → SameRow ts us → AreTreesKept l ts → AreTreesKept l us
kept_along l ts us same kept = record {
  each = λ p. same.places p ∙ kept.each p;
  kinds = λ p. same.kinds p ∙ kept.kinds p;
  links = λ p c. same.links p c ∙ kept.links p c;
}

-- ---- kinds by their numbers

pub kind_is : (o : Option PlaceKind) (k : PlaceKind) → kind_code (Some k) ≡ kind_code o → o ≡ Some k
kind_is None Parallel e = absurd (omega arith)
kind_is None Series e = absurd (omega arith)
kind_is None (Leaf v) e = absurd (omega arith)
kind_is (Some Parallel) Parallel e = refl
kind_is (Some Parallel) Series e = absurd (omega arith)
kind_is (Some Parallel) (Leaf v) e = absurd (omega arith)
kind_is (Some Series) Parallel e = absurd (omega arith)
kind_is (Some Series) Series e = refl
kind_is (Some Series) (Leaf v) e = absurd (omega arith)
kind_is (Some (Leaf w)) Parallel e = absurd (omega arith)
kind_is (Some (Leaf w)) Series e = absurd (omega arith)
kind_is (Some (Leaf w)) (Leaf v) e = let same : w ≡ v = omega arith in ap (λ z. Some (Leaf z)) same

one_alive : (o : Option PlaceKind) (n : ℕ) → n ≡ cond (is_some o) 1 0 → n ≤ 1
one_alive None n e = omega arith
one_alive (Some k) n e = omega arith

pub kept_once : (l : Links) (ts : PlaceTrees) → AreTreesKept l ts → (p : ℕ) → times_among p ts ≤ 1
kept_once l ts kept p = one_alive (kind_at l p) (times_among p ts) (kept.each p)

some_alive : (o : Option PlaceKind) → 0 < cond (is_some o) 1 0 → is_some o ≡ true
some_alive None e = absurd (omega arith)
some_alive (Some k) e = refl

pub kept_live : (l : Links) (ts : PlaceTrees) → AreTreesKept l ts → (p : ℕ) → 0 < times_among p ts → IsLive l p
kept_live l ts kept p some = some_alive (kind_at l p) (let e = kept.each p in omega arith)

pub no_times : (xs : List ℕ) → ((c : ℕ) → times c xs ≡ 0) → xs ≡ []
no_times [] none = refl
no_times (x ∷ xs) none = absurd (let e = none x in let h = hit x x refl in omega arith)

-- one tree in place of another has its root at the same place
pub same_root : (t s : PlaceTree) → SameTree t s → place_of s ≡ place_of t
same_root t s a =
    elim (cases_eq (place_of s) (place_of t)) [
      | inl same ↦ same
      | inr other ↦ absurd (let e = a.roots_same (place_of t) in let h = hit (place_of t) (place_of t) refl in let m = miss (place_of s) (place_of t) other in omega arith)
    ]

pub no_parent : (o : Option ℕ) → ((p : ℕ) → holds_once o p ≡ 0) → o ≡ None
no_parent None none = refl
no_parent (Some q) none = absurd (let e = none q in let h = holds-once-same q in omega arith)

-- the first of kept trees has no parent
pub kept_loose : (l : Links) (t : PlaceTree) (ts : PlaceTrees) → AreTreesKept l (then t ts) → parent_at l (place_of t) ≡ None
kept_loose l t ts kept =
    no_parent (parent_at l (place_of t)) (λ p.
    let one = kept_once l (then t ts) kept (place_of t) in
    let h = hit (place_of t) (place_of t) refl in
    let low = child_low p (place_of t) t in
    let rest = children_low p (place_of t) ts in
    let e = kept.links p (place_of t) in
    omega arith)

-- the kind of the root of a tree
abbrev pub root_kind : PlaceTree → PlaceKind
root_kind (tip p v) = Leaf v
root_kind (inner p k ts) = place_kind k

root_code : (t : PlaceTree) → times_in (place_of t) t ≤ 1 → kind_in (place_of t) t ≡ kind_code (Some (root_kind t))
root_code (tip p v) one = cond_yes p p (kind_code (Some (Leaf v))) refl
root_code (inner p k ts) one =
    let h = hit p p refl in
    let here : cond (p == p) (kind_code (Some (place_kind k))) 0 ≡ kind_code (Some (place_kind k)) = cond_yes p p (kind_code (Some (place_kind k))) refl in
    let none : kind_row p ts ≡ 0 = kinds_none p ts (omega arith) in
    (λ i. here i + none i) ∙ omega arith

pub kept_kind : (l : Links) (t : PlaceTree) (ts : PlaceTrees) → AreTreesKept l (then t ts) → kind_at l (place_of t) ≡ Some (root_kind t)
kept_kind l t ts kept =
    let one = kept_once l (then t ts) kept (place_of t) in
    let root = root_in t in
    let here = root_code t (omega arith) in
    let none : kind_row (place_of t) ts ≡ 0 = kinds_none (place_of t) ts (omega arith) in
    let e = kept.kinds (place_of t) in
    kind_is (kind_at l (place_of t)) (root_kind t) (omega arith)

-- ---- from trees that stand

module _ (l : Links) where
  mutual
    child_stands : (t : PlaceTree) (p c : ℕ) → Stands l t → times_in p t ≤ 1 → 0 < times_in p t → child_in p c t ≡ times c (children_at l p)
    child_stands (tip q v) p c is one some =
        let same : q ≡ p = elim (cases_eq q p) [ inl e ↦ e | inr other ↦ absurd (let m = miss q p other in omega arith) ] in
        sym (ap (λ z. times c (children_at l z)) (sym same) ∙ ap (times c) is.1)
    child_stands (inner q k ts) p c is one some =
        elim (cases_eq q p) [
          | inl same ↦
              let h = hit q p same in
              let here = cond_yes q p (times c (roots ts)) same in
              let none = children_none p c ts (omega arith) in
              let at : times c (children_at l p) ≡ times c (roots ts) = ap (λ z. times c (children_at l z)) (sym same) ∙ ap (times c) is.1 in
              omega arith
          | inr other ↦
              let m = miss q p other in
              let here = cond_no q p (times c (roots ts)) other in
              let rest = children_stand ts q p c is.2 (omega arith) (omega arith) in
              omega arith
        ]

    children_stand : (ts : PlaceTrees) (r p c : ℕ) → StandsBelow l r ts → times_among p ts ≤ 1 → 0 < times_among p ts → child_row p c ts ≡ times c (children_at l p)
    children_stand no_more r p c is one some = absurd (omega arith)
    children_stand (then t ts) r p c is one some =
        elim (cases_lt 0 (times_in p t)) [
          | inl here ↦ let e = child_stands t p c is.1 (omega arith) here in let none = children_none p c ts (omega arith) in omega arith
          | inr not ↦ let e = children_stand ts r p c is.2 (omega arith) (omega arith) in let none = child_none p c t (omega arith) in omega arith
        ]

  mutual
    kind_stands : (t : PlaceTree) (p : ℕ) → Stands l t → times_in p t ≤ 1 → 0 < times_in p t → kind_in p t ≡ kind_code (kind_at l p)
    kind_stands (tip q v) p is one some =
        let same : q ≡ p = elim (cases_eq q p) [ inl e ↦ e | inr other ↦ absurd (let m = miss q p other in omega arith) ] in
        cond_yes q p _ same ∙ sym (ap (λ z. kind_code (kind_at l z)) (sym same) ∙ ap kind_code is.0)
    kind_stands (inner q k ts) p is one some =
        elim (cases_eq q p) [
          | inl same ↦
              let h = hit q p same in
              sum_yes _ _ _ _ (cond_yes q p (kind_code (Some (place_kind k))) same) (kinds_none p ts (omega arith)) (ap (λ z. kind_code (kind_at l z)) (sym same) ∙ ap kind_code is.0)
          | inr other ↦
              let m = miss q p other in
              sum_no _ _ _ (cond_no q p (kind_code (Some (place_kind k))) other) (kinds_stand ts q p is.2 (omega arith) (omega arith))
        ]

    kinds_stand : (ts : PlaceTrees) (r p : ℕ) → StandsBelow l r ts → times_among p ts ≤ 1 → 0 < times_among p ts → kind_row p ts ≡ kind_code (kind_at l p)
    kinds_stand no_more r p is one some = absurd (omega arith)
    kinds_stand (then t ts) r p is one some =
        elim (cases_lt 0 (times_in p t)) [
          | inl here ↦ let e = kind_stands t p is.1 (omega arith) here in let none = kinds_none p ts (omega arith) in omega arith
          | inr not ↦ let e = kinds_stand ts r p is.2 (omega arith) (omega arith) in let none = kind_none p t (omega arith) in omega arith
        ]

pub from_fits : (l : Links) (t : PlaceTree) → AreLinks l → FillsLists l (then t no_more) → AreTreesKept l (then t no_more)
from_fits l t ok fits = record {
  each = fits.each;
  kinds = λ p. elim (cases_lt 0 (times_in p t)) [
    | inl some ↦ let e = kind_stands l t p fits.stand.1 (let o = one_alive (kind_at l p) (times_in p t + 0) (fits.each p) in omega arith) some in omega arith
    | inr none ↦ let e = kind_none p t (omega arith) in let free = ap kind_code (gone p (omega arith)) in omega arith
  ];
  links = λ p c. elim (cases_lt 0 (times_in p t)) [
    | inl some ↦ let e = child_stands l t p c fits.stand.1 (let o = one_alive (kind_at l p) (times_in p t + 0) (fits.each p) in omega arith) some in let a = ok.agree p c in omega arith
    | inr none ↦
        let e = child_none p c t (omega arith) in
        let a = ok.agree p c in
        let bare = ap (times c) (ok.bare p (gone p (omega arith))).no_children in
        omega arith
  ];
}
  where
    gone : (p : ℕ) → times_in p t ≡ 0 → kind_at l p ≡ None
    gone p none = not_alive (kind_at l p) (let e = fits.each p in omega arith)

-- ---- to trees that stand

module _ (l : Links) (ok : AreLinks l) where
  -- a part of what is kept
  record IsPart (ts : PlaceTrees) : Type 0 where
    one : (p : ℕ) → times_among p ts ≤ 1
    kinds : (p : ℕ) → 0 < times_among p ts → kind_row p ts ≡ kind_code (kind_at l p)
    links : (p c : ℕ) → 0 < times_among p ts → child_row p c ts ≡ times c (children_at l p)

  part_first : (t : PlaceTree) (ts : PlaceTrees) → IsPart (then t ts) → IsPart (then t no_more)
  part_first t ts is = record {
    one = λ p. let o = is.one p in omega arith;
    kinds = λ p some. let o = is.one p in let k = is.kinds p (omega arith) in let none = kinds_none p ts (omega arith) in omega arith;
    links = λ p c some. let o = is.one p in let k = is.links p c (omega arith) in let none = children_none p c ts (omega arith) in omega arith;
  }

  part_rest : (t : PlaceTree) (ts : PlaceTrees) → IsPart (then t ts) → IsPart ts
  part_rest t ts is = record {
    one = λ p. let o = is.one p in omega arith;
    kinds = λ p some. let o = is.one p in let k = is.kinds p (omega arith) in let none = kind_none p t (omega arith) in omega arith;
    links = λ p c some. let o = is.one p in let k = is.links p c (omega arith) in let none = child_none p c t (omega arith) in omega arith;
  }

  sum_back : (a b m : ℕ) → (a + b) + 0 ≡ m → a ≡ 0 → b ≡ m
  sum_back a b m e f = omega arith

  part_below : (q : ℕ) (k : Bool) (ts : PlaceTrees) → IsPart (then (inner q k ts) no_more) → IsPart ts
  part_below q k ts is = record {
    one = λ p. let o = is.one p in omega arith;
    kinds = λ p some. let o = is.one p in sum_back _ _ _ (is.kinds p (omega arith)) (cond_no q p (kind_code (Some (place_kind k))) (not_at q p (omega arith)));
    links = λ p c some. let o = is.one p in sum_back _ _ _ (is.links p c (omega arith)) (cond_no q p (times c (roots ts)) (not_at q p (omega arith)));
  }

  part_root : (q : ℕ) (k : Bool) (ts : PlaceTrees) → IsPart (then (inner q k ts) no_more) → (kind_at l q ≡ Some (place_kind k)) × ((c : ℕ) → times c (roots ts) ≡ times c (children_at l q))
  part_root q k ts is =
      let h = hit q q refl in
      let o = is.one q in
      let none : times_among q ts ≡ 0 = omega arith in (
        kind_is (kind_at l q) (place_kind k) (sum_front _ _ _ _ (is.kinds q (omega arith)) (cond_yes q q (kind_code (Some (place_kind k))) refl) (kinds_none q ts none)),
        λ c. sum_front _ _ _ _ (is.links q c (omega arith)) (cond_yes q q (times c (roots ts)) refl) (children_none q c ts none),
      )
    where
      sum_front : (a b n m : ℕ) → (a + b) + 0 ≡ m → a ≡ n → b ≡ 0 → n ≡ m
      sum_front a b n m e f g = omega arith

  mutual
    stand_in : (t : PlaceTree) → IsPart (then t no_more) → (s : PlaceTree) × Stands l s × SameTree t s
    stand_in (tip p v) is =
        let h = hit p p refl in (
          tip p v,
          (
            kind_is (kind_at l p) (Leaf v) (one_kind _ _ _ (is.kinds p (omega arith)) (cond_yes p p (kind_code (Some (Leaf v))) refl)),
            no_times (children_at l p) (λ c. let e = is.links p c (omega arith) in omega arith),
          ),
          same_refl (then (tip p v) no_more),
        )
      where
        one_kind : (a n m : ℕ) → a + 0 ≡ m → a ≡ n → n ≡ m
        one_kind a n m e f = omega arith
    stand_in (inner q k ts) is =
        let root = part_root q k ts is in
        let low = stand_row ts q (part_below q k ts is) (λ c some. child_parent l ok q c (let e = root.1 c in omega arith)) in
        let order = in_order (children_at l q) low.0 (λ c. low.2.roots_same c ∙ root.1 c) in (
          inner q k order.row,
          (root.0, sym order.at, order.below l q low.1),
          same_trans (then (inner q k ts) no_more) (then (inner q k low.0) no_more) (then (inner q k order.row) no_more) (same_inner q k ts low.0 low.2) (same_inner q k low.0 order.row order.same),
        )

    stand_row : (ts : PlaceTrees) (q : ℕ) → IsPart ts → ((c : ℕ) → 0 < times c (roots ts) → parent_at l c ≡ Some q) → (us : PlaceTrees) × StandsBelow l q us × SameRow ts us
    stand_row no_more q is parent = (no_more, tt, same_refl no_more)
    stand_row (then t ts) q is parent =
        let first = stand_in t (part_first t ts is) in
        let rest = stand_row ts q (part_rest t ts is) (λ c some. parent c (omega arith)) in
        let h = hit (place_of t) (place_of t) refl in
        let up : parent_at l (place_of first.0) ≡ Some q = ap (parent_at l) (same_root t first.0 first.2) ∙ parent (place_of t) (omega arith) in (
          then first.0 rest.0,
          (up, first.1, rest.1),
          same_trans (then t ts) (then first.0 ts) (then first.0 rest.0) (same_first t first.0 ts first.2) (same_rest first.0 ts rest.0 rest.2),
        )

  pub to_fits : (t : PlaceTree) → AreTreesKept l (then t no_more) → (s : PlaceTree) × FillsLists l (then s no_more) × SameTree t s
  to_fits t kept =
      let stand = stand_in t (record {
        one = kept_once l (then t no_more) kept;
        kinds = λ p some. kept.kinds p;
        links = λ p c some. kept.links p c ∙ sym (ok.agree p c);
      }) in (
        stand.0,
        record {
          stand = (ap (parent_at l) (same_root t stand.0 stand.2) ∙ kept_loose l t no_more kept, stand.1, tt);
          each = λ p. stand.2.places p ∙ kept.each p;
        },
        stand.2,
      )
