-- Trees stay where they stand while other places change.
use Rattle.std.proofs.Common.{◌≡◌, ◌≢◌, ℕ, ◌+◌, ◌<◌, ◌≤◌, Bool, true, false, cond, ◌&&◌, ◌==◌, [], ◌∷◌, ◌++◌, Option, Some, None, is_some, refl, sym, ◌∙◌, ap, inl, inr, arith}
use Rattle.std.proofs.lemmas.Bool.{cases_eq, eq-eqb, ne_eqb, and_right}
use Rattle.md_lists.specs.declared.kinds.PlaceKind.{PlaceKind}
use Rattle.md_lists.specs.declared.TheConstants.{PLACES}
use Rattle.md_lists.specs.Links.{Links, kind_at, parent_at, children_at, alive, IsLive, AreLinks, with_kind, attached}
use Rattle.md_lists.proofs.LinkLaws.{attached_child, attached_other, attached_children, kind-with_kind}
use Rattle.md_cotree.specs.PlaceTrees.{PlaceTree, tip, inner, PlaceTrees, no_more, then, place_of, Stands, StandsBelow, StandLoose, times_in, times_among, FillsLists}
use Rattle.md_cotree.specs.Forests.{row_append}
use Rattle.md_cotree.proofs.Rows.{roots-joined, times-joined}

-- the places below the root of a tree
abbrev pub times_under : ℕ → PlaceTree → ℕ
times_under p (tip q v) = 0
times_under p (inner q k ts) = times_among p ts

pub under_in : (p : ℕ) (t : PlaceTree) → times_in p t ≡ cond (place_of t == p) 1 0 + times_under p t
under_in p (tip q v) = omega arith
under_in p (inner q k ts) = refl

pub hit : (q p : ℕ) → q ≡ p → ◌≡◌ {A = ℕ} (cond (q == p) 1 0) 1
hit q p same = rw (eq-eqb q p same) refl

pub miss : (q p : ℕ) → (q ≡ p → ⊥) → ◌≡◌ {A = ℕ} (cond (q == p) 1 0) 0
miss q p differ = rw (ne_eqb q p differ) refl

-- two tests, counted as one
pub some_of : (a b : Bool) → ◌<◌ 0 (cond (a && b) 1 0) → (a ≡ true) × (b ≡ true)
some_of true true some = (refl, refl)
some_of true false some = absurd (omega arith)
some_of false b some = absurd (omega arith)

pub test_both : (a b : Bool) → b ≡ true → ◌≡◌ {A = ℕ} (cond (a && b) 1 0) (cond a 1 0)
test_both true b e = ap (λ z. cond z 1 0) e
test_both false b e = refl

pub test_none : (a b : Bool) → b ≡ false → ◌≡◌ {A = ℕ} (cond (a && b) 1 0) 0
test_none a b e = ap (λ z. cond z 1 0) (and_right a b e)

pub root_in : (t : PlaceTree) → times_in (place_of t) t ≡ 1 + times_under (place_of t) t
root_in t = let e = under_in (place_of t) t in let h = hit (place_of t) (place_of t) refl in omega arith

module _ (l m : Links) where
  -- the place has the same kind and the same children
  record Same (p : ℕ) : Type 0 where
    kind : kind_at m p ≡ kind_at l p
    children : children_at m p ≡ children_at l p

  mutual
    still_in : (t : PlaceTree) → ((p : ℕ) → 0 < times_in p t → Same p) → ((p : ℕ) → 0 < times_under p t → parent_at m p ≡ parent_at l p) → Stands l t → Stands m t
    still_in (tip p v) same parent is =
        let at = same p (let e = root_in (tip p v) in omega arith) in
        (at.kind ∙ is.0, at.children ∙ is.1)
    still_in (inner p k ts) same parent is =
        let at = same p (let e = root_in (inner p k ts) in omega arith) in
        (at.kind ∙ is.0, at.children ∙ is.1, still_below p ts (λ q some. same q (let e = under_in q (inner p k ts) in omega arith)) parent is.2)

    still_below : (r : ℕ) (ts : PlaceTrees) → ((p : ℕ) → 0 < times_among p ts → Same p) → ((p : ℕ) → 0 < times_among p ts → parent_at m p ≡ parent_at l p) → StandsBelow l r ts → StandsBelow m r ts
    still_below r no_more same parent is = tt
    still_below r (then t ts) same parent is = (
      parent (place_of t) (let e = root_in t in omega arith) ∙ is.0,
      still_in t (λ q some. same q (omega arith)) (λ q some. parent q (let e = under_in q t in omega arith)) is.1,
      still_below r ts (λ q some. same q (omega arith)) (λ q some. parent q (omega arith)) is.2,
    )

  still_loose : (ts : PlaceTrees) → ((p : ℕ) → 0 < times_among p ts → Same p) → ((p : ℕ) → 0 < times_among p ts → parent_at m p ≡ parent_at l p) → StandLoose l ts → StandLoose m ts
  still_loose no_more same parent is = tt
  still_loose (then t ts) same parent is = (
    parent (place_of t) (let e = root_in t in omega arith) ∙ is.0,
    still_in t (λ q some. same q (omega arith)) (λ q some. parent q (let e = under_in q t in omega arith)) is.1,
    still_loose ts (λ q some. same q (omega arith)) (λ q some. parent q (omega arith)) is.2,
  )

-- ---- rows

below_both : (l : Links) (r : ℕ) (ts us : PlaceTrees) → StandsBelow l r ts → StandsBelow l r us → StandsBelow l r (row_append ts us)
below_both l r no_more us a b = b
below_both l r (then t ts) us a b = (a.0, a.1, below_both l r ts us a.2 b)

-- each place of the trees is live, and stands in them once
pub place_live : (l : Links) (ts : PlaceTrees) → FillsLists l ts → (p : ℕ) → 0 < times_among p ts → IsLive l p
place_live l ts fits p some = go (is_some (kind_at l p)) (fits.each p)
  where
    go : (b : Bool) → times_among p ts ≡ cond b 1 0 → b ≡ true
    go true e = refl
    go false e = absurd (omega arith)

pub place_once : (l : Links) (ts : PlaceTrees) → FillsLists l ts → (p : ℕ) → times_among p ts ≤ 1
place_once l ts fits p = go (is_some (kind_at l p)) (fits.each p)
  where
    go : (b : Bool) → times_among p ts ≡ cond b 1 0 → times_among p ts ≤ 1
    go true e = omega arith
    go false e = omega arith

-- ---- a place that was free

module _ (l : Links) (ok : AreLinks l) (p : ℕ) (free : kind_at l p ≡ None) (within : p < PLACES) where
  made_kind : (k : PlaceKind) (x : ℕ) → kind_at (with_kind l p (Some k)) x ≡ cond (x == p) (Some k) (kind_at l x)
  made_kind k x = kind-with_kind l ok p x (Some k) within

  -- a tree of one place more
  pub fits_made : (ts : PlaceTrees) (t : PlaceTree) (k : PlaceKind) → FillsLists l ts → place_of t ≡ p → ((q : ℕ) → times_under q t ≡ 0) →
      (kind_at (with_kind l p (Some k)) p ≡ Some k → children_at l p ≡ [] → Stands (with_kind l p (Some k)) t) → FillsLists (with_kind l p (Some k)) (then t ts)
  fits_made ts t k fits at alone stands = record {
    stand = (
      ap (parent_at l) at ∙ (ok.bare p free).no_parent,
      stands (made_kind k p ∙ ap (λ b. cond b (Some k) (kind_at l p)) (eq-eqb p p refl)) (ok.bare p free).no_children,
      still_loose l (with_kind l p (Some k)) ts
          (λ q some. record { kind = made_kind k q ∙ ap (λ b. cond b (Some k) (kind_at l q)) (ne_eqb q p (other q some)); children = refl })
          (λ q some. refl) fits.stand,
    );
    each = λ q. elim (cases_eq q p) [
      | inl same ↦ here q same
      | inr differ ↦ there q differ
    ];
  }
    where
      none : times_among p ts ≡ 0
      none = fits.each p ∙ ap (λ (o : Option PlaceKind). cond (is_some o) 1 0) free

      other : (q : ℕ) → 0 < times_among q ts → q ≡ p → ⊥
      other q some same = let e = ap (λ z. times_among z ts) same in let n = none in omega arith

      here : (q : ℕ) → q ≡ p → times_in q t + times_among q ts ≡ alive (with_kind l p (Some k)) q
      here q same =
          let one : times_in q t ≡ 1 = let e = under_in q t in let h = hit (place_of t) q (at ∙ sym same) in let a = alone q in omega arith in
          let rest : times_among q ts ≡ 0 = ap (λ z. times_among z ts) same ∙ none in
          let live : alive (with_kind l p (Some k)) q ≡ 1 = ap (λ (o : Option PlaceKind). cond (is_some o) 1 0) (made_kind k q ∙ ap (λ b. cond b (Some k) (kind_at l q)) (eq-eqb q p same)) in
          omega arith

      there : (q : ℕ) → (q ≡ p → ⊥) → times_in q t + times_among q ts ≡ alive (with_kind l p (Some k)) q
      there q differ =
          let one : times_in q t ≡ 0 = let e = under_in q t in let h = miss (place_of t) q (λ z. differ (sym z ∙ at)) in let a = alone q in omega arith in
          let rest = fits.each q in
          let live : alive (with_kind l p (Some k)) q ≡ alive l q = ap (λ (o : Option PlaceKind). cond (is_some o) 1 0) (made_kind k q ∙ ap (λ b. cond b (Some k) (kind_at l q)) (ne_eqb q p differ)) in
          omega arith

-- ---- a tree becomes the last child of another

module _ (l : Links) (ok : AreLinks l) (q : ℕ) (k : Bool) (done left : PlaceTrees) (t : PlaceTree) (fits : FillsLists l (then (inner q k done) (then t left))) where
  abbrev all : PlaceTrees
  all = then (inner q k done) (then t left)

  abbrev c : ℕ
  c = place_of t

  parts : (p : ℕ) → times_among p all ≡ (cond (q == p) 1 0 + times_among p done) + (times_in p t + times_among p left)
  parts p = refl

  at_parent : 1 ≤ times_among q all
  at_parent = let e = parts q in let one = hit q q refl in omega arith

  at_child : 1 ≤ times_among c all
  at_child = let e = parts c in let one = root_in t in omega arith

  pub attach_parent : IsLive l q
  attach_parent = place_live l all fits q at_parent

  pub attach_child : IsLive l c
  attach_child = place_live l all fits c at_child

  pub attach_loose : parent_at l c ≡ None
  attach_loose = fits.stand.2.0

  -- the parent stands in none of the other trees, and the child in none but its own
  once_parent : (times_among q done ≡ 0) × (times_in q t ≡ 0) × (times_among q left ≡ 0)
  once_parent =
      let e = parts q in let one = hit q q refl in let low = place_once l all fits q in
      (omega arith, omega arith, omega arith)

  once_child : (times_among c done ≡ 0) × (times_under c t ≡ 0) × (times_among c left ≡ 0)
  once_child =
      let e = parts c in let one = root_in t in let low = place_once l all fits c in
      (omega arith, omega arith, omega arith)

  pub attach_differ : q ≢ c
  attach_differ same = let none = once_parent.1 in let one = root_in t in let e = ap (λ z. times_in z t) same in omega arith

  abbrev m : Links
  m = attached l q c

  other_same : (x : ℕ) → x ≢ q → Same l m x
  other_same x differ = record {
    kind = refl;
    children = attached_children l ok q c attach_parent attach_child attach_loose x ∙ ap (λ b. cond b (children_at l q ++ c ∷ []) (children_at l x)) (ne_eqb x q differ);
  }

  apart : (f : ℕ → ℕ) (z x : ℕ) → f z ≡ 0 → 0 < f x → x ≢ z
  apart f z x none some same = let e = ap f same in omega arith

  pub fits_attached : FillsLists m (then (inner q k (row_append done (then t no_more))) left)
  fits_attached = record {
    stand = (
      attached_other l ok q c attach_parent attach_child attach_loose q attach_differ ∙ fits.stand.0,
      (
        fits.stand.1.0,
        attached_children l ok q c attach_parent attach_child attach_loose q ∙ ap (λ b. cond b (children_at l q ++ c ∷ []) (children_at l q)) (eq-eqb q q refl)
            ∙ ap (λ xs. xs ++ c ∷ []) fits.stand.1.1 ∙ sym (roots-joined done (then t no_more)),
        below_both m q done (then t no_more)
            (still_below l m q done (λ x some. other_same x (apart (λ z. times_among z done) q x once_parent.0 some)) (λ x some. attached_other l ok q c attach_parent attach_child attach_loose x (apart (λ z. times_among z done) c x once_child.0 some)) fits.stand.1.2)
            (attached_child l ok q c attach_parent attach_child attach_loose, still_in l m t (λ x some. other_same x (apart (λ z. times_in z t) q x once_parent.1 some)) (λ x some. attached_other l ok q c attach_parent attach_child attach_loose x (apart (λ z. times_under z t) c x once_child.1 some)) fits.stand.2.1, tt),
      ),
      still_loose l m left (λ x some. other_same x (apart (λ z. times_among z left) q x once_parent.2 some)) (λ x some. attached_other l ok q c attach_parent attach_child attach_loose x (apart (λ z. times_among z left) c x once_child.2 some)) fits.stand.2.2,
    );
    each = λ p.
        let e = parts p in let f = fits.each p in let a = times-joined p done (then t no_more) in
        omega arith;
  }
