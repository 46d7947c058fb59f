-- The components of a set that splits, one after the other, in ascending order of their least names, for any colour that is its own reverse.
use Rattle.std.proofs.Common.{◌≡◌, ℕ, ◌<◌, ◌≤◌, ◌≢◌, ◌⊎◌, ◌↔◌, Bool, true, false, not, Option, Some, None, IfSome, IfNone, refl, List, [], ◌∷◌, ◌++◌, sym, ◌∙◌, subst, inl, inr, arith, ap}
use Rattle.std.specs.FinSet.{empty, difference, intersection}
use Rattle.std.specs.Option.{is_some}
use Rattle.md_graph.specs.NameSet.{IsLeastFrom, NoneFrom, symmetric_difference}
use Rattle.md_graph.specs.Sets.{NameSet, Has, Lacks, Within, HasSome}
use Rattle.md_modules.specs.Colours.{IsColouring}
use Rattle.md_modules.specs.Modules.{IsMaximalStrong}
use Rattle.md_modules.specs.Kinds.{IsSplit}
use Rattle.md_modules.specs.Components.{IsClosed, IsComponent}
use Rattle.std.proofs.lemmas.Bool.{false_from_ne_true}
use Rattle.md_graph.proofs.SetLemmas.{clash, empty_lacks, meet_has, of_meet, of_meet_lacks, minus_has, of_minus, Has-along, same_members, none_lacks, if_empty, lacks_along, rest_told}
use Rattle.md_graph.proofs.Search.{decide_same, larger_or_same}
use Rattle.md_modules.proofs.Splits.{closed_of_closed, closed_whole, closed_rest, closed_split}
use Rattle.md_modules.proofs.Components.{component_unsplit, component_child}
use Rattle.md_modules.proofs.Strong.{children_meet}
use Rattle.md_tree.specs.StrongTrees.{IsBefore}
use Rattle.md_text.proofs.Lists.{In, Later, in_left, in_right, of_append, later_append, of_contains, to_contains, to_pairs}
use Rattle.md_decompose.specs.Children.{AreChildren, Splits}

-- the list has the children of s outside rest, in order, and no child is in part outside rest
pub record IsListing {C : Type 0} (e : ℕ → ℕ → C) (s : NameSet) (v : C) (rest : NameSet) (cs : List NameSet) : Type 0 where
  pub closed : IsClosed e s rest v
  pub each : (m : NameSet) → In cs m → IsMaximalStrong e s m
  pub all : (m : NameSet) → IsMaximalStrong e s m → In cs m ⊎ Within m rest
  pub order : Later IsBefore cs
  pub before : (m : NameSet) → In cs m → IsBefore m rest

before_within : (a b c : NameSet) → Within c b → IsBefore a b → IsBefore a c
before_within a b c w is = (is.0, is.1, λ y h. is.2 y (w y h))

module _ {C : Type 0} {e : ℕ → ℕ → C} where
  -- a component of a closed part is a component of the whole
  component_of_rest : (s rest c : NameSet) (v : C) (x : ℕ) → IsClosed e s rest v → IsComponent e rest x c v → IsComponent e s x c v
  component_of_rest s rest c v x closed is = record {
    holds = is.holds;
    closed = closed_of_closed s rest c v closed is.closed;
    least = λ part part_closed h y hc. (of_meet part rest y (is.least (intersection part rest) (record {
      inside = λ z k. (of_meet part rest z k).1;
      across = λ a b ha hb l. part_closed.across a b (of_meet part rest a ha).0 (closed.inside b hb)
          (elim (of_meet_lacks part rest b l) [ inl o ↦ o | inr o ↦ clash hb o ]);
    }) (meet_has part rest x h (is.closed.inside x is.holds)) y hc)).0;
  }

  closed_outside : {reverse : C → C} → IsColouring reverse e → (s rest c : NameSet) (v : C) → reverse v ≡ v → IsClosed e s rest v → IsClosed e rest c v → IsClosed e s (difference rest c) v
  closed_outside col s rest c v own closed inner = closed_of_closed s rest (difference rest c) v closed (subst (IsClosed e rest (difference rest c)) own (closed_rest col rest c v inner))

  listing_none : (s : NameSet) (v : C) → IsListing e s v s []
  listing_none s v = record {
    closed = closed_whole s v;
    each = λ m i. absurd i;
    all = λ m is. inr is.is_strong.is_module.inside;
    order = tt;
    before = λ m i. absurd i;
  }

  listing_more : {reverse : C → C} → IsColouring reverse e → (s rest c : NameSet) (v : C) (x : ℕ) (cs : List NameSet) → reverse v ≡ v → Splits e s v → IsListing e s v rest cs →
      IsComponent e rest x c v → ((y : ℕ) → Has rest y → x ≤ y) → IsListing e s v (difference rest c) (cs ++ c ∷ [])
  listing_more col s rest c v x cs own split listing is least = record {
    closed = closed_outside col s rest c v own listing.closed is.closed;
    each = λ m i. elim (of_append cs (c ∷ []) m i) [
      | inl l ↦ listing.each m l
      | inr r ↦ elim r [ inl same ↦ subst (IsMaximalStrong e s) (sym same) child | inr none ↦ absurd none ]
    ];
    all = λ m max. elim (listing.all m max) [
      | inl l ↦ inl (in_left cs (c ∷ []) m l)
      | inr w ↦ elim (decide_same m c) [
        | inl same ↦ inl (in_right cs (c ∷ []) m (inl same))
        | inr differs ↦ inr (λ y h. minus_has rest c y (w y h) (false_from_ne_true _ (λ k. differs (children_meet s m c y max child h k))))
      ]
    ];
    order = later_append IsBefore cs (c ∷ []) listing.order ((λ y i. absurd i), tt)
        (λ m d i j. elim j [ inl same ↦ before_within m rest d (λ y h. is.closed.inside y (Has-along d c same y h)) (listing.before m i) | inr none ↦ absurd none ]);
    before = λ m i. elim (of_append cs (c ∷ []) m i) [
      | inl l ↦ before_within m rest (difference rest c) (λ y h. (of_minus rest c y h).0) (listing.before m l)
      | inr r ↦ elim r [ inl same ↦ subst (λ d. IsBefore d (difference rest c)) (sym same) (x, is.holds, after) | inr none ↦ absurd none ]
    ];
  } where
    child : IsMaximalStrong e s c
    child = component_child col s c split.0 v x own split.1 (component_of_rest s rest c v x listing.closed is)

    after : (y : ℕ) → Has (difference rest c) y → x < y
    after y h =
        let k : Has rest y × Lacks c y = of_minus rest c y h in
        let a : x ≤ y = least y k.0 in
        let b : x ≢ y = λ same. clash (subst (Has c) same is.holds) k.1 in
        omega arith

  listing_whole : (s rest : NameSet) (v : C) (cs : List NameSet) → IsListing e s v rest cs → (HasSome rest → ⊥) → AreChildren e s cs
  listing_whole s rest v cs listing none = record {
    exactly = λ m. (
      (λ max. to_contains cs m (elim (listing.all m max) [
        | inl l ↦ l
        | inr w ↦ absurd (none (max.is_strong.is_module.some.0, w max.is_strong.is_module.some.0 max.is_strong.is_module.some.1))
      ])),
      λ c. listing.each m (of_contains cs m c),
    );
    order = to_pairs IsBefore cs listing.order;
  }

-- the turns of the list of components, and its end
module _ {C : Type 0} {e : ℕ → ℕ → C} {reverse : C → C} (col : IsColouring reverse e) where
  pub listing_begin : (s rest c : NameSet) (v : C) (some : List NameSet) (cs : List NameSet) → reverse v ≡ v → Splits e s v →
      (x : ℕ) × IsLeastFrom s 0 x × IsComponent e s x c v → rest ≡ difference s c → some ≡ [] → cs ≡ some ++ c ∷ [] →
      IsListing e s v rest cs
  listing_begin s rest c v some cs own split first is_rest is_none is_cs =
      subst (λ r. IsListing e s v r cs) (sym is_rest)
      (subst (IsListing e s v (difference s c)) (sym (is_cs ∙ ap (λ l. l ++ c ∷ []) is_none))
      (listing_more col s s c v first.0 [] own split (listing_none s v) first.2 (λ y h. first.1.first y h (omega arith))))

  pub listing_turn : (s rest rest' c : NameSet) (v : C) (x : ℕ) (cs cs' : List NameSet) → reverse v ≡ v → Splits e s v → IsListing e s v rest cs →
      IsLeastFrom rest 0 x → IsComponent e rest x c v → rest' ≡ difference rest c → cs' ≡ cs ++ c ∷ [] →
      IsListing e s v rest' cs'
  listing_turn s rest rest' c v x cs cs' own split listing least is is_rest is_cs =
      subst (λ r. IsListing e s v r cs') (sym is_rest)
      (subst (IsListing e s v (difference rest c)) (sym is_cs)
      (listing_more col s rest c v x cs own split listing is (λ y h. least.first y h (omega arith))))

pub listing_end : {C : Type 0} {e : ℕ → ℕ → C} (s rest : NameSet) (v : C) (cs : List NameSet) → IsListing e s v rest cs → NoneFrom rest 0 → AreChildren e s cs
listing_end s rest v cs listing none = listing_whole s rest v cs listing (λ w. let below : w.0 < 0 = none w.0 w.1 in omega arith)

-- no first name is left exactly where nothing is left
pub rest_test : (s c : NameSet) (found : Option ℕ) (r : Bool) → IfSome found (IsLeastFrom (intersection s (symmetric_difference c s)) 0) → IfNone found (NoneFrom (intersection s (symmetric_difference c s)) 0) →
    is_some found ≡ not r → (r ≡ true) ↔ (difference s c ≡ empty)
rest_test s c (Some least) true some none is = absurd (cc)
rest_test s c (Some least) false some none is = (
  λ t. absurd (cc),
  λ e. clash (Has-along _ _ (rest_told s c ∙ e) least some.member) (empty_lacks least),
)
rest_test s c None true some none is = (λ _. if_empty (difference s c) (λ y. lacks_along (difference s c) _ (sym (rest_told s c)) y (none_lacks _ none y)), λ _. refl)
rest_test s c None false some none is = absurd (cc)

-- whether a component is the whole
module _ {C : Type 0} {e : ℕ → ℕ → C} {reverse : C → C} (col : IsColouring reverse e) where
  pub whole_unsplit : (s c left : NameSet) (v : C) (x : ℕ) → reverse v ≡ v → IsComponent e s x c v → left ≡ difference s c → left ≡ empty → Splits e s v → ⊥
  whole_unsplit s c left v x own is is_left none split =
      elim (larger_or_same c s is.closed.inside) [
        | inl rest ↦ clash (Has-along (difference s c) empty (sym is_left ∙ none) rest.0 (minus_has s c rest.0 rest.1 rest.2)) (empty_lacks rest.0)
        | inr same ↦ component_unsplit col s c v x own is split.0 (subst (λ t. IsSplit e t split.0 v) (sym same) split.1)
      ]

pub part_splits : {C : Type 0} {e : ℕ → ℕ → C} (s c left : NameSet) (v : C) (x : ℕ) → IsComponent e s x c v → left ≡ difference s c → (left ≡ empty → ⊥) → Splits e s v
part_splits s c left v x is is_left some =
    elim (larger_or_same c s is.closed.inside) [
      | inl rest ↦ (c, closed_split s c v is.closed (x, is.holds) rest)
      | inr same ↦ absurd (some (is_left ∙ same_members (difference s c) empty
          (λ y h. let k : Has s y × Lacks c y = of_minus s c y h in clash (Has-along s c (sym same) y k.0) k.1)
          (λ y h. clash h (empty_lacks y))))
    ]
