-- Places that were just made, each live, without parent, and all different; and a family made of four of them.
use Rattle.std.proofs.Common.{◌≡◌, ◌≢◌, ℕ, ◌<◌, List, [], ◌∷◌, Some, None, is_some, refl, sym, ◌∙◌, ap, subst}
use Rattle.std.proofs.lemmas.Bool.{eq-eqb, ne_eqb}
use Rattle.md_lists.specs.declared.kinds.PlaceKind.{PlaceKind}
use Rattle.md_lists.specs.declared.TheConstants.{PLACES}
use Rattle.md_lists.specs.Links.{Links, kind_at, parent_at, IsLive, IsBare, AreLinks, with_kind, attached, replaced}
use Rattle.md_lists.proofs.LinkLaws.{kind-with_kind, live_not_free, attached_child, attached_other}

-- none of the places is x
abbrev pub Differ : ℕ → List ℕ → Type 0
Differ x [] = Unit {0}
Differ x (y ∷ ys) = (y ≢ x) × Differ x ys

-- each is live and has no parent, and all are different
abbrev pub AllLoose : Links → List ℕ → Type 0
AllLoose l [] = Unit {0}
AllLoose l (x ∷ xs) = IsLive l x × (parent_at l x ≡ None) × Differ x xs × AllLoose l xs

module _ (l m : Links) (ok : AreLinks l) (q : ℕ) (k : PlaceKind) (within : q < PLACES) (free : kind_at l q ≡ None) (made : m ≡ with_kind l q (Some k)) where
  stays_live : (x : ℕ) → IsLive l x → IsLive m x
  stays_live x live =
      ap is_some (ap (λ v. kind_at v x) made ∙ kind-with_kind l ok q x (Some k) within ∙ rw (ne_eqb x q (λ same. live_not_free l ok x q live free (sym same))) refl) ∙ live

  stay_loose : (xs : List ℕ) → AllLoose l xs → AllLoose m xs
  stay_loose [] each = tt
  stay_loose (x ∷ xs) each = (stays_live x each.0, ap (λ v. parent_at v x) made ∙ each.1, each.2, stay_loose xs each.3)

  new_differs : (xs : List ℕ) → AllLoose l xs → Differ q xs
  new_differs [] each = tt
  new_differs (x ∷ xs) each = (λ same. live_not_free l ok x q each.0 free (sym same), new_differs xs each.3)

  new_kind : kind_at m q ≡ Some k
  new_kind = ap (λ v. kind_at v q) made ∙ kind-with_kind l ok q q (Some k) within ∙ rw (eq-eqb q q refl) refl

  -- one more place is made
  loose_more : (xs : List ℕ) → IsBare m q → AllLoose l xs → AllLoose m (q ∷ xs)
  loose_more xs bare each = (
    ap is_some new_kind,
    bare.no_parent,
    new_differs xs each,
    stay_loose xs each,
  )

module _ (l m : Links) (ok : AreLinks l) (q c : ℕ) (parent : IsLive l q) (child : IsLive l c) (loose : parent_at l c ≡ None) (made : m ≡ attached l q c) where
  attached_live : (x : ℕ) → IsLive l x → IsLive m x
  attached_live x live = subst (λ v. IsLive v x) (sym made) live

  attached_same : parent_at m c ≡ Some q
  attached_same = ap (λ v. parent_at v c) made ∙ attached_child l ok q c parent child loose

  attached_else : (x : ℕ) → x ≢ c → parent_at m x ≡ parent_at l x
  attached_else x other = ap (λ v. parent_at v x) made ∙ attached_other l ok q c parent child loose x other

-- four places that were made one after another
pub four_loose : (l0 l1 l2 l3 l4 : Links) (p a b c : ℕ) (k0 k1 k2 k3 : PlaceKind) → AreLinks l0 → AreLinks l1 → AreLinks l2 → AreLinks l3 → (p < PLACES) × (kind_at l0 p ≡ None) × (l1 ≡ with_kind l0 p (Some k0)) × IsBare l1 p → (a < PLACES) × (kind_at l1 a ≡ None) × (l2 ≡ with_kind l1 a (Some k1)) × IsBare l2 a → (b < PLACES) × (kind_at l2 b ≡ None) × (l3 ≡ with_kind l2 b (Some k2)) × IsBare l3 b → (c < PLACES) × (kind_at l3 c ≡ None) × (l4 ≡ with_kind l3 c (Some k3)) × IsBare l4 c → AllLoose l4 (c ∷ b ∷ a ∷ p ∷ [])
four_loose l0 l1 l2 l3 l4 p a b c k0 k1 k2 k3 ok0 ok1 ok2 ok3 m0 m1 m2 m3 =
    let f1 = loose_more l0 l1 ok0 p k0 m0.0 m0.1 m0.2 [] m0.3 tt in
    let f2 = loose_more l1 l2 ok1 a k1 m1.0 m1.1 m1.2 (p ∷ []) m1.3 f1 in
    let f3 = loose_more l2 l3 ok2 b k2 m2.0 m2.1 m2.2 (a ∷ p ∷ []) m2.3 f2 in
    loose_more l3 l4 ok3 c k3 m3.0 m3.1 m3.2 (b ∷ a ∷ p ∷ []) m3.3 f3

-- two of them become children of the first
module _ (l l1 : Links) (ok : AreLinks l) (p a b c : ℕ) (four : AllLoose l (c ∷ b ∷ a ∷ p ∷ [])) (first : l1 ≡ attached l p a) where
  pub one_live : (x : ℕ) → IsLive l x → IsLive l1 x
  one_live = attached_live l l1 ok p a four.3.3.3.0 four.3.3.0 four.3.3.1 first

  one_else : (x : ℕ) → x ≢ a → parent_at l1 x ≡ parent_at l x
  one_else = attached_else l l1 ok p a four.3.3.3.0 four.3.3.0 four.3.3.1 first

  pub one_loose : parent_at l1 b ≡ None
  one_loose = one_else b (λ e. four.3.2.0 (sym e)) ∙ four.3.1

  module _ (ok1 : AreLinks l1) (l2 : Links) (second : l2 ≡ attached l1 p b) where
    pub two_live : (x : ℕ) → IsLive l x → IsLive l2 x
    two_live x live = attached_live l1 l2 ok1 p b (one_live p four.3.3.3.0) (one_live b four.3.0) one_loose second x (one_live x live)

    two_else : (x : ℕ) → x ≢ b → parent_at l2 x ≡ parent_at l1 x
    two_else = attached_else l1 l2 ok1 p b (one_live p four.3.3.3.0) (one_live b four.3.0) one_loose second

    pub two_parent : parent_at l2 a ≡ Some p
    two_parent = two_else a four.3.2.0 ∙ attached_same l l1 ok p a four.3.3.3.0 four.3.3.0 four.3.3.1 first

    pub two_loose : parent_at l2 c ≡ None
    two_loose = two_else c (λ e. four.2.0 (sym e)) ∙ one_else c (λ e. four.2.1.0 (sym e)) ∙ four.1

    pub three_live : (l3 : Links) → ((q : ℕ) → parent_at l2 a ≡ Some q → l3 ≡ replaced l2 q a c) → (x : ℕ) → IsLive l x → IsLive l3 x
    three_live l3 third x live = subst (λ v. IsLive v x) (sym (third p two_parent)) (two_live x live)
