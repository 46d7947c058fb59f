-- The two sides of a graph: where their arcs end, and which names one end sees and the other doesn't.
use Rattle.std.proofs.Common.{◌≡◌, ◌≢◌, ◌↔◌, ℕ, ◌<◌, Bool, true, false, not, ◌&&◌, ◌||◌, ◌==◌, List, refl, sym, ◌∙◌, ap, subst, inl, inr}
use Rattle.std.proofs.lemmas.Bool.{false_from_ne_true, ne_eqb, eqb-true, and_parts, not-true}
use Rattle.std.specs.FinSet as set
use Rattle.md_graph.specs.declared.TheConstants.{NAMES}
use Rattle.md_graph.specs.Sets.{NameSet, Has, Within}
use Rattle.md_graph.specs.PlainGraph.{PlainGraph, IsGraph, adjacent, neighbours, complement}
use Rattle.md_graph.specs.Rows.{row_of}
use Rattle.md_graph.proofs.SetLaws.{contains-difference, contains-union}
use Rattle.md_graph.proofs.GraphLemmas.{adjacent_ends, adjacent_sym, contains-neighbours, IsGraph-complement, adjacent-complement}
use Rattle.md_graph.proofs.SetLemmas.{clash}
use Rattle.md_forcing.specs.declared.arc.Arc.{Arc}
use Rattle.md_forcing.specs.declared.arc_set.Side.{Side}
use Rattle.md_forcing.specs.declared.arc_set.Side.TheVariants.{Edges, NonEdges}
use Rattle.md_forcing.specs.Forcing.{arc, IsArc, ForceAtTail, ForceAtHead, ForcesDirectly}
use Rattle.md_forcing.specs.Sides.{adjacent_on}
use Rattle.md_forcing.specs.ArcSet.{HasArc}

pub side_ends : {g : PlainGraph} → IsGraph g → (side : Side) (u v : ℕ) → adjacent_on side g u v ≡ true → Has g.vertices u × Has g.vertices v × (u ≢ v)
side_ends is Edges u v h = adjacent_ends is u v h
side_ends is NonEdges u v h = adjacent_ends (IsGraph-complement is) u v h

pub side_symmetric : (side : Side) (g : PlainGraph) (u v : ℕ) → adjacent_on side g u v ≡ adjacent_on side g v u
side_symmetric Edges g u v = adjacent_sym g u v
side_symmetric NonEdges g u v = adjacent_sym (complement g) u v

pub side_names : {g : PlainGraph} → IsGraph g → (side : Side) (u v : ℕ) → adjacent_on side g u v ≡ true → (u < NAMES) × (v < NAMES)
side_names is side u v h = let ends = side_ends is side u v h in (is.names u ends.0, is.names v ends.1)

pub arc_within : {g : PlainGraph} → IsGraph g → (side : Side) (n : ℕ) → ((v : ℕ) → Has g.vertices v → v < n) → (a : Arc) → IsArc (adjacent_on side g) a → (a.tail < n) × (a.head < n)
arc_within is side n room a h = let ends = side_ends is side a.tail a.head h in (room a.tail ends.0, room a.head ends.1)

-- ---- what one end sees alone

triple : (x y z : Bool) → (x && not (y || z)) ≡ true → (x ≡ true) × (y ≡ false) × (z ≡ false)
triple true false false h = (refl, refl, refl)
triple true false true h = absurd (cc)
triple true true z h = absurd (cc)
triple false y z h = absurd (cc)

abbrev SeesAlone : (ℕ → ℕ → Bool) → NameSet → ℕ → ℕ → ℕ → Type 0
SeesAlone e known here there w = (e here w ≡ true) × (e there w ≡ false) × (set.contains known w ≡ false)

left_alone : {g : PlainGraph} → IsGraph g → (u v : ℕ) (known into : NameSet) → into ≡ set.difference (neighbours g u) (set.union (neighbours g v) known) → (w : ℕ) → set.contains into w ≡ (adjacent g u w && not (adjacent g v w || set.contains known w))
left_alone {g} is u v known into made w =
    ap (λ s. set.contains s w) made
    ∙ contains-difference _ _ w
    ∙ (λ i. contains-neighbours is u w i && not ((contains-union (neighbours g v) known w ∙ ap (λ b. b || set.contains known w) (contains-neighbours is v w)) i))

pub edges_apart : {g : PlainGraph} → IsGraph g → (here there : ℕ) (known into : NameSet) → into ≡ set.difference (neighbours g here) (set.union (neighbours g there) known) → (w : ℕ) → Has into w ↔ SeesAlone (adjacent_on Edges g) known here there w
edges_apart is here there known into made w =
    let same = left_alone is here there known into made w in
    (λ h. triple _ _ _ (sym same ∙ h), λ p. same ∙ rw (p.0, p.1, p.2) refl)

all_false : (x y z : Bool) → ((x && y) && (not z && false)) ≡ false
all_false true true true = refl
all_false true true false = refl
all_false true false z = refl
all_false false y z = refl

last_false : (x y b c : Bool) → c ≡ (x && (y && not b)) → c ≡ true → b ≡ false
last_false x y b c e h =
    let parts = and_parts x (y && not b) (sym e ∙ h) in not-true b (and_parts y (not b) parts.1).1

-- of the complement: `here` and `there` are not adjacent
co_to : (vh vt vw eh et a b k ch ct : Bool) → ch ≡ ((vh && vw) && (not eh && not a)) → ct ≡ ((vt && vw) && (not et && not b)) → vh ≡ true → (b ≡ true → vw ≡ true) → (b ≡ true → eh ≡ false) → (b && not (a || k)) ≡ true → (ch ≡ true) × (ct ≡ false) × (k ≡ false)
co_to vh vt vw eh et a b k ch ct is_h is_t in_h in_w apart h =
    let parts = triple b a k h in (
      is_h ∙ rw (in_h, in_w parts.0, apart parts.0, parts.1) refl,
      is_t ∙ rw parts.0 (all_false vt vw et),
      parts.2,
    )

co_from : (vh vt vw eh et a b k ch ct : Bool) → ch ≡ ((vh && vw) && (not eh && not a)) → ct ≡ ((vt && vw) && (not et && not b)) → vt ≡ true → (et ≡ true → k ≡ true) → (ch ≡ true) × (ct ≡ false) × (k ≡ false) → (b && not (a || k)) ≡ true
co_from true true true false et false true false ch ct is_h is_t in_t known p = refl
co_from true true true false false false false false ch ct is_h is_t in_t known p = clash is_t p.1
co_from true true true false true false false false ch ct is_h is_t in_t known p = clash (known refl) refl
co_from false vt vw eh et a b k ch ct is_h is_t in_t known p = clash p.0 is_h
co_from true false vw eh et a b k ch ct is_h is_t in_t known p = clash in_t refl
co_from true true false eh et a b k ch ct is_h is_t in_t known p = clash p.0 is_h
co_from true true true true et a b k ch ct is_h is_t in_t known p = clash p.0 is_h
co_from true true true false et true b k ch ct is_h is_t in_t known p = clash p.0 is_h
co_from true true true false et false b true ch ct is_h is_t in_t known p = clash refl p.2

pub non_edges_apart : {g : PlainGraph} → IsGraph g → (here there : ℕ) (known into : NameSet) → adjacent_on NonEdges g here there ≡ true → Has known there → into ≡ set.difference (neighbours g there) (set.union (neighbours g here) known) → (w : ℕ) → Has into w ↔ SeesAlone (adjacent_on NonEdges g) known here there w
non_edges_apart {g} is here there known into across has made w =
    let same = left_alone is there here known into made w in
    let ends = side_ends is NonEdges here there across in
    let is_h = adjacent-complement is here w in
    let is_t = adjacent-complement is there w in
    let apart : adjacent g there here ≡ false = adjacent_sym g there here ∙ last_false _ _ _ _ (adjacent-complement is here there) across in
    let other : adjacent g there w ≡ true → (here == w) ≡ false = λ b. ne_eqb here w (λ e. clash (ap (adjacent g there) e ∙ b) apart) in
    let found : (there == w) ≡ true → set.contains known w ≡ true = λ e. ap (set.contains known) (sym (eqb-true there w e)) ∙ has in (
      λ h. co_to _ _ _ _ _ _ _ _ _ _ is_h is_t ends.0 (λ b. (adjacent_ends is there w b).1) other (sym same ∙ h),
      λ p. same ∙ co_from _ _ _ _ _ _ _ _ _ _ is_h is_t ends.1 found p,
    )

abbrev AllAlone : (ℕ → ℕ → Bool) → NameSet → ℕ → ℕ → NameSet → Type 0
AllAlone e known here there into = (w : ℕ) → Has into w ↔ SeesAlone e known here there w

module _ {g : PlainGraph} (is : IsGraph g) (side : Side) (here there : ℕ) (known row other into : NameSet) where
  pub apart_at_edges : side ≡ Edges → row ≡ neighbours g here → other ≡ neighbours g there → into ≡ set.difference row (set.union other known) → AllAlone (adjacent_on side g) known here there into
  apart_at_edges at_edges is_row is_other made =
      subst (λ s. AllAlone (adjacent_on s g) known here there into) (sym at_edges)
      (edges_apart is here there known into (made ∙ (λ i. set.difference (is_row i) (set.union (is_other i) known))))

  pub apart_at_non_edges : side ≡ NonEdges → adjacent_on side g here there ≡ true → Has known there → row ≡ neighbours g there → other ≡ neighbours g here → into ≡ set.difference row (set.union other known) → AllAlone (adjacent_on side g) known here there into
  apart_at_non_edges at_non_edges across has is_row is_other made =
      subst (λ s. AllAlone (adjacent_on s g) known here there into) (sym at_non_edges)
      (non_edges_apart is here there known into (subst (λ s. adjacent_on s g here there ≡ true) at_non_edges across) has (made ∙ (λ i. set.difference (is_row i) (set.union (is_other i) known))))

-- ---- the arcs that are forced and not seen

pub unseen_at_tail : (e : ℕ → ℕ → Bool) (rows : List NameSet) (by : Arc) (known : NameSet) → known ≡ row_of rows by.tail → HasArc rows by → (into : NameSet) → ((w : ℕ) → Has into w ↔ SeesAlone e known by.tail by.head w) → (w : ℕ) → Has into w ↔ (IsArc e (arc by.tail w) × ForceAtTail e by (arc by.tail w) × (HasArc rows (arc by.tail w) → ⊥))
unseen_at_tail e rows by known is seen into alone w = (
  λ h.
      let p = (alone w).0 h in
      let unseen : set.contains (row_of rows by.tail) w ≡ false = ap (λ s. set.contains s w) (sym is) ∙ p.2 in
      (p.0, (refl, λ same. clash (subst (Has (row_of rows by.tail)) same seen) unseen, p.1), λ s. clash s unseen),
  λ q. (alone w).1 (q.0, q.1.2, ap (λ s. set.contains s w) is ∙ false_from_ne_true _ q.2),
)

pub unseen_at_head : (e : ℕ → ℕ → Bool) → ((u v : ℕ) → e u v ≡ e v u) → (rows : List NameSet) (by : Arc) (known : NameSet) → ((u : ℕ) → set.contains known u ≡ set.contains (row_of rows u) by.head) → HasArc rows by → (into : NameSet) → ((w : ℕ) → Has into w ↔ SeesAlone e known by.head by.tail w) → (w : ℕ) → Has into w ↔ (IsArc e (arc w by.head) × ForceAtHead e by (arc w by.head) × (HasArc rows (arc w by.head) → ⊥))
unseen_at_head e symmetric rows by known is seen into alone w = (
  λ h.
      let p = (alone w).0 h in
      let unseen : set.contains (row_of rows w) by.head ≡ false = sym (is w) ∙ p.2 in
      (symmetric w by.head ∙ p.0, (refl, λ same. clash (subst (λ u. Has (row_of rows u) by.head) same seen) unseen, p.1), λ s. clash s unseen),
  λ q. (alone w).1 (symmetric by.head w ∙ q.0, q.1.2, is w ∙ false_from_ne_true _ q.2),
)

-- ---- where all that is forced is seen

pub none_beside : (s t : NameSet) → Within s t → (w : ℕ) → Has (set.difference s t) w → ⊥
none_beside s t within w h =
    let parts = and_parts (set.contains s w) (not (set.contains t w)) (sym (contains-difference s t w) ∙ h) in
    clash (within w parts.0) (not-true _ parts.1)

true_if : (b : Bool) → (b ≡ false → ⊥) → b ≡ true
true_if true never = refl
true_if false never = absurd (never refl)

module _ (e : ℕ → ℕ → Bool) (symmetric : (u v : ℕ) → e u v ≡ e v u) (rows : List NameSet) (by : Arc) (seen : HasArc rows by)
    (heads tails : NameSet) (is_heads : heads ≡ row_of rows by.tail) (is_tails : (u : ℕ) → set.contains tails u ≡ set.contains (row_of rows u) by.head)
    (at_tail at_head : NameSet) (alone_tail : AllAlone e heads by.tail by.head at_tail) (alone_head : AllAlone e tails by.head by.tail at_head)
    (none_tail : (w : ℕ) → Has at_tail w → ⊥) (none_head : (w : ℕ) → Has at_head w → ⊥) where
  seen_at_tail : (b : Arc) → IsArc e b → ForceAtTail e by b → HasArc rows b
  seen_at_tail b is force =
      let here : e by.tail b.head ≡ true = subst (λ u. e u b.head ≡ true) (sym force.0) is in
      subst (λ u. Has (row_of rows u) b.head) force.0
      (true_if _ (λ unseen. none_tail b.head ((unseen_at_tail e rows by heads is_heads seen at_tail alone_tail b.head).1 (here, (refl, force.1, force.2), λ h. clash h unseen))))

  seen_at_head : (b : Arc) → IsArc e b → ForceAtHead e by b → HasArc rows b
  seen_at_head b is force =
      let here : e b.tail by.head ≡ true = subst (λ u. e b.tail u ≡ true) (sym force.0) is in
      subst (λ u. Has (row_of rows b.tail) u) force.0
      (true_if _ (λ unseen. none_head b.tail ((unseen_at_head e symmetric rows by tails is_tails seen at_head alone_head b.tail).1 (here, (refl, force.1, force.2), λ h. clash h unseen))))

  pub forced_seen : (b : Arc) → IsArc e b → ForcesDirectly e by b → HasArc rows b
  forced_seen b is (inl force) = seen_at_tail b is force
  forced_seen b is (inr force) = seen_at_head b is force
