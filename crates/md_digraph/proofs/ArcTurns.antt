-- What the functions that search answer, from what they call: arcs by rows, and the turns of a search.
use Rattle.std.proofs.Common.{◌≡◌, ◌↔◌, ℕ, ◌+◌, ◌<◌, ◌≤◌, Bool, true, false, not, ◌&&◌, ◌||◌, ◌≢◌, refl, sym, ◌∙◌, ap, ap₂, subst, inl, inr, Option, Some, None, IfSome, IfNone, arith}
use Rattle.std.specs.Option.{is_some}
use Rattle.std.specs.FinSet.{contains, insert, union, intersection, difference}
use Rattle.std.proofs.lemmas.Bool.{true≢false, true_from_ne_false, or_parts}
use Rattle.md_graph.specs.Sets.{NameSet, Has, Lacks, Disjoint, only_name}
use Rattle.md_graph.specs.NameSet.{NoneFrom, IsLeastFrom, symmetric_difference}
use Rattle.md_graph.proofs.SetLaws.{contains-union, contains-intersection, contains-difference, same_set}
use Rattle.md_graph.proofs.SetLemmas.{clash, meet_has, of_meet, none_lacks, told_value, value_told, of_insert, Has-along, only_has, of_only}
use Rattle.md_graph.proofs.Search.{decide_test}
use Rattle.md_modules.specs.Colours.{IsColouring, AreTold}
use Rattle.md_modules.proofs.Growth.{TakesUnless}
use Rattle.md_digraph.specs.PlainDigraph.{PlainDigraph, IsDigraph, has_arc_to, successors, predecessors}
use Rattle.md_digraph.specs.ArcColours.{ArcColour, between, swapped}
use Rattle.md_digraph.specs.ArcsSeen.{told_apart, with_other_arcs}
use Rattle.md_digraph.proofs.DigraphLemmas.{contains-successors, contains-predecessors, in_heads, in_tails}

-- ---- arcs are colours

pub arcs_turn : (arc : ℕ → ℕ → Bool) → IsColouring swapped (between arc)
arcs_turn arc = record { reversed = λ a b. refl }

-- of each two colours it is told whether they are equal
pub arcs_told : AreTold ArcColour
arcs_told c d = elim (decide_test c.0 d.0) [
  | inl first ↦ elim (decide_test c.1 d.1) [
    | inl second ↦ inl (λ i. (first i, second i))
    | inr differ ↦ inr (λ same. differ (ap (λ x. x.1) same))
  ]
  | inr differ ↦ inr (λ same. differ (ap (λ x. x.0) same))
]

same_pair : (p q r s : Bool) → p ≡ q → r ≡ s → ◌≡◌ {A = ArcColour} (p, r) (q, s)
same_pair p q r s left right = λ i. (left i, right i)

-- ---- two passes over the names left

xor : Bool → Bool → Bool
xor p q = (p && not q) || (q && not p)

contains-symmetric : (a b : NameSet) (y : ℕ) → contains (symmetric_difference a b) y ≡ xor (contains a y) (contains b y)
unfolding xor
contains-symmetric a b y = contains-union (difference a b) (difference b a) y ∙ ap₂ ◌||◌ (contains-difference a b y) (contains-difference b a y)

pub rest_of_two : (left a b left1 left2 : NameSet) → left1 ≡ difference left a → left2 ≡ difference left1 b → left2 ≡ difference left (intersection left (union a b))
rest_of_two left a b left1 left2 first second = second ∙ ap (λ s. difference s b) first ∙ same_set _ _ (λ q. rw (contains-difference (difference left a) b q, contains-difference left a q, contains-difference left (intersection left (union a b)) q, contains-intersection left (union a b) q, contains-union a b q) (grind arith))

pub moved_of_two : (left a b left1 todo todo1 todo2 : NameSet) → left1 ≡ difference left a → todo1 ≡ union todo (intersection left a) → todo2 ≡ union todo1 (intersection left1 b) → todo2 ≡ union todo (intersection left (union a b))
moved_of_two left a b left1 todo todo1 todo2 rest first second = second ∙ ap₂ (λ s t. union s (intersection t b)) first rest ∙ same_set _ _ (λ q. rw (contains-union (union todo (intersection left a)) (intersection (difference left a) b) q, contains-union todo (intersection left a) q, contains-intersection left a q, contains-intersection (difference left a) b q, contains-difference left a q, contains-union todo (intersection left (union a b)) q, contains-intersection left (union a b) q, contains-union a b q) (grind arith))

pub rest_in_two : (left a b left1 left2 : NameSet) → left1 ≡ intersection left a → left2 ≡ intersection left1 b → left2 ≡ difference left (difference left (intersection a b))
rest_in_two left a b left1 left2 first second = second ∙ ap (λ s. intersection s b) first ∙ same_set _ _ (λ q. rw (contains-intersection (intersection left a) b q, contains-intersection left a q, contains-difference left (difference left (intersection a b)) q, contains-difference left (intersection a b) q, contains-intersection a b q) (grind arith))

pub moved_in_two : (left a b left1 todo todo1 todo2 : NameSet) → left1 ≡ intersection left a → todo1 ≡ union todo (difference left a) → todo2 ≡ union todo1 (difference left1 b) → todo2 ≡ union todo (difference left (intersection a b))
moved_in_two left a b left1 todo todo1 todo2 rest first second = second ∙ ap₂ (λ s t. union s (difference t b)) first rest ∙ same_set _ _ (λ q. rw (contains-union (union todo (difference left a)) (difference (intersection left a) b) q, contains-union todo (difference left a) q, contains-difference left a q, contains-difference (intersection left a) b q, contains-intersection left a q, contains-union todo (difference left (intersection a b)) q, contains-difference left (intersection a b) q, contains-intersection a b q) (grind arith))

-- ---- names told apart

-- what the passes over rows out and over rows in tell apart
pub apart_by_rows : (g : PlainDigraph) (v w : ℕ) (out_v out_w in_v in_w left : NameSet) → out_v ≡ successors g v → out_w ≡ successors g w → in_v ≡ predecessors g v → in_w ≡ predecessors g w →
    intersection left (union (symmetric_difference out_v out_w) (symmetric_difference in_v in_w)) ≡ told_apart g v w left
apart_by_rows g v w out_v out_w in_v in_w left first second third fourth =
    ap (intersection left) (ap₂ union (ap₂ symmetric_difference first second) (ap₂ symmetric_difference third fourth))

same_if_not : (p q : Bool) → xor p q ≡ false → p ≡ q
unfolding xor
same_if_not true true e = refl
same_if_not true false e = absurd (true≢false e)
same_if_not false true e = absurd (true≢false e)
same_if_not false false e = refl

not_if_same : (p q : Bool) → p ≡ q → xor p q ≡ false
unfolding xor
not_if_same p true e = rw e refl
not_if_same p false e = rw e refl

and_none : (p : Bool) → (p && (false || false)) ≡ false
and_none p = grind arith

-- w has other arcs with one of a set
abbrev pub HasOthers : PlainDigraph → ℕ → Bool → NameSet → Type 0
HasOthers g w b among = (t : ℕ) × Has among t × (between (has_arc_to g) w t ≢ (b, b))

module _ {g : PlainDigraph} (digraph : IsDigraph g) where
  contains-told : (v w : ℕ) (among : NameSet) (y : ℕ) → contains (told_apart g v w among) y ≡ (contains among y && (xor (has_arc_to g v y) (has_arc_to g w y) || xor (has_arc_to g y v) (has_arc_to g y w)))
  contains-told v w among y =
      contains-intersection among _ y
      ∙ ap (λ b. contains among y && b) (contains-union (symmetric_difference (successors g v) (successors g w)) (symmetric_difference (predecessors g v) (predecessors g w)) y
      ∙ ap₂ ◌||◌
      (contains-symmetric (successors g v) (successors g w) y ∙ ap₂ xor (contains-successors digraph v y) (contains-successors digraph w y))
      (contains-symmetric (predecessors g v) (predecessors g w) y ∙ ap₂ xor (contains-predecessors digraph v y) (contains-predecessors digraph w y)))

  -- those that v and w have different arcs with
  pub told_all : (v w : ℕ) (among : NameSet) → TakesUnless (λ y. between (has_arc_to g) v y ≡ between (has_arc_to g) w y) among (told_apart g v w among)
  told_all v w among = (
    λ y h l.
        let none : (xor (has_arc_to g v y) (has_arc_to g w y) || xor (has_arc_to g y v) (has_arc_to g y w)) ≡ false = sym (ap (λ b. b && (xor (has_arc_to g v y) (has_arc_to g w y) || xor (has_arc_to g y v) (has_arc_to g y w))) h) ∙ sym (contains-told v w among y) ∙ l in
        let two = or_parts _ _ none in
        same_pair _ _ _ _ (same_if_not _ _ two.0) (same_if_not _ _ two.1),
    λ y h. (
      (of_meet among _ y h).0,
      λ same.
          let out : xor (has_arc_to g v y) (has_arc_to g w y) ≡ false = not_if_same _ _ (ap (λ c. c.0) same) in
          let into : xor (has_arc_to g y v) (has_arc_to g y w) ≡ false = not_if_same _ _ (ap (λ c. c.1) same) in
          let none : contains (told_apart g v w among) y ≡ (contains among y && (false || false)) = contains-told v w among y ∙ ap₂ (λ p q. contains among y && (p || q)) out into in
          clash h (none ∙ and_none (contains among y)),
    ),
  )

  -- ---- names with other arcs

  contains-others : (w : ℕ) (b : Bool) (among : NameSet) (y : ℕ) → contains (with_other_arcs g w b among) y ≡ (contains among y && (xor (has_arc_to g w y) b || xor (has_arc_to g y w) b))
  unfolding xor
  contains-others w false among y =
      contains-intersection among _ y ∙ ap (λ b. contains among y && b) (contains-union (successors g w) (predecessors g w) y ∙ ap₂ ◌||◌ (contains-successors digraph w y) (contains-predecessors digraph w y))
      ∙ plain (contains among y) (has_arc_to g w y) (has_arc_to g y w)
    where
      plain : (a p q : Bool) → (a && (p || q)) ≡ (a && (((p && not false) || (false && not p)) || ((q && not false) || (false && not q))))
      plain a p q = grind arith
  contains-others w true among y =
      contains-difference among _ y ∙ ap (λ b. contains among y && not b) (contains-intersection (successors g w) (predecessors g w) y ∙ ap₂ ◌&&◌ (contains-successors digraph w y) (contains-predecessors digraph w y))
      ∙ turned (contains among y) (has_arc_to g w y) (has_arc_to g y w)
    where
      turned : (a p q : Bool) → (a && not (p && q)) ≡ (a && (((p && not true) || (true && not p)) || ((q && not true) || (true && not q))))
      turned a p q = grind arith

  pub others_all : (w : ℕ) (b : Bool) (among : NameSet) → TakesUnless (λ y. between (has_arc_to g) w y ≡ (b, b)) among (with_other_arcs g w b among)
  others_all w b among = (
    λ y h l.
        let none : (xor (has_arc_to g w y) b || xor (has_arc_to g y w) b) ≡ false = sym (ap (λ k. k && (xor (has_arc_to g w y) b || xor (has_arc_to g y w) b)) h) ∙ sym (contains-others w b among y) ∙ l in
        let two = or_parts _ _ none in
        same_pair _ _ _ _ (same_if_not _ _ two.0) (same_if_not _ _ two.1),
    λ y h. (
      in_among (contains among y) _ (sym (contains-others w b among y) ∙ h),
      λ same.
          let out : xor (has_arc_to g w y) b ≡ false = not_if_same _ _ (ap (λ c. c.0) same) in
          let into : xor (has_arc_to g y w) b ≡ false = not_if_same _ _ (ap (λ c. c.1) same) in
          let none : contains (with_other_arcs g w b among) y ≡ (contains among y && (false || false)) = contains-others w b among y ∙ ap₂ (λ p q. contains among y && (p || q)) out into in
          clash h (none ∙ and_none (contains among y)),
    ),
  ) where
    in_among : (p q : Bool) → (p && q) ≡ true → p ≡ true
    in_among p q e = grind arith

  abbrev Differs : NameSet → Bool → NameSet → Type 0
  Differs row b among = (t : ℕ) × Has among t × (contains row t ≢ b)

  pub others_out : (w : ℕ) (b : Bool) (among out : NameSet) (p : Bool) → out ≡ successors g w → p ≡ true → (p ≡ true) ↔ ((t : ℕ) × Has among t × (contains out t ≢ b)) → (p ≡ true) ↔ HasOthers g w b among
  others_out w b among out p is_out seen test = (
    λ t.
        let found : Differs out b among = test.0 t in
        (found.0, found.1, λ same. found.2 (in_heads digraph w out is_out found.0 ∙ ap (λ c. c.0) same)),
    λ _. seen,
  )

  pub others_in : (w : ℕ) (b : Bool) (among out into : NameSet) (p q : Bool) → out ≡ successors g w → into ≡ predecessors g w → p ≡ false → (p ≡ true) ↔ ((t : ℕ) × Has among t × (contains out t ≢ b)) → (q ≡ true) ↔ ((t : ℕ) × Has among t × (contains into t ≢ b)) → (q ≡ true) ↔ HasOthers g w b among
  others_in w b among out into p q is_out is_into unseen test_out test_in = (
    λ t.
        let found : Differs into b among = test_in.0 t in
        (found.0, found.1, λ same. found.2 (in_tails digraph w into is_into found.0 ∙ ap (λ c. c.1) same)),
    λ some. true_from_ne_false _ (λ none.
        some.2 (same_pair _ _ _ _
        (sym (in_heads digraph w out is_out some.0) ∙ told (contains out some.0) (λ differ. clash (test_out.1 (some.0, some.1, differ)) unseen))
        (sym (in_tails digraph w into is_into some.0) ∙ told (contains into some.0) (λ differ. clash (test_in.1 (some.0, some.1, differ)) none)))),
  ) where
    told : (a : Bool) → (a ≢ b → ⊥) → a ≡ b
    told a none = elim (decide_test a b) [ inl same ↦ same | inr differ ↦ absurd (none differ) ]

-- what two passes over the row out and the row in of w take
module _ (g : PlainDigraph) (w : ℕ) (b : Bool) (left out into : NameSet) where
  pub others_left : (left1 left2 : NameSet) → b ≡ false → out ≡ successors g w → into ≡ predecessors g w → left1 ≡ difference left out → left2 ≡ difference left1 into → left2 ≡ difference left (with_other_arcs g w b left)
  others_left left1 left2 is is_out is_into first second =
      rest_of_two left out into left1 left2 first second
      ∙ ap₂ (λ s t. difference left (intersection left (union s t))) is_out is_into ∙ ap (λ v. difference left (with_other_arcs g w v left)) (sym is)

  pub others_moved : (left1 todo todo1 todo2 : NameSet) → b ≡ false → out ≡ successors g w → into ≡ predecessors g w → left1 ≡ difference left out → todo1 ≡ union todo (intersection left out) → todo2 ≡ union todo1 (intersection left1 into) → todo2 ≡ union todo (with_other_arcs g w b left)
  others_moved left1 todo todo1 todo2 is is_out is_into rest first second =
      moved_of_two left out into left1 todo todo1 todo2 rest first second
      ∙ ap₂ (λ s t. union todo (intersection left (union s t))) is_out is_into ∙ ap (λ v. union todo (with_other_arcs g w v left)) (sym is)

  pub lacking_left : (left1 left2 : NameSet) → b ≡ true → out ≡ successors g w → into ≡ predecessors g w → left1 ≡ intersection left out → left2 ≡ intersection left1 into → left2 ≡ difference left (with_other_arcs g w b left)
  lacking_left left1 left2 is is_out is_into first second =
      rest_in_two left out into left1 left2 first second
      ∙ ap₂ (λ s t. difference left (difference left (intersection s t))) is_out is_into ∙ ap (λ v. difference left (with_other_arcs g w v left)) (sym is)

  pub lacking_moved : (left1 todo todo1 todo2 : NameSet) → b ≡ true → out ≡ successors g w → into ≡ predecessors g w → left1 ≡ intersection left out → todo1 ≡ union todo (difference left out) → todo2 ≡ union todo1 (difference left1 into) → todo2 ≡ union todo (with_other_arcs g w b left)
  lacking_moved left1 todo todo1 todo2 is is_out is_into rest first second =
      moved_in_two left out into left1 todo todo1 todo2 rest first second
      ∙ ap₂ (λ s t. union todo (difference left (intersection s t))) is_out is_into ∙ ap (λ v. union todo (with_other_arcs g w v left)) (sym is)

-- those that have other arcs with one of the names taken
pub others_taken : (g : PlainDigraph) (left taken new : NameSet) (b : Bool) → ((y : ℕ) → Has new y ↔ (Has left y × ((t : ℕ) × Has taken t × (between (has_arc_to g) y t ≢ (b, b))))) →
    TakesUnless (λ y. (t : ℕ) → Has taken t → between (has_arc_to g) y t ≡ (b, b)) left new
others_taken g left taken new b sees = (
  λ y h l t ht. elim (arcs_told (between (has_arc_to g) y t) (b, b)) [ inl same ↦ same | inr differ ↦ clash ((sees y).1 (h, (t, ht, differ))) l ],
  λ y h. let (hl, seen) = (sees y).0 h in (hl, λ all. seen.2 (all seen.0 seen.1)),
)

-- ---- rows and marks

other : (a v : Bool) → a ≢ v → a ≡ not v
other true true n = absurd (n refl)
other true false n = refl
other false true n = refl
other false false n = absurd (n refl)

not_both : (a v : Bool) → a ≡ not v → a ≡ v → ⊥
not_both a true p q = true≢false (sym q ∙ p)
not_both a false p q = true≢false (sym p ∙ q)

-- a first name told apart from a mark is one where the row differs from the value that the mark has at all names of the set
differs_test : (row mark among : NameSet) (value : Bool) (found : Option ℕ) (r : Bool) → ((y : ℕ) → Has among y → contains mark y ≡ not (not value)) →
    IfSome found (IsLeastFrom (intersection among (symmetric_difference row mark)) 0) → IfNone found (NoneFrom (intersection among (symmetric_difference row mark)) 0) → r ≡ is_some found →
    (r ≡ true) ↔ ((t : ℕ) × Has among t × (contains row t ≢ value))
differs_test row mark among value (Some least) r is_mark some none is = (
  λ _.
      let two : Has among least × Has (symmetric_difference row mark) least = of_meet among (symmetric_difference row mark) least some.member in
      (least, two.0, not_both _ value (told_value row mark (not value) least (is_mark least two.0) two.1)),
  λ _. is,
)
differs_test row mark among value None r is_mark some none is = (
  λ t. clash t is,
  λ seen. clash
      (meet_has among (symmetric_difference row mark) seen.0 seen.1 (value_told row mark (not value) seen.0 (is_mark seen.0 seen.1) (other _ value seen.2)))
      (none_lacks (intersection among (symmetric_difference row mark)) none seen.0),
)

pub lacks_test : (row among : NameSet) (value : Bool) (found : Option ℕ) (r : Bool) → value ≡ true →
    IfSome found (IsLeastFrom (intersection among (symmetric_difference row among)) 0) → IfNone found (NoneFrom (intersection among (symmetric_difference row among)) 0) → r ≡ is_some found →
    (r ≡ true) ↔ ((t : ℕ) × Has among t × (contains row t ≢ value))
lacks_test row among value found r is_true some none is =
    differs_test row among among value found r (λ y h. h ∙ ap (λ b. not (not b)) (sym is_true)) some none is

pub has_test : (row among apart : NameSet) (value : Bool) (found : Option ℕ) (r : Bool) → value ≡ false → Disjoint among apart →
    IfSome found (IsLeastFrom (intersection among (symmetric_difference row apart)) 0) → IfNone found (NoneFrom (intersection among (symmetric_difference row apart)) 0) → r ≡ is_some found →
    (r ≡ true) ↔ ((t : ℕ) × Has among t × (contains row t ≢ value))
has_test row among apart value found r is_false out some none is =
    differs_test row apart among value found r (λ y h. out y h ∙ ap (λ b. not (not b)) (sym is_false)) some none is

-- ---- turns

-- where nothing is to be looked at but v itself, and the members of begun are u and v
pub pair_seen : {C : Type 0} (e : ℕ → ℕ → C) (begun todo : NameSet) (u v : ℕ) → begun ≡ insert (only_name u) v → todo ≡ only_name v → (w : ℕ) → Has begun w → Lacks todo w → (y : ℕ) → e u y ≡ e w y
pair_seen e begun todo u v is is_todo w h l y = elim (of_insert (only_name u) v w (Has-along _ _ is w h)) [
  | inl same ↦ clash (Has-along _ _ (sym is_todo) w (subst (Has (only_name v)) (sym same) (only_has v))) l
  | inr old ↦ ap (λ b. e b y) (sym (of_only u w old))
]

-- two steps down
pub falls_then : (a b c d e f : ℕ) → c + d < a + b → e + f ≤ c → e + f < a + b
falls_then a b c d e f first second = omega arith
