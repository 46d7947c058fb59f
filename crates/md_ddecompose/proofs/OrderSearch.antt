-- The search for a part that an order of a set begins or ends with: where nothing is left, no such part holds the name that it began with.
use Rattle.std.proofs.Common.{◌≡◌, ℕ, ◌⊎◌, Bool, true, false, not, ◌∙◌, sym, ap, subst, inl, inr}
use Rattle.std.specs.FinSet.{contains, empty, insert, remove, union, intersection, difference}
use Rattle.std.proofs.lemmas.Bool.{cases_Bool, true_from_ne_false, false_from_ne_true}
use Rattle.md_graph.specs.Sets.{NameSet, Has, Lacks, Within}
use Rattle.md_graph.proofs.SetLemmas.{clash, same_name, of_only, of_remove, remove_left, of_union, meet_has, of_meet, minus_has, of_minus, minus_lacks, empty_if, Has-along}
use Rattle.md_modules.specs.Kinds.{IsSplit}
use Rattle.md_digraph.specs.PlainDigraph.{PlainDigraph, IsDigraph, has_arc_to, successors, predecessors}
use Rattle.md_digraph.specs.ArcColours.{between, swapped}
use Rattle.md_digraph.proofs.DigraphLemmas.{in_heads, in_tails}
use Rattle.md_dtree.specs.DirectedTrees.{arc_forth, SplitsWith}

-- each part that the order begins with (last is false) or ends with (last is true) and that holds v has what isn't left, and what is to be looked at
pub record IsHolding (arc : ℕ → ℕ → Bool) (s : NameSet) (v : ℕ) (last : Bool) (left todo : NameSet) : Type 0 where
  pub todo_inside : Within todo s
  pub left_inside : Within left s
  pub has : (part : NameSet) → IsSplit (between arc) s part (not last, last) → Has part v → (x : ℕ) → Has s x → Lacks left x → Has part x
  pub has_todo : (part : NameSet) → IsSplit (between arc) s part (not last, last) → Has part v → Within todo part

module _ (arc : ℕ → ℕ → Bool) (s : NameSet) (v : ℕ) (last : Bool) where
  pub holding_begins : (left todo : NameSet) → Has s v → left ≡ remove s v → todo ≡ insert empty v → IsHolding arc s v last left todo
  holding_begins left todo member is_left is_todo = record {
    todo_inside = λ x h. subst (Has s) (sym (of_only v x (Has-along _ _ is_todo x h))) member;
    left_inside = λ x h. (of_remove s v x (Has-along _ _ is_left x h)).1;
    has = λ part split hv x h out. elim (same_name x v) [
      | inl same ↦ subst (Has part) (sym same) hv
      | inr differ ↦ clash (Has-along _ _ (sym is_left) x (remove_left s v x differ h)) out
    ];
    has_todo = λ part split hv x h. subst (Has part) (sym (of_only v x (Has-along _ _ is_todo x h))) hv;
  }

  pub holding_more : (left todo todo1 left' todo' : NameSet) (w : ℕ) → IsHolding arc s v last left todo → Has todo w → todo1 ≡ remove todo w →
      ((y : ℕ) → Has left y → between arc w y ≡ (not last, last) → Has left' y) → Within left' left → ((y : ℕ) → Has todo' y → Has todo1 y ⊎ (Has left y × Lacks left' y)) →
      IsHolding arc s v last left' todo'
  holding_more left todo todo1 left' todo' w is hw removed kept less taken = record {
    todo_inside = λ y h. elim (taken y h) [
      | inl old ↦ is.todo_inside y (before y old)
      | inr new ↦ is.left_inside y new.0
    ];
    left_inside = λ y h. is.left_inside y (less y h);
    has = has;
    has_todo = λ part split hv y h. elim (taken y h) [
      | inl old ↦ is.has_todo part split hv y (before y old)
      | inr new ↦ has part split hv y (is.left_inside y new.0) new.1
    ];
  } where
    before : (y : ℕ) → Has todo1 y → Has todo y
    before y h = (of_remove todo w y (Has-along _ _ removed y h)).1

    has : (part : NameSet) → IsSplit (between arc) s part (not last, last) → Has part v → (x : ℕ) → Has s x → Lacks left' x → Has part x
    has part split hv x h out = elim (cases_Bool (contains left x)) [
      | inr gone ↦ is.has part split hv x h gone
      | inl there ↦ true_from_ne_false _ (λ lacks. clash (kept x there (split.across w x (is.has_todo part split hv w hw) h lacks)) out)
    ]

  pub holding_ends : (left todo : NameSet) → IsHolding arc s v last left todo → left ≡ empty → (part : NameSet) → IsSplit (between arc) s part (not last, last) → Has part v → ⊥
  holding_ends left todo is none part split hv =
      clash (is.has part split hv split.rest.0 split.rest.1 (empty_if left none split.rest.0)) split.rest.2

-- where no part that an order begins with or ends with holds a member
pub no_part : (arc : ℕ → ℕ → Bool) (s : NameSet) (v : ℕ) → Has s v → ((part : NameSet) → IsSplit (between arc) s part (true, false) → Has part v → ⊥) →
    ((part : NameSet) → IsSplit (between arc) s part (false, true) → Has part v → ⊥) → SplitsWith arc s arc_forth → ⊥
no_part arc s v member first second (part, split) = elim (cases_Bool (contains part v)) [
  | inl h ↦ first part split h
  | inr out ↦ second (difference s part) rest_splits (minus_has s part v member out)
] where
  rest_splits : IsSplit (between arc) s (difference s part) (false, true)
  rest_splits = record {
    some = (split.rest.0, minus_has s part split.rest.0 split.rest.1 split.rest.2);
    inside = λ x h. (of_minus s part x h).0;
    rest = (split.some.0, split.inside split.some.0 split.some.1, minus_lacks s part split.some.0 split.some.1);
    across = λ a b ha hb lb.
        let two : Has s a × Lacks part a = of_minus s part a ha in
        ap swapped (split.across b a (true_from_ne_false _ (λ k. clash (minus_has s part b hb k) lb)) two.0 two.1);
  }

-- ---- what a look takes

module _ (first second left left1 left2 todo todo1 todo2 : NameSet) (is_left1 : left1 ≡ intersection left first) (is_left2 : left2 ≡ difference left1 second) where
  pub unless_kept : (y : ℕ) → Has left y → Has first y → Lacks second y → Has left2 y
  unless_kept y h f l = Has-along _ _ (sym is_left2) y (minus_has left1 second y (Has-along _ _ (sym is_left1) y (meet_has left first y h f)) l)

  of_left2 : (y : ℕ) → Has left2 y → (Has left y × Has first y) × Lacks second y
  of_left2 y h =
      let two : Has left1 y × Lacks second y = of_minus left1 second y (Has-along _ _ is_left2 y h) in
      (of_meet left first y (Has-along _ _ is_left1 y two.0), two.1)

  pub unless_less : Within left2 left
  unless_less y h = (of_left2 y h).0.0

  pub unless_taken : todo1 ≡ union todo (difference left first) → todo2 ≡ union todo1 (intersection left1 second) → (y : ℕ) → Has todo2 y → Has todo y ⊎ (Has left y × Lacks left2 y)
  unless_taken is_todo1 is_todo2 y h = elim (of_union todo1 (intersection left1 second) y (Has-along _ _ is_todo2 y h)) [
    | inl earlier ↦ elim (of_union todo (difference left first) y (Has-along _ _ is_todo1 y earlier)) [
      | inl old ↦ inl old
      | inr new ↦ (let two : Has left y × Lacks first y = of_minus left first y new in inr (two.0, false_from_ne_true _ (λ k. clash (of_left2 y k).0.1 two.1)))
    ]
    | inr new ↦
        let two : Has left1 y × Has second y = of_meet left1 second y new in
        inr ((of_meet left first y (Has-along _ _ is_left1 y two.0)).0, false_from_ne_true _ (λ k. clash two.1 (of_left2 y k).1))
  ]

module _ {g : PlainDigraph} (digraph : IsDigraph g) (w : ℕ) (out into left left' : NameSet) (is_out : out ≡ successors g w) (is_into : into ≡ predecessors g w) where
  pub kept_forth : (last : Bool) → last ≡ false → ((y : ℕ) → Has left y → Has out y → Lacks into y → Has left' y) → (y : ℕ) → Has left y → between (has_arc_to g) w y ≡ (not last, last) → Has left' y
  kept_forth false is kept y h same = kept y h (in_heads digraph w out is_out y ∙ ap (λ c. c.0) same) (in_tails digraph w into is_into y ∙ ap (λ c. c.1) same)
  kept_forth true is kept y h same = absurd (cc)

  pub kept_back : (last : Bool) → last ≡ true → ((y : ℕ) → Has left y → Has into y → Lacks out y → Has left' y) → (y : ℕ) → Has left y → between (has_arc_to g) w y ≡ (not last, last) → Has left' y
  kept_back false is kept y h same = absurd (cc)
  kept_back true is kept y h same = kept y h (in_tails digraph w into is_into y ∙ ap (λ c. c.1) same) (in_heads digraph w out is_out y ∙ ap (λ c. c.0) same)
