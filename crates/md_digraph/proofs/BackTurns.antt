-- The turns of the search for the names that no smaller module holds with one: the names with which a name taken has other arcs than with that one.
use Rattle.std.proofs.Common.{◌≡◌, ℕ, Bool, true, false, not, sym, ◌∙◌, ap, ap₂, inl, inr, arith}
use Rattle.std.specs.FinSet.{contains, union, intersection, difference}
use Rattle.md_graph.specs.Sets.{NameSet, Has, Lacks}
use Rattle.md_graph.proofs.SetLaws.{contains-union, contains-intersection, contains-difference, same_set}
use Rattle.md_graph.proofs.SetLemmas.{clash, of_meet, of_meet_lacks, of_minus, of_minus_lacks, of_union, of_union_lacks, minus_shared, meet_unshared}
use Rattle.md_modules.proofs.Growth.{TakesUnless}
use Rattle.md_digraph.specs.PlainDigraph.{PlainDigraph, IsDigraph, has_arc_to, successors, predecessors}
use Rattle.md_digraph.specs.ArcColours.{between}
use Rattle.md_digraph.specs.ArcsSeen.{valued, told_from}
use Rattle.md_digraph.proofs.DigraphLemmas.{contains-successors, contains-predecessors}

-- ---- a pass over a row

pub shared_rest : (left row left' : NameSet) (value : Bool) → value ≡ true → left' ≡ difference left row → left' ≡ difference left (valued row value left)
shared_rest left row left' value is_true is = is ∙ minus_shared left row ∙ ap (λ b. difference left (valued row b left)) (sym is_true)

pub shared_moved : (left row todo todo' : NameSet) (value : Bool) → value ≡ true → todo' ≡ union todo (intersection left row) → todo' ≡ union todo (valued row value left)
shared_moved left row todo todo' value is_true is = is ∙ ap (λ b. union todo (valued row b left)) (sym is_true)

pub unshared_rest : (left row left' : NameSet) (value : Bool) → value ≡ false → left' ≡ intersection left row → left' ≡ difference left (valued row value left)
unshared_rest left row left' value is_false is = is ∙ meet_unshared left row ∙ ap (λ b. difference left (valued row b left)) (sym is_false)

pub unshared_moved : (left row todo todo' : NameSet) (value : Bool) → value ≡ false → todo' ≡ union todo (difference left row) → todo' ≡ union todo (valued row value left)
unshared_moved left row todo todo' value is_false is = is ∙ ap (λ b. union todo (valued row b left)) (sym is_false)

-- ---- two passes

pub rest_of_passes : (left a row left1 left2 : NameSet) (value : Bool) → left1 ≡ difference left a → left2 ≡ difference left1 (valued row value left1) → left2 ≡ difference left (union a (valued row value left))
rest_of_passes left a row left1 left2 true first second = second ∙ ap (λ s. difference s (intersection s row)) first ∙ same_set _ _ (λ q. rw (contains-difference (difference left a) (intersection (difference left a) row) q, contains-intersection (difference left a) row q, contains-difference left a q, contains-difference left (union a (intersection left row)) q, contains-union a (intersection left row) q, contains-intersection left row q) (grind arith))
rest_of_passes left a row left1 left2 false first second = second ∙ ap (λ s. difference s (difference s row)) first ∙ same_set _ _ (λ q. rw (contains-difference (difference left a) (difference (difference left a) row) q, contains-difference (difference left a) row q, contains-difference left a q, contains-difference left (union a (difference left row)) q, contains-union a (difference left row) q, contains-difference left row q) (grind arith))

pub moved_by_passes : (left a row left1 todo todo1 todo2 : NameSet) (value : Bool) → left1 ≡ difference left a → todo1 ≡ union todo a → todo2 ≡ union todo1 (valued row value left1) → todo2 ≡ union todo (union a (valued row value left))
moved_by_passes left a row left1 todo todo1 todo2 true rest first second = second ∙ ap₂ (λ s t. union s (intersection t row)) first rest ∙ same_set _ _ (λ q. rw (contains-union (union todo a) (intersection (difference left a) row) q, contains-union todo a q, contains-intersection (difference left a) row q, contains-difference left a q, contains-union todo (union a (intersection left row)) q, contains-union a (intersection left row) q, contains-intersection left row q) (grind arith))
moved_by_passes left a row left1 todo todo1 todo2 false rest first second = second ∙ ap₂ (λ s t. union s (difference t row)) first rest ∙ same_set _ _ (λ q. rw (contains-union (union todo a) (difference (difference left a) row) q, contains-union todo a q, contains-difference (difference left a) row q, contains-difference left a q, contains-union todo (union a (difference left row)) q, contains-union a (difference left row) q, contains-difference left row q) (grind arith))

-- what the passes over the row out and the row in of b take
pub told_by_rows : (g : PlainDigraph) (b v : ℕ) (left out into : NameSet) (p q : Bool) → out ≡ successors g b → into ≡ predecessors g b → p ≡ has_arc_to g b v → q ≡ has_arc_to g v b →
    union (valued out (not p) left) (valued into (not q) left) ≡ told_from g b v left
told_by_rows g b v left out into p q is_out is_into is_p is_q =
    ap₂ union (ap₂ (λ s c. valued s (not c) left) is_out is_p) (ap₂ (λ s c. valued s (not c) left) is_into is_q)

-- ---- names told from v

valued_lacks : (row among : NameSet) (value : Bool) (y : ℕ) → Has among y → Lacks (valued row (not value) among) y → contains row y ≡ value
valued_lacks row among true y h l = elim (of_minus_lacks among row y l) [ inl o ↦ clash h o | inr i ↦ i ]
valued_lacks row among false y h l = elim (of_meet_lacks among row y l) [ inl o ↦ clash h o | inr i ↦ i ]

of_valued : (row among : NameSet) (value : Bool) (y : ℕ) → Has (valued row (not value) among) y → Has among y × (contains row y ≡ value → ⊥)
of_valued row among true y h = let two : Has among y × Lacks row y = of_minus among row y h in (two.0, λ k. clash k two.1)
of_valued row among false y h = let two : Has among y × Has row y = of_meet among row y h in (two.0, λ k. clash two.1 k)

module _ {g : PlainDigraph} (digraph : IsDigraph g) where
  pub told_from_all : (b v : ℕ) (among : NameSet) → TakesUnless (λ y. between (has_arc_to g) b y ≡ between (has_arc_to g) b v) among (told_from g b v among)
  told_from_all b v among = (
    λ y h l.
        let two : Lacks out y × Lacks into y = of_union_lacks out into y l in
        let there : has_arc_to g b y ≡ has_arc_to g b v = sym (contains-successors digraph b y) ∙ valued_lacks (successors g b) among (has_arc_to g b v) y h two.0 in
        let back : has_arc_to g y b ≡ has_arc_to g v b = sym (contains-predecessors digraph b y) ∙ valued_lacks (predecessors g b) among (has_arc_to g v b) y h two.1 in
        λ i. (there i, back i),
    λ y h. elim (of_union out into y h) [
      | inl k ↦
          let is : Has among y × (contains (successors g b) y ≡ has_arc_to g b v → ⊥) = of_valued (successors g b) among (has_arc_to g b v) y k in
          (is.0, λ same. is.1 (contains-successors digraph b y ∙ ap (λ c. c.0) same))
      | inr k ↦
          let is : Has among y × (contains (predecessors g b) y ≡ has_arc_to g v b → ⊥) = of_valued (predecessors g b) among (has_arc_to g v b) y k in
          (is.0, λ same. is.1 (contains-predecessors digraph b y ∙ ap (λ c. c.1) same))
    ],
  ) where
    out : NameSet
    out = valued (successors g b) (not (has_arc_to g b v)) among

    into : NameSet
    into = valued (predecessors g b) (not (has_arc_to g v b)) among
