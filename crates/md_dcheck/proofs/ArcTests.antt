-- Rows of successors and predecessors, compared on a set.
use Rattle.std.proofs.Common.{◌≡◌, ◌↔◌, ℕ, sym, ◌∙◌, ap}
use Rattle.std.specs.FinSet.{contains}
use Rattle.md_graph.specs.Sets.{NameSet, Has}
use Rattle.md_digraph.specs.PlainDigraph.{PlainDigraph, IsDigraph, has_arc_to, successors, predecessors}
use Rattle.md_digraph.specs.ArcColours.{between}
use Rattle.md_digraph.proofs.DigraphLemmas.{in_heads, in_tails}

-- its rows tell them
pub rows_tell : {g : PlainDigraph} → IsDigraph g → (v : ℕ) (out into : NameSet) → out ≡ successors g v → into ≡ predecessors g v → (y : ℕ) → between (has_arc_to g) v y ≡ (contains out y, contains into y)
rows_tell digraph v out into is_out is_into y =
    let there = sym (in_heads digraph v out is_out y) in
    let back = sym (in_tails digraph v into is_into y) in
    λ n. (there n, back n)

-- they agree with two rows where its own rows do
pub both_agree : {g : PlainDigraph} → IsDigraph g → (v : ℕ) (among out into succ pred : NameSet) → succ ≡ successors g v → pred ≡ predecessors g v →
    (((y : ℕ) → Has among y → contains succ y ≡ contains out y) × ((y : ℕ) → Has among y → contains pred y ≡ contains into y))
    ↔ ((y : ℕ) → Has among y → between (has_arc_to g) v y ≡ (contains out y, contains into y))
both_agree digraph v among out into succ pred is_succ is_pred = (
  λ two y h. rows_tell digraph v succ pred is_succ is_pred y ∙ (let there = two.0 y h in let back = two.1 y h in λ n. (there n, back n)),
  λ all. (
    λ y h. ap (λ c. c.0) (sym (rows_tell digraph v succ pred is_succ is_pred y) ∙ all y h),
    λ y h. ap (λ c. c.1) (sym (rows_tell digraph v succ pred is_succ is_pred y) ∙ all y h),
  ),
)

pub forth_agrees : {g : PlainDigraph} → IsDigraph g → (v : ℕ) (among out into succ : NameSet) → succ ≡ successors g v → ((y : ℕ) → Has among y → between (has_arc_to g) v y ≡ (contains out y, contains into y)) →
    (y : ℕ) → Has among y → contains succ y ≡ contains out y
forth_agrees digraph v among out into succ is_succ all y h = in_heads digraph v succ is_succ y ∙ ap (λ c. c.0) (all y h)

-- two vertices have the same arcs where the arcs of the one are those that the rows of the other tell
pub same_arcs : {g : PlainDigraph} → IsDigraph g → (v w : ℕ) (among out into : NameSet) → out ≡ successors g v → into ≡ predecessors g v →
    ((y : ℕ) → Has among y → between (has_arc_to g) w y ≡ (contains out y, contains into y)) ↔ ((y : ℕ) → Has among y → between (has_arc_to g) v y ≡ between (has_arc_to g) w y)
same_arcs digraph v w among out into is_out is_into = (
  λ all y h. rows_tell digraph v out into is_out is_into y ∙ sym (all y h),
  λ same y h. sym (same y h) ∙ rows_tell digraph v out into is_out is_into y,
)
