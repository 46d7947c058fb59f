use Rattle.std.proofs.Common.{◌≡◌, ℕ, length, ◌+◌, Bool, true, false, IfSome, refl, arith, ◌∙◌, ap, sym, subst}
use Rattle.std.proofs.lemmas.Bool.{eqb-true}
use Rattle.std.specs.Bool.{then_some}
use Rattle.std.specs.FinSet as set
use Rattle.md_graph.specs.Sets.{NameSet}
use Rattle.md_graph.specs.NameSet.{AllBelow, ascending}
use Rattle.md_graph.specs.declared.TheConstants.{NAMES}
use Rattle.md_graph.proofs.Limits.{NAMES-lt}
use Rattle.md_graph.proofs.NameLemmas.{few_below, length-ascending}
use Rattle.md_graph6.specs.Written.{AreFrom}
use Rattle.md_graph6.proofs.Listed.{consecutive}
use Rattle.md_graph6.proofs.writer.shape.Goals as goal

told_if : (P : ℕ → Type 0) (n : ℕ) (b : Bool) → (b ≡ true → P n) → IfSome (then_some b n) P
told_if P n true h = h refl
told_if P n false h = tt

listed : (s vertices : NameSet) (n : ℕ) → n ≡ set.len vertices → vertices ≡ s → AllBelow s NAMES → n ≡ length (ascending s)
listed s vertices n counted same below = counted ∙ ap set.len same ∙ sym (length-ascending s NAMES below)

pub overflow_add-consecutive : goal.overflow_add-consecutive
overflow_add-consecutive g c =
    let vertices = c.args.graph.now.vertices in
    let members = listed vertices _ _ c.count-count.ensures.value c.vertices.ensures.set c.vertices.ensures.graph.names in
    omega (arith, members, few_below vertices 0 NAMES, c.least_vertex-least.ensures.few, NAMES-lt)

pub returns : goal.returns
returns g c =
    let vertices = c.args.graph.now.vertices in
    let members = listed vertices _ _ c.count-count.ensures.value c.vertices.ensures.set c.vertices.ensures.graph.names in
    record {
      count = members;
      few = omega (arith, members, few_below vertices 0 NAMES);
      consecutive = subst (λ o. IfSome o (λ least. AreFrom c.args.graph.now least c.count-count.result)) (sym c.then_some.ensures)
          (told_if (λ least. AreFrom c.args.graph.now least c.count-count.result) c.least_vertex-least.result _
          (λ t. let bound = eqb-true c.bound.result (c.least_vertex-least.result + c.count-count.result) t in
          consecutive vertices c.count-count.result c.least_vertex-least.result members c.least_vertex-least.ensures.least
          (λ v m. let below = c.bound.ensures.above v m in omega arith)));
    }
