use Rattle.std.proofs.Common.{◌≡◌, ℕ, ◌∙◌, ap, subst, sym, inl, inr}
use Rattle.std.specs.FinSet.{contains, intersection}
use Rattle.md_graph.specs.PlainGraph.{adjacent}
use Rattle.md_graph.proofs.GraphLemmas.{contains-neighbours}
use Rattle.md_graph.proofs.SetLemmas.{Has-along, of_meet, of_minus, of_union, of_remove}
use Rattle.md_decompose.specs.Refined.{CutNoModule}
use Rattle.md_decompose.proofs.RefinedLemmas.{cut_none, cut_more}
use Rattle.md_decompose.proofs.refined.cut_by_rows.Goals as goal

pub loop-init : goal.loop-init
loop-init g c =
    let whole = c.in_ok-partition.ensures.whole in
    record {
      cut = subst (λ q. CutNoModule (adjacent c.args.graph.now) c.args.set.now c.args.rest.now q.classes) (sym whole) (cut_none (adjacent c.args.graph.now) c.args.set.now c.args.rest.now c.members-members.ensures.names);
      untouched = ap (λ q. q.touched) whole;
      near = λ x h. (of_minus c.args.set.now c.args.rest.now x (Has-along _ _ c.minus-near.ensures.value x h)).0;
      left = λ x h. (of_meet c.args.set.now c.args.rest.now x (Has-along _ _ c.and-left.ensures.value x h)).0;
    }

pub loop-preserved : goal.loop-preserved
loop-preserved g c =
    let member = c.loop.invariant.near c.in-Some.p c.in-Some.ensures.found.member in
    let told : (x : ℕ) → contains c.row-in-loop.result.now x ≡ adjacent c.args.graph.now c.in-Some.p x = λ x.
    ap (λ row. contains row x) c.row-in-loop.ensures.set ∙ contains-neighbours c.row-in-loop.ensures.graph c.in-Some.p x in
    record {
      cut = subst (CutNoModule (adjacent c.args.graph.now) c.args.set.now c.args.rest.now) (sym c.refine_outside.ensures.cut)
          (cut_more (adjacent c.args.graph.now) c.args.set.now c.args.rest.now c.row-in-loop.result.now c.in-Some.p member
          (λ x y same. told x ∙ same ∙ sym (told y)) c.loop.partition.classes c.loop.invariant.cut);
      untouched = c.refine_outside.ensures.untouched;
      near = λ x h. elim (of_union c.remove.new.self (intersection c.loop.left c.row.result.now) x (Has-along _ _ c.move_shared.ensures.moved x h)) [
        | inl old ↦ c.loop.invariant.near x (of_remove c.loop.near c.in-Some.p x (Has-along _ _ c.remove.ensures.changed x old)).1
        | inr new ↦ c.loop.invariant.left x (of_meet c.loop.left c.row.result.now x new).0
      ];
      left = λ x h. c.loop.invariant.left x (of_minus c.loop.left c.row.result.now x (Has-along _ _ c.move_shared.ensures.rest x h)).0;
    }
