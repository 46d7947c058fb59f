use Rattle.std.proofs.Common.{◌≡◌, ◌≢◌, ◌+◌, ap, subst, sym, arith}
use Rattle.std.specs.FinSet.{len, remove}
use Rattle.md_graph.specs.PlainGraph.{adjacent}
use Rattle.md_graph.proofs.SetLemmas.{clash, Has-along, of_remove, remove_left}
use Rattle.md_graph.proofs.Search.{len_fewer}
use Rattle.md_modules.specs.Classes.{IsSplitter}
use Rattle.md_modules.proofs.refinement.splitter_of_many.Goals as goal

pub loop-p-smaller : goal.loop-p-smaller
loop-p-smaller g c =
    let fewer : len (remove c.loop-p.left c.in-Some.p) + 1 ≡ len c.loop-p.left = len_fewer c.loop-p.left c.in-Some.p c.in-Some.ensures.found.member in
    let same = ap len c.remove.ensures.changed in
    omega arith

pub loop-p-preserved : goal.loop-p-preserved
loop-p-preserved g c = record {
  less = λ x h. c.loop-p.invariant.less x (of_remove c.loop-p.left c.in-Some.p x (Has-along _ _ c.remove.ensures.changed x h)).1;
  kept = λ q tells.
      let other : q ≢ c.in-Some.p = λ same.
      let here : IsSplitter (adjacent c.args.graph.now) c.loop-p.left c.args.class.now q = record {
        inside = c.loop-p.invariant.kept q tells;
        outside = tells.outside;
        tells = tells.tells;
      } in
      clash (c.is_splitter.ensures.1 (subst (IsSplitter (adjacent c.args.graph.now) c.loop-p.left c.args.class.now) same here)) c.if-is_splitter.false
      in
      Has-along _ _ (sym c.remove.ensures.changed) q (remove_left c.loop-p.left c.in-Some.p q other (c.loop-p.invariant.kept q tells));
}
