use Rattle.std.proofs.Common.{◌+◌, sym, ◌∙◌, ap, subst}
use Rattle.std.specs.FinSet.{len}
use Rattle.md_cotree.proofs.NoPaths.{cotree_graph}
use Rattle.md_cotree.proofs.Degrees.{IsCollected, collect_begin, collect_in, collect_out, collect_end}
use Rattle.md_cotree.proofs.cotree.Cotree.degree.Goals as goal
use Rattle.md_cotree.proofs.cotree.Cotree.degree.Goals.{then-adjacent, else-adjacent}

pub loop-name-init : goal.loop-name-init
loop-name-init c = λ g is. collect_begin _ _ _ c.none-joined.ensures.value

pub loop-name-preserved : goal.loop-name-preserved
loop-name-preserved c = λ g is.
    elim c.if-adjacent.branch [
      | then-adjacent w ↦
          subst (λ t. IsCollected g c.args.v t (c.loop-name.name + 1)) (sym w.joined-is)
          (collect_in g c.args.v c.loop-name.joined c.loop-name.name (c.loop-name.invariant g is) _ w.insert.ensures.changed (sym (c.adjacent.ensures g is) ∙ w.if-adjacent.true))
      | else-adjacent w ↦
          subst (λ t. IsCollected g c.args.v t (c.loop-name.name + 1)) (sym w.joined-is)
          (collect_out g c.args.v c.loop-name.joined c.loop-name.name (c.loop-name.invariant g is) (sym (c.adjacent.ensures g is) ∙ w.if-adjacent.false))
    ]

pub returns : goal.returns
returns c = λ g is. c.count.ensures.value ∙ ap len (collect_end _ _ _ _ (c.loop-name.invariant g is) (cotree_graph c.args.self.now g is) c.loop-name-test.false)
