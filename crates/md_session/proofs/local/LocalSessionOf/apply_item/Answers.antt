use Rattle.std.proofs.Common.{◌*◌, sym, subst, rules}
use Rattle.md_graph.specs.PlainGraph.{PlainGraph}
use Rattle.md_script.specs.Histories.{HistoryFits}
use Rattle.md_script.specs.Pasts.{AnyGraph}
use Rattle.md_session.proofs.local.LocalSessionOf.apply_item.Goals as goal

pub answer-requires : goal.answer-requires
answer-requires g c =
    let fits = subst (λ (k : PlainGraph). HistoryFits (64 * g.row.W) AnyGraph k c.args.history.now.items) (sym c.self.view_is) c.requires.fits in
    (search rules, (search rules, (c.self.invariant, (c.requires.names, (c.requires.room, fits)))))
