use Rattle.md_graph.proofs.Limits.{words_few}
use Rattle.md_tree.proofs.Spelled.{is_spelling}
use Rattle.md_tree.proofs.Coming.{useless_number}
use Rattle.md_tree.proofs.builder.take_step.Goals as goal

pub returns-in-None : goal.returns-in-None
returns-in-None g c bytes h =
    let law = is_spelling g.met.K.Lettered.laws g.met.P.Paired.laws in
    useless_number law (words_few g.row.W c.within_limit.ensures.limit) bytes _ _ _ h.comes c.in-None.ensures.split c.in_default.ensures.number
