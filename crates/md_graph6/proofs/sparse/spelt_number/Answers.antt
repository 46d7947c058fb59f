use Rattle.std.proofs.Common.{◌∙◌, ◌-◌, ◌*◌, arith}
use Rattle.md_graph6.proofs.NumberLemmas.{number_within}
use Rattle.md_graph6.proofs.sparse.spelt_number.Goals as goal

pub returns : goal.returns
returns c =
    c.low_part.ensures
    ∙ number_within c.args.body.now (6 * c.args.at) c.word_at.result c.args.shift c.args.count (24 - c.args.shift - c.args.count) (omega (arith, c.requires.few)) c.word_at.ensures.value
