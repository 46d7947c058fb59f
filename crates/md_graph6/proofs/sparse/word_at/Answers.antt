use Rattle.std.proofs.Common.{◌∙◌}
use Rattle.md_graph6.proofs.NumberLemmas.{four_numbers}
use Rattle.md_graph6.proofs.sparse.word_at.Goals as goal

pub returns-clause-value : goal.returns-clause-value
returns-clause-value c =
    c.join_groups.ensures.value
    ∙ four_numbers c.args.body.now c.args.at _ _ _ _ c.group_in-first.ensures.value c.group_in-second.ensures.value c.group_in-third.ensures.value c.group_in-fourth.ensures.value
