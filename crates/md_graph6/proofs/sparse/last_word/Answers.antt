use Rattle.std.proofs.Common.{◌∙◌}
use Rattle.md_graph6.proofs.NumberLemmas.{four_numbers}
use Rattle.md_graph6.proofs.sparse.last_word.Goals as goal

pub returns-clause-value : goal.returns-clause-value
returns-clause-value c =
    c.join_groups.ensures.value
    ∙ four_numbers c.args.body.now c.args.at _ _ _ _ c.group_at-first.ensures.value c.group_at-second.ensures.value c.group_at-third.ensures.value c.group_at-fourth.ensures.value
