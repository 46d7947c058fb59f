use Rattle.std.proofs.lemmas.Option.{MatchOption-at_none}
use Rattle.md_report.proofs.Behind.{no_tail_group, no_words_group}
use Rattle.md_report.proofs.reader.group_line.Goals as goal

pub returns-in_default-behind_space : goal.returns-in_default-behind_space
returns-in_default-behind_space c = no_tail_group c.args.behind.now _ _ c.in-Some.ensures.cut c.in_default-behind_space.ensures.behind

pub returns-in-None : goal.returns-in-None
returns-in-None c =
    no_words_group c.args.behind.now _ _ c.in-Some.ensures.cut _ c.in-Some-behind_space.ensures.behind c.in_default-reason_of_text.ensures
    (MatchOption-at_none _ _ c.in-None.is c.in_ok-p.ensures)
