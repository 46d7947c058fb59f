use Rattle.std.proofs.lemmas.Option.{MatchOption-at_none}
use Rattle.md_bar.proofs.Texts.{no_space, no_bar_behind}
use Rattle.md_bar.proofs.class_reader.numbered_bar.Goals as goal

pub returns-in_default-behind_space : goal.returns-in_default-behind_space
returns-in_default-behind_space c = no_space c.args.text.now c.in-Some.tail.now c.in-Some.number c.in-Some.ensures.cut c.in_default-behind_space.ensures.behind

pub returns-in-None : goal.returns-in-None
returns-in-None c =
    no_bar_behind c.args.text.now c.in-Some.tail.now c.in-Some.number c.in-Some.ensures.cut c.in-Some-behind_space.behind.now c.in-Some-behind_space.ensures.behind
    (MatchOption-at_none _ _ c.in-None.is c.in_ok-bar.ensures)
