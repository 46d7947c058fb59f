use Rattle.std.proofs.lemmas.Option.{MatchOption-at_some, MatchOption-at_none}
use Rattle.md_bar.proofs.Texts.{no_names, bar_spelled}
use Rattle.md_bar.proofs.class_reader.bar_of_text.Goals as goal

pub returns-in-Some-2 : goal.returns-in-Some-2
returns-in-Some-2 c =
    let list = MatchOption-at_some _ _ _ c.in-Some-2.is c.in_ok-list.ensures.read in
    bar_spelled c.args.text.now c.in-Some.behind.now c.in-Some.kind c.in-Some.ensures c.in-Some-2.list.items _ _ c.deref.ensures.value list.0 list.1 c.bar_of_names.ensures

pub returns-in-None : goal.returns-in-None
returns-in-None c = no_names c.args.text.now c.in-Some.behind.now c.in-Some.kind c.in-Some.ensures (MatchOption-at_none _ _ c.in-None.is c.in_ok-list.ensures.read)
