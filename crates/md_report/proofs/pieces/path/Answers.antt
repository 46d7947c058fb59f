use Rattle.std.proofs.Common.{◌∷◌, []}
use Rattle.std.proofs.lemmas.Option.{MatchOption-at_some, MatchOption-at_none}
use Rattle.md_report.proofs.Behind.{path_spelled}
use Rattle.md_report.proofs.pieces.path.Goals as goal

pub returns-in-Some : goal.returns-in-Some
returns-in-Some c =
    let list = MatchOption-at_some _ _ _ c.in-Some.is c.in_ok-list.ensures.read in
    path_spelled c.args.text.now c.in-Some.list.items _ _ c.deref.ensures.value list.0 list.1 c.path_of.ensures

pub returns-in-None : goal.returns-in-None
returns-in-None c p is = MatchOption-at_none _ _ c.in-None.is c.in_ok-list.ensures.read (p.a ∷ p.b ∷ p.c ∷ p.d ∷ []) is.names
