use Rattle.std.proofs.Common.{◌≡◌, None, sym, ◌∙◌, subst}
use Rattle.md_script.specs.Edit.{reason_of}
use Rattle.md_cotree.specs.Cotrees.{Denotes}
use Rattle.md_cotree.proofs.NoPaths.{cotree_no_path}
use Rattle.md_session.proofs.MadePaths.{applied_to}
use Rattle.md_session.proofs.cograph_items.step.Goals as goal

pub change-requires-clause-denotes : goal.change-requires-clause-denotes
change-requires-clause-denotes g c = (c.args.graph.now, c.requires.denotes, sym c.reason.ensures ∙ c.in_default.is)

pub returns-clause-answer : goal.returns-clause-answer
returns-clause-answer g c =
    let s = c.args.graph.now in
    let none : reason_of s c.args.edit.now ≡ None = sym c.reason.ensures ∙ c.in_default.is in
    let den : Denotes c.change.new.tree c.apply.new.graph = subst (Denotes c.change.new.tree) (sym c.apply.ensures) (c.change.ensures.done s c.requires.denotes none c.if-not-change.false) in
    applied_to s c.args.edit.now none c.apply.new.graph c.apply.ensures (cotree_no_path c.change.new.tree c.apply.new.graph den)
