use Rattle.std.proofs.Common.{◌≡◌, None, MatchOption, subst}
use Rattle.md_text.specs.Spelling.{SpellsOnly, SpellsNone}
use Rattle.md_digraph6.specs.ArcFile.{SpellsDigraphs, first_arc_fault, digraphs_of}
use Rattle.md_digraph6.proofs.ArcFiles.{spelled_or_arc_fault, spelled_are_digraphs}
use Rattle.md_format_tests.proofs.clients.count_digraphs.Goals as goal

pub returns-in-Ok-clause-counted : goal.returns-in-Ok-clause-counted
returns-in-Ok-clause-counted c =
    let bytes = c.args.bytes.now in
    let spelled = subst (λ fault. MatchOption fault (SpellsOnly SpellsDigraphs bytes (digraphs_of bytes)) (λ _. SpellsNone SpellsDigraphs bytes))
    c.in-Ok.ensures.sound (spelled_or_arc_fault bytes) in
    (digraphs_of bytes, spelled.spells, c.in-Ok.ensures.count)

pub returns-in-Err-clause-none : goal.returns-in-Err-clause-none
returns-in-Err-clause-none c = λ digraphs spells.
    let none : first_arc_fault c.args.bytes.now ≡ None = (spelled_are_digraphs c.args.bytes.now digraphs spells).0 in
    let fault = c.in-Err.ensures.fault in
    cc
