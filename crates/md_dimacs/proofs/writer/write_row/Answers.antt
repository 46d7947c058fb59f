use Rattle.std.proofs.lemmas.Result.{on_ok_weaker}
use Rattle.std.proofs.Common.{ap, ◌∙◌, ◌++◌, rules}
use Rattle.md_dimacs.proofs.RowLemmas.{row_there, lines_from}
use Rattle.md_dimacs.proofs.writer.write_row.Goals as goal

pub write_members-requires : goal.write_members-requires
write_members-requires g c =
    (search rules, row_there c.args.graph.now c.neighbours.ensures.graph c.args.v c.args.places.now c.requires.places c.neighbours.result.now c.neighbours.ensures.set)

pub returns : goal.returns
returns g c =
    on_ok_weaker c.write_members.result
    (λ put. put ∙ ap (λ l. (c.args.text.now.items ++ c.args.chunk.now) ++ l) (lines_from c.args.graph.now c.neighbours.ensures.graph c.args.v c.args.places.now c.requires.places c.neighbours.result.now c.neighbours.ensures.set _ c.requires.start)) c.write_members.ensures.written
