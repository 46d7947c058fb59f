-- A text that is put whole is a line put whole.
use Rattle.std.proofs.Common.{ℕ, List, subst}
use Rattle.md_dcheck.specs.DirectedReports.{fed_directed_line, MayComeDirected, next_directed}
use Rattle.md_top.specs.Sinks.{sink_run, PutsWhole}
use Rattle.md_top.proofs.LinesBy.{one_line_by}
use Rattle.md_top.proofs.directed.put_line.Goals as goal

pub returns-clause-puts : goal.returns-clause-puts
returns-clause-puts g c p line may is =
    one_line_by MayComeDirected next_directed fed_directed_line p line _ _ _ _ _ may
    (subst (λ (t : List ℕ). PutsWhole t c.put_piece.result (sink_run g.O.Sink c.args.out.now c.put_piece.new.out)) is c.put_piece.ensures.puts)
