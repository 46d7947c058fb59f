use Rattle.std.proofs.Common.{subst}
use Rattle.md_top.specs.Sinks.{sink_run, PutsWhole}
use Rattle.md_top.proofs.Lines.{one_line}
use Rattle.md_top.proofs.put.put_text.Goals as goal

pub returns-clause-puts : goal.returns-clause-puts
returns-clause-puts g c p line is may =
    one_line p line _ _ _ _ _ may (subst (λ bytes. PutsWhole bytes c.put_piece.result (sink_run g.O.Sink c.args.out.now c.put_piece.new.out)) is c.put_piece.ensures.puts)
