-- The load of a file is that of a list of one file.
use Rattle.std.proofs.Common.{refl, arith}
use Rattle.md_top.proofs.Loads.{one_load, one_stop, stop_handed}
use Rattle.md_top.proofs.load.load.Goals as goal

pub returns-in_err-file-clause-stops : goal.returns-in_err-file-clause-stops
returns-in_err-file-clause-stops g c =
    stop_handed _ _ _ _ c.from_residual.ensures.1
    (one_stop g.F.Files _ _ c.args.name.now c.load.result c.load.ensures.asked c.load.ensures.faults_only c.load.ensures.sure_faults c.load.ensures.sure_stays
    _ c.in_err-file.was _ refl c.load.ensures.failed (λ err. c.load.ensures.too_long_over err (omega arith)) c.load.ensures.too_long_told (g.met.F.Files.sure_below _))

pub returns-clause-loaded : goal.returns-clause-loaded
returns-clause-loaded g c =
    one_load g.F.Files _ _ c.args.name.now c.load.result c.load.ensures.asked c.load.ensures.faults_only c.load.ensures.sure_faults c.load.ensures.sure_stays
    c.in_ok-file.file c.in_ok-file.was c.in_ok-file.ensures.content c.in_ok-file.ensures.within c.load.ensures.overs_never_fall
