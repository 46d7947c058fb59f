-- Loading stopped at the graph file, or at the script behind it.
use Rattle.std.proofs.Common.{[], ◌∷◌}
use Rattle.md_top.proofs.Loads.{stops_before, stops_behind, stop_handed}
use Rattle.md_top.proofs.subject.load_subject.Goals as goal

pub returns-in_err-graph_file-in-Session-clause-stops : goal.returns-in_err-graph_file-in-Session-clause-stops
returns-in_err-graph_file-in-Session-clause-stops g c =
    rw c.in-Session.is
    (stop_handed _ _ _ _ c.from_residual-in_err-graph_file-in-Session.ensures.1
    (stops_before _ (c.in-Session.graph.now ∷ []) (c.in-Session.script.now ∷ []) _ c.in_err-graph_file-in-Session.ensures.stops))

pub returns-in_err-script_file-in-Session-clause-stops : goal.returns-in_err-script_file-in-Session-clause-stops
returns-in_err-script_file-in-Session-clause-stops g c =
    rw c.in-Session.is
    (stop_handed _ _ _ _ c.from_residual-in_err-script_file-in-Session.ensures.1
    (stops_behind g.F.Files _ _ _ c.load-in-Session.ensures.told (c.in-Session.graph.now ∷ []) (c.in_ok-graph_file-in-Session.graph_file.items ∷ []) (c.in-Session.script.now ∷ [])
    c.in_ok-graph_file-in-Session.ensures.loaded _ c.in_err-script_file-in-Session.ensures.stops))
