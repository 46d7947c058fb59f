use Rattle.md_graph.specs.PlainGraph.{adjacent}
use Rattle.md_checker.proofs.GraphTexts.{parallel_joined, series_joined}
use Rattle.md_checker.proofs.text_fit.GraphOfTextGraphKindPair.are_joined.Goals as goal

pub returns-in-Parallel : goal.returns-in-Parallel
returns-in-Parallel g c = record { joined = parallel_joined c.args.kind (adjacent c.args.self.now c.args.v c.args.w) c.has_edge.result c.in-Parallel.is c.has_edge.ensures.value }

pub returns-in-Series : goal.returns-in-Series
returns-in-Series g c = record { joined = series_joined c.args.kind (adjacent c.args.self.now c.args.v c.args.w) c.has_edge-in-Series.result c.in-Series.is c.has_edge-in-Series.ensures.value }
