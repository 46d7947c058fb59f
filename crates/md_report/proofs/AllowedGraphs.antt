-- Graphs of a class are cographs.
use Rattle.md_graph.specs.PlainGraph.{PlainGraph}
use Rattle.md_bar_tree.specs.declared.BarKind.TheVariants as kinds
use Rattle.md_bar_tree.specs.declared.Class.{Class}
use Rattle.md_report.specs.Cographs.{IsCograph}
use Rattle.md_report.specs.Classes.{IsAllowedIn}

pub allowed_cograph : (class : Class) (g : PlainGraph) → IsAllowedIn class g → IsCograph g
allowed_cograph class g free path = free (record { kind = kinds.P4; a = path.0; b = path.1; c = path.2; d = path.3 }, record { bars = tt; is = path.4 })
