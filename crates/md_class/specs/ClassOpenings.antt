-- What a session on a class of graphs is opened with.
-- Source: Golumbic, Trivially perfect graphs (1978), and Chvatal and Hammer, Aggregation of inequalities in integer programming (1977); the
-- sessions are this project's.
use Rattle.std.specs.Prelude.{◌≡◌, ℕ}
use Rattle.md_graph.specs.PlainGraph.{PlainGraph}
use Rattle.md_bar_tree.specs.declared.Class.{Class}
use Rattle.md_report.specs.Classes.{IsAllowedIn, IsBarOf}
use Rattle.md_class.specs.declared.session.ClassOpenedOf as opened
use Rattle.md_class.specs.declared.session.ClassOpenedOf.TheVariants.{Session, Barred}

-- a session is opened on a graph without a bar of the class, and has that graph and class; of any other graph a bar is told
abbrev pub IsClassOpened : {w : ℕ} → PlainGraph → Class → opened.ClassOpenedOf w → Type 0
IsClassOpened g class (Session s) = (s ≡ record { graph = g; class = class }) × IsAllowedIn class g
IsClassOpened g class (Barred bar) = IsBarOf class g bar
