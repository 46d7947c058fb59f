-- Sessions on a class of graphs: an edit that would make a bar of the class is refused with it, and the graph stays.
-- Source: Golumbic, Trivially perfect graphs (1978), and Chvatal and Hammer, Aggregation of inequalities in integer programming (1977); the
-- lines are this project's.
use Rattle.std.specs.Prelude.{◌≡◌, ◌⊎◌, Option, Some, None}
use Rattle.md_graph.specs.PlainGraph.{PlainGraph, adjacent}
use Rattle.md_bar_tree.specs.declared.Bar.{Bar}
use Rattle.md_bar_tree.specs.declared.Class.{Class}
use Rattle.md_bar_tree.specs.Bars.{IsBar, HasBar}
use Rattle.md_script.specs.declared.edit.EditReason.{EditReason}
use Rattle.md_report.specs.Lines.{PlainLine, tree, applied, refused, refused_bar, barred}
use Rattle.md_report.specs.Sessions.{HasTreeLine}

-- g is of the class: it has no bar of it
abbrev pub IsAllowedIn : Class → PlainGraph → Type 0
IsAllowedIn class g = HasBar class (adjacent g) g.vertices → ⊥

-- the bar is one of the class in g
abbrev pub IsBarOf : Class → PlainGraph → Bar → Type 0
IsBarOf class g bar = IsBar class (adjacent g) g.vertices bar

-- the line is one with a bar of the class in g
abbrev pub HasBarLine : Class → (Bar → PlainLine) → PlainGraph → PlainLine → Type 0
HasBarLine class made g line = (bar : Bar) × IsBarOf class g bar × (line ≡ made bar)

-- the line of the first state: a bar of it, or its tree of strong modules where it is of the class
abbrev pub IsClassOpening : Class → PlainGraph → PlainLine → Type 0
IsClassOpening class g line = HasBarLine class barred g line ⊎ (IsAllowedIn class g × HasTreeLine tree g line)

-- the line of an edit, by the reason against it: the reason; or a bar of the graph h after the edit; or the tree of h where it is of
-- the class
abbrev pub IsClassLineBy : Option EditReason → Class → PlainGraph → PlainLine → Type 0
IsClassLineBy (Some reason) class h line = line ≡ refused reason
IsClassLineBy None class h line = HasBarLine class refused_bar h line ⊎ (IsAllowedIn class h × HasTreeLine applied h line)
