-- What comes of an item of a session on a class of graphs.
-- Source: Golumbic, Trivially perfect graphs (1978), and Chvatal and Hammer, Aggregation of inequalities in integer programming (1977); the
-- answers are this project's.
use Rattle.std.specs.Prelude.{◌≡◌, ℕ, Bool, true, false, List, Option}
use Rattle.md_graph.specs.PlainGraph.{PlainGraph, adjacent}
use Rattle.md_tree.specs.Plain.{plain_option}
use Rattle.md_tree.specs.StrongTrees.{IsTree}
use Rattle.md_tree.specs.Trees.{PlainTree}
use Rattle.md_outline.specs.Outlines.{outline_option}
use Rattle.md_bar_tree.specs.declared.Class as bars
use Rattle.md_script.specs.declared.edit.Edit as script
use Rattle.md_script.specs.declared.item.Item.{Item}
use Rattle.md_bar.specs.ClassLines.{plain_class_line}
use Rattle.md_report.specs.Lines.{PlainLine, applied}
use Rattle.md_report.specs.Sessions.{is_applied}
use Rattle.md_report.specs.Steps.{ItemStep}
use Rattle.md_report.specs.declared.line.SessionMode.TheVariants.{Of}
use Rattle.md_class.specs.declared.answers.ClassAnswer as told
use Rattle.md_class.specs.declared.answers.ClassAnswer.TheVariants as class_answers
use Rattle.md_class.specs.declared.answers.ItemAnswer.{ItemAnswer}
use Rattle.md_class.specs.declared.answers.ItemAnswer.TheVariants as answers
use Rattle.md_class.specs.declared.answers.Told.{Told}
use Rattle.md_class.specs.declared.answers.Told.TheVariants.{Tree, Outline}

-- what is told of the tree t: it, where it is asked for whole, else its outline
abbrev pub Tells : Bool → Option PlainTree → Told → Type 0
Tells true t (Tree tree) = t ≡ plain_option tree
Tells true t (Outline parts) = ⊥
Tells false t (Tree tree) = ⊥
Tells false t (Outline parts) = parts.items ≡ outline_option t

-- the same of the tree of g
abbrev pub IsToldOf : Bool → PlainGraph → Told → Type 0
IsToldOf whole g told = (t : Option PlainTree) × IsTree (adjacent g) g.vertices t × Tells whole t told

-- the item at g is refused with this line, and graph and history stay
abbrev pub IsItemRefusal : ℕ → bars.Class → PlainGraph → List (List script.Edit) → Item → PlainLine → PlainGraph → List (List script.Edit) → Type 0
IsItemRefusal limit class g items item line next left = (is_applied line ≡ false) × ItemStep limit (Of class) g items item line next left

-- what comes of an item at g with a history of these items: it is applied, and the tree of the graph behind it is told; or it is refused
abbrev pub IsItemAnswer : ℕ → bars.Class → Bool → PlainGraph → List (List script.Edit) → Item → ItemAnswer → PlainGraph → List (List script.Edit) → Type 0
IsItemAnswer limit class whole g items item (answers.Applied told) next left =
    (t : Option PlainTree) × IsTree (adjacent next) next.vertices t × Tells whole t told × ItemStep limit (Of class) g items item (applied t) next left
IsItemAnswer limit class whole g items item (answers.Refused line) next left = IsItemRefusal limit class g items item (plain_class_line line) next left

-- the same for callers that write the line from an outline: that of the tree of the graph behind an item that is applied
abbrev pub IsClassAnswer : ℕ → bars.Class → PlainGraph → List (List script.Edit) → Item → told.ClassAnswer → PlainGraph → List (List script.Edit) → Type 0
IsClassAnswer limit class g items item (class_answers.Applied parts) next left =
    (t : Option PlainTree) × IsTree (adjacent next) next.vertices t × (parts.items ≡ outline_option t) × ItemStep limit (Of class) g items item (applied t) next left
IsClassAnswer limit class g items item (class_answers.Refused line) next left = IsItemRefusal limit class g items item (plain_class_line line) next left
