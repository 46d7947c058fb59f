-- What a session that keeps its tree answers to an item, and how many steps an edit of an edge may take.
-- Source: Shamir and Sharan, A fully dynamic algorithm for modular decomposition and recognition of cographs; the answers are this project's.
use Rattle.std.specs.Prelude.{◌≡◌, ◌≢◌, ℕ, ◌+◌, ◌≤◌, Bool, true, List, [], ◌∷◌, Option, Some, None}
use Rattle.std.specs.FinSet.{len}
use Rattle.md_graph.specs.Sets.{NameSet, Has}
use Rattle.md_graph.specs.PlainGraph.{PlainGraph, adjacent}
use Rattle.md_tree.specs.Trees.{PlainTree}
use Rattle.md_tree.specs.Plain.{plain_option}
use Rattle.md_tree.specs.StrongTrees.{IsTree}
use Rattle.md_script.specs.declared.edit.Edit as script
use Rattle.md_script.specs.declared.edit.Edit.TheVariants.{AddEdge, DelEdge}
use Rattle.md_script.specs.declared.item.Item.{Item}
use Rattle.md_script.specs.declared.item.Item.TheVariants.{One}
use Rattle.md_local.specs.Changes.{IsLeastStrong}
use Rattle.md_local.specs.Edits.{IsEdited}
use Rattle.md_report.specs.declared.line.SessionMode.TheVariants.{Edit}
use Rattle.md_report.specs.Lines.{PlainLine, applied, refused, group_refused, nothing_to_undo}
use Rattle.md_report.specs.Steps.{ItemStep}
use Rattle.md_session.specs.declared.local_items.LocalAnswer.{LocalAnswer}
use Rattle.md_session.specs.declared.local_items.LocalAnswer.TheVariants as answers
use Rattle.md_session.specs.declared.local_items.NewTree.{NewTree}

-- the line that an answer and the tree of the graph behind it make
abbrev pub line_of_answer : LocalAnswer → Option PlainTree → PlainLine
line_of_answer answers.Applied t = applied t
line_of_answer (answers.Refused reason) t = refused reason
line_of_answer (answers.GroupRefused number reason) t = group_refused number reason
line_of_answer answers.NothingToUndo t = nothing_to_undo

-- one step of a session over an item, whose line is that of the answer with the tree of the graph behind it
abbrev pub IsLocalStep : ℕ → PlainGraph → List (List script.Edit) → Item → LocalAnswer → PlainGraph → List (List script.Edit) → Type 0
IsLocalStep limit g items item answer h left =
    (t : Option PlainTree) → IsTree (adjacent h) h.vertices t → ItemStep limit Edit g items item (line_of_answer answer t) h left

-- the ends of the edge that an edit gives or takes, if it does
abbrev pub edge_ends : script.Edit → Option (ℕ × ℕ)
edge_ends (AddEdge u v) = Some (u, v)
edge_ends (DelEdge u v) = Some (u, v)
edge_ends _ = None

-- the edit is that the edge between u and v comes or goes
abbrev pub IsEdgeEdit : script.Edit → ℕ → ℕ → Type 0
IsEdgeEdit edit u v = edge_ends edit ≡ Some (u, v)

-- an edit of one edge at g takes at most as many steps as the least strong module of g that holds both ends has names
abbrev pub TakesFew : PlainGraph → Item → ℕ → ℕ → Type 0
TakesFew g item before now =
    (edit : script.Edit) (u v : ℕ) (w : NameSet) → item ≡ One edit → IsEdgeEdit edit u v → IsLeastStrong (adjacent g) g.vertices u v w → now ≤ before + len w

-- the last item is one edit, of the edge between u and v
abbrev pub IsLastEdge : List (List script.Edit) → ℕ → ℕ → Type 0
IsLastEdge items u v =
    (last : List script.Edit) (others : List (List script.Edit)) → items ≡ last ∷ others → (edit : script.Edit) × (last ≡ edit ∷ []) × IsEdgeEdit edit u v

-- a new tree is that of g, and so is its copy where one is wanted
pub record IsNewTree (copies : Bool) (g : PlainGraph) (new : NewTree) : Type 0 where
  pub tree : IsTree (adjacent g) g.vertices (plain_option new.tree)
  pub copy : copies ≡ true → plain_option new.copy ≡ plain_option new.tree

-- the tree is that of a graph from which g differs at most by the edge between the two vertices u and v
pub record MayRebuild (g : PlainGraph) (t : Option PlainTree) (u v : ℕ) : Type 0 where
  pub differ : u ≢ v
  pub left : Has g.vertices u
  pub right : Has g.vertices v
  pub before : PlainGraph
  pub edited : IsEdited before g u v
  pub tree : IsTree (adjacent before) before.vertices t

-- the steps are at most as many as the least strong module that held u and v has names
abbrev pub HasFewSteps : PlainGraph → Option PlainTree → ℕ → ℕ → ℕ → ℕ → Type 0
HasFewSteps g t u v before now =
    (h : PlainGraph) (w : NameSet) → IsEdited h g u v → IsTree (adjacent h) h.vertices t → IsLeastStrong (adjacent h) h.vertices u v w → now ≤ before + len w
