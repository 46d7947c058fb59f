-- What holds of scripts: the statements of the laws of `src/laws.rt`.
use Rattle.std.specs.Prelude.{◌≡◌, ℕ, ◌≤◌, List, None, Some}
use Rattle.std.specs.List.{All}
use Rattle.std.specs.List.Sorted.{IsStrictlyIncreasing}
use Rattle.std.specs.FinSet as set
use Rattle.md_graph.specs.declared.TheConstants.{NAMES}
use Rattle.md_graph.specs.NameSet.{AllBelow, IsLeastFrom}
use Rattle.md_graph.specs.PlainGraph.{PlainGraph, IsGraph}
use Rattle.md_script.specs.declared.edit.Edit.{Edit}
use Rattle.md_script.specs.Edit.{HasNames, HasNamesBelow, least_absent, reason_of, after}
use Rattle.md_script.specs.declared.item.Item.{Item}
use Rattle.md_script.specs.Items.{IsScriptItem}
use Rattle.md_script.specs.File.{SpellsScript}
use Rattle.md_script.specs.Pasts.{inverse_of, TakesBack}

-- all names in a script that is spelled are below the number of names, and no item is too large
abbrev pub SpelledHasNames : Type 0
SpelledHasNames = (bytes : List ℕ) (items : List Item) → SpellsScript bytes items → All (IsScriptItem NAMES) items

-- an edit that can be applied to a graph gives a graph
abbrev pub GivesGraph : Type 0
GivesGraph = (g : PlainGraph) (edit : Edit) → IsGraph g → HasNames edit → reason_of g edit ≡ None
    → IsGraph (after g edit)

-- of ascending neighbours the one that is named is the least of those that are no vertices
abbrev pub NamesLeast : Type 0
NamesLeast = (g : PlainGraph) (neighbours : List ℕ) (v : ℕ) → IsStrictlyIncreasing neighbours
    → least_absent g neighbours ≡ Some v
    → IsLeastFrom (set.difference (set.from_list neighbours) g.vertices) 0 v

-- the inverse of an edit takes it back: it can be applied behind the edit, keeps to the names below the limit,
-- and gives the graph again
abbrev pub InversesTakeBack : Type 0
InversesTakeBack = (limit : ℕ) (g : PlainGraph) (edit : Edit) → limit ≤ NAMES → IsGraph g → AllBelow g.vertices limit
    → HasNamesBelow limit edit → reason_of g edit ≡ None → TakesBack limit g edit (inverse_of g edit)
