-- What a session is over: the graph, the script, and the names that there is room for.
-- Source: our own.
use Rattle.std.specs.Prelude.{List}
use Rattle.std.specs.List.{All}
use Rattle.md_graph.specs.declared.TheConstants.{NAMES}
use Rattle.md_graph.specs.PlainGraph.{PlainGraph}
use Rattle.md_script.specs.declared.item.Item.{Item}
use Rattle.md_script.specs.Items.{HasItemNamesBelow}
use Rattle.md_input.specs.declared.inputs.SessionInputs.{SessionInputs}
use Rattle.md_input.specs.declared.inputs.SessionInputs.TheVariants.{Broad, Large}
use Rattle.md_input.specs.declared.room.TheConstants.{BROAD}

-- the graph
abbrev pub graph_of_inputs : SessionInputs → PlainGraph
graph_of_inputs (Broad graph script) = graph
graph_of_inputs (Large graph script) = graph

-- the script
abbrev pub script_of_inputs : SessionInputs → List Item
script_of_inputs (Broad graph script) = script
script_of_inputs (Large graph script) = script

-- the rows of the graph have room for the names in the script
abbrev pub HaveRoom : SessionInputs → Type 0
HaveRoom (Broad graph script) = All (HasItemNamesBelow BROAD) script
HaveRoom (Large graph script) = All (HasItemNamesBelow NAMES) script
