-- How many steps an item of a session on cographs may take.
-- Source: Corneil, Perl and Stewart, A linear recognition algorithm for cographs; the numbers are this project's.
use Rattle.std.specs.Prelude.{ℕ, ◌+◌, ◌*◌, List, [], ◌∷◌, take}
use Rattle.md_graph.specs.PlainGraph.{PlainGraph}
use Rattle.md_script.specs.declared.edit.Edit.{Edit}
use Rattle.md_script.specs.declared.item.Item.{Item}
use Rattle.md_script.specs.declared.item.Item.TheVariants.{One, Undo, Group}
use Rattle.md_script.specs.Edit.{after}
use Rattle.md_cograph.specs.EditCosts.{edit_cost, back_cost}
use Rattle.md_session.specs.declared.cograph_items.ItemAnswer.{ItemAnswer}
use Rattle.md_session.specs.declared.cograph_items.ItemAnswer.TheVariants.{GroupRefused, GroupRefusedP4}

-- how many steps edits that are applied to g one after the other may take
abbrev pub edits_cost : PlainGraph → List Edit → ℕ
edits_cost g [] = 0
edits_cost g (edit ∷ edits) = edit_cost g edit + edits_cost (after g edit) edits

-- how many steps the edits of a group may take that are tried, by the answer to it: those up to the one that is refused, or all
abbrev pub tried_cost : PlainGraph → List Edit → ItemAnswer → ℕ
tried_cost g edits (GroupRefused number reason) = edits_cost g (take number edits)
tried_cost g edits (GroupRefusedP4 number p) = edits_cost g (take number edits)
tried_cost g edits _ = edits_cost g edits

-- how many steps a group may take: what its edits take; where it is refused, twice what those take that are tried
abbrev pub group_cost : PlainGraph → List Edit → ItemAnswer → ℕ
group_cost g edits (GroupRefused number reason) = 2 * tried_cost g edits (GroupRefused number reason)
group_cost g edits (GroupRefusedP4 number p) = 2 * tried_cost g edits (GroupRefusedP4 number p)
group_cost g edits _ = edits_cost g edits

-- how many steps an undo may take: what the edits take by which the last item is taken back
abbrev pub undo_cost : PlainGraph → List (List Edit) → ℕ
undo_cost g [] = 0
undo_cost g (last ∷ others) = back_cost g last

-- how many steps an item of a session on cographs may take, whose graph is g, with a history of these items
abbrev pub item_cost : PlainGraph → List (List Edit) → Item → ItemAnswer → ℕ
item_cost g items (One edit) answer = edit_cost g edit
item_cost g items (Group edits) answer = group_cost g edits answer
item_cost g items Undo answer = undo_cost g items
