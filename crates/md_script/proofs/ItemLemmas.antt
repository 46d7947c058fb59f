-- Items of scripts.
use Rattle.std.specs.Prelude.{◌≤◌, List, [], ◌∷◌, length}
use Rattle.std.specs.List.{sum_by}
use Rattle.std.proofs.Common.{arith}
use Rattle.std.proofs.lemmas.List.Sums.{sum_by-cons}
use Rattle.md_script.specs.declared.item.Item.{Item}
use Rattle.md_script.specs.declared.item.Item.TheVariants.{One, Undo, Group}
use Rattle.md_script.specs.Items.{item_size}

-- each item has a line that counts
some_size : (item : Item) → 1 ≤ item_size item
some_size (One edit) = omega arith
some_size Undo = omega arith
some_size (Group edits) = omega arith

pub items_few : (items : List Item) → length items ≤ sum_by item_size items
items_few [] = omega arith
items_few (item ∷ items) =
    let rest = items_few items in
    let some = some_size item in
    let cons = sum_by-cons item_size item items in
    omega arith
