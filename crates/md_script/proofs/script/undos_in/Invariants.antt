use Rattle.std.proofs.Common.{◌≡◌, take}
use Rattle.std.specs.List.{count_by}
use Rattle.md_script.specs.Items.{is_undo}
use Rattle.md_script.proofs.script.undos_in.Given as goal

abbrev pub invariant-loop-item : goal.invariant-loop-item
invariant-loop-item l = l.count ≡ count_by is_undo (take l.item-index l.items)
