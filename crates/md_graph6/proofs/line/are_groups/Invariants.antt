use Rattle.std.proofs.Common.{◌≡◌, nat_lt, take}
use Rattle.std.specs.List.{list_all}
use Rattle.md_graph6.specs.Line.{is_group}
use Rattle.md_graph6.proofs.line.are_groups.Given as goal

abbrev pub invariant-loop-byte : goal.invariant-loop-byte
invariant-loop-byte l = list_all is_group (take l.byte-index l.line) ≡ nat_lt l.joined 64
