use Rattle.std.proofs.Common.{◌≡◌, ◌+◌, length}
use Rattle.md_digraph6.specs.ArcFile.{digraphs_of}
use Rattle.md_example.proofs.PutLines.{Leads}
use Rattle.md_example.proofs.directed.tree_lines.Given as goal

abbrev pub invariant-loop : goal.invariant-loop
invariant-loop l = record {
  long : length l.lines + l.counter ≡ l.count;
  leads : Leads (digraphs_of l.bytes) l.lines l.text.items;
}
