use Rattle.std.proofs.Common.{◌≡◌, ◌+◌, ◌∙◌, sym, ap, arith}
use Rattle.std.specs.FinSet.{empty, len, len-empty}
use Rattle.std.specs.Ordering.{nat_cmp}
use Rattle.md_graph.specs.Sets.{only_name}
use Rattle.md_graph.proofs.Search.{len_more}
use Rattle.md_graph.proofs.SetLemmas.{empty_lacks}
use Rattle.md_modules.specs.Blocks.{held_names}
use Rattle.md_modules.proofs.compact_set.CompactSet.count.Goals as goal

pub returns-in-One : goal.returns-in-One
returns-in-One g c = record {
  value =
      let v = c.in-One.field-0 in
      let none : len (empty {R = nat_cmp}) ≡ 0 = len-empty nat_cmp in
      let one : len (only_name v) ≡ len (empty {R = nat_cmp}) + 1 = len_more empty v (empty_lacks v) in
      let same : len (only_name v) ≡ len c.args.self.now = ap len (sym (ap (held_names g.row.W) c.in-One.is) ∙ c.self.view_is) in
      omega arith;
}
