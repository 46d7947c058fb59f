use Rattle.std.proofs.Common.{None, ap, refl, rules}
use Rattle.md_tree_tests.proofs.outlines.check_empty.Goals as goal

pub push_text_by_rows-requires : goal.push_text_by_rows-requires
push_text_by_rows-requires g c = (search rules, (None, ap (λ h. h.vertices) c.in_ok-graph.ensures.made, refl))
