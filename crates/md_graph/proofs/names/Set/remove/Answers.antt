use Rattle.std.proofs.Common.{◌*◌, ◌∙◌, ap, rules}
use Rattle.std.specs.FinSet as set
use Rattle.md_graph.proofs.BitWords.{remove_name}
use Rattle.md_graph.proofs.names.Set.remove.Goals as goal

pub returns : goal.returns
returns g c = record {
  changed =
      remove_name c.self.inside.words (64 * g.row.W) c.args.v (search rules)
      ∙ ap (λ s. set.remove s c.args.v) c.self.view_is;
}
