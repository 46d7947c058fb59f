use Rattle.std.proofs.Common.{◌*◌, ◌∙◌, ap, rules}
use Rattle.std.specs.FinSet as set
use Rattle.md_graph.proofs.BitWords.{insert_name}
use Rattle.md_graph.proofs.names.Set.insert.Goals as goal

pub returns-then-self-word : goal.returns-then-self-word
returns-then-self-word g c = record {
  changed =
      insert_name c.self.inside.words (64 * g.row.W) c.args.v c.requires.name (search rules)
      ∙ ap (λ s. set.insert s c.args.v) c.self.view_is;
}

pub returns-else-self-word : goal.returns-else-self-word
returns-else-self-word g c = record {
  changed =
      insert_name c.self.inside.words (64 * g.row.W) c.args.v c.requires.name (search rules)
      ∙ ap (λ s. set.insert s c.args.v) c.self.view_is;
}
