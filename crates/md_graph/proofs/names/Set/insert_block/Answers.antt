use Rattle.std.proofs.Common.{refl, ◌*◌, ◌∙◌, ap, rules}
use Rattle.std.specs.FinSet as set
use Rattle.md_graph.specs.NameSet.{block}
use Rattle.md_graph.proofs.BitWords.{insert_block}
use Rattle.md_graph.proofs.names.Set.insert_block.Goals as goal

pub returns-then-self-block : goal.returns-then-self-block
returns-then-self-block g c = record {
  changed =
      insert_block c.self.inside.words (64 * g.row.W) g.row.W c.args.first c.args.bits refl c.requires.name c.requires.aligned (search rules)
      ∙ ap (λ s. set.union s (block c.args.first c.args.bits)) c.self.view_is;
}

pub returns-else-self-block : goal.returns-else-self-block
returns-else-self-block g c = record {
  changed =
      insert_block c.self.inside.words (64 * g.row.W) g.row.W c.args.first c.args.bits refl c.requires.name c.requires.aligned (search rules)
      ∙ ap (λ s. set.union s (block c.args.first c.args.bits)) c.self.view_is;
}
