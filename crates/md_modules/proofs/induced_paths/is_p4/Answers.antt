use Rattle.std.proofs.Common.{◌∙◌}
use Rattle.std.proofs.lemmas.Bool.{le-ltb}
use Rattle.md_modules.proofs.PathSearch.{path_by_edges}
use Rattle.md_graph.proofs.SetLemmas.{clash}
use Rattle.md_modules.proofs.induced_paths.is_p4.Goals as goal
use Rattle.md_modules.proofs.induced_paths.is_p4.Goals.{then-p, else-p}

pub returns-then-has : goal.returns-then-has
returns-then-has g c = record {
  exactly =
      elim c.if-p.branch [
        | then-p w ↦ path_by_edges c.vertices-vertices.ensures.graph c.args.p.now.a c.args.p.now.b c.args.p.now.c c.args.p.now.d w.if-p.true c.has_path_edges.result c.has_path_edges.ensures
        | else-p w ↦ clash c.if-has.true (w.value-is ∙ le-ltb _ _ w.if-p.false)
      ];
}
