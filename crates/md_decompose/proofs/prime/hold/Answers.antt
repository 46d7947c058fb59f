use Rattle.std.proofs.Common.{sym, ◌∙◌, ap, rules}
use Rattle.std.specs.FinSet.{insert}
use Rattle.md_graph.proofs.SetLemmas.{insert_old, insert_within, Has-along}
use Rattle.md_modules.proofs.Modules.{undirected}
use Rattle.md_modules.proofs.Turns.{graph_adjacency}
use Rattle.md_decompose.proofs.ChildLemmas.{grow_seen, hold_among}
use Rattle.md_decompose.proofs.prime.hold.Goals as goal

pub grow-requires : goal.grow-requires
grow-requires g c =
    let todo = c.insert.ensures.changed ∙ ap (λ s. insert s c.args.j) c.none-todo.ensures.value in (
      search rules,
      (
        search rules,
        (
          c.requires.inside,
          (
            λ x h. insert_within c.args.held.now c.args.set.now c.args.j c.requires.begun.inside c.requires.member x (Has-along _ _ c.insert-2.ensures.changed x h),
            (
              Has-along _ _ (sym c.insert-2.ensures.changed) c.args.v (insert_old c.args.held.now c.args.j c.args.v c.requires.fixed),
              (
                hold_among c.args.held.now c.insert-2.new.self c.insert.new.self c.args.j c.insert-2.ensures.changed todo,
                grow_seen (undirected (graph_adjacency c.vertices-vertices.ensures.graph)) c.args.set.now c.args.held.now c.insert-2.new.self c.insert.new.self c.args.v c.args.j
                    c.requires.begun c.requires.fixed c.insert-2.ensures.changed todo,
              ),
            ),
          ),
        ),
      ),
    )
