use Rattle.std.proofs.Common.{◌≡◌, ◌≤◌, [], ◌∷◌, ◌++◌, not, inr, refl, sym, ◌∙◌, ap, ap₂, subst, arith, append_assoc}
use Rattle.std.specs.FinSet.{len, difference}
use Rattle.md_graph.specs.PlainGraph.{adjacent}
use Rattle.md_modules.specs.Kinds.{IsSplit}
use Rattle.md_modules.proofs.Turns.{graph_adjacency}
use Rattle.md_checker.specs.declared.cograph_test.Unsplit.{Unsplit}
use Rattle.md_checker.proofs.Splitting.{unsplit_path}
use Rattle.md_checker.proofs.cograph_test.take_apart.Goals as goal

pub returns-in_default-clause-path : goal.returns-in_default-clause-path
returns-in_default-clause-path g c =
    let many : 4 ≤ len c.args.set.names = omega arith in
    λ _. unsplit_path (graph_adjacency c.vertices-vertices.ensures.graph) c.args.set.names many
    (λ v part split. c.in_default.ensures.none v part (subst (λ t. IsSplit (adjacent c.args.graph.now) t part v) (sym c.set_in-names.ensures.value) split))

pub returns-clause-apart : goal.returns-clause-apart
returns-clause-apart g c =
    let e = adjacent c.args.graph.now in
    let s = c.args.set.names in
    let rest : Unsplit g.row.W = record { names = c.in_ok-rest.rest; joined = c.in-Some.joined } in
    let part : Unsplit g.row.W = record { names = c.in_ok-part.part; joined = not c.in-Some.joined } in
    let same : c.in_ok-part.part ≡ c.split.new.part = c.in_ok-part.ensures.made in
    λ _. (
      rest ∷ part ∷ [],
      c.in_ok-push-2.ensures.items ∙ ap (λ us. us ++ part ∷ []) c.in_ok-push.ensures.items ∙ append_assoc c.args.left.now.items (rest ∷ []) (part ∷ []),
      inr (
        rest,
        part,
        c.in-Some.joined,
        refl,
        subst (λ t. IsSplit e t c.in_ok-part.part c.in-Some.joined) c.set_in-names.ensures.value (subst (λ t. IsSplit e c.set_in-names.result.now t c.in-Some.joined) (sym same) c.in-Some.ensures.split),
        c.in_ok-rest.ensures.made ∙ c.minus.ensures.value ∙ ap₂ difference c.set_in-names.ensures.value (sym same),
      ),
    )
