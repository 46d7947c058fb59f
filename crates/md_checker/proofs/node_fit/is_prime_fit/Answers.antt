use Rattle.std.proofs.Common.{rules, refl, sym, subst, get_or, ◌<◌, ◌*◌}
use Rattle.std.proofs.lemmas.List.Elements.{All-from_get_or}
use Rattle.md_graph.specs.Sets.{Within}
use Rattle.md_graph.proofs.SetLemmas.{clash}
use Rattle.md_modules.specs.Modules.{HasTrivialModulesAlone}
use Rattle.md_tree.proofs.Stacking.{if_ok}
use Rattle.md_checker.proofs.FitRows.{listed_set_within}
use Rattle.md_checker.proofs.Twins.{rest_others}
use Rattle.md_checker.proofs.node_fit.is_prime_fit.Goals as goal

pub from_list-all-requires : goal.from_list-all-requires
from_list-all-requires g c =
    (search rules, (All-from_get_or (λ v. v < 64 * g.row.W) c.args.heads.now 0 (λ i low. c.vertices-vertices.ensures.below (get_or c.args.heads.now i 0) (c.requires.heads.members i low)), c.vertices-vertices.ensures.limit))

pub has_trivial_modules_alone-requires : goal.has_trivial_modules_alone-requires
has_trivial_modules_alone-requires g c =
    let view = g.G.TextGraph.view c.args.graph.now in
    (search rules, subst (λ s. Within s view.vertices) (sym c.from_list-all.ensures.members) (listed_set_within view.vertices c.args.heads.now c.requires.heads.members))

pub returns-then-not-are_alike : goal.returns-then-not-are_alike
returns-then-not-are_alike g c = record {
  others = rest_others c.args.live.now c.from_list-all.result _ c.args.heads.now c.from_list-all.ensures.members c.minus.ensures.value;
  fit = (λ f. clash f refl, λ two. clash (c.are_alike.ensures.1 two.0) c.if-not-are_alike.true);
}

pub returns : goal.returns
returns g c =
    let view = g.G.TextGraph.view c.args.graph.now in
    record {
      others = rest_others c.args.live.now c.from_list-all.result _ c.args.heads.now c.from_list-all.ensures.members c.minus.ensures.value;
      fit = if_ok c.has_trivial_modules_alone.result
          (λ fit told. (
            λ yes. (c.are_alike.ensures.0 c.if-not-are_alike.false, subst (HasTrivialModulesAlone view.colours) c.from_list-all.ensures.members (told.0 yes)),
            λ two. told.1 (subst (HasTrivialModulesAlone view.colours) (sym c.from_list-all.ensures.members) two.1),
          )) c.has_trivial_modules_alone.ensures.trivial;
    }
