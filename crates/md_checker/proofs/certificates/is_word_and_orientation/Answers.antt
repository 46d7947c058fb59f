use Rattle.std.proofs.Common.{rules, ◌++◌, length, refl, subst, eqb-true, eq-eqb, ◌∙◌, ap}
use Rattle.std.proofs.lemmas.Slice.Eq.{strip_prefix_is}
use Rattle.md_graph.specs.PlainGraph.{adjacent}
use Rattle.md_comparability.specs.Listed.{arcs_below}
use Rattle.md_comparability.specs.Walking.{IsClassOrChosen, HasArcRoom}
use Rattle.md_tree.proofs.Stacking.{if_ok}
use Rattle.md_checker.proofs.ArcTexts.{chosen_within}
use Rattle.md_checker.proofs.InStep.{whole_listed}
use Rattle.md_checker.proofs.certificates.is_word_and_orientation.Goals as goal

pub spells_arcs-requires : goal.spells_arcs-requires
spells_arcs-requires g c =
    let within = chosen_within c.vertices-vertices.ensures.graph c.in-Whole.chosen (subst (IsClassOrChosen (adjacent c.args.graph.now)) c.in-Whole.is c.in_ok-orient_classes.ensures.ending) (subst (HasArcRoom c.args.graph.now.vertices) c.in-Whole.is c.in_ok-orient_classes.ensures.room) in
    (search rules, within)

pub returns : goal.returns
returns g c =
    let chosen = c.in-Whole.chosen in
    let p = strip_prefix_is (λ a b. (eqb-true a b, eq-eqb a b)) c.args.text.now _ c.strip_prefix.result c.strip_prefix.ensures.cases in
    let is = c.in-Some.is in
    let cut = rw is at p in
    let all = arcs_below chosen (length chosen) in
    let least = (whole_listed c.vertices-vertices.ensures.graph chosen (subst (IsClassOrChosen (adjacent c.args.graph.now)) c.in-Whole.is c.in_ok-orient_classes.ensures.ending) all).0 refl in
    if_ok c.spells_arcs.result (λ is spelled yes. (all, least.0, least.1, cut ∙ ap (λ l. c.args.word.now ++ l) (spelled yes))) c.spells_arcs.ensures
