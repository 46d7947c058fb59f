use Rattle.std.proofs.Common.{◌≡◌, ◌<◌, ◌++◌, ◌∷◌, [], slice_set, length, ◌∙◌, ap, ap₂, subst, arith}
use Rattle.std.proofs.lemmas.List.{get_or_read}
use Rattle.std.specs.FinSet.{empty, union, intersection, difference}
use Rattle.md_graph.specs.Sets.{NameSet}
use Rattle.md_modules.specs.Classes.{class_at}
use Rattle.md_modules.specs.Classes.{IsSideOf}
use Rattle.md_modules.proofs.refinement.split.Goals as goal

pub returns-clause-parts : goal.returns-clause-parts
returns-clause-parts g c =
    let cs = c.args.classes.now.items in
    let known : c.args.at < length cs = omega (arith, c.args.classes.now.ok.0) in
    let class : c.index_mut.result.now ≡ class_at cs c.args.at = get_or_read cs c.args.at _ known c.index_mut.ensures.value empty in
    let part : NameSet = c.divide.ensures.0 in (
      part,
      subst (λ (t : NameSet). IsSideOf part t c.args.row.now) class c.divide.ensures.1,
      c.in_ok-push.ensures.items
          ∙ ap₂ (λ (a b : NameSet). slice_set cs c.args.at a ++ b ∷ [])
          (c.divide.ensures.2 ∙ ap (λ (s : NameSet). intersection s part) class)
          (c.in_ok-goes.ensures.made ∙ c.divide.ensures.3 ∙ ap (λ (s : NameSet). difference s part) class),
      c.union_with.ensures.changed ∙ ap (union c.args.left.now) (c.divide.ensures.3 ∙ ap (λ (s : NameSet). difference s part) class),
    )
