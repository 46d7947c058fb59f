use Rattle.std.proofs.Common.{◌≡◌, ◌∷◌, [], rules}
use Rattle.md_modules.proofs.ClassLemmas.{one_class_holds}
use Rattle.md_digraph.proofs.refinement.directed_maximal_modules.Goals as goal

pub directed_cut_classes-requires : goal.directed_cut_classes-requires
directed_cut_classes-requires g c =
    let block = c.in_ok-of.field-0 in
    let pushed : c.push.new.self.items ≡ block ∷ [] = search rules in (
      search rules,
      (
        search rules,
        (
          search rules,
          (
            c.requires.inside,
            (c.requires.part, one_class_holds c.args.set.now c.args.rest.now block c.push.new.self.items c.requires.some c.in_ok-of.ensures.made pushed),
          ),
        ),
      ),
    )
