use Rattle.std.proofs.Common.{◌≡◌, ◌∷◌, [], rules}
use Rattle.md_modules.proofs.ClassLemmas.{one_class_holds}
use Rattle.md_modules.proofs.refinement.one_class.Goals as goal

pub returns : goal.returns
returns g c = record {
  holds =
      let block = c.in_ok-of.field-0 in
      let pushed : c.push.new.self.items ≡ block ∷ [] = search rules in
      λ e s. one_class_holds {e = e} s c.args.rest.now block c.push.new.self.items c.requires.some c.in_ok-of.ensures.made pushed;
}
