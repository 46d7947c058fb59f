use Rattle.std.proofs.Common.{◌≡◌, ◌∙◌, ap}
use Rattle.md_graph.proofs.SetLemmas.{taken_whole, flipped_off, along_two}
use Rattle.std.proofs.lemmas.List.{get_or_read}
use Rattle.std.specs.FinSet.{empty, difference}
use Rattle.md_graph.specs.Sets.{NameSet, Within}
use Rattle.md_modules.specs.Classes.{class_at}
use Rattle.md_modules.proofs.ClassLemmas.{left_begins}
use Rattle.md_modules.proofs.refinement.begin.Goals as goal

pub returns-then-at-classes : goal.returns-then-at-classes
returns-then-at-classes g c known e =
    let class = get_or_read c.args.classes.now c.args.at c.index-classes-at.result known c.index-classes-at.is empty in
    let names : c.set_in.result.now ≡ class_at c.args.classes.now c.args.at = c.set_in.ensures.value ∙ class in
    let all : c.union_with.new.self ≡ c.args.set.now = taken_whole _ _ _ c.clear.ensures.changed c.union_with.ensures.changed in
    let inside : Within c.set_in.result.now c.union_with.new.self =
    along_two Within (class_at c.args.classes.now c.args.at) c.args.set.now c.set_in.result.now c.union_with.new.self names all (c.requires known)
    in
    left_begins c.args.set.now (class_at c.args.classes.now c.args.at) c.symmetric_difference_with.new.self
    (flipped_off c.union_with.new.self c.set_in.result.now c.symmetric_difference_with.new.self inside c.symmetric_difference_with.ensures.changed ∙ ap (λ (s : NameSet). difference s c.set_in.result.now) all ∙ ap (difference c.args.set.now) names)
