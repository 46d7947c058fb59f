use Rattle.std.proofs.Common.{◌<◌, ◌∙◌, ap, ap₂, arith}
use Rattle.std.specs.FinSet.{remove, difference}
use Rattle.md_graph.specs.Sets.{NameSet}
use Rattle.md_bar_tree.proofs.Crossings.{own_of, own_in}
use Rattle.md_bar_tree.proofs.bar_at.has_own.Goals as goal

pub returns-in-Some-clause-found : goal.returns-in-Some-clause-found
returns-in-Some-clause-found g c told =
    let made = c.remove.ensures.changed ∙ ap (λ (s : NameSet). remove s c.args.v) (c.minus-own.ensures.value ∙ ap₂ (λ (s t : NameSet). difference s t) c.neighbours.ensures.set c.neighbours-2.ensures.set) in
    (c.in-Some.field-0, own_of c.vertices-vertices.ensures.graph c.args.u c.args.v c.remove.new.self made c.in-Some.field-0 c.in-Some.ensures.found.member)

pub returns-in-None-clause-none : goal.returns-in-None-clause-none
returns-in-None-clause-none g c told x one =
    let made = c.remove.ensures.changed ∙ ap (λ (s : NameSet). remove s c.args.v) (c.minus-own.ensures.value ∙ ap₂ (λ (s t : NameSet). difference s t) c.neighbours.ensures.set c.neighbours-2.ensures.set) in
    let below : x < 0 = c.in-None.ensures.none x (own_in c.vertices-vertices.ensures.graph c.args.u c.args.v c.remove.new.self made x one) in
    absurd (omega arith)
