use Rattle.std.proofs.Common.{◌≡◌, replicate, ◌∙◌, ap, arith}
use Rattle.md_graph.proofs.copies.copies_of.Goals as goal

pub returns : goal.returns
returns g c =
    let all : c.loop.counter ≡ c.args.count = omega arith in
    record { items = c.loop.invariant.0 ∙ ap (λ n. replicate n c.args.item) all }
