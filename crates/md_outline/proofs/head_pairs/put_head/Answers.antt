use Rattle.std.proofs.Common.{◌+◌, ◌<◌, length, ◌∙◌, rules, subst, sym, ap}
use Rattle.std.specs.List.{All}
use Rattle.md_graph.specs.NameSet.{ascending_from}
use Rattle.md_tree.proofs.Stacking.{if_ok}
use Rattle.md_outline.proofs.NodeRows.{all_near}
use Rattle.md_outline.proofs.head_pairs.put_head.Goals as goal

pub put_row-requires : goal.put_row-requires
put_row-requires g c =
    let near = all_near c.vertices-vertices.ensures.graph c.args.head c.args.all.now (c.requires.whole c.if-whole.true) ∙ sym c.row.ensures.set in
    (search rules, (c.requires.low, subst (λ s. All (λ v. v < length c.args.space.now.places) (ascending_from s (c.args.head + 1))) near c.requires.there))

pub returns-then-whole-clause-written : goal.returns-then-whole-clause-written
returns-then-whole-clause-written g c =
    let near = all_near c.vertices-vertices.ensures.graph c.args.head c.args.all.now (c.requires.whole c.if-whole.true) ∙ sym c.row.ensures.set in
    if_ok c.put_row.result
    (λ _ written e v j ws more places is. written e v j ws more places (sym (ap (λ s. ascending_from s (c.args.head + 1)) near) ∙ is))
    c.put_row.ensures.written
