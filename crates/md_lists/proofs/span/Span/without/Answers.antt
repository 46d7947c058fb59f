use Rattle.md_lists.proofs.ListLaws.{span_without}
use Rattle.md_lists.proofs.span.Span.without.Goals as goal

pub returns : goal.returns
returns c = λ xs ys x is before after.
    span_without xs ys x c.args.self c.args.previous c.args.next _ _ is before after c.end_of.ensures c.end_of-2.ensures
