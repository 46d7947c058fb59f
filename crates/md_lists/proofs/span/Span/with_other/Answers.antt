use Rattle.md_lists.proofs.ListLaws.{span_other}
use Rattle.md_lists.proofs.span.Span.with_other.Goals as goal

pub returns : goal.returns
returns c = λ xs ys x is before after.
    span_other xs ys x c.args.self c.args.previous c.args.next _ _ is before after c.args.item c.end_of.ensures c.end_of-2.ensures
