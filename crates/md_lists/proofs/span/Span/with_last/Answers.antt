use Rattle.md_lists.proofs.ListLaws.{span_pushed}
use Rattle.md_lists.proofs.span.Span.with_last.Goals as goal

pub returns : goal.returns
returns c = λ xs is. span_pushed xs c.args.item c.args.self c.or.result is c.or.ensures
