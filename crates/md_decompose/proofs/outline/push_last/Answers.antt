use Rattle.std.proofs.Common.{Some}
use Rattle.md_decompose.proofs.Opened.{opened_names, opened_below, opened_bare}
use Rattle.md_decompose.proofs.outline.push_last.Goals as goal

pub returns-in-Some-clause-moved : goal.returns-in-Some-clause-moved
returns-in-Some-clause-moved g c =
    let is = c.open_set.ensures in (
      c.in-Some.names,
      c.open_set.result,
      c.in-Some.ensures.items,
      c.push_reserved.ensures.items,
      opened_names c.in-Some.names (Some c.args.kind) c.none.result c.open_set.result is,
      opened_below c.in-Some.names (Some c.args.kind) c.none.result c.open_set.result is,
      opened_bare c.in-Some.names (Some c.args.kind) c.none.result c.open_set.result c.none.ensures.taken c.none.ensures.steps is,
    )
