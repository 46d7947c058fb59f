use Rattle.std.proofs.Common.{refl}
use Rattle.md_dtree.specs.declared.DKind.TheVariants.{Parallel, Series, Order}
use Rattle.md_dcheck.proofs.ArcViews.{put_none, put_both, put_forth, as_put}
use Rattle.md_dcheck.proofs.digraph_text.are_put.Goals as goal

pub returns-in-Parallel : goal.returns-in-Parallel
returns-in-Parallel c = as_put Parallel c.args.kind c.args.there c.args.back _ c.in-Parallel.is refl (put_none c.args.there c.args.back)

pub returns-in-Series : goal.returns-in-Series
returns-in-Series c = as_put Series c.args.kind c.args.there c.args.back _ c.in-Series.is refl (put_both c.args.there c.args.back)

pub returns-in-Order : goal.returns-in-Order
returns-in-Order c = as_put Order c.args.kind c.args.there c.args.back _ c.in-Order.is refl (put_forth c.args.there c.args.back)
