use Rattle.md_report.specs.Lines.{barred}
use Rattle.md_top.proofs.classes.bar_text.Goals as goal

pub returns : goal.returns
returns c = c.with_feed.ensures (barred c.args.bar) c.in_ok-write_class.ensures.text
