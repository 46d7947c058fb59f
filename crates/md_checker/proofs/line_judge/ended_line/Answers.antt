use Rattle.md_checker.proofs.Cutting.{no_feed_in, whole_line, fed_line_first}
use Rattle.md_checker.proofs.line_judge.ended_line.Goals as goal

pub returns-then-line-text-clause-none : goal.returns-then-line-text-clause-none
returns-then-line-text-clause-none c = whole_line _ _ c.split_line.ensures.before c.if-line-text.true c.split_line.ensures.no_feed

pub returns-clause-whole : goal.returns-clause-whole
returns-clause-whole c = fed_line_first _ _ _ c.split_line.ensures.before c.split_line.ensures.after c.if-line-text.false

pub returns-clause-lacks : goal.returns-clause-lacks
returns-clause-lacks c = no_feed_in _ c.split_line.ensures.no_feed
