use Rattle.std.proofs.Common.{ℕ, sym, ap, take}
use Rattle.md_text.proofs.LineLemmas.{first_feed_is, line_cut, line_lacks, rest_after}
use Rattle.md_text.proofs.cut.split_line.Goals as goal

pub returns-clause-before : goal.returns-clause-before
returns-clause-before c = ap (λ (n : ℕ). take n c.args.text.now) (sym (first_feed_is _ _ c.first_feed-end.ensures.within c.first_feed-end.ensures.before c.first_feed-end.ensures.found))

pub returns-clause-after : goal.returns-clause-after
returns-clause-after c = rest_after _ _ _ (first_feed_is _ _ c.first_feed-end.ensures.within c.first_feed-end.ensures.before c.first_feed-end.ensures.found) c.min-next.ensures

pub returns-clause-cut : goal.returns-clause-cut
returns-clause-cut c = line_cut _ _ _ c.requires.some (returns-clause-before c) (returns-clause-after c)

pub returns-clause-no_feed : goal.returns-clause-no_feed
returns-clause-no_feed c = line_lacks c.args.text.now _ (returns-clause-before c)
