use Rattle.md_graph6.proofs.PaddingLemmas.{is_set_behind-none, is_set_behind-shift}
use Rattle.md_graph6.proofs.line.is_set_behind.Goals as goal

pub returns-in-empty : goal.returns-in-empty
returns-in-empty c = is_set_behind-none _ _ c.requires.long c.in-empty.len_below

pub returns-in-len1-up : goal.returns-in-len1-up
returns-in-len1-up c = is_set_behind-shift _ _ c.requires.long c.in-len1-up.len_at_least
