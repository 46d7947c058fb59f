use Rattle.md_script.proofs.HistoryLemmas.{last_place}
use Rattle.md_script.proofs.history.last_start.Goals as goal

pub returns : goal.returns
returns c = (_, last_place c.args.starts.now c.requires)
