use Rattle.md_graph6.proofs.PutLemmas.{put_twelve}
use Rattle.md_graph6.proofs.writer.set_twelve.Goals as goal

pub returns : goal.returns
returns c = put_twelve _ _ _ c.args.at c.args.low c.args.high c.set_ten.ensures c.set_two.ensures
