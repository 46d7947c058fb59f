use Rattle.std.proofs.Common.{◌+◌, ◌*◌, ◌%◌, ◌^◌}
use Rattle.md_graph6.proofs.PutLemmas.{put_end}
use Rattle.md_graph6.proofs.writer.set_end.Goals as goal

pub returns : goal.returns
returns c =
    put_end _ _ _ _ c.args.at (c.args.high * 2 ^ 60 + c.args.low % 2 ^ 60) c.copy_end.auto.body c.requires.groups c.set_twelve.ensures
    c.requires.inside c.requires.end c.set_twelve.ensures.length c.requires.room c.copy_end.ensures.before c.copy_end.ensures.from
