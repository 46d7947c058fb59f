use Rattle.std.proofs.Common.{refl, ap, get_or}
use Rattle.md_forcing.proofs.SeenRows.{put_taken}
use Rattle.md_checker.proofs.certificates.put_arc.Goals as goal

pub returns-clause-taken : goal.returns-clause-taken
returns-clause-taken g c =
    put_taken c.args.rows.now _ c.args.by refl c.requires.tail _ _ c.insert.ensures.changed (ap (λ d. get_or c.args.rows.now c.args.by.tail d) c.index-rows-by.is)
