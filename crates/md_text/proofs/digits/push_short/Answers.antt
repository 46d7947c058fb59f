use Rattle.md_text.proofs.NumberLemmas.{pushed_short}
use Rattle.md_text.proofs.digits.push_short.Goals as goal

pub returns-else-n-lt100-clause-items : goal.returns-else-n-lt100-clause-items
returns-else-n-lt100-clause-items c =
    pushed_short _ _ _ c.args.n c.if-n-lt100.false c.push_front-else-n-lt100.ensures.items c.push_pair.ensures.items
