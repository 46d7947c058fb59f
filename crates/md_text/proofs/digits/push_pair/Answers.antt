use Rattle.md_text.proofs.NumberLemmas.{PAIRS_at, pushed_pair}
use Rattle.md_text.proofs.digits.push_pair.Goals as goal

pub returns-clause-items : goal.returns-clause-items
returns-clause-items c =
    let places = PAIRS_at c.args.pair c.requires.below in
    pushed_pair _ _ _ _ _ _ _ c.push_reserved.ensures.items c.push_reserved-2.ensures.items places.0 places.1
