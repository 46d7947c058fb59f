use Rattle.std.proofs.Common.{◌≡◌, ◌++◌, ◌/◌}
use Rattle.md_text.specs.Numbers.{decimal}
use Rattle.md_text.proofs.NumberLemmas.{pushed_long}
use Rattle.md_text.proofs.digits.+push_long.Goals as goal
use Rattle.md_text.proofs.digits.+push_long.Goals.{then-front-lt10000, else-front-lt10000}

pub returns-clause-items : goal.returns-clause-items
returns-clause-items t c =
    let front : c.if-front-lt10000.text.items ≡ c.args.text.now.items ++ decimal (c.args.n / 10000) = elim c.if-front-lt10000.branch [
      | then-front-lt10000 w ↦ let items = w.push_short.ensures.items in let is = w.text-is in cc
      | else-front-lt10000 w ↦ let items = w.push_long.ensures.items in let is = w.text-is in cc
    ] in
    pushed_long _ _ _ _ c.args.n c.requires.long front c.push_pair.ensures.items c.push_pair-2.ensures.items
