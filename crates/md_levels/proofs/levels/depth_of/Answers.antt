use Rattle.std.proofs.Common.{◌≡◌, ◌+◌, ℕ, suc, subst, arith}
use Rattle.md_forcing.specs.Classes.{IsAtDistance}
use Rattle.md_levels.proofs.levels.depth_of.Goals as goal

pub loop-at-init : goal.loop-at-init
loop-at-init c = record {
  within = c.requires.within;
  low = omega arith;
  further = λ n far. let same : n ≡ n + 0 = omega arith in subst (λ m. IsAtDistance c.args.trail.now m c.args.place) same far;
}

pub loop-at-smaller : goal.loop-at-smaller
loop-at-smaller c = (c.requires.class.2.forced c.loop-at.at c.entry-before.result.1 c.entry-before.result.0 c.loop-at-test.true c.entry-before.ensures).before

pub loop-at-preserved : goal.loop-at-preserved
loop-at-preserved c =
    let less = (c.requires.class.2.forced c.loop-at.at c.entry-before.result.1 c.entry-before.result.0 c.loop-at-test.true c.entry-before.ensures).before in
    let within = c.loop-at.invariant.within in
    let low = c.loop-at.invariant.low in record {
      within = omega arith;
      low = omega arith;
      further = λ n far.
          let more : suc n + c.loop-at.depth ≡ n + (c.loop-at.depth + 1) = omega arith in
          let next : IsAtDistance c.args.trail.now (suc n) c.loop-at.at = (c.loop-at-test.true, c.entry-before.result.1, c.entry-before.result.0, c.entry-before.ensures, far) in
          subst (λ m. IsAtDistance c.args.trail.now m c.args.place) more (c.loop-at.invariant.further (suc n) next);
    }

pub returns : goal.returns
returns c =
    let here : c.loop-at.at ≡ 0 = omega arith in
    let same : 0 + c.loop-at.depth ≡ c.loop-at.depth = omega arith in
    subst (λ m. IsAtDistance c.args.trail.now m c.args.place) same (c.loop-at.invariant.further 0 here)
