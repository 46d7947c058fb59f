use Rattle.std.proofs.Common.{arith}
use Rattle.std.proofs.lemmas.Result.{err_from_is_err_and}
use Rattle.md_tree.specs.Languages.{PairThen, Tail}
use Rattle.md_tree.specs.Spellings.{spelling}
use Rattle.md_tree.proofs.Leaving.{goes_then, stuck_then, goes_here}
use Rattle.md_tree.proofs.grammar.skip_pairs.Goals as goal

pub loop-tail-init : goal.loop-tail-init
loop-tail-init g c =
    let sp = spelling g.K.Lettered.rules g.P.Paired.rules in
    record { on = λ ks. goes_here (PairThen sp ks) _; within = omega arith }

pub returns-in_err-tail-clause-stuck : goal.returns-in_err-tail-clause-stuck
returns-in_err-tail-clause-stuck g c =
    let sp = spelling g.K.Lettered.rules g.P.Paired.rules in
    let p = err_from_is_err_and c.from_residual.result c.from_residual.ensures.1 in
    rw (p.1, p.2) (λ ks. stuck_then (PairThen sp ks) (PairThen sp ks) _ _ _ (c.loop-tail.invariant.on ks) (c.in_err-tail.ensures.stuck ks))

pub returns-then-not-more-clause-on : goal.returns-then-not-more-clause-on
returns-then-not-more-clause-on g c ks =
    let sp = spelling g.K.Lettered.rules g.P.Paired.rules in
    let e = c.if-not-more.true in
    goes_then (PairThen sp ks) (PairThen sp ks) (Tail sp ks) _ _ _ (c.loop-tail.invariant.on ks) (rw e at c.in_ok-tail.ensures.on ks)

pub loop-tail-preserved : goal.loop-tail-preserved
loop-tail-preserved g c =
    let sp = spelling g.K.Lettered.rules g.P.Paired.rules in
    let e = c.if-not-more.false in
    record {
      on = λ ks. goes_then (PairThen sp ks) (PairThen sp ks) (PairThen sp ks) _ _ _ (c.loop-tail.invariant.on ks) (rw e at c.in_ok-tail.ensures.on ks);
      within = (let a = c.in_ok-tail.ensures.shorter in let b = c.loop-tail.invariant.within in omega arith);
    }
