use Rattle.md_tree.specs.Languages.{ByteThen, PairsThen, Tail}
use Rattle.std.proofs.lemmas.Result.{err_from_is_err_and}
use Rattle.md_tree.specs.Spellings.{spelling}
use Rattle.md_tree.proofs.Spelled.{is_spelling}
use Rattle.md_tree.proofs.Leaving.{comma_pairs, pairs_last, goes_then, stuck_then, byte_goes, byte_stuck, some_tail}
use Rattle.md_tree.proofs.grammar.skip_mark.Goals as goal

pub returns-in-Ok-clause-on : goal.returns-in-Ok-clause-on
returns-in-Ok-clause-on g c ks =
    let law = is_spelling g.met.K.Lettered.laws g.met.P.Paired.laws in
    comma_pairs law ks _ _ c.in-Ok.ensures.on

pub returns-in_err-tail-clause-stuck : goal.returns-in_err-tail-clause-stuck
returns-in_err-tail-clause-stuck g c =
    let sp = spelling g.K.Lettered.rules g.P.Paired.rules in let law = is_spelling g.met.K.Lettered.laws g.met.P.Paired.laws in
    let p = err_from_is_err_and c.from_residual.result c.from_residual.ensures.1 in
    rw (p.1, p.2) (λ ks.
    stuck_then (PairsThen sp ks) (ByteThen 41 (Tail sp ks)) _ _ _ (pairs_last law ks _ c.in_default.ensures.other)
    (byte_stuck 41 (Tail sp ks) (some_tail law ks).0 (some_tail law ks).1 _ _ c.in_err-tail.ensures.stuck c.in_err-tail.ensures.other))

pub returns-clause-on : goal.returns-clause-on
returns-clause-on g c ks =
    let sp = spelling g.K.Lettered.rules g.P.Paired.rules in let law = is_spelling g.met.K.Lettered.laws g.met.P.Paired.laws in
    goes_then (PairsThen sp ks) (ByteThen 41 (Tail sp ks)) (Tail sp ks) _ _ _ (pairs_last law ks _ c.in_default.ensures.other)
    (byte_goes 41 (Tail sp ks) _ _ c.in_ok-tail.ensures.on)
