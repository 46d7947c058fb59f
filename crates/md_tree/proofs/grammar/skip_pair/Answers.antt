use Rattle.md_tree.specs.Languages.{NumberThen, ByteThen, PairThen, PairsThen, PairsGoOn}
use Rattle.std.proofs.lemmas.Result.{err_from_is_err_and, IfOk-weaker, IfErr-weaker}
use Rattle.md_tree.specs.Spellings.{spelling}
use Rattle.md_tree.proofs.Spelled.{is_spelling}
use Rattle.md_tree.proofs.Leaving.{number_stuck, goes_then, stuck_then, byte_stuck, between_stops, past_first, past_between, past_second, pairs_then_stops, some_pairs_then, some_high, some_hyphen}
use Rattle.md_tree.proofs.grammar.skip_pair.Goals as goal

pub returns-in_err-hyphen-clause-stuck : goal.returns-in_err-hyphen-clause-stuck
returns-in_err-hyphen-clause-stuck g c =
    let sp = spelling g.K.Lettered.rules g.P.Paired.rules in let law = is_spelling g.met.K.Lettered.laws g.met.P.Paired.laws in
    let p = err_from_is_err_and c.from_residual.result c.from_residual.ensures.1 in
    rw (p.1, p.2) (λ ks.
    number_stuck (ByteThen sp.pairs.between (NumberThen (PairsThen sp ks))) (between_stops law (NumberThen (PairsThen sp ks))) (some_hyphen law ks).0 (some_hyphen law ks).1 _ _ c.in_err-hyphen.ensures.stuck)

pub returns-in_err-high-clause-stuck : goal.returns-in_err-high-clause-stuck
returns-in_err-high-clause-stuck g c =
    let sp = spelling g.K.Lettered.rules g.P.Paired.rules in let law = is_spelling g.met.K.Lettered.laws g.met.P.Paired.laws in
    let p = err_from_is_err_and c.from_residual-in_err-high.result c.from_residual-in_err-high.ensures.1 in
    rw (p.1, p.2) (λ ks.
    stuck_then (PairThen sp ks) (ByteThen sp.pairs.between (NumberThen (PairsThen sp ks))) _ _ _ (past_first law ks _ _ c.in_ok-hyphen.ensures.on)
    (byte_stuck sp.pairs.between (NumberThen (PairsThen sp ks)) (some_high law ks).0 (some_high law ks).1 _ _ c.in_err-high.ensures.stuck (rw c.between.ensures at c.in_err-high.ensures.other)))

pub returns-in_err-mark-clause-stuck : goal.returns-in_err-mark-clause-stuck
returns-in_err-mark-clause-stuck g c =
    let sp = spelling g.K.Lettered.rules g.P.Paired.rules in let law = is_spelling g.met.K.Lettered.laws g.met.P.Paired.laws in
    let p = err_from_is_err_and c.from_residual-in_err-mark.result c.from_residual-in_err-mark.ensures.1 in
    rw (p.1, p.2) (λ ks.
    stuck_then (PairThen sp ks) (NumberThen (PairsThen sp ks)) _ _ _ (past_between law ks _ _ _ c.in_ok-hyphen.ensures.on (rw c.between.ensures at c.in_ok-high.ensures.on))
    (number_stuck (PairsThen sp ks) (pairs_then_stops law ks) (some_pairs_then law ks).0 (some_pairs_then law ks).1 _ _ c.in_err-mark.ensures.stuck))

pub returns-clause-on : goal.returns-clause-on
returns-clause-on g c =
    let sp = spelling g.K.Lettered.rules g.P.Paired.rules in let law = is_spelling g.met.K.Lettered.laws g.met.P.Paired.laws in
    IfOk-weaker c.skip_mark.result _ _
    (λ p h ks. goes_then (PairThen sp ks) (PairsThen sp ks) (PairsGoOn sp p.1 ks) _ _ _ (past_second law ks _ _ _ _ c.in_ok-hyphen.ensures.on (rw c.between.ensures at c.in_ok-high.ensures.on) c.in_ok-mark.ensures.on) (h ks))
    c.skip_mark.ensures.on

pub returns-clause-stuck : goal.returns-clause-stuck
returns-clause-stuck g c =
    let sp = spelling g.K.Lettered.rules g.P.Paired.rules in let law = is_spelling g.met.K.Lettered.laws g.met.P.Paired.laws in
    IfErr-weaker c.skip_mark.result _ _
    (λ tail h ks. stuck_then (PairThen sp ks) (PairsThen sp ks) _ _ _ (past_second law ks _ _ _ _ c.in_ok-hyphen.ensures.on (rw c.between.ensures at c.in_ok-high.ensures.on) c.in_ok-mark.ensures.on) (h ks))
    c.skip_mark.ensures.stuck
