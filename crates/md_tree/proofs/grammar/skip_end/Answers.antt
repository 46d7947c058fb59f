use Rattle.std.proofs.Common.{◌∷◌, true, false, sym, ◌∙◌}
use Rattle.std.proofs.lemmas.Result.{err_from_is_err_and, IfOk-weaker, IfErr-weaker}
use Rattle.md_tree.specs.Spellings.{spelling}
use Rattle.md_tree.specs.Languages.{Tail, PairThen}
use Rattle.md_text.proofs.FrontLemmas.{shorter_tail}
use Rattle.md_tree.proofs.Spelled.{is_spelling}
use Rattle.md_tree.proofs.Leaving.{end_goes, end_stuck, goes_then, stuck_then, both_err}
use Rattle.md_tree.proofs.grammar.skip_end.Goals as goal

pub returns-then-not-lists : goal.returns-then-not-lists
returns-then-not-lists g c =
    let law = is_spelling g.met.K.Lettered.laws g.met.P.Paired.laws in
    let k = c.args.kind in let none = sym c.lists.ensures ∙ c.if-not-lists.true in
    record {
      on = IfOk-weaker c.skip_byte.result _ _ (λ tail e ks. end_goes law k ks false none _ _ c.requires e) c.skip_byte.ensures.on;
      shorter = IfOk-weaker c.skip_byte.result _ _ (λ tail e. shorter_tail 41 c.args.text.now tail.now e) c.skip_byte.ensures.on;
      stuck = both_err c.skip_byte.result _ _ _ (λ tail e other ks. end_stuck law k ks false none _ _ c.requires e other) c.skip_byte.ensures.stuck c.skip_byte.ensures.other;
    }

pub returns-in_err-pairs-clause-stuck : goal.returns-in_err-pairs-clause-stuck
returns-in_err-pairs-clause-stuck g c =
    let law = is_spelling g.met.K.Lettered.laws g.met.P.Paired.laws in
    let some = sym c.lists.ensures ∙ c.if-not-lists.false in
    let p = err_from_is_err_and c.from_residual.result c.from_residual.ensures.1 in
    rw (p.1, p.2) (λ ks. end_stuck law c.args.kind ks true some _ _ c.requires c.in_err-pairs.ensures.stuck c.in_err-pairs.ensures.other)

pub returns-clause-on : goal.returns-clause-on
returns-clause-on g c =
    let sp = spelling g.K.Lettered.rules g.P.Paired.rules in let law = is_spelling g.met.K.Lettered.laws g.met.P.Paired.laws in
    let k = c.args.kind in let some = sym c.lists.ensures ∙ c.if-not-lists.false in
    IfOk-weaker c.skip_pairs.result _ _
    (λ tail h ks. goes_then (Tail sp (k ∷ ks)) (PairThen sp ks) (Tail sp ks) _ _ _ (end_goes law k ks true some _ _ c.requires c.in_ok-pairs.ensures.on) (h ks))
    c.skip_pairs.ensures.on

pub returns-clause-stuck : goal.returns-clause-stuck
returns-clause-stuck g c =
    let sp = spelling g.K.Lettered.rules g.P.Paired.rules in let law = is_spelling g.met.K.Lettered.laws g.met.P.Paired.laws in
    let k = c.args.kind in let some = sym c.lists.ensures ∙ c.if-not-lists.false in
    IfErr-weaker c.skip_pairs.result _ _
    (λ tail h ks. stuck_then (Tail sp (k ∷ ks)) (PairThen sp ks) _ _ _ (end_goes law k ks true some _ _ c.requires c.in_ok-pairs.ensures.on) (h ks))
    c.skip_pairs.ensures.stuck
