use Rattle.std.proofs.Common.{◌∷◌, ◌∙◌, ap, length, arith}
use Rattle.md_tree.proofs.Spelled.{is_spelling}
use Rattle.md_tree.proofs.Leaving.{comma_tail, opened_again}
use Rattle.md_tree.proofs.grammar.turn_inside.Goals as goal

pub returns-in-Ok : goal.returns-in-Ok
returns-in-Ok g c ks are =
    let law = is_spelling g.met.K.Lettered.laws g.met.P.Paired.laws in
    let k = c.args.kind in (
      record {
        kinds = k ∷ ks;
        are = c.in_ok-push.ensures.items ∙ opened_again k ks _ are;
        on = comma_tail law k ks _ _ c.in-Ok.ensures.on;
      },
      grind (arith, ap length c.in-Ok.ensures.on),
    )

pub returns-in-Ok-skip_end : goal.returns-in-Ok-skip_end
returns-in-Ok-skip_end g c ks are = (record { kinds = ks; are = are; on = c.in-Ok-skip_end.ensures.on ks }, c.in-Ok-skip_end.ensures.shorter)

pub returns-in-Err : goal.returns-in-Err
returns-in-Err g c ks are = c.in-Err.ensures.stuck ks
