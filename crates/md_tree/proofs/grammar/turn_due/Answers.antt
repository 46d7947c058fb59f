use Rattle.std.proofs.Common.{ap, length, length-append, arith}
use Rattle.md_text.proofs.NumberLemmas.{decimal_is_canonical}
use Rattle.md_tree.specs.Languages.{NumberThen, TreeThen, Tail}
use Rattle.md_tree.specs.Spellings.{spelling}
use Rattle.md_tree.proofs.Spelled.{is_spelling}
use Rattle.md_tree.proofs.Leaving.{due_number, number_goes, number_stuck, goes_then, stuck_then, some_tail, tail_stops}
use Rattle.md_tree.proofs.grammar.turn_due.Goals as goal

pub returns-in-Ok : goal.returns-in-Ok
returns-in-Ok g c ks are =
    let sp = spelling g.K.Lettered.rules g.P.Paired.rules in let law = is_spelling g.met.K.Lettered.laws g.met.P.Paired.laws in
    let n = c.in-Ok.ensures.on in (
      record {
        kinds = ks;
        are = are;
        on = goes_then (TreeThen sp ks) (NumberThen (Tail sp ks)) (Tail sp ks) _ _ _ (due_number law ks _ c.in_default.ensures.split) (number_goes (Tail sp ks) (tail_stops law ks) _ _ n);
      },
      grind (arith, ap length n.1, (decimal_is_canonical n.0).0.some_digit, length-append),
    )

pub returns-in-Err : goal.returns-in-Err
returns-in-Err g c ks are =
    let sp = spelling g.K.Lettered.rules g.P.Paired.rules in let law = is_spelling g.met.K.Lettered.laws g.met.P.Paired.laws in
    stuck_then (TreeThen sp ks) (NumberThen (Tail sp ks)) _ _ _ (due_number law ks _ c.in_default.ensures.split)
    (number_stuck (Tail sp ks) (tail_stops law ks) (some_tail law ks).0 (some_tail law ks).1 _ _ c.in-Err.ensures.stuck)
