use Rattle.std.proofs.Common.{[], ◌∷◌, ◌++◌, ◌∙◌, ap, arith, length}
use Rattle.md_tree.specs.Languages.{ByteThen, TreeThen}
use Rattle.md_tree.specs.Spellings.{spelling}
use Rattle.md_tree.proofs.Spelled.{is_spelling}
use Rattle.md_tree.proofs.Leaving.{due_letter, goes_then, stuck_then, byte_goes, byte_stuck, some_due}
use Rattle.md_tree.proofs.grammar.open_node.Goals as goal

pub returns-in_ok-push-in-Ok : goal.returns-in_ok-push-in-Ok
returns-in_ok-push-in-Ok g c ks are =
    let sp = spelling g.K.Lettered.rules g.P.Paired.rules in let law = is_spelling g.met.K.Lettered.laws g.met.P.Paired.laws in
    let k = c.args.kind in (
      record {
        kinds = k ∷ ks;
        are = c.in_ok-push-in-Ok.ensures.items ∙ ap (λ w. w ++ k ∷ []) are;
        on = goes_then (TreeThen sp ks) (ByteThen 40 (TreeThen sp (k ∷ ks))) (TreeThen sp (k ∷ ks)) _ _ _ (due_letter law k ks _ _ c.requires)
            (byte_goes 40 (TreeThen sp (k ∷ ks)) _ _ c.in-Ok.ensures.on);
      },
      grind (arith, ap length c.requires, ap length c.in-Ok.ensures.on),
    )

pub returns-in-Err : goal.returns-in-Err
returns-in-Err g c ks are =
    let sp = spelling g.K.Lettered.rules g.P.Paired.rules in let law = is_spelling g.met.K.Lettered.laws g.met.P.Paired.laws in
    let k = c.args.kind in
    stuck_then (TreeThen sp ks) (ByteThen 40 (TreeThen sp (k ∷ ks))) _ _ _ (due_letter law k ks _ _ c.requires)
    (byte_stuck 40 (TreeThen sp (k ∷ ks)) (some_due law (k ∷ ks)).0 (some_due law (k ∷ ks)).1 _ _ c.in-Err.ensures.stuck c.in-Err.ensures.other)
