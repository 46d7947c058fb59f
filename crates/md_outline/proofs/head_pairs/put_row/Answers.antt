use Rattle.std.proofs.lemmas.Result.{on_ok_weaker, IfErr-weaker}
use Rattle.std.proofs.Common.{◌∷◌, ◌++◌, [], ◌+◌, ◌<◌, length, ◌∙◌, refl, sym, ap, subst, rules, arith}
use Rattle.std.specs.List.{All}
use Rattle.md_graph.specs.NameSet.{ascending_from}
use Rattle.md_text.specs.Numbers.{decimal}
use Rattle.md_text.specs.Pieces.{piece_text, texts_at, text_at}
use Rattle.md_tree.specs.TreeTexts.{pairs_text_by}
use Rattle.md_blocks.proofs.BlockLemmas.{empty_from}
use Rattle.md_blocks.specs.Refusals.{RefusesFront}
use Rattle.md_blocks.proofs.Refusals.{refuses_longer}
use Rattle.md_outline.specs.HeadPairs.{near_pairs}
use Rattle.md_outline.proofs.HeadPairs.{row_empty, row_put, pair_put, first_near, first_there}
use Rattle.md_outline.proofs.head_pairs.put_row.Goals as goal

pub returns-in_default-clause-written : goal.returns-in_default-clause-written
returns-in_default-clause-written g c e v j ws more places is =
    row_empty g.met.P.Paired.laws e v c.args.low j ws (g.T.Target.bytes c.args.target.now ++ c.args.space.now.chunk) c.args.space.now.mark more (sym is ∙ empty_from c.args.near.now c.args.from c.args.from (omega arith) c.in_default.ensures.none)

pub bounds-pieces-first : goal.bounds-pieces-first
bounds-pieces-first g c =
    let cut = first_near c.args.near.now c.args.from c.in-Some.first c.in-Some.ensures.found c.in-Some.ensures.name in
    subst (λ p. c.in-Some.first < length p) (sym c.as_slice-pieces.ensures.pieces) (first_there c.args.space.now.places _ _ c.in-Some.first cut c.requires.there).0

pub write_members-requires : goal.write_members-requires
write_members-requires g c =
    let cut = first_near c.args.near.now c.args.from c.in-Some.first c.in-Some.ensures.found c.in-Some.ensures.name in (
      search rules,
      subst (λ p. All (λ v. v < length p) (ascending_from c.args.near.now (c.in-Some.first + 1))) (sym c.as_slice-pieces.ensures.pieces) (first_there c.args.space.now.places _ _ c.in-Some.first cut c.requires.there).1,
    )

pub returns-clause-written : goal.returns-clause-written
returns-clause-written g c =
    let cut = first_near c.args.near.now c.args.from c.in-Some.first c.in-Some.ensures.found c.in-Some.ensures.name in
    let others = ascending_from c.args.near.now (c.in-Some.first + 1) in
    let digits = c.number_piece-digits.ensures.text ∙ ap (λ n. decimal c.args.low ++ n ∷ []) c.between.ensures in
    let there = subst (λ p. c.in-Some.first < length p) (sym c.as_slice-pieces.ensures.pieces) (first_there c.args.space.now.places _ _ c.in-Some.first cut c.requires.there).0 in
    let before = g.T.Target.bytes c.args.target.now ++ c.args.space.now.chunk in
    let mid = g.T.Target.bytes c.put_two.new.target ++ c.put_two.new.chunk in
    on_ok_weaker c.write_members.result
    (λ put e v j ws more places is.
    row_put g.met.P.Paired.laws e v c.args.low j ws c.args.space.now.places (piece_text c.piece_behind-start-2.result) (piece_text c.piece_behind-start.result) c.args.space.now.mark c.in-Some.first others before mid _ more
    (c.piece_behind-start-2.ensures.text ∙ ap (λ l. 44 ∷ l) digits) (c.piece_behind-start.ensures.text ∙ ap (λ l. c.args.space.now.mark ∷ l) digits) places (sym is ∙ cut)
    (pair_put before mid (piece_text c.piece_behind-start.result) c.as_slice-pieces.result.now c.in-Some.first c.index-pieces-first.result c.in_ok-put_two.ensures.put c.index-pieces-first.is there
    ∙ ap (λ p. before ++ (piece_text c.piece_behind-start.result ++ text_at p c.in-Some.first)) c.as_slice-pieces.ensures.pieces)
    (put ∙ ap (λ p. mid ++ texts_at p (piece_text c.piece_behind-start-2.result) others) c.as_slice-pieces.ensures.pieces))
    c.write_members.ensures.written

pub returns-in_err-put_two-clause-refused : goal.returns-in_err-put_two-clause-refused
returns-in_err-put_two-clause-refused g c =
    let before = g.T.Target.bytes c.args.target.now ++ c.args.space.now.chunk in
    IfErr-weaker c.from_residual.result (RefusesFront g.T.Target.bytes g.T.Target.text g.T.Target.may_refuse c.args.target.now before) _
    (λ reason front e v j ws more places is. refuses_longer front (pairs_text_by g.P.Paired.rules c.args.space.now.mark (near_pairs g.P.Paired.rules e v c.args.low j ws ++ more)) _ refl refl)
    (search rules)

pub returns-clause-refused : goal.returns-clause-refused
returns-clause-refused g c =
    let cut = first_near c.args.near.now c.args.from c.in-Some.first c.in-Some.ensures.found c.in-Some.ensures.name in
    let others = ascending_from c.args.near.now (c.in-Some.first + 1) in
    let digits = c.number_piece-digits.ensures.text ∙ ap (λ n. decimal c.args.low ++ n ∷ []) c.between.ensures in
    let there = subst (λ p. c.in-Some.first < length p) (sym c.as_slice-pieces.ensures.pieces) (first_there c.args.space.now.places _ _ c.in-Some.first cut c.requires.there).0 in
    let before = g.T.Target.bytes c.args.target.now ++ c.args.space.now.chunk in
    let mid = g.T.Target.bytes c.put_two.new.target ++ c.put_two.new.chunk in
    IfErr-weaker c.write_members.result _ _
    (λ reason front e v j ws more places is.
    refuses_longer front (pairs_text_by g.P.Paired.rules 44 more) _
    (row_put g.met.P.Paired.laws e v c.args.low j ws c.args.space.now.places (piece_text c.piece_behind-start-2.result) (piece_text c.piece_behind-start.result) c.args.space.now.mark c.in-Some.first others before mid
    (mid ++ texts_at c.as_slice-pieces.result.now (piece_text c.piece_behind-start-2.result) others) more
    (c.piece_behind-start-2.ensures.text ∙ ap (λ l. 44 ∷ l) digits) (c.piece_behind-start.ensures.text ∙ ap (λ l. c.args.space.now.mark ∷ l) digits) places (sym is ∙ cut)
    (pair_put before mid (piece_text c.piece_behind-start.result) c.as_slice-pieces.result.now c.in-Some.first c.index-pieces-first.result c.in_ok-put_two.ensures.put c.index-pieces-first.is there
    ∙ ap (λ p. before ++ (piece_text c.piece_behind-start.result ++ text_at p c.in-Some.first)) c.as_slice-pieces.ensures.pieces)
    (ap (λ p. mid ++ texts_at p (piece_text c.piece_behind-start-2.result) others) c.as_slice-pieces.ensures.pieces))
    c.in_ok-put_two.ensures.text)
    c.write_members.ensures.refused
