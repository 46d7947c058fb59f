use Rattle.std.proofs.Common.{◌∷◌, ◌++◌, ◌∙◌, ap, drop, length, arith}
use Rattle.md_blocks.proofs.BlockLemmas.{word_put}
use Rattle.md_text.specs.Pieces.{piece_text}
use Rattle.md_report.proofs.ArcTexts.{arcs_more, arc_more, heads_text, heads_below, head_below}
use Rattle.md_report.proofs.arc_writer.put_tail.Goals as goal

pub put_each-requires-clause-there : goal.put_each-requires-clause-there
put_each-requires-clause-there c = heads_below (length c.args.names.now) _ c.loop-heads.next c.in-Some.heads _ c.args.arcs.now c.requires.there c.in-Some.ensures.arcs

pub loop-heads-preserved : goal.loop-heads-preserved
loop-heads-preserved c =
    let on = c.loop-heads.invariant.on in
    let heads = c.in-Some.heads in
    let below = heads_below (length c.args.names.now) _ c.loop-heads.next heads _ c.args.arcs.now c.requires.there c.in-Some.ensures.arcs in
    let start = c.piece_behind-start.ensures.text ∙ ap (λ l. 32 ∷ l) c.number_piece.ensures.text in
    record {
      on = omega arith;
      written = arcs_more (c.loop-heads.text.items ++ c.loop-heads.chunk) (c.make_room.new.target.items ++ c.put_each.new.self) _ _ (drop c.loop-heads.next c.args.arcs.now) _ _ c.loop-heads.invariant.written c.in-Some.ensures.arcs
          (word_put c.args.names.now (piece_text c.piece_behind-start.result) c.loop-heads.text.items c.loop-heads.chunk c.make_room.new.target.items c.make_room.new.chunk c.put_each.new.self heads c.in_ok-make_room.ensures.same c.put_each.ensures.text)
          (heads_text c.args.names.now c.requires.names (piece_text c.piece_behind-start.result) _ start heads below);
    }

pub bounds-names-head : goal.bounds-names-head
bounds-names-head c = head_below (length c.args.names.now) _ c.in-Some-head_at.head c.loop-head.next _ c.args.arcs.now c.requires.there c.in-Some-head_at.ensures.arc

pub loop-head-preserved : goal.loop-head-preserved
loop-head-preserved c =
    let on = c.loop-head.invariant.on in
    let head = c.in-Some-head_at.head in
    let below = head_below (length c.args.names.now) _ head c.loop-head.next _ c.args.arcs.now c.requires.there c.in-Some-head_at.ensures.arc in
    let start = c.piece_behind-start.ensures.text ∙ ap (λ l. 32 ∷ l) c.number_piece.ensures.text in
    let numeral = ap piece_text c.index-names-head.is ∙ c.requires.names.text head c.index-names-head.result below in
    record {
      on = omega arith;
      written = arc_more (c.loop-head.text.items ++ c.loop-head.chunk) _ _ _ _ _ head (drop c.loop-head.next c.args.arcs.now) _ c.loop-head.invariant.written c.in-Some-head_at.ensures.arc start numeral c.in_ok-put_two-2.ensures.put;
    }
