use Rattle.std.proofs.Common.{◌++◌, ◌∙◌, rules, refl, subst, arith}
use Rattle.md_graph.specs.NameSet.{ascending_from}
use Rattle.md_text.specs.Pieces.{piece_text, texts_at}
use Rattle.md_blocks.proofs.BlockLemmas.{ArePut, nothing_more, empty_from, word_put, word_there, words_begin, words_more, words_end}
use Rattle.std.proofs.lemmas.Result.{IfErr-weaker}
use Rattle.md_blocks.specs.Refusals.{RefusesFront}
use Rattle.md_blocks.proofs.Refusals.{refuses_longer}
use Rattle.md_blocks.proofs.writer.write_members.Goals as goal

pub returns-in_default : goal.returns-in_default
returns-in_default g c = record {
  written = nothing_more c.args.pieces.now (piece_text c.args.start) (g.T.Target.bytes c.args.target.now ++ c.args.chunk.now) _ (empty_from c.args.set.now 0 c.args.from (omega arith) c.in_default.ensures.none);
  text = refl;
  refused = tt;
}

pub loop-next-init : goal.loop-next-init
loop-next-init g c =
    let word = c.first_word-next.ensures in
    record {
      put = words_begin c.args.set.now c.args.pieces.now (piece_text c.args.start) c.args.from c.first_word-next.result (g.T.Target.bytes c.args.target.now ++ c.args.chunk.now) word.named word.aligned word.members word.none c.requires.there;
      text = refl;
    }

pub write_block-requires-clause-there : goal.write_block-requires-clause-there
write_block-requires-clause-there g c =
    let now = g.T.Target.bytes c.loop-next.target ++ c.loop-next.chunk in
    let total = (g.T.Target.bytes c.args.target.now ++ c.args.chunk.now) ++ texts_at c.args.pieces.now (piece_text c.args.start) (ascending_from c.args.set.now c.args.from) in
    let put = subst (λ n. ArePut c.args.set.now n c.args.pieces.now (piece_text c.args.start) now total) c.in-Some-next.is c.loop-next.invariant.put in
    word_there c.args.set.now c.args.pieces.now (piece_text c.args.start) c.in-Some-next.first c.in-Some-next.bits now total put

pub loop-next-preserved : goal.loop-next-preserved
loop-next-preserved g c =
    let now = g.T.Target.bytes c.loop-next.target ++ c.loop-next.chunk in
    let total = (g.T.Target.bytes c.args.target.now ++ c.args.chunk.now) ++ texts_at c.args.pieces.now (piece_text c.args.start) (ascending_from c.args.set.now c.args.from) in
    let put = subst (λ n. ArePut c.args.set.now n c.args.pieces.now (piece_text c.args.start) now total) c.in-Some-next.is c.loop-next.invariant.put in
    let word = c.next_word-next.ensures in
    record {
      put = words_more c.args.set.now c.args.pieces.now (piece_text c.args.start) c.in-Some-next.first c.in-Some-next.bits now total put c.next_word-next.result (g.T.Target.bytes c.make_room.new.target ++ c.write_block.new.chunk)
          (word_put c.args.pieces.now (piece_text c.args.start) (g.T.Target.bytes c.loop-next.target) c.loop-next.chunk (g.T.Target.bytes c.make_room.new.target) c.make_room.new.chunk c.write_block.new.chunk _ c.in_ok-make_room.ensures.same c.write_block.ensures.written)
          word.named word.aligned word.members word.none;
      text = c.in_ok-make_room.ensures.text ∙ c.loop-next.invariant.text;
    }

pub returns : goal.returns
returns g c = record {
  written = words_end c.args.set.now c.args.pieces.now (piece_text c.args.start) c.loop-next.next _ _ c.in_default-next.is c.loop-next.invariant.put;
  text = c.loop-next.invariant.text;
  refused = tt;
}

pub returns-in_err-make_room-clause-refused : goal.returns-in_err-make_room-clause-refused
returns-in_err-make_room-clause-refused g c =
    let there = g.T.Target.bytes c.loop-next.target ++ c.loop-next.chunk in
    IfErr-weaker c.from_residual.result (RefusesFront g.T.Target.bytes g.T.Target.text g.T.Target.may_refuse c.loop-next.target there) _
    (λ reason front. refuses_longer front _ _ c.loop-next.invariant.put.written c.loop-next.invariant.text)
    (search rules)
