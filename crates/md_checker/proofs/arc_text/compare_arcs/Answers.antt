use Rattle.std.proofs.Common.{◌≡◌, ◌∷◌, ◌++◌, ◌∙◌, take, length, refl, ap, rules, arith}
use Rattle.std.proofs.lemmas.Result.{on_ok_weaker}
use Rattle.md_text.specs.Pieces.{piece_text}
use Rattle.md_comparability.specs.Listed.{arcs_below}
use Rattle.md_report.specs.Lines.{arcs_text}
use Rattle.md_checker.proofs.ArcTexts.{arcs_begin, arcs_on, heads_there}
use Rattle.md_checker.proofs.arc_text.compare_arcs.Goals as goal

pub loop-tail-init : goal.loop-tail-init
loop-tail-init g c = record {
  text = refl;
  same = arcs_begin c.args.set.now (take c.args.compared.now.same c.args.compared.now.text.now) c.new-chunk.result c.new-chunk.ensures.value;
}

pub write_members-requires : goal.write_members-requires
write_members-requires g c =
    (search rules, heads_there c.args.set.now c.args.names.now c.loop-tail.tail c.heads-heads.result.now c.requires.heads c.requires.count c.heads-heads.ensures)

pub loop-tail-preserved : goal.loop-tail-preserved
loop-tail-preserved g c = record {
  text = c.in_ok-write_members.ensures.text ∙ c.loop-tail.invariant.text;
  same = arcs_on c.args.set.now c.args.names.now (piece_text c.piece_behind-start.result) c.loop-tail.tail c.heads-heads.result.now (take c.args.compared.now.same c.args.compared.now.text.now) _ _ c.requires.names
      (c.piece_behind-start.ensures.text ∙ ap (λ l. 32 ∷ l) c.number_piece.ensures.text) c.heads-heads.ensures
      (heads_there c.args.set.now c.args.names.now c.loop-tail.tail c.heads-heads.result.now c.requires.heads c.requires.count c.heads-heads.ensures)
      c.loop-tail.invariant.same c.in_ok-write_members.ensures.written;
}

pub returns-clause-text : goal.returns-clause-text
returns-clause-text g c = on_ok_weaker c.take_chunk.result (λ same. same ∙ c.loop-tail.invariant.text) c.take_chunk.ensures.text

pub returns-clause-same : goal.returns-clause-same
returns-clause-same g c =
    let all : c.loop-tail.tail ≡ length c.args.set.now = omega arith in
    on_ok_weaker c.take_chunk.result
    (λ put. put ∙ c.loop-tail.invariant.same ∙ ap (λ n. take c.args.compared.now.same c.args.compared.now.text.now ++ arcs_text (arcs_below c.args.set.now n)) all) c.take_chunk.ensures.taken
