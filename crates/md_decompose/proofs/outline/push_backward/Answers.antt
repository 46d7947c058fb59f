use Rattle.std.proofs.Common.{[], ◌∷◌, ◌++◌, length, reverse, refl, sym, ◌∙◌, ap, inl, inr, arith, append-nil}
use Rattle.std.proofs.lemmas.List.{length_push}
use Rattle.md_text.proofs.Lists.{of_contains}
use Rattle.md_tree.proofs.Stacking.{if_ok}
use Rattle.md_decompose.proofs.Opened.{bare_more, backward_more, opened_behind, opened_whole}
use Rattle.md_decompose.proofs.outline.push_backward.Goals as goal

pub loop-waiting-init : goal.loop-waiting-init
loop-waiting-init g c = record {
  behind = ([], [], sym (append-nil c.args.sets.items), sym (append-nil c.reserve.new.self.items), (refl, λ o known. absurd (of_contains [] o known)));
  room = let count = c.len.ensures in let room = c.in_ok-reserve.ensures.ok in let same = c.in_ok-reserve.ensures.len in omega arith;
  most = inr refl;
}

pub loop-waiting-preserved : goal.loop-waiting-preserved
loop-waiting-preserved g c =
    let behind = c.loop-waiting.invariant.behind in
    let moved = c.push_last.ensures.moved in
    let more =
    backward_more c.args.kind c.loop-waiting.left.items c.push_last.new.left.items behind.0 moved.0 c.reserve.new.self.items c.loop-waiting.waiting.items c.push_last.new.waiting.items
    moved.1 behind.1 moved.2 behind.3 moved.3
    in
    let fewer = ap length moved.2 ∙ length_push c.push_last.new.left.items moved.0 in
    let longer = ap length moved.3 ∙ length_push c.loop-waiting.waiting.items moved.1 in
    let was = c.loop-waiting.left.ok.0 in
    let now = c.push_last.new.left.ok.0 in
    let before = c.loop-waiting.waiting.ok.0 in
    let after = c.push_last.new.waiting.ok.0 in
    record {
      behind = (moved.0 ∷ behind.0, moved.1 ∷ behind.1, behind.2 ∙ more.0, more.1, bare_more c.args.kind moved.0 behind.0 moved.1 behind.1 moved.4 moved.5 moved.6 behind.4);
      room = let room = c.loop-waiting.invariant.room in let same = c.push_last.ensures.room in omega arith;
      most = inl (let test = c.loop-waiting-test.true in let count = c.len-in-loop-waiting.ensures in omega arith);
    }

pub returns-then-from-gt0 : goal.returns-then-from-gt0
returns-then-from-gt0 g c =
    let behind = c.loop-waiting.invariant.behind in
    let long = c.loop-waiting.left.ok.0 in
    let all = c.args.sets.ok.0 in
    let test = c.loop-waiting-test.false in
    let count = c.len-in-loop-waiting.ensures in
    let some = c.if-from-gt0.true in
    let least = c.max-others.ensures in
    let few = c.requires.from in (
      behind.1,
      behind.3 ∙ ap (λ os. os ++ reverse behind.1) c.in_ok-reserve.ensures.items,
      opened_behind c.args.kind c.args.from c.args.sets.items c.loop-waiting.left.items behind.0 c.args.chain.now behind.1 (omega arith)
          (elim c.loop-waiting.invariant.most [ inl most ↦ omega arith | inr same ↦ let whole = ap length same in omega arith ])
          behind.2 behind.4,
    )

pub returns : goal.returns
returns g c =
    let behind = c.loop-waiting.invariant.behind in
    let long = c.loop-waiting.left.ok.0 in
    let test = c.loop-waiting-test.false in
    let count = c.len-in-loop-waiting.ensures in
    let none = c.if-from-gt0.false in
    let least = c.max-others.ensures in
    if_ok c.push_first.result
    (λ _ pushed.
    opened_whole c.args.kind c.args.from c.args.sets.items c.loop-waiting.left.items behind.0 c.args.chain.now c.args.waiting.now.items c.loop-waiting.waiting.items c.push_first.new.waiting.items
    behind.1 (omega arith) (omega arith)
    (elim c.loop-waiting.invariant.most [ inl most ↦ inl (omega arith) | inr same ↦ inr same ])
    behind.2 (behind.3 ∙ ap (λ os. os ++ reverse behind.1) c.in_ok-reserve.ensures.items) behind.4 pushed.0 pushed.1)
    c.push_first.ensures
