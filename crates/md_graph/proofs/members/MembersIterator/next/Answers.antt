use Rattle.std.proofs.Common.{◌≡◌, ◌+◌, ◌/◌, get_or, ◌∙◌, ap, sym, arith}
use Rattle.md_graph.specs.Words.{members_left}
use Rattle.md_graph.proofs.MemberLists.{next_word, no_more_words}
use Rattle.md_graph.proofs.members.MembersIterator.next.Goals as goal

pub returns-then-self-at-clause-steps : goal.returns-then-self-at-clause-steps
returns-then-self-at-clause-steps c =
    let none = no_more_words c.loop-self.self-inside.words.now c.loop-self.self-inside.used (c.loop-self.self-inside.first / 64) c.loop-self.self-inside.left c.loop-self-test.true c.if-self-at.true in
    (sym c.self.view_is ∙ sym c.loop-self.invariant.same ∙ none, none)

pub loop-self-preserved : goal.loop-self-preserved
loop-self-preserved c =
    let inside = c.loop-self.self-inside in
    let next_at : (inside.first + 64) / 64 ≡ inside.first / 64 + 1 = omega arith in
    record {
      in_words = c.loop-self.invariant.in_words;
      used = c.loop-self.invariant.used;
      at_most = omega arith;
      whole = omega arith;
      same = ap (λ k. members_left inside.words.now inside.used k (get_or inside.words.now (inside.first / 64 + 1) 0)) next_at
          ∙ next_word inside.words.now inside.used (inside.first / 64) inside.left c.loop-self-test.true (omega arith) ∙ c.loop-self.invariant.same;
    }
