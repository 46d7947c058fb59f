use Rattle.std.proofs.Common.{◌≡◌, ◌≤◌, length, ◌-◌, ◌*◌, ◌/◌}
use Rattle.md_graph.specs.declared.TheConstants.{WORDS}
use Rattle.md_graph.specs.Words.{members_left}
use Rattle.md_graph.proofs.members.MembersIterator.next.Given as goal

abbrev pub invariant-loop-self : goal.invariant-loop-self
invariant-loop-self l = record {
  in_words : l.self-inside.used ≤ length l.self-inside.words.now;
  used : l.self-inside.used ≤ WORDS;
  at_most : l.self-inside.first / 64 ≤ WORDS;
  whole : 64 * (l.self-inside.first / 64) ≡ l.self-inside.first;
  same : members_left l.self-inside.words.now l.self-inside.used (l.self-inside.first / 64) l.self-inside.left ≡ members_left l.initial.self-inside.words.now l.initial.self-inside.used (l.initial.self-inside.first / 64) l.initial.self-inside.left;
}

abbrev pub decreases-loop-self : goal.decreases-loop-self
decreases-loop-self l = l.self-inside.used - l.self-inside.first / 64
