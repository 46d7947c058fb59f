use Rattle.md_forcing.proofs.SeenRows.{tails_turned, tails_taken}
use Rattle.md_forcing.proofs.arc_set.ArcSetOf.take_tails.Goals as goal

pub invariant_of-self : goal.invariant_of-self
invariant_of-self g c =
    tails_turned _ _ _ c.args.head c.args.tails.now c.self.invariant c.self.view_is c.requires.room _ _ c.union_with.ensures.changed c.index_mut.ensures.value c.self.inside.by_tail.len c.deref_mut.result.now c.insert_in_rows.new.rows c.self.inside.by_tail.ok.0 c.deref_mut.ensures.value c.insert_in_rows.auto.rows c.insert_in_rows.ensures.rows

pub returns-clause-taken : goal.returns-clause-taken
returns-clause-taken g c =
    tails_taken _ c.self.inside.by_head.items _ c.args.head c.args.tails.now c.self.invariant c.self.view_is c.requires.room _ _ c.union_with.ensures.changed c.index_mut.ensures.value c.self.inside.by_tail.len c.deref_mut.result.now c.insert_in_rows.new.rows c.self.inside.by_tail.ok.0 c.deref_mut.ensures.value c.insert_in_rows.auto.rows c.insert_in_rows.ensures.rows
