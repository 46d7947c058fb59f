use Rattle.md_forcing.proofs.SeenRows.{put_turned, put_taken}
use Rattle.md_forcing.proofs.arc_set.ArcSetOf.put.Goals as goal

pub invariant_of-self : goal.invariant_of-self
invariant_of-self g c =
    put_turned _ _ _ c.args.by.tail c.args.by.head c.self.invariant c.self.view_is c.requires.tail c.requires.head _ _ _ _ c.insert.ensures.changed c.index_mut.ensures.value c.insert-2.ensures.changed c.index_mut-2.ensures.value

pub returns-clause-taken : goal.returns-clause-taken
returns-clause-taken g c =
    put_taken _ _ c.args.by c.self.view_is c.requires.tail _ _ c.insert.ensures.changed c.index_mut.ensures.value
