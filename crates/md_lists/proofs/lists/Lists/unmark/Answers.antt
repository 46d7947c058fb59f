use Rattle.std.proofs.Common.{None, sym, ◌∙◌, ap}
use Rattle.md_graph.specs.Linked.{first_or}
use Rattle.md_lists.specs.Links.{unmarked, unmarked_first}
use Rattle.md_lists.proofs.Showing.{opened, shown, links_shown}
use Rattle.md_lists.proofs.Marks.{marks_first, marks_none, first_items, unmarks_first}
use Rattle.md_lists.proofs.lists.Lists.unmark.Goals as goal

pub index-next-requires : goal.index-next-requires
index-next-requires g c = (first_items c.self.inside c.args.self.now c.self.invariant c.self.view_is c.in-Some.first c.in-Some.is).in_mark_nexts

pub index_mut-requires : goal.index_mut-requires
index_mut-requires g c = (first_items c.self.inside c.args.self.now c.self.invariant c.self.view_is c.in-Some.first c.in-Some.is).in_tallies

pub index_mut-requires-in-Some : goal.index_mut-requires-in-Some
index_mut-requires-in-Some g c = (first_items c.self.inside c.args.self.now c.self.invariant c.self.view_is c.in-Some.first c.in-Some.is).in_notes

pub invariant_of-self : goal.invariant_of-self
invariant_of-self g c = (c.self.invariant.0, (unmarked c.args.self.now, unmarks_first c.self.inside c.args.self.now c.self.invariant c.self.view_is c.in-Some.first c.in-Some.is _ c.without-self-inside.result c.index-next.ensures c.without-self-inside.ensures))

pub returns-in-Some-clause-first : goal.returns-in-Some-clause-first
returns-in-Some-clause-first g c = sym c.in-Some.is ∙ marks_first c.self.inside c.args.self.now c.self.invariant c.self.view_is

pub returns-in-Some-clause-unmarked : goal.returns-in-Some-clause-unmarked
returns-in-Some-clause-unmarked g c = shown _ _ (unmarks_first c.self.inside c.args.self.now c.self.invariant c.self.view_is c.in-Some.first c.in-Some.is _ c.without-self-inside.result c.index-next.ensures c.without-self-inside.ensures)

pub returns-in-Some-clause-links : goal.returns-in-Some-clause-links
returns-in-Some-clause-links g c = links_shown _ _ (unmarks_first c.self.inside c.args.self.now c.self.invariant c.self.view_is c.in-Some.first c.in-Some.is _ c.without-self-inside.result c.index-next.ensures c.without-self-inside.ensures)

pub returns-in-None-clause-first : goal.returns-in-None-clause-first
returns-in-None-clause-first g c = sym (ap (λ z. first_or z None) (marks_none c.self.inside c.args.self.now c.self.invariant c.self.view_is c.in-None.is))

pub returns-in-None-clause-unmarked : goal.returns-in-None-clause-unmarked
returns-in-None-clause-unmarked g c = sym (ap (unmarked_first c.args.self.now) (marks_none c.self.inside c.args.self.now c.self.invariant c.self.view_is c.in-None.is))

pub returns-in-None-clause-links : goal.returns-in-None-clause-links
returns-in-None-clause-links g c = (opened c.self.inside c.args.self.now c.self.invariant c.self.view_is).links
