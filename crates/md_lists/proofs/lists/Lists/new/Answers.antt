use Rattle.md_lists.specs.Links.{all_free}
use Rattle.md_lists.proofs.Showing.{shown, links_shown}
use Rattle.md_lists.proofs.AllFree.{starts}
use Rattle.md_lists.proofs.lists.Lists.new.Goals as goal

pub invariant_of-result : goal.invariant_of-result
invariant_of-result c = ((c.in_ok-with_capacity.ensures.capacity, c.in_ok-with_capacity-2.ensures.capacity, c.in_ok-with_capacity-3.ensures.capacity, c.in_ok-with_capacity-4.ensures.capacity, c.in_ok-with_capacity-5.ensures.capacity, c.in_ok-with_capacity-6.ensures.capacity, c.in_ok-with_capacity-7.ensures.capacity, c.in_ok-with_capacity-8.ensures.capacity, c.in_ok-with_capacity-9.ensures.capacity), (all_free, starts _ c.in_ok-with_capacity.ensures.len c.in_ok-with_capacity.ensures.items c.in_ok-with_capacity-2.ensures.items c.in_ok-with_capacity-3.ensures.items c.in_ok-with_capacity-4.ensures.items c.in_ok-with_capacity-5.ensures.items c.in_ok-with_capacity-6.ensures.items c.in_ok-with_capacity-7.ensures.items c.empty.ensures c.in_ok-with_capacity-8.ensures.items c.in_ok-with_capacity-9.ensures.items))

pub returns-clause-free : goal.returns-clause-free
returns-clause-free c = shown _ _ (starts _ c.in_ok-with_capacity.ensures.len c.in_ok-with_capacity.ensures.items c.in_ok-with_capacity-2.ensures.items c.in_ok-with_capacity-3.ensures.items c.in_ok-with_capacity-4.ensures.items c.in_ok-with_capacity-5.ensures.items c.in_ok-with_capacity-6.ensures.items c.in_ok-with_capacity-7.ensures.items c.empty.ensures c.in_ok-with_capacity-8.ensures.items c.in_ok-with_capacity-9.ensures.items)

pub returns-clause-links : goal.returns-clause-links
returns-clause-links c = links_shown _ _ (starts _ c.in_ok-with_capacity.ensures.len c.in_ok-with_capacity.ensures.items c.in_ok-with_capacity-2.ensures.items c.in_ok-with_capacity-3.ensures.items c.in_ok-with_capacity-4.ensures.items c.in_ok-with_capacity-5.ensures.items c.in_ok-with_capacity-6.ensures.items c.in_ok-with_capacity-7.ensures.items c.empty.ensures c.in_ok-with_capacity-8.ensures.items c.in_ok-with_capacity-9.ensures.items)
