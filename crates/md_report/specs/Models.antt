-- The line that says whether a graph has a permutation model.
-- Source: Golumbic, Algorithmic Graph Theory and Perfect Graphs, chapter 7.
use Rattle.md_graph.specs.PlainGraph.{PlainGraph, adjacent}
use Rattle.md_forcing.specs.declared.arc_set.Side.TheVariants.{NonEdges}
use Rattle.md_forcing.specs.Sides.{adjacent_on}
use Rattle.md_comparability.specs.Chains.{IsForcingChain, HasForcingChain}
use Rattle.md_comparability.specs.Orders.{Realise}
use Rattle.md_report.specs.Lines.{PlainLine, orders, forced_in, forced_in_complement}

-- a forcing chain of the graph; where it has none, a forcing chain of its complement; or two orders that realise the graph, which
-- there are exactly where neither has a chain
abbrev pub IsModelLine : PlainGraph → PlainLine → Type 0
IsModelLine g (orders first second) = Realise (adjacent g) g.vertices first second
IsModelLine g (forced_in chain) = IsForcingChain (adjacent g) chain
IsModelLine g (forced_in_complement chain) = (¬ HasForcingChain (adjacent g)) × IsForcingChain (adjacent_on NonEdges g) chain
IsModelLine g _ = ⊥
