mod RankLemmas
mod CutLemmas
mod OrderLemmas
mod OrderSearch
mod ArcPairs
mod DirectedNodes
mod OpenSets
