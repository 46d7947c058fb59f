use Rattle.md_forcing.proofs.Entries.{place_found, place_none}
use Rattle.md_forcing.proofs.class.Class.place_of.Goals as goal

pub returns-clause-found : goal.returns-clause-found
returns-clause-found c = place_found _ _ c.args.by c.get_index_of.result c.self.view_is c.get_index_of.ensures.index

pub returns-clause-none : goal.returns-clause-none
returns-clause-none c = place_none _ _ c.args.by c.get_index_of.result c.self.view_is c.get_index_of.ensures.index
