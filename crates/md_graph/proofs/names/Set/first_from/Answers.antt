use Rattle.md_graph.proofs.BitWords.{in_use_past}
use Rattle.std.proofs.Common.{refl, ◌*◌}
use Rattle.md_graph.proofs.Limits.{some_name}
use Rattle.md_graph.proofs.FirstPlace.{least_from_or_none}
use Rattle.md_graph.proofs.names.Set.first_from.Goals as goal

pub returns-clause-found : goal.returns-clause-found
returns-clause-found g c = (least_from_or_none c.self.inside.words (64 * g.row.W) g.row.W _ c.args.v _ c.first_place.result refl c.words_passed.ensures.few (in_use_past c.self.inside.words _ _ c.self.invariant.1 c.words_passed.ensures.all) c.self.view_is c.first_place.ensures.found c.first_place.ensures.none).0

pub returns-clause-none : goal.returns-clause-none
returns-clause-none g c = (least_from_or_none c.self.inside.words (64 * g.row.W) g.row.W _ c.args.v _ c.first_place.result refl c.words_passed.ensures.few (in_use_past c.self.inside.words _ _ c.self.invariant.1 c.words_passed.ensures.all) c.self.view_is c.first_place.ensures.found c.first_place.ensures.none).1

pub returns-clause-below : goal.returns-clause-below
returns-clause-below g c = (least_from_or_none c.self.inside.words (64 * g.row.W) g.row.W _ c.args.v _ c.first_place.result refl c.words_passed.ensures.few (in_use_past c.self.inside.words _ _ c.self.invariant.1 c.words_passed.ensures.all) c.self.view_is c.first_place.ensures.found c.first_place.ensures.none).2

pub returns-clause-name : goal.returns-clause-name
returns-clause-name g c = some_name g.row.W _ c.self.invariant.2 ((least_from_or_none c.self.inside.words (64 * g.row.W) g.row.W _ c.args.v _ c.first_place.result refl c.words_passed.ensures.few (in_use_past c.self.inside.words _ _ c.self.invariant.1 c.words_passed.ensures.all) c.self.view_is c.first_place.ensures.found c.first_place.ensures.none).2)
