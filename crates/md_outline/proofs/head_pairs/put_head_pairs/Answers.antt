use Rattle.std.proofs.Common.{◌*◌, ◌<◌, get_or, rules, arith}
use Rattle.std.proofs.lemmas.List.Elements.{All-from_get_or}
use Rattle.md_graph.specs.declared.TheConstants.{NAMES}
use Rattle.md_outline.proofs.HeadPairs.{few_heads}
use Rattle.md_outline.proofs.head_pairs.put_head_pairs.Goals as goal

pub spell-requires : goal.spell-requires
spell-requires g c =
    let few = few_heads c.args.heads.now NAMES c.requires.order (λ i below. c.vertices-vertices.ensures.graph.names (get_or c.args.heads.now i 0) (c.requires.members i below)) in
    record { some = c.requires.some; ascending = c.requires.order; few = omega arith }

pub from_list-all-requires : goal.from_list-all-requires
from_list-all-requires g c =
    (search rules, (All-from_get_or (λ v. v < 64 * g.row.W) c.args.heads.now 0 (λ i below. c.vertices-vertices.ensures.below (get_or c.args.heads.now i 0) (c.requires.members i below)), search rules))

pub count_pairs-requires : goal.count_pairs-requires
count_pairs-requires g c = (search rules, (search rules, λ i below. c.vertices-vertices.ensures.below (get_or c.args.heads.now i 0) (c.requires.members i below)))

pub gather_pairs-requires : goal.gather_pairs-requires
gather_pairs-requires g c =
    let few = few_heads c.args.heads.now NAMES c.requires.order (λ i below. c.vertices-vertices.ensures.graph.names (get_or c.args.heads.now i 0) (c.requires.members i below)) in
    (search rules, (search rules, (c.requires, ((omega arith), (c.from_list-all.ensures.members, c.in_ok-spell.ensures.spelled)))))
