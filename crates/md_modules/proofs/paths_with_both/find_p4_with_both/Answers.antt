use Rattle.std.proofs.Common.{sym, ◌∙◌}
use Rattle.std.proofs.Math.Bool.{not-not}
use Rattle.md_graph.proofs.GraphLemmas.{adjacent_sym}
use Rattle.md_modules.proofs.BothPaths.{path_of_pair, path_beyond, turned_both, turned_alike, no_path_with_both}
use Rattle.md_modules.proofs.paths_with_both.find_p4_with_both.Goals as goal

pub returns-in-Some-clause-found : goal.returns-in-Some-clause-found
returns-in-Some-clause-found g c =
    path_of_pair c.vertices-vertices.ensures.graph c.args.u c.args.v c.has_edge-joined.result c.has_edge-joined.ensures.value c.in-Some.b c.in-Some.c
    ((c.seen_alone-by_u.ensures c.in-Some.b).0 c.in-Some.ensures.found.0) ((c.seen_alone-by_v.ensures c.in-Some.c).0 c.in-Some.ensures.found.1) c.in-Some.ensures.found.2
    c.path_between.result c.path_between.ensures.inner c.path_between.ensures.outer

pub returns-in-Some-pair_across-clause-found : goal.returns-in-Some-pair_across-clause-found
returns-in-Some-pair_across-clause-found g c =
    let found = c.in-Some-pair_across.ensures.found in
    path_beyond c.vertices-vertices.ensures.graph c.args.u c.args.v c.has_edge-joined.result c.has_edge-joined.ensures.value c.in-Some-pair_across.m c.in-Some-pair_across.z
    ((c.seen_alone-by_v.ensures c.in-Some-pair_across.m).0 found.0) ((c.seen_alike-alike.ensures c.in-Some-pair_across.z).0 found.1) (found.2 ∙ not-not c.has_edge-joined.result)
    c.path_past.result c.path_past.ensures.next c.path_past.ensures.over

pub returns-in-Some-pair_across-2-clause-found : goal.returns-in-Some-pair_across-2-clause-found
returns-in-Some-pair_across-2-clause-found g c =
    let found = c.in-Some-pair_across-2.ensures.found in
    let g = c.args.graph.now in
    let joined = c.has_edge-joined.result in
    let m = c.in-Some-pair_across-2.m in
    let z = c.in-Some-pair_across-2.z in
    let p = c.path_past-in-Some-pair_across-2.result in
    turned_both g c.args.u c.args.v p.a p.b p.c p.d
    (path_beyond c.vertices-vertices.ensures.graph c.args.v c.args.u joined (c.has_edge-joined.ensures.value ∙ adjacent_sym g c.args.u c.args.v) m z
    ((c.seen_alone-by_u.ensures m).0 found.0) (turned_alike g c.args.u c.args.v z joined ((c.seen_alike-alike.ensures z).0 found.1)) (found.2 ∙ not-not joined)
    p c.path_past-in-Some-pair_across-2.ensures.next c.path_past-in-Some-pair_across-2.ensures.over)

pub returns-clause-none : goal.returns-clause-none
returns-clause-none g c =
    let joined = c.has_edge-joined.result in
    no_path_with_both c.vertices-vertices.ensures.graph c.args.u c.args.v c.requires.differ joined c.has_edge-joined.ensures.value
    (λ b z at_u at_v across. c.in_default.ensures.none b z ((c.seen_alone-by_u.ensures b).1 at_u) ((c.seen_alone-by_v.ensures z).1 at_v) across)
    (λ m z at_v alike across. c.in_default-pair_across.ensures.none m z ((c.seen_alone-by_v.ensures m).1 at_v) ((c.seen_alike-alike.ensures z).1 alike) (across ∙ sym (not-not joined)))
    (λ m z at_u alike across. c.in_default-pair_across-2.ensures.none m z ((c.seen_alone-by_u.ensures m).1 at_u) ((c.seen_alike-alike.ensures z).1 alike) (across ∙ sym (not-not joined)))
