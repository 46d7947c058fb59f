use Rattle.std.proofs.Common.{sym, subst, rules}
use Rattle.std.specs.FinSet.{difference}
use Rattle.std.specs.Borrow.{Bor}
use Rattle.md_graph.specs.Sets.{HasSome}
use Rattle.md_graph.proofs.SetLemmas.{Has-along, of_minus, minus_lacks, lacks_along}
use Rattle.md_modules.proofs.ClassLemmas.{alone_uncut}
use Rattle.md_digraph.specs.PlainDigraph.{has_arc_to}
use Rattle.md_digraph.specs.ArcColours.{between}
use Rattle.md_digraph.proofs.RowLemmas.{alone_told, found_in, none_found_in}
use Rattle.md_digraph.proofs.refinement.cutting_row.Goals as goal

pub returns-then-is_some-clause-none : goal.returns-then-is_some-clause-none
returns-then-is_some-clause-none g c =
    let alone = alone_told c.args.class.now c.alone.result c.is_some.result c.alone.ensures.one c.is_some.ensures c.if-is_some.true in
    alone_uncut (between (has_arc_to c.args.graph.now)) c.args.set.now c.args.class.now alone.0 alone.1

pub row_for-requires : goal.row_for-requires
row_for-requires g c =
    let names = c.set_in-names.result.now in
    let same = c.set_in-names.ensures.value in (
      search rules,
      (
        search rules,
        (
          λ x h. c.requires.inside x (c.requires.part x (Has-along names c.args.class.now same x h)),
          (
            λ x h. c.requires.inside x (of_minus c.args.set.now names x (Has-along c.minus.result (difference c.args.set.now names) c.minus.ensures.value x h)).0,
            (
              λ x h. lacks_along c.minus.result (difference c.args.set.now names) c.minus.ensures.value x (minus_lacks c.args.set.now names x h),
              subst HasSome (sym same) c.requires.some,
            ),
          ),
        ),
      ),
    )

pub returns-clause-found : goal.returns-clause-found
returns-clause-found g c =
    found_in (between (has_arc_to c.args.graph.now)) (λ (row : Bor _). row.now) c.args.set.now c.args.class.now c.set_in-names.result.now c.minus.result c.row_for.result
    c.set_in-names.ensures.value c.minus.ensures.value c.row_for.ensures.found

pub returns-clause-none : goal.returns-clause-none
returns-clause-none g c =
    none_found_in (between (has_arc_to c.args.graph.now)) c.args.set.now c.args.class.now c.set_in-names.result.now c.minus.result c.row_for.result
    c.set_in-names.ensures.value c.minus.ensures.value c.row_for.ensures.none
