use Rattle.std.proofs.Common.{◌≡◌, ◌<◌, length, refl, inl, sym, subst, rules, arith}
use Rattle.std.proofs.lemmas.List.{get_or_read}
use Rattle.std.specs.FinSet.{empty, difference}
use Rattle.md_graph.specs.Sets.{NameSet, Has, HasSome}
use Rattle.md_graph.proofs.SetLemmas.{of_minus}
use Rattle.md_modules.specs.Classes.{class_at}
use Rattle.md_modules.proofs.ClassLists.{work_passes, work_falls, cut_at}
use Rattle.md_modules.proofs.ClassLemmas.{IsCutBy, cutting_begins, cutting_passes, cutting_ends, cutting_cuts, sees_some, misses_some, module_unless_cut, left_begins}
use Rattle.md_digraph.specs.PlainDigraph.{has_arc_to}
use Rattle.md_digraph.specs.ArcColours.{between}
use Rattle.md_digraph.proofs.ArcTurns.{arcs_told}
use Rattle.md_digraph.specs.Cuts.{IsCutByRow}
use Rattle.md_digraph.proofs.RowLemmas.{is_cut_by}
use Rattle.md_digraph.proofs.refinement.directed_cut_classes.Goals as goal

pub loop-at-init : goal.loop-at-init
loop-at-init g c = cutting_begins c.args.set.now c.args.rest.now c.args.classes.items c.requires.holds

pub cutting_row-requires : goal.cutting_row-requires
cutting_row-requires g c =
    let cs = c.loop-at.classes.items in
    let known : c.loop-at.at < length cs = omega (arith, c.loop-at.classes.ok.0) in
    let class : c.index.result.now ≡ class_at cs c.loop-at.at = get_or_read cs c.loop-at.at _ known c.index.ensures empty in
    let partition = c.loop-at.invariant.holds.partition in (
      search rules,
      (
        search rules,
        (
          search rules,
          (
            c.requires.inside,
            (
              λ x h. c.requires.part x (partition.inside c.loop-at.at x (subst (λ (t : NameSet). Has t x) class h)),
              subst HasSome (sym class) (partition.are_apart.some c.loop-at.at known),
            ),
          ),
        ),
      ),
    )

pub loop-at-smaller-in-Continue-1 : goal.loop-at-smaller-in-Continue-1
loop-at-smaller-in-Continue-1 g c =
    let e = between (has_arc_to c.args.graph.now) in
    let s = c.args.set.now in
    let cs = c.loop-at.classes.items in
    let row = c.in-Some.row.now in
    let known : c.loop-at.at < length cs = omega (arith, c.loop-at.classes.ok.0) in
    let class : c.index.result.now ≡ class_at cs c.loop-at.at = get_or_read cs c.loop-at.at _ known c.index.ensures empty in
    let cut : IsCutByRow e s (class_at cs c.loop-at.at) row = subst (λ (t : NameSet). IsCutByRow e s t row) class c.in-Some.ensures.found in
    let by : IsCutBy e s (class_at cs c.loop-at.at) row cut.by = is_cut_by e s (class_at cs c.loop-at.at) row cut in
    work_falls cs c.cut.new.classes.items c.loop-at.at row known (sees_some s row row cs c.loop-at.at cut.by by (inl refl)) (misses_some s row row cs c.loop-at.at cut.by by (inl refl)) c.in_ok-cut.ensures

pub loop-at-preserved-in-Continue-1 : goal.loop-at-preserved-in-Continue-1
loop-at-preserved-in-Continue-1 g c =
    let e = between (has_arc_to c.args.graph.now) in
    let s = c.args.set.now in
    let cs = c.loop-at.classes.items in
    let row = c.in-Some.row.now in
    let known : c.loop-at.at < length cs = omega (arith, c.loop-at.classes.ok.0) in
    let class : c.index.result.now ≡ class_at cs c.loop-at.at = get_or_read cs c.loop-at.at _ known c.index.ensures empty in
    let cut : IsCutByRow e s (class_at cs c.loop-at.at) row = subst (λ (t : NameSet). IsCutByRow e s t row) class c.in-Some.ensures.found in
    let by : IsCutBy e s (class_at cs c.loop-at.at) row cut.by = is_cut_by e s (class_at cs c.loop-at.at) row cut in
    cutting_cuts s row row cs c.loop-at.at cut.by by (inl refl) c.args.rest.now c.cut.new.classes.items
    (cut_at cs c.cut.new.classes.items c.loop-at.at _ _ known c.in_ok-cut.ensures) known c.loop-at.invariant

pub loop-at-smaller : goal.loop-at-smaller
loop-at-smaller g c =
    let cs = c.loop-at.classes.items in
    let known : c.loop-at.at < length cs = omega (arith, c.loop-at.classes.ok.0) in
    work_passes cs c.loop-at.at known (c.loop-at.invariant.holds.partition.are_apart.some c.loop-at.at known)

pub loop-at-preserved : goal.loop-at-preserved
loop-at-preserved g c =
    let s = c.args.set.now in
    let cs = c.loop-at.classes.items in
    let known : c.loop-at.at < length cs = omega (arith, c.loop-at.classes.ok.0) in
    let class : c.index.result.now ≡ class_at cs c.loop-at.at = get_or_read cs c.loop-at.at _ known c.index.ensures empty in
    let partition = c.loop-at.invariant.holds.partition in
    let here : NameSet = class_at cs c.loop-at.at in
    cutting_passes s c.args.rest.now cs c.loop-at.at c.loop-at.invariant
    (module_unless_cut s here arcs_told c.index.result.now (difference s here) class (left_begins s here (difference s here) refl) (partition.are_apart.some c.loop-at.at known)
    (λ x h. c.requires.part x (partition.inside c.loop-at.at x h))
    (λ p tells. c.in_default.ensures.none p (record { inside = (of_minus s here p tells.inside).0; outside = tells.outside; tells = tells.tells })))

pub returns : goal.returns
returns g c = record {
  maximal = cutting_ends c.args.set.now c.args.rest.now c.loop-at.classes.items c.loop-at.at c.loop-at.invariant (omega (arith, c.loop-at.classes.ok.0));
}
