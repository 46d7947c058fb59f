use Rattle.std.proofs.Common.{◌≡◌, ◌<◌, ◌≤◌, ◌+◌, ℕ, List, length, ◌∙◌, sym, ap, subst, rules, arith}
use Rattle.std.proofs.lemmas.List.{get_or_read}
use Rattle.std.specs.FinSet.{contains, empty, difference, intersection}
use Rattle.md_graph.specs.PlainGraph.{adjacent}
use Rattle.md_graph.proofs.GraphLemmas.{contains-neighbours}
use Rattle.md_graph.proofs.Search.{decide_test}
use Rattle.md_graph.specs.Sets.{NameSet, Has, Within, Disjoint, HasSome, only_name}
use Rattle.md_modules.specs.Classes.{class_at}
use Rattle.md_modules.specs.Classes.{HoldsSplitters}
use Rattle.md_modules.proofs.ClassLists.{IsCutAt, work_passes, work_skips, work_falls, cut_at, finer_cut}
use Rattle.md_modules.proofs.ClassLemmas.{IsCutBy, cut_by_row, cutting_begins, cutting_passes, cutting_skips, cutting_ends, cutting_cuts, sees_some, misses_some, left_grows, told_by_left, module_unless_cut}
use Rattle.md_modules.proofs.refinement.cut_classes.Goals as goal
use Rattle.md_modules.proofs.refinement.cut_classes.Goals.{In_ok-split, then-loop-at-test+else-len-most, else-loop-at-test}
use Rattle.md_modules.proofs.refinement.cut_classes.Given.{Over}

pub loop-at-init : goal.loop-at-init
loop-at-init g c = record {
  cutting = cutting_skips c.args.set.now c.args.rest.now c.args.classes.items 0 c.next_several-at.result c.requires.part (cutting_begins c.args.set.now c.args.rest.now c.args.classes.items c.requires.holds)
      (λ k low up. subst (λ (ds : List NameSet). (v : ℕ) × (class_at ds k ≡ only_name v)) c.deref.ensures.value (c.next_several-at.ensures.names k low up));
  finer = λ k. (k, λ x h. h);
  empty = c.none-other.ensures.value;
  left = subst (λ (ds : List NameSet). c.next_several-at.result < length ds → HoldsSplitters (adjacent c.args.graph.now) c.args.set.now (class_at ds c.next_several-at.result) c.begin.new.left) c.deref-2.ensures.value
      (λ known. c.begin.ensures known (adjacent c.args.graph.now));
}

pub splitter-requires : goal.splitter-requires
splitter-requires g c =
    let cs = c.loop-at.classes.items in
    let known : c.loop-at.at < length cs = omega (arith, c.loop-at.classes.ok.0) in
    let class : c.index.result.now ≡ class_at cs c.loop-at.at = get_or_read cs c.loop-at.at _ known c.index.ensures empty in (
      search rules,
      (
        search rules,
        (
          search rules,
          (
            subst HasSome (sym class) (c.loop-at.invariant.cutting.holds.partition.are_apart.some c.loop-at.at known),
            (
              subst (λ (t : NameSet). Disjoint t c.loop-at.left) (sym class) (c.loop-at.invariant.left known).outside,
              (
                λ p h. c.requires.inside p ((c.loop-at.invariant.left known).inside p h),
                λ x h. c.requires.inside x (c.requires.part x (c.loop-at.invariant.cutting.holds.partition.inside c.loop-at.at x (subst (λ (t : NameSet). Has t x) class h))),
              ),
            ),
          ),
        ),
      ),
    )

-- where a class is cut: its place, what is left, and how the row of the splitter cuts it
known_cut : (g : Over) (c : In_ok-split g) →
    let e = adjacent c.args.graph.now in
    let class = class_at c.loop-at.classes.items c.loop-at.at in
    (c.loop-at.at < length c.loop-at.classes.items) × HoldsSplitters e c.args.set.now class c.splitter.new.left × IsCutBy e c.args.set.now class c.neighbours.result.now c.in-Some.p
known_cut g c =
    let cs = c.loop-at.classes.items in
    let known : c.loop-at.at < length cs = omega (arith, c.loop-at.classes.ok.0) in
    let class : c.index.result.now ≡ class_at cs c.loop-at.at = get_or_read cs c.loop-at.at _ known c.index.ensures empty in
    let told = told_by_left c.args.set.now (class_at cs c.loop-at.at) c.index.result.now c.loop-at.left c.splitter.new.left c.in-Some.p class (c.loop-at.invariant.left known)
    c.in-Some.ensures.less c.in-Some.ensures.kept c.in-Some.ensures.found
    in (
      known,
      told.0,
      cut_by_row c.args.set.now (class_at cs c.loop-at.at) c.neighbours.result.now c.in-Some.p
          (λ y. ap (λ s. contains s y) c.neighbours.ensures.set ∙ contains-neighbours c.neighbours.ensures.graph c.in-Some.p y) told.1,
    )

pub neighbours-requires : goal.neighbours-requires
neighbours-requires g c =
    let known : c.loop-at.at < length c.loop-at.classes.items = omega (arith, c.loop-at.classes.ok.0) in
    let left = (c.loop-at.invariant.left known).inside in (
      search rules,
      (search rules, c.requires.inside c.in-Some.p (left c.in-Some.p (c.in-Some.ensures.less c.in-Some.p c.in-Some.ensures.found.inside))),
    )

pub loop-at-smaller-in-Continue-1 : goal.loop-at-smaller-in-Continue-1
loop-at-smaller-in-Continue-1 g c =
    let cs = c.loop-at.classes.items in
    let part : NameSet = c.in_ok-split.ensures.parts.0 in
    let (known, left, cut_by) = known_cut g (goal.at.loop-at-smaller-in-Continue-1 g c).In_ok-split in
    work_falls cs c.split.new.classes.items c.loop-at.at part known
    (sees_some c.args.set.now c.neighbours.result.now part cs c.loop-at.at c.in-Some.p cut_by c.in_ok-split.ensures.parts.1)
    (misses_some c.args.set.now c.neighbours.result.now part cs c.loop-at.at c.in-Some.p cut_by c.in_ok-split.ensures.parts.1) c.in_ok-split.ensures.parts.2

pub loop-at-preserved-in-Continue-1 : goal.loop-at-preserved-in-Continue-1
loop-at-preserved-in-Continue-1 g c =
    let cs = c.loop-at.classes.items in
    let e = adjacent c.args.graph.now in
    let part : NameSet = c.in_ok-split.ensures.parts.0 in
    let (known, left, cut_by) = known_cut g (goal.at.loop-at-preserved-in-Continue-1 g c).In_ok-split in
    let cut : IsCutAt cs c.split.new.classes.items c.loop-at.at (intersection (class_at cs c.loop-at.at) part) (difference (class_at cs c.loop-at.at) part) =
    cut_at cs c.split.new.classes.items c.loop-at.at _ _ known c.in_ok-split.ensures.parts.2
    in
    let inside : Within (class_at cs c.loop-at.at) c.args.set.now = λ x h. c.requires.part x (c.loop-at.invariant.cutting.holds.partition.inside c.loop-at.at x h) in
    record {
      cutting = cutting_cuts c.args.set.now c.neighbours.result.now part cs c.loop-at.at c.in-Some.p cut_by c.in_ok-split.ensures.parts.1 c.args.rest.now c.split.new.classes.items cut known
          c.loop-at.invariant.cutting;
      finer = finer_cut c.args.classes.items cs c.split.new.classes.items c.loop-at.at part cut c.loop-at.invariant.finer;
      empty = c.split.ensures.empty;
      left = λ _. subst (λ (t : NameSet). HoldsSplitters e c.args.set.now t c.split.new.left) (sym cut.here)
          (left_grows c.args.set.now (class_at cs c.loop-at.at) part c.splitter.new.left c.split.new.left left inside c.in_ok-split.ensures.parts.3);
    }

pub loop-at-smaller : goal.loop-at-smaller
loop-at-smaller g c =
    let cs = c.loop-at.classes.items in
    let known : c.loop-at.at < length cs = omega (arith, c.loop-at.classes.ok.0) in
    let passed = work_passes cs c.loop-at.at known (c.loop-at.invariant.cutting.holds.partition.are_apart.some c.loop-at.at known) in
    let skipped = work_skips cs (c.loop-at.at + 1) c.next_several-at-in_default.result c.next_several-at-in_default.ensures.from in
    omega arith

pub loop-at-preserved : goal.loop-at-preserved
loop-at-preserved g c =
    let cs = c.loop-at.classes.items in
    let e = adjacent c.args.graph.now in
    let known : c.loop-at.at < length cs = omega (arith, c.loop-at.classes.ok.0) in
    let class : c.index.result.now ≡ class_at cs c.loop-at.at = get_or_read cs c.loop-at.at _ known c.index.ensures empty in
    let partition = c.loop-at.invariant.cutting.holds.partition in
    record {
      cutting = cutting_skips c.args.set.now c.args.rest.now cs (c.loop-at.at + 1) c.next_several-at-in_default.result c.requires.part
          (cutting_passes c.args.set.now c.args.rest.now cs c.loop-at.at c.loop-at.invariant.cutting
          (module_unless_cut c.args.set.now (class_at cs c.loop-at.at) decide_test c.index.result.now c.loop-at.left class (c.loop-at.invariant.left known) (partition.are_apart.some c.loop-at.at known)
          (λ x h. c.requires.part x (partition.inside c.loop-at.at x h)) c.in_default.ensures.none))
          (λ k low up. subst (λ (ds : List NameSet). (v : ℕ) × (class_at ds k ≡ only_name v)) c.deref-in_default.ensures.value (c.next_several-at-in_default.ensures.names k low up));
      finer = c.loop-at.invariant.finer;
      empty = c.loop-at.invariant.empty;
      left = λ more.
          subst (λ (ds : List NameSet). c.next_several-at-in_default.result < length ds → HoldsSplitters e c.args.set.now (class_at ds c.next_several-at-in_default.result) c.begin-in_default.new.left) c.deref-in_default-2.ensures.value
          (λ known. c.begin-in_default.ensures known e) more;
    }

pub returns-clause-modules : goal.returns-clause-modules
returns-clause-modules g c few =
    let end : length c.loop-at.classes.items ≤ c.loop-at.at = elim c.loop-at-test.branch [
      | then-loop-at-test+else-len-most w ↦ omega (arith, few, c.loop-at.classes.ok.0)
      | else-loop-at-test w ↦ omega (arith, c.loop-at.classes.ok.0)
    ] in
    cutting_ends c.args.set.now c.args.rest.now c.loop-at.classes.items c.loop-at.at c.loop-at.invariant.cutting end
