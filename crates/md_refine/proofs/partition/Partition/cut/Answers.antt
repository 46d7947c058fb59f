use Rattle.std.proofs.Common.{◌≡◌, ◌≢◌, Bool, true, false, [], length, sym, ◌∙◌, ap, arith}
use Rattle.std.specs.List.{filter, flat_map}
use Rattle.md_refine.specs.Partitions.{Classes, is_in, parts, cut_outside, is_outside, settled, settled_by}
use Rattle.md_refine.proofs.Refining.{cut_by, settled_cut, settled_fewer, cut_done, met_outside, outside_cut, few_outside}
use Rattle.std.proofs.lemmas.Bool.{false≢true}
use Rattle.md_refine.proofs.partition.Partition.cut.Goals as goal

pub loop-init : goal.loop-init
loop-init g c =
    let h = c.touch_outside.ensures in
    let p = c.touch_outside.new.self in
    let v = c.args.p in
    let long = ap length h.touched in
    let steps = h.steps in
    record {
      cut = λ s is.
          ap (λ ts. flat_map (parts (is_in ts)) p.classes) (h.touched ∙ ap (filter (is_outside v c.args.self.now.classes)) is ∙ ap (met_outside v s) (sym h.classes))
          ∙ outside_cut v s p h.partition ∙ ap (cut_outside v s) h.classes;
      partition = h.partition;
      steps = omega arith;
    }

-- something was touched where settle answers true
some : (p : Classes) (r : Bool) → (r ≡ false → p.touched ≡ []) × (p.touched ≡ [] → r ≡ false) → r ≡ true → p.touched ≢ []
some p r none is e = false≢true (sym (none.1 e) ∙ is)

pub loop-smaller : goal.loop-smaller
loop-smaller g c =
    let h = c.settle.ensures in
    let p = c.loop.self in
    let fewer = settled_fewer p c.loop.invariant.partition (some p c.settle.result h.none c.loop-test.true) in
    let same = ap (λ (q : Classes). length q.touched) h.settled in
    omega arith

pub loop-preserved : goal.loop-preserved
loop-preserved g c =
    let h = c.settle.ensures in
    let p = c.loop.self in
    let fewer = settled_fewer p c.loop.invariant.partition (some p c.settle.result h.none c.loop-test.true) in
    let same = ap (λ (q : Classes). length q.touched) h.settled in
    let bound = c.loop.invariant.steps in
    let step = h.step in
    record {
      cut = λ s is. ap cut_by h.settled ∙ settled_cut p c.loop.invariant.partition ∙ c.loop.invariant.cut s is;
      partition = h.partition;
      steps = omega arith;
    }

done : (p : Classes) → p.touched ≡ [] → settled p ≡ p
done p none = ap (λ ts. settled_by ts p) none

pub returns-clause-cut : goal.returns-clause-cut
returns-clause-cut g c = λ s is.
    let p = c.loop.self in
    let none = c.settle.ensures.none.0 c.loop-test.false in
    ap (λ (q : Classes). q.classes) (c.settle.ensures.settled ∙ done p none)
    ∙ sym (cut_done p c.loop.invariant.partition none)
    ∙ c.loop.invariant.cut s is

pub returns-clause-untouched : goal.returns-clause-untouched
returns-clause-untouched g c =
    let none = c.settle.ensures.none.0 c.loop-test.false in
    ap (λ (q : Classes). q.touched) (c.settle.ensures.settled ∙ done c.loop.self none) ∙ none

pub returns-clause-steps : goal.returns-clause-steps
returns-clause-steps g c = λ s is.
    let bound = c.loop.invariant.steps in
    let step = c.settle.ensures.step in
    let few = few_outside c.args.p s c.args.self.now.classes in
    let same = ap (λ xs. length (filter (is_outside c.args.p c.args.self.now.classes) xs)) is in
    omega arith
