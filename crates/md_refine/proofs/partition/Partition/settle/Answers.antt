use Rattle.std.proofs.Common.{◌≡◌, ℕ, ◌<◌, List, [], ◌∷◌, None, refl, sym, ◌∙◌, ap, arith}
use Rattle.std.proofs.lemmas.Bool.{false≢true}
use Rattle.std.proofs.lemmas.List.{get_or_read}
use Rattle.md_graph.specs.Sets.{Has}
use Rattle.md_refine.specs.declared.partition.Partition.TheInside.{Inside}
use Rattle.md_refine.specs.Partitions.{Classes, settled, settled_by}
use Rattle.md_refine.specs.Kept.{marks_kept, partition_kept, KeepsPartition}
use Rattle.md_refine.proofs.Showing.{shown, kept_partition, opened, opened_partition}
use Rattle.md_refine.proofs.Inserting.{inserted}
use Rattle.md_refine.proofs.Settling.{first_touched, whole_keeps, whole_shows, part_keeps, part_shows, none_touched, half_fits, place_fits, main_fits, turn_read, whole_read, part_read, room_fits}
use Rattle.md_refine.proofs.partition.Partition.settle.Goals as goal

-- where no name is least, none is touched
idle : (a : Inside) (p : Classes) (kept : KeepsPartition a) → partition_kept a ≡ p → ((w : ℕ) → Has a.leads w → w < a.low) → p.touched ≡ []
idle a p kept is none = ap (λ (q : Classes). q.touched) (opened a p kept is) ∙ none_touched (marks_kept a) kept.0 kept.1 none

nothing : (x : ℕ) (xs : List ℕ) → x ∷ xs ≡ [] → ⊥
nothing x xs e = cc

pub returns-in_default-clause-settled : goal.returns-in_default-clause-settled
returns-in_default-clause-settled g c =
    let none = idle c.self.inside c.args.self.now c.self.invariant c.self.view_is c.in_default.ensures.none in
    sym (ap (λ ts. settled_by ts c.args.self.now) none)

pub returns-in_default-clause-none : goal.returns-in_default-clause-none
returns-in_default-clause-none g c =
    let none = idle c.self.inside c.args.self.now c.self.invariant c.self.view_is c.in_default.ensures.none in
    (λ _. none, λ _. refl)

pub returns-in_default-clause-partition : goal.returns-in_default-clause-partition
returns-in_default-clause-partition g c =
    opened_partition c.self.inside c.args.self.now c.self.invariant c.self.view_is

pub index-place-requires : goal.index-place-requires
index-place-requires g c =
    let low = half_fits c.self.inside c.self.invariant c.in-Some.least c.in-Some-index.half c.index.result.now c.in-Some.ensures.found c.index.ensures c.in-Some-index.is in
    let long = c.self.invariant.1.owners_len in
    omega arith

pub index-main-requires : goal.index-main-requires
index-main-requires g c =
    let low = place_fits c.self.inside c.self.invariant c.in-Some.least c.in-Some-index.half c.index.result.now c.in-Some.ensures.found c.index.ensures c.in-Some-index.is c.index-place.result.now c.index-place.ensures in
    let long = c.self.invariant.1.mains_len in
    omega arith

pub index_mut-requires : goal.index_mut-requires
index_mut-requires g c =
    let low = place_fits c.self.inside c.self.invariant c.in-Some.least c.in-Some-index.half c.index.result.now c.in-Some.ensures.found c.index.ensures c.in-Some-index.is c.index-place.result.now c.index-place.ensures in
    let long = c.self.invariant.1.mains_len in
    omega arith

pub index-requires-2 : goal.index-requires-2
index-requires-2 g c =
    let low_half = half_fits c.self.inside c.self.invariant c.in-Some.least c.in-Some-index.half c.index.result.now c.in-Some.ensures.found c.index.ensures c.in-Some-index.is in
    let low = main_fits c.self.inside c.self.invariant c.in-Some.least c.in-Some-index.half c.index.result.now c.in-Some.ensures.found c.index.ensures c.in-Some-index.is c.index-place.result.now c.index-place.ensures c.index-main.result.now c.index-main.ensures in
    let long = c.self.invariant.1.counts_len in
    omega arith

pub index_mut-requires-then-index-eq0 : goal.index_mut-requires-then-index-eq0
index_mut-requires-then-index-eq0 g c =
    let low = place_fits c.self.inside c.self.invariant c.in-Some.least c.in-Some-index.half c.index.result.now c.in-Some.ensures.found c.index.ensures c.in-Some-index.is c.index-place.result.now c.index-place.ensures in
    let long = c.self.invariant.1.halves_len in
    omega arith

pub invariant_of-self : goal.invariant_of-self
invariant_of-self g c =
    let a = c.self.inside in
    let kept = c.self.invariant in
    let turn = turn_read c.self.inside c.self.invariant c.in-Some.least c.in-Some-index.half c.index.result.now c.in-Some.ensures.found c.index.ensures c.in-Some-index.is c.index-place.result.now c.index-place.ensures c.index-main.result.now c.index-main.ensures in
    let none = whole_read c.self.inside c.self.invariant c.in-Some.least c.in-Some-index.half c.index.result.now c.in-Some.ensures.found c.index.ensures c.in-Some-index.is c.index-place.result.now c.index-place.ensures c.index-main.result.now c.index-main.ensures c.index-2.result.now c.index-2.ensures c.if-index-eq0.true in
    (kept.0, whole_keeps (marks_kept a) kept.0 kept.1 c.in-Some.least c.in-Some-index.half c.index-place.result.now c.index-main.result.now turn c.remove.new.self c.remove.ensures.changed none)

pub returns-then-index-eq0-clause-settled : goal.returns-then-index-eq0-clause-settled
returns-then-index-eq0-clause-settled g c =
    let a = c.self.inside in
    let kept = c.self.invariant in
    let turn = turn_read c.self.inside c.self.invariant c.in-Some.least c.in-Some-index.half c.index.result.now c.in-Some.ensures.found c.index.ensures c.in-Some-index.is c.index-place.result.now c.index-place.ensures c.index-main.result.now c.index-main.ensures in
    let none = whole_read c.self.inside c.self.invariant c.in-Some.least c.in-Some-index.half c.index.result.now c.in-Some.ensures.found c.index.ensures c.in-Some-index.is c.index-place.result.now c.index-place.ensures c.index-main.result.now c.index-main.ensures c.index-2.result.now c.index-2.ensures c.if-index-eq0.true in
    shown _ kept.0 (whole_keeps (marks_kept a) kept.0 kept.1 c.in-Some.least c.in-Some-index.half c.index-place.result.now c.index-main.result.now turn c.remove.new.self c.remove.ensures.changed none) ∙ whole_shows (marks_kept a) kept.0 kept.1 c.in-Some.least c.in-Some-index.half c.index-place.result.now c.index-main.result.now turn c.remove.new.self c.remove.ensures.changed none ∙ ap settled (sym (opened a c.args.self.now kept c.self.view_is))

pub returns-then-index-eq0-clause-none : goal.returns-then-index-eq0-clause-none
returns-then-index-eq0-clause-none g c =
    let a = c.self.inside in
    let kept = c.self.invariant in
    let turn = turn_read c.self.inside c.self.invariant c.in-Some.least c.in-Some-index.half c.index.result.now c.in-Some.ensures.found c.index.ensures c.in-Some-index.is c.index-place.result.now c.index-place.ensures c.index-main.result.now c.index-main.ensures in
    let first = first_touched (marks_kept a) kept.0 kept.1 c.in-Some.least c.in-Some-index.half c.index-place.result.now c.index-main.result.now turn c.remove.new.self c.remove.ensures.changed in
    let touched = ap (λ (q : Classes). q.touched) (opened a c.args.self.now kept c.self.view_is) ∙ first.1 in
    (λ e. absurd (false≢true (sym e)), λ e. absurd (nothing c.in-Some.least first.0 (sym touched ∙ e)))

pub returns-then-index-eq0-clause-partition : goal.returns-then-index-eq0-clause-partition
returns-then-index-eq0-clause-partition g c =
    let a = c.self.inside in
    let kept = c.self.invariant in
    let turn = turn_read c.self.inside c.self.invariant c.in-Some.least c.in-Some-index.half c.index.result.now c.in-Some.ensures.found c.index.ensures c.in-Some-index.is c.index-place.result.now c.index-place.ensures c.index-main.result.now c.index-main.ensures in
    let none = whole_read c.self.inside c.self.invariant c.in-Some.least c.in-Some-index.half c.index.result.now c.in-Some.ensures.found c.index.ensures c.in-Some-index.is c.index-place.result.now c.index-place.ensures c.index-main.result.now c.index-main.ensures c.index-2.result.now c.index-2.ensures c.if-index-eq0.true in
    kept_partition _ kept.0 (whole_keeps (marks_kept a) kept.0 kept.1 c.in-Some.least c.in-Some-index.half c.index-place.result.now c.index-main.result.now turn c.remove.new.self c.remove.ensures.changed none)

pub index_mut-requires-2 : goal.index_mut-requires-2
index_mut-requires-2 g c =
    let low = main_fits c.self.inside c.self.invariant c.in-Some.least c.in-Some-index.half c.index.result.now c.in-Some.ensures.found c.index.ensures c.in-Some-index.is c.index-place.result.now c.index-place.ensures c.index-main.result.now c.index-main.ensures in
    let long = c.self.invariant.1.owners_len in
    omega arith

pub index_mut-requires-3 : goal.index_mut-requires-3
index_mut-requires-3 g c =
    let low = room_fits c.self.inside c.self.invariant c.in-Some.least c.in-Some-index.half c.index.result.now c.in-Some.ensures.found c.index.ensures c.in-Some-index.is c.index-place.result.now c.index-place.ensures c.index-main.result.now c.index-main.ensures c.index-2.result.now c.index-2.ensures c.if-index-eq0.false in
    let long = c.self.invariant.1.owners_len in
    omega arith

pub index_mut-requires-4 : goal.index_mut-requires-4
index_mut-requires-4 g c =
    let low = room_fits c.self.inside c.self.invariant c.in-Some.least c.in-Some-index.half c.index.result.now c.in-Some.ensures.found c.index.ensures c.in-Some-index.is c.index-place.result.now c.index-place.ensures c.index-main.result.now c.index-main.ensures c.index-2.result.now c.index-2.ensures c.if-index-eq0.false in
    let long = c.self.invariant.1.owners_len in
    omega arith

pub index_mut-requires-5 : goal.index_mut-requires-5
index_mut-requires-5 g c =
    let low = place_fits c.self.inside c.self.invariant c.in-Some.least c.in-Some-index.half c.index.result.now c.in-Some.ensures.found c.index.ensures c.in-Some-index.is c.index-place.result.now c.index-place.ensures in
    let long = c.self.invariant.1.halves_len in
    omega arith

pub index_mut-requires-6 : goal.index_mut-requires-6
index_mut-requires-6 g c =
    let low = room_fits c.self.inside c.self.invariant c.in-Some.least c.in-Some-index.half c.index.result.now c.in-Some.ensures.found c.index.ensures c.in-Some-index.is c.index-place.result.now c.index-place.ensures c.index-main.result.now c.index-main.ensures c.index-2.result.now c.index-2.ensures c.if-index-eq0.false in
    let long = c.self.invariant.1.mains_len in
    omega arith

pub index_mut-requires-7 : goal.index_mut-requires-7
index_mut-requires-7 g c =
    let low = room_fits c.self.inside c.self.invariant c.in-Some.least c.in-Some-index.half c.index.result.now c.in-Some.ensures.found c.index.ensures c.in-Some-index.is c.index-place.result.now c.index-place.ensures c.index-main.result.now c.index-main.ensures c.index-2.result.now c.index-2.ensures c.if-index-eq0.false in
    let long = c.self.invariant.1.halves_len in
    omega arith

pub index-requires-3 : goal.index-requires-3
index-requires-3 g c =
    let low = place_fits c.self.inside c.self.invariant c.in-Some.least c.in-Some-index.half c.index.result.now c.in-Some.ensures.found c.index.ensures c.in-Some-index.is c.index-place.result.now c.index-place.ensures in
    let long = c.self.invariant.1.nexts_len in
    omega arith

pub index_mut-requires-8 : goal.index_mut-requires-8
index_mut-requires-8 g c =
    let low = room_fits c.self.inside c.self.invariant c.in-Some.least c.in-Some-index.half c.index.result.now c.in-Some.ensures.found c.index.ensures c.in-Some-index.is c.index-place.result.now c.index-place.ensures c.index-main.result.now c.index-main.ensures c.index-2.result.now c.index-2.ensures c.if-index-eq0.false in
    let long = c.self.invariant.1.nexts_len in
    omega arith

pub index_mut-requires-9 : goal.index_mut-requires-9
index_mut-requires-9 g c =
    let low = place_fits c.self.inside c.self.invariant c.in-Some.least c.in-Some-index.half c.index.result.now c.in-Some.ensures.found c.index.ensures c.in-Some-index.is c.index-place.result.now c.index-place.ensures in
    let long = c.self.invariant.1.nexts_len in
    omega arith

pub invariant_of-self-2 : goal.invariant_of-self-2
invariant_of-self-2 g c =
    let a = c.self.inside in
    let kept = c.self.invariant in
    let turn = turn_read c.self.inside c.self.invariant c.in-Some.least c.in-Some-index.half c.index.result.now c.in-Some.ensures.found c.index.ensures c.in-Some-index.is c.index-place.result.now c.index-place.ensures c.index-main.result.now c.index-main.ensures in
    let some = part_read c.self.inside c.self.invariant c.in-Some.least c.in-Some-index.half c.index.result.now c.in-Some.ensures.found c.index.ensures c.in-Some-index.is c.index-place.result.now c.index-place.ensures c.index-main.result.now c.index-main.ensures c.index-2.result.now c.index-2.ensures c.if-index-eq0.false in
    let low = place_fits c.self.inside c.self.invariant c.in-Some.least c.in-Some-index.half c.index.result.now c.in-Some.ensures.found c.index.ensures c.in-Some-index.is c.index-place.result.now c.index-place.ensures in
    let long = kept.1.nexts_len in
    let next = get_or_read a.nexts.items c.index-place.result.now c.index-3.result.now (omega arith) c.index-3.ensures None in
    (inserted c.index-place.result.now a.used kept.0, part_keeps (marks_kept a) kept.0 kept.1 c.in-Some.least c.in-Some-index.half c.index-place.result.now c.index-main.result.now turn c.remove.new.self c.remove.ensures.changed c.index-3.result.now next some)

pub returns-clause-settled : goal.returns-clause-settled
returns-clause-settled g c =
    let a = c.self.inside in
    let kept = c.self.invariant in
    let turn = turn_read c.self.inside c.self.invariant c.in-Some.least c.in-Some-index.half c.index.result.now c.in-Some.ensures.found c.index.ensures c.in-Some-index.is c.index-place.result.now c.index-place.ensures c.index-main.result.now c.index-main.ensures in
    let some = part_read c.self.inside c.self.invariant c.in-Some.least c.in-Some-index.half c.index.result.now c.in-Some.ensures.found c.index.ensures c.in-Some-index.is c.index-place.result.now c.index-place.ensures c.index-main.result.now c.index-main.ensures c.index-2.result.now c.index-2.ensures c.if-index-eq0.false in
    let low = place_fits c.self.inside c.self.invariant c.in-Some.least c.in-Some-index.half c.index.result.now c.in-Some.ensures.found c.index.ensures c.in-Some-index.is c.index-place.result.now c.index-place.ensures in
    let long = kept.1.nexts_len in
    let next = get_or_read a.nexts.items c.index-place.result.now c.index-3.result.now (omega arith) c.index-3.ensures None in
    shown _ (inserted c.index-place.result.now a.used kept.0) (part_keeps (marks_kept a) kept.0 kept.1 c.in-Some.least c.in-Some-index.half c.index-place.result.now c.index-main.result.now turn c.remove.new.self c.remove.ensures.changed c.index-3.result.now next some) ∙ part_shows (marks_kept a) kept.0 kept.1 c.in-Some.least c.in-Some-index.half c.index-place.result.now c.index-main.result.now turn c.remove.new.self c.remove.ensures.changed c.index-3.result.now next some ∙ ap settled (sym (opened a c.args.self.now kept c.self.view_is))

pub returns-clause-none : goal.returns-clause-none
returns-clause-none g c =
    let a = c.self.inside in
    let kept = c.self.invariant in
    let turn = turn_read c.self.inside c.self.invariant c.in-Some.least c.in-Some-index.half c.index.result.now c.in-Some.ensures.found c.index.ensures c.in-Some-index.is c.index-place.result.now c.index-place.ensures c.index-main.result.now c.index-main.ensures in
    let first = first_touched (marks_kept a) kept.0 kept.1 c.in-Some.least c.in-Some-index.half c.index-place.result.now c.index-main.result.now turn c.remove.new.self c.remove.ensures.changed in
    let touched = ap (λ (q : Classes). q.touched) (opened a c.args.self.now kept c.self.view_is) ∙ first.1 in
    (λ e. absurd (false≢true (sym e)), λ e. absurd (nothing c.in-Some.least first.0 (sym touched ∙ e)))

pub returns-clause-partition : goal.returns-clause-partition
returns-clause-partition g c =
    let a = c.self.inside in
    let kept = c.self.invariant in
    let turn = turn_read c.self.inside c.self.invariant c.in-Some.least c.in-Some-index.half c.index.result.now c.in-Some.ensures.found c.index.ensures c.in-Some-index.is c.index-place.result.now c.index-place.ensures c.index-main.result.now c.index-main.ensures in
    let some = part_read c.self.inside c.self.invariant c.in-Some.least c.in-Some-index.half c.index.result.now c.in-Some.ensures.found c.index.ensures c.in-Some-index.is c.index-place.result.now c.index-place.ensures c.index-main.result.now c.index-main.ensures c.index-2.result.now c.index-2.ensures c.if-index-eq0.false in
    let low = place_fits c.self.inside c.self.invariant c.in-Some.least c.in-Some-index.half c.index.result.now c.in-Some.ensures.found c.index.ensures c.in-Some-index.is c.index-place.result.now c.index-place.ensures in
    let long = kept.1.nexts_len in
    let next = get_or_read a.nexts.items c.index-place.result.now c.index-3.result.now (omega arith) c.index-3.ensures None in
    kept_partition _ (inserted c.index-place.result.now a.used kept.0) (part_keeps (marks_kept a) kept.0 kept.1 c.in-Some.least c.in-Some-index.half c.index-place.result.now c.index-main.result.now turn c.remove.new.self c.remove.ensures.changed c.index-3.result.now next some)
