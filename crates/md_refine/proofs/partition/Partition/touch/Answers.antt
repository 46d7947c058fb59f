use Rattle.std.proofs.Common.{◌-◌, arith}
use Rattle.std.proofs.lemmas.List.{length-set}
use Rattle.md_refine.proofs.Limits.{NAMES-low}
use Rattle.md_refine.proofs.Showing.{kept_partition}
use Rattle.md_refine.proofs.Touching.{name_fits, name_kept, some_read, mark_fits, place_fits, half_fits, less_fits, more_fits, touch_kept, touch_seen}
use Rattle.md_refine.proofs.partition.Partition.touch.Goals as goal

pub index-requires : goal.index-requires
index-requires g c =
    name_kept c.self.inside c.args.self.now c.self.invariant c.self.view_is c.args.v c.requires.name c.requires.above

pub index-place-requires : goal.index-place-requires
index-place-requires g c =
    let low = mark_fits c.self.inside c.args.self.now c.self.invariant c.self.view_is c.args.v c.requires.name c.requires.above c.index.result.now c.index.ensures c.in-Some.home c.in-Some.is in
    let long = c.self.invariant.1.owners_len in
    omega arith

pub index-half-requires : goal.index-half-requires
index-half-requires g c =
    let low = place_fits c.self.inside c.args.self.now c.self.invariant c.self.view_is c.args.v c.requires.name c.requires.above c.index.result.now c.index.ensures c.in-Some.home c.in-Some.is c.index-place.result.now c.index-place.ensures in
    let long = c.self.invariant.1.halves_len in
    omega arith

pub index-count-requires : goal.index-count-requires
index-count-requires g c =
    let low = half_fits c.self.inside c.args.self.now c.self.invariant c.self.view_is c.args.v c.requires.name c.requires.above c.index.result.now c.index.ensures c.in-Some.home c.in-Some.is c.index-place.result.now c.index-place.ensures c.index-half.result.now c.index-half.ensures in
    let long = c.self.invariant.1.counts_len in
    omega arith

pub insert_if-requires : goal.insert_if-requires
insert_if-requires g c =
    name_fits c.self.inside c.args.self.now c.self.invariant c.self.view_is c.args.v c.requires.name c.requires.above

pub index_mut-requires : goal.index_mut-requires
index_mut-requires g c =
    let low = mark_fits c.self.inside c.args.self.now c.self.invariant c.self.view_is c.args.v c.requires.name c.requires.above c.index.result.now c.index.ensures c.in-Some.home c.in-Some.is in
    let long = c.self.invariant.1.counts_len in
    omega arith

pub overflow_sub-index_mut : goal.overflow_sub-index_mut
overflow_sub-index_mut g c =
    less_fits c.self.inside c.args.self.now c.self.invariant c.self.view_is c.args.v c.requires.name c.requires.above c.index.result.now c.index.ensures c.in-Some.home c.in-Some.is c.index-place.result.now c.index-place.ensures c.index-half.result.now c.index-half.ensures c.index_mut.result.now c.index_mut.ensures.value

pub index_mut-requires-in-Some : goal.index_mut-requires-in-Some
index_mut-requires-in-Some g c =
    let low = half_fits c.self.inside c.args.self.now c.self.invariant c.self.view_is c.args.v c.requires.name c.requires.above c.index.result.now c.index.ensures c.in-Some.home c.in-Some.is c.index-place.result.now c.index-place.ensures c.index-half.result.now c.index-half.ensures in
    let long = c.self.invariant.1.counts_len in
    let same = length-set c.self.inside.counts.items c.in-Some.home (c.index_mut.result.now - 1) in
    omega arith

pub overflow_add-index_mut : goal.overflow_add-index_mut
overflow_add-index_mut g c =
    let low = more_fits c.self.inside c.args.self.now c.self.invariant c.self.view_is c.args.v c.requires.name c.requires.above c.index.result.now c.index.ensures c.in-Some.home c.in-Some.is c.index-place.result.now c.index-place.ensures c.index-half.result.now c.index-half.ensures c.index_mut.result.now c.index_mut.ensures.value c.index_mut-in-Some.result.now c.index_mut-in-Some.ensures.value in
    let small = NAMES-low in
    omega arith

pub index_mut-requires-in-Some-2 : goal.index_mut-requires-in-Some-2
index_mut-requires-in-Some-2 g c =
    name_kept c.self.inside c.args.self.now c.self.invariant c.self.view_is c.args.v c.requires.name c.requires.above

pub unreachable-requires : goal.unreachable-requires
unreachable-requires g c =
    some_read c.self.inside c.args.self.now c.self.invariant c.self.view_is c.args.v c.requires.name c.requires.above c.index.result.now c.index.ensures c.in-None.is

pub invariant_of-self : goal.invariant_of-self
invariant_of-self g c =
    (c.self.invariant.0, touch_kept c.self.inside c.args.self.now c.self.invariant c.self.view_is c.args.v c.requires.name c.requires.above c.index.result.now c.index.ensures c.in-Some.home c.in-Some.is c.index-place.result.now c.index-place.ensures c.index-half.result.now c.index-half.ensures c.index_mut.result.now c.index_mut.ensures.value c.index_mut-in-Some.result.now c.index_mut-in-Some.ensures.value c.index-count.result.now c.min-self-inside.result c.insert_if.new.names c.index-count.ensures c.min-self-inside.ensures c.insert_if.ensures)

pub returns-clause-touched : goal.returns-clause-touched
returns-clause-touched g c =
    touch_seen c.self.inside c.args.self.now c.self.invariant c.self.view_is c.args.v c.requires.name c.requires.above c.index.result.now c.index.ensures c.in-Some.home c.in-Some.is c.index-place.result.now c.index-place.ensures c.index-half.result.now c.index-half.ensures c.index_mut.result.now c.index_mut.ensures.value c.index_mut-in-Some.result.now c.index_mut-in-Some.ensures.value c.index-count.result.now c.min-self-inside.result c.insert_if.new.names c.index-count.ensures c.min-self-inside.ensures c.insert_if.ensures

pub returns-clause-partition : goal.returns-clause-partition
returns-clause-partition g c =
    kept_partition _ c.self.invariant.0 (touch_kept c.self.inside c.args.self.now c.self.invariant c.self.view_is c.args.v c.requires.name c.requires.above c.index.result.now c.index.ensures c.in-Some.home c.in-Some.is c.index-place.result.now c.index-place.ensures c.index-half.result.now c.index-half.ensures c.index_mut.result.now c.index_mut.ensures.value c.index_mut-in-Some.result.now c.index_mut-in-Some.ensures.value c.index-count.result.now c.min-self-inside.result c.insert_if.new.names c.index-count.ensures c.min-self-inside.ensures c.insert_if.ensures)
