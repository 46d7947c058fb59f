use Rattle.std.proofs.Common.{[], length, get_or, sym, ◌∙◌, ap, arith}
use Rattle.std.specs.FinSet as set
use Rattle.std.proofs.lemmas.List.{length-map, get_or-map}
use Rattle.md_refine.specs.Partitions.{Classes}
use Rattle.md_refine.specs.Slots.{place_names}
use Rattle.md_refine.specs.Kept.{marks_kept}
use Rattle.md_refine.proofs.Showing.{opened, opened_partition}
use Rattle.md_refine.proofs.partition.Partition.class_names.Goals as goal

pub place_at-place-requires-clause-more : goal.place_at-place-requires-clause-more
place_at-place-requires-clause-more c =
    let a = c.self.inside in
    let kept = c.self.invariant in
    let all = ap (λ (p : Classes). length p.classes) (opened a c.args.self.now kept c.self.view_is) ∙ length-map kept.0 (place_names (marks_kept a)) ∙ kept.1.is_order.long in
    let low = c.requires in
    omega arith

pub returns-clause-names : goal.returns-clause-names
returns-clause-names c =
    let a = c.self.inside in
    let kept = c.self.invariant in
    let same = opened a c.args.self.now kept c.self.view_is in
    let all = ap (λ (p : Classes). length p.classes) same in
    let low = c.requires in
    let long = length-map kept.0 (place_names (marks_kept a)) in
    c.names_at.ensures
    ∙ ap (λ p. set.from_list (place_names (marks_kept a) p)) (c.place_at-place.ensures.place kept.0 kept.1.is_order)
    ∙ ap (λ l. set.from_list l) (sym (get_or-map (place_names (marks_kept a)) kept.0 c.args.i 0 [] (omega arith)) ∙ sym (ap (λ (p : Classes). get_or p.classes c.args.i []) same))

pub returns-clause-partition : goal.returns-clause-partition
returns-clause-partition c = opened_partition c.self.inside c.args.self.now c.self.invariant c.self.view_is
