use Rattle.std.proofs.Common.{◌≡◌, ℕ, ◌<◌, not, vec_len, Option, None, Some, IfSome, sym, ◌∙◌, ap, arith}
use Rattle.std.proofs.lemmas.List.{get_or_read}
use Rattle.md_refine.specs.Partitions.{Classes, is_outside}
use Rattle.md_refine.specs.Slots.{home, is_mark_of}
use Rattle.md_refine.specs.Kept.{marks_kept, KeepsPartition}
use Rattle.md_refine.specs.declared.partition.Partition.TheInside.{Inside}
use Rattle.md_refine.proofs.Showing.{opened, outside_at, outside_none, mark_within}
use Rattle.md_refine.proofs.partition.Partition.is_outside.Goals as goal

pub index-place-requires : goal.index-place-requires
index-place-requires c =
    mark_within c.self.inside c.self.invariant c.args.v c.in-Some.home (sym c.home_at.ensures ∙ c.in-Some.is)

-- a mark that is read is one of an owner
read_within : (a : Inside) → KeepsPartition a → (v : ℕ) (o : Option ℕ) → o ≡ home (marks_kept a) v → IfSome o (λ i. i < vec_len a.owners)
read_within a kept v None is = _
read_within a kept v (Some i) is = mark_within a kept v i (sym is)

pub is_at-requires : goal.is_at-requires
is_at-requires c =
    read_within c.self.inside c.self.invariant c.args.p c.home_at-in-Some.result c.home_at-in-Some.ensures

pub returns-in-Some : goal.returns-in-Some
returns-in-Some c =
    let a = c.self.inside in
    let kept = c.self.invariant in
    let is = sym c.home_at.ensures ∙ c.in-Some.is in
    let place = get_or_read a.owners.items c.in-Some.home c.index-place.result.now (let low = mark_within a kept c.args.v c.in-Some.home is in omega arith) c.index-place.ensures 0 in
    ap not (c.is_at.ensures ∙ ap (is_mark_of a.owners.items c.index-place.result.now) c.home_at-in-Some.ensures ∙ ap (λ q. is_mark_of a.owners.items q (home (marks_kept a) c.args.p)) place)
    ∙ sym (ap (λ (q : Classes). is_outside c.args.p q.classes c.args.v) (opened a c.args.self.now kept c.self.view_is) ∙ outside_at (marks_kept a) kept.0 kept.1 c.args.p c.args.v c.in-Some.home is)

pub returns-in-None : goal.returns-in-None
returns-in-None c =
    let a = c.self.inside in
    let kept = c.self.invariant in
    sym (ap (λ (q : Classes). is_outside c.args.p q.classes c.args.v) (opened a c.args.self.now kept c.self.view_is) ∙ outside_none (marks_kept a) kept.0 kept.1 c.args.p c.args.v (sym c.home_at.ensures ∙ c.in-None.is))
