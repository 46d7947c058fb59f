use Rattle.std.proofs.Common.{◌≡◌, ◌<◌, ℕ, true, length, refl, sym, subst, arith, rules}
use Rattle.md_graph.specs.Sets.{Has}
use Rattle.md_digraph.specs.PlainDigraph.{has_arc_to}
use Rattle.md_decompose.proofs.Heads.{heads_rise}
use Rattle.md_decompose.proofs.Joining.{child_some, child_within}
use Rattle.md_ddecompose.proofs.ArcPairs.{arcs_listed}
use Rattle.md_ddecompose.proofs.arc_pairs.pairs_by_places.Goals as goal

pub heads_of-heads-requires : goal.heads_of-heads-requires
heads_of-heads-requires g c = (
  search rules,
  (
    search rules,
    (
      c.within_limit.ensures.limit,
      (
        λ k v room h. c.requires.room v (child_within c.args.set.now c.args.sets.now c.requires.children.exactly k v room h),
        (child_some c.args.set.now c.args.sets.now c.requires.children.exactly, c.requires.children.order),
      ),
    ),
  ),
)

pub head_arcs-requires : goal.head_arcs-requires
head_arcs-requires g c =
    let heads = c.heads_of-heads.ensures.heads in
    let within : (v : ℕ) → Has c.heads_of-heads.result v → Has c.args.set.now v = λ v h.
    child_within c.args.set.now c.args.sets.now c.requires.children.exactly _ v (heads.below v h) (heads.least v h).member
    in (
      search rules,
      (
        search rules,
        (
          λ v h. c.requires.inside v (within v h),
          (
            λ v h. subst (λ z. v < z) (sym c.heads_of-heads.ensures.size) (c.requires.room v (within v h)),
            heads_rise c.args.sets.now c.requires.children.order (length c.args.sets.now) c.heads_of-heads.result c.heads_of-heads.new.places (omega arith) heads,
          ),
        ),
      ),
    )

pub returns : goal.returns
returns g c =
    let loopless : (v : ℕ) → has_arc_to c.args.graph.now v v ≡ true → ⊥ = λ v runs. c.vertices-vertices.ensures.digraph.differ v v runs refl in
    arcs_listed (has_arc_to c.args.graph.now) c.args.set.now c.args.sets.now c.requires.children loopless c.heads_of-heads.result c.heads_of-heads.new.places
    c.heads_of-heads.ensures.heads (λ v h. c.vertices-vertices.ensures.digraph.names v (c.requires.inside v h)) c.in_ok-list.list.items c.in_ok-list.ensures
