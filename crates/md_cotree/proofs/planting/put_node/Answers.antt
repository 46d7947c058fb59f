use Rattle.std.proofs.Common.{◌-◌, ◌++◌, ◌∷◌, [], refl, ◌∙◌, ap, arith}
use Rattle.md_cotree.proofs.Growing.{forest_spare, forest_long, node_forest, node_seen, sliced}
use Rattle.md_cotree.proofs.planting.put_node.Goals as goal

pub make-place-requires : goal.make-place-requires
make-place-requires g c = forest_spare _ _ _ c.requires.forest.2 c.requires.forest.4

pub overflow_sub-below : goal.overflow_sub-below
overflow_sub-below g c =
    let e = c.len.ensures ∙ c.args.stack.now.ok.0 in
    let low = forest_long c.args.cotree.now c.args.stack.now.items c.requires.forest.0 c.requires.forest.1 c.args.count c.requires.forest.2 c.requires.forest.3 in
    omega arith

pub attach_all-requires-clause-forest : goal.attach_all-requires-clause-forest
attach_all-requires-clause-forest g c =
    let seen = node_seen c.args.cotree.now c.make-place.new.self c.args.stack.now.items c.make-place.result c.args.count (c.len.result - c.args.count) c.place_kind.ensures.0 c.place_kind.result
    c.place_kind.ensures.2 c.make-place.ensures.place c.make-place.ensures.inside c.make-place.ensures.made (ap (λ n. n - c.args.count) (c.len.ensures ∙ c.args.stack.now.ok.0)) _
    (sliced c.args.stack.now.items c.deref.result.now (c.len.result - c.args.count) c.deref.ensures.value) c.requires.forest.0 c.requires.forest.1 c.requires.forest.2 c.requires.forest.3 in
    (c.place_kind.ensures.0, c.requires.forest.0, c.requires.forest.1, seen.0, seen.1)

pub returns : goal.returns
returns g c = (
  c.make-place.result,
  c.place_kind.ensures.0,
  c.place_kind.ensures.1,
  node_forest c.args.cotree.now _ c.make-place.new.self c.args.stack.now.items c.push.new.self.items c.make-place.result c.args.count (c.len.result - c.args.count) c.place_kind.ensures.0 c.place_kind.result
      c.place_kind.ensures.2 c.make-place.ensures.place c.make-place.ensures.inside c.make-place.ensures.made (ap (λ n. n - c.args.count) (c.len.ensures ∙ c.args.stack.now.ok.0)) _
      (sliced c.args.stack.now.items c.deref.result.now (c.len.result - c.args.count) c.deref.ensures.value) (c.attach_all.ensures.forest c.place_kind.ensures.0) c.attach_all.ensures.links c.attach_all.ensures.marked refl refl
      (c.in_ok-push.ensures.items ∙ ap (λ xs. xs ++ c.make-place.result ∷ []) c.truncate.ensures.items),
)
