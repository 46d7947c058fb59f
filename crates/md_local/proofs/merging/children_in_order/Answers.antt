use Rattle.std.proofs.Common.{◌≡◌, ◌∷◌, [], ◌++◌, map, sym, ◌∙◌, ap, append_assoc, append-nil, rules}
use Rattle.std.proofs.lemmas.List.{nil_from_length}
use Rattle.std.proofs.lemmas.List.Sorted.{IsNonDecreasingBy-from_sort_by_key}
use Rattle.std.specs.List.{list_any}
use Rattle.md_tree.specs.Plain.{plain}
use Rattle.md_tree.specs.Heads.{head}
use Rattle.md_tree.specs.declared.TreeOf.{TreeOf}
use Rattle.md_tree.specs.declared.Kind.{Kind}
use Rattle.md_tree.specs.declared.Pair.{Pair}
use Rattle.md_local.specs.Growing.{is_merged, in_place_of, all_in_place}
use Rattle.md_local.proofs.Placing.{places_more, any_merged, sorted_ordered, kept_ordered}
use Rattle.md_local.proofs.merging.children_in_order.Goals as goal

pub returns-then-not-some_merges : goal.returns-then-not-some_merges
returns-then-not-some_merges c =
    let told =
    sym (any_merged c.args.kind c.args.children.items) ∙ sym (ap (list_any (λ (x : TreeOf Kind Pair). is_merged c.args.kind (plain x))) c.deref.ensures.value)
    ∙ sym c.some_merges.ensures in
    kept_ordered c.args.kind (map plain c.args.children.items) (told ∙ c.if-not-some_merges.true)

pub loop-child-preserved : goal.loop-child-preserved
loop-child-preserved c =
    let yielded = c.loop-child.yielded in
    record {
      list =
          c.in_ok-put.ensures ∙ ap (λ l. l ++ in_place_of c.args.kind (plain c.in-Some.child)) c.loop-child.invariant.list
          ∙ sym (places_more c.args.kind yielded c.in-Some.child);
      left =
          append_assoc yielded (c.in-Some.child ∷ []) c.next.new.self.rest.items ∙ ap (λ xs. yielded ++ xs) (sym c.in-Some.ensures.steps.0)
          ∙ c.loop-child.invariant.left;
    }

pub returns : goal.returns
returns c =
    let yielded = c.loop-child.yielded in
    let rest = c.loop-child.child-iterator.rest in
    let none : rest.items ≡ [] = nil_from_length rest.items (sym rest.ok.0 ∙ c.in-None.ensures.steps.0) in
    let whole : yielded ≡ c.args.children.items =
    sym (append-nil yielded) ∙ ap (λ xs. yielded ++ xs) (sym none) ∙ c.loop-child.invariant.left ∙ c.into_iter-child-iterator.ensures.into_iter_gives.0 in
    let ts = map plain c.args.children.items in
    let same : map plain c.loop-child.list.items ≡ all_in_place c.args.kind ts =
    c.loop-child.invariant.list ∙ ap (λ l. all_in_place c.args.kind (map plain l)) whole in
    let told =
    sym (any_merged c.args.kind c.args.children.items) ∙ sym (ap (list_any (λ (x : TreeOf Kind Pair). is_merged c.args.kind (plain x))) c.deref.ensures.value)
    ∙ sym c.some_merges.ensures in
    sorted_ordered c.args.kind ts c.loop-child.list.items c.sort_by_cached_key.new.self.items same (told ∙ c.if-not-some_merges.false) c.in_ok-sort_by_cached_key.ensures.permutation
    (IsNonDecreasingBy-from_sort_by_key (λ (t : TreeOf Kind Pair). head (plain t)) _ c.in_ok-sort_by_cached_key.ensures.sorted (λ a r q k. search rules))
