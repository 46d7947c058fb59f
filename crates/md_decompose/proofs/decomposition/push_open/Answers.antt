use Rattle.std.proofs.Common.{◌≡◌, [], ◌∷◌, ◌++◌, length, Some, refl, sym, ◌∙◌, ap, subst, arith, append_assoc, append-nil}
use Rattle.std.proofs.lemmas.List.{nil_from_length}
use Rattle.md_decompose.specs.Turns.{HasFront}
use Rattle.md_decompose.proofs.Opened.{behind_none, behind_more, opened_all, opened_names, opened_below, opened_bare, opened_front}
use Rattle.md_decompose.proofs.decomposition.push_open.Goals as goal

pub loop-names-init : goal.loop-names-init
loop-names-init g c = record {
  behind = behind_none c.args.kind c.push_reserved.new.self.items [] refl;
  left = refl;
  room = (
      let all = c.in_ok-reserve.ensures.ok in
      let count = c.len.ensures in
      let size = c.args.sets.ok.0 in
      let one = c.push_reserved.ensures.len in
      let same = c.push_reserved.ensures.capacity in
      let whole = ap length c.into_iter-rest.ensures.rest in
      let first = ap length c.in-Some.ensures.items in
      let others = ap (λ (r : _). length r.rest.items) c.into_iter-names-iterator.ensures.into_iter_gives in
      omega arith);
}

pub loop-names-preserved : goal.loop-names-preserved
loop-names-preserved g c =
    let steps = c.in-Some-names.ensures.steps in
    let yielded = c.loop-names.yielded in
    let names = c.in-Some-names.names in
    let next = c.open_set-next-in-loop-names.result in
    let is = c.open_set-next-in-loop-names.ensures in
    record {
      behind = behind_more c.args.kind c.push_reserved.new.self.items c.loop-names.waiting.items c.push_reserved-in-loop-names.new.self.items yielded (yielded ++ names ∷ []) names
          next c.loop-names.invariant.behind (opened_names names (Some c.args.kind) c.none.result next is) (opened_below names (Some c.args.kind) c.none.result next is)
          (opened_bare names (Some c.args.kind) c.none.result next c.none.ensures.taken c.none.ensures.steps is) c.push_reserved-in-loop-names.ensures.items refl;
      left = append_assoc yielded (names ∷ []) c.next-in-loop-names.new.self.rest.items ∙ ap (λ ns. yielded ++ ns) (sym steps.0) ∙ c.loop-names.invariant.left;
      room = (
          let room = c.loop-names.invariant.room in
          let fewer = ap length steps.0 in
          let one = c.push_reserved-in-loop-names.ensures.len in
          let same = c.push_reserved-in-loop-names.ensures.capacity in
          omega arith);
    }

pub returns : goal.returns
returns g c =
    let yielded = c.loop-names.yielded in
    let left = c.loop-names.names-iterator.rest in
    let none : left.items ≡ [] = nil_from_length left.items (sym left.ok.0 ∙ c.in-None.ensures.steps.0) in
    let others : c.into_iter-names-iterator.result.rest.items ≡ yielded = sym c.loop-names.invariant.left ∙ ap (λ ns. yielded ++ ns) none ∙ append-nil yielded in
    let all =
    sym c.into_iter-rest.ensures.rest ∙ c.in-Some.ensures.items
    ∙ ap (λ ns. c.in-Some.first ∷ ns) (sym (ap (λ (r : _). r.rest.items) c.into_iter-names-iterator.ensures.into_iter_gives) ∙ others)
    in
    let next = c.open_set-next.result in
    let is = c.open_set-next.ensures in
    opened_all c.args.kind c.in-Some.first yielded c.args.sets.items c.args.chain.now c.args.waiting.now.items c.push_reserved.new.self.items c.loop-names.waiting.items
    next all
    (record {
      is = opened_names c.in-Some.first (Some c.args.kind) c.in_ok-chain.chain next is;
      below = opened_below c.in-Some.first (Some c.args.kind) c.in_ok-chain.chain next is;
      front = subst (λ m. HasFront c.args.chain.now m next) c.count.ensures.value (opened_front c.in-Some.first (Some c.args.kind) c.in_ok-chain.chain c.args.chain.now c.count.result next c.in_ok-chain.ensures is);
    })
    (c.push_reserved.ensures.items ∙ ap (λ os. os ++ next ∷ []) c.in_ok-reserve.ensures.items)
    c.loop-names.invariant.behind
