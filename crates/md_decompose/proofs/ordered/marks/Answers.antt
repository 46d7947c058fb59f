use Rattle.std.proofs.Common.{◌≡◌, ◌∷◌, ◌++◌, [], length, ◌∙◌, ap, sym, subst, rules, arith, append_assoc, append-nil}
use Rattle.std.proofs.lemmas.List.{nil_from_length}
use Rattle.std.proofs.lemmas.List.Sorted.{IsNonDecreasingBy-from_sort_by_key}
use Rattle.md_graph.specs.Sets.{HasSome}
use Rattle.md_graph.proofs.SetLemmas.{clash, none_lacks}
use Rattle.md_decompose.specs.declared.ordered.Mark.{Mark}
use Rattle.md_decompose.proofs.OrderLemmas.{AreMarksOf, some_taken, marks_more, marks_sorted}
use Rattle.md_decompose.proofs.ordered.marks.Goals as goal

pub unreachable-requires : goal.unreachable-requires
unreachable-requires g c =
    let all : c.loop-class.yielded ++ c.in-Some.class ∷ c.next.new.self.rest.items ≡ c.args.classes.items =
    ap (λ ns. c.loop-class.yielded ++ ns) (sym c.in-Some.ensures.steps.0) ∙ c.loop-class.invariant.left ∙ c.into_iter-class-iterator.ensures.into_iter_gives.0
    in
    let some : HasSome c.in-Some.class =
    some_taken c.args.classes.items c.loop-class.yielded c.next.new.self.rest.items c.in-Some.class c.requires all
    in
    clash some.1 (none_lacks _ c.in_default.ensures.none some.0)

pub loop-class-preserved : goal.loop-class-preserved
loop-class-preserved g c =
    let steps = c.in-Some.ensures.steps in
    let yielded = c.loop-class.yielded in
    record {
      marks = marks_more yielded c.loop-class.marks.items c.push_reserved.new.self.items (record { least = c.in-Some-first.least; class = c.in-Some.class })
          c.loop-class.invariant.marks c.in-Some-first.ensures.found c.push_reserved.ensures.items;
      left = append_assoc yielded (c.in-Some.class ∷ []) c.next.new.self.rest.items ∙ ap (λ ns. yielded ++ ns) (sym steps.0) ∙ c.loop-class.invariant.left;
      room = (
          let room = c.loop-class.invariant.room in
          let fewer = ap length steps.0 in
          let one = c.push_reserved.ensures.len in
          let same = c.push_reserved.ensures.capacity in
          omega arith);
    }

pub returns : goal.returns
returns g c =
    let left = c.loop-class.class-iterator.rest in
    let none : left.items ≡ [] = nil_from_length left.items (sym left.ok.0 ∙ c.in-None.ensures.steps.0) in
    let all : c.loop-class.yielded ≡ c.args.classes.items =
    sym (append-nil c.loop-class.yielded) ∙ ap (λ ns. c.loop-class.yielded ++ ns) (sym none) ∙ c.loop-class.invariant.left
    ∙ c.into_iter-class-iterator.ensures.into_iter_gives.0
    in
    marks_sorted c.args.classes.items c.loop-class.marks.items c.sort_unstable_by_key.new.self.items c.requires
    (subst (λ ns. AreMarksOf ns c.loop-class.marks.items) all c.loop-class.invariant.marks) c.sort_unstable_by_key.ensures.permutation
    (IsNonDecreasingBy-from_sort_by_key (λ (m : Mark g.row.W). m.least) _ c.sort_unstable_by_key.ensures.sorted (λ a r q k. search rules))
