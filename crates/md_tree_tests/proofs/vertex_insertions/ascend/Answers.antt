use Rattle.std.proofs.Common.{◌≡◌, ◌+◌, ◌-◌, slice_index_or, ap, inl, inr, arith}
use Rattle.std.proofs.lemmas.Bool.{cases_lt}
use Rattle.md_tree_tests.proofs.vertex_insertions.ascend.Goals as goal

pub loop-i-init : goal.loop-i-init
loop-i-init c = λ k low. absurd (omega arith)

pub loop-i-preserved : goal.loop-i-preserved
loop-i-preserved c = λ k low.
    elim (cases_lt (k + 1) c.loop-i.i) [
      | inl before ↦ c.loop-i.invariant k before
      | inr not ↦
          let here : k + 1 ≡ c.loop-i.i = omega arith in
          let last : k ≡ c.loop-i.i - 1 = omega arith in
          let first = ap (λ z. slice_index_or c.args.names.now z 0) last in
          let second = ap (λ z. slice_index_or c.args.names.now z 0) here in
          let less = c.if-names-i.false in
          omega arith
    ]

pub returns : goal.returns
returns c = λ yes k low. c.loop-i.invariant k (let end = c.loop-i-test.false in omega arith)
