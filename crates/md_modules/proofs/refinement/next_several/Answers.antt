use Rattle.std.proofs.Common.{◌≡◌, ℕ, refl, sym, ◌∙◌, ap, arith}
use Rattle.std.proofs.lemmas.List.{get_or_read}
use Rattle.std.specs.FinSet.{empty}
use Rattle.md_graph.proofs.BitWords.{from_both}
use Rattle.md_graph.specs.Sets.{only_name}
use Rattle.md_modules.specs.Classes.{class_at}
use Rattle.md_modules.proofs.refinement.next_several.Goals as goal

pub loop-at-preserved : goal.loop-at-preserved
loop-at-preserved g c = record {
  from = omega (arith, c.loop-at.invariant.from);
  names = λ k low up. from_both (λ n. n ≡ k → (v : ℕ) × (class_at c.args.classes.now n ≡ only_name v)) c.loop-at.at
      (λ n l same. c.loop-at.invariant.names n (omega arith) l)
      (λ n h same.
      let here : n ≡ c.loop-at.at = omega arith in
      let class = get_or_read c.args.classes.now c.loop-at.at c.index-classes-at.result c.loop-at-test.true c.index-classes-at.is empty in
      let named = c.is_name.ensures c.if-is_name.true in
      (named.0, ap (class_at c.args.classes.now) here ∙ sym class ∙ named.1)) k refl;
}
