-- The neighbours of a name, collected name by name.
use Rattle.std.proofs.Common.{◌≡◌, ℕ, ◌+◌, ◌<◌, ◌≤◌, true, false, sym, ◌∙◌, ap, subst, inl, inr, arith}
use Rattle.std.proofs.lemmas.Bool.{cases_eq, true≢false}
use Rattle.std.specs.FinSet.{empty, insert}
use Rattle.md_graph.specs.declared.TheConstants.{NAMES}
use Rattle.md_graph.specs.Sets.{NameSet, Has}
use Rattle.md_graph.specs.PlainGraph.{PlainGraph, IsGraph, adjacent, neighbours}
use Rattle.md_graph.proofs.SetLemmas.{clash, empty_lacks, insert_new, insert_old, of_insert, same_members}
use Rattle.md_graph.proofs.GraphLemmas.{adjacent_ends, contains-neighbours}

-- the neighbours of v below a bound
pub record IsCollected (g : PlainGraph) (v : ℕ) (s : NameSet) (i : ℕ) : Type 0 where
  pub to : (u : ℕ) → Has s u → (u < i) × (adjacent g v u ≡ true)
  pub from : (u : ℕ) → u < i → adjacent g v u ≡ true → Has s u

pub collect_begin : (g : PlainGraph) (v : ℕ) (s : NameSet) → s ≡ empty → IsCollected g v s 0
collect_begin g v s none = record {
  to = λ u h. absurd (clash (subst (λ z. Has z u) none h) (empty_lacks u));
  from = λ u low is. absurd (omega arith);
}

module _ (g : PlainGraph) (v : ℕ) (s : NameSet) (i : ℕ) (so : IsCollected g v s i) where
  pub collect_in : (t : NameSet) → t ≡ insert s i → adjacent g v i ≡ true → IsCollected g v t (i + 1)
  collect_in t new is = record {
    to = λ u h. elim (of_insert s i u (subst (λ z. Has z u) new h)) [
      | inl same ↦ (omega arith, ap (adjacent g v) same ∙ is)
      | inr old ↦ let at = so.to u old in let low = at.0 in (omega arith, at.1)
    ];
    from = λ u low joined. subst (λ z. Has z u) (sym new) (elim (cases_eq u i) [
      | inl same ↦ subst (λ z. Has (insert s i) z) (sym same) (insert_new s i)
      | inr other ↦ insert_old s i u (so.from u (omega arith) joined)
    ]);
  }

  pub collect_out : adjacent g v i ≡ false → IsCollected g v s (i + 1)
  collect_out is = record {
    to = λ u h. let at = so.to u h in let low = at.0 in (omega arith, at.1);
    from = λ u low joined. elim (cases_eq u i) [
      | inl same ↦ absurd (true≢false (sym joined ∙ ap (adjacent g v) same ∙ is))
      | inr other ↦ so.from u (omega arith) joined
    ];
  }

  pub collect_end : IsGraph g → NAMES ≤ i → s ≡ neighbours g v
  collect_end is past =
      same_members s (neighbours g v) (λ u h. contains-neighbours is v u ∙ (so.to u h).1)
      (λ u h.
      let joined = sym (contains-neighbours is v u) ∙ h in
      let low = is.names u (adjacent_ends is v u joined).1 in
      so.from u (omega arith) joined)
