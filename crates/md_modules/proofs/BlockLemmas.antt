-- The names below 64 of a set, as the bits of a word.
use Rattle.std.proofs.Common.{refl, subst, ◌≡◌, ℕ, ◌+◌, ◌-◌, ◌<◌, Bool, false, ◌&&◌, ◌==◌, leb, ltb, sym, ap, ◌∙◌, arith, inl, inr}
use Rattle.std.specs.Int.{bit_at}
use Rattle.std.specs.FinSet.{contains, empty, intersection, difference}
use Rattle.std.proofs.lemmas.Bool.{cases_Bool, cases_lt, false_from_ne_true}
use Rattle.std.proofs.lemmas.Bool.Decides.{nat_tests}
use Rattle.md_graph.specs.Sets.{NameSet, Has, Lacks, only_name}
use Rattle.md_graph.specs.NameSet.{AllBelow, block}
use Rattle.md_graph.proofs.SetLaws.{same_set}
use Rattle.md_graph.proofs.SetLemmas.{clash, Has-along, same_members, if_empty, meet_has, of_meet, minus_has, of_minus, of_only}
use Rattle.md_modules.specs.Classes.{IsDivided}
use Rattle.md_graph.proofs.BitWords.{contains-block_below}

-- a set of names below 64 is the block of the word that tells them
pub low_block : (s : NameSet) (bits : ℕ) → ((k : ℕ) → k < 64 → contains s (0 + k) ≡ (bit_at bits k == 1)) → AllBelow s 64 → block 0 bits ≡ s
low_block s bits told low = same_set _ _ (λ q. contains-block_below 0 bits 64 q ∙ at q) where
  inside : (q : ℕ) (x y : Bool) → q < 64 → x ≡ y → (leb 0 q && (ltb (q - 0) 64 && y)) ≡ x
  inside q x y less e = grind (arith, nat_tests)

  beyond : (q : ℕ) (x y : Bool) → (q < 64 → ⊥) → x ≡ false → (leb 0 q && (ltb (q - 0) 64 && y)) ≡ x
  beyond q x y more e = grind (arith, nat_tests)

  at : (q : ℕ) → (leb 0 q && (ltb (q - 0) 64 && (bit_at bits (q - 0) == 1))) ≡ contains s q
  at q = elim (cases_lt q 64) [
    | inl less ↦
        let e : q - 0 ≡ q = omega arith in
        let f : 0 + q ≡ q = omega arith in
        inside q _ _ less (sym (ap (contains s) f) ∙ told q less ∙ ap (λ k. bit_at bits k == 1) (sym e))
    | inr more ↦ beyond q _ _ (λ less. omega arith) (false_from_ne_true _ (λ m. let below = low q m in omega arith))
  ]

-- ---- a block in two parts

pub divided_as : (s t row stays kept goes : NameSet) → s ≡ t → kept ≡ stays → IsDivided s row stays goes → IsDivided t row kept goes
divided_as s t row stays kept goes same is (part, side, here, there) =
    subst (λ x. IsDivided x row kept goes) same (part, side, is ∙ here, there)

-- a name alone stays
pub one_divided : (s row none : NameSet) (v : ℕ) → s ≡ only_name v → none ≡ empty → IsDivided s row s none
one_divided s row none v is empties = elim (cases_Bool (contains row v)) [
  | inl here ↦ (
    row,
    inl refl,
    same_members s (intersection s row) (λ x h. meet_has s row x h (seen here x h)) (λ x h. (of_meet s row x h).0),
    empties ∙ sym (if_empty (difference s row) (λ x. false_from_ne_true _ (λ h. let both = of_minus s row x h in clash (seen here x both.0) both.1))),
  )
  | inr away ↦ (
    difference s row,
    inr refl,
    same_members s (intersection s (difference s row)) (λ x h. meet_has s (difference s row) x h (minus_has s row x h (unseen away x h))) (λ x h. (of_meet s (difference s row) x h).0),
    empties ∙ sym (if_empty (difference s (difference s row)) (λ x. false_from_ne_true _ (λ h.
        let both = of_minus s (difference s row) x h in
        clash (minus_has s row x both.0 (unseen away x both.0)) both.1))),
  )
] where
  is_v : (x : ℕ) → Has s x → x ≡ v
  is_v x h = of_only v x (Has-along s (only_name v) is x h)

  seen : Has row v → (x : ℕ) → Has s x → Has row x
  seen here x h = subst (Has row) (sym (is_v x h)) here

  unseen : Lacks row v → (x : ℕ) → Has s x → Lacks row x
  unseen away x h = subst (Lacks row) (sym (is_v x h)) away
