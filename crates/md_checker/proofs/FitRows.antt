-- Sets of lists, and rows that agree on a set.
use Rattle.std.proofs.Common.{◌≡◌, ◌↔◌, ℕ, zero, suc, ◌+◌, ◌<◌, List, [], ◌∷◌, length, get_or, sym, ◌∙◌, ap, subst, inl, inr, arith}
use Rattle.std.proofs.lemmas.Bool.{cases_eq}
use Rattle.std.specs.FinSet.{contains, from_list}
use Rattle.md_graph.specs.PlainGraph.{PlainGraph, IsGraph, adjacent, neighbours}
use Rattle.md_graph.specs.Sets.{NameSet, Has, Within}
use Rattle.md_graph.proofs.GraphLemmas.{contains-neighbours}
use Rattle.md_graph.proofs.SetLemmas.{clash, empty_lacks, insert_new, insert_old, of_insert}

-- ---- sets of lists

pub in_listed_set : (xs : List ℕ) (i : ℕ) → i < length xs → Has (from_list xs) (get_or xs i 0)
in_listed_set [] i below = let b : i < 0 = below in absurd (omega arith)
in_listed_set (x ∷ xs) zero below = insert_new (from_list xs) x
in_listed_set (x ∷ xs) (suc i) below =
    let b : suc i < suc (length xs) = below in
    insert_old (from_list xs) x (get_or xs i 0) (in_listed_set xs i (omega arith))

pub of_listed_set : (xs : List ℕ) (y : ℕ) → Has (from_list xs) y → (i : ℕ) × (i < length xs) × (y ≡ get_or xs i 0)
of_listed_set [] y h = clash h (empty_lacks y)
of_listed_set (x ∷ xs) y h = elim (of_insert (from_list xs) x y h) [
  | inl same ↦ (0, (let b : 0 < suc (length xs) = omega arith in b), same)
  | inr r ↦
      let i : (i : ℕ) × (i < length xs) × (y ≡ get_or xs i 0) = of_listed_set xs y r in
      (suc i.0, (let b : i.0 < length xs = i.1 in let c : suc i.0 < suc (length xs) = omega arith in c), i.2)
]

pub listed_set_within : (s : NameSet) (xs : List ℕ) → ((i : ℕ) → i < length xs → Has s (get_or xs i 0)) → Within (from_list xs) s
listed_set_within s xs each y h =
    let i = of_listed_set xs y h in subst (Has s) (sym i.2) (each i.0 i.1)

-- ---- rows that agree on a set

-- the same of the rows of two vertices
pub neighbours_agree : {g : PlainGraph} → IsGraph g → (v w : ℕ) (others first second : NameSet) → first ≡ neighbours g v → second ≡ neighbours g w →
    ((y : ℕ) → Has others y → contains first y ≡ contains second y) ↔ ((y : ℕ) → Has others y → adjacent g v y ≡ adjacent g w y)
neighbours_agree graph v w others first second is_first is_second = (
  λ agree y h. sym (ap (λ s. contains s y) is_first ∙ contains-neighbours graph v y) ∙ agree y h ∙ ap (λ s. contains s y) is_second ∙ contains-neighbours graph w y,
  λ alike y h. ap (λ s. contains s y) is_first ∙ contains-neighbours graph v y ∙ alike y h ∙ sym (ap (λ s. contains s y) is_second ∙ contains-neighbours graph w y),
)

pub alike_on : {C : Type 0} (e : ℕ → ℕ → C) (others : NameSet) (list : List ℕ) (n : ℕ) →
    ((i y : ℕ) → i < n → Has others y → e (get_or list 0 0) y ≡ e (get_or list i 0) y) → ((y : ℕ) → Has others y → e (get_or list 0 0) y ≡ e (get_or list n 0) y) →
    (i y : ℕ) → i < n + 1 → Has others y → e (get_or list 0 0) y ≡ e (get_or list i 0) y
alike_on e others list n so here i y below h = elim (cases_eq i n) [
  | inl same ↦ subst (λ k. e (get_or list 0 0) y ≡ e (get_or list k 0) y) (sym same) (here y h)
  | inr differ ↦ (let less : i < n = omega arith in so i y less h)
]
