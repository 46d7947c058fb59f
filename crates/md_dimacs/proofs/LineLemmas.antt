-- The fault of a line by the fields behind its first.
use Rattle.std.specs.Prelude.{◌≡◌, ◌≢◌, ℕ, true, false, List, [], ◌∷◌, length, Option, Some, None, Result, IfOk, IfErr, OnOk, refl}
use Rattle.std.proofs.Common.{◌∙◌, subst, sym}
use Rattle.md_text.specs.Fields.{fields}
use Rattle.md_text.specs.Numbers.{number_of, AreTwoNumbers}
use Rattle.md_dimacs.specs.declared.fault.DimacsKind.{DimacsKind}
use Rattle.md_dimacs.specs.declared.fault.DimacsKind.TheVariants.{UnknownLine, FieldCount}
use Rattle.md_dimacs.specs.Line.{is_form, both, sizes_in, ends_in, sizes_fault, problem_fault, ends_fault, edge_fault}
use Rattle.md_dimacs.specs.File.{AreSizes}

pub problem_field_count : (limit : ℕ) (rest : List (List ℕ)) → length rest ≢ 3 → problem_fault limit None rest ≡ Some FieldCount
unfolding problem_fault
problem_field_count limit [] h = refl
problem_field_count limit (a ∷ []) h = refl
problem_field_count limit (a ∷ b ∷ []) h = refl
problem_field_count limit (a ∷ b ∷ c ∷ []) h = absurd (h refl)
problem_field_count limit (a ∷ b ∷ c ∷ d ∷ more) h = refl

pub edge_field_count : (n : ℕ) (rest : List (List ℕ)) → length rest ≢ 2 → edge_fault (Some n) rest ≡ Some FieldCount
unfolding edge_fault
edge_field_count n [] h = refl
edge_field_count n (a ∷ []) h = refl
edge_field_count n (a ∷ b ∷ []) h = absurd (h refl)
edge_field_count n (a ∷ b ∷ c ∷ more) h = refl

-- at the three fields behind a `p`
pub problem_unknown : (limit : ℕ) (rest : List (List ℕ)) (form vertices edges : List ℕ) → rest ≡ form ∷ vertices ∷ edges ∷ []
    → is_form form ≡ false → problem_fault limit None rest ≡ Some UnknownLine
unfolding problem_fault
problem_unknown limit rest form vertices edges cut f = rw (cut, f) refl

pub problem_numbers : (limit : ℕ) (rest : List (List ℕ)) (form vertices edges : List ℕ) → rest ≡ form ∷ vertices ∷ edges ∷ []
    → is_form form ≡ true → problem_fault limit None rest ≡ sizes_fault limit (number_of vertices) (number_of edges)
unfolding problem_fault
problem_numbers limit rest form vertices edges cut t = rw (cut, t) refl

pub sizes_numbers : (rest : List (List ℕ)) (form vertices edges : List ℕ) → rest ≡ form ∷ vertices ∷ edges ∷ []
    → is_form form ≡ true → sizes_in rest ≡ both (number_of vertices) (number_of edges)
unfolding sizes_in
sizes_numbers rest form vertices edges cut t = rw (cut, t) refl

-- at the two fields behind an `e`
pub edge_numbers : (n : ℕ) (line : List ℕ) (u v : Option ℕ) → AreTwoNumbers line u v → ends_fault n u v ≡ edge_fault (Some n) (fields line)
unfolding edge_fault
edge_numbers n line u v t = rw (t.are_fields, t.is_first, t.is_second) refl

pub ends_numbers : (line : List ℕ) (u v : Option ℕ) → AreTwoNumbers line u v → both u v ≡ ends_in (fields line)
unfolding ends_in
ends_numbers line u v t = rw (t.are_fields, t.is_first, t.is_second) refl

-- the same, under what a result says
pub ends_read : (r : Result (ℕ × ℕ) DimacsKind) (line : List ℕ) (u v : Option ℕ) → AreTwoNumbers line u v
    → IfOk r (λ p. both u v ≡ Some p) → IfOk r (λ p. ends_in (fields line) ≡ Some p)
ends_read r line u v t h = subst (λ o. IfOk r (λ p. o ≡ Some p)) (ends_numbers line u v t) h

pub ends_refused : (r : Result (ℕ × ℕ) DimacsKind) (n : ℕ) (line : List ℕ) (u v : Option ℕ) → AreTwoNumbers line u v
    → IfErr r (λ kind. ends_fault n u v ≡ Some kind) → IfErr r (λ kind. edge_fault (Some n) (fields line) ≡ Some kind)
ends_refused r n line u v t h = subst (λ o. IfErr r (λ kind. o ≡ Some kind)) (edge_numbers n line u v t) h

pub sizes_read : (limit : ℕ) (r : Result ℕ DimacsKind) (rest : List (List ℕ)) (form vertices edges : List ℕ) (n m : Option ℕ) → rest ≡ form ∷ vertices ∷ edges ∷ []
    → is_form form ≡ true → n ≡ number_of vertices → m ≡ number_of edges → IfOk r (λ k. AreSizes limit k (both n m)) → IfOk r (λ k. AreSizes limit k (sizes_in rest))
sizes_read limit r rest form vertices edges n m cut t en em h =
    let same : both n m ≡ sizes_in rest = (λ i. both (en i) (em i)) ∙ sym (sizes_numbers rest form vertices edges cut t) in
    subst (λ o. IfOk r (λ k. AreSizes limit k o)) same h

pub sizes_refused : (limit : ℕ) (r : Result ℕ DimacsKind) (rest : List (List ℕ)) (form vertices edges : List ℕ) (n m : Option ℕ) → rest ≡ form ∷ vertices ∷ edges ∷ []
    → is_form form ≡ true → n ≡ number_of vertices → m ≡ number_of edges → IfErr r (λ kind. sizes_fault limit n m ≡ Some kind) → IfErr r (λ kind. problem_fault limit None rest ≡ Some kind)
sizes_refused limit r rest form vertices edges n m cut t en em h =
    let same : sizes_fault limit n m ≡ problem_fault limit None rest = (λ i. sizes_fault limit (en i) (em i)) ∙ sym (problem_numbers limit rest form vertices edges cut t) in
    subst (λ o. IfErr r (λ kind. o ≡ Some kind)) same h

pub ends_passed : (r : Result (ℕ × ℕ) DimacsKind) (n : ℕ) (line : List ℕ) (u v : Option ℕ) → AreTwoNumbers line u v
    → OnOk r (ends_fault n u v ≡ None) → OnOk r (edge_fault (Some n) (fields line) ≡ None)
ends_passed r n line u v t h = subst (λ o. OnOk r (o ≡ None)) (edge_numbers n line u v t) h
