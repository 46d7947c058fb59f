-- A loop over the members of a set that changes the row of each.
use Rattle.std.specs.Prelude.{◌≡◌, ℕ, ◌<◌, Bool, true, false, cond, not, ◌&&◌, List, [], ◌∷◌, length, get_or, refl}
use Rattle.std.proofs.Common.{ap, sym, ◌∙◌, arith, inl, inr, set}
use Rattle.std.proofs.lemmas.Bool.{cases_eq, or_left, or_right, eq-eqb, ne_eqb}
use Rattle.std.proofs.lemmas.List.{get_or_read, get_or-set_same, get_or-set_other}
use Rattle.std.specs.FinSet as set
use Rattle.md_graph.specs.declared.TheConstants.{NAMES}
use Rattle.md_graph.specs.Sets.{NameSet, Has}
use Rattle.md_graph.specs.NameSet.{AllBelow, ascending}
use Rattle.md_graph.specs.Rows.{row_of}
use Rattle.md_graph.proofs.SetLaws.{contains-empty, contains-insert, contains-remove, contains-difference, same_set}
use Rattle.md_graph.proofs.NameLemmas.{from_list-ascending}

-- ---- the members of a set, listed

-- the set of the names that are listed
abbrev pub listed : List ℕ → NameSet
listed xs = set.from_list xs

-- each listed name is a member
pub record Lists (s : NameSet) (xs : List ℕ) : Type 0 where
  pub inside : (w : ℕ) → Has (listed xs) w → Has s w

pub contains-ascending : (s : NameSet) → AllBelow s NAMES → (u : ℕ) → set.contains (listed (ascending s)) u ≡ set.contains s u
contains-ascending s below u = ap (λ t. set.contains t u) (from_list-ascending s NAMES below)

pub Lists-ascending : {s : NameSet} (xs : List ℕ) → xs ≡ ascending s → AllBelow s NAMES → Lists s xs
Lists-ascending {s} xs e below = record {
  inside = λ w h. sym (ap (λ ys. set.contains (listed ys) w) e ∙ contains-ascending s below w) ∙ h;
}

pub Lists-head : {s : NameSet} {xs : List ℕ} → Lists s xs → (x : ℕ) (rest : List ℕ) → xs ≡ x ∷ rest → Has s x
Lists-head {s} {xs} all x rest e =
    all.inside x (ap (λ ys. set.contains (listed ys) x) e ∙ contains-insert (listed rest) x x ∙ or_left _ _ (eq-eqb x x refl))

pub Lists-rest : {s : NameSet} {xs : List ℕ} → Lists s xs → (x : ℕ) (rest : List ℕ) → xs ≡ x ∷ rest → Lists s rest
Lists-rest {s} {xs} all x rest e = record {
  inside = λ w h. all.inside w (ap (λ ys. set.contains (listed ys) w) e ∙ contains-insert (listed rest) x w ∙ or_right _ _ h);
}

-- ---- the loop

-- the row of u where the rows of the members of s are changed by f
abbrev pub changed : (NameSet → NameSet) → NameSet → List NameSet → ℕ → NameSet
changed f s rows u = cond (set.contains s u) (f (row_of rows u)) (row_of rows u)

pub each_start : (f : NameSet → NameSet) (s : NameSet) (rows : List NameSet) (xs : List ℕ) → xs ≡ ascending s → AllBelow s NAMES → (u : ℕ) → changed f (listed xs) rows u ≡ changed f s rows u
each_start f s rows xs e below u =
    ap (λ b. cond b (f (row_of rows u)) (row_of rows u)) (ap (λ ys. set.contains (listed ys) u) e ∙ contains-ascending s below u)

either : (b : Bool) (s : NameSet) → cond b s s ≡ s
either true s = refl
either false s = refl

-- the change of one row more, where a second change makes no difference
pub each_step : (f : NameSet → NameSet) → ((s : NameSet) → f (f s) ≡ f s) → (rows : List NameSet) (x : ℕ) (xs rest : List ℕ) → xs ≡ x ∷ rest → x < length rows → (new old : NameSet) → new ≡ f old → old ≡ get_or rows x old → (u : ℕ) → changed f (listed rest) (set rows x new) u ≡ changed f (listed xs) rows u
each_step f twice rows x xs rest e below new old is read u =
    let row : new ≡ f (row_of rows x) = is ∙ ap f (get_or_read rows x old below read set.empty) in
    let here : changed f (listed (x ∷ rest)) rows u ≡ changed f (listed rest) (set rows x new) u = elim (cases_eq u x) [
      | inl same ↦
          rw (same, contains-insert (listed rest) x x, eq-eqb x x refl, get_or-set_same rows x new set.empty below, row, twice (row_of rows x)) (sym (either (set.contains (listed rest) x) (f (row_of rows x))))
      | inr other ↦
          rw (contains-insert (listed rest) x u, ne_eqb u x other, get_or-set_other rows x u new set.empty other) refl
    ] in
    sym (ap (λ ys. changed f (listed ys) rows u) e ∙ here)

pub each_end : (f : NameSet → NameSet) (rows : List NameSet) (xs : List ℕ) → xs ≡ [] → (u : ℕ) → row_of rows u ≡ changed f (listed xs) rows u
each_end f rows xs e u =
    sym (ap (λ ys. changed f (listed ys) rows u) e ∙ ap (λ b. cond b (f (row_of rows u)) (row_of rows u)) (contains-empty u))

pub insert_twice : (v : ℕ) (s : NameSet) → set.insert (set.insert s v) v ≡ set.insert s v
insert_twice v s = same_set _ _ (λ q. rw (contains-insert (set.insert s v) v q, contains-insert s v q) (grind arith))

pub remove_twice : (v : ℕ) (s : NameSet) → set.remove (set.remove s v) v ≡ set.remove s v
remove_twice v s = same_set _ _ (λ q. rw (contains-remove (set.remove s v) v q, contains-remove s v q) (grind arith))

-- what is a member of a, where a without b is empty, is a member of b
pub member_from_difference : (a b rest : NameSet) → rest ≡ set.difference a b → rest ≡ set.empty → (u : ℕ) → Has a u → Has b u
member_from_difference a b rest is none u m =
    let out : (set.contains a u && not (set.contains b u)) ≡ false = sym (contains-difference a b u) ∙ ap (λ s. set.contains s u) (sym is ∙ none) ∙ contains-empty u in
    grind arith
