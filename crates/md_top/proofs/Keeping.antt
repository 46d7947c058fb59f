-- A history that keeps only what the undos that are left can reach.
use Rattle.std.proofs.Common.{◌≡◌, ℕ, zero, suc, ◌-◌, ◌<◌, true, false, Bool, List, [], ◌∷◌, take, refl, sym, ◌∙◌, ap, subst, if◌then◌else◌, arith}
use Rattle.std.specs.Prelude.{◌==◌}
use Rattle.std.proofs.lemmas.Bool.{eqb-true}
use Rattle.md_graph.specs.PlainGraph.{PlainGraph}
use Rattle.md_script.specs.declared.edit.Edit.{Edit}
use Rattle.md_script.specs.declared.item.Item.{Item}
use Rattle.md_script.specs.declared.item.Item.TheVariants.{One, Undo, Group}
use Rattle.md_script.specs.Edit.{after}
use Rattle.md_script.specs.Pasts.{all_after}
use Rattle.md_script.specs.Items.{is_undo}
use Rattle.md_report.specs.declared.line.SessionMode.{SessionMode}
use Rattle.md_report.specs.Lines.{PlainLine}
use Rattle.md_report.specs.ItemLines.{IsUndoLine, AnswersItem}
use Rattle.md_report.specs.Sessions.{State, undone, applied_state, state_behind, is_applied}
use Rattle.md_report.specs.Steps.{state_of}

-- two states have one graph, and the first n of their earlier graphs are the same
pub record IsKept (n : ℕ) (s t : State) : Type 0 where
  pub graph : s.graph ≡ t.graph
  pub earlier : take n s.earlier ≡ take n t.earlier

-- the undos that are left behind an item
abbrev pub left_behind : ℕ → Item → ℕ
left_behind n item = if is_undo item then n - 1 else n

-- what no undo can reach needn't be kept
pub kept_forgotten : (n : ℕ) (s : State) (g : PlainGraph) (kept : List (List Edit)) → IsKept n s (state_of g kept) → IsKept n s (state_of g (if n == 0 then [] else kept))
kept_forgotten n s g kept all = by_test (n == 0) (eqb-true n 0) where
  by_test : (b : Bool) → (b ≡ true → n ≡ 0) → IsKept n s (state_of g (if b then [] else kept))
  by_test true none = subst (λ (k : ℕ). IsKept k s (state_of g [])) (sym (none refl)) (record { graph = all.graph; earlier = refl })
  by_test false none = all

take_less : (n : ℕ) (xs ys : List PlainGraph) → take (suc n) xs ≡ take (suc n) ys → take n xs ≡ take n ys
take_less zero xs ys same = refl
take_less (suc n) [] [] same = refl
take_less (suc n) [] (y ∷ ys) same = absurd (cc)
take_less (suc n) (x ∷ xs) [] same = absurd (cc)
take_less (suc n) (x ∷ xs) (y ∷ ys) same =
    let heads : x ≡ y = cc in
    let tails : take (suc n) xs ≡ take (suc n) ys = cc in
    ap (λ (z : PlainGraph). z ∷ take n xs) heads ∙ ap (λ (zs : List PlainGraph). y ∷ zs) (take_less n xs ys tails)

-- one more graph is kept, and no more undos
one_more : (n : ℕ) (x y : PlainGraph) (xs ys : List PlainGraph) → x ≡ y → take n xs ≡ take n ys → take n (x ∷ xs) ≡ take n (y ∷ ys)
one_more zero x y xs ys heads tails = refl
one_more (suc n) x y xs ys heads tails = ap (λ (z : PlainGraph). z ∷ take n xs) heads ∙ ap (λ (zs : List PlainGraph). y ∷ zs) (take_less n xs ys tails)

-- the line of an undo, and the state behind it
undo_line : (mode : SessionMode) (n : ℕ) (xs ys : List PlainGraph) (line : PlainLine) → take (suc n) xs ≡ take (suc n) ys → IsUndoLine mode ys line → IsUndoLine mode xs line
undo_line mode n [] [] line same is = is
undo_line mode n [] (y ∷ ys) line same is = absurd (cc)
undo_line mode n (x ∷ xs) [] line same is = absurd (cc)
undo_line mode n (x ∷ xs) (y ∷ ys) line same is = let heads : y ≡ x = cc in subst (λ (z : PlainGraph). IsUndoLine mode (z ∷ xs) line) heads is

undo_state : (n : ℕ) (g h : PlainGraph) (xs ys : List PlainGraph) → g ≡ h → take (suc n) xs ≡ take (suc n) ys → IsKept n (undone g xs) (undone h ys)
undo_state n g h [] [] graph same = record { graph = graph; earlier = refl }
undo_state n g h [] (y ∷ ys) graph same = absurd (cc)
undo_state n g h (x ∷ xs) [] graph same = absurd (cc)
undo_state n g h (x ∷ xs) (y ∷ ys) graph same = record { graph = cc; earlier = cc }

-- the line of an item is the same
pub kept_answers : (mode : SessionMode) (n : ℕ) (s t : State) (item : Item) (line : PlainLine) → (is_undo item ≡ true → 0 < n) → IsKept n s t → AnswersItem mode t item line → AnswersItem mode s item line
kept_answers mode n s t (One edit) line some kept is = subst (λ (g : PlainGraph). AnswersItem mode (record { graph = g; earlier = s.earlier }) (One edit) line) (sym kept.graph) is
kept_answers mode n s t (Group edits) line some kept is = subst (λ (g : PlainGraph). AnswersItem mode (record { graph = g; earlier = s.earlier }) (Group edits) line) (sym kept.graph) is
kept_answers mode zero s t Undo line some kept is = absurd (let less = some refl in omega arith)
kept_answers mode (suc n) s t Undo line some kept is = undo_line mode n s.earlier t.earlier line kept.earlier is

applied_kept : (n : ℕ) (s t : State) (item : Item) → (is_undo item ≡ true → 0 < n) → IsKept n s t → IsKept (left_behind n item) (applied_state s item) (applied_state t item)
applied_kept n s t (One edit) some kept = record { graph = ap (λ (g : PlainGraph). after g edit) kept.graph; earlier = one_more n s.graph t.graph s.earlier t.earlier kept.graph kept.earlier }
applied_kept n s t (Group edits) some kept = record { graph = ap (λ (g : PlainGraph). all_after g edits) kept.graph; earlier = one_more n s.graph t.graph s.earlier t.earlier kept.graph kept.earlier }
applied_kept zero s t Undo some kept = absurd (let less = some refl in omega arith)
applied_kept (suc n) s t Undo some kept =
    let one : n ≡ suc n - 1 = omega arith in
    subst (λ (k : ℕ). IsKept k (undone s.graph s.earlier) (undone t.graph t.earlier)) one (undo_state n s.graph t.graph s.earlier t.earlier kept.graph kept.earlier)

fewer : (n : ℕ) (s t : State) (item : Item) → (is_undo item ≡ true → 0 < n) → IsKept n s t → IsKept (left_behind n item) s t
fewer n s t (One edit) some kept = kept
fewer n s t (Group edits) some kept = kept
fewer zero s t Undo some kept = absurd (let less = some refl in omega arith)
fewer (suc n) s t Undo some kept =
    let one : n ≡ suc n - 1 = omega arith in
    subst (λ (k : ℕ). IsKept k s t) one (record { graph = kept.graph; earlier = take_less n s.earlier t.earlier kept.earlier })

-- the states behind it are kept, for the undos that are left then
pub kept_behind : (n : ℕ) (s t : State) (item : Item) (line : PlainLine) → (is_undo item ≡ true → 0 < n) → IsKept n s t → IsKept (left_behind n item) (state_behind s item line) (state_behind t item line)
kept_behind n s t item line some kept = by_test (is_applied line) where
  by_test : (b : Bool) → IsKept (left_behind n item) (if b then applied_state s item else s) (if b then applied_state t item else t)
  by_test true = applied_kept n s t item some kept
  by_test false = fewer n s t item some kept
