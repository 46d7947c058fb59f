-- The edits that a history keeps, and the rows that they name.
use Rattle.std.proofs.Common.{◌≡◌, ℕ, zero, suc, ◌+◌, ◌-◌, ◌<◌, ◌≤◌, List, [], ◌∷◌, ◌++◌, length, map, take, drop, get_or, Some, refl, sym, ◌∙◌, ap, ap₂, subst, arith}
use Rattle.std.specs.Prelude.{slice_get}
use Rattle.std.proofs.lemmas.List.{length-append, length-map, length-drop, map-append, get_or-drop}
use Rattle.std.proofs.lemmas.Option.{slice_get-get_or}
use Rattle.std.specs.FinSet as set
use Rattle.std.proofs.Math.ListN.{get_or-append, get_or-map}
use Rattle.std.proofs.Math.Seq.{get_or-append_seam}
use Rattle.md_graph.specs.Sets.{NameSet}
use Rattle.md_script.specs.declared.history.KeptEdit.{KeptEdit}
use Rattle.md_script.specs.declared.history.KeptEdit.TheVariants.{AddEdge, DelEdge, AddVertex, DelVertex}
use Rattle.md_script.specs.declared.past.PastOf.{PastOf}
use Rattle.md_script.specs.declared.past.PastOf.TheVariants as past
use Rattle.md_script.specs.declared.edit.Edit.{Edit}
use Rattle.md_script.specs.Pasts.{as_edit}
use Rattle.md_script.specs.Histories.{past_in, HasRow, NameRowsInOrder, AreStarts, cut_items}

-- the rows of edits behind others, and back
pub rows_append : (n m k : ℕ) (edits more : List KeptEdit) → NameRowsInOrder n edits m → NameRowsInOrder m more k → NameRowsInOrder n (edits ++ more) k
rows_append n m k [] more is others = subst (λ x. NameRowsInOrder x more k) (sym is) others
rows_append n m k (AddEdge u v ∷ edits) more is others = rows_append n m k edits more is others
rows_append n m k (DelEdge u v ∷ edits) more is others = rows_append n m k edits more is others
rows_append n m k (AddVertex x row ∷ edits) more is others = (is.0, rows_append (n + 1) m k edits more is.1 others)
rows_append n m k (DelVertex x ∷ edits) more is others = rows_append n m k edits more is others

pub rows_split : (n k : ℕ) (edits more : List KeptEdit) → NameRowsInOrder n (edits ++ more) k → (m : ℕ) × NameRowsInOrder n edits m × NameRowsInOrder m more k
rows_split n k [] more is = (n, refl, is)
rows_split n k (AddEdge u v ∷ edits) more is = rows_split n k edits more is
rows_split n k (DelEdge u v ∷ edits) more is = rows_split n k edits more is
rows_split n k (AddVertex x row ∷ edits) more is = let rest = rows_split (n + 1) k edits more is.1 in (rest.0, (is.0, rest.1), rest.2)
rows_split n k (DelVertex x ∷ edits) more is = rows_split n k edits more is

rows_rise : (n m : ℕ) (edits : List KeptEdit) → NameRowsInOrder n edits m → n ≤ m
rows_rise n m [] is = omega (arith, is)
rows_rise n m (AddEdge u v ∷ edits) is = rows_rise n m edits is
rows_rise n m (DelEdge u v ∷ edits) is = rows_rise n m edits is
rows_rise n m (AddVertex x row ∷ edits) is = let rest = rows_rise (n + 1) m edits is.1 in omega arith
rows_rise n m (DelVertex x ∷ edits) is = rows_rise n m edits is

-- each edit has its row
pub row_there : (n m : ℕ) (edits : List KeptEdit) (i : ℕ) (e : KeptEdit) → NameRowsInOrder n edits m → slice_get edits i ≡ Some e → HasRow m e
row_there n m [] i e is found = absurd (cc)
row_there n m (AddEdge u v ∷ edits) zero e is found = let same : AddEdge u v ≡ e = cc in subst (HasRow m) same tt
row_there n m (DelEdge u v ∷ edits) zero e is found = let same : DelEdge u v ≡ e = cc in subst (HasRow m) same tt
row_there n m (AddVertex x row ∷ edits) zero e is found =
    let same : AddVertex x row ≡ e = cc in
    let rest = rows_rise (n + 1) m edits is.1 in
    let first = is.0 in
    subst (HasRow m) same (omega arith)
row_there n m (DelVertex x ∷ edits) zero e is found = let same : DelVertex x ≡ e = cc in subst (HasRow m) same tt
row_there n m (AddEdge u v ∷ edits) (suc i) e is found = row_there n m edits i e is found
row_there n m (DelEdge u v ∷ edits) (suc i) e is found = row_there n m edits i e is found
row_there n m (AddVertex x row ∷ edits) (suc i) e is found = row_there (n + 1) m edits i e is.1 found
row_there n m (DelVertex x ∷ edits) (suc i) e is found = row_there n m edits i e is found

-- rows behind those that edits name change none of these
same_past : {w : ℕ} (rows more : List NameSet) (e : KeptEdit) → HasRow (length rows) e → past_in {w = w} (rows ++ more) e ≡ past_in {w = w} rows e
same_past rows more (AddEdge u v) has = refl
same_past rows more (DelEdge u v) has = refl
same_past rows more (AddVertex x row) has = ap (past.AddVertex x) (get_or-append rows more set.empty row has)
same_past rows more (DelVertex x) has = refl

same_pasts : {w : ℕ} (rows more : List NameSet) (n m : ℕ) (edits : List KeptEdit) → NameRowsInOrder n edits m → m ≤ length rows → map (past_in {w = w} (rows ++ more)) edits ≡ map (past_in {w = w} rows) edits
same_pasts rows more n m [] is le = refl
same_pasts {w} rows more n m (AddEdge u v ∷ edits) is le = ap (λ (l : List (PastOf w)). past.AddEdge u v ∷ l) (same_pasts rows more n m edits is le)
same_pasts {w} rows more n m (DelEdge u v ∷ edits) is le = ap (λ (l : List (PastOf w)). past.DelEdge u v ∷ l) (same_pasts rows more n m edits is le)
same_pasts {w} rows more n m (AddVertex x row ∷ edits) is le =
    let rest = rows_rise (n + 1) m edits is.1 in
    let first = is.0 in
    ap₂ (λ (p : PastOf w) (l : List (PastOf w)). p ∷ l) (same_past rows more (AddVertex x row) (omega arith)) (same_pasts rows more (n + 1) m edits is.1 le)
same_pasts {w} rows more n m (DelVertex x ∷ edits) is le = ap (λ (l : List (PastOf w)). past.DelVertex x ∷ l) (same_pasts rows more n m edits is le)

-- the same along an equation
pub same_behind : {w : ℕ} (rows new more : List NameSet) (edits : List KeptEdit) (n : ℕ) → new ≡ rows ++ more → NameRowsInOrder 0 edits n → n ≡ length rows → map (past_in {w = w} new) edits ≡ map (past_in {w = w} rows) edits
same_behind {w} rows new more edits n is at len =
    ap (λ r. map (past_in {w = w} r) edits) is ∙ same_pasts rows more 0 n edits at (omega (arith, len))

-- a vertex more: its row is the last one
pub row_put : {w : ℕ} (rows new : List NameSet) (row : ℕ) (x : ℕ) (near : NameSet) → new ≡ rows ++ near ∷ [] → row ≡ length rows → past_in {w = w} new (AddVertex x row) ≡ past.AddVertex x near
row_put rows new row x near is at =
    ap (past.AddVertex x) (ap₂ (λ (r : List NameSet) (k : ℕ). get_or r k set.empty) is at ∙ get_or-append_seam rows near [] set.empty)

-- ---- the last edit is taken off

-- it names no row
pub last_without : (e : KeptEdit) → ((m k : ℕ) → NameRowsInOrder m (e ∷ []) k → m ≡ k) → (edits : List KeptEdit) (n : ℕ) → NameRowsInOrder 0 (edits ++ e ∷ []) n → NameRowsInOrder 0 edits n
last_without e none edits n are = let split = rows_split 0 n edits (e ∷ []) are in subst (NameRowsInOrder 0 edits) (none split.0 n split.2) split.1

module _ (x row : ℕ) (e : KeptEdit) (is : e ≡ AddVertex x row) where
  -- it names the last row
  last_row : (edits : List KeptEdit) (n : ℕ) → NameRowsInOrder 0 (edits ++ e ∷ []) n → NameRowsInOrder 0 edits row × (n ≡ row + 1)
  last_row edits n are =
      let split = rows_split 0 n edits (e ∷ []) are in
      let told : NameRowsInOrder split.0 (AddVertex x row ∷ []) n = subst (λ k. NameRowsInOrder split.0 (k ∷ []) n) is split.2 in
      let first = told.0 in
      let last = told.1 in
      (subst (NameRowsInOrder 0 edits) (sym first) split.1, omega arith)

  pub some_rows : (edits : List KeptEdit) (n : ℕ) → NameRowsInOrder 0 (edits ++ e ∷ []) n → 0 < n
  some_rows edits n are = let one = (last_row edits n are).1 in omega arith

  module _ (rows new : List NameSet) (near : NameSet) (split : rows ≡ new ++ near ∷ []) where
    rows_len : length rows ≡ length new + 1
    rows_len = ap length split ∙ length-append new (near ∷ [])

    pub last_with : {w : ℕ} (edits : List KeptEdit) → NameRowsInOrder 0 (edits ++ e ∷ []) (length rows) → NameRowsInOrder 0 edits (length new) × (map (past_in {w = w} new) edits ≡ map (past_in {w = w} rows) edits)
    last_with {w} edits are =
        let told = last_row edits (length rows) are in
        let one = told.1 in
        let two = rows_len in
        let at : NameRowsInOrder 0 edits (length new) = subst (NameRowsInOrder 0 edits) (omega arith) told.0 in
        (at, sym (same_behind new rows (near ∷ []) edits (length new) split at refl))

    pub last_given : {w : ℕ} (edits : List KeptEdit) → NameRowsInOrder 0 (edits ++ e ∷ []) (length rows) → past_in {w = w} rows e ≡ past.AddVertex x near
    last_given {w} edits are =
        let told = last_row edits (length rows) are in
        let one = told.1 in
        let two = rows_len in
        ap (past_in {w = w} rows) is ∙ row_put new rows row x near split (omega arith)

-- ---- the edits as they are seen

-- as many edits are seen as kept
pub starts_in : (w : ℕ) (rows : List NameSet) (edits : List KeptEdit) (starts : List ℕ) → AreStarts (length edits) starts → AreStarts (length (map (past_in {w = w} rows) edits)) starts
starts_in w rows edits starts at = subst (λ n. AreStarts n starts) (sym (length-map edits (past_in {w = w} rows))) at

pub starts_out : (w : ℕ) (rows : List NameSet) (edits : List KeptEdit) (starts : List ℕ) → AreStarts (length (map (past_in {w = w} rows) edits)) starts → AreStarts (length edits) starts
starts_out w rows edits starts at = subst (λ n. AreStarts n starts) (length-map edits (past_in {w = w} rows)) at

-- one more is seen, or one less
pub seen_more : {w : ℕ} (rows new : List NameSet) (edits more : List KeptEdit) (e : KeptEdit) (p : PastOf w) → more ≡ edits ++ e ∷ [] → map (past_in {w = w} new) edits ≡ map (past_in {w = w} rows) edits → past_in {w = w} new e ≡ p →
    map (past_in {w = w} new) more ≡ map (past_in {w = w} rows) edits ++ p ∷ []
seen_more {w} rows new edits more e p is same last =
    ap (map (past_in {w = w} new)) is ∙ map-append (past_in {w = w} new) edits (e ∷ []) ∙ ap₂ (λ (l : List (PastOf w)) (q : PastOf w). l ++ q ∷ []) same last

pub seen_less : {w : ℕ} (rows new : List NameSet) (edits less : List KeptEdit) (e : KeptEdit) (p : PastOf w) → edits ≡ less ++ e ∷ [] → map (past_in {w = w} new) less ≡ map (past_in {w = w} rows) less → p ≡ past_in {w = w} rows e →
    map (past_in {w = w} rows) edits ≡ map (past_in {w = w} new) less ++ p ∷ []
seen_less {w} rows new edits less e p is same last =
    ap (map (past_in {w = w} rows)) is ∙ map-append (past_in {w = w} rows) less (e ∷ []) ∙ ap₂ (λ (l : List (PastOf w)) (q : PastOf w). l ++ q ∷ []) (sym same) (sym last)

-- the edit at a place of the last item
seen_at : (w : ℕ) (rows : List NameSet) (edits : List KeptEdit) (start i : ℕ) (e : KeptEdit) → start + i < length edits → e ≡ get_or edits (start + i) e →
    slice_get (drop start (map as_edit (map (past_in {w = w} rows) edits))) i ≡ Some (as_edit (past_in {w = w} rows e))
seen_at w rows edits start i e below is =
    let f = past_in {w = w} rows in
    let pasts = map f edits in
    let seen = map as_edit pasts in
    let one = length-map edits f in
    let two = length-map pasts (as_edit {w = w}) in
    let left = length-drop start seen in
    slice_get-get_or (drop start seen) i (as_edit (f e)) (omega arith)
    ∙ ap Some (get_or-drop start seen i (as_edit (f e)) ∙ get_or-map (as_edit {w = w}) pasts (start + i) (f e) ∙ ap as_edit (get_or-map f edits (start + i) e ∙ ap f (sym is)))

module _ (w : ℕ) (rows : List NameSet) (edits : List KeptEdit) (starts before : List ℕ) (start i : ℕ) (e : KeptEdit) (ends : starts ≡ start ∷ before) (is : e ≡ get_or edits (start + i) e) (last : List Edit) (others : List (List Edit))
    (view : cut_items (map as_edit (map (past_in {w = w} rows) edits)) starts ≡ last ∷ others) (below : i < length last) where
  last_is : drop start (map as_edit (map (past_in {w = w} rows) edits)) ≡ last
  last_is =
      let seen = map as_edit (map (past_in {w = w} rows) edits) in
      let both : drop start seen ∷ cut_items (take start seen) before ≡ last ∷ others = ap (cut_items seen) (sym ends) ∙ view in
      cc

  last_below : start + i < length edits
  last_below =
      let f = past_in {w = w} rows in
      let pasts = map f edits in
      let seen = map as_edit pasts in
      let one = length-map edits f in
      let two = length-map pasts (as_edit {w = w}) in
      let left = length-drop start seen in
      let same = ap length last_is in
      omega arith

  pub last_row_there : NameRowsInOrder 0 edits (length rows) → HasRow (length rows) e
  last_row_there are = row_there 0 (length rows) edits (start + i) e are (slice_get-get_or edits (start + i) e last_below ∙ ap Some (sym is))

  pub last_seen : slice_get last i ≡ Some (as_edit (past_in {w = w} rows e))
  last_seen = ap (λ (l : List Edit). slice_get l i) (sym last_is) ∙ seen_at w rows edits start i e last_below is
