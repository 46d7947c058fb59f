-- Texts cut at a byte, and texts of items: there is one way alone.
use Rattle.std.proofs.Common.{◌≡◌, ◌≢◌, true, false, not, ℕ, zero, suc, ◌<◌, ◌≤◌, ◌⊎◌, List, [], ◌∷◌, ◌++◌, length, get_or, take, drop, refl, sym, ◌∙◌, ap, subst, inr, arith, append_assoc, append-nil, ap₂}
use Rattle.std.specs.Prelude.{◌==◌}
use Rattle.std.specs.List.{All, list_all, flat_map}
use Rattle.std.proofs.lemmas.Bool.{and_parts, eq-eqb}
use Rattle.md_graph.proofs.SetLemmas.{clash}
use Rattle.std.proofs.lemmas.List.Elements.{All-head, All-tail, All-push}
use Rattle.std.proofs.lemmas.List.{take-append-drop}
use Rattle.std.proofs.lemmas.Grind.{flat_map-append}
use Rattle.md_report.specs.Cuts.{LacksByte, Opens, IsCutAt, IsPiece, IsItem, NoItem}

pub lacks_front : (b : ℕ) (text : List ℕ) (n : ℕ) → n ≤ length text → ((k : ℕ) → k < n → get_or text k 0 ≢ b) → LacksByte b (take n text)
lacks_front b text zero within before = tt
lacks_front b [] (suc n) within before = tt
lacks_front b (x ∷ xs) (suc n) within before = (before 0 (omega arith), lacks_front b xs n (omega arith) (λ k below. before (suc k) (omega arith)))

pub opens_back : (b : ℕ) (text : List ℕ) (n : ℕ) → (n < length text → get_or text n 0 ≡ b) → Opens b (drop n text)
opens_back b [] zero found = tt
opens_back b [] (suc n) found = tt
opens_back b (x ∷ xs) zero found = found (omega arith)
opens_back b (x ∷ xs) (suc n) found = opens_back b xs n (λ below. found (omega arith))

-- a text is cut before the first such byte in one way
pub one_cut : (b : ℕ) (xs ys r s : List ℕ) → LacksByte b xs → LacksByte b ys → Opens b r → Opens b s → xs ++ r ≡ ys ++ s → (xs ≡ ys) × (r ≡ s)
one_cut b [] [] r s no_x no_y at_r at_s e = (refl, e)
one_cut b [] (y ∷ ys) [] s no_x no_y at_r at_s e = let f : [] ≡ y ∷ (ys ++ s) = e in cc
one_cut b [] (y ∷ ys) (c ∷ r) s no_x no_y at_r at_s e =
    let f : c ∷ r ≡ y ∷ (ys ++ s) = e in
    let g : y ≡ c = cc in
    absurd (no_y.0 (g ∙ at_r))
one_cut b (x ∷ xs) [] r [] no_x no_y at_r at_s e = let f : x ∷ (xs ++ r) ≡ [] = e in cc
one_cut b (x ∷ xs) [] r (c ∷ s) no_x no_y at_r at_s e =
    let f : x ∷ (xs ++ r) ≡ c ∷ s = e in
    let g : x ≡ c = cc in
    absurd (no_x.0 (g ∙ at_s))
one_cut b (x ∷ xs) (y ∷ ys) r s no_x no_y at_r at_s e =
    let f : x ∷ (xs ++ r) ≡ y ∷ (ys ++ s) = e in
    let g : x ≡ y = cc in
    let i : (xs ≡ ys) × (r ≡ s) = one_cut b xs ys r s no_x.1 no_y.1 at_r at_s (cc) in
    let j : xs ≡ ys = i.0 in
    (cc, i.1)

pub cut_at : (b : ℕ) (text front behind : List ℕ) (n : ℕ) → n ≤ length text → ((k : ℕ) → k < n → get_or text k 0 ≢ b) → (n < length text → get_or text n 0 ≡ b) → front ≡ take n text → behind ≡ drop n text → IsCutAt b text front behind
cut_at b text front behind n within before found is_front is_behind = record {
  whole = sym (take-append-drop n text) ∙ ap₂ (λ (x y : List ℕ). x ++ y) (sym is_front) (sym is_behind);
  lacks = subst (LacksByte b) (sym is_front) (lacks_front b text n within before);
  opens = subst (Opens b) (sym is_behind) (opens_back b text n found);
}

pub lacks_when : (b : ℕ) (xs : List ℕ) → list_all (λ x. not (x == b)) xs ≡ true → LacksByte b xs
lacks_when b [] all = tt
lacks_when b (x ∷ xs) all =
    let parts = and_parts (not (x == b)) (list_all (λ y. not (y == b)) xs) all in
    ((λ same. ne_by x b same parts.0), lacks_when b xs parts.1)
  where
    ne_by : (x b : ℕ) → x ≡ b → not (x == b) ≡ true → ⊥
    ne_by x b same other = let e : (x == b) ≡ true = eq-eqb x b same in let f : not (x == b) ≡ false = ap not e in clash other f

pub lacks_append : (b : ℕ) (xs ys : List ℕ) → LacksByte b xs → LacksByte b ys → LacksByte b (xs ++ ys)
lacks_append b [] ys no_x no_y = no_y
lacks_append b (x ∷ xs) ys no_x no_y = (no_x.0, lacks_append b xs ys no_x.1 no_y)

pub opens_append : (b : ℕ) (xs ys : List ℕ) → Opens b xs → Opens b ys → Opens b (xs ++ ys)
opens_append b [] ys at_x at_y = at_y
opens_append b (x ∷ xs) ys at_x at_y = at_x

-- texts of items, a space before each
module _ {A : Type 0} (spelled : A → List ℕ) (Fits : A → Type 0) (words : (a : A) → Fits a → LacksByte 32 (spelled a)) (one : (a b : A) → Fits a → Fits b → spelled a ≡ spelled b → a ≡ b) where
  abbrev pub row_text : List A → List ℕ
  row_text = flat_map (λ a. 32 ∷ spelled a)

  pub row_end : (list : List A) → Opens 32 (row_text list)
  row_end [] = tt
  row_end (a ∷ list) = refl

  pub row_more : (a : A) (list : List A) (rest : List ℕ) → row_text (a ∷ list) ++ rest ≡ 32 ∷ (spelled a ++ (row_text list ++ rest))
  row_more a list rest = ap (λ w. 32 ∷ w) (append_assoc (spelled a) (row_text list) rest)

  -- an item and what stands behind it
  pub one_item : (a b : A) (r s : List ℕ) → Fits a → Fits b → Opens 32 r → Opens 32 s → 32 ∷ (spelled a ++ r) ≡ 32 ∷ (spelled b ++ s) → (a ≡ b) × (r ≡ s)
  one_item a b r s is_a is_b at_r at_s e =
      let f : spelled a ++ r ≡ spelled b ++ s = cc in
      let i = one_cut 32 (spelled a) (spelled b) r s (words a is_a) (words b is_b) at_r at_s f in
      (one a b is_a is_b i.0, i.1)

  -- rows of other items have other texts
  pub one_row : (xs ys : List A) → All Fits xs → All Fits ys → row_text xs ≡ row_text ys → xs ≡ ys
  one_row [] [] all_x all_y e = refl
  one_row [] (y ∷ ys) all_x all_y e = let f : [] ≡ 32 ∷ (spelled y ++ row_text ys) = e in cc
  one_row (x ∷ xs) [] all_x all_y e = let f : 32 ∷ (spelled x ++ row_text xs) ≡ [] = e in cc
  one_row (x ∷ xs) (y ∷ ys) all_x all_y e =
      let i : (x ≡ y) × (row_text xs ≡ row_text ys) =
      one_item x y (row_text xs) (row_text ys) (All-head Fits x xs all_x) (All-head Fits y ys all_y) (row_end xs) (row_end ys) e in
      let j : xs ≡ ys = one_row xs ys (All-tail Fits x xs all_x) (All-tail Fits y ys all_y) i.1 in
      let k : x ≡ y = i.0 in
      cc

  -- what is read so far, and what is left: an item that is read goes on with each row
  pub record IsRead (text : List ℕ) (list : List A) (rest : List ℕ) : Type 0 where
    pub all : All Fits list
    pub whole : text ≡ row_text list ++ rest
    pub opens : (list ≡ []) ⊎ Opens 32 rest
    pub ways : (whole : List A) → All Fits whole → text ≡ row_text whole → (more : List A) × All Fits more × (rest ≡ row_text more)

  pub read_more : (text : List ℕ) (list longer : List A) (rest : List ℕ) (a : A) (behind : List ℕ) → IsRead text list rest → IsItem spelled Fits rest a behind → longer ≡ list ++ a ∷ [] → IsRead text longer behind
  read_more text list longer rest a behind so item is = record {
    all = subst (All Fits) (sym is) (All-push Fits list a so.all item.fits);
    whole =
        so.whole ∙ ap (λ w. row_text list ++ w) (item.whole ∙ sym (row_more a [] behind)) ∙ sym (append_assoc (row_text list) (row_text (a ∷ [])) behind)
        ∙ ap (λ w. w ++ behind) (sym (flat_map-append (λ b. 32 ∷ spelled b) list (a ∷ [])) ∙ ap row_text (sym is));
    opens = inr item.opens;
    ways = λ whole all e. next (so.ways whole all e);
  } where
    next : ((more : List A) × All Fits more × (rest ≡ row_text more)) → (more : List A) × All Fits more × (behind ≡ row_text more)
    next ([], all, e) = let f : 32 ∷ (spelled a ++ behind) ≡ [] = sym item.whole ∙ e in absurd (cc)
    next (b ∷ more, all, e) =
        let f : 32 ∷ (spelled a ++ behind) ≡ 32 ∷ (spelled b ++ row_text more) = sym item.whole ∙ e in
        (more, All-tail Fits b more all, (one_item a b behind (row_text more) item.fits (All-head Fits b more all) item.opens (row_end more) f).1)

  -- where no item comes and something is left, there is no row
  pub read_not : (text : List ℕ) (list : List A) (rest : List ℕ) → IsRead text list rest → NoItem spelled Fits rest → (length rest == 0) ≡ false → (whole : List A) → All Fits whole → text ≢ row_text whole
  read_not text list rest so none left whole all e = by (so.ways whole all e) where
    by : ((more : List A) × All Fits more × (rest ≡ row_text more)) → ⊥
    by ([], all, e) = let f : (length rest == 0) ≡ true = ap (λ (w : List ℕ). length w == 0) e in clash f left
    by (b ∷ more, all, e) =
        none b (row_text more) (All-head Fits b more all) (row_end more) e

  pub read_all : (text : List ℕ) (list : List A) (rest : List ℕ) → IsRead text list rest → rest ≡ [] → text ≡ row_text list
  read_all text list rest so none = so.whole ∙ ap (λ w. row_text list ++ w) none ∙ append-nil (row_text list)

-- where the piece is of no item, the text begins with none
pub no_item : {A : Type 0} (spelled : A → List ℕ) (Fits : A → Type 0) (words : (a : A) → Fits a → LacksByte 32 (spelled a)) (text piece rest : List ℕ) → IsPiece text piece rest → ((a : A) → Fits a → piece ≢ spelled a) → NoItem spelled Fits text
no_item spelled Fits words text piece rest is none a more fits opens same =
    let f : 32 ∷ (piece ++ rest) ≡ 32 ∷ (spelled a ++ more) = sym is.whole ∙ same in
    let g : piece ++ rest ≡ spelled a ++ more = cc in
    none a fits (one_cut 32 piece (spelled a) rest more is.lacks (words a fits) is.opens opens g).0
