-- The pairs of names that stand for the children of a prime node.
use Rattle.std.proofs.Common.{◌≡◌, ◌≢◌, ℕ, ◌+◌, ◌<◌, ◌≤◌, Bool, true, cond, List, [], ◌∷◌, ◌++◌, length, get_or, Option, Some, None, append_assoc, length-append, refl, sym, ◌∙◌, ap, subst, arith}
use Rattle.std.specs.Prelude.{AllPairs, IfSome, IfNone, MatchOption}
use Rattle.std.proofs.lemmas.List.{append_cancel_left}
use Rattle.md_text.specs.declared.piece.Piece.{Piece}
use Rattle.md_text.proofs.Lists.{In, to_contains, to_pairs, of_contains}
use Rattle.md_tree.specs.Held.{MayListIf}
use Rattle.md_tree.specs.Spellings.{PairRules, ArePairRules, IsPairBeforeBy}
use Rattle.md_tree.specs.TreeTexts.{pairs_text_by}
use Rattle.md_tree.proofs.Pairs.{one_list}
use Rattle.md_outline.specs.HeadPairs.{head_pairs}
use Rattle.md_outline.proofs.HeadPairs.{AreHeadsPut, heads_end, pairs_within, pairs_later, listed_in, in_listed}

pub if_some : {A : Type 0} {P Q : A → Type 0} (r : Option A) → ((x : A) → P x → Q x) → IfSome r P → IfSome r Q
if_some (Some x) to h = to x h
if_some None to h = h

-- what is told of both cases, by others
pub found_or : {M N A : Type 0} {P Q : A → Type 0} (r : Option A) → ((x : A) → P x → Q x) → (M → N) → IfSome r P → IfNone r M → MatchOption r N Q
found_or (Some x) some none h m = some x h
found_or None some none h m = none m

pub if_other : {M N A : Type 0} (P : A → Type 0) (r : Option A) → (M → N) → MatchOption r M P → IfNone r N
if_other P (Some x) to h = tt
if_other P None to h = to h

-- where a text lacks pairs that a node of a listing kind demands
pub lacks_listed : {P A : Type 0} (r : PairRules P) (lists : Bool) (n : ℕ) (ps : List P) (text : List ℕ) (o : Option A) → lists ≡ true → IfNone o ((tail : List ℕ) → ps ≢ [] → text ≢ pairs_text_by r 59 ps ++ 41 ∷ tail) →
    IfNone o ((tail : List ℕ) → MayListIf r lists n (cond lists ps []) → text ≢ pairs_text_by r 59 (cond lists ps []) ++ 41 ∷ tail)
lacks_listed r lists n ps text (Some x) is none = tt
lacks_listed r lists n ps text None is none =
    subst (λ b. (tail : List ℕ) → MayListIf r b n (cond b ps []) → text ≢ pairs_text_by r 59 (cond b ps []) ++ 41 ∷ tail) (sym is) (λ tail may. none tail may.0)

-- ---- which pairs are listed

module _ {P : Type 0} {r : PairRules P} (law : ArePairRules r) where
  -- a prime node may list the pairs
  pub heads_listed : (e : ℕ → ℕ → Bool) (list : List ℕ) → ((i k : ℕ) → i < length list → k < length list → e (get_or list i 0) (get_or list k 0) ≡ true → r.IsOf (length list) (r.pair i k)) →
      head_pairs r e list ≢ [] → MayListIf r true (length list) (head_pairs r e list)
  heads_listed e list of some = (
    some,
    to_pairs (IsPairBeforeBy r) (head_pairs r e list) (pairs_later law e list 0 list),
    (λ p c.
        let i : In (head_pairs r e list) p = of_contains (head_pairs r e list) p c in
        let t : (0 ≤ r.first p) × (r.first p < 0 + length list) × (r.second p < length list) = pairs_within law e list 0 list p i in
        let a : r.first p < 0 + length list = t.1 in
        let b : r.first p < length list = omega arith in
        subst (r.IsOf (length list)) (law.pair_of p)
        (of (r.first p) (r.second p) b t.2 (in_listed law e list (r.first p) (r.second p) (subst (In (head_pairs r e list)) (sym (law.pair_of p)) i)))),
  )

  -- there is one list of them
  pub only_pairs : (e : ℕ → ℕ → Bool) (list : List ℕ) (ps : List P) → AllPairs (IsPairBeforeBy r) ps → ((p : P) → In ps p → (r.first p < length list) × (r.second p < length list) × (e (get_or list (r.first p) 0) (get_or list (r.second p) 0) ≡ true)) →
      ((i k : ℕ) → i < length list → k < length list → e (get_or list i 0) (get_or list k 0) ≡ true → In ps (r.pair i k)) → ps ≡ head_pairs r e list
  only_pairs e list ps up of to = one_list r {Joined = λ i k. In ps (r.pair i k)} ps (head_pairs r e list)
      (record {
        ascending = up;
        exactly = λ p. ((λ c. subst (In ps) (sym (law.pair_of p)) (of_contains ps p c)), λ i. to_contains ps p (subst (In ps) (law.pair_of p) i));
      })
      (record {
        ascending = to_pairs (IsPairBeforeBy r) (head_pairs r e list) (pairs_later law e list 0 list);
        exactly = λ p. (
          (λ c.
              let i : In (head_pairs r e list) p = of_contains (head_pairs r e list) p c in
              let t : (0 ≤ r.first p) × (r.first p < 0 + length list) × (r.second p < length list) = pairs_within law e list 0 list p i in
              let a : r.first p < 0 + length list = t.1 in
              to (r.first p) (r.second p) (omega arith) t.2 (in_listed law e list (r.first p) (r.second p) (subst (In (head_pairs r e list)) (sym (law.pair_of p)) i))),
          (λ i.
              let t = of p (subst (In ps) (law.pair_of p) i) in
              to_contains (head_pairs r e list) p (subst (In (head_pairs r e list)) (law.pair_of p) (listed_in law e list (r.first p) (r.second p) t.0 t.1 t.2))),
        );
      })

-- ---- a text that is compared with the pairs

pub no_pairs : {P : Type 0} (r : PairRules P) (ps : List P) (text rest : List ℕ) → text ≡ pairs_text_by r 59 ps ++ rest → length rest ≡ length text → ps ≡ []
no_pairs r [] text rest is same = refl
no_pairs r (p ∷ ps) text rest is same = let size = ap length is ∙ length-append (pairs_text_by r 59 (p ∷ ps)) rest in absurd (omega arith)

module _ {P : Type 0} (r : PairRules P) (e : ℕ → ℕ → Bool) (list : List ℕ) where
  -- the text of all pairs
  abbrev whole : List ℕ
  whole = pairs_text_by r 59 (head_pairs r e list)

  module _ (i : ℕ) (over : length list ≤ i) (text front rest chunk : List ℕ) (mark : ℕ) (pieces : List Piece) (cut : front ++ rest ≡ text) (put : AreHeadsPut r e list i [] (front ++ chunk) mark pieces) where
    all_put : front ++ chunk ≡ whole
    all_put = heads_end r e list i [] (front ++ chunk) mark pieces over put

    pub found_all : (tail : List ℕ) → rest ≡ chunk ++ tail → text ≡ whole ++ tail
    found_all tail is = sym cut ∙ ap (λ l. front ++ l) is ∙ sym (append_assoc front chunk tail) ∙ ap (λ l. l ++ tail) all_put

    pub found_other : ((tail : List ℕ) → rest ≢ chunk ++ tail) → (tail : List ℕ) → text ≢ whole ++ tail
    found_other other tail is = other tail (append_cancel_left front rest (chunk ++ tail) (cut ∙ is ∙ ap (λ l. l ++ tail) (sym all_put) ∙ append_assoc front chunk tail))
