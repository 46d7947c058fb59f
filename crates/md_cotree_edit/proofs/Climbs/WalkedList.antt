-- A walk over the list of marked places, while places come onto its end.
use Rattle.std.proofs.Common.{◌≡◌, ℕ, ◌+◌, ◌-◌, ◌<◌, ◌≤◌, cond, ◌==◌, List, [], ◌∷◌, ◌++◌, length, Option, Some, None, is_some, refl, sym, ◌∙◌, ap, subst, inl, inr, arith, append_assoc, append-nil, length-append}
use Rattle.std.proofs.lemmas.Bool.{cases_eq, eq-eqb, ne_eqb}
use Rattle.md_lists.specs.declared.kinds.PlaceKind.{PlaceKind}
use Rattle.md_lists.specs.declared.TheConstants.{PLACES}
use Rattle.md_lists.specs.Words.{behind}
use Rattle.md_graph.specs.Linked.{first_or, times}
use Rattle.md_lists.specs.Links.{Links, kind_at, note_at, IsLive, AreLinks}
use Rattle.md_lists.proofs.ListLaws.{times-first, times-other, times-split}
use Rattle.md_cotree.proofs.Emitting.{behind_front}

-- some marked places are passed, and the next one is the first that isn't
pub record IsPassing (done marked : List ℕ) (next : Option ℕ) : Type 0 where
  pub left : List ℕ
  pub whole : marked ≡ done ++ left
  pub at : next ≡ first_or left None

-- how many items stand before c
abbrev pub before : ℕ → List ℕ → ℕ
before c [] = 0
before c (x ∷ xs) = cond (x == c) 0 (1 + before c xs)

-- a bound of the places that are left to pass
abbrev pub room_left : List ℕ → Option ℕ → ℕ
room_left marked None = 0
room_left marked (Some c) = (PLACES + 1) - before c marked

pub pass_begin : (marked : List ℕ) (next : Option ℕ) → next ≡ first_or marked None → IsPassing [] marked next
pass_begin marked next is = record { left = marked; whole = refl; at = is }

before_front : (c : ℕ) (done left : List ℕ) → times c done ≡ 0 → before c (done ++ c ∷ left) ≡ length done
before_front c [] left none = ap (λ b. cond b 0 (1 + before c left)) (eq-eqb c c refl)
before_front c (x ∷ done) left none =
    ap (λ b. cond b 0 (1 + before c (done ++ c ∷ left))) (ne_eqb x c (λ e. let one = times-first c done in let f = ap (λ z. times c (z ∷ done)) e in omega arith))
    ∙ (let rest = before_front c done left (omega arith) in omega arith)

-- the place that is passed next
pub pass_at : (done marked : List ℕ) (c : ℕ) → IsPassing done marked (Some c) → (rest : List ℕ) × (marked ≡ done ++ c ∷ rest)
pass_at done marked c pass = go pass.left pass.whole pass.at
  where
    go : (left : List ℕ) → marked ≡ done ++ left → Some c ≡ first_or left None → (rest : List ℕ) × (marked ≡ done ++ c ∷ rest)
    go [] whole at = absurd cc
    go (x ∷ left) whole at =
        let same : c ≡ x = cc in
        (left, whole ∙ ap (λ z. done ++ z ∷ left) (sym same))

module _ (done marked : List ℕ) (c : ℕ) (pass : IsPassing done marked (Some c)) where
  pub pass_marked : 0 < times c marked
  pass_marked = let at = pass_at done marked c pass in let e = ap (times c) at.1 in let f = times-split c c done at.0 in let one = times-first c at.0 in omega arith

  pub pass_fresh : times c marked ≤ 1 → times c done ≡ 0
  pass_fresh once = let at = pass_at done marked c pass in let e = ap (times c) at.1 in let f = times-split c c done at.0 in let one = times-first c at.0 in omega arith

  pub pass_seen : (p : ℕ) → times p done ≤ times p marked
  pass_seen p = let at = pass_at done marked c pass in let e = ap (times p) at.1 in let f = times-split p c done at.0 in omega arith

  module _ (now rest : List ℕ) (next : Option ℕ) (longer : now ≡ marked ++ rest) (once : times c now ≤ 1) (is : next ≡ behind c now) where
    pub pass_more : IsPassing (done ++ c ∷ []) now next
    pass_more =
        let at = pass_at done marked c pass in
        let all : now ≡ done ++ c ∷ (at.0 ++ rest) = longer ∙ ap (λ z. z ++ rest) at.1 ∙ append_assoc done (c ∷ at.0) rest in
        let none : times c done ≡ 0 = let e = ap (times c) all in let f = times-split c c done (at.0 ++ rest) in let one = times-first c (at.0 ++ rest) in omega arith in
        record {
          left = at.0 ++ rest;
          whole = all ∙ sym (append_assoc done (c ∷ []) (at.0 ++ rest));
          at = is ∙ ap (behind c) all ∙ behind_front c done (at.0 ++ rest) none;
        }

pub pass_end : (done marked : List ℕ) (next : Option ℕ) → next ≡ None → IsPassing done marked next → marked ≡ done
pass_end done marked next none pass = go pass.left pass.whole pass.at
  where
    go : (left : List ℕ) → marked ≡ done ++ left → next ≡ first_or left None → marked ≡ done
    go [] whole at = whole ∙ append-nil done
    go (x ∷ left) whole at = absurd (let bad : None ≡ Some x = sym none ∙ at in cc)

-- ---- the bound

room_at : (done marked : List ℕ) (c : ℕ) → times c marked ≤ 1 → IsPassing done marked (Some c) → before c marked ≡ length done
room_at done marked c once pass =
    let at = pass_at done marked c pass in
    ap (before c) at.1 ∙ before_front c done at.0 (pass_fresh done marked c pass once)

room_low : (done marked : List ℕ) (next : Option ℕ) → ((p : ℕ) → times p marked ≤ 1) → IsPassing done marked next → room_left marked next ≤ (PLACES + 1) - length done
room_low done marked None once pass = omega arith
room_low done marked (Some c) once pass = let e = room_at done marked c (once c) pass in omega arith

pub room_less : (done marked now : List ℕ) (c : ℕ) (next : Option ℕ) → ((p : ℕ) → times p marked ≤ 1) → ((p : ℕ) → times p now ≤ 1) → length marked ≤ PLACES → IsPassing done marked (Some c) →
    IsPassing (done ++ c ∷ []) now next → room_left now next < room_left marked (Some c)
room_less done marked now c next once once_now few pass more =
    let e = room_at done marked c (once c) pass in
    let low = room_low (done ++ c ∷ []) now next once_now more in
    let at = pass_at done marked c pass in
    let all = ap length at.1 in
    let parts = length-append done (c ∷ at.0) in
    let longer = length-append done (c ∷ []) in
    omega arith

-- ---- marked places

pub marked_live : (l : Links) → AreLinks l → (p : ℕ) → 0 < times p l.marked → IsLive l p
marked_live l ok p some = go (kind_at l p) refl
  where
    go : (o : Option PlaceKind) → kind_at l p ≡ o → IsLive l p
    go None e = absurd (let b = ok.bare p e in let t = b.no_tally in let n = b.no_note in let m = ok.marks p in omega arith)
    go (Some k) e = ap is_some e

pub noted_more : (l : Links) (done : List ℕ) (c : ℕ) → ((p : ℕ) → 0 < times p done → 0 < note_at l p) → 0 < note_at l c → (p : ℕ) → 0 < times p (done ++ c ∷ []) → 0 < note_at l p
noted_more l done c noted here p some =
    elim (cases_eq c p) [
      | inl same ↦ subst (λ z. 0 < note_at l z) same here
      | inr other ↦ noted p (let f = times-split p c done [] in let m = times-other p c [] other in omega arith)
    ]

pub length_more : (done : List ℕ) (c : ℕ) → length (done ++ c ∷ []) ≡ length done + 1
length_more done c = length-append done (c ∷ [])
