-- Names that stand for the children of a node, each compared with the first one when those before it have left a set.
use Rattle.std.proofs.Common.{◌≡◌, ◌≢◌, ℕ, ◌+◌, ◌<◌, List, length, get_or, sym, ◌∙◌, ap, subst, inl, inr, arith}
use Rattle.std.proofs.lemmas.Bool.{cases_Bool, cases_eq, cases_lt}
use Rattle.std.specs.FinSet.{contains, remove, difference, from_list}
use Rattle.md_graph.specs.Sets.{NameSet, Has}
use Rattle.md_graph.proofs.SetLemmas.{clash, of_remove, remove_left, minus_has, of_minus}
use Rattle.md_tree.proofs.Holding.{lacks_if}
use Rattle.md_checker.specs.FitTests.{AreAlike, AreJoinedBy}
use Rattle.md_checker.specs.TextFits.{AreLive, HasOthers}
use Rattle.md_checker.proofs.FitRows.{in_listed_set, of_listed_set}

-- those before a position agree with the first one on what is left and on the names behind them, and each has the colours that `puts`
-- says with it
pub record AreTwins {C : Type 0} (e puts : ℕ → ℕ → C) (list : List ℕ) (live : NameSet) (n : ℕ) (left : NameSet) : Type 0 where
  pub others : (x : ℕ) → Has live x → ((i : ℕ) → i < n → x ≢ get_or list i 0) → Has left x
  pub away : (x : ℕ) → Has left x → Has live x × ((i : ℕ) → i < n → x ≢ get_or list i 0)
  pub alike : (i y : ℕ) → i < n → Has left y → e (get_or list 0 0) y ≡ e (get_or list i 0) y
  pub behind : (i j : ℕ) → i < n → i < j → j < length list → e (get_or list 0 0) (get_or list j 0) ≡ e (get_or list i 0) (get_or list j 0)
  pub joined : (j k l : ℕ) → 0 < j → j < n → e (get_or list 0 0) (get_or list j 0) ≡ puts k l

module _ {C : Type 0} {e puts : ℕ → ℕ → C} {list : List ℕ} {live : NameSet} where
  pub twins_first : (left : NameSet) → left ≡ remove live (get_or list 0 0) → AreTwins e puts list live 1 left
  twins_first left made = record {
    others = λ x h away. subst (λ s. Has s x) (sym made) (remove_left live (get_or list 0 0) x (away 0 (let b : 0 < 1 = omega arith in b)) h);
    away = λ x h.
        let two = of_remove live (get_or list 0 0) x (subst (λ s. Has s x) made h) in
        (two.1, λ i below. let same : 0 ≡ i = omega arith in subst (λ k. x ≢ get_or list k 0) same two.0);
    alike = λ i y below h. let same : 0 ≡ i = omega arith in ap (λ k. e (get_or list k 0) y) same;
    behind = λ i j below less bound. let same : 0 ≡ i = omega arith in ap (λ k. e (get_or list k 0) (get_or list j 0)) same;
    joined = λ j k l some below. absurd (omega arith);
  }

  pub twins_more : (n : ℕ) (left new : NameSet) → ((i j : ℕ) → i < j → j < length list → get_or list i 0 ≢ get_or list j 0) → AreLive list live → AreTwins e puts list live n left → new ≡ remove left (get_or list n 0) →
      ((k l : ℕ) → e (get_or list 0 0) (get_or list n 0) ≡ puts k l) → ((y : ℕ) → Has new y → e (get_or list 0 0) y ≡ e (get_or list n 0) y) → AreTwins e puts list live (n + 1) new
  twins_more n left new differ all so made joins agree = record {
    others = stay;
    away = λ x h.
        let two = of_remove left (get_or list n 0) x (subst (λ s. Has s x) made h) in
        let before = so.away x two.1 in (
          before.0,
          λ i below. elim (cases_eq i n) [
            | inl same ↦ subst (λ k. x ≢ get_or list k 0) (sym same) two.0
            | inr other ↦ (let less : i < n = omega arith in before.1 i less)
          ],
        );
    alike = λ i y below h. elim (cases_eq i n) [
      | inl same ↦ agree y h ∙ ap (λ k. e (get_or list k 0) y) (sym same)
      | inr other ↦ (let less : i < n = omega arith in so.alike i y less (of_remove left (get_or list n 0) y (subst (λ s. Has s y) made h)).1)
    ];
    behind = λ i j below less bound. elim (cases_eq i n) [
      | inl same ↦
          agree (get_or list j 0) (stay (get_or list j 0) (all j bound) (λ k low is. differ k j (omega arith) bound (sym is))) ∙ ap (λ k. e (get_or list k 0) (get_or list j 0)) (sym same)
      | inr other ↦ (let l : i < n = omega arith in so.behind i j l less bound)
    ];
    joined = λ j k l some below. elim (cases_eq j n) [
      | inl same ↦ ap (λ i. e (get_or list 0 0) (get_or list i 0)) same ∙ joins k l
      | inr other ↦ (let less : j < n = omega arith in so.joined j k l some less)
    ];
  } where
    stay : (x : ℕ) → Has live x → ((i : ℕ) → i < n + 1 → x ≢ get_or list i 0) → Has new x
    stay x h away =
        subst (λ s. Has s x) (sym made)
        (remove_left left (get_or list n 0) x (away n (let b : n < n + 1 = omega arith in b)) (so.others x h (λ i below. away i (let b : i < n + 1 = omega arith in b))))

  -- where names that agree on all others are joined in the same way, the next one agrees with the first on what is left
  pub twins_agree : (n : ℕ) (left new others : NameSet) → n < length list → ((i j m o : ℕ) → puts i j ≡ puts m o) → AreTwins e puts list live n left → new ≡ remove left (get_or list n 0) → HasOthers live list others → AreAlike e others list → AreJoinedBy puts e list →
      0 < n → (y : ℕ) → Has new y → e (get_or list 0 0) y ≡ e (get_or list n 0) y
  twins_agree n left new others below even so made are alike joined some y h =
      let two = of_remove left (get_or list n 0) y (subst (λ s. Has s y) made h) in
      let before = so.away y two.1 in
      elim (cases_Bool (contains (from_list list) y)) [
        | inl inside ↦
            let j : (j : ℕ) × (j < length list) × (y ≡ get_or list j 0) = of_listed_set list y inside in
            let later : n < j.0 = elim (cases_lt n j.0) [
              | inl less ↦ less
              | inr over ↦ elim (cases_eq j.0 n) [
                | inl same ↦ absurd (two.0 (j.2 ∙ ap (λ k. get_or list k 0) same))
                | inr other ↦ (let less : j.0 < n = omega arith in absurd (before.1 j.0 less j.2))
              ]
            ] in
            ap (e (get_or list 0 0)) j.2 ∙ joined 0 j.0 (omega arith) j.1 ∙ even 0 j.0 n j.0 ∙ sym (joined n j.0 later j.1) ∙ ap (e (get_or list n 0)) (sym j.2)
        | inr out ↦ alike n y below ((are y).1 (before.0, λ i l same. clash (subst (Has (from_list list)) (sym same) (in_listed_set list i l)) out))
      ]

  module _ {n : ℕ} {left : NameSet} (so : AreTwins e puts list live n left) (all : n ≡ length list) where
    pub twins_others : HasOthers live list left
    twins_others x = (
      λ h. let two = so.away x h in (two.0, λ i below. two.1 i (omega arith)),
      λ two. so.others x two.0 (λ i below. two.1 i (omega arith)),
    )

    pub twins_alike : AreAlike e left list
    twins_alike i y below h = so.alike i y (omega arith) h

    pub twins_joined : AreJoinedBy puts e list
    twins_joined i j less below =
        let bi : i < n = omega arith in
        let bj : j < n = omega arith in
        let some : 0 < j = omega arith in
        sym (so.behind i j bi less below) ∙ so.joined j i j some bj

-- what is left where all names of the list leave at once
pub rest_others : (live all left : NameSet) (list : List ℕ) → all ≡ from_list list → left ≡ difference live all → HasOthers live list left
rest_others live all left list is made x = (
  λ h.
      let two = of_minus live all x (subst (λ s. Has s x) made h) in
      (two.0, λ i below same. clash (subst (λ s. Has s x) (sym is) (subst (Has (from_list list)) (sym same) (in_listed_set list i below))) two.1),
  λ two. subst (λ s. Has s x) (sym made)
      (minus_has live all x two.0 (lacks_if all x (λ i. let k : (k : ℕ) × (k < length list) × (x ≡ get_or list k 0) = of_listed_set list x (subst (λ s. Has s x) is i) in two.1 k.0 k.1 k.2))),
)
