-- Links after one list of children changes in the middle: some items go, others come.
use Rattle.std.proofs.Common.{◌≡◌, ◌≢◌, ℕ, ◌+◌, ◌<◌, List, ◌++◌, get_or, Option, None, sym, ◌∙◌, ap, subst, inl, inr, arith}
use Rattle.std.proofs.lemmas.Bool.{cases_eq, cases_lt}
use Rattle.md_lists.specs.Words.{last_or}
use Rattle.md_graph.specs.Linked.{first_or, Follow, times}
use Rattle.md_lists.specs.Spans.{Precede}
use Rattle.md_lists.specs.Links.{Links, parent_at, children_at, AreLinks}
use Rattle.md_lists.proofs.ListLaws.{times-append}
use Rattle.md_lists.proofs.LinkLaws.{child_once, loose_child, one_parent}
use Rattle.md_lists.proofs.Following.{follow_same, follow_apart, follow_together, precede_same, precede_apart, precede_together}

-- in l and m the children of q are these, and all other places have the same
pub record Spliced (l m : Links) (q : ℕ) (left gone came right : List ℕ) : Type 0 where
  pub links : AreLinks l
  pub new_links : AreLinks m
  pub was : children_at l q ≡ left ++ (gone ++ right)
  pub now : children_at m q ≡ left ++ (came ++ right)
  pub others : (p : ℕ) → p ≢ q → children_at m p ≡ children_at l p
  pub parents : (x : ℕ) → times x gone ≡ 0 → times x came ≡ 0 → parent_at m x ≡ parent_at l x
  pub loose : (x : ℕ) → 0 < times x came → parent_at l x ≡ None

module _ (l m : Links) (q : ℕ) (left gone came right : List ℕ) (is : Spliced l m q left gone came right) where
  counted : (x : ℕ) → times x (children_at l q) ≡ times x left + (times x gone + times x right)
  counted x = ap (times x) is.was ∙ times-append x left (gone ++ right) ∙ ap (λ n. times x left + n) (times-append x gone right)

  recounted : (x : ℕ) → times x (children_at m q) ≡ times x left + (times x came + times x right)
  recounted x = ap (times x) is.now ∙ times-append x left (came ++ right) ∙ ap (λ n. times x left + n) (times-append x came right)

  -- a child of another place isn't among these
  away : (p x : ℕ) → p ≢ q → 0 < times x (children_at l p) → (times x left ≡ 0) × (times x gone ≡ 0) × (times x came ≡ 0) × (times x right ≡ 0)
  away p x other some =
      let none : times x (children_at l q) ≡ 0 = elim (cases_lt 0 (times x (children_at l q))) [
        | inl here ↦ absurd (other (one_parent l is.links p q x some here))
        | inr there ↦ omega arith
      ] in
      let e = counted x in
      let new : times x came ≡ 0 = elim (cases_lt 0 (times x came)) [
        | inl here ↦ absurd (let n = loose_child l is.links p x (is.loose x here) in omega arith)
        | inr there ↦ omega arith
      ] in
      (omega arith, omega arith, new, omega arith)

  module _ (ns ms : List (Option ℕ)) (same : (x : ℕ) → times x left ≡ 0 → times x gone ≡ 0 → times x came ≡ 0 → get_or ms x None ≡ get_or ns x None) where
    pub spliced_forward : ((p : ℕ) → Follow ns (children_at l p) None) → Follow ms left (first_or (came ++ right) None) → Follow ms came (first_or right None) → (p : ℕ) → Follow ms (children_at m p) None
    spliced_forward old at_left at_came p =
        elim (cases_eq p q) [
          | inl here ↦
              subst (λ z. Follow ms z None) (sym (ap (λ z. children_at m z) here ∙ is.now)) (follow_together ms left (came ++ right) None at_left (follow_together ms came right None at_came right_stays))
          | inr there ↦
              subst (λ z. Follow ms z None) (sym (is.others p there)) (follow_same ns ms (children_at l p) None (λ x some. let a = away p x there some in same x a.0 a.1 a.2) (old p))
        ]
      where
        right_stays : Follow ms right None
        right_stays = follow_same ns ms right None (λ x some.
            let e = counted x in
            let f = recounted x in
            let o = child_once l is.links q x in
            let n = child_once m is.new_links q x in
            same x (omega arith) (omega arith) (omega arith))
            (follow_apart ns gone right None (follow_apart ns left (gone ++ right) None (subst (λ z. Follow ns z None) is.was (old q))).1).1

    pub spliced_loose : ((x : ℕ) → parent_at l x ≡ None → get_or ns x None ≡ None) → ((x : ℕ) → 0 < times x gone → get_or ms x None ≡ None) → (x : ℕ) → parent_at m x ≡ None → get_or ms x None ≡ None
    spliced_loose old at_gone x none =
        elim (cases_lt 0 (times x gone)) [
          | inl here ↦ at_gone x here
          | inr there ↦
              let e = loose_child m is.new_links q x none in
              let f = recounted x in
              let no_gone : times x gone ≡ 0 = omega arith in
              let no_came : times x came ≡ 0 = omega arith in
              same x (omega arith) no_gone no_came ∙ old x (sym (is.parents x no_gone no_came) ∙ none)
        ]

  module _ (ps qs : List (Option ℕ)) (same : (x : ℕ) → times x gone ≡ 0 → times x came ≡ 0 → times x right ≡ 0 → get_or qs x None ≡ get_or ps x None) where
    pub spliced_back : ((p : ℕ) → Precede ps None (children_at l p)) → Precede qs (last_or left None) (came ++ right) → (p : ℕ) → Precede qs None (children_at m p)
    spliced_back old at_came p =
        elim (cases_eq p q) [
          | inl here ↦
              subst (λ z. Precede qs None z) (sym (ap (λ z. children_at m z) here ∙ is.now)) (precede_together qs None left (came ++ right) left_stays at_came)
          | inr there ↦
              subst (λ z. Precede qs None z) (sym (is.others p there)) (precede_same ps qs None (children_at l p) (λ x some. let a = away p x there some in same x a.1 a.2 a.3) (old p))
        ]
      where
        left_stays : Precede qs None left
        left_stays = precede_same ps qs None left (λ x some.
            let e = counted x in
            let f = recounted x in
            let o = child_once l is.links q x in
            let n = child_once m is.new_links q x in
            same x (omega arith) (omega arith) (omega arith))
            (precede_apart ps None left (gone ++ right) (subst (λ z. Precede ps None z) is.was (old q))).0
