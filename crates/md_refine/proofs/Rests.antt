-- What is left of an order, as it is walked along.
use Rattle.std.proofs.Common.{◌≡◌, ℕ, suc, ◌+◌, ◌<◌, Bool, true, false, List, [], ◌∷◌, length, get_or, Option, Some, None, refl, sym, ◌∙◌, ap, subst, arith}
use Rattle.std.specs.List.{position_from}
use Rattle.std.proofs.lemmas.Bool.Decides.{nat_tests}
use Rattle.std.proofs.lemmas.Option.{none-some, same_Some}
use Rattle.md_refine.specs.Partitions.{is_in}
use Rattle.md_refine.specs.Slots.{IsPlaceOrder}
use Rattle.md_graph.specs.Linked.{first_or, Follow}
use Rattle.md_refine.proofs.Lists.{in_first, in_later}
use Rattle.md_refine.proofs.Showing.{in_times}

-- `rest` is what is left behind the first `index` places of an order of `count` places, of which
-- none passes the test
pub record IsRest (test : ℕ → Bool) (nexts : List (Option ℕ)) (count index : ℕ) (next : Option ℕ) (rest order : List ℕ) : Type 0 where
  pub begins : next ≡ first_or rest None
  pub follow : Follow nexts rest None
  pub low : (p : ℕ) → is_in rest p ≡ true → p < length nexts
  pub long : index + length rest ≡ count
  pub same : (j : ℕ) → get_or rest j 0 ≡ get_or order (index + j) 0
  pub same_position : position_from test index rest ≡ position_from test 0 order

-- there is such a rest
abbrev pub HasRest : (ℕ → Bool) → List (Option ℕ) → ℕ → ℕ → Option ℕ → List ℕ → Type 0
HasRest test nexts count index next order = (rest : List ℕ) × IsRest test nexts count index next rest order

module _ (test : ℕ → Bool) (nexts : List (Option ℕ)) where
  pub rest_first : (first : Option ℕ) (order : List ℕ) (count : ℕ) → IsPlaceOrder nexts first order count → HasRest test nexts count 0 first order
  rest_first first order count is = (
    order,
    record {
      begins = is.begins;
      follow = is.follow;
      low = λ p m.
          let e = in_times p order in
          let once = is.once p in
          let within = is.within in
          let low : p < count = grind (arith, nat_tests) in
          omega arith;
      long = (let e = is.long in omega arith);
      same = λ j. ap (λ k. get_or order k 0) (let e : j ≡ 0 + j = omega arith in e);
      same_position = refl;
    },
  )

  module _ (count index : ℕ) (next : Option ℕ) (order : List ℕ) (has : HasRest test nexts count index next order) where
    -- a rest that begins with p
    rest_at : (p : ℕ) → next ≡ Some p → (xs : List ℕ) × IsRest test nexts count index (Some p) (p ∷ xs) order
    rest_at p is = go has.0 has.1
      where
        go : (rest : List ℕ) → IsRest test nexts count index next rest order → (xs : List ℕ) × IsRest test nexts count index (Some p) (p ∷ xs) order
        go [] r = absurd (none-some p (sym r.begins ∙ is))
        go (x ∷ xs) r =
            let here : x ≡ p = same_Some x p (sym r.begins ∙ is) in
            (xs, subst (λ z. IsRest test nexts count index (Some z) (z ∷ xs) order) here (record { begins = refl; follow = r.follow; low = r.low; long = r.long; same = r.same; same_position = r.same_position }))

    pub rest_low : (p : ℕ) → next ≡ Some p → p < length nexts
    rest_low p is = let r = rest_at p is in r.1.low p (in_first p r.0)

    pub rest_found : (p : ℕ) → next ≡ Some p → test p ≡ true → Some index ≡ position_from test 0 order
    rest_found p is here =
        let r = rest_at p is in
        let found : position_from test index (p ∷ r.0) ≡ Some index = rw here refl in
        sym found ∙ r.1.same_position

    pub rest_more : (p : ℕ) (o : Option ℕ) → next ≡ Some p → o ≡ get_or nexts p None → test p ≡ false → HasRest test nexts count (index + 1) o order
    rest_more p o is read other =
        let r = rest_at p is in
        let passed : position_from test index (p ∷ r.0) ≡ position_from test (index + 1) r.0 = rw other refl in (
          r.0,
          record {
            begins = read ∙ r.1.follow.0;
            follow = r.1.follow.1;
            low = λ q m. r.1.low q (in_later p q r.0 m);
            long = (let e = r.1.long in omega arith);
            same = λ j. r.1.same (suc j) ∙ ap (λ k. get_or order k 0) (let e : index + suc j ≡ index + 1 + j = omega arith in e);
            same_position = sym passed ∙ r.1.same_position;
          },
        )

    pub rest_none : next ≡ None → None ≡ position_from test 0 order
    rest_none is = go has.0 has.1
      where
        go : (rest : List ℕ) → IsRest test nexts count index next rest order → None ≡ position_from test 0 order
        go [] r = r.same_position
        go (x ∷ xs) r = absurd (none-some x (sym is ∙ r.begins))

    pub rest_over : index ≡ count → next ≡ None
    rest_over all = go has.0 has.1
      where
        go : (rest : List ℕ) → IsRest test nexts count index next rest order → next ≡ None
        go [] r = r.begins
        go (x ∷ xs) r = absurd (let e = r.long in omega arith)

    pub rest_some : index < count → (p : ℕ) × (next ≡ Some p) × (p ≡ get_or order index 0)
    rest_some low = go has.0 has.1
      where
        go : (rest : List ℕ) → IsRest test nexts count index next rest order → (p : ℕ) × (next ≡ Some p) × (p ≡ get_or order index 0)
        go [] r = absurd (let e = r.long in omega arith)
        go (x ∷ xs) r = (x, r.begins, r.same 0 ∙ ap (λ k. get_or order k 0) (let e : index + 0 ≡ index = omega arith in e))
