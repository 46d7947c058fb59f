-- The digits of n are those of n / 10, and then the last one.
use Rattle.std.proofs.Common.{◌≡◌, ℕ, ◌+◌, ◌/◌, ◌%◌, ◌≤◌, [], ◌∷◌, ◌++◌, length, ap, ◌∙◌, append_assoc, length-append, arith}
use Rattle.md_text.specs.Numbers.{decimal}
use Rattle.md_text.proofs.NumberLemmas.{decimal_step, decimal_digit}
use Rattle.md_top.proofs.short.ShortText.+push_decimal.Goals as goal

one_more : (n : ℕ) → 10 ≤ n → length (decimal n) ≡ length (decimal (n / 10)) + 1
one_more n large = ap length (decimal_step n large) ∙ length-append (decimal (n / 10)) ((48 + n % 10) ∷ [])

pub push-requires : goal.push-requires
push-requires t c =
    let e : length (decimal c.args.n) ≡ 1 = ap length (decimal_digit c.args.n c.if-n-lt10.true) in omega (arith, e)

pub returns-then-n-lt10 : goal.returns-then-n-lt10
returns-then-n-lt10 t c = record {
  items = rw (decimal_digit c.args.n c.if-n-lt10.true) c.push.ensures.items;
  len = let e : length (decimal c.args.n) ≡ 1 = ap length (decimal_digit c.args.n c.if-n-lt10.true) in omega (arith, e);
}

pub push_decimal-requires : goal.push_decimal-requires
push_decimal-requires t c =
    let e : length (decimal c.args.n) ≡ length (decimal (c.args.n / 10)) + 1 = one_more c.args.n c.if-n-lt10.false in
    (omega arith, omega (arith, e))

pub push-requires-2 : goal.push-requires-2
push-requires-2 t c =
    let e : length (decimal c.args.n) ≡ length (decimal (c.args.n / 10)) + 1 = one_more c.args.n c.if-n-lt10.false in omega (arith, e)

pub returns : goal.returns
returns t c = record {
  items = rw (decimal_step c.args.n c.if-n-lt10.false)
      (c.push-2.ensures.items ∙ ap (λ front. front ++ (48 + c.args.n % 10) ∷ []) c.push_decimal.ensures.items
      ∙ append_assoc c.args.self.now (decimal (c.args.n / 10)) ((48 + c.args.n % 10) ∷ []));
  len = let e : length (decimal c.args.n) ≡ length (decimal (c.args.n / 10)) + 1 = one_more c.args.n c.if-n-lt10.false in omega (arith, e);
}
