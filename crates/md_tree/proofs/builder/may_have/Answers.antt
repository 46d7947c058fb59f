use Rattle.std.proofs.Common.{◌≡◌, ◌≤◌, ℕ, Bool, true, false, List, map, true≢false, refl, sym, ◌∙◌, subst, arith}
use Rattle.std.proofs.lemmas.List.{length-map}
use Rattle.std.specs.Prelude.{◌↔◌, IsTrue}
use Rattle.md_tree.specs.Trees.{PlainTreesOf, count, row}
use Rattle.md_tree.specs.Plain.{plain}
use Rattle.md_tree.specs.Held.{HasOthersIf, AscendsIf, Ascends}
use Rattle.md_tree.proofs.Folding.{count_row}
use Rattle.md_tree.proofs.builder.may_have.Goals as goal

-- what is asked of the children and of their least names, by the two tests of the kind
module _ {K P : Type 0} (k : K) (cs : PlainTreesOf K P) (least : ℕ) (ms : List ℕ) (enough : least ≤ count cs) where
  abbrev Asked : Bool → Bool → Type 0
  Asked lists sorts = ((least ≤ count cs) × HasOthersIf lists k cs) × AscendsIf sorts ms

  listing_any : (lists sorts : Bool) → lists ≡ true → sorts ≡ false → IsTrue true ↔ Asked lists sorts
  listing_any true false e f = ((λ h. ((enough, tt), tt)), (λ m. refl))
  listing_any true true e f = absurd (true≢false f)
  listing_any false sorts e f = absurd (true≢false (sym e))

  listing_sorted : (lists sorts up : Bool) → lists ≡ true → sorts ≡ true → (IsTrue up ↔ Ascends ms) → IsTrue up ↔ Asked lists sorts
  listing_sorted true true up e f a = ((λ h. ((enough, tt), a.0 h)), (λ m. a.1 m.1))
  listing_sorted true false up e f a = absurd (true≢false (sym f))
  listing_sorted false sorts up e f a = absurd (true≢false (sym e))

  plain_other : (lists sorts other : Bool) → lists ≡ false → (IsTrue other ↔ (HasOthersIf false k cs × AscendsIf sorts ms)) → IsTrue other ↔ Asked lists sorts
  plain_other false sorts other e a = ((λ h. let both = a.0 h in ((enough, both.0), both.1)), (λ m. a.1 (m.0.1, m.1)))
  plain_other true sorts other e a = absurd (true≢false e)

pub returns-then-children-least_count : goal.returns-then-children-least_count
returns-then-children-least_count g c =
    let xs = c.args.children.now in
    let size = count_row (map plain xs) ∙ length-map xs plain in
    let few = c.if-children-least_count.true in let least = c.least_count.ensures in
    ((λ h. absurd (true≢false (sym h))), (λ m. let enough = m.0.0 in absurd (omega arith)))

pub returns-then-not-sorts : goal.returns-then-not-sorts
returns-then-not-sorts g c =
    let xs = c.args.children.now in let k = c.args.kind in let r = g.K.Lettered.rules in
    let size = count_row (map plain xs) ∙ length-map xs plain in
    let many = c.if-children-least_count.false in let least = c.least_count.ensures in
    let enough : r.least_count k ≤ count (row (map plain xs)) = omega arith in
    rw c.if-not-sorts.true (listing_any k (row (map plain xs)) (r.least_count k) c.args.least.now enough (r.lists k) (r.sorts k) (sym c.lists.ensures ∙ c.if-lists.true) (sym c.sorts-sorts.ensures ∙ c.if-not-sorts.true))

pub returns-else-not-sorts : goal.returns-else-not-sorts
returns-else-not-sorts g c =
    let xs = c.args.children.now in let k = c.args.kind in let r = g.K.Lettered.rules in
    let size = count_row (map plain xs) ∙ length-map xs plain in
    let many = c.if-children-least_count.false in let least = c.least_count.ensures in
    let enough : r.least_count k ≤ count (row (map plain xs)) = omega arith in
    listing_sorted k (row (map plain xs)) (r.least_count k) c.args.least.now enough (r.lists k) (r.sorts k) _ (sym c.lists.ensures ∙ c.if-lists.true) (sym c.sorts-sorts.ensures ∙ c.if-not-sorts.false) c.ascends.ensures.exactly

pub returns : goal.returns
returns g c =
    let xs = c.args.children.now in let k = c.args.kind in let r = g.K.Lettered.rules in
    let size = count_row (map plain xs) ∙ length-map xs plain in
    let many = c.if-children-least_count.false in let least = c.least_count.ensures in
    let enough : r.least_count k ≤ count (row (map plain xs)) = omega arith in
    plain_other k (row (map plain xs)) (r.least_count k) c.args.least.now enough (r.lists k) (r.sorts k) _ (sym c.lists.ensures ∙ c.if-lists.false)
    (subst (λ b. IsTrue c.are_others.result ↔ (HasOthersIf false k (row (map plain xs)) × AscendsIf b c.args.least.now)) c.sorts-sorts.ensures c.are_others.ensures)
