use Rattle.std.proofs.Common.{◌≡◌, ℕ, ◌+◌, ◌<◌, if◌then◌else◌, List, [], ◌∷◌, ◌++◌, get_or, length, Option, Some, None, sym, ◌∙◌, ap, inl, inr, arith}
use Rattle.std.specs.List.{count_by}
use Rattle.std.specs.FinSet as set
use Rattle.std.proofs.lemmas.Bool.{cases_eq}
use Rattle.std.proofs.lemmas.List.{get_or_append_left, get_or_push, length_push}
use Rattle.md_graph.specs.Sets.{NameSet}
use Rattle.md_refine.specs.Slots.{is_mark}
use Rattle.md_refine.proofs.Starting.{counts_none, counts_more}
use Rattle.md_refine.proofs.places.homes_of.Goals as goal

homes_more : (s : NameSet) (n : ℕ) (homes : List (Option ℕ)) (o : Option ℕ) → length homes ≡ n → ((k : ℕ) → k < n → get_or homes k None ≡ (if set.contains s k then Some 0 else None)) → o ≡ (if set.contains s n then Some 0 else None) → (k : ℕ) → k < n + 1 → get_or (homes ++ o ∷ []) k None ≡ (if set.contains s k then Some 0 else None)
homes_more s n homes o long before is k low =
    elim (cases_eq k n) [
      | inl same ↦ get_or_push homes o None k (long ∙ sym same) ∙ is ∙ ap (λ j. if set.contains s j then Some 0 else None) (sym same)
      | inr other ↦ get_or_append_left homes (o ∷ []) None k (omega arith) ∙ before k (omega arith)
    ]

pub loop-name-init : goal.loop-name-init
loop-name-init g c =
    let e = c.in_ok-homes.ensures.items in
    record {
      homes = λ k low. absurd (omega arith);
      counts = λ i. ap (count_by (is_mark i)) e ∙ counts_none i c.args.names.now;
      len = ap length e;
      room = (let r = c.in_ok-homes.ensures.capacity in omega arith);
    }

pub loop-name-preserved : goal.loop-name-preserved
loop-name-preserved g c =
    let l = c.loop-name in
    let s = c.args.names.now in
    let o = c.home_if.result in
    let is = c.home_if.ensures ∙ ap (λ b. if b then Some 0 else None) c.has.ensures.value in
    let e = c.push_reserved.ensures.items in
    record {
      homes = λ k low. ap (λ xs. get_or xs k None) e ∙ homes_more s l.name l.homes.items o l.invariant.len l.invariant.homes is k low;
      counts = λ i. ap (count_by (is_mark i)) e ∙ counts_more i l.name s l.homes.items o (l.invariant.counts i) is;
      len = ap length e ∙ length_push l.homes.items o ∙ ap (λ n. n + 1) l.invariant.len;
      room = (let room = l.invariant.room in let same = c.push_reserved.ensures.capacity in omega arith);
    }
