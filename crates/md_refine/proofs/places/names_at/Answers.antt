use Rattle.std.proofs.Common.{◌≡◌, ℕ, ◌+◌, ◌<◌, true, false, if◌then◌else◌, List, [], ◌∷◌, ◌++◌, get_or, Option, Some, None, IfSome, refl, sym, ◌∙◌, ap, add-one, append-nil}
use Rattle.std.specs.List.{filter}
use Rattle.std.specs.Cmp.{nat_cmp_total}
use Rattle.std.specs.FinSet.{nat_cmp-IsAntisymmetric}
use Rattle.std.specs.FinSet as set
use Rattle.std.proofs.lemmas.List.Elements.{filter-append}
use Rattle.md_graph.specs.Sets.{NameSet}
use Rattle.md_refine.specs.Slots.{numbers, is_mark_of, names_placed}
use Rattle.md_refine.proofs.places.names_at.Goals as goal

none : (homes : List (Option ℕ)) (owners : List ℕ) (p : ℕ) → names_placed homes owners 0 p ≡ []
unfolding numbers
none homes owners p = refl

one_more : (f : ℕ → _) (n : ℕ) → filter f (numbers (n + 1)) ≡ filter f (numbers n) ++ (if f n then n ∷ [] else [])
unfolding numbers
one_more f n = rw (add-one, filter-append f (numbers n) (n ∷ [])) refl

pushed : (xs : List ℕ) (v : ℕ) (s t : NameSet) (b : _) → s ≡ set.from_list xs → t ≡ (if b then set.insert s v else s) → t ≡ set.from_list (xs ++ (if b then v ∷ [] else []))
pushed xs v s t true is made = made ∙ ap (λ z. set.insert z v) is ∙ sym (set.from_list_push nat_cmp_total nat_cmp-IsAntisymmetric xs v)
pushed xs v s t false is made = made ∙ is ∙ ap (λ l. set.from_list l) (sym (append-nil xs))

read : (homes : List (Option ℕ)) (n : ℕ) (o p : Option ℕ) (k : ℕ) → o ≡ p → ((i : ℕ) → p ≡ Some i → i < k) → IfSome o (λ i. i < k)
read homes n None p k is low = _
read homes n (Some i) p k is low = low i (sym is)

pub loop-v-init : goal.loop-v-init
loop-v-init c = c.none-names.ensures.value ∙ ap (λ l. set.from_list l) (sym (none c.args.homes.now.items c.args.owners.now.items c.args.place))

pub is_at-requires : goal.is_at-requires
is_at-requires c =
    let homes = c.args.homes.now.items in
    let v = c.loop-v.v in
    read homes v c.home_at.result (get_or homes v None) _ c.home_at.ensures (c.requires v)

pub loop-v-preserved : goal.loop-v-preserved
loop-v-preserved c =
    let homes = c.args.homes.now.items in
    let owners = c.args.owners.now.items in
    let v = c.loop-v.v in
    let f = λ (w : ℕ). is_mark_of owners c.args.place (get_or homes w None) in
    let test = c.is_at.ensures ∙ ap (is_mark_of owners c.args.place) c.home_at.ensures in
    pushed (filter f (numbers v)) v c.loop-v.names c.insert_if.new.names (f v) c.loop-v.invariant
    (c.insert_if.ensures ∙ ap (λ b. if b then set.insert c.loop-v.names v else c.loop-v.names) test)
    ∙ ap (λ l. set.from_list l) (sym (one_more f v))
