-- The chain of modules of a set: one more of them, and those that lie in the first child.
use Rattle.std.proofs.Common.{◌≡◌, ℕ, zero, suc, ◌+◌, ◌-◌, ◌<◌, ◌≤◌, ◌≢◌, ◌⊎◌, Bool, List, [], ◌∷◌, ◌++◌, length, length-append, take, Contains, refl, sym, ◌∙◌, ap, subst, inl, inr, arith}
use Rattle.std.proofs.Math.ListN.{get_or-append}
use Rattle.std.proofs.Math.Seq.{get_or-append_seam, take-append_seam, take-length}
use Rattle.std.proofs.lemmas.List.{get_or-take, length-take-le, take-append-le, take-take}
use Rattle.std.proofs.lemmas.Bool.{cases_Bool, cases_lt}
use Rattle.std.specs.FinSet.{contains, empty, insert, intersection, difference, from_list, len, len-empty}
use Rattle.std.specs.Ordering.{nat_cmp}
use Rattle.md_graph.specs.declared.TheConstants.{NAMES}
use Rattle.md_graph.specs.NameSet.{AllBelow, IsLeastFrom, NoneFrom, ascending, symmetric_difference}
use Rattle.md_graph.specs.Sets.{NameSet, Has, Lacks, Within}
use Rattle.md_graph.proofs.NameLemmas.{from_list-ascending}
use Rattle.md_graph.proofs.SetLemmas.{clash, empty_lacks, insert_new, insert_old, of_insert, of_minus, minus_has, same_members, same_name, Has-along, along_two, rest_told}
use Rattle.md_graph.proofs.Search.{decide_test, len_one_more, len_proper, larger_or_same}
use Rattle.md_graph.specs.Adjacency.{IsAdjacency}
use Rattle.md_modules.specs.Modules.{IsModule, IsLeastModule, IsLeastModuleOver, IsStrong}
use Rattle.md_modules.specs.Kinds.{IsPrime}
use Rattle.md_modules.proofs.Modules.{undirected, module_inside, module_of_module}
use Rattle.md_modules.proofs.Components.{prime_unsplit}
use Rattle.md_modules.proofs.Strong.{nested_if_meet}
use Rattle.md_text.proofs.Lists.{of_contains}
use Rattle.md_outline.proofs.HeadPairs.{to_set}
use Rattle.md_decompose.specs.declared.nested_modules.Step.{Step}
use Rattle.md_decompose.specs.declared.nested_modules.Nested.{Nested}
use Rattle.md_decompose.specs.Chains.{with_names, no_step, step_at, taken_with, IsGrown, IsStepOf, AreSteps, IsChainOf, IsChainFront}
use Rattle.md_decompose.proofs.ChildLemmas.{IsHeld, held_begins, held_grown, held_falls, held_ends}

-- ---- the names of a list

of_listed_both : (xs ys : List ℕ) (x : ℕ) → Has (from_list (xs ++ ys)) x → Has (from_list xs) x ⊎ Has (from_list ys) x
of_listed_both [] ys x h = inr h
of_listed_both (k ∷ xs) ys x h = elim (of_insert (from_list (xs ++ ys)) k x h) [
  | inl same ↦ inl (subst (Has (insert (from_list xs) k)) (sym same) (insert_new (from_list xs) k))
  | inr old ↦ elim (of_listed_both xs ys x old) [ inl l ↦ inl (insert_old (from_list xs) k x l) | inr r ↦ inr r ]
]

listed_left : (xs ys : List ℕ) (x : ℕ) → Has (from_list xs) x → Has (from_list (xs ++ ys)) x
listed_left [] ys x h = clash h (empty_lacks x)
listed_left (k ∷ xs) ys x h = elim (of_insert (from_list xs) k x h) [
  | inl same ↦ subst (Has (insert (from_list (xs ++ ys)) k)) (sym same) (insert_new (from_list (xs ++ ys)) k)
  | inr old ↦ insert_old (from_list (xs ++ ys)) k x (listed_left xs ys x old)
]

listed_right : (xs ys : List ℕ) (x : ℕ) → Has (from_list ys) x → Has (from_list (xs ++ ys)) x
listed_right [] ys x h = h
listed_right (k ∷ xs) ys x h = insert_old (from_list (xs ++ ys)) k x (listed_right xs ys x h)

few_listed : (xs : List ℕ) → len (from_list {R = nat_cmp} xs) ≤ length xs
few_listed [] = let none : len (empty {R = nat_cmp}) ≡ 0 = len-empty nat_cmp in omega arith
few_listed (k ∷ xs) =
    let few : len (from_list {R = nat_cmp} xs) ≤ length xs = few_listed xs in
    let more : len (insert (from_list {R = nat_cmp} xs) k) ≤ len (from_list {R = nat_cmp} xs) + 1 = len_one_more (from_list xs) k in
    omega arith

few_names : (v : ℕ) (xs : List ℕ) → len (with_names v xs) ≤ length xs + 1
few_names v xs =
    let few : len (from_list {R = nat_cmp} xs) ≤ length xs = few_listed xs in
    let more : len (with_names v xs) ≤ len (from_list {R = nat_cmp} xs) + 1 = len_one_more (from_list xs) v in
    omega arith

-- v and the names taken are begun, and the members of held that begun lacks are taken
with_more : (v : ℕ) (taken : List ℕ) (begun held : NameSet) → begun ≡ with_names v taken → Within begun held → AllBelow (difference held begun) NAMES →
    held ≡ with_names v (taken ++ ascending (difference held begun))
with_more v taken begun held is part names = same_members held (with_names v (taken ++ new)) there back where
  new : List ℕ
  new = ascending (difference held begun)

  listed : from_list new ≡ difference held begun
  listed = from_list-ascending (difference held begun) NAMES names

  there : Within held (with_names v (taken ++ new))
  there x h = elim (cases_Bool (contains begun x)) [
    | inr out ↦ insert_old (from_list (taken ++ new)) v x (listed_right taken new x (Has-along _ _ (sym listed) x (minus_has held begun x h out)))
    | inl old ↦ elim (of_insert (from_list taken) v x (Has-along _ _ is x old)) [
      | inl same ↦ subst (Has (with_names v (taken ++ new))) (sym same) (insert_new (from_list (taken ++ new)) v)
      | inr k ↦ insert_old (from_list (taken ++ new)) v x (listed_left taken new x k)
    ]
  ]

  back : Within (with_names v (taken ++ new)) held
  back x h = elim (of_insert (from_list (taken ++ new)) v x h) [
    | inl same ↦ subst (Has held) (sym same) (part v (Has-along _ _ (sym is) v (insert_new (from_list taken) v)))
    | inr k ↦ elim (of_listed_both taken new x k) [
      | inl l ↦ part x (Has-along _ _ (sym is) x (insert_old (from_list taken) v x l))
      | inr r ↦ (of_minus held begun x (Has-along _ _ listed x r)).0
    ]
  ]

pub taken_before : (steps : List Step) (n : ℕ) → 0 < n → taken_with steps n ≡ (step_at steps (n - 1)).to
taken_before steps zero l = absurd (omega arith)
taken_before steps (suc k) l = let same : k ≡ suc k - 1 = omega arith in ap (λ i. (step_at steps i).to) same

-- the first name that is told apart
pub told_out : (s begun : NameSet) (j : ℕ) → IsLeastFrom (intersection s (symmetric_difference begun s)) 0 j → Has s j × Lacks begun j
told_out s begun j least = of_minus s begun j (Has-along _ _ (rest_told s begun) j least.member)

module _ {e : ℕ → ℕ → Bool} where
  grown_within : {s begun held : NameSet} {v j : ℕ} → IsGrown e s v begun held j → Within begun held
  grown_within {s} {begun} {held} {v} {j} is x h = is.least.holds x (insert_old begun j x h)

  pub steps_none : (s : NameSet) (v : ℕ) (taken : List ℕ) (steps : List Step) → taken ≡ [] → steps ≡ [] → AreSteps e s v taken steps
  steps_none s v taken steps no_names no_steps = subst (λ ts. AreSteps e s v ts steps) (sym no_names) (subst (AreSteps e s v []) (sym no_steps) (record {
    each = λ k l. absurd (let b : k < 0 = l in omega arith);
    order = λ i k b l. absurd (let c : k < 0 = l in omega arith);
    ends = refl;
  }))

  -- one more step
  module _ (s : NameSet) (v : ℕ) (taken : List ℕ) (steps : List Step) (begun held : NameSet) (j : ℕ) (are : AreSteps e s v taken steps)
      (is_begun : begun ≡ with_names v taken) (grown : IsGrown e s v begun held j) (names : AllBelow (difference held begun) NAMES) where
    abbrev more : List ℕ
    more = taken ++ ascending (difference held begun)

    abbrev next : Step
    next = record { from = length taken; to = length more; led = j }

    longer : length taken ≤ length more
    longer = let all : length more ≡ length taken + length (ascending (difference held begun)) = length-append taken (ascending (difference held begun)) in omega arith

    is_held : held ≡ with_names v more
    is_held = with_more v taken begun held is_begun (grown_within grown) names

    old_step : (t : Step) → IsStepOf e s v taken t → IsStepOf e s v more t
    old_step t is = record {
      rises = is.rises;
      known = let a : t.to ≤ length taken = is.known in let b : length taken ≤ length more = longer in omega arith;
      grown = along_two (λ a b. IsGrown e s v a b t.led) _ _ _ _
          (ap (with_names v) (take-append-le t.from taken (ascending (difference held begun)) (let a : t.to ≤ length taken = is.known in let b : t.from ≤ t.to = is.rises in omega arith)))
          (ap (with_names v) (take-append-le t.to taken (ascending (difference held begun)) is.known)) is.grown;
    }

    new_step : IsStepOf e s v more next
    new_step = record {
      rises = longer;
      known = (let same : length more ≡ length more = refl in omega arith);
      grown = along_two (λ a b. IsGrown e s v a b j) begun held _ _
          (ap (with_names v) (take-append_seam taken (ascending (difference held begun))) ∙ sym is_begun)
          (ap (with_names v) (take-length more) ∙ sym is_held) grown;
    }

    at_old : (k : ℕ) → k < length steps → step_at (steps ++ next ∷ []) k ≡ step_at steps k
    at_old k l = get_or-append steps (next ∷ []) no_step k l

    at_new : (k : ℕ) → k ≡ length steps → step_at (steps ++ next ∷ []) k ≡ next
    at_new k same = ap (step_at (steps ++ next ∷ [])) same ∙ get_or-append_seam steps next [] no_step

    size : length (steps ++ next ∷ []) ≡ suc (length steps)
    size = let all : length (steps ++ next ∷ []) ≡ length steps + 1 = length-append steps (next ∷ []) in omega arith

    which : (k : ℕ) → k < length (steps ++ next ∷ []) → (k < length steps) ⊎ (k ≡ length steps)
    which k l = elim (cases_lt k (length steps)) [ inl low ↦ inl low | inr high ↦ inr (let all : length (steps ++ next ∷ []) ≡ suc (length steps) = size in omega arith) ]

    steps_more : AreSteps e s v more (steps ++ next ∷ [])
    steps_more = record {
      each = λ k l. elim (which k l) [
        | inl low ↦ subst (IsStepOf e s v more) (sym (at_old k low)) (old_step (step_at steps k) (are.each k low))
        | inr last ↦ subst (IsStepOf e s v more) (sym (at_new k last)) new_step
      ];
      order = λ i k b l. elim (which k l) [
        | inl low ↦
            let low_i : i < length steps = omega arith in
            let p : (step_at steps i).to ≤ (step_at steps k).from = are.order i k b low in
            let q : (step_at (steps ++ next ∷ []) i).to ≡ (step_at steps i).to = ap (λ (t : Step). t.to) (at_old i low_i) in
            let r : (step_at (steps ++ next ∷ []) k).from ≡ (step_at steps k).from = ap (λ (t : Step). t.from) (at_old k low) in
            omega arith
        | inr last ↦
            let low_i : i < length steps = omega arith in
            let p : (step_at steps i).to ≤ length taken = (are.each i low_i).known in
            let q : (step_at (steps ++ next ∷ []) i).to ≡ (step_at steps i).to = ap (λ (t : Step). t.to) (at_old i low_i) in
            let r : (step_at (steps ++ next ∷ []) k).from ≡ length taken = ap (λ (t : Step). t.from) (at_new k last) in
            omega arith
      ];
      ends = sym (ap (taken_with (steps ++ next ∷ [])) size ∙ ap (λ (t : Step). t.to) (at_new (length steps) refl));
    }

  -- the step that a search put behind the others
  pub steps_pushed : (s : NameSet) (v : ℕ) (taken taken' : List ℕ) (steps steps' : List Step) (begun held : NameSet) (j : ℕ) → AreSteps e s v taken steps →
      begun ≡ with_names v taken → IsGrown e s v begun held j → AllBelow (difference held begun) NAMES → taken' ≡ taken ++ ascending (difference held begun) →
      steps' ≡ steps ++ record { from = length taken; to = length taken'; led = j } ∷ [] → AreSteps e s v taken' steps' × (held ≡ with_names v taken')
  steps_pushed s v taken taken' steps steps' begun held j are is_begun grown names is_taken is_steps = (
    subst (λ ts. AreSteps e s v ts steps') (sym is_taken)
        (subst (AreSteps e s v (taken ++ ascending (difference held begun)))
        (sym (is_steps ∙ ap (λ ts. steps ++ record { from = length taken; to = length ts; led = j } ∷ []) is_taken))
        (steps_more s v taken steps begun held j are is_begun grown names)),
    is_held s v taken steps begun held j are is_begun grown names ∙ ap (with_names v) (sym is_taken),
  )

  -- ---- what lies in a strong module

  grown_inside : (s y begun held : NameSet) (v j : ℕ) → IsModule e s y → Within held y → IsGrown e s v begun held j → IsGrown e y v begun held j
  grown_inside s y begun held v j is w grown = record {
    is_module = module_inside s y begun grown.is_module is.inside (λ x h. w x (grown_within grown x h));
    start = grown.start;
    new = grown.new;
    least = record {
      is_module = module_inside s y held grown.least.is_module is.inside w;
      holds = grown.least.holds;
      least = λ m module_is holds. grown.least.least m (module_of_module s y m is module_is) holds;
    };
  }

  -- a module that meets a strong one and isn't larger lies in it
  small_within : (s y held : NameSet) (v : ℕ) → IsStrong e s y → IsModule e s held → Has y v → Has held v → len held ≤ len y → Within held y
  small_within s y held v strong module_is hy hh few = elim (nested_if_meet y held v (strong.free held module_is) hy hh) [
    | inr w ↦ w
    | inl w ↦ elim (larger_or_same y held w) [
      | inr same ↦ Has-along held y (sym same)
      | inl rest ↦ absurd (let more : len y < len held = len_proper y held rest.0 w rest.1 rest.2 in omega arith)
    ]
  ]

  module _ (s y : NameSet) (v most : ℕ) (c front : Nested) (are : AreSteps e s v c.taken.items c.steps.items) (strong : IsStrong e s y) (hv : Has y v)
      (is : IsChainFront c most front) (size : most ≡ len y) where
    abbrev taken : List ℕ
    taken = c.taken.items

    abbrev steps : List Step
    steps = c.steps.items

    abbrev n : ℕ
    n = is.count

    abbrev end : ℕ
    end = taken_with steps n

    at_front : (k : ℕ) → k < n → step_at front.steps.items k ≡ step_at steps k
    at_front k l = ap (λ ts. step_at ts k) is.steps ∙ get_or-take n steps k no_step l

    front_size : length front.steps.items ≡ n
    front_size = ap (λ ts. length ts) is.steps ∙ length-take-le n steps is.known

    step_known : (k : ℕ) → k < n → IsStepOf e s v taken (step_at steps k)
    step_known k l = are.each k (let known : n ≤ length steps = is.known in omega arith)

    -- each step of the front ends with its names
    ended : (k : ℕ) → k < n → (step_at steps k).to ≤ end
    ended k l =
        let at_end : end ≡ (step_at steps (n - 1)).to = taken_before steps n (omega arith) in
        let known : n ≤ length steps = is.known in
        elim (same_name k (n - 1)) [
          | inl same ↦ (let t : (step_at steps k).to ≡ (step_at steps (n - 1)).to = ap (λ i. (step_at steps i).to) same in omega arith)
          | inr differ ↦
              let a : (step_at steps k).to ≤ (step_at steps (n - 1)).from = are.order k (n - 1) (omega arith) (omega arith) in
              let b : (step_at steps (n - 1)).from ≤ (step_at steps (n - 1)).to = (step_known (n - 1) (omega arith)).rises in
              omega arith
        ]

    end_known : end ≤ length taken
    end_known = elim (cases_lt 0 n) [
      | inl some ↦
          let at_end : end ≡ (step_at steps (n - 1)).to = taken_before steps n some in
          let k : (step_at steps (n - 1)).to ≤ length taken = (step_known (n - 1) (omega arith)).known in
          omega arith
      | inr none ↦ (let zero_n : n ≡ 0 = omega arith in let no_end : end ≡ 0 = ap (taken_with steps) zero_n in omega arith)
    ]

    front_taken : length front.taken.items ≡ end
    front_taken = ap (λ ts. length ts) is.taken ∙ length-take-le end taken end_known

    names_kept : (i : ℕ) → i ≤ end → with_names v (take i front.taken.items) ≡ with_names v (take i taken)
    names_kept i l = ap (with_names v) (ap (take i) is.taken ∙ take-take i end taken l)

    front_step : (k : ℕ) → k < n → IsStepOf e y v front.taken.items (step_at steps k)
    front_step k l =
        let t : Step = step_at steps k in
        let old : IsStepOf e s v taken t = step_known k l in
        let to_end : t.to ≤ end = ended k l in
        let rises : t.from ≤ t.to = old.rises in
        let short : end < most = is.inside (omega arith) in
        let few : len (with_names v (take t.to taken)) ≤ length (take t.to taken) + 1 = few_names v (take t.to taken) in
        let exact : length (take t.to taken) ≡ t.to = length-take-le t.to taken old.known in
        let small : len (with_names v (take t.to taken)) ≤ len y = omega arith in
        let w : Within (with_names v (take t.to taken)) y =
        small_within s y (with_names v (take t.to taken)) v strong old.grown.least.is_module hv (insert_new (from_list (take t.to taken)) v) small in
        record {
          rises = rises;
          known = (let all : length front.taken.items ≡ end = front_taken in omega arith);
          grown = along_two (λ a b. IsGrown e y v a b t.led) _ _ _ _ (names_kept t.from (omega arith)) (names_kept t.to to_end)
              (grown_inside s y _ _ v t.led strong.is_module w old.grown);
        }

    -- the steps within a strong module that holds v
    pub steps_inside : AreSteps e y v front.taken.items front.steps.items
    steps_inside = record {
      each = λ k l.
          let all : length front.steps.items ≡ n = front_size in
          let low : k < n = omega arith in
          subst (IsStepOf e y v front.taken.items) (sym (at_front k low)) (front_step k low);
      order = λ i k b l.
          let all : length front.steps.items ≡ n = front_size in
          let known : n ≤ length steps = is.known in
          let p : (step_at steps i).to ≤ (step_at steps k).from = are.order i k b (omega arith) in
          let q : (step_at front.steps.items i).to ≡ (step_at steps i).to = ap (λ (t : Step). t.to) (at_front i (omega arith)) in
          let r : (step_at front.steps.items k).from ≡ (step_at steps k).from = ap (λ (t : Step). t.from) (at_front k (omega arith)) in
          omega arith;
      ends = front_taken ∙ sym (ap (taken_with front.steps.items) front_size ∙ same_end n refl);
    } where
      same_end : (m : ℕ) → m ≡ n → taken_with front.steps.items m ≡ taken_with steps m
      same_end zero same = refl
      same_end (suc k) same = ap (λ (t : Step). t.to) (at_front k (omega arith))

  -- ---- at a prime set

  module _ (adj : IsAdjacency e) (s : NameSet) (v : ℕ) (prime : IsPrime e s) (hv : Has s v) where
    names_within : (taken : List ℕ) (j : ℕ) → IsHeld e s v j (with_names v taken) → (x : ℕ) → Contains taken x → Has s x
    names_within taken j is x known = is.is_module.inside x (insert_old (from_list taken) v x (to_set taken x (of_contains taken x known)))

    -- the last module, and the name that led to it
    pub steps_held : (taken : List ℕ) (steps : List Step) (last : ℕ) → AreSteps e s v taken steps → (length steps ≡ 0 → last ≡ v) →
        (0 < length steps → last ≡ (step_at steps (length steps - 1)).led) → IsHeld e s v last (with_names v taken)
    steps_held [] [] last are none some = subst (λ j. IsHeld e s v j (insert empty v)) (sym (none refl)) (held_begins s (insert empty v) v (prime_unsplit s prime) hv refl)
    steps_held (x ∷ taken) [] last are none some = absurd (let b : suc (length taken) ≡ 0 = are.ends in omega arith)
    steps_held taken (t ∷ ts) last are none some =
        let k : ℕ = length ts in
        let t_last : Step = step_at (t ∷ ts) k in
        let is : IsStepOf e s v taken t_last = are.each k (let b : k < suc k = omega arith in b) in
        let whole : take t_last.to taken ≡ taken = ap (λ i. take i taken) (sym are.ends) ∙ take-length taken in
        let led : last ≡ t_last.led =
        some (let b : 0 < suc k = omega arith in b) ∙ (let same : suc k - 1 ≡ k = omega arith in ap (λ i. (step_at (t ∷ ts) i).led) same) in
        subst (λ j. IsHeld e s v j (with_names v taken)) (sym led)
        (subst (λ xs. IsHeld e s v t_last.led (with_names v xs)) whole
        (held_grown (undirected adj) decide_test s (with_names v (take t_last.from taken)) (with_names v (take t_last.to taken)) v t_last.led (prime_unsplit s prime) is.grown.is_module is.grown.start
        (is.grown.least.is_module.inside t_last.led (is.grown.least.holds t_last.led (insert_new (with_names v (take t_last.from taken)) t_last.led)))
        is.grown.new is.grown.least))

    -- all names taken are in the set
    pub steps_within : (taken : List ℕ) (steps : List Step) → AreSteps e s v taken steps → (x : ℕ) → Contains taken x → Has s x
    steps_within taken [] are x known = names_within taken v (steps_held taken [] v are (λ _. refl) (λ b. absurd (let c : 0 < 0 = b in omega arith))) x known
    steps_within taken (t ∷ ts) are x known =
        names_within taken _ (steps_held taken (t ∷ ts) (step_at (t ∷ ts) (length (t ∷ ts) - 1)).led are (λ b. absurd (let c : suc (length ts) ≡ 0 = b in omega arith)) (λ _. refl)) x known

    -- ---- a turn of the search

    module _ (begun copy held : NameSet) (last j : ℕ) (is : IsHeld e s v last begun) (least : IsLeastFrom (intersection s (symmetric_difference begun s)) 0 j) (copied : copy ≡ begun)
        (over : IsLeastModuleOver e s (insert copy j) held) where
      out : Has s j × Lacks begun j
      out = told_out s begun j least

      over_begun : IsLeastModuleOver e s (insert begun j) held
      over_begun = subst (λ b. IsLeastModuleOver e s (insert b j) held) copied over

      pub turn_held : IsHeld e s v j held
      turn_held = held_grown (undirected adj) decide_test s begun held v j (prime_unsplit s prime) is.is_module is.start out.0 out.1 over_begun

      pub turn_grown : IsGrown e s v begun held j
      turn_grown = record { is_module = is.is_module; start = is.start; new = out.1; least = over_begun }

      pub turn_falls : len (difference s held) < len (difference s begun)
      turn_falls = held_falls s begun held (intersection s (symmetric_difference begun s)) j (rest_told s begun) least.member over_begun

      pub turn_whole : held ≡ s → (v ≢ j) × IsLeastModule e s v j s
      turn_whole same = turn_held.whole (Has-along s held (sym same))

      pub turn_names : (n : ℕ) → AllBelow s n → AllBelow (difference held begun) n
      turn_names n names x h = names x (over_begun.is_module.inside x (of_minus held begun x h).0)

    pub search_ends : (begun : NameSet) (last : ℕ) → IsHeld e s v last begun → NoneFrom (intersection s (symmetric_difference begun s)) 0 → (v ≢ last) × IsLeastModule e s v last s
    search_ends begun last is none = held_ends s begun (intersection s (symmetric_difference begun s)) v last (rest_told s begun) none is

-- there is one least name
pub chain_of : {e : ℕ → ℕ → Bool} (s : NameSet) (v : ℕ) (chain : Nested) → IsLeastFrom s 0 v → AreSteps e s v chain.taken.items chain.steps.items → IsChainOf e s chain
chain_of {e} s v chain least are w other =
    let a : v ≤ w = least.first w other.member (omega arith) in
    let b : w ≤ v = other.first v least.member (omega arith) in
    let same : v ≡ w = omega arith in
    subst (λ u. AreSteps e s u chain.taken.items chain.steps.items) same are
