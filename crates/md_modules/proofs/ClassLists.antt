-- Lists of classes: the class at a place, a class cut in two, and the work that is left from a place on.
use Rattle.std.proofs.Common.{◌≡◌, ℕ, zero, suc, ◌+◌, ◌-◌, ◌*◌, ◌<◌, ◌≤◌, ◌≢◌, ◌⊎◌, List, [], ◌∷◌, ◌++◌, length, set, refl, sym, ◌∙◌, ap, subst, inl, inr, arith}
use Rattle.std.proofs.lemmas.Bool.{cases_lt, false_from_ne_true}
use Rattle.std.proofs.lemmas.List.{get_or_past, get_or_push, get_or_append_left, get_or-set_same, get_or-set_other, length-set, length_push}
use Rattle.std.specs.FinSet.{empty, len, intersection, difference}
use Rattle.md_graph.specs.Sets.{NameSet, Has, Lacks, HasSome}
use Rattle.md_graph.proofs.SetLemmas.{clash, same_name, empty_lacks, Has-along, meet_has, of_meet, minus_has, of_minus, same_members}
use Rattle.md_graph.proofs.Search.{some_len, len_minus}
use Rattle.md_modules.specs.Classes.{class_at, AreFiner}

-- a place with a member is one of the list
pub at_known : (cs : List NameSet) (k x : ℕ) → Has (class_at cs k) x → k < length cs
at_known cs k x h = elim (cases_lt k (length cs)) [
  | inl l ↦ l
  | inr past ↦ clash (Has-along (class_at cs k) empty (get_or_past cs k empty past) x h) (empty_lacks x)
]

-- a list of one set
pub at_one : (b : NameSet) (k x : ℕ) → Has (class_at (b ∷ []) k) x → (k ≡ 0) × Has b x
at_one b zero x h = (refl, h)
at_one b (suc k) x h = clash h (empty_lacks x)

pub in_one : (b : NameSet) (k : ℕ) → k < length (b ∷ []) → class_at (b ∷ []) k ≡ b
in_one b zero l = refl
in_one b (suc k) l = absurd (let c : suc k < 1 = l in omega arith)

-- the list is cs but that c stands at i, and d behind the others
pub record IsCutAt (cs new : List NameSet) (i : ℕ) (c d : NameSet) : Type 0 where
  pub size : length new ≡ length cs + 1
  pub here : class_at new i ≡ c
  pub last : class_at new (length cs) ≡ d
  pub others : (k : ℕ) → k ≢ i → k ≢ length cs → class_at new k ≡ class_at cs k

module _ (cs new : List NameSet) (i : ℕ) (c d : NameSet) where
  others_at : (k : ℕ) → k ≢ i → k ≢ length cs → class_at (set cs i c ++ d ∷ []) k ≡ class_at cs k
  others_at k differ not_last = elim (cases_lt k (length cs)) [
    | inl l ↦
        let size : length (set cs i c) ≡ length cs = length-set cs i c in
        get_or_append_left (set cs i c) (d ∷ []) empty k (omega arith) ∙ get_or-set_other cs i k c empty differ
    | inr past ↦
        let size : length (set cs i c) ≡ length cs = length-set cs i c in
        let more : length (set cs i c ++ d ∷ []) ≡ length (set cs i c) + 1 = length_push (set cs i c) d in
        get_or_past (set cs i c ++ d ∷ []) k empty (omega arith) ∙ sym (get_or_past cs k empty past)
  ]

  pub cut_at : i < length cs → new ≡ set cs i c ++ d ∷ [] → IsCutAt cs new i c d
  cut_at l is = subst (λ t. IsCutAt cs t i c d) (sym is) (record {
    size = length_push (set cs i c) d ∙ ap (λ n. n + 1) (length-set cs i c);
    here =
        let size : length (set cs i c) ≡ length cs = length-set cs i c in
        get_or_append_left (set cs i c) (d ∷ []) empty i (omega arith) ∙ get_or-set_same cs i c empty l;
    last = get_or_push (set cs i c) d empty (length cs) (length-set cs i c);
    others = others_at;
  })

  -- a member of a class is one of c, of d, or of another class that stays
  pub place_of : IsCutAt cs new i c d → (k x : ℕ) → Has (class_at new k) x → ((k ≡ i) × Has c x) ⊎ ((k ≡ length cs) × Has d x) ⊎ ((k ≢ i) × (k ≢ length cs) × Has (class_at cs k) x)
  place_of is k x h = elim (same_name k i) [
    | inl same ↦ inl (same, Has-along (class_at new i) c is.here x (subst (λ n. Has (class_at new n) x) same h))
    | inr differ ↦ elim (same_name k (length cs)) [
      | inl same ↦ inr (inl (same, Has-along (class_at new (length cs)) d is.last x (subst (λ n. Has (class_at new n) x) same h)))
      | inr not_last ↦ inr (inr (differ, not_last, Has-along (class_at new k) (class_at cs k) (is.others k differ not_last) x h))
    ]
  ]

-- a cut set and the rest of it lie in the old set
pub finer_cut : (old cs new : List NameSet) (i : ℕ) (row : NameSet) → IsCutAt cs new i (intersection (class_at cs i) row) (difference (class_at cs i) row) → AreFiner old cs → AreFiner old new
finer_cut old cs new i row is finer k = elim (same_name k i) [
  | inl same ↦ (
    (finer i).0,
    λ x h. (finer i).1 x (of_meet (class_at cs i) row x (Has-along (class_at new i) _ is.here x (subst (λ n. Has (class_at new n) x) same h))).0,
  )
  | inr differ ↦ elim (same_name k (length cs)) [
    | inl same ↦ (
      (finer i).0,
      λ x h. (finer i).1 x (of_minus (class_at cs i) row x (Has-along (class_at new (length cs)) _ is.last x (subst (λ n. Has (class_at new n) x) same h))).0,
    )
    | inr not_last ↦ ((finer k).0, λ x h. (finer k).1 x (Has-along (class_at new k) (class_at cs k) (is.others k differ not_last) x h))
  ]
]

-- ---- the work that is left

cost : NameSet → ℕ
cost c = 2 * len c - 1

-- twice the number of names, less the number of classes, from a place on
pub work : List NameSet → ℕ → ℕ
work [] i = 0
work (c ∷ cs) zero = cost c + work cs zero
work (c ∷ cs) (suc i) = work cs i

work_next : (cs : List NameSet) (i : ℕ) → i < length cs → work cs i ≡ cost (class_at cs i) + work cs (suc i)
unfolding work
work_next [] i l = absurd (let b : i < 0 = l in omega arith)
work_next (c ∷ []) zero l = refl
work_next (c ∷ d ∷ cs) zero l = refl
work_next (c ∷ cs) (suc i) l = work_next cs i (let b : suc i < suc (length cs) = l in omega arith)

work_push : (cs : List NameSet) (d : NameSet) → work (cs ++ d ∷ []) 0 ≡ work cs 0 + cost d
unfolding work
work_push [] d = let none : cost d + 0 ≡ cost d = omega arith in none ∙ sym (omega arith)
work_push (c ∷ cs) d = let r : work (cs ++ d ∷ []) 0 ≡ work cs 0 + cost d = work_push cs d in omega arith

work_cut : (cs : List NameSet) (i : ℕ) (c d : NameSet) → i < length cs → work (set cs i c ++ d ∷ []) i ≡ cost c + work cs (suc i) + cost d
unfolding work
work_cut [] i c d l = absurd (let b : i < 0 = l in omega arith)
work_cut (x ∷ cs) zero c d l = let r : work (cs ++ d ∷ []) 0 ≡ work cs 0 + cost d = work_push cs d in omega arith
work_cut (x ∷ cs) (suc i) c d l = work_cut cs i c d (let b : suc i < suc (length cs) = l in omega arith)

pub work_passes : (cs : List NameSet) (i : ℕ) → i < length cs → HasSome (class_at cs i) → work cs (i + 1) < work cs i
unfolding cost
work_passes cs i l some =
    let some_in : 1 ≤ len (class_at cs i) = some_len (class_at cs i) some.0 some.1 in
    let next : work cs i ≡ cost (class_at cs i) + work cs (suc i) = work_next cs i l in
    let same : work cs (i + 1) ≡ work cs (suc i) = ap (work cs) (omega arith) in
    omega arith

work_more : (cs : List NameSet) (i : ℕ) → work cs (suc i) ≤ work cs i
unfolding work
work_more [] i = omega arith
work_more (c ∷ cs) zero = omega arith
work_more (c ∷ cs) (suc i) = work_more cs i

work_on : (cs : List NameSet) (i d : ℕ) → work cs (d + i) ≤ work cs i
work_on cs i zero = let same : work cs (0 + i) ≡ work cs i = ap (work cs) (omega arith) in omega arith
work_on cs i (suc d) = let one = work_more cs (d + i) in let more = work_on cs i d in let same : work cs (suc d + i) ≡ work cs (suc (d + i)) = ap (work cs) (omega arith) in omega arith

pub work_skips : (cs : List NameSet) (i j : ℕ) → i ≤ j → work cs j ≤ work cs i
work_skips cs i j up =
    let on = work_on cs i (j - i) in
    let same : work cs ((j - i) + i) ≡ work cs j = ap (work cs) (omega arith) in
    omega arith

pub work_falls : (cs new : List NameSet) (i : ℕ) (row : NameSet) → i < length cs → HasSome (intersection (class_at cs i) row) → HasSome (difference (class_at cs i) row) →
    new ≡ set cs i (intersection (class_at cs i) row) ++ difference (class_at cs i) row ∷ [] → work new i < work cs i
unfolding cost
work_falls cs new i row l in_some out_some is =
    let c : NameSet = class_at cs i in
    let some_in : 1 ≤ len (intersection c row) = some_len (intersection c row) in_some.0 in_some.1 in
    let some_out : 1 ≤ len (difference c row) = some_len (difference c row) out_some.0 out_some.1 in
    let rest : difference c row ≡ difference c (intersection c row) =
    same_members _ _
    (λ x h. minus_has c (intersection c row) x (of_minus c row x h).0 (false_at c x (of_minus c row x h).1))
    (λ x h. minus_has c row x (of_minus c (intersection c row) x h).0 (false_in c x (of_minus c (intersection c row) x h)))
    in
    let both : len (difference c (intersection c row)) + len (intersection c row) ≤ len c = len_minus c (intersection c row) (λ x h. (of_meet c row x h).0) in
    let parts : len (difference c row) ≡ len (difference c (intersection c row)) = ap len rest in
    let next : work cs i ≡ cost c + work cs (suc i) = work_next cs i l in
    let after : work new i ≡ cost (intersection c row) + work cs (suc i) + cost (difference c row) = ap (λ t. work t i) is ∙ work_cut cs i (intersection c row) (difference c row) l in
    omega arith
  where
    false_at : (c : NameSet) (x : ℕ) → Lacks row x → Lacks (intersection c row) x
    false_at c x out = false_from_ne_true _ (λ h. clash (of_meet c row x h).1 out)

    false_in : (c : NameSet) (x : ℕ) → Has c x × Lacks (intersection c row) x → Lacks row x
    false_in c x two = false_from_ne_true _ (λ h. clash (meet_has c row x two.0 h) two.1)
