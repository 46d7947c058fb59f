-- A set whose names are ranked by their balance, cut wherever the first names have balances that sum to the number of pairs across.
use Rattle.std.proofs.Common.{◌≡◌, ◌≢◌, ℕ, ◌+◌, ◌-◌, ◌*◌, ◌<◌, ◌≤◌, ◌⊎◌, Bool, List, [], ◌∷◌, ◌++◌, length, length-append, map, Contains, refl, sym, ◌∙◌, ap, subst, inl, inr, arith}
use Rattle.std.specs.FinSet.{contains, empty, insert, union, intersection, difference, len, len-empty, remove}
use Rattle.std.specs.Ordering.{nat_cmp}
use Rattle.std.specs.List.{sum_by}
use Rattle.std.proofs.lemmas.Bool.{cases_Bool, true_from_ne_false, false_from_ne_true}
use Rattle.std.proofs.lemmas.List.{map-append, length-map, length_push, nil_from_length}
use Rattle.std.proofs.lemmas.List.Sums.{sum_by_push}
use Rattle.md_graph.specs.Sets.{NameSet, Has, Lacks, Within, HasSome}
use Rattle.md_graph.proofs.SetLemmas.{clash, same_name, empty_lacks, insert_new, insert_old, of_insert, remove_left, of_remove, union_left, union_right, of_union, of_union_lacks, union_lacks, meet_has, of_meet, minus_has, of_minus, Has-along, same_members}
use Rattle.md_graph.proofs.Search.{decide_has_some, len_fewer, len_within}
use Rattle.md_modules.specs.Kinds.{IsSplit}
use Rattle.md_modules.specs.Components.{IsClosed}
use Rattle.md_modules.proofs.Splits.{split_closed, closed_split, closed_whole, closed_rest}
use Rattle.md_digraph.specs.declared.TheConstants.{DIRECTED_NAMES}
use Rattle.md_digraph.specs.ArcColours.{ArcColour, between}
use Rattle.md_digraph.proofs.ArcTurns.{arcs_turn}
use Rattle.md_text.proofs.Lists.{In, Later, of_contains, to_contains, in_left, in_right, of_append, of_pairs, to_pairs, later_append, later_right, later_across}
use Rattle.md_tree.proofs.Loops.{union_none}
use Rattle.md_dtree.specs.DirectedTrees.{arc_forth, AllArcsTo}
use Rattle.md_dtree.specs.Balance.{arcs_from, arcs_to, ListsMembers}
use Rattle.md_dtree.proofs.BalanceLaws.{splits_proof, balance_proof}
use Rattle.md_ddecompose.specs.declared.order_parts.Ranked.{Ranked}
use Rattle.md_ddecompose.specs.Ranks.{HasItsLag, name_of, AreRanked, IsUncutSegment, AreUncutSegments}
use Rattle.md_ddecompose.proofs.RankLemmas.{few_lags}

abbrev Differ : ℕ → ℕ → Type 0
Differ x y = x ≢ y

abbrev Rises : Ranked → Ranked → Type 0
Rises a b = a.lag ≤ b.lag

-- ---- the names of a list

length_of : (xs : List ℕ) (s : NameSet) → Later Differ xs → ((x : ℕ) → In xs x → Has s x) → ((x : ℕ) → Has s x → In xs x) → length xs ≡ len s
length_of [] s once to of =
    let few : len s ≤ len (empty {R = nat_cmp}) = len_within s empty (λ x h. absurd (of x h)) in
    let none : len (empty {R = nat_cmp}) ≡ 0 = len-empty nat_cmp in
    omega arith
length_of (x ∷ xs) s once to of =
    let rest : length xs ≡ len (remove s x) =
    length_of xs (remove s x) once.1
    (λ y i. remove_left s x y (λ same. once.0 y i (sym same)) (to y (inr i)))
    (λ y h. let k = of_remove s x y h in elim (of y k.1) [ inl same ↦ absurd (k.0 same) | inr i ↦ i ])
    in
    let one : len (remove s x) + 1 ≡ len s = len_fewer s x (to x (inl refl)) in
    omega arith

pub length_listed : (xs : List ℕ) (s : NameSet) → ListsMembers s xs → length xs ≡ len s
length_listed xs s is = length_of xs s (of_pairs Differ xs is.once) (λ x i. (is.exactly x).0 (to_contains xs x i)) (λ x h. of_contains xs x ((is.exactly x).1 h))

in_names : (rs : List Ranked) (r : Ranked) → In rs r → In (map name_of rs) r.name
in_names [] r i = absurd i
in_names (q ∷ rs) r (inl same) = inl (ap name_of same)
in_names (q ∷ rs) r (inr i) = inr (in_names rs r i)

of_names : (rs : List Ranked) (x : ℕ) → In (map name_of rs) x → (r : Ranked) × In rs r × (x ≡ r.name)
of_names [] x i = absurd i
of_names (q ∷ rs) x (inl same) = (q, inl refl, same)
of_names (q ∷ rs) x (inr i) = let r : (r : Ranked) × In rs r × (x ≡ r.name) = of_names rs x i in (r.0, inr r.1, r.2)

-- ---- how far a set is cut

-- the names done are those before the last cut, which the parts cover, and those of part, which are cut nowhere
pub record IsCutUpTo (arc : ℕ → ℕ → Bool) (s : NameSet) (done : List ℕ) (part : NameSet) (parts : List NameSet) : Type 0 where
  pub before : NameSet
  pub lists : ListsMembers (union before part) done
  pub inside : Within (union before part) s
  pub apart : (x : ℕ) → Has part x → Lacks before x
  pub closed : IsClosed (between arc) s before arc_forth
  pub whole : (x : NameSet) → IsClosed (between arc) s x arc_forth → Within x before ⊎ Within (union before part) x
  pub uncut : HasSome part → IsClosed (between arc) s (union before part) arc_forth → ⊥
  pub each : (c : NameSet) → In parts c → IsUncutSegment arc s c × Within c before
  pub cover : (x : ℕ) → Has before x → (c : NameSet) × In parts c × Has c x
  pub order : Later (AllArcsTo arc) parts

nothing : (x : ℕ) → Has (union empty empty) x → ⊥
nothing x h = elim (of_union empty empty x h) [ inl i ↦ clash i (empty_lacks x) | inr i ↦ clash i (empty_lacks x) ]

module _ (arc : ℕ → ℕ → Bool) (s : NameSet) where
  abbrev e : ℕ → ℕ → ArcColour
  e = between arc

  none_cut : IsCutUpTo arc s [] empty []
  none_cut = record {
    before = empty;
    lists = record { once = to_pairs Differ [] tt; exactly = λ x. (λ c. absurd (of_contains [] x c), λ h. absurd (nothing x h)) };
    inside = λ x h. absurd (nothing x h);
    apart = λ x h. clash h (empty_lacks x);
    closed = record { inside = λ x h. clash h (empty_lacks x); across = λ a b h. clash h (empty_lacks a) };
    whole = λ x closed. inr (λ y h. absurd (nothing y h));
    uncut = λ some. clash some.1 (empty_lacks some.0);
    each = λ c i. absurd i;
    cover = λ x h. clash h (empty_lacks x);
    order = tt;
  }

  pub cut_begins : (part : NameSet) (parts : List NameSet) → part ≡ empty → parts ≡ [] → IsCutUpTo arc s [] part parts
  cut_begins part parts is_part is_parts = subst (λ p. IsCutUpTo arc s [] p parts) (sym is_part) (subst (IsCutUpTo arc s [] empty) (sym is_parts) none_cut)

  module _ (done : List ℕ) (part : NameSet) (parts : List NameSet) (w : ℕ) (is : IsCutUpTo arc s done part parts) (hw : Has s w) (new : Lacks (union is.before part) w)
      (low : (y : ℕ) → Has s y → Lacks (union is.before part) y → arcs_from arc s y + arcs_to arc s w ≤ arcs_from arc s w + arcs_to arc s y) where
    abbrev before : NameSet
    before = is.before

    abbrev front : NameSet
    front = union before part

    -- with the next name
    abbrev more : NameSet
    more = insert part w

    abbrev pub next_front : NameSet
    next_front = union before more

    of_next : (y : ℕ) → Has next_front y → (y ≡ w) ⊎ Has front y
    of_next y h = elim (of_union before more y h) [
      | inl b ↦ inr (union_left before part y b)
      | inr p ↦ elim (of_insert part w y p) [ inl same ↦ inl same | inr old ↦ inr (union_right before part y old) ]
    ]

    to_next : Within front next_front
    to_next y h = elim (of_union before part y h) [ inl b ↦ union_left before more y b | inr p ↦ union_right before more y (insert_old part w y p) ]

    next_has : Has next_front w
    next_has = union_right before more w (insert_new part w)

    pub next_inside : Within next_front s
    next_inside y h = elim (of_next y h) [ inl same ↦ subst (Has s) (sym same) hw | inr f ↦ is.inside y f ]

    next_apart : (y : ℕ) → Has more y → Lacks before y
    next_apart y h = elim (of_insert part w y h) [
      | inl same ↦ subst (Lacks before) (sym same) (of_union_lacks before part w new).0
      | inr old ↦ is.apart y old
    ]

    pub next_lists : ListsMembers next_front (done ++ w ∷ [])
    next_lists = record {
      once = to_pairs Differ (done ++ w ∷ []) (later_append Differ done (w ∷ []) (of_pairs Differ done is.lists.once) ((λ y i. absurd i), tt)
          (λ x y i j same. elim j [
            | inl last ↦ clash (subst (Has front) (same ∙ last) ((is.lists.exactly x).0 (to_contains done x i))) new
            | inr none ↦ absurd none
          ]));
      exactly = λ x. (
        λ c. elim (of_append done (w ∷ []) x (of_contains (done ++ w ∷ []) x c)) [
          | inl i ↦ to_next x ((is.lists.exactly x).0 (to_contains done x i))
          | inr j ↦ elim j [ inl same ↦ subst (Has next_front) (sym same) next_has | inr none ↦ absurd none ]
        ],
        λ h. to_contains (done ++ w ∷ []) x (elim (of_next x h) [
          | inl same ↦ in_right done (w ∷ []) x (inl same)
          | inr f ↦ in_left done (w ∷ []) x (of_contains done x ((is.lists.exactly x).1 f))
        ]),
      );
    }

    -- a closed part that holds the names done and lacks the next one has no others
    no_others : (x : NameSet) → IsClosed e s x arc_forth → Lacks x w → Within x front
    no_others x closed out y hy = true_from_ne_false _ (λ l.
        let split : IsSplit e s x arc_forth = closed_split s x arc_forth closed (y, hy) (w, hw, out) in
        let a : arcs_from arc s w + arcs_to arc s y < arcs_from arc s y + arcs_to arc s w = splits_proof arc s x split y w hy hw out in
        let b : arcs_from arc s y + arcs_to arc s w ≤ arcs_from arc s w + arcs_to arc s y = low y (closed.inside y hy) l in
        omega arith)

    next_whole : (x : NameSet) → IsClosed e s x arc_forth → Within x before ⊎ Within next_front x
    next_whole x closed = elim (is.whole x closed) [
      | inl less ↦ inl less
      | inr holds ↦ elim (cases_Bool (contains x w)) [
        | inl t ↦ inr (λ y h. elim (of_next y h) [ inl same ↦ subst (Has x) (sym same) t | inr f ↦ holds y f ])
        | inr f ↦
            let same : x ≡ front = same_members x front (no_others x closed f) holds in
            elim (decide_has_some part) [
              | inl some ↦ absurd (is.uncut some (subst (λ t. IsClosed e s t arc_forth) same closed))
              | inr none ↦ inl (λ y h. elim (of_union before part y (Has-along x front same y h)) [ inl b ↦ b | inr p ↦ absurd (none (y, p)) ])
            ]
      ]
    ]

    pub cut_goes_on : (part' : NameSet) → part' ≡ more → (IsClosed e s next_front arc_forth → ⊥) → IsCutUpTo arc s (done ++ w ∷ []) part' parts
    cut_goes_on part' is_part not_closed = subst (λ p. IsCutUpTo arc s (done ++ w ∷ []) p parts) (sym is_part) (record {
      before = before;
      lists = next_lists;
      inside = next_inside;
      apart = next_apart;
      closed = is.closed;
      whole = next_whole;
      uncut = λ some. not_closed;
      each = is.each;
      cover = is.cover;
      order = is.order;
    })

    module _ (closed : IsClosed e s next_front arc_forth) where
      -- a split of the new part is a cut among the names done
      module _ (a : NameSet) (split : IsSplit e more a arc_forth) where
        with_split : IsClosed e s (union before a) arc_forth
        with_split = record {
          inside = λ y h. elim (of_union before a y h) [ inl b ↦ is.closed.inside y b | inr i ↦ next_inside y (union_right before more y (split.inside y i)) ];
          across = λ p q hp hq l.
              let out : Lacks before q × Lacks a q = of_union_lacks before a q l in
              elim (of_union before a p hp) [
                | inl b ↦ is.closed.across p q b hq out.0
                | inr i ↦ elim (cases_Bool (contains more q)) [
                  | inl t ↦ split.across p q i t out.1
                  | inr f ↦ closed.across p q (union_right before more p (split.inside p i)) hq (union_lacks before more q out.0 f)
                ]
              ];
        }

        no_split : ⊥
        no_split = elim (is.whole (union before a) with_split) [
          | inl less ↦ clash (less split.some.0 (union_right before a split.some.0 split.some.1)) (next_apart split.some.0 (split.inside split.some.0 split.some.1))
          | inr holds ↦
              let part_in : Within part a = λ y h. elim (of_union before a y (holds y (union_right before part y h))) [ inl b ↦ clash b (is.apart y h) | inr i ↦ i ] in
              let z : ℕ = split.rest.0 in
              let is_w : z ≡ w = elim (of_insert part w z split.rest.1) [ inl same ↦ same | inr old ↦ clash (part_in z old) split.rest.2 ] in
              let in_part : Within a part = λ y h. elim (of_insert part w y (split.inside y h)) [
                | inl same ↦ clash (subst (Has a) (same ∙ sym is_w) h) split.rest.2
                | inr old ↦ old
              ] in
              let same : union before a ≡ front =
              same_members (union before a) front
              (λ y h. elim (of_union before a y h) [ inl b ↦ union_left before part y b | inr i ↦ union_right before part y (in_part y i) ]) holds
              in
              is.uncut (split.some.0, in_part split.some.0 split.some.1) (subst (λ t. IsClosed e s t arc_forth) same with_split)
        ]

      new_part : IsUncutSegment arc s more
      new_part = record {
        some = (w, insert_new part w);
        segment = record {
          first = next_front;
          last = difference s before;
          initial = closed;
          final = closed_rest (arcs_turn arc) s before arc_forth is.closed;
          is = same_members more (intersection next_front (difference s before))
              (λ y h.
              let f : Has next_front y = union_right before more y h in
              meet_has next_front (difference s before) y f (minus_has s before y (next_inside y f) (next_apart y h)))
              (λ y h.
              let two : Has next_front y × Has (difference s before) y = of_meet next_front (difference s before) y h in
              elim (of_union before more y two.0) [ inl b ↦ clash b (of_minus s before y two.1).1 | inr p ↦ p ]);
        };
        uncut = λ split. no_split split.0 split.1;
      }

      cut_more : IsCutUpTo arc s (done ++ w ∷ []) empty (parts ++ more ∷ [])
      cut_more = record {
        before = next_front;
        lists = subst (λ t. ListsMembers t (done ++ w ∷ [])) (sym (union_none next_front)) next_lists;
        inside = λ y h. next_inside y (Has-along _ _ (union_none next_front) y h);
        apart = λ x h. clash h (empty_lacks x);
        closed = closed;
        whole = λ x x_closed. elim (next_whole x x_closed) [
          | inl less ↦ inl (λ y h. union_left before more y (less y h))
          | inr holds ↦ inr (λ y h. holds y (Has-along _ _ (union_none next_front) y h))
        ];
        uncut = λ some. clash some.1 (empty_lacks some.0);
        each = λ c i. elim (of_append parts (more ∷ []) c i) [
          | inl old ↦ let k : IsUncutSegment arc s c × Within c before = is.each c old in (k.0, λ y h. union_left before more y (k.1 y h))
          | inr j ↦ elim j [
            | inl same ↦ subst (λ d. IsUncutSegment arc s d × Within d next_front) (sym same) (new_part, λ y h. union_right before more y h)
            | inr none ↦ absurd none
          ]
        ];
        cover = λ x h. elim (of_union before more x h) [
          | inl b ↦ let k : (c : NameSet) × In parts c × Has c x = is.cover x b in (k.0, in_left parts (more ∷ []) k.0 k.1, k.2)
          | inr p ↦ (more, in_right parts (more ∷ []) more (inl refl), p)
        ];
        order = later_append (AllArcsTo arc) parts (more ∷ []) is.order ((λ y i. absurd i), tt)
            (λ c d i j a b ha hb. elim j [
              | inl same ↦
                  let in_more : Has more b = Has-along d more same b hb in
                  is.closed.across a b ((is.each c i).1 a ha) (next_inside b (union_right before more b in_more)) (next_apart b in_more)
              | inr none ↦ absurd none
            ]);
      }

      pub cut_here : (none : NameSet) (parts' : List NameSet) → none ≡ empty → parts' ≡ parts ++ more ∷ [] → IsCutUpTo arc s (done ++ w ∷ []) none parts'
      cut_here none parts' is_none is_parts = subst (λ p. IsCutUpTo arc s (done ++ w ∷ []) p parts') (sym is_none) (subst (IsCutUpTo arc s (done ++ w ∷ []) empty) (sym is_parts) cut_more)

    -- the sums tell whether the names done and the next one are a first part
    module _ (other : (x : ℕ) × Has s x × Lacks next_front x) (lags first count : ℕ)
        (sums : lags + sum_by (arcs_from arc s) (done ++ w ∷ []) ≡ sum_by (arcs_to arc s) (done ++ w ∷ []) + first * DIRECTED_NAMES)
        (counted : first ≡ length (done ++ w ∷ [])) (left : len (difference s next_front) ≡ count - first) where
      abbrev Agree : Type 0
      Agree = sum_by (arcs_from arc s) (done ++ w ∷ []) ≡ sum_by (arcs_to arc s) (done ++ w ∷ []) + length (done ++ w ∷ []) * len (difference s next_front)

      across : length (done ++ w ∷ []) * len (difference s next_front) ≡ first * (count - first)
      across = ap (λ n. n * len (difference s next_front)) (sym counted) ∙ ap (λ n. first * n) left

      pub agree_closed : lags + first * (count - first) ≡ first * DIRECTED_NAMES → IsClosed e s next_front arc_forth
      agree_closed test =
          let agree : Agree = from_test _ _ _ _ _ _ sums test across in
          split_closed s next_front arc_forth ((balance_proof arc s next_front (done ++ w ∷ []) next_lists (w, next_has) next_inside other).1 agree)
        where
          from_test : (l f t p q x : ℕ) → l + f ≡ t + q → l + p ≡ q → x ≡ p → f ≡ t + x
          from_test l f t p q x a b c = omega arith

      pub closed_agrees : IsClosed e s next_front arc_forth → lags + first * (count - first) ≡ first * DIRECTED_NAMES
      closed_agrees closed =
          let agree : Agree = (balance_proof arc s next_front (done ++ w ∷ []) next_lists (w, next_has) next_inside other).0 (closed_split s next_front arc_forth closed (w, next_has) other) in
          to_test _ _ _ _ _ _ sums agree across
        where
          to_test : (l f t p q x : ℕ) → l + f ≡ t + q → f ≡ t + x → x ≡ p → l + p ≡ q
          to_test l f t p q x a b c = omega arith

    pub whole_closed : ((x : ℕ) → Has s x → Has next_front x) → IsClosed e s next_front arc_forth
    whole_closed all = subst (λ t. IsClosed e s t arc_forth) (same_members s next_front all next_inside) (closed_whole s arc_forth)

-- ---- the next one of ranked names

module _ (arc : ℕ → ℕ → Bool) (s : NameSet) (rs done rest : List Ranked) (r : Ranked) (are : AreRanked arc s rs) (cut : done ++ r ∷ rest ≡ rs) where
  in_list : (q : Ranked) → In (done ++ r ∷ rest) q → In rs q
  in_list q i = subst (λ xs. In xs q) cut i

  has_name : (q : Ranked) → In rs q → Has s q.name
  has_name q i = (are.lists.exactly q.name).0 (to_contains (map name_of rs) q.name (in_names rs q i))

  pub has_lag : (q : Ranked) → In rs q → HasItsLag arc s q
  has_lag q i = let c = to_contains rs q i in subst (HasItsLag arc s) c.2 (are.lags c.0 q c.1)

  once : Later Differ (map name_of done ++ r.name ∷ map name_of rest)
  once = subst (Later Differ) (ap (map name_of) (sym cut) ∙ map-append name_of done (r ∷ rest)) (of_pairs Differ (map name_of rs) are.lists.once)

  pub r_in : In rs r
  r_in = in_list r (in_right done (r ∷ rest) r (inl refl))

  pub next_name : Has s r.name
  next_name = has_name r r_in

  module _ (front : NameSet) (lists : ListsMembers front (map name_of done)) where
    pub next_new : Lacks front r.name
    next_new = false_from_ne_true _ (λ h.
        later_across Differ (map name_of done) (r.name ∷ map name_of rest) once r.name r.name
        (of_contains (map name_of done) r.name ((lists.exactly r.name).1 h)) (inl refl) refl)

    -- of the names of a set that aren't done: the next one, or a later one
    pub left_over : (y : ℕ) → Has s y → Lacks front y → (y ≡ r.name) ⊎ ((q : Ranked) × In rest q × (y ≡ q.name))
    left_over y h l =
        let i : In (map name_of rs) y = of_contains (map name_of rs) y ((are.lists.exactly y).1 h) in
        let j : In (map name_of done ++ r.name ∷ map name_of rest) y = subst (λ xs. In xs y) (ap (map name_of) (sym cut) ∙ map-append name_of done (r ∷ rest)) i in
        elim (of_append (map name_of done) (r.name ∷ map name_of rest) y j) [
          | inl k ↦ clash ((lists.exactly y).0 (to_contains (map name_of done) y k)) l
          | inr k ↦ elim k [ inl same ↦ inl same | inr later ↦ inr (of_names rest y later) ]
        ]

    pub next_low : (y : ℕ) → Has s y → Lacks front y → arcs_from arc s y + arcs_to arc s r.name ≤ arcs_from arc s r.name + arcs_to arc s y
    next_low y h l = elim (left_over y h l) [
      | inl same ↦ (let a : arcs_from arc s y ≡ arcs_from arc s r.name = ap (arcs_from arc s) same in let b : arcs_to arc s y ≡ arcs_to arc s r.name = ap (arcs_to arc s) same in omega arith)
      | inr later ↦
          let q : Ranked = later.0 in
          let rises : r.lag ≤ q.lag =
          (later_right Rises done (r ∷ rest) (subst (Later Rises) (sym cut) (of_pairs Rises rs are.rising))).0 q later.1 in
          let own : r.lag + arcs_from arc s r.name ≡ arcs_to arc s r.name + DIRECTED_NAMES = has_lag r r_in in
          let other : q.lag + arcs_from arc s q.name ≡ arcs_to arc s q.name + DIRECTED_NAMES = has_lag q (in_list q (in_right done (r ∷ rest) q (inr later.1))) in
          let a : arcs_from arc s y ≡ arcs_from arc s q.name = ap (arcs_from arc s) later.2 in
          let b : arcs_to arc s y ≡ arcs_to arc s q.name = ap (arcs_to arc s) later.2 in
          omega arith
    ]

  -- with the next name done
  module _ (front : NameSet) (lists : ListsMembers front (map name_of done ++ r.name ∷ [])) where
    left_name : (q : Ranked) → In rest q → Has s q.name × Lacks front q.name
    left_name q i = (
      has_name q (in_list q (in_right done (r ∷ rest) q (inr i))),
      false_from_ne_true _ (λ h. elim (of_append (map name_of done) (r.name ∷ []) q.name (of_contains _ q.name ((lists.exactly q.name).1 h))) [
        | inl k ↦ later_across Differ (map name_of done) (r.name ∷ map name_of rest) once q.name q.name k (inr (in_names rest q i)) refl
        | inr k ↦ elim k [
          | inl same ↦ (later_right Differ (map name_of done) (r.name ∷ map name_of rest) once).0 q.name (in_names rest q i) (sym same)
          | inr none ↦ absurd none
        ]
      ]),
    )

    pub next_other : (q : Ranked) → In rest q → (x : ℕ) × Has s x × Lacks front x
    next_other q i = let two = left_name q i in (q.name, two.0, two.1)

    in_rest : (x : ℕ) → (r : Ranked) × In rest r × (x ≡ r.name) → Has (difference s front) x
    in_rest x q = let two = left_name q.0 q.1 in subst (Has (difference s front)) (sym q.2) (minus_has s front q.0.name two.0 two.1)

    pub next_all : rest ≡ [] → (x : ℕ) → Has s x → Has front x
    next_all last x h =
        let i : In (map name_of rs) x = of_contains (map name_of rs) x ((are.lists.exactly x).1 h) in
        let j : In (map name_of done ++ r.name ∷ map name_of rest) x = subst (λ xs. In xs x) (ap (map name_of) (sym cut) ∙ map-append name_of done (r ∷ rest)) i in
        (lists.exactly x).0 (to_contains _ x (subst (λ (qs : List Ranked). In (map name_of done ++ r.name ∷ map name_of qs) x) last j))

    pub next_left : Within front s → len (difference s front) ≡ length rest
    next_left inside = sym (length_of (map name_of rest) (difference s front)
        (later_right Differ (map name_of done) (r.name ∷ map name_of rest) once).1
        (λ x i. in_rest x (of_names rest x i))
        (λ x h. let two : Has s x × Lacks front x = of_minus s front x h in later_one x two.0 two.1))
        ∙ length-map rest name_of where
          later_one : (x : ℕ) → Has s x → Lacks front x → In (map name_of rest) x
          later_one x h l =
              let i : In (map name_of rs) x = of_contains (map name_of rs) x ((are.lists.exactly x).1 h) in
              let j : In (map name_of done ++ r.name ∷ map name_of rest) x = subst (λ xs. In xs x) (ap (map name_of) (sym cut) ∙ map-append name_of done (r ∷ rest)) i in
              elim (of_append (map name_of done) (r.name ∷ map name_of rest) x j) [
                | inl k ↦ clash ((lists.exactly x).0 (to_contains _ x (in_left (map name_of done) (r.name ∷ []) x k))) l
                | inr k ↦ elim k [
                  | inl same ↦ clash ((lists.exactly x).0 (to_contains _ x (in_right (map name_of done) (r.name ∷ []) x (inl same)))) l
                  | inr later ↦ later
                ]
              ]

-- one turn: the next one of the ranked names, and the sums with it
module _ (arc : ℕ → ℕ → Bool) (s : NameSet) (rs done rest : List Ranked) (r : Ranked) (are : AreRanked arc s rs) (cut : done ++ r ∷ rest ≡ rs) (part : NameSet) (parts : List NameSet)
    (is : IsCutUpTo arc s (map name_of done) part parts) (lags first count : ℕ)
    (sums : lags + sum_by (arcs_from arc s) (map name_of done ++ r.name ∷ []) ≡ sum_by (arcs_to arc s) (map name_of done ++ r.name ∷ []) + first * DIRECTED_NAMES)
    (counted : first ≡ length done + 1) (all : count ≡ length rs) where
  abbrev seen : NameSet
  seen = union is.before part

  hw : Has s r.name
  hw = next_name arc s rs done rest r are cut

  new : Lacks seen r.name
  new = next_new arc s rs done rest r are cut seen is.lists

  low : (y : ℕ) → Has s y → Lacks seen y → arcs_from arc s y + arcs_to arc s r.name ≤ arcs_from arc s r.name + arcs_to arc s y
  low = next_low arc s rs done rest r are cut seen is.lists

  abbrev after : NameSet
  after = union is.before (insert part r.name)

  after_lists : ListsMembers after (map name_of done ++ r.name ∷ [])
  after_lists = next_lists arc s (map name_of done) part parts r.name is hw new low

  after_inside : Within after s
  after_inside = next_inside arc s (map name_of done) part parts r.name is hw new low

  size : length rs ≡ length done + 1 + length rest
  size =
      let a : length rs ≡ length (done ++ r ∷ rest) = ap (λ xs. length xs) (sym cut) in
      let b : length (done ++ r ∷ rest) ≡ length done + length (r ∷ rest) = length-append done (r ∷ rest) in
      omega arith

  counted_names : first ≡ length (map name_of done ++ r.name ∷ [])
  counted_names =
      let a : length (map name_of done ++ r.name ∷ []) ≡ length (map name_of done) + 1 = length_push (map name_of done) r.name in
      let b : length (map name_of done) ≡ length done = length-map done name_of in
      let d : first ≡ length done + 1 = counted in
      omega arith

  left_is : len (difference s after) ≡ count - first
  left_is =
      let a : len (difference s after) ≡ length rest = next_left arc s rs done rest r are cut after after_lists after_inside in
      let b : length rs ≡ length done + 1 + length rest = size in
      let c : count ≡ length rs = all in
      let d : first ≡ length done + 1 = counted in
      omega arith

  some_left : first ≢ count → (x : ℕ) × Has s x × Lacks after x
  some_left more = other rest refl where
    other : (qs : List Ranked) → qs ≡ rest → (x : ℕ) × Has s x × Lacks after x
    other [] none = absurd (more (
        let b : length rs ≡ length done + 1 + length rest = size in
        let c : count ≡ length rs = all in
        let d : first ≡ length done + 1 = counted in
        let e : 0 ≡ length rest = ap (λ xs. length xs) none in
        omega arith))
    other (q ∷ qs) some = next_other arc s rs done rest r are cut after after_lists q (subst (λ xs. In xs q) some (inl refl))

  none_left : first ≡ count → rest ≡ []
  none_left same = nil_from_length rest (
      let b : length rs ≡ length done + 1 + length rest = size in
      let c : count ≡ length rs = all in
      let d : first ≡ length done + 1 = counted in
      omega arith)

  abbrev Test : Type 0
  Test = (first ≡ count) ⊎ (lags + first * (count - first) ≡ first * DIRECTED_NAMES)

  closed_if : Test → IsClosed (between arc) s after arc_forth
  closed_if test = elim (same_name first count) [
    | inl same ↦ whole_closed arc s (map name_of done) part parts r.name is hw new low (next_all arc s rs done rest r are cut after after_lists (none_left same))
    | inr more ↦ elim test [
      | inl same ↦ absurd (more same)
      | inr agree ↦ agree_closed arc s (map name_of done) part parts r.name is hw new low (some_left more) lags first count sums counted_names left_is agree
    ]
  ]

  if_closed : IsClosed (between arc) s after arc_forth → Test
  if_closed closed = elim (same_name first count) [
    | inl same ↦ inl same
    | inr more ↦ inr (closed_agrees arc s (map name_of done) part parts r.name is hw new low (some_left more) lags first count sums counted_names left_is closed)
  ]

  names_then : map name_of (done ++ r ∷ []) ≡ map name_of done ++ r.name ∷ []
  names_then = map-append name_of done (r ∷ [])

  pub turn_cuts : (part' none : NameSet) (parts' : List NameSet) → Test → part' ≡ insert part r.name → none ≡ empty → parts' ≡ parts ++ part' ∷ [] → IsCutUpTo arc s (map name_of (done ++ r ∷ [])) none parts'
  turn_cuts part' none parts' test is_more is_none is_parts = subst (λ xs. IsCutUpTo arc s xs none parts') (sym names_then)
      (cut_here arc s (map name_of done) part parts r.name is hw new low (closed_if test) none parts' is_none (is_parts ∙ ap (λ c. parts ++ c ∷ []) is_more))

  pub turn_goes_on : (part' : NameSet) → part' ≡ insert part r.name → (Test → ⊥) → IsCutUpTo arc s (map name_of (done ++ r ∷ [])) part' parts
  turn_goes_on part' is_more fails = subst (λ xs. IsCutUpTo arc s xs part' parts) (sym names_then)
      (cut_goes_on arc s (map name_of done) part parts r.name is hw new low part' is_more (λ closed. fails (if_closed closed)))

-- how many names are done and ranked
pub turn_counts : (arc : ℕ → ℕ → Bool) (s : NameSet) (rs done rest : List Ranked) (r : Ranked) → AreRanked arc s rs → done ++ r ∷ rest ≡ rs → len s ≤ DIRECTED_NAMES →
    (length done + 1 ≤ length rs) × (length rs ≤ DIRECTED_NAMES)
turn_counts arc s rs done rest r are cut few =
    let a : length rs ≡ length (done ++ r ∷ rest) = ap (λ xs. length xs) (sym cut) in
    let b : length (done ++ r ∷ rest) ≡ length done + length (r ∷ rest) = length-append done (r ∷ rest) in
    let c : length (map name_of rs) ≡ len s = length_listed (map name_of rs) s are.lists in
    let d : length (map name_of rs) ≡ length rs = length-map rs name_of in
    (omega arith, omega arith)

-- how great the numbers of a turn are at most
pub record TurnBounds (rs done : List Ranked) (r : Ranked) : Type 0 where
  pub small : r.lag ≤ 2 * DIRECTED_NAMES
  pub one : length done + 1 ≤ length rs
  pub all : length rs ≤ DIRECTED_NAMES

pub turn_bounds : (arc : ℕ → ℕ → Bool) (s : NameSet) (rs done rest : List Ranked) (r : Ranked) → AreRanked arc s rs → done ++ r ∷ rest ≡ rs → len s ≤ DIRECTED_NAMES → TurnBounds rs done r
turn_bounds arc s rs done rest r are whole few =
    let counts = turn_counts arc s rs done rest r are whole few in
    record { small = few_lags arc s r few (has_lag arc s rs done rest r are whole r (r_in arc s rs done rest r are whole)); one = counts.0; all = counts.1 }

-- the sums with one more name
pub sums_more : (arc : ℕ → ℕ → Bool) (s : NameSet) (done : List ℕ) (r : Ranked) (lags first : ℕ) → HasItsLag arc s r →
    lags + sum_by (arcs_from arc s) done ≡ sum_by (arcs_to arc s) done + first * DIRECTED_NAMES →
    (lags + r.lag) + sum_by (arcs_from arc s) (done ++ r.name ∷ []) ≡ sum_by (arcs_to arc s) (done ++ r.name ∷ []) + (first + 1) * DIRECTED_NAMES
sums_more arc s done r lags first lag sums =
    let own : r.lag + arcs_from arc s r.name ≡ arcs_to arc s r.name + DIRECTED_NAMES = lag in
    let a : sum_by (arcs_from arc s) (done ++ r.name ∷ []) ≡ sum_by (arcs_from arc s) done + arcs_from arc s r.name = sum_by_push (arcs_from arc s) done r.name in
    let b : sum_by (arcs_to arc s) (done ++ r.name ∷ []) ≡ sum_by (arcs_to arc s) done + arcs_to arc s r.name = sum_by_push (arcs_to arc s) done r.name in
    let d = sums in
    omega arith

-- all names are done, and none of them is left over
pub cut_ends : (arc : ℕ → ℕ → Bool) (s : NameSet) (rs done : List Ranked) (part : NameSet) (parts : List NameSet) → AreRanked arc s rs → done ≡ rs → IsCutUpTo arc s (map name_of done) part parts → part ≡ empty →
    AreUncutSegments arc s parts
cut_ends arc s rs done part parts are all is none = record {
  each = λ c known. (is.each c (of_contains parts c known)).0;
  cover = λ x h.
      let front : Has (union is.before part) x = (is.lists.exactly x).0 (subst (λ qs. Contains (map name_of qs) x) (sym all) ((are.lists.exactly x).1 h)) in
      let c : (c : NameSet) × In parts c × Has c x = is.cover x (elim (of_union is.before part x front) [ inl b ↦ b | inr p ↦ clash (Has-along part empty none x p) (empty_lacks x) ]) in
      (c.0, to_contains parts c.0 c.1, c.2);
  order = to_pairs (AllArcsTo arc) parts is.order;
}
