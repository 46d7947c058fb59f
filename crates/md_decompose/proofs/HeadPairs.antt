-- Pairs of heads, put down one head after the other, and for each head one other head after the other.
use Rattle.std.proofs.Common.{◌≡◌, ◌≢◌, ℕ, ◌+◌, ◌<◌, ◌≤◌, Bool, List, [], ◌∷◌, ◌++◌, ◌↔◌, Contains, length, get_or, map, refl, sym, ◌∙◌, ap, subst, inl, inr, arith, append_assoc, append-nil}
use Rattle.std.proofs.Math.ListN.{get_or-eq_default}
use Rattle.std.proofs.lemmas.Bool.{cases_lt}
use Rattle.std.specs.FinSet.{empty, remove, intersection}
use Rattle.md_graph.specs.declared.TheConstants.{NAMES}
use Rattle.md_graph.specs.NameSet.{AllBelow, IsLeastFrom, ascending, ascending_from}
use Rattle.md_graph.specs.PlainGraph.{PlainGraph, IsGraph, adjacent, neighbours}
use Rattle.md_graph.proofs.NameLemmas.{IsTurn, walk_turn, walk_end}
use Rattle.md_graph.proofs.GraphLemmas.{contains-neighbours}
use Rattle.md_graph.specs.Sets.{NameSet, Has, Within}
use Rattle.md_modules.specs.Modules.{IsMaximalModule}
use Rattle.md_modules.specs.Kinds.{IsPrime}
use Rattle.md_graph.proofs.SetLemmas.{of_meet, meet_has, of_remove, remove_left, clash, empty_lacks, Has-along}
use Rattle.md_graph.proofs.Search.{decide_test}
use Rattle.md_modules.proofs.Modules.{undirected}
use Rattle.md_modules.proofs.Components.{prime_unsplit}
use Rattle.md_modules.proofs.Children.{child_maximal}
use Rattle.md_modules.proofs.Quotients.{maximal_modules_proof}
use Rattle.md_modules.proofs.PathSearch.{adjacency}
use Rattle.md_tree.specs.StrongTrees.{IsBefore, ListsExactly}
use Rattle.md_tree.specs.Spellings.{PairRules, ArePairRules, IsPairBeforeBy, graph_pairs}
use Rattle.md_tree.proofs.Spelled.{graph_pairs_law}
use Rattle.md_tree.specs.declared.Pair.{Pair}
use Rattle.md_text.proofs.Lists.{In, of_contains, to_contains, in_left, in_right, of_append, of_pairs, to_pairs, later_append}
use Rattle.md_decompose.specs.Children.{AreChildren, ListsPairs, AreSetsJoined, set_at}
use Rattle.md_decompose.specs.Heads.{HoldsHeads, RisesOn, AreNear, ComesBefore, pair_at, ListsHeadPairs}
use Rattle.md_decompose.proofs.Heads.{head_below, heads_rise}
use Rattle.md_decompose.proofs.Joining.{child_at, child_within}

-- the pairs with the head h and one of near below low are put down, and the other names of near are left
pub record IsPushing {P : Type 0} (r : PairRules P) (Near : ℕ → ℕ → Type 0) (places : List ℕ) (h : ℕ) (near : NameSet) (left : List ℕ) (ps : List P) : Type 0 where
  pub low : ℕ
  pub is : left ≡ ascending_from near low
  pub names : AllBelow near NAMES
  pub lists : ListsHeadPairs r Near places h low ps

-- the pairs of the heads below low are put down, and the other heads are left
pub record IsListingPairs {P : Type 0} (r : PairRules P) (Near : ℕ → ℕ → Type 0) (heads : NameSet) (places : List ℕ) (left : List ℕ) (ps : List P) : Type 0 where
  pub low : ℕ
  pub is : left ≡ ascending_from heads low
  pub names : AllBelow heads NAMES
  pub lists : ListsHeadPairs r Near places low 0 ps

no_pair : (a b x : ℕ) → (a ≡ x) × (b < 0) → ⊥
no_pair a b x w = let l : b < 0 = w.1 in omega arith

-- pairs of positions come before each other as the positions do
pair_before : {P : Type 0} (r : PairRules P) → ArePairRules r → (i j k l : ℕ) → ComesBefore i j k l → IsPairBeforeBy r (r.pair i j) (r.pair k l)
pair_before r laws i j k l before =
    let a : r.first (r.pair i j) ≡ i = laws.first_of i j in
    let b : r.second (r.pair i j) ≡ j = laws.second_of i j in
    let c : r.first (r.pair k l) ≡ k = laws.first_of k l in
    let d : r.second (r.pair k l) ≡ l = laws.second_of k l in
    elim before [
      | inl up ↦ inl (let u : i < k = up in omega arith)
      | inr w ↦ inr (a ∙ w.0 ∙ sym c, (let u : j < l = w.1 in omega arith))
    ]

module _ {P : Type 0} {r : PairRules P} {Near : ℕ → ℕ → Type 0} {places : List ℕ} where
  pub lists_none : ListsHeadPairs r Near places 0 0 []
  lists_none = record {
    ascending = to_pairs (IsPairBeforeBy r) [] tt;
    each = λ p c. absurd (of_contains [] p c);
    all = λ a b near before. absurd (elim before [ inl l ↦ (let k : a < 0 = l in omega arith) | inr w ↦ no_pair a b 0 w ]);
  }

  -- past the heads that stand in no pair
  lists_on : (x h : ℕ) (ps : List P) → ((a b : ℕ) → Near a b → a < x → a < h) → ((a b : ℕ) → Near a b → a < h → a < x) → ListsHeadPairs r Near places x 0 ps → ListsHeadPairs r Near places h 0 ps
  lists_on x h ps up down lists = record {
    ascending = lists.ascending;
    each = λ p c.
        let q : (a : ℕ) × (b : ℕ) × Near a b × ComesBefore a b x 0 × (p ≡ pair_at r places a b) = lists.each p c in
        (q.0, q.1, q.2, elim q.3 [ inl l ↦ inl (up q.0 q.1 q.2 l) | inr w ↦ absurd (no_pair q.0 q.1 x w) ], q.4);
    all = λ a b near before. elim before [ inr w ↦ absurd (no_pair a b h w) | inl l ↦ lists.all a b near (inl (down a b near l)) ];
  }

  -- where no pair of the head is left
  pub lists_end : (h low : ℕ) (ps : List P) → ((b : ℕ) → Near h b → b < low) → ListsHeadPairs r Near places h low ps → ListsHeadPairs r Near places (h + 1) 0 ps
  lists_end h low ps none lists = record {
    ascending = lists.ascending;
    each = λ p c.
        let q : (a : ℕ) × (b : ℕ) × Near a b × ComesBefore a b h low × (p ≡ pair_at r places a b) = lists.each p c in
        (q.0, q.1, q.2, inl (elim q.3 [ inl l ↦ (let k : q.0 < h = l in omega arith) | inr w ↦ (let k : q.0 ≡ h = w.0 in omega arith) ]), q.4);
    all = λ a b near before. elim before [
      | inr w ↦ absurd (no_pair a b (h + 1) w)
      | inl l ↦ elim (cases_lt a h) [
        | inl k ↦ lists.all a b near (inl k)
        | inr k ↦ (
            let m : a < h + 1 = l in
            let same : a ≡ h = omega arith in
            lists.all a b near (inr (same, none b (subst (λ z. Near z b) same near))))
      ]
    ];
  }

  module _ (laws : ArePairRules r) (heads : NameSet) (rising : RisesOn heads places) (among : (a b : ℕ) → Near a b → Has heads a × Has heads b) where
    -- one more pair
    lists_more : (h low x : ℕ) (ps : List P) → Near h x → low ≤ x → ((b : ℕ) → Near h b → low ≤ b → x ≤ b) → ListsHeadPairs r Near places h low ps → ListsHeadPairs r Near places h (x + 1) (ps ++ pair_at r places h x ∷ [])
    lists_more h low x ps near above first lists = record {
      ascending = to_pairs (IsPairBeforeBy r) (ps ++ pair_at r places h x ∷ []) (later_append (IsPairBeforeBy r) ps (pair_at r places h x ∷ [])
          (of_pairs (IsPairBeforeBy r) ps lists.ascending) ((λ y i. absurd i), tt)
          (λ p q i j. elim j [ inl same ↦ subst (IsPairBeforeBy r p) (sym same) (before p i) | inr none ↦ absurd none ]));
      each = λ p c. elim (of_append ps (pair_at r places h x ∷ []) p (of_contains (ps ++ pair_at r places h x ∷ []) p c)) [
        | inl i ↦
            let q : (a : ℕ) × (b : ℕ) × Near a b × ComesBefore a b h low × (p ≡ pair_at r places a b) = lists.each p (to_contains ps p i) in
            (q.0, q.1, q.2, elim q.3 [ inl l ↦ inl l | inr w ↦ inr (w.0, (let k : q.1 < low = w.1 in omega arith)) ], q.4)
        | inr i ↦ elim i [
          | inl same ↦ (h, x, near, inr (refl, (omega arith)), same)
          | inr none ↦ absurd none
        ]
      ];
      all = λ a b is come. to_contains (ps ++ pair_at r places h x ∷ []) (pair_at r places a b) (elim come [
        | inl l ↦ in_left ps (pair_at r places h x ∷ []) (pair_at r places a b) (of_contains ps (pair_at r places a b) (lists.all a b is (inl l)))
        | inr w ↦ elim (cases_lt b low) [
          | inl k ↦ in_left ps (pair_at r places h x ∷ []) (pair_at r places a b) (of_contains ps (pair_at r places a b) (lists.all a b is (inr (w.0, k))))
          | inr k ↦
              let m : b < x + 1 = w.1 in
              let n : x ≤ b = first b (subst (λ z. Near z b) w.0 is) k in
              let same : b ≡ x = omega arith in
              in_right ps (pair_at r places h x ∷ []) (pair_at r places a b) (inl (ap (λ z. pair_at r places z b) w.0 ∙ ap (pair_at r places h) same))
        ]
      ]);
    } where
      before : (p : P) → In ps p → IsPairBeforeBy r p (pair_at r places h x)
      before p i =
          let q : (a : ℕ) × (b : ℕ) × Near a b × ComesBefore a b h low × (p ≡ pair_at r places a b) = lists.each p (to_contains ps p i) in
          subst (λ t. IsPairBeforeBy r t (pair_at r places h x)) (sym q.4) (pair_before r laws (get_or places q.0 0) (get_or places q.1 0) (get_or places h 0) (get_or places x 0) (elim q.3 [
            | inl l ↦ inl (rising q.0 h (among q.0 q.1 q.2).0 (among h x near).0 l)
            | inr w ↦ inr (ap (λ z. get_or places z 0) w.0, rising q.1 x (among q.0 q.1 q.2).1 (among h x near).1 (let k : q.1 < low = w.1 in omega arith))
          ]))

    -- the turns for one head
    module _ (h : ℕ) (near : NameSet) (is : (b : ℕ) → Has near b ↔ Near h b) where
      pushing_more : (left : List ℕ) (ps : List P) (x : ℕ) (rest : List ℕ) → IsPushing r Near places h near left ps → left ≡ x ∷ rest → IsPushing r Near places h near rest (ps ++ pair_at r places h x ∷ [])
      pushing_more left ps x rest pushing steps =
          let turn : IsTurn near pushing.low NAMES x rest = walk_turn near pushing.low NAMES x left rest pushing.is steps in
          let up : pushing.low ≤ x = turn.item.above in
          record {
            low = x + 1;
            is = turn.left;
            names = pushing.names;
            lists = lists_more h pushing.low x ps ((is x).0 turn.item.member) up
                (λ b k from. turn.item.first b ((is b).1 k) from (pushing.names b ((is b).1 k))) pushing.lists;
          }

      pushing_end : (ps : List P) → IsPushing r Near places h near [] ps → ListsHeadPairs r Near places (h + 1) 0 ps
      pushing_end ps pushing = lists_end h pushing.low ps (λ b k. walk_end near pushing.low NAMES [] [] pushing.names pushing.is (refl, refl) b ((is b).1 k)) pushing.lists

      pushing_all : (left : List ℕ) (ps : List P) → IsPushing r Near places h near left ps → ListsHeadPairs r Near places (h + 1) 0 (ps ++ map (pair_at r places h) left)
      pushing_all [] ps pushing = subst (ListsHeadPairs r Near places (h + 1) 0) (sym (append-nil ps)) (pushing_end ps pushing)
      pushing_all (x ∷ rest) ps pushing =
          subst (ListsHeadPairs r Near places (h + 1) 0) (append_assoc ps (pair_at r places h x ∷ []) (map (pair_at r places h) rest))
          (pushing_all rest (ps ++ pair_at r places h x ∷ []) (pushing_more (x ∷ rest) ps x rest pushing refl))

      -- the pairs of one head
      pub pairs_pushed : (ps qs : List P) → AllBelow near NAMES → ListsHeadPairs r Near places h 0 ps → qs ≡ ps ++ map (pair_at r places h) (ascending near) → ListsHeadPairs r Near places (h + 1) 0 qs
      pairs_pushed ps qs names lists is_qs =
          subst (ListsHeadPairs r Near places (h + 1) 0) (sym is_qs) (pushing_all (ascending near) ps (record { low = 0; is = refl; names = names; lists = lists }))

    pub pairs_begin : (left : List ℕ) (ps : List P) → left ≡ ascending heads → AllBelow heads NAMES → ps ≡ [] → IsListingPairs r Near heads places left ps
    pairs_begin left ps is names none = record { low = 0; is = is; names = names; lists = subst (ListsHeadPairs r Near places 0 0) (sym none) lists_none }

    module _ (left : List ℕ) (ps : List P) (listing : IsListingPairs r Near heads places left ps) where
      pub turn_of : (x : ℕ) (rest : List ℕ) → left ≡ x ∷ rest → IsTurn heads listing.low NAMES x rest
      turn_of x rest steps = walk_turn heads listing.low NAMES x left rest listing.is steps

      pub pairs_before : (x : ℕ) (rest : List ℕ) → left ≡ x ∷ rest → ListsHeadPairs r Near places x 0 ps
      pairs_before x rest steps =
          let turn : IsTurn heads listing.low NAMES x rest = turn_of x rest steps in
          let up : listing.low ≤ x = turn.item.above in
          lists_on listing.low x ps (λ a b near l. omega arith)
          (λ a b near l. elim (cases_lt a listing.low) [
            | inl k ↦ k
            | inr k ↦ (let f : x ≤ a = turn.item.first a (among a b near).0 k (listing.names a (among a b near).0) in let m : a < x = l in absurd (omega arith))
          ])
          listing.lists

      pub pairs_more : (x : ℕ) (rest : List ℕ) (qs : List P) → left ≡ x ∷ rest → ListsHeadPairs r Near places (x + 1) 0 qs → IsListingPairs r Near heads places rest qs
      pairs_more x rest qs steps lists = record { low = x + 1; is = (turn_of x rest steps).left; names = listing.names; lists = lists }

      pub pairs_whole : (rest : List ℕ) → (left ≡ []) × (rest ≡ []) → ListsHeadPairs r Near places NAMES 0 ps
      pairs_whole rest steps =
          lists_on listing.low NAMES ps (λ a b near l. listing.names a (among a b near).0)
          (λ a b near l. walk_end heads listing.low NAMES left rest listing.names listing.is steps a (among a b near).0) listing.lists

    -- the pairs of all heads are those of joined positions
    pub pairs_exactly : (Joined : ℕ → ℕ → Type 0) (ps : List P) → AllBelow heads NAMES → ((a b : ℕ) → Near a b → Joined (get_or places a 0) (get_or places b 0)) →
        ((i j : ℕ) → Joined i j → (a : ℕ) × (b : ℕ) × Near a b × (get_or places a 0 ≡ i) × (get_or places b 0 ≡ j)) →
        ListsHeadPairs r Near places NAMES 0 ps → ListsExactly r Joined ps
    pairs_exactly Joined ps names to of lists = record {
      ascending = lists.ascending;
      exactly = λ p. (
        λ c.
            let q : (a : ℕ) × (b : ℕ) × Near a b × ComesBefore a b NAMES 0 × (p ≡ pair_at r places a b) = lists.each p c in
            subst (λ t. Joined (r.first t) (r.second t)) (sym q.4)
            (subst (Joined (r.first (pair_at r places q.0 q.1))) (sym (laws.second_of (get_or places q.0 0) (get_or places q.1 0)))
            (subst (λ i. Joined i (get_or places q.1 0)) (sym (laws.first_of (get_or places q.0 0) (get_or places q.1 0))) (to q.0 q.1 q.2))),
        λ joined.
            let q : (a : ℕ) × (b : ℕ) × Near a b × (get_or places a 0 ≡ r.first p) × (get_or places b 0 ≡ r.second p) = of (r.first p) (r.second p) joined in
            subst (Contains ps) (ap (λ i. r.pair i (get_or places q.1 0)) q.3 ∙ ap (r.pair (r.first p)) q.4 ∙ laws.pair_of p) (lists.all q.0 q.1 q.2 (inl (names q.0 (among q.0 q.1 q.2).0))),
      );
    }

-- the pairs of the heads below a number are put down, the other heads are left, and later has those
pub record IsListingLater (e : ℕ → ℕ → Bool) (heads : NameSet) (places : List ℕ) (later : NameSet) (left : List ℕ) (ps : List Pair) : Type 0 where
  pub listing : IsListingPairs graph_pairs (AreNear e heads) heads places left ps
  pub is : (b : ℕ) → Has later b ↔ (Has heads b × (listing.low ≤ b))

pub near_among : {e : ℕ → ℕ → Bool} {heads : NameSet} (a b : ℕ) → AreNear e heads a b → Has heads a × Has heads b
near_among a b near = (near.first, near.second)

-- the later heads that are adjacent to a head
pub later_near : {g : PlainGraph} → IsGraph g → (heads later : NameSet) (h : ℕ) → Has heads h → ((b : ℕ) → Has later b ↔ (Has heads b × (h + 1 ≤ b))) →
    (b : ℕ) → Has (intersection (neighbours g h) later) b ↔ AreNear (adjacent g) heads h b
later_near {g} is_graph heads later h head is b = (
  λ k.
      let two : Has (neighbours g h) b × Has later b = of_meet (neighbours g h) later b k in
      let behind : Has heads b × (h + 1 ≤ b) = (is b).0 two.1 in
      record { first = head; second = behind.0; ordered = (let l : h + 1 ≤ b = behind.1 in omega arith); edge = sym (contains-neighbours is_graph h b) ∙ two.0 },
  λ near.
      let l : h < b = near.ordered in
      meet_has (neighbours g h) later b (contains-neighbours is_graph h b ∙ near.edge) ((is b).1 (near.second, (omega arith))),
)

module _ {e : ℕ → ℕ → Bool} (heads : NameSet) (places : List ℕ) (rising : RisesOn heads places) where
  pub later_begin : (later : NameSet) (left : List ℕ) (ps : List Pair) → later ≡ heads → left ≡ ascending heads → AllBelow heads NAMES → ps ≡ [] → IsListingLater e heads places later left ps
  later_begin later left ps same is names none = record {
    listing = record { low = 0; is = is; names = names; lists = subst (ListsHeadPairs graph_pairs (AreNear e heads) places 0 0) (sym none) lists_none };
    is = λ b. (λ h. (Has-along _ _ same b h, (let own : b ≡ b = refl in omega arith)), λ w. Has-along _ _ (sym same) b w.0);
  }

  module _ (later : NameSet) (left : List ℕ) (ps : List Pair) (so_far : IsListingLater e heads places later left ps) (x : ℕ) (rest : List ℕ) (steps : left ≡ x ∷ rest) where
    turn : IsTurn heads so_far.listing.low NAMES x rest
    turn = walk_turn heads so_far.listing.low NAMES x left rest so_far.listing.is steps

    pub later_head : Has heads x
    later_head = turn.item.member

    -- what is behind x
    pub later_behind : (later' : NameSet) → later' ≡ remove later x → (b : ℕ) → Has later' b ↔ (Has heads b × (x + 1 ≤ b))
    later_behind later' same b = (
      λ h.
          let two : (b ≢ x) × Has later b = of_remove later x b (Has-along _ _ same b h) in
          let old : Has heads b × (so_far.listing.low ≤ b) = (so_far.is b).0 two.1 in
          let from : x ≤ b = turn.item.first b old.0 old.1 (so_far.listing.names b old.0) in
          let differs : b ≢ x = two.0 in
          (old.0, (omega arith)),
      λ w.
          let low : so_far.listing.low ≤ x = turn.item.above in
          let up : x + 1 ≤ b = w.1 in
          Has-along _ _ (sym same) b (remove_left later x b (omega arith) ((so_far.is b).1 (w.0, (omega arith)))),
    )

    pub later_more : (later' : NameSet) (qs : List Pair) → ((b : ℕ) → Has later' b ↔ (Has heads b × (x + 1 ≤ b))) →
        ListsHeadPairs graph_pairs (AreNear e heads) places (x + 1) 0 qs → IsListingLater e heads places later' rest qs
    later_more later' qs is lists = record { listing = record { low = x + 1; is = turn.left; names = so_far.listing.names; lists = lists }; is = is }

-- the pairs of all heads are those of the sets between which an edge runs
module _ {g : PlainGraph} (is_graph : IsGraph g) (s : NameSet) (cs : List NameSet) (prime : IsPrime (adjacent g) s) (children : AreChildren (adjacent g) s cs) where
  maximal_at : (k : ℕ) → k < length cs → IsMaximalModule (adjacent g) s (set_at cs k)
  maximal_at k room = child_maximal (undirected (adjacency is_graph)) decide_test s (set_at cs k) (prime_unsplit s prime) (child_at s cs children.exactly k room)

  place_of : (k x : ℕ) → Has (set_at cs k) x → k < length cs
  place_of k x h = elim (cases_lt k (length cs)) [
    | inl l ↦ l
    | inr le ↦ clash (Has-along (set_at cs k) empty (get_or-eq_default cs empty le) x h) (empty_lacks x)
  ]

  apart : (i j : ℕ) → i < j → j < length cs → set_at cs i ≢ set_at cs j
  apart i j up room same =
      let is : IsBefore (set_at cs i) (set_at cs j) = children.order i j empty up room in
      let b : is.0 < is.0 = is.2 is.0 (Has-along (set_at cs i) (set_at cs j) same is.0 is.1) in
      omega arith

  module _ (heads : NameSet) (places : List ℕ) (is : HoldsHeads cs (length cs) heads places) where
    to_joined : (a b : ℕ) → AreNear (adjacent g) heads a b → AreSetsJoined (adjacent g) cs (get_or places a 0) (get_or places b 0)
    to_joined a b near = record {
      ordered = heads_rise cs children.order (length cs) heads places (omega arith) is a b near.first near.second near.ordered;
      edge = (a, b, (is.least a near.first).member, (is.least b near.second).member, near.edge);
    }

    of_joined : (i j : ℕ) → AreSetsJoined (adjacent g) cs i j → (a : ℕ) × (b : ℕ) × AreNear (adjacent g) heads a b × (get_or places a 0 ≡ i) × (get_or places b 0 ≡ j)
    of_joined i j joined =
        let x : ℕ = joined.edge.0 in
        let y : ℕ = joined.edge.1 in
        let up : i < j = joined.ordered in
        let room : j < length cs = place_of j y joined.edge.3 in
        let a : (a : ℕ) × Has heads a × (get_or places a 0 ≡ i) = is.each i (omega arith) in
        let b : (b : ℕ) × Has heads b × (get_or places b 0 ≡ j) = is.each j room in
        let a_least : IsLeastFrom (set_at cs i) 0 a.0 = subst (λ k. IsLeastFrom (set_at cs k) 0 a.0) a.2 (is.least a.0 a.1) in
        let b_least : IsLeastFrom (set_at cs j) 0 b.0 = subst (λ k. IsLeastFrom (set_at cs k) 0 b.0) b.2 (is.least b.0 b.1) in (
          a.0,
          b.0,
          record {
            first = a.1;
            second = b.1;
            ordered = head_below cs children.order i j a.0 b.0 up room a_least b_least.member;
            edge = (maximal_modules_proof (adjacent g) (adjacency is_graph) s prime).alike (set_at cs i) (set_at cs j) a.0 b.0 x y
                (maximal_at i (omega arith)) (maximal_at j room) (apart i j up room) a_least.member joined.edge.2 b_least.member joined.edge.3
                ∙ joined.edge.4;
          },
          a.2,
          b.2,
        )

    pub pairs_listed : Within s g.vertices → (ps : List Pair) → ListsHeadPairs graph_pairs (AreNear (adjacent g) heads) places NAMES 0 ps → ListsPairs (adjacent g) cs ps
    pairs_listed inside ps lists =
        pairs_exactly graph_pairs_law heads (heads_rise cs children.order (length cs) heads places (omega arith) is) near_among (AreSetsJoined (adjacent g) cs) ps
        (λ v h. is_graph.names v (inside v (child_within s cs children.exactly (get_or places v 0) v (is.below v h) (is.least v h).member))) to_joined of_joined lists
