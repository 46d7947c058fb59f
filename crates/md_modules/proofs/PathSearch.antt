-- The search for an induced path with a given vertex.
use Rattle.std.proofs.Common.{◌≡◌, ℕ, ◌<◌, ◌≤◌, Bool, true, false, not, IsTrue, ◌↔◌, ◌≢◌, ◌⊎◌, List, [], ◌∷◌, refl, sym, ◌∙◌, ap, subst, inl, inr, arith}
use Rattle.std.proofs.lemmas.Bool.{cases_lt, cases_Bool, true_from_ne_false, false_from_ne_true}
use Rattle.std.specs.Prelude.{Option, Some, None, IfSome, IfNone}
use Rattle.std.specs.FinSet.{contains, empty, remove, union, difference, intersection}
use Rattle.md_graph.specs.NameSet.{NoneFrom, IsLeastFrom}
use Rattle.md_graph.specs.PlainGraph.{PlainGraph, IsGraph, adjacent, neighbours}
use Rattle.md_graph.proofs.GraphLemmas.{adjacent_sym, adjacent_self, adjacent_ends, contains-neighbours}
use Rattle.md_graph.specs.Sets.{NameSet, Has, Lacks, Within, Disjoint}
use Rattle.md_graph.specs.Adjacency.{IsAdjacency}
use Rattle.md_modules.specs.Kinds.{IsSplit}
use Rattle.md_modules.specs.Components.{IsComponent}
use Rattle.md_modules.specs.InducedPaths.{IsInducedPath, HasPathEdges, IsOneOf, IsInducedPathWith}
use Rattle.md_modules.specs.PathSearch.{ToldApart, IsPathOf, IsSide, IsMet}
use Rattle.md_modules.specs.Classes.{IsSplitter}
use Rattle.md_modules.specs.Seen.{seen_as}
use Rattle.md_modules.specs.declared.induced_paths.P4.{P4}
use Rattle.md_graph.proofs.SetLemmas.{clash, empty_if, union_left, union_right, of_union, meet_has, of_meet, minus_has, of_minus, of_minus_lacks, remove_left, of_remove, Has-along, none_lacks}
use Rattle.md_modules.proofs.Modules.{undirected}
use Rattle.md_modules.proofs.Components.{not_own, closed_follow, component_unsplit, crossing_pair}
use Rattle.md_modules.proofs.Turns.{SeenAs, seen_all}
use Rattle.md_graph.proofs.Walks.{Walked, Walked-item, Walked-more, Walked-map, Walked-end}

-- ---- options

pub if_none_map : {A : Type 0} (r : Option A) (P Q : Type 0) → (P → Q) → IfNone r P → IfNone r Q
if_none_map None P Q f h = f h
if_none_map (Some a) P Q f h = h

pub if_some_map : {A : Type 0} (r : Option A) (P Q : A → Type 0) → ((a : A) → P a → Q a) → IfSome r P → IfSome r Q
if_some_map None P Q f h = h
if_some_map (Some a) P Q f h = f a h

-- ---- paths

-- the same path from the other end
pub turned_edges : (g : PlainGraph) (a b c d : ℕ) → HasPathEdges (adjacent g) a b c d → HasPathEdges (adjacent g) d c b a
turned_edges g a b c d is = record {
  edges = (adjacent_sym g d c ∙ is.edges.2, adjacent_sym g c b ∙ is.edges.1, adjacent_sym g b a ∙ is.edges.0);
  apart = (adjacent_sym g d b ∙ is.apart.2, adjacent_sym g d a ∙ is.apart.1, adjacent_sym g c a ∙ is.apart.0);
}

pub turned_one : (x a b c d : ℕ) → IsOneOf x a b c d → IsOneOf x d c b a
turned_one x a b c d (inl p) = inr (inr (inr p))
turned_one x a b c d (inr (inl p)) = inr (inr (inl p))
turned_one x a b c d (inr (inr (inl p))) = inr (inl p)
turned_one x a b c d (inr (inr (inr p))) = inl p

pub told_apart : (e : ℕ → ℕ → Bool) (a b c : ℕ) → e a c ≡ true → e b c ≡ false → a ≢ b
told_apart e a b c p q same = clash p (ap (λ z. e z c) same ∙ q)

module _ {g : PlainGraph} (is_graph : IsGraph g) where
  pub ends_differ : (a b c d : ℕ) → HasPathEdges (adjacent g) a b c d → a ≢ d
  ends_differ a b c d is same =
      told_apart (adjacent g) d a c (adjacent_sym g d c ∙ is.edges.2) is.apart.0 (sym same)

  -- four names with the edges of a path, the smaller end first
  pub path_of_edges : (a b c d : ℕ) → HasPathEdges (adjacent g) a b c d → a < d → IsInducedPath (adjacent g) g.vertices a b c d
  path_of_edges a b c d is up =
      let first = adjacent_ends is_graph a b is.edges.0 in
      let middle = adjacent_ends is_graph b c is.edges.1 in
      let last = adjacent_ends is_graph c d is.edges.2 in
      record {
        inside = (first.0, first.1, middle.1, last.1);
        different = (
          first.2,
          (λ same. told_apart (adjacent g) c a d is.edges.2 is.apart.1 (sym same)),
          middle.2,
          told_apart (adjacent g) b d a (adjacent_sym g b a ∙ is.edges.0) (adjacent_sym g d a ∙ is.apart.1),
          last.2,
        );
        edges = is.edges;
        apart = is.apart;
        ascending = up;
      }

  pub path_by_edges : (a b c d : ℕ) → a < d → (told : Bool) → (IsTrue told ↔ HasPathEdges (adjacent g) a b c d) → IsTrue told ↔ IsInducedPath (adjacent g) g.vertices a b c d
  path_by_edges a b c d up told by =
      ((λ t. path_of_edges a b c d (by.0 t) up), (λ is. by.1 (record { edges = is.edges; apart = is.apart })))

  abbrev PathWith : ℕ → P4 → Type 0
  PathWith x p = IsInducedPathWith (adjacent g) g.vertices x p.a p.b p.c p.d

  pub path_of_order : (x a b c d : ℕ) → HasPathEdges (adjacent g) a b c d → IsOneOf x a b c d → (p : P4) → IsPathOf p a b c d → PathWith x p
  path_of_order x a b c d is one p order =
      elim (cases_lt a d) [
        | inl up ↦ subst (PathWith x) (sym (order.kept up)) (record { path = path_of_edges a b c d is up; holds = one })
        | inr down ↦ subst (PathWith x) (sym (order.turned down)) (record {
          path = path_of_edges d c b a (turned_edges g a b c d is) (below a d down (ends_differ a b c d is));
          holds = turned_one x a b c d one;
        })
      ]
    where
      below : (a d : ℕ) → d ≤ a → a ≢ d → d < a
      below a d le n = omega arith

  -- x, a name o that it sees (value is false) or not (value is true), and two names m and z of which o sees only m
  pub path_found : (x o m z : ℕ) (value : Bool) → adjacent g x o ≡ not value → adjacent g x m ≡ value → adjacent g x z ≡ value → adjacent g m z ≡ not value →
      ToldApart g o m z → (p : P4) → (value ≡ false → IsPathOf p x o m z) → (value ≡ true → IsPathOf p z x m o) → PathWith x p
  path_found x o m z false xo xm xz mz told p begun passed =
      path_of_order x x o m z (record { edges = (xo, told.sees, mz); apart = (xm, xz, told.misses) }) (inl refl) p (begun refl)
  path_found x o m z true xo xm xz mz told p begun passed =
      path_of_order x z x m o
      (record {
        edges = (adjacent_sym g z x ∙ xz, xm, adjacent_sym g m o ∙ told.sees);
        apart = (adjacent_sym g z m ∙ mz, adjacent_sym g z o ∙ told.misses, xo);
      })
      (inr (inl refl)) p (passed refl)

  -- what is said of no path of edges, said of induced paths
  pub no_path_with : (x : ℕ) → ((b c d : ℕ) → HasPathEdges (adjacent g) x b c d → ⊥) → ((a b c : ℕ) → HasPathEdges (adjacent g) a x b c → ⊥) →
      (a b c d : ℕ) → IsInducedPathWith (adjacent g) g.vertices x a b c d → ⊥
  no_path_with x no_end no_inner a b c d is =
      let edges : HasPathEdges (adjacent g) a b c d = record { edges = is.path.edges; apart = is.path.apart } in
      elim is.holds [
        | inl at_a ↦ no_end b c d (subst (λ z. HasPathEdges (adjacent g) z b c d) (sym at_a) edges)
        | inr (inl at_b) ↦ no_inner a c d (subst (λ z. HasPathEdges (adjacent g) a z c d) (sym at_b) edges)
        | inr (inr (inl at_c)) ↦ no_inner d b a (turned_edges g a b x d (subst (λ z. HasPathEdges (adjacent g) a b z d) (sym at_c) edges))
        | inr (inr (inr at_d)) ↦ no_end c b a (turned_edges g a b c x (subst (λ z. HasPathEdges (adjacent g) a b c z) (sym at_d) edges))
      ]

  pub near_is : (x : ℕ) (row : NameSet) → row ≡ neighbours g x → (z : ℕ) → contains row z ≡ adjacent g x z
  near_is x row is z = ap (λ s. contains s z) is ∙ contains-neighbours is_graph x z

  pub vertex : (u v : ℕ) → adjacent g u v ≡ true → Has g.vertices v
  vertex u v h = (adjacent_ends is_graph u v h).1

  -- ---- the two sides of x

  pub near_side : (x : ℕ) (near : NameSet) → near ≡ neighbours g x → IsSide g x true near
  near_side x near is_near = record {
    inside = λ z h. vertex x z (sym (near_is x near is_near z) ∙ h);
    alike = λ z h. sym (near_is x near is_near z) ∙ h;
    all = λ z h other sees. near_is x near is_near z ∙ sees;
  }

  pub far_side : (x : ℕ) (vertices near others far : NameSet) → vertices ≡ g.vertices → near ≡ neighbours g x → others ≡ difference vertices near → far ≡ remove others x → IsSide g x false far
  far_side x vertices near others far is_vertices is_near is_others is_far = record {
    inside = λ z h. Has-along vertices g.vertices is_vertices z (parts z h).0;
    alike = λ z h. sym (near_is x near is_near z) ∙ (parts z h).1;
    all = λ z h other misses.
        Has-along _ far (sym is_far) z (remove_left others x z other (Has-along _ others (sym is_others) z
        (minus_has vertices near z (Has-along g.vertices vertices (sym is_vertices) z h) (near_is x near is_near z ∙ misses))));
  }
    where
      parts : (z : ℕ) → Has far z → Has vertices z × Lacks near z
      parts z h = of_minus vertices near z (Has-along others _ is_others z (of_remove others x z (Has-along far _ is_far z h)).1)

  pub sides_apart : (x : ℕ) (value : Bool) (part others : NameSet) → ((z : ℕ) → Has part z → adjacent g x z ≡ value) → ((o : ℕ) → Has others o → adjacent g x o ≡ not value) → Disjoint part others
  sides_apart x value part others alike across z h = false_from_ne_true _ (λ k. not_own (adjacent g x z) value (alike z h) (across z k))

  -- no one of others tells apart two of names that are to each other as value doesn't say
  abbrev NoneTold : Bool → NameSet → NameSet → Type 0
  NoneTold value names others =
      (o m z : ℕ) → Has others o → Has names m → Has names z → adjacent g m z ≡ not value → ToldApart g o m z → ⊥

  abbrev NoPath : ℕ → Type 0
  NoPath x = (a b c d : ℕ) → IsInducedPathWith (adjacent g) g.vertices x a b c d → ⊥

  no_path_at : (x : ℕ) (near far : NameSet) → IsSide g x true near → IsSide g x false far → NoneTold false far near → NoneTold true near far → NoPath x
  no_path_at x near far is_near is_far outer inner =
      no_path_with x
      (λ b c d is. outer b c d (near_has b is.edges.0)
      (is_far.all c (vertex b c is.edges.1) (told_apart (adjacent g) c x d is.edges.2 is.apart.1) is.apart.0)
      (is_far.all d (vertex c d is.edges.2) (told_apart (adjacent g) d x c (adjacent_sym g d c ∙ is.edges.2) is.apart.0) is.apart.1)
      is.edges.2 (record { sees = is.edges.1; misses = is.apart.2 }))
      (λ a b c is. inner c b a
      (is_far.all c (vertex b c is.edges.2) (λ same. told_apart (adjacent g) x c a (adjacent_sym g x a ∙ is.edges.0) (adjacent_sym g c a ∙ is.apart.1) (sym same)) is.apart.2)
      (near_has b is.edges.1) (near_has a (adjacent_sym g x a ∙ is.edges.0)) (adjacent_sym g b a ∙ is.apart.0)
      (record { sees = adjacent_sym g c b ∙ is.edges.2; misses = adjacent_sym g c a ∙ is.apart.1 }))
    where
      near_has : (z : ℕ) → adjacent g x z ≡ true → Has near z
      near_has z sees = is_near.all z (vertex x z sees) (λ same. (adjacent_ends is_graph x z sees).2 (sym same)) sees

  -- where neither side tells apart two of one part of the other side, no path holds x
  pub no_path_by_sides : (x : ℕ) (value : Bool) (first second : NameSet) → IsSide g x value first → IsSide g x (not value) second →
      NoneTold value first second → NoneTold (not value) second first → NoPath x
  no_path_by_sides x true first second is_first is_second by_first by_second = no_path_at x first second is_first is_second by_second by_first
  no_path_by_sides x false first second is_first is_second by_first by_second = no_path_at x second first is_second is_first by_first by_second

  pub adjacency : IsAdjacency (adjacent g)
  adjacency = record { symmetric = adjacent_sym g; irreflexive = adjacent_self is_graph }

  pub part_whole : (names part : NameSet) (value : Bool) (y : ℕ) → IsComponent (adjacent g) names y part value → (a : NameSet) → IsSplit (adjacent g) part a value → ⊥
  part_whole names part value y is = component_unsplit (undirected adjacency) names part value y refl is

  -- a name that tells two of a part apart tells two apart that are to each other as value doesn't say
  pub no_telling : (part others : NameSet) (value : Bool) (o : ℕ) → ((a : NameSet) → IsSplit (adjacent g) part a value → ⊥) → IsSplitter (adjacent g) others part o →
      ((m z : ℕ) → Has part m → Has part z → adjacent g m z ≡ not value → ToldApart g o m z → ⊥) → ⊥
  no_telling part others value o whole tells none =
      elim (cases_Bool (adjacent g o p)) [
        | inl seen ↦ crossing p q hp hq seen (false_from_ne_true _ (λ k. tells.tells.4 (seen ∙ sym k)))
        | inr missed ↦ crossing q p hq hp (true_from_ne_false _ (λ k. tells.tells.4 (missed ∙ sym k))) missed
      ]
    where
      p : ℕ
      p = tells.tells.0

      q : ℕ
      q = tells.tells.1

      hp : Has part p
      hp = tells.tells.2

      hq : Has part q
      hq = tells.tells.3

      crossing : (a b : ℕ) → Has part a → Has part b → adjacent g o a ≡ true → adjacent g o b ≡ false → ⊥
      crossing a b ha hb sees misses =
          let pair = crossing_pair part value (λ z. adjacent g o z) a b whole ha hb sees misses in
          none pair.0 pair.1 pair.2 pair.3 pair.6 (record { sees = pair.4; misses = pair.5 })

  -- where no name tells two of a part apart
  pub none_tells : (part others : NameSet) → Disjoint part others → ((o : ℕ) → IsSplitter (adjacent g) others part o → ⊥) →
      (o m z : ℕ) → Has others o → Has part m → Has part z → ToldApart g o m z → ⊥
  none_tells part others apart none o m z ho hm hz told = none o (record {
    inside = ho;
    outside = false_from_ne_true _ (λ h. clash ho (apart o h));
    tells = (m, z, hm, hz, λ same. clash told.sees (same ∙ told.misses));
  })

-- ---- the search over the parts

-- no one of others tells apart two names in parts searched that are to each other as value doesn't say
pub record Searched (g : PlainGraph) (names others : NameSet) (value : Bool) (left : NameSet) : Type 0 where
  pub inside : Within left names
  pub done : (o m z : ℕ) → Has others o → Has names m → Lacks left m → Has names z → Lacks left z → adjacent g m z ≡ not value → ToldApart g o m z → ⊥

-- one of two names that are told apart is met
pub Searched-start : (g : PlainGraph) (names others : NameSet) (value : Bool) (left : NameSet) → Within left names → ((z : ℕ) → IsMet g names others value z → Has left z) →
    Searched g names others value left
Searched-start g names others false left inside met = record {
  inside = inside;
  done = λ o m z ho hm lacks hz other mz told. clash (met m (record { inside = hm; by = (o, ho, told.sees) })) lacks;
}
Searched-start g names others true left inside met = record {
  inside = inside;
  done = λ o m z ho hm other hz lacks mz told. clash (met z (record { inside = hz; by = (o, ho, told.misses) })) lacks;
}

pub Searched-more : (g : PlainGraph) (names others : NameSet) (value : Bool) (left part rest : NameSet) (y : ℕ) → Searched g names others value left →
    IsComponent (adjacent g) names y part value → rest ≡ difference left part →
    ((o m z : ℕ) → Has others o → Has part m → Has part z → ToldApart g o m z → ⊥) → Searched g names others value rest
Searched-more g names others value left part rest y before is is_rest none = record {
  inside = λ z h. before.inside z (of_minus left part z (Has-along rest _ is_rest z h)).0;
  done = λ o m z ho hm lacks_m hz lacks_z mz told. elim (gone m lacks_m) [
    | inl old ↦ elim (gone z lacks_z) [
      | inl same ↦ before.done o m z ho hm old hz same mz told
      | inr new ↦ none o m z ho (closed_follow names part value is.closed z m new hm (adjacent_sym g z m ∙ mz)) new told
    ]
    | inr new ↦ none o m z ho new (closed_follow names part value is.closed m z new hz mz) told
  ];
}
  where
    gone : (w : ℕ) → Lacks rest w → Lacks left w ⊎ Has part w
    gone w lacks = of_minus_lacks left part w (ap (λ s. contains s w) (sym is_rest) ∙ lacks)

-- ---- the names that are met

-- those that an earlier one of others meets have gone from left to met
pub record Meeting (g : PlainGraph) (names others : NameSet) (value : Bool) (left met : NameSet) (to_come : List ℕ) : Type 0 where
  pub walked : Walked others to_come (λ o. (z : ℕ) → Has left z → adjacent g o z ≡ not value → ⊥)
  pub whole : (z : ℕ) → Has names z → Has left z ⊎ Has met z
  pub inside : Within left names
  pub only : (z : ℕ) → Has met z → IsMet g names others value z

pub Meeting-start : (g : PlainGraph) (names others : NameSet) (value : Bool) (left met : NameSet) (to_come : List ℕ) → left ≡ names → met ≡ empty → Walked others to_come (λ o. (z : ℕ) → Has left z → adjacent g o z ≡ not value → ⊥) →
    Meeting g names others value left met to_come
Meeting-start g names others value left met to_come is_left is_met walked = record {
  walked = walked;
  whole = λ z h. inl (Has-along names left (sym is_left) z h);
  inside = Has-along left names is_left;
  only = λ z h. clash h (empty_if met is_met z);
}

pub Meeting-more : {g : PlainGraph} → IsGraph g → (names others : NameSet) (value : Bool) (left met left' met' : NameSet) (to_come : List ℕ) → Meeting g names others value left met to_come →
    (o : ℕ) (rest : List ℕ) → to_come ≡ o ∷ rest → left' ≡ difference left (seen_as g o (not value) left) → met' ≡ union met (seen_as g o (not value) left) →
    Meeting g names others value left' met' rest
Meeting-more {g} is_graph names others value left met left' met' to_come before o rest steps is_left is_met = record {
  walked = Walked-more (Walked-map before.walked (λ w none z h. none z (of_left z h).0)) o rest steps
      (λ z h sees. clash (seen.0 z (of_left z h).0 sees) (of_left z h).1);
  whole = λ z h. elim (before.whole z h) [
    | inl stays ↦ elim (cases_Bool (contains (seen_as g o (not value) left) z)) [
      | inl t ↦ inr (Has-along _ met' (sym is_met) z (union_right met (seen_as g o (not value) left) z t))
      | inr f ↦ inl (Has-along _ left' (sym is_left) z (minus_has left (seen_as g o (not value) left) z stays f))
    ]
    | inr old ↦ inr (Has-along _ met' (sym is_met) z (union_left met (seen_as g o (not value) left) z old))
  ];
  inside = λ z h. before.inside z (of_left z h).0;
  only = λ z h. elim (of_union met (seen_as g o (not value) left) z (Has-along met' _ is_met z h)) [
    | inl old ↦ before.only z old
    | inr new ↦ record {
      inside = before.inside z (seen.1 z new).0;
      by = (o, Walked-item before.walked o rest steps, (seen.1 z new).1);
    }
  ];
}
  where
    seen : SeenAs is_graph o (not value) left (seen_as g o (not value) left)
    seen = seen_all is_graph o (not value) left

    of_left : (z : ℕ) → Has left' z → Has left z × Lacks (seen_as g o (not value) left) z
    of_left z h = of_minus left (seen_as g o (not value) left) z (Has-along left' _ is_left z h)

pub Meeting-end : (g : PlainGraph) (names others : NameSet) (value : Bool) (left met : NameSet) (to_come : List ℕ) → Meeting g names others value left met to_come →
    (rest : List ℕ) → (to_come ≡ []) × (rest ≡ []) → (z : ℕ) → Has met z ↔ IsMet g names others value z
Meeting-end g names others value left met to_come is rest steps z = (
  is.only z,
  λ met_by. elim (is.whole z met_by.inside) [
    | inl stays ↦ absurd (Walked-end is.walked rest steps met_by.by.0 met_by.by.1 z stays met_by.by.2)
    | inr has ↦ has
  ],
)

-- ---- the members that one name sees

-- nothing that o misses is to m as value doesn't say
pub record NothingAcross (g : PlainGraph) (part : NameSet) (o : ℕ) (value : Bool) (m : ℕ) : Type 0 where
  pub none : (z : ℕ) → Has part z → adjacent g m z ≡ not value → ToldApart g o m z → ⊥

module _ {g : PlainGraph} (is_graph : IsGraph g) (o : ℕ) (part row : NameSet) (is_row : row ≡ neighbours g o) where
  pub of_seen : (m : ℕ) → Has (intersection part (neighbours g o)) m → Has part m × (adjacent g o m ≡ true)
  of_seen m h = let parts = of_meet part (neighbours g o) m h in (parts.0, sym (contains-neighbours is_graph o m) ∙ parts.1)

  pub seen_has : (m : ℕ) → Has part m → adjacent g o m ≡ true → Has (intersection part (neighbours g o)) m
  seen_has m h sees = meet_has part (neighbours g o) m h (contains-neighbours is_graph o m ∙ sees)

  pub of_rest : (rest : NameSet) → rest ≡ difference part row → (z : ℕ) → Has rest z → Has part z × (adjacent g o z ≡ false)
  of_rest rest is_rest z h =
      let parts = of_minus part row z (Has-along rest _ is_rest z h) in (parts.0, sym (near_is is_graph o row is_row z) ∙ parts.1)

  pub rest_has : (rest : NameSet) → rest ≡ difference part row → (z : ℕ) → Has part z → adjacent g o z ≡ false → Has rest z
  rest_has rest is_rest z h misses = Has-along _ rest (sym is_rest) z (minus_has part row z h (near_is is_graph o row is_row z ∙ misses))

  pub NothingAcross-if : (rest : NameSet) → rest ≡ difference part row → (value : Bool) (m : ℕ) →
      ((z : ℕ) → Has rest z → adjacent g m z ≡ not value → ⊥) → NothingAcross g part o value m
  NothingAcross-if rest is_rest value m none = record { none = λ z h mz told. none z (rest_has rest is_rest z h told.misses) mz }

-- ---- the first name across

module _ {g : PlainGraph} (is_graph : IsGraph g) (m : ℕ) (row rest both : NameSet) (is_row : row ≡ neighbours g m) where
  pub found_apart : (value : Bool) → value ≡ true → both ≡ difference rest row → (z : ℕ) → IsLeastFrom both 0 z → Has rest z × (adjacent g m z ≡ not value)
  found_apart value is is_both z least =
      let parts = of_minus rest row z (Has-along both _ is_both z least.member) in
      (parts.0, sym (near_is is_graph m row is_row z) ∙ parts.1 ∙ sym (ap not is))

  pub none_apart : (value : Bool) → value ≡ true → both ≡ difference rest row → NoneFrom both 0 → (z : ℕ) → Has rest z → adjacent g m z ≡ not value → ⊥
  none_apart value is is_both none z h mz =
      clash (Has-along _ both (sym is_both) z (minus_has rest row z h (near_is is_graph m row is_row z ∙ mz ∙ ap not is))) (none_lacks both none z)

  pub found_joined : (value : Bool) → value ≡ false → both ≡ intersection rest row → (z : ℕ) → IsLeastFrom both 0 z → Has rest z × (adjacent g m z ≡ not value)
  found_joined value is is_both z least =
      let parts = of_meet rest row z (Has-along both _ is_both z least.member) in
      (parts.0, sym (near_is is_graph m row is_row z) ∙ parts.1 ∙ sym (ap not is))

  pub none_joined : (value : Bool) → value ≡ false → both ≡ intersection rest row → NoneFrom both 0 → (z : ℕ) → Has rest z → adjacent g m z ≡ not value → ⊥
  none_joined value is is_both none z h mz =
      clash (Has-along _ both (sym is_both) z (meet_has rest row z h (near_is is_graph m row is_row z ∙ mz ∙ ap not is))) (none_lacks both none z)

-- ---- the search over all vertices

-- no induced path holds x
pub record NoPathWith (g : PlainGraph) (x : ℕ) : Type 0 where
  pub none : (a b c d : ℕ) → IsInducedPathWith (adjacent g) g.vertices x a b c d → ⊥
