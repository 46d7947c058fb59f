-- What the functions that search answer, from what they call: sets by their members, adjacency by rows, and the turns of a search.
use Rattle.std.proofs.Common.{◌≡◌, ◌↔◌, ℕ, Bool, true, false, not, ◌≢◌, ◌⊎◌, refl, sym, ◌∙◌, ap, ap₂, subst, inl, inr, Option, Some, None, IfSome, IfNone}
use Rattle.std.specs.Option.{is_some}
use Rattle.std.specs.FinSet.{contains, empty, insert, remove, union, intersection, difference}
use Rattle.md_graph.specs.NameSet.{NoneFrom, IsLeastFrom, symmetric_difference}
use Rattle.md_graph.specs.PlainGraph.{PlainGraph, IsGraph, adjacent, neighbours}
use Rattle.md_graph.proofs.GraphLemmas.{adjacent_sym, adjacent_self, contains-neighbours}
use Rattle.md_graph.specs.Sets.{NameSet, Has, Lacks, Within, Disjoint, only_name}
use Rattle.md_graph.specs.Adjacency.{IsAdjacency}
use Rattle.md_modules.specs.Colours.{IsColouring}
use Rattle.md_modules.specs.Modules.{IsModule, IsLeastModule, IsLeastModuleOver}
use Rattle.md_modules.specs.Kinds.{IsSplit}
use Rattle.md_modules.specs.Components.{IsComponent}
use Rattle.md_modules.specs.Searches.{IsReaching}
use Rattle.md_modules.specs.Seen.{seen_as}
use Rattle.std.proofs.lemmas.Bool.{cases_Bool, true_from_ne_false, false_from_ne_true, not-true, not-false}
use Rattle.md_graph.proofs.SetLemmas.{clash, empty_lacks, insert_new, insert_old, of_insert, meet_has, of_meet, union_left, union_right, of_union, only_has, of_only, minus_has, of_minus, same_members, Has-along, remove_is, none_lacks, empty_if, if_empty, lacks_along, along_two, remove_insert, remove_left, remove_gone, of_remove, insert_lacks, minus_shared, meet_unshared, minus_twice, only_new, told_value, value_told}
use Rattle.md_graph.proofs.Search.{alike_unless}
use Rattle.md_modules.proofs.Modules.{undirected, other_way, single_module}
use Rattle.md_modules.proofs.Components.{other_value, not_own, component_unsplit, unsplit_component}
use Rattle.md_modules.proofs.Growth.{TakesUnless, IsGrowing, IsGoingBack, IsBackFrom, reach_start, reach_turn, reach_idle, reach_back, reach_end, grow_start, grow_turn, grow_end, back_start, back_turn, back_end, least_of_two}

-- ---- adjacency

-- the members of `among` that are adjacent to one of v and w, and not to both
abbrev pub apart_in : PlainGraph → ℕ → ℕ → NameSet → NameSet
apart_in g v w among = intersection among (symmetric_difference (neighbours g v) (neighbours g w))

module _ {g : PlainGraph} (graph : IsGraph g) where
  pub graph_adjacency : IsAdjacency (adjacent g)
  graph_adjacency = record { symmetric = adjacent_sym g; irreflexive = adjacent_self graph }

  abbrev pub SeenAs : ℕ → Bool → NameSet → NameSet → Type 0
  SeenAs w v among result = ((y : ℕ) → Has among y → adjacent g w y ≡ v → Has result y) × ((y : ℕ) → Has result y → Has among y × (adjacent g w y ≡ v))

  pub seen_all : (w : ℕ) (v : Bool) (among : NameSet) → SeenAs w v among (seen_as g w v among)
  seen_all w true among = (
    λ y h k. meet_has among (neighbours g w) y h (contains-neighbours graph w y ∙ k),
    λ y h.
        let two : Has among y × Has (neighbours g w) y = of_meet among (neighbours g w) y h in
        (two.0, sym (contains-neighbours graph w y) ∙ two.1),
  )
  seen_all w false among = (
    λ y h k. minus_has among (neighbours g w) y h (contains-neighbours graph w y ∙ k),
    λ y h.
        let two : Has among y × Lacks (neighbours g w) y = of_minus among (neighbours g w) y h in
        (two.0, sym (contains-neighbours graph w y) ∙ two.1),
  )

  -- those that w sees otherwise
  pub seen_otherwise : (w : ℕ) (v : Bool) (among : NameSet) → TakesUnless (λ y. adjacent g w y ≡ v) among (seen_as g w (not v) among)
  seen_otherwise w v among =
      let seen : SeenAs w (not v) among (seen_as g w (not v) among) = seen_all w (not v) among in (
        λ y h l. other_value (adjacent g w y) v (λ k. clash (seen.0 y h k) l),
        λ y h. ((seen.1 y h).0, λ same. not_own (adjacent g w y) v same (seen.1 y h).1),
      )

  -- those that v and w see otherwise
  pub told_all : (v w : ℕ) (among : NameSet) → TakesUnless (λ y. adjacent g v y ≡ adjacent g w y) among (apart_in g v w among)
  told_all v w among = (λ y h l. alike_unless (adjacent g v y) (adjacent g w y) (λ differ. clash (has y h differ) l), only) where
    first : NameSet
    first = neighbours g v

    second : NameSet
    second = neighbours g w

    of_first : (y : ℕ) → contains first y ≡ adjacent g v y
    of_first y = contains-neighbours graph v y

    of_second : (y : ℕ) → contains second y ≡ adjacent g w y
    of_second y = contains-neighbours graph w y

    has : (y : ℕ) → Has among y → adjacent g v y ≢ adjacent g w y → Has (apart_in g v w among) y
    has y h differ = meet_has among (symmetric_difference first second) y h (elim (cases_Bool (adjacent g v y)) [
      | inl t ↦ union_left (difference first second) (difference second first) y
          (minus_has first second y (of_first y ∙ t) (of_second y ∙ false_from_ne_true _ (λ k. differ (t ∙ sym k))))
      | inr f ↦ union_right (difference first second) (difference second first) y
          (minus_has second first y (of_second y ∙ true_from_ne_false _ (λ k. differ (f ∙ sym k))) (of_first y ∙ f))
    ])

    only : (y : ℕ) → Has (apart_in g v w among) y → Has among y × (adjacent g v y ≢ adjacent g w y)
    only y h =
        let in_both : Has among y × Has (symmetric_difference first second) y = of_meet among (symmetric_difference first second) y h in (
          in_both.0,
          elim (of_union (difference first second) (difference second first) y in_both.1) [
            | inl i ↦
                let two : Has first y × Lacks second y = of_minus first second y i in
                λ same. clash (sym same ∙ sym (of_first y) ∙ two.0) (sym (of_second y) ∙ two.1)
            | inr i ↦
                let two : Has second y × Lacks first y = of_minus second first y i in
                λ same. clash (same ∙ sym (of_second y) ∙ two.0) (sym (of_first y) ∙ two.1)
          ],
        )

-- ---- moves

pub moved_shared : (g : PlainGraph) (w : ℕ) (v : Bool) (left row left' todo todo' : NameSet) → v ≡ true → row ≡ neighbours g w → left' ≡ difference left row → todo' ≡ union todo (intersection left row) →
    (left' ≡ difference left (seen_as g w v left)) × (todo' ≡ union todo (seen_as g w v left))
moved_shared g w v left row left' todo todo' is_true is_row is_left is_todo = (
  is_left ∙ minus_shared left row ∙ ap (λ r. difference left (intersection left r)) is_row ∙ ap (λ b. difference left (seen_as g w b left)) (sym is_true),
  is_todo ∙ ap (λ r. union todo (intersection left r)) is_row ∙ ap (λ b. union todo (seen_as g w b left)) (sym is_true),
)

pub moved_unshared : (g : PlainGraph) (w : ℕ) (v : Bool) (left row left' todo todo' : NameSet) → v ≡ false → row ≡ neighbours g w → left' ≡ intersection left row → todo' ≡ union todo (difference left row) →
    (left' ≡ difference left (seen_as g w v left)) × (todo' ≡ union todo (seen_as g w v left))
moved_unshared g w v left row left' todo todo' is_false is_row is_left is_todo = (
  is_left ∙ meet_unshared left row ∙ ap (λ r. difference left (difference left r)) is_row ∙ ap (λ b. difference left (seen_as g w b left)) (sym is_false),
  is_todo ∙ ap (λ r. union todo (difference left r)) is_row ∙ ap (λ b. union todo (seen_as g w b left)) (sym is_false),
)

-- the rest of those that are told apart
pub rest_apart : (g : PlainGraph) (v w : ℕ) (left first second left' : NameSet) → first ≡ neighbours g v → second ≡ neighbours g w → left' ≡ difference left (symmetric_difference first second) → left' ≡ difference left (apart_in g v w left)
rest_apart g v w left first second left' is_first is_second is_left =
    is_left ∙ minus_shared left (symmetric_difference first second) ∙ ap₂ (λ a b. difference left (intersection left (symmetric_difference a b))) is_first is_second

pub taken_apart : (g : PlainGraph) (v w : ℕ) (left first second todo todo' : NameSet) → first ≡ neighbours g v → second ≡ neighbours g w → todo' ≡ union todo (intersection left (symmetric_difference first second)) → todo' ≡ union todo (apart_in g v w left)
taken_apart g v w left first second todo todo' is_first is_second is_todo =
    is_todo ∙ ap₂ (λ a b. union todo (intersection left (symmetric_difference a b))) is_first is_second

-- ---- turns

insert_minus : (s new : NameSet) (v : ℕ) → Lacks new v → insert (difference s new) v ≡ difference (insert s v) new
insert_minus s new v out = same_members _ _
    (λ y h. elim (of_insert (difference s new) v y h) [
      | inl same ↦ subst (Has (difference (insert s v) new)) (sym same) (minus_has (insert s v) new v (insert_new s v) out)
      | inr old ↦ let two : Has s y × Lacks new y = of_minus s new y old in minus_has (insert s v) new y (insert_old s v y two.0) two.1
    ])
    (λ y h.
    let two : Has (insert s v) y × Lacks new y = of_minus (insert s v) new y h in
    elim (of_insert s v y two.0) [
      | inl same ↦ subst (Has (insert (difference s new) v)) (sym same) (insert_new (difference s new) v)
      | inr old ↦ insert_old (difference s new) v y (minus_has s new y old two.1)
    ])

pub back_fixed : (s left into : NameSet) (v : ℕ) → Within left s → into ≡ difference s left → Has left v → Has (difference s into) v
back_fixed s left into v part is h = Has-along _ _ (sym (minus_twice s left into part is)) v h

-- where nothing is to be looked at but v itself, and the members of begun are u and v
pub pair_seen : (e : ℕ → ℕ → Bool) (begun todo : NameSet) (u v : ℕ) → begun ≡ insert (only_name u) v → todo ≡ only_name v → (w : ℕ) → Has begun w → Lacks todo w → (y : ℕ) → e u y ≡ e w y
pair_seen e begun todo u v is is_todo w h l y = elim (of_insert (only_name u) v w (Has-along _ _ is w h)) [
  | inl same ↦ clash (Has-along _ _ (sym is_todo) w (subst (Has (only_name v)) (sym same) (only_has v))) l
  | inr old ↦ ap (λ b. e b y) (sym (of_only u w old))
]

-- w sees none of those left otherwise
pub not_seen : (g : PlainGraph) (left : NameSet) (w : ℕ) (v : Bool) (r : Bool) → r ≡ false → ((r ≡ true) ↔ ((t : ℕ) × Has left t × (adjacent g w t ≡ not v))) → (y : ℕ) → Has left y → adjacent g w y ≡ v
not_seen g left w v r is test y h = other_value (adjacent g w y) v (λ other. clash (test.1 (y, h, other)) is)

-- those that see one of the names taken otherwise
pub seeing_otherwise : (g : PlainGraph) (left taken new : NameSet) (v : Bool) → ((y : ℕ) → Has new y ↔ (Has left y × ((t : ℕ) × Has taken t × (adjacent g y t ≡ not v)))) →
    TakesUnless (λ y. (t : ℕ) → Has taken t → adjacent g y t ≡ v) left new
seeing_otherwise g left taken new v sees = (
  λ y h l t ht. other_value (adjacent g y t) v (λ other. clash ((sees y).1 (h, (t, ht, other))) l),
  λ y h. let (hl, seen) = (sees y).0 h in (hl, λ all. not_own (adjacent g y seen.0) v (all seen.0 seen.1) seen.2),
)

module _ {C : Type 0} {e : ℕ → ℕ → C} where
  pub reach_begin : (s left todo : NameSet) (v : C) (x : ℕ) → Has s x → left ≡ remove s x → todo ≡ insert empty x → IsReaching e s v x left todo
  reach_begin s left todo v x h is_left is_todo =
      along_two (IsReaching e s v x) _ _ left todo (is_left ∙ remove_is s x) is_todo (reach_start s v x h)

  pub reach_more : (s left todo new left' todo' : NameSet) (v : C) (x w : ℕ) → IsReaching e s v x left todo → Has todo w → TakesUnless (λ y. e w y ≡ v) left new →
      left' ≡ difference left new → todo' ≡ union (remove todo w) new → IsReaching e s v x left' todo'
  reach_more s left todo new left' todo' v x w is h takes is_left is_todo =
      along_two (IsReaching e s v x) _ _ left' todo' is_left is_todo (reach_turn s left todo new v x w is h takes)

  pub reach_passed : (s left todo todo' : NameSet) (v : C) (x w : ℕ) → IsReaching e s v x left todo → todo' ≡ remove todo w → ((y : ℕ) → Has left y → e w y ≡ v) →
      IsReaching e s v x left todo'
  reach_passed s left todo todo' v x w is is_todo all = subst (IsReaching e s v x left) (sym is_todo) (reach_idle s left todo v x w is all)

  pub reach_backed : {reverse : C → C} → IsColouring reverse e → (s left todo taken new none left' todo' : NameSet) (v : C) (x : ℕ) → reverse v ≡ v → IsReaching e s v x left todo → taken ≡ difference s left →
      TakesUnless (λ y. (t : ℕ) → Has taken t → e y t ≡ v) left new → none ≡ empty → left' ≡ difference left new → todo' ≡ union none (intersection left new) → IsReaching e s v x left' todo'
  reach_backed col s left todo taken new none left' todo' v x own is is_taken takes is_none is_left is_todo =
      along_two (IsReaching e s v x) _ _ left' todo' is_left (is_todo ∙ only_new left new none is_none (λ y h. (takes.1 y h).0))
      (reach_back col s left todo new v x own is (subst (λ t. TakesUnless (λ y. (z : ℕ) → Has t z → e y z ≡ v) left new) is_taken takes))

  -- what is left isn't taken
  pub left_apart : (s left todo : NameSet) (v : C) (x : ℕ) → IsReaching e s v x left todo → Disjoint left todo
  left_apart s left todo v x is y h = false_from_ne_true _ (λ k. clash h (is.taken y k).1)

  pub reach_stop : (s left todo : NameSet) (v : C) (x : ℕ) → IsReaching e s v x left todo → ((y : ℕ) → Lacks left y) ⊎ ((y : ℕ) → Lacks todo y) → IsComponent e s x (difference s left) v
  reach_stop s left todo v x is (inl all) =
      reach_end s left empty v x (record {
        start = is.start;
        inside = is.inside;
        taken = λ y h. clash h (empty_lacks y);
        least = is.least;
        looked = λ w hs l t y k. clash k (all y);
      }) empty_lacks
  reach_stop s left todo v x is (inr none) = reach_end s left todo v x is none

  pub component_along : (s c d : NameSet) (v : C) (x : ℕ) → d ≡ c → IsComponent e s x c v → IsComponent e s x d v
  component_along s c d v x same is = subst (λ t. IsComponent e s x t v) (sym same) is

  pub grow_begin : (s begun todo left : NameSet) (v : ℕ) → Has begun v → Within begun s → Within todo begun →
      ((w : ℕ) → Has begun w → Lacks todo w → (y : ℕ) → Has s y → Lacks begun y → e v y ≡ e w y) → left ≡ difference s begun → IsGrowing e s v begun left todo
  grow_begin s begun todo left v hv inside among seen is = subst (λ t. IsGrowing e s v begun t todo) (sym is) (grow_start s begun todo v hv inside among seen)

  pub back_begin : (s left todo : NameSet) (v j : ℕ) → v ≢ j → IsLeastModule e s v j s → left ≡ remove (remove s j) v → todo ≡ insert empty j → IsBackFrom e s v j left todo
  back_begin s left todo v j differ whole is_left is_todo = record {
    going = along_two (IsGoingBack e s v) _ _ (insert left v) todo
        (ap (λ t. insert t v) is_left ∙ remove_insert (remove s j) v (remove_left s j v differ whole.has_left) ∙ remove_is s j) is_todo
        (back_start s v j whole.has_left whole.has_right differ whole.least);
    without = lacks_along left _ is_left v (remove_gone (remove s j) v);
    begun = lacks_along left _ is_left j (false_from_ne_true _ (λ h. clash (of_remove (remove s j) v j h).1 (remove_gone s j)));
  }

  pub back_more : (s left todo new left' todo' : NameSet) (v j w : ℕ) (value : C) → IsBackFrom e s v j left todo → Has todo w → value ≡ e w v → TakesUnless (λ y. e w y ≡ value) left new →
      left' ≡ difference left new → todo' ≡ union (remove todo w) new → IsBackFrom e s v j left' todo'
  back_more s left todo new left' todo' v j w value is h same takes is_left is_todo = record {
    going = along_two (IsGoingBack e s v) _ _ (insert left' v) todo'
        (ap (λ t. insert t v) is_left ∙ insert_minus left new v (false_from_ne_true _ (λ k. clash (takes.1 v k).0 is.without))) is_todo
        (back_turn s (insert left v) todo new v w is.going h (
          λ y k l. elim (of_insert left v y k) [ inl same_v ↦ ap (e w) same_v | inr old ↦ takes.0 y old l ∙ same ],
          λ y k. (insert_old left v y (takes.1 y k).0, λ p. (takes.1 y k).1 (p ∙ sym same)),
        ));
    without = lacks_along left' _ is_left v (false_from_ne_true _ (λ k. clash (of_minus left new v k).0 is.without));
    begun = lacks_along left' _ is_left j (false_from_ne_true _ (λ k. clash (of_minus left new j k).0 is.begun));
  }

  -- where nothing is left, or nothing is to be looked at, v is put back
  pub back_stop : (s left todo back : NameSet) (v j : ℕ) → v ≢ j → IsBackFrom e s v j left todo → ((y : ℕ) → Lacks left y) ⊎ ((y : ℕ) → Lacks todo y) → back ≡ insert left v →
      IsGoingBack e s v back empty × Lacks back j
  back_stop s left todo back v j differ is ends is_back = (
    subst (λ t. IsGoingBack e s v t empty) (sym is_back) (record {
      start = is.going.start;
      inside = is.going.inside;
      taken = λ y h. clash h (empty_lacks y);
      whole = is.going.whole;
      looked = λ w hs l t y k. elim ends [
        | inl all ↦ elim (of_insert left v y k) [ inl same ↦ ap (e w) same | inr old ↦ clash old (all y) ]
        | inr none ↦ is.going.looked w hs l (none w) y k
      ];
    }),
    lacks_along back _ is_back j (insert_lacks left v j (λ same. differ (sym same)) is.begun),
  )

  pub back_names : (s left todo : NameSet) (v j : ℕ) → IsGoingBack e s v left todo × Lacks left j → IsLeastModule e s v j s → ((y : ℕ) → Lacks todo y) →
      (i : ℕ) → Has s i → Lacks left i ↔ ((i ≢ v) × IsLeastModule e s v i s)
  back_names s left todo v j is whole none i hi = (
    λ l. (
      λ same. clash (subst (Has left) (sym same) is.0.start) l,
      record { is_module = whole.is_module; has_left = whole.has_left; has_right = hi; least = λ m module_is p q. is.0.whole i hi l m module_is p q },
    ),
    λ w. false_from_ne_true _ (λ h. clash (w.1.least left (back_end s left todo v is.0 none) is.0.start h j whole.has_right) is.1),
  )

  -- the names taken are those of s that aren't left
  pub back_taken : (s left into : NameSet) (v : ℕ) → into ≡ difference s left → ((i : ℕ) → Has s i → Lacks left i ↔ ((i ≢ v) × IsLeastModule e s v i s)) →
      (i : ℕ) → Has into i ↔ (Has s i × (i ≢ v) × IsLeastModule e s v i s)
  back_taken s left into v is names i = (
    λ h.
        let two : Has s i × Lacks left i = of_minus s left i (Has-along _ _ is i h) in
        let w : (i ≢ v) × IsLeastModule e s v i s = (names i two.0).0 two.1 in
        (two.0, w.0, w.1),
    λ w. Has-along _ _ (sym is) i (minus_has s left i w.0 ((names i w.0).1 (w.1, w.2))),
  )

  pub back_rest : (s left into : NameSet) → Within left s → into ≡ difference s left → IsModule e s left → IsModule e s (difference s into)
  back_rest s left into part is module_is = subst (IsModule e s) (sym (minus_twice s left into part is)) module_is

  pub least_over_along : (s begun c d : NameSet) → d ≡ c → IsLeastModuleOver e s begun c → IsLeastModuleOver e s begun d
  least_over_along s begun c d same is = subst (IsLeastModuleOver e s begun) (sym same) is

  pub least_alone : (s k : NameSet) (u v : ℕ) → u ≡ v → Has s u → k ≡ only_name u → IsLeastModule e s u v k
  least_alone s k u v same hu is = record {
    is_module = subst (IsModule e s) (sym is) (single_module s u hu);
    has_left = Has-along _ _ (sym is) u (only_has u);
    has_right = Has-along _ _ (sym is) v (subst (Has (only_name u)) same (only_has u));
    least = λ m module_is p q y h. subst (Has m) (sym (of_only u y (Has-along _ _ is y h))) p;
  }

  pub least_pair : (s begun k : NameSet) (u v : ℕ) → begun ≡ insert (only_name u) v → IsLeastModuleOver e s begun k → IsLeastModule e s u v k
  least_pair s begun k u v is least =
      least_of_two s k begun u v
      (λ y h. elim (of_insert (only_name u) v y (Has-along _ _ is y h)) [ inl same ↦ inr same | inr old ↦ inl (of_only u y old) ])
      (Has-along _ _ (sym is) u (insert_old (only_name u) v u (only_has u)))
      (Has-along _ _ (sym is) v (insert_new (only_name u) v)) least

  module _ {reverse : C → C} (col : IsColouring reverse e) where
    pub grow_more : (s begun left todo new left' todo' : NameSet) (v w : ℕ) → IsGrowing e s v begun left todo → Has todo w → TakesUnless (λ y. e v y ≡ e w y) left new →
        left' ≡ difference left new → todo' ≡ union (remove todo w) new → IsGrowing e s v begun left' todo'
    grow_more s begun left todo new left' todo' v w is h takes is_left is_todo =
        along_two (IsGrowing e s v begun) _ _ left' todo' is_left is_todo (grow_turn col s begun left todo new v w is h takes)

    pub grow_stop : (s begun left todo : NameSet) (v : ℕ) → IsGrowing e s v begun left todo → ((y : ℕ) → Lacks left y) ⊎ ((y : ℕ) → Lacks todo y) → IsLeastModuleOver e s begun (difference s left)
    grow_stop s begun left todo v is (inl all) =
        grow_end col s begun left empty v (record {
          start = is.start;
          begins = is.begins;
          inside = is.inside;
          taken = λ y h. clash h (empty_lacks y);
          least = is.least;
          looked = λ w hs l t y k. clash k (all y);
        }) empty_lacks
    grow_stop s begun left todo v is (inr none) = grow_end col s begun left todo v is none

    -- a set whose component leaves nothing doesn't split, and the other way round
    pub whole_is : (s left : NameSet) (v : C) (x : ℕ) → reverse v ≡ v → Within left s → IsComponent e s x (difference s left) v → (left ≡ empty) ↔ (((part : NameSet) × IsSplit e s part v) → ⊥)
    whole_is s left v x own part is = (
      λ none split.
          let all : difference s left ≡ s = same_members _ _ (λ y h. (of_minus s left y h).0) (λ y h. minus_has s left y h (empty_if left none y)) in
          component_unsplit col s s v x own (component_along s (difference s left) s v x (sym all) is) split.0 split.1,
      λ no_split. if_empty left (λ y. false_from_ne_true _ (λ h.
          let all : difference s left ≡ s = unsplit_component s (difference s left) v x (λ a split. no_split (a, split)) is in
          clash h (of_minus s left y (Has-along _ _ (sym all) y (part y h))).1)),
    )

    abbrev pub AreAlike : ℕ → NameSet → NameSet → Type 0
    AreAlike v names others = (w : ℕ) → Has names w → (y : ℕ) → Has others y → e v y ≡ e w y

    pub module_if_alike : (s m others : NameSet) (v : ℕ) → Has m v → Within m s → others ≡ difference s m → AreAlike v m others ↔ IsModule e s m
    module_if_alike s m others v hv inside is = (
      λ alike. record {
        some = (v, hv);
        inside = inside;
        alike = λ a b x ha hb hx l.
            let out : Has others x = Has-along _ _ (sym is) x (minus_has s m x hx l) in
            other_way col a x b x (sym (alike a ha x out) ∙ alike b hb x out);
      },
      λ module_is w hw y hy.
          let two : Has s y × Lacks m y = of_minus s m y (Has-along _ _ is y hy) in
          other_way col y v y w (module_is.alike v w y hv hw two.0 two.1),
    )

-- ---- whether a name sees one of a set

abbrev pub Sees : PlainGraph → ℕ → Bool → NameSet → Type 0
Sees g w v among = (t : ℕ) × Has among t × (adjacent g w t ≡ v)

-- a first name told apart from a mark is one that is seen, where the mark says of no name of the set that it is seen
pub sees_test : {g : PlainGraph} → IsGraph g → (w : ℕ) (value : Bool) (among mark row : NameSet) (found : Option ℕ) (r : Bool) → row ≡ neighbours g w →
    ((y : ℕ) → Has among y → contains mark y ≡ not value) → IfSome found (IsLeastFrom (intersection among (symmetric_difference row mark)) 0) → IfNone found (NoneFrom (intersection among (symmetric_difference row mark)) 0) →
    r ≡ is_some found → (r ≡ true) ↔ Sees g w value among
sees_test {g} graph w value among mark row (Some least) r is_row is_mark some none is = (
  λ _.
      let two : Has among least × Has (symmetric_difference row mark) least = of_meet among (symmetric_difference row mark) least some.member in
      (least, two.0, sym (ap (λ s. contains s least) is_row ∙ contains-neighbours graph w least) ∙ told_value row mark value least (is_mark least two.0) two.1),
  λ _. is,
)
sees_test {g} graph w value among mark row None r is_row is_mark some none is = (
  λ t. clash t is,
  λ seen.
      let here : contains row seen.0 ≡ value = ap (λ s. contains s seen.0) is_row ∙ contains-neighbours graph w seen.0 ∙ seen.2 in
      clash (meet_has among (symmetric_difference row mark) seen.0 seen.1 (value_told row mark value seen.0 (is_mark seen.0 seen.1) here))
      (none_lacks (intersection among (symmetric_difference row mark)) none seen.0),
)

pub sees_seen : {g : PlainGraph} → IsGraph g → (w : ℕ) (value : Bool) (among apart row : NameSet) (found : Option ℕ) (r : Bool) → value ≡ true → row ≡ neighbours g w →
    Disjoint among apart → IfSome found (IsLeastFrom (intersection among (symmetric_difference row apart)) 0) → IfNone found (NoneFrom (intersection among (symmetric_difference row apart)) 0) →
    r ≡ is_some found → (r ≡ true) ↔ Sees g w value among
sees_seen {g} graph w value among apart row found r is_value is_row out some none is =
    sees_test graph w value among apart row found r is_row (λ y h. out y h ∙ ap not (sym is_value)) some none is

pub sees_unseen : {g : PlainGraph} → IsGraph g → (w : ℕ) (value : Bool) (among row : NameSet) (found : Option ℕ) (r : Bool) → value ≡ false → row ≡ neighbours g w →
    IfSome found (IsLeastFrom (intersection among (symmetric_difference row among)) 0) → IfNone found (NoneFrom (intersection among (symmetric_difference row among)) 0) →
    r ≡ is_some found → (r ≡ true) ↔ Sees g w value among
sees_unseen {g} graph w value among row found r is_value is_row some none is =
    sees_test graph w value among among row found r is_row (λ y h. h ∙ ap not (sym is_value)) some none is

-- ---- names told apart

-- no first name is told apart exactly where all are alike
pub alike_test : {g : PlainGraph} → IsGraph g → (v w : ℕ) (others first second : NameSet) (found : Option ℕ) (r : Bool) → first ≡ neighbours g v → second ≡ neighbours g w →
    IfSome found (IsLeastFrom (intersection others (symmetric_difference first second)) 0) → IfNone found (NoneFrom (intersection others (symmetric_difference first second)) 0) →
    is_some found ≡ not r → (r ≡ true) ↔ ((y : ℕ) → Has others y → adjacent g v y ≡ adjacent g w y)
alike_test {g} graph v w others first second (Some least) r is_first is_second some none is = (
  λ t. clash t (not-true r (sym is)),
  λ alike.
      let here : Has (apart_in g v w others) least = Has-along _ _ (ap₂ (λ a b. intersection others (symmetric_difference a b)) is_first is_second) least some.member in
      let two = (told_all graph v w others).1 least here in
      absurd (two.1 (alike least two.0)),
)
alike_test {g} graph v w others first second None r is_first is_second some none is = (
  λ t y h. (told_all graph v w others).0 y h
      (lacks_along (apart_in g v w others) _ (sym (ap₂ (λ a b. intersection others (symmetric_difference a b)) is_first is_second)) y (none_lacks (intersection others (symmetric_difference first second)) none y)),
  λ alike. not-false r (sym is),
)

-- ---- a search ends

pub module_test : {e : ℕ → ℕ → Bool} → IsAdjacency e → (s vertices m others : NameSet) (v : ℕ) (b : Bool) → vertices ≡ s → Has m v → Within m vertices →
    others ≡ difference vertices m → (b ≡ true) ↔ ((w : ℕ) → Has m w → (y : ℕ) → Has others y → e v y ≡ e w y) → (b ≡ true) ↔ IsModule e s m
module_test {e} adj s vertices m others v b same hv inside is_others alike =
    subst (λ t. (b ≡ true) ↔ IsModule e t m) same
    (let if_alike = module_if_alike (undirected adj) vertices m others v hv inside is_others in
    (λ t. if_alike.0 (alike.0 t), λ module_is. alike.1 (if_alike.1 module_is)))

-- ---- whether a graph splits

pub whole_test : {e : ℕ → ℕ → Bool} → IsAdjacency e → (s vertices left : NameSet) (v : Bool) (x : ℕ) (r : Bool) → s ≡ vertices → Within left s → IsComponent e s x (difference s left) v →
    (r ≡ true) ↔ (left ≡ empty) → (r ≡ true) ↔ (((part : NameSet) × IsSplit e vertices part v) → ⊥)
whole_test {e} adj s vertices left v x r same part is test =
    subst (λ t. (r ≡ true) ↔ (((part : NameSet) × IsSplit e t part v) → ⊥)) same
    (let whole = whole_is (undirected adj) s left v x refl part is in
    (λ t. whole.0 (test.0 t), λ no_split. test.1 (whole.1 no_split)))

-- ---- for the tests

pub least_whole : {e : ℕ → ℕ → Bool} (s k rest : NameSet) (u v : ℕ) → IsLeastModule e s u v k → rest ≡ difference s k → rest ≡ empty → IsLeastModule e s u v s
least_whole {e} s k rest u v is rest_is none =
    subst (IsLeastModule e s u v) (same_members k s is.is_module.inside
    (λ y h. true_from_ne_false _ (λ l. clash (Has-along _ _ (sym rest_is) y (minus_has s k y h l)) (empty_if rest none y)))) is
