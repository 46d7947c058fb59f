-- What the heads of trees tell of all their names, where the leaf sets of the trees are modules of these.
use Rattle.std.proofs.Common.{◌≡◌, ℕ, suc, List, ◌+◌, ◌<◌, ◌≤◌, ◌⊎◌, refl, sym, ◌∙◌, ap, subst, inl, inr, arith}
use Rattle.std.proofs.lemmas.Bool.{cases_Bool, cases_lt, false_from_ne_true}
use Rattle.std.specs.FinSet.{contains, insert, retain, intersection, difference, len}
use Rattle.md_graph.specs.Sets.{NameSet, Has, Lacks, Within, HasSome, HasTwo, only_name}
use Rattle.md_graph.proofs.SetLemmas.{clash, of_only, only_has, Has-along, same_members, insert_new, insert_old, union_left, union_right, retain_has, of_retain, meet_has, of_meet, of_minus, minus_has}
use Rattle.md_graph.proofs.Search.{decide_below, test_of, test_holds, of_test, len_within, len_single, len_one_more, two_of_len}
use Rattle.md_modules.specs.Colours.{IsColouring, AreTold}
use Rattle.md_modules.specs.Modules.{IsModule, IsMaximalModule, IsMaximalStrong, HasTrivialModulesAlone}
use Rattle.md_modules.specs.Kinds.{IsSplit, IsUnsplit}
use Rattle.md_modules.specs.Components.{IsClosed}
use Rattle.md_modules.specs.Segments.{IsSegment}
use Rattle.md_modules.specs.Quotients.{class, IsQuotient, IsModularPartition}
use Rattle.md_modules.proofs.Modules.{module_inside, module_of_module, single_module, across_modules}
use Rattle.md_modules.proofs.Splits.{AreReverses, split_closed, closed_split, closed_module, split_rest, split_reverses, unsplit_segment, segment_child}
use Rattle.md_modules.proofs.Strong.{children_meet}
use Rattle.md_modules.proofs.Children.{maximal_child}
use Rattle.md_modules.proofs.Quotients.{class_has, of_class, module_in_class, unsplit_proof}
use Rattle.md_tree.specs.Trees.{PlainTreeOf, leaf, node, PlainTreesOf, no_tree, one_more, names, names_below, names_at, count, EachNode, EachNodeBelow}
use Rattle.md_tree.specs.WellFormed.{AreDisjoint}
use Rattle.md_tree.specs.TreeGraph.{position_of}
use Rattle.md_tree.specs.Heads.{head_at, heads, HeadsAlong, AreChildModules, AreStrongChildren}
use Rattle.md_tree.specs.Laws.{AreToldByHeads, HeadsTellNodes}
use Rattle.md_tree.proofs.Nodes.{IsChild, position_below, at_position, at_inside, position_at, at_apart}
use Rattle.md_tree.proofs.Heads.{child_here, place_of_child, to_heads, of_heads, len_heads}
use Rattle.md_tree.proofs.Built.{HasChildren, IsBuiltBy, children_maximal}

module _ {K P C : Type 0} {reverse : C → C} {e : ℕ → ℕ → C} (col : IsColouring reverse e) (cs : PlainTreesOf K P) (mods : AreChildModules e cs) where
  abbrev m : NameSet
  m = names_below cs

  -- the place of a name
  abbrev place : ℕ → ℕ
  place = position_of cs

  place_head : (i : ℕ) → i < count cs → place (head_at cs i) ≡ i
  place_head i l = position_at cs mods.apart i (head_at cs i) (mods.heads i l)

  -- the head that lies in a leaf set is its own
  own_head : (i x : ℕ) → Has (heads cs) x → Has (names_at cs i) x → x ≡ head_at cs i
  own_head i x h hx =
      let j : (j : ℕ) × (j < count cs) × (x ≡ head_at cs j) = of_heads cs x h in
      j.2 ∙ ap (head_at cs) (sym (place_head j.0 j.1) ∙ ap place (sym j.2) ∙ position_at cs mods.apart i x hx)

  -- two names of different trees have the colour of the heads of these
  pub at_places : (i j a b : ℕ) → i < j → Has (names_at cs i) a → Has (names_at cs j) b → e a b ≡ e (head_at cs i) (head_at cs j)
  at_places i j a b less ha hb =
      let n : j < count cs = position_below cs j b hb in
      let l : i < count cs = omega arith in
      across_modules col m (names_at cs i) (names_at cs j) (mods.modules i l) (mods.modules j n) (at_apart cs mods.apart i j less (names_at cs i) (names_at cs j) refl refl)
      a (head_at cs i) b (head_at cs j) ha (mods.heads i l) hb (mods.heads j n)

  -- the leaf sets are the children of all names, if each is one
  children_from : ((i : ℕ) → i < count cs → IsMaximalStrong e m (names_at cs i)) → AreStrongChildren e cs
  children_from each n = (to_child, λ c. subst (IsMaximalStrong e m) (sym c.2) (each c.0 c.1)) where
    to_child : IsMaximalStrong e m n → (i : ℕ) × (i < count cs) × (n ≡ names_at cs i)
    to_child max =
        let x : HasSome n = max.is_strong.is_module.some in
        let h : Has (names_at cs (place x.0)) x.0 = at_position cs x.0 (max.is_strong.is_module.inside x.0 x.1) in
        let b : place x.0 < count cs = position_below cs (place x.0) x.0 h in
        (place x.0, b, children_meet m n (names_at cs (place x.0)) x.0 max (each (place x.0) b) x.1 h)

  -- ---- one colour runs from each head to those after it

  module _ (v : C) (two : 2 ≤ count cs) (along : HeadsAlong e cs v) where
    forth : (a b : ℕ) → Has m a → Has m b → place a < place b → e a b ≡ v
    forth a b ha hb less =
        let h : Has (names_at cs (place b)) b = at_position cs b hb in
        at_places (place a) (place b) a b less (at_position cs a ha) h ∙ along (place a) (place b) less (position_below cs (place b) b h)

    -- the names of the trees up to a position, and from it on
    abbrev upto : ℕ → NameSet
    upto i = retain m (λ x. test_of (decide_below (place x) (suc i)))

    abbrev from : ℕ → NameSet
    from i = retain m (λ x. test_of (decide_below i (suc (place x))))

    of_upto : (i x : ℕ) → Has (upto i) x → Has m x × (place x < suc i)
    of_upto i x h = let r = of_retain m (λ y. test_of (decide_below (place y) (suc i))) x h in (r.0, of_test (decide_below (place x) (suc i)) r.1)

    to_upto : (i x : ℕ) → Has m x → place x < suc i → Has (upto i) x
    to_upto i x h l = retain_has m (λ y. test_of (decide_below (place y) (suc i))) x h (test_holds (decide_below (place x) (suc i)) l)

    of_from : (i x : ℕ) → Has (from i) x → Has m x × (i < suc (place x))
    of_from i x h = let r = of_retain m (λ y. test_of (decide_below i (suc (place y)))) x h in (r.0, of_test (decide_below i (suc (place x))) r.1)

    to_from : (i x : ℕ) → Has m x → i < suc (place x) → Has (from i) x
    to_from i x h l = retain_has m (λ y. test_of (decide_below i (suc (place y)))) x h (test_holds (decide_below i (suc (place x))) l)

    closed_upto : (i : ℕ) → IsClosed e m (upto i) v
    closed_upto i = record { inside = λ x h. (of_upto i x h).0; across = λ p q hp hq l. forth p q (of_upto i p hp).0 hq (later p q hp hq l) } where
      later : (p q : ℕ) → Has (upto i) p → Has m q → Lacks (upto i) q → place p < place q
      later p q hp hq l = elim (cases_lt (place q) (suc i)) [
        | inl n ↦ clash (to_upto i q hq n) l
        | inr n ↦ (let k : place p < suc i = (of_upto i p hp).1 in omega arith)
      ]

    closed_from : (i : ℕ) → IsClosed e m (from i) (reverse v)
    closed_from i = record { inside = λ x h. (of_from i x h).0; across = λ p q hp hq l. col.reversed q p ∙ ap reverse (forth q p hq (of_from i p hp).0 (sooner p q hp hq l)) } where
      sooner : (p q : ℕ) → Has (from i) p → Has m q → Lacks (from i) q → place q < place p
      sooner p q hp hq l = elim (cases_lt i (suc (place q))) [
        | inl n ↦ clash (to_from i q hq n) l
        | inr n ↦ (let k : i < suc (place p) = (of_from i p hp).1 in omega arith)
      ]

    split_names : (part : NameSet) × IsSplit e m part v
    split_names = (
      upto 0,
      closed_split m (upto 0) v (closed_upto 0) (head_at cs 0, to_upto 0 (head_at cs 0) (at_inside cs 0 (head_at cs 0) (mods.heads 0 zero_below)) first)
          (head_at cs 1, at_inside cs 1 (head_at cs 1) (mods.heads 1 one_below), false_from_ne_true _ second),
    ) where
      zero_below : 0 < count cs
      zero_below = omega arith

      one_below : 1 < count cs
      one_below = omega arith

      first : place (head_at cs 0) < 1
      first = let same : place (head_at cs 0) ≡ 0 = place_head 0 zero_below in omega arith

      second : Has (upto 0) (head_at cs 1) → ⊥
      second h =
          let same : place (head_at cs 1) ≡ 1 = place_head 1 one_below in
          let less : place (head_at cs 1) < 1 = (of_upto 0 (head_at cs 1) h).1 in
          omega arith

    child_segment : (i : ℕ) → IsSegment e m (names_at cs i) v (reverse v)
    child_segment i = record {
      first = upto i;
      last = from i;
      initial = closed_upto i;
      final = closed_from i;
      is = same_members (names_at cs i) (intersection (upto i) (from i)) to_both of_both;
    } where
      to_both : Within (names_at cs i) (intersection (upto i) (from i))
      to_both x h =
          let same : place x ≡ i = position_at cs mods.apart i x h in
          let hm : Has m x = at_inside cs i x h in
          let low : place x < suc i = omega arith in
          let high : i < suc (place x) = omega arith in
          meet_has (upto i) (from i) x (to_upto i x hm low) (to_from i x hm high)

      of_both : Within (intersection (upto i) (from i)) (names_at cs i)
      of_both x h =
          let both : Has (upto i) x × Has (from i) x = of_meet (upto i) (from i) x h in
          let low : place x < suc i = (of_upto i x both.0).1 in
          let high : i < suc (place x) = (of_from i x both.1).1 in
          let same : place x ≡ i = omega arith in
          subst (λ n. Has (names_at cs n) x) same (at_position cs x (of_upto i x both.0).0)

    split_children : ((i : ℕ) (part : NameSet) → i < count cs → IsSplit e (names_at cs i) part v → ⊥) → AreStrongChildren e cs
    split_children none =
        let back : AreReverses reverse v (reverse v) = split_reverses col m split_names.0 v split_names.1 in
        children_from (λ i l. segment_child col m split_names.0 (names_at cs i) v (reverse v) (head_at cs i) back split_names.1
        (unsplit_segment col m (names_at cs i) v (reverse v) (head_at cs i) back (child_segment i) (λ part. none i part l) (mods.heads i l)))

  -- ---- the heads have trivial modules alone

  module _ (three : 3 ≤ count cs) (trivial : HasTrivialModulesAlone e (heads cs)) where
    many : 3 ≤ len (heads cs)
    many = let same : len (heads cs) ≡ count cs = len_heads cs mods.apart mods.heads in omega arith

    -- the head of the tree that holds a name
    abbrev lead : ℕ → ℕ
    lead x = head_at cs (place x)

    lead_at : (i x : ℕ) → Has (names_at cs i) x → lead x ≡ head_at cs i
    lead_at i x h = ap (head_at cs) (position_at cs mods.apart i x h)

    -- the leaf sets are the classes of the heads
    class_is : (i : ℕ) → i < count cs → (p : ℕ) → p ≡ head_at cs i → class m lead p ≡ names_at cs i
    class_is i l p same = same_members (class m lead p) (names_at cs i) to_name (λ x h. class_has m lead p x (at_inside cs i x h) (lead_at i x h ∙ sym same)) where
      to_name : Within (class m lead p) (names_at cs i)
      to_name x h =
          let f : Has m x × (lead x ≡ p) = of_class m lead p x h in
          let here : Has (names_at cs (place x)) x = at_position cs x f.0 in
          let there : place x ≡ i = sym (place_head (place x) (position_below cs (place x) x here)) ∙ ap place (f.1 ∙ same) ∙ place_head i l in
          subst (λ n. Has (names_at cs n) x) there here

    partition : IsModularPartition e m (heads cs) lead
    partition = record {
      inside = λ x h. let i : (i : ℕ) × (i < count cs) × (x ≡ head_at cs i) = of_heads cs x h in
          subst (Has m) (sym i.2) (at_inside cs i.0 (head_at cs i.0) (mods.heads i.0 i.1));
      leads = λ x h. to_heads cs (place x) (position_below cs (place x) x (at_position cs x h));
      own = λ p h. let i : (i : ℕ) × (i < count cs) × (p ≡ head_at cs i) = of_heads cs p h in
          lead_at i.0 p (subst (Has (names_at cs i.0)) (sym i.2) (mods.heads i.0 i.1)) ∙ sym i.2;
      modules = λ p h. let i : (i : ℕ) × (i < count cs) × (p ≡ head_at cs i) = of_heads cs p h in
          subst (IsModule e m) (sym (class_is i.0 i.1 p i.2)) (mods.modules i.0 i.1);
    }

    -- each module is the whole or lies in one leaf set
    in_one : (n : NameSet) → IsModule e m n → (n ≡ m) ⊎ ((i : ℕ) × (i < count cs) × Within n (names_at cs i))
    in_one n is = elim (module_in_class col m (heads cs) lead partition n is many trivial) [
      | inl same ↦ inl same
      | inr p ↦
          let i : (i : ℕ) × (i < count cs) × (p.0 ≡ head_at cs i) = of_heads cs p.0 p.1 in
          inr (i.0, i.1, subst (Within n) (class_is i.0 i.1 p.0 i.2) p.2)
    ]

    -- two leaf sets don't hold all names
    not_two : (i j : ℕ) → ((x : ℕ) → Has m x → Has (names_at cs i) x ⊎ Has (names_at cs j) x) → ⊥
    not_two i j all =
        let a : ℕ = head_at cs i in
        let b : ℕ = head_at cs j in
        let within : Within (heads cs) (insert (only_name (head_at cs i)) (head_at cs j)) = λ x h. elim (all x (partition.inside x h)) [
          | inl hx ↦ insert_old (only_name (head_at cs i)) (head_at cs j) x (subst (Has (only_name (head_at cs i))) (sym (own_head i x h hx)) (only_has (head_at cs i)))
          | inr hx ↦ subst (Has (insert (only_name (head_at cs i)) (head_at cs j))) (sym (own_head j x h hx)) (insert_new (only_name (head_at cs i)) (head_at cs j))
        ] in
        let one : len (heads cs) ≤ len (insert (only_name (head_at cs i)) (head_at cs j)) = len_within (heads cs) (insert (only_name (head_at cs i)) (head_at cs j)) within in
        let two : len (insert (only_name (head_at cs i)) (head_at cs j)) ≤ len (only_name (head_at cs i)) + 1 = len_one_more (only_name (head_at cs i)) (head_at cs j) in
        let single : len (only_name (head_at cs i)) ≤ 1 = len_single (only_name (head_at cs i)) (head_at cs i) (of_only (head_at cs i)) in
        let lots : 3 ≤ len (heads cs) = many in
        omega arith

    no_split : (v : C) (a : NameSet) → IsSplit e m a v → ⊥
    no_split v a split = both (in_one a (closed_module col m a v (split_closed m a v split) split.some))
        (in_one (difference m a) (closed_module col m (difference m a) (reverse v) (split_closed m (difference m a) (reverse v) rest) rest.some)) where
          rest : IsSplit e m (difference m a) (reverse v)
          rest = split_rest col m a v split

          both : (a ≡ m) ⊎ ((i : ℕ) × (i < count cs) × Within a (names_at cs i)) → (difference m a ≡ m) ⊎ ((i : ℕ) × (i < count cs) × Within (difference m a) (names_at cs i)) → ⊥
          both (inl same) other = clash (Has-along m a (sym same) split.rest.0 split.rest.1) split.rest.2
          both (inr i) (inl same) = clash split.some.1 (of_minus m a split.some.0 (Has-along m (difference m a) (sym same) split.some.0 (split.inside split.some.0 split.some.1))).1
          both (inr i) (inr j) = not_two i.0 j.0 (λ x h. elim (cases_Bool (contains a x)) [
            | inl ha ↦ inl (i.2 x ha)
            | inr l ↦ inr (j.2 x (minus_has m a x h l))
          ])

    unsplit_names : IsUnsplit e m
    unsplit_names =
        let b : 3 ≤ len (heads cs) = many in
        let two : HasTwo (heads cs) = two_of_len (heads cs) (omega arith) in
        record {
          two = (two.0, two.1, partition.inside two.0 two.2, partition.inside two.1 two.3, two.4);
          unsplit = no_split;
        }

    maximal : (i : ℕ) → i < count cs → IsMaximalModule e m (names_at cs i)
    maximal i l = record {
      is_module = mods.modules i l;
      proper = λ same. not_two i i (λ x h. inl (Has-along m (names_at cs i) (sym same) x h));
      maximal = λ n is differs w. elim (in_one n is) [
        | inl same ↦ absurd (differs same)
        | inr j ↦
            let here : Has (names_at cs j.0) (head_at cs i) = j.2 (head_at cs i) (w (head_at cs i) (mods.heads i l)) in
            let one : j.0 ≡ i = sym (position_at cs mods.apart j.0 (head_at cs i) here) ∙ place_head i l in
            same_members n (names_at cs i) (subst (λ k. Within n (names_at cs k)) one j.2) w
      ];
    }

    unsplit_children : AreStrongChildren e cs
    unsplit_children = children_from (λ i l. maximal_child col m (names_at cs i) unsplit_names (maximal i l))

  -- one name of each child of names that don't split: a quotient
  heads_quotient : IsUnsplit e m → AreStrongChildren e cs → IsQuotient e m (heads cs)
  heads_quotient whole children = record {
    inside = λ x h. let i : (i : ℕ) × (i < count cs) × (x ≡ head_at cs i) = of_heads cs x h in
        subst (Has m) (sym i.2) (at_inside cs i.0 (head_at cs i.0) (mods.heads i.0 i.1));
    one = λ n max.
        let i : (i : ℕ) × (i < count cs) × (n ≡ names_at cs i) = (children n).0 (maximal_child col m n whole max) in (
          head_at cs i.0,
          Has-along (names_at cs i.0) n (sym i.2) (head_at cs i.0) (mods.heads i.0 i.1),
          to_heads cs i.0 i.1,
          λ y hy h. own_head i.0 y h (Has-along n (names_at cs i.0) i.2 y hy),
        );
  }

  pub told_by_heads : AreTold C → AreToldByHeads e cs
  told_by_heads told = record {
    split = λ v two along none. (split_names v two along, split_children v two along none);
    unsplit = λ three trivial. (unsplit_names three trivial, unsplit_children three trivial);
    trivial = λ whole children. (unsplit_proof C reverse e col told m whole).1.trivial (heads cs) (heads_quotient whole children);
  }

pub heads_proof : (K P C : Type 0) → HeadsTellNodes K P C
heads_proof K P C told reverse e col cs mods = told_by_heads col cs mods told

-- ---- children

module _ {K P C : Type 0} {e : ℕ → ℕ → C} where
  -- the children of a node, as trees and by their positions
  pub by_positions : (cs : PlainTreesOf K P) → HasChildren e cs → AreStrongChildren e cs
  by_positions cs has m = (
    λ max.
        let c : (c : PlainTreeOf K P) × IsChild cs c × (m ≡ names c) = (has m).0 max in
        let i = place_of_child cs c.0 c.1 in
        (i.0, i.1, c.2 ∙ sym i.2),
    λ i. let c = child_here cs i.0 i.1 in (has m).1 (c.0, c.1, i.2 ∙ c.2),
  )

  pub by_trees : (cs : PlainTreesOf K P) → AreStrongChildren e cs → HasChildren e cs
  by_trees cs are m = (
    λ max.
        let i : (i : ℕ) × (i < count cs) × (m ≡ names_at cs i) = (are m).0 max in
        let c = child_here cs i.0 i.1 in
        (c.0, c.1, i.2 ∙ c.2),
    λ c. let i = place_of_child cs c.0 c.1 in (are m).1 (i.0, i.1, c.2 ∙ sym i.2),
  )

  -- modules of s that are the children of a module of s
  pub modules_below : (s : NameSet) (cs : PlainTreesOf K P) → AreDisjoint cs → ((i : ℕ) → i < count cs → Has (names_at cs i) (head_at cs i)) → Within (names_below cs) s →
      ((c : PlainTreeOf K P) → IsChild cs c → IsModule e s (names c)) → AreChildModules e cs
  modules_below s cs apart own inside mods = record {
    apart = apart;
    heads = own;
    modules = λ i l.
        let c = child_here cs i l in
        module_inside s (names_below cs) (names_at cs i) (subst (IsModule e s) (sym c.2) (mods c.0 c.1)) inside (at_inside cs i);
  }

-- ---- a tree, node by node: each node of a tree fits, where each node is one of the tree of strong modules, and the other way round

module _ {K P C : Type 0} {e : ℕ → ℕ → C} (s : NameSet) (F : K → PlainTreesOf K P → List P → Type 0) (is_module : (k : K) (cs : PlainTreesOf K P) (ps : List P) → F k cs ps → IsModule e s (names_below cs)) where
  -- the leaf sets of the children of a node that fits are modules
  tree_module : (t : PlainTreeOf K P) → EachNode F t → Within (names t) s → IsModule e s (names t)
  tree_module (leaf v) fit w = single_module s v (w v (only_has v))
  tree_module (node k cs ps) fit w = is_module k cs ps fit.0

  pub child_modules : (cs : PlainTreesOf K P) → EachNodeBelow F cs → Within (names_below cs) s → (c : PlainTreeOf K P) → IsChild cs c → IsModule e s (names c)
  child_modules no_tree fit w c i = absurd i
  child_modules (one_more t ts) fit w c (inl same) =
      subst (λ d. IsModule e s (names d)) (sym same) (tree_module t fit.0 (λ x h. w x (union_left (names t) (names_below ts) x h)))
  child_modules (one_more t ts) fit w c (inr i) = child_modules ts fit.1 (λ x h. w x (union_right (names t) (names_below ts) x h)) c i

  module _ (N Canonical : K → PlainTreesOf K P → List P → Type 0) where
    abbrev B : K → PlainTreesOf K P → List P → Type 0
    B = IsBuiltBy N e

    module _ (to_node : (k : K) (cs : PlainTreesOf K P) (ps : List P) → Canonical k cs ps → EachNodeBelow Canonical cs → B k cs ps → EachNodeBelow B cs →
        IsModule e s (names_below cs) → F k cs ps) where
      mutual
        pub to_fit : (t : PlainTreeOf K P) → EachNode B t → EachNode Canonical t → IsModule e s (names t) → EachNode F t
        to_fit (leaf v) built canon is = tt
        to_fit (node k cs ps) built canon is = (
          to_node k cs ps canon.0 canon.1 built.0 built.1 is,
          to_fit_below cs built.1 canon.1 (λ c i. module_of_module s (names_below cs) (names c) is (children_maximal k cs ps built.0 c i).is_strong.is_module),
        )

        to_fit_below : (cs : PlainTreesOf K P) → EachNodeBelow B cs → EachNodeBelow Canonical cs → ((c : PlainTreeOf K P) → IsChild cs c → IsModule e s (names c)) → EachNodeBelow F cs
        to_fit_below no_tree built canon mods = tt
        to_fit_below (one_more t ts) built canon mods = (to_fit t built.0 canon.0 (mods t (inl refl)), to_fit_below ts built.1 canon.1 (λ c i. mods c (inr i)))

    module _ (of_node : (k : K) (cs : PlainTreesOf K P) (ps : List P) → Canonical k cs ps → EachNodeBelow Canonical cs → F k cs ps →
        ((c : PlainTreeOf K P) → IsChild cs c → IsModule e s (names c)) → EachNodeBelow B cs → B k cs ps) where
      mutual
        pub of_fit : (t : PlainTreeOf K P) → EachNode Canonical t → EachNode F t → EachNode B t
        of_fit (leaf v) canon fit = tt
        of_fit (node k cs ps) canon fit = (
          of_node k cs ps canon.0 canon.1 fit.0 (child_modules cs fit.1 (is_module k cs ps fit.0).inside) (of_fit_below cs canon.1 fit.1),
          of_fit_below cs canon.1 fit.1,
        )

        of_fit_below : (cs : PlainTreesOf K P) → EachNodeBelow Canonical cs → EachNodeBelow F cs → EachNodeBelow B cs
        of_fit_below no_tree canon fit = tt
        of_fit_below (one_more t ts) canon fit = (of_fit t canon.0 fit.0, of_fit_below ts canon.1 fit.1)
