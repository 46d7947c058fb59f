-- A node fits where names of its children do, whichever names of them these are.
use Rattle.std.proofs.Common.{◌≡◌, ℕ, zero, suc, ◌<◌, ◌≤◌, List, [], ◌∷◌, length, get_or, refl, sym, ◌∙◌, ap, ap₂, subst, inl, inr, arith}
use Rattle.std.proofs.lemmas.Bool.{false_from_ne_true}
use Rattle.std.specs.FinSet.{empty, union, insert, from_list, difference}
use Rattle.md_graph.specs.Sets.{NameSet, Has, Lacks, Disjoint, Within, only_name}
use Rattle.md_graph.proofs.SetLemmas.{clash, empty_lacks, of_only, of_union, union_left, union_right, same_members, minus_has, Has-along}
use Rattle.md_modules.specs.Colours.{IsColouring, AreTold}
use Rattle.md_modules.proofs.Modules.{other_way}
use Rattle.md_modules.specs.Kinds.{IsUnsplit}
use Rattle.md_modules.specs.Modules.{IsModule, IsMaximalStrong, HasTrivialModulesAlone}
use Rattle.md_tree.specs.Heads.{head, head_at, heads, AreChildModules, AreStrongChildren, IsFitNodeBy}
use Rattle.md_tree.specs.Held.{IsLeast, AreLeast}
use Rattle.md_tree.specs.Trees.{PlainTreeOf, PlainTreesOf, leaf, node, no_tree, one_more, names, names_below, names_at, count, row}
use Rattle.md_tree.specs.WellFormed.{AreDisjoint}
use Rattle.md_tree.proofs.Fitted.{at_places, told_by_heads, modules_below}
use Rattle.md_tree.proofs.Folding.{count_row}
use Rattle.md_tree.proofs.Heads.{place_of_child}
use Rattle.md_tree.proofs.Holding.{least_length}
use Rattle.md_tree.proofs.Nodes.{IsChild, child_inside, child_of_name, at_inside}
use Rattle.md_checker.specs.FitTests.{AreAlike, IsFitBy}

-- each number is the least name of the tree at its position
pub least_here : {K P : Type 0} (ts : List (PlainTreeOf K P)) (ms : List ℕ) → AreLeast ts ms → (i : ℕ) → i < length ms → IsLeast (names_at (row ts) i) (get_or ms i 0)
least_here [] [] l i below = let b : i < 0 = below in absurd (omega arith)
least_here [] (m ∷ ms) l i below = absurd l
least_here (t ∷ ts) [] l i below = absurd l
least_here (t ∷ ts) (m ∷ ms) l zero below = l.0
least_here (t ∷ ts) (m ∷ ms) l (suc i) below = let b : suc i < suc (length ms) = below in least_here ts ms l.1 i (omega arith)

-- ---- trees of the same names whose heads are given names

module _ {K P : Type 0} (k : K) where
  abbrev led_tree : PlainTreeOf K P → ℕ → PlainTreeOf K P
  led_tree t m = node k (one_more (leaf m) (one_more t no_tree)) []

  abbrev led : List (PlainTreeOf K P) → List ℕ → PlainTreesOf K P
  led [] ms = no_tree
  led (t ∷ ts) [] = no_tree
  led (t ∷ ts) (m ∷ ms) = one_more (led_tree t m) (led ts ms)

  led_names : (t : PlainTreeOf K P) (m : ℕ) → Has (names t) m → names (led_tree t m) ≡ names t
  led_names t m h = same_members (union (only_name m) (union (names t) empty)) (names t)
      (λ x g. elim (of_union (only_name m) (union (names t) empty) x g) [
        | inl a ↦ subst (Has (names t)) (sym (of_only m x a)) h
        | inr b ↦ elim (of_union (names t) empty x b) [ inl c ↦ c | inr n ↦ clash n (empty_lacks x) ]
      ])
      (λ x g. union_right (only_name m) (union (names t) empty) x (union_left (names t) empty x g))

  led_count : (ts : List (PlainTreeOf K P)) (ms : List ℕ) → AreLeast ts ms → count (led ts ms) ≡ count (row ts)
  led_count [] ms l = refl
  led_count (t ∷ ts) [] l = absurd l
  led_count (t ∷ ts) (m ∷ ms) l = ap (λ n. suc n) (led_count ts ms l.1)

  led_below : (ts : List (PlainTreeOf K P)) (ms : List ℕ) → AreLeast ts ms → names_below (led ts ms) ≡ names_below (row ts)
  led_below [] ms l = refl
  led_below (t ∷ ts) [] l = absurd l
  led_below (t ∷ ts) (m ∷ ms) l = ap₂ union (led_names t m l.0.member) (led_below ts ms l.1)

  led_at : (ts : List (PlainTreeOf K P)) (ms : List ℕ) → AreLeast ts ms → (i : ℕ) → names_at (led ts ms) i ≡ names_at (row ts) i
  led_at [] ms l i = refl
  led_at (t ∷ ts) [] l i = absurd l
  led_at (t ∷ ts) (m ∷ ms) l zero = led_names t m l.0.member
  led_at (t ∷ ts) (m ∷ ms) l (suc i) = led_at ts ms l.1 i

  led_head : (ts : List (PlainTreeOf K P)) (ms : List ℕ) → AreLeast ts ms → (i : ℕ) → head_at (led ts ms) i ≡ get_or ms i 0
  led_head [] [] l i = refl
  led_head [] (m ∷ ms) l i = absurd l
  led_head (t ∷ ts) [] l i = absurd l
  led_head (t ∷ ts) (m ∷ ms) l zero = refl
  led_head (t ∷ ts) (m ∷ ms) l (suc i) = led_head ts ms l.1 i

  led_heads : (ts : List (PlainTreeOf K P)) (ms : List ℕ) → AreLeast ts ms → heads (led ts ms) ≡ from_list ms
  led_heads [] [] l = refl
  led_heads [] (m ∷ ms) l = absurd l
  led_heads (t ∷ ts) [] l = absurd l
  led_heads (t ∷ ts) (m ∷ ms) l = ap (λ s. insert s m) (led_heads ts ms l.1)

  led_apart : (ts : List (PlainTreeOf K P)) (ms : List ℕ) → AreLeast ts ms → AreDisjoint (row ts) → AreDisjoint (led ts ms)
  led_apart [] ms l a = tt
  led_apart (t ∷ ts) [] l a = absurd l
  led_apart (t ∷ ts) (m ∷ ms) l a = (
    subst (λ s. Disjoint s (names_below (led ts ms))) (sym (led_names t m l.0.member)) (subst (Disjoint (names t)) (sym (led_below ts ms l.1)) a.0),
    led_apart ts ms l.1 a.1,
  )

-- ---- names that stand for modules

-- where the others agree on names that stand for modules, these make up a module
module _ {K P C : Type 0} {reverse : C → C} {e : ℕ → ℕ → C} (col : IsColouring reverse e) (s : NameSet) (cs : PlainTreesOf K P) (some : 1 ≤ count cs) (list : List ℕ) (same_size : length list ≡ count cs)
    (own : (i : ℕ) → i < count cs → Has (names_at cs i) (get_or list i 0)) (mods : (c : PlainTreeOf K P) → IsChild cs c → IsModule e s (names c)) where
  pub alike_module : AreAlike e (difference s (names_below cs)) list → IsModule e s (names_below cs)
  alike_module alike = record {
    some = (let first : 0 < count cs = omega arith in (get_or list 0 0, at_inside cs 0 (get_or list 0 0) (own 0 first)));
    inside = λ x h. let c = child_of_name cs x h in (mods c.0 c.1).inside x c.2;
    alike = λ a b x ha hb hx l. first_like a x ha hx l ∙ sym (first_like b x hb hx l);
  } where
    first_like : (a x : ℕ) → Has (names_below cs) a → Has s x → Lacks (names_below cs) x → e x a ≡ e x (get_or list 0 0)
    first_like a x ha hx l =
        let c : (c : PlainTreeOf K P) × IsChild cs c × Has (names c) a = child_of_name cs a ha in
        let i : (i : ℕ) × (i < count cs) × (names_at cs i ≡ names c.0) × (head_at cs i ≡ head c.0) = place_of_child cs c.0 c.1 in
        let out : Lacks (names c.0) x = false_from_ne_true _ (λ h. clash (child_inside cs c.0 c.1 x h) l) in
        let b : i.0 < count cs = i.1 in
        let h : Has (names c.0) (get_or list i.0 0) = Has-along (names_at cs i.0) (names c.0) i.2 (get_or list i.0 0) (own i.0 b) in
        (mods c.0 c.1).alike a (get_or list i.0 0) x c.2 h hx out
        ∙ other_way col (get_or list i.0 0) x (get_or list 0 0) x (sym (alike i.0 x (omega arith) (minus_has s (names_below cs) x hx l)))

-- ---- a node with names of its children

-- heads of the same children have trivial modules alone where others have
trivial_along : {K P C : Type 0} {reverse : C → C} {e : ℕ → ℕ → C} → IsColouring reverse e → AreTold C → (us ws : PlainTreesOf K P) → AreChildModules e us → AreChildModules e ws → 3 ≤ count us → count us ≡ count ws → names_below us ≡ names_below ws →
    ((i : ℕ) → names_at us i ≡ names_at ws i) → HasTrivialModulesAlone e (heads us) → HasTrivialModulesAlone e (heads ws)
trivial_along {e = e} col told us ws of_us of_ws three size below each all =
    let un : IsUnsplit e (names_below us) × AreStrongChildren e us = (told_by_heads col us of_us told).unsplit three all in
    (told_by_heads col ws of_ws told).trivial (subst (IsUnsplit e) below un.0)
    (λ m. (
      (λ max.
          let i : (i : ℕ) × (i < count us) × (m ≡ names_at us i) = (un.1 m).0 (subst (λ w. IsMaximalStrong e w m) (sym below) max) in
          let b : i.0 < count us = i.1 in
          (i.0, (let c : i.0 < count ws = omega arith in c), i.2 ∙ each i.0)),
      (λ i.
          let b : i.0 < count ws = i.1 in
          subst (λ w. IsMaximalStrong e w m) below ((un.1 m).1 (i.0, (let c : i.0 < count us = omega arith in c), i.2 ∙ sym (each i.0)))),
    ))

module _ {K P C : Type 0} {reverse : C → C} {e : ℕ → ℕ → C} (col : IsColouring reverse e) (told : AreTold C) (puts : K → List P → ℕ → ℕ → C) (prime : K) (s : NameSet) (k : K) (ts : List (PlainTreeOf K P)) (ps : List P) (ms : List ℕ)
    (least : AreLeast ts ms) (some : 1 ≤ count (row ts)) (many : k ≡ prime → 3 ≤ count (row ts)) (apart : AreDisjoint (row ts)) (own : (i : ℕ) → i < count (row ts) → Has (names_at (row ts) i) (head_at (row ts) i))
    (inside : Within (names_below (row ts)) s) (mods : (c : PlainTreeOf K P) → IsChild (row ts) c → IsModule e s (names c)) where
  abbrev cs : PlainTreesOf K P
  cs = row ts

  abbrev ds : PlainTreesOf K P
  ds = led k ts ms

  same_size : length ms ≡ count cs
  same_size = sym (least_length ts ms least) ∙ sym (count_row ts)

  below : names_below ds ≡ names_below cs
  below = led_below k ts ms least

  lie : (i : ℕ) → i < count cs → Has (names_at cs i) (get_or ms i 0)
  lie i l = let n = same_size in (least_here ts ms least i (omega arith)).member

  of_cs : AreChildModules e cs
  of_cs = modules_below s cs apart own inside mods

  of_ds : AreChildModules e ds
  of_ds = record {
    apart = led_apart k ts ms least apart;
    heads = λ i l.
        let n = led_count k ts ms least in
        subst (Has (names_at ds i)) (sym (led_head k ts ms least i)) (subst (λ w. Has w (get_or ms i 0)) (sym (led_at k ts ms least i)) (lie i (omega arith)));
    modules = λ i l.
        let n = led_count k ts ms least in
        subst (λ w. IsModule e w (names_at ds i)) (sym below) (subst (IsModule e (names_below cs)) (sym (led_at k ts ms least i)) (of_cs.modules i (omega arith)));
  }

  trivial_heads : 3 ≤ count cs → HasTrivialModulesAlone e (from_list ms) → HasTrivialModulesAlone e (heads cs)
  trivial_heads three all =
      let n = led_count k ts ms least in
      trivial_along col told ds cs of_ds of_cs (omega arith) n below (led_at k ts ms least) (subst (HasTrivialModulesAlone e) (sym (led_heads k ts ms least)) all)

  heads_trivial : 3 ≤ count cs → HasTrivialModulesAlone e (heads cs) → HasTrivialModulesAlone e (from_list ms)
  heads_trivial three all =
      subst (HasTrivialModulesAlone e) (led_heads k ts ms least)
      (trivial_along col told cs ds of_cs of_ds three (sym (led_count k ts ms least)) (sym below) (λ i. sym (led_at k ts ms least i)) all)

  -- the colours of two heads are those of the names of these children
  at_heads : (i j : ℕ) → i < j → j < count cs → e (get_or ms i 0) (get_or ms j 0) ≡ e (head_at cs i) (head_at cs j)
  at_heads i j less b = at_places col cs of_cs i j (get_or ms i 0) (get_or ms j 0) less (lie i (omega arith)) (lie j b)

  pub fit_named : (others : NameSet) → ((y : ℕ) → Has others y → Has s y × Lacks (names_below cs) y) → IsFitNodeBy puts (λ l. l ≡ prime) e s k cs ps → IsFitBy puts (λ l. l ≡ prime) e others k ps ms
  fit_named others outside fit = record {
    alike = λ i y l h.
        let n = same_size in
        let out = outside y h in
        let in_cs : (j : ℕ) → j < count cs → Has (names_below cs) (get_or ms j 0) = λ j b. at_inside cs j (get_or ms j 0) (lie j b) in
        other_way col y (get_or ms 0 0) y (get_or ms i 0) (fit.is_module.alike (get_or ms 0 0) (get_or ms i 0) y (in_cs 0 (omega arith)) (in_cs i (omega arith)) out.0 out.1);
    joined = λ i j less l. let n = same_size in at_heads i j less (omega arith) ∙ fit.joined i j less (omega arith);
    trivial = λ is. heads_trivial (many is) (fit.trivial is);
  }

  pub named_fit : IsFitBy puts (λ l. l ≡ prime) e (difference s (names_below cs)) k ps ms → IsFitNodeBy puts (λ l. l ≡ prime) e s k cs ps
  named_fit fit = record {
    is_module = alike_module col s cs some ms same_size lie mods fit.alike;
    joined = λ i j less b. let n = same_size in sym (at_heads i j less b) ∙ fit.joined i j less (omega arith);
    trivial = λ is. trivial_heads (many is) (fit.trivial is);
  }
