-- The children of a set that doesn't split: the one that holds a name, and the maximal modules inside the rest. For any colours.
use Rattle.std.proofs.Common.{◌≡◌, ℕ, ◌<◌, ◌≢◌, ◌↔◌, List, length, Contains, sym, ◌∙◌, subst, inl, inr}
use Rattle.std.specs.FinSet.{contains, empty, insert, union, difference, len}
use Rattle.md_graph.specs.NameSet.{NoneFrom}
use Rattle.md_graph.specs.Sets.{NameSet, Has, Lacks, Within}
use Rattle.md_modules.specs.Colours.{IsColouring, AreTold}
use Rattle.md_modules.specs.Modules.{IsModule, IsLeastModule, IsLeastModuleOver, IsMaximalModule, IsMaximalStrong}
use Rattle.md_modules.specs.Kinds.{IsUnsplit}
use Rattle.std.proofs.lemmas.Bool.{cases_Bool, true_from_ne_false, false_from_ne_true}
use Rattle.md_graph.proofs.SetLemmas.{clash, only_has, of_only, insert_new, insert_old, of_insert, union_left, union_right, of_union, minus_has, of_minus, minus_lacks, Has-along, same_members, none_lacks}
use Rattle.md_graph.proofs.Search.{decide_same, len_proper}
use Rattle.md_modules.proofs.Modules.{single_module, join_module, other_way}
use Rattle.md_modules.proofs.Children.{in_maximal, maximal_leaves, maximal_meet, maximal_child, child_maximal}
use Rattle.md_decompose.specs.Children.{set_at, AreChildren}
use Rattle.md_modules.specs.Classes.{AreMaximalInside}
use Rattle.md_decompose.specs.Marks.{ListsInOrder}
use Rattle.md_decompose.proofs.OrderLemmas.{contains_at, at_contained}
use Rattle.md_modules.proofs.ClassLists.{at_known}

-- held is a module that holds v; where it is all of s, no other module holds v and j
pub record IsHeld {C : Type 0} (e : ℕ → ℕ → C) (s : NameSet) (v j : ℕ) (held : NameSet) : Type 0 where
  pub is_module : IsModule e s held
  pub start : Has held v
  pub whole : Within s held → (v ≢ j) × IsLeastModule e s v j s

-- the names that no module but s holds with v
abbrev pub IsRest : {C : Type 0} → (ℕ → ℕ → C) → NameSet → ℕ → NameSet → Type 0
IsRest e s v rest = (i : ℕ) → Has rest i ↔ (Has s i × (i ≢ v) × IsLeastModule e s v i s)

pub hold_among : (held into todo : NameSet) (j : ℕ) → into ≡ insert held j → todo ≡ insert empty j → Within todo into
hold_among held into todo j is_into is_todo x h =
    Has-along _ _ (sym is_into) x (subst (Has (insert held j)) (sym (of_only j x (Has-along _ _ is_todo x h))) (insert_new held j))

module _ {C : Type 0} {e : ℕ → ℕ → C} where
  pub held_begins : (s held : NameSet) (v : ℕ) → IsUnsplit e s → Has s v → held ≡ insert empty v → IsHeld e s v v held
  held_begins s held v unsplit h is = subst (IsHeld e s v v) (sym is) (record {
    is_module = single_module s v h;
    start = only_has v;
    whole = λ w. absurd (unsplit.two.4 (of_only v unsplit.two.0 (w unsplit.two.0 unsplit.two.2) ∙ sym (of_only v unsplit.two.1 (w unsplit.two.1 unsplit.two.3))));
  })

  pub held_falls : (s held more left : NameSet) (j : ℕ) → left ≡ difference s held → Has left j → IsLeastModuleOver e s (insert held j) more →
      len (difference s more) < len (difference s held)
  held_falls s held more left j is j_left over =
      let j_in : Has (difference s held) j = Has-along left _ is j j_left in
      len_proper (difference s more) (difference s held) j
      (λ x h. minus_has s held x (of_minus s more x h).0 (false_from_ne_true _ (λ k. clash (over.holds x (insert_old held j x k)) (of_minus s more x h).1)))
      j_in (minus_lacks s more j (over.holds j (insert_new held j)))

  pub held_ends : (s held left : NameSet) (v j : ℕ) → left ≡ difference s held → NoneFrom left 0 → IsHeld e s v j held → (v ≢ j) × IsLeastModule e s v j s
  held_ends s held left v j is none held_is =
      held_is.whole (λ x h. true_from_ne_false _ (λ l. clash (Has-along _ left (sym is) x (minus_has s held x h l)) (none_lacks left none x)))

  pub grow_seen : {reverse : C → C} → IsColouring reverse e → (s held into todo : NameSet) (v j : ℕ) → IsModule e s held → Has held v → into ≡ insert held j → todo ≡ insert empty j →
      (w : ℕ) → Has into w → Lacks todo w → (y : ℕ) → Has s y → Lacks into y → e v y ≡ e w y
  grow_seen col s held into todo v j is hv is_into is_todo w hw l y hy ly = elim (of_insert held j w (Has-along _ _ is_into w hw)) [
    | inl same ↦ clash (Has-along _ _ (sym is_todo) w (subst (Has (insert empty j)) (sym same) (only_has j))) l
    | inr old ↦
        other_way col y v y w (is.alike v w y hv old hy (false_from_ne_true _ (λ k. clash (Has-along _ _ (sym is_into) y (insert_old held j y k)) ly)))
  ]

  -- the maximal module that holds v
  pub rest_maximal : (s rest : NameSet) (v j : ℕ) → v ≢ j → IsLeastModule e s v j s → IsRest e s v rest → IsModule e s (difference s rest) → Has (difference s rest) v → IsMaximalModule e s (difference s rest)
  rest_maximal s rest v j differ whole names is hv = record {
    is_module = is;
    proper = λ same. clash ((names j).1 (whole.has_right, (λ q. differ (sym q)), whole)) (of_minus s rest j (Has-along s _ (sym same) j whole.has_right)).1;
    maximal = λ n module_is n_differs w. same_members n (difference s rest)
        (λ x h. minus_has s rest x (module_is.inside x h) (false_from_ne_true _ (λ k.
        let least : IsLeastModule e s v x s = ((names x).0 k).2 in n_differs (same_members n s module_is.inside (least.least n module_is (w v hv) h)))))
        w;
  }

  module _ {reverse : C → C} (col : IsColouring reverse e) (told : AreTold C) where
    pub held_grown : (s held more : NameSet) (v j : ℕ) → IsUnsplit e s → IsModule e s held → Has held v → Has s j → Lacks held j →
        IsLeastModuleOver e s (insert held j) more → IsHeld e s v j more
    held_grown s held more v j unsplit is start inside out over = record {
      is_module = over.is_module;
      start = over.holds v (insert_old held j v start);
      whole = λ all. (
        λ e_same. clash (subst (Has held) e_same start) out,
        record {
          is_module = subst (IsModule e s) (same_members more s over.is_module.inside all) over.is_module;
          has_left = is.inside v start;
          has_right = inside;
          least = λ m module_is hv hj. elim (decide_same m s) [ inl m_all ↦ Has-along s m (sym m_all) | inr differs ↦ absurd (covered all m module_is hv hj differs) ];
        },
      );
    } where
      -- two proper modules that hold v don't cover s
      covered : Within s more → (m : NameSet) → IsModule e s m → Has m v → Has m j → m ≢ s → ⊥
      covered all m module_is hv hj differs =
          let held_differs : held ≢ s = λ q. clash (Has-along s held (sym q) j inside) out in
          let x : (x : NameSet) × IsMaximalModule e s x × Within held x = in_maximal told s held is held_differs in
          let y : (y : NameSet) × IsMaximalModule e s y × Within m y = in_maximal told s m module_is differs in
          let one : x.0 ≡ y.0 = maximal_meet col s x.0 y.0 v unsplit x.1 y.1 (x.2 v start) (y.2 v hv) in
          let t : (t : ℕ) × Has s t × Lacks x.0 t = maximal_leaves s x.0 x.1 in
          let joined : IsModule e s (union held m) = join_module s held m v is module_is start hv in
          let in_join : Has (union held m) t.0 =
          over.least (union held m) joined
          (λ z h. elim (of_insert held j z h) [ inl new ↦ union_right held m z (subst (Has m) (sym new) hj) | inr old ↦ union_left held m z old ])
          t.0 (all t.0 t.1)
          in
          elim (of_union held m t.0 in_join) [
            | inl h ↦ clash (x.2 t.0 h) t.2
            | inr h ↦ clash (Has-along y.0 x.0 (sym one) t.0 (y.2 t.0 h)) t.2
          ]

    module _ (s rest : NameSet) (v : ℕ) (cs done : List NameSet) (unsplit : IsUnsplit e s) (max : IsMaximalModule e s (difference s rest))
        (hv : Has (difference s rest) v) (is : AreMaximalInside e s rest cs) where
      -- a maximal module other than that of v lies in the rest
      away : (m : NameSet) (x : ℕ) → IsMaximalModule e s m → Has m x → Has rest x → Within m rest
      away m x m_max h hr y hy = true_from_ne_false _ (λ out.
          let one : m ≡ difference s rest = maximal_meet col s m (difference s rest) y unsplit m_max max hy (minus_has s rest y (m_max.is_module.inside y hy) out) in
          clash hr (of_minus s rest x (Has-along _ _ one x h)).1)

      class_child : (k : ℕ) → k < length cs → IsMaximalStrong e s (set_at cs k)
      class_child k l =
          let c_module : IsModule e s (set_at cs k) = is.modules k l in
          let x : ℕ = c_module.some.0 in
          let hx : Has (set_at cs k) x = c_module.some.1 in
          let differs : set_at cs k ≢ s = λ same.
          clash (is.holds.partition.inside k v (Has-along s _ (sym same) v (of_minus s rest v hv).0)) (of_minus s rest v hv).1 in
          let y : (y : NameSet) × IsMaximalModule e s y × Within (set_at cs k) y = in_maximal told s (set_at cs k) c_module differs in
          let y_in : Within y.0 rest = away y.0 x y.1 (y.2 x hx) (is.holds.partition.inside k x hx) in
          let same : y.0 ≡ set_at cs k = same_members y.0 (set_at cs k) (is.holds.whole y.0 y.1.is_module y_in k x hx (y.2 x hx)) y.2 in
          subst (IsMaximalStrong e s) same (maximal_child col s y.0 unsplit y.1)

      child_class : (m : NameSet) (x : ℕ) → IsMaximalModule e s m → Has m x → Has rest x → Contains cs m
      child_class m x m_max h hr =
          let at : (k : ℕ) × Has (set_at cs k) x = is.holds.partition.cover x hr in
          let known : at.0 < length cs = at_known cs at.0 x at.1 in
          let differs : set_at cs at.0 ≢ s = (class_child at.0 known).proper in
          let same : set_at cs at.0 ≡ m =
          m_max.maximal (set_at cs at.0) (is.modules at.0 known) differs (is.holds.whole m m_max.is_module (away m x m_max h hr) at.0 x at.1 h)
          in
          subst (Contains cs) same (contains_at cs at.0 known)

      children_are : ListsInOrder (difference s rest) cs done → AreChildren e s done
      children_are listed = record {
        exactly = λ m. (
          λ child.
              let m_max : IsMaximalModule e s m = child_maximal col told s m unsplit child in
              let x : ℕ = m_max.is_module.some.0 in
              let h : Has m x = m_max.is_module.some.1 in
              (listed.exactly m).1 (elim (cases_Bool (contains rest x)) [
                | inl hr ↦ inr (child_class m x m_max h hr)
                | inr out ↦ inl (maximal_meet col s m (difference s rest) x unsplit m_max max h (minus_has s rest x (m_max.is_module.inside x h) out))
              ]),
          λ has. elim ((listed.exactly m).0 has) [
            | inl first ↦ subst (IsMaximalStrong e s) (sym first) (maximal_child col s (difference s rest) unsplit max)
            | inr class ↦ (let at : (k : ℕ) × (k < length cs) × (set_at cs k ≡ m) = at_contained cs m class in subst (IsMaximalStrong e s) at.2 (class_child at.0 at.1))
          ],
        );
        order = listed.order;
      }

    -- what is found from the names that no proper module holds with v
    pub children_found : (s rest first : NameSet) (v j : ℕ) (cs done : List NameSet) → IsUnsplit e s → v ≢ j → IsLeastModule e s v j s → IsRest e s v rest →
        IsModule e s (difference s rest) → Has (difference s rest) v → AreMaximalInside e s rest cs → first ≡ difference s rest →
        ListsInOrder first cs done → AreChildren e s done
    children_found s rest first v j cs done unsplit differ whole names is hv max is_first in_order =
        children_are s rest v cs done unsplit (rest_maximal s rest v j differ whole names is hv) hv max
        (subst (λ t. ListsInOrder t cs done) is_first in_order)
