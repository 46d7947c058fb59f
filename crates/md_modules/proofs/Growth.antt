-- The three searches, over sets and for any colours: what stays true in each turn, and what holds at the end.
-- left is what a search hasn't taken, todo what it took and hasn't looked at.
use Rattle.std.proofs.Common.{◌≡◌, ℕ, ◌≢◌, ◌⊎◌, refl, sym, ◌∙◌, ap, subst, inl, inr}
use Rattle.std.specs.FinSet.{insert, remove, union, difference}
use Rattle.md_graph.specs.Sets.{NameSet, Has, Lacks, Within, only_name}
use Rattle.md_modules.specs.Colours.{IsColouring}
use Rattle.md_modules.specs.Modules.{IsModule, IsLeastModule, IsLeastModuleOver}
use Rattle.md_modules.specs.Components.{IsComponent}
use Rattle.md_modules.specs.Searches.{IsReaching}
use Rattle.std.proofs.lemmas.Bool.{false_from_ne_true, true_from_ne_false}
use Rattle.md_graph.proofs.SetLemmas.{clash, only_has, of_only, only_lacks, same_name, remove_left, of_remove, minus_has, of_minus, minus_lacks, of_minus_lacks, looked_at, rest_lacks, taken_then}
use Rattle.md_modules.proofs.Modules.{other_way}
use Rattle.md_modules.proofs.Splits.{closed_leads}

-- What is to be looked at was taken: it is of s, and isn't left.
abbrev pub AreTaken : NameSet → NameSet → NameSet → Type 0
AreTaken s left todo = (y : ℕ) → Has todo y → Has s y × Lacks left y

-- What a turn takes of the names left: those that lack a property, where the others have it.
abbrev pub TakesUnless : (ℕ → Type 0) → NameSet → NameSet → Type 0
TakesUnless P left new = ((y : ℕ) → Has left y → Lacks new y → P y) × ((y : ℕ) → Has new y → Has left y × (P y → ⊥))

-- The least module that holds begun, a member v of which is fixed: each turn takes the names left that tell v and w apart.
pub record IsGrowing {C : Type 0} (e : ℕ → ℕ → C) (s : NameSet) (v : ℕ) (begun left todo : NameSet) : Type 0 where
  pub start : Has begun v
  pub begins : (y : ℕ) → Has begun y → Has s y × Lacks left y
  pub inside : Within left s
  pub taken : AreTaken s left todo
  pub least : (m : NameSet) → IsModule e s m → Within begun m → (y : ℕ) → Has s y → Lacks left y → Has m y
  pub looked : (w : ℕ) → Has s w → Lacks left w → Lacks todo w → (y : ℕ) → Has left y → e v y ≡ e w y

-- The names that no proper module holds with v: each turn takes the names left that w tells apart from v.
pub record IsGoingBack {C : Type 0} (e : ℕ → ℕ → C) (s : NameSet) (v : ℕ) (left todo : NameSet) : Type 0 where
  pub start : Has left v
  pub inside : Within left s
  pub taken : AreTaken s left todo
  pub whole : (y : ℕ) → Has s y → Lacks left y → (m : NameSet) → IsModule e s m → Has m v → Has m y → Within s m
  pub looked : (w : ℕ) → Has s w → Lacks left w → Lacks todo w → (y : ℕ) → Has left y → e w y ≡ e w v

-- The same where v is kept out of what is left, and j isn't left.
pub record IsBackFrom {C : Type 0} (e : ℕ → ℕ → C) (s : NameSet) (v j : ℕ) (left todo : NameSet) : Type 0 where
  pub going : IsGoingBack e s v (insert left v) todo
  pub without : Lacks left v
  pub begun : Lacks left j

module _ {C : Type 0} {e : ℕ → ℕ → C} where
  pub reach_start : (s : NameSet) (v : C) (x : ℕ) → Has s x → IsReaching e s v x (difference s (only_name x)) (only_name x)
  reach_start s v x h = record {
    start = (h, minus_lacks s (only_name x) x (only_has x));
    inside = λ y k. (of_minus s (only_name x) y k).0;
    taken = λ y k. (subst (Has s) (sym (of_only x y k)) h, minus_lacks s (only_name x) y k);
    least = λ part closed k y hs l. elim (of_minus_lacks s (only_name x) y l) [
      | inl o ↦ clash hs o
      | inr i ↦ subst (Has part) (sym (of_only x y i)) k
    ];
    looked = λ w hs l t y k. elim (of_minus_lacks s (only_name x) w l) [ inl o ↦ clash hs o | inr i ↦ clash i t ];
  }

  pub reach_turn : (s left todo new : NameSet) (v : C) (x w : ℕ) → IsReaching e s v x left todo → Has todo w → TakesUnless (λ y. e w y ≡ v) left new →
      IsReaching e s v x (difference left new) (union (remove todo w) new)
  reach_turn s left todo new v x w is hw takes = record {
    start = (is.start.0, rest_lacks left new x is.start.1);
    inside = λ y k. is.inside y (of_minus left new y k).0;
    taken = taken_then s left todo new w is.inside is.taken (λ y k. (takes.1 y k).0);
    least = λ part closed k y hs l. elim (of_minus_lacks left new y l) [
      | inl o ↦ is.least part closed k y hs o
      | inr i ↦ closed_leads s part v closed w y (is.least part closed k w (is.taken w hw).0 (is.taken w hw).1) hs (takes.1 y i).1
    ];
    looked = λ a hs l t y k.
        let out : Lacks new a × ((a ≡ w) ⊎ Lacks todo a) = looked_at todo new w a t in
        let z : Has left y × Lacks new y = of_minus left new y k in
        elim out.1 [
          | inl same ↦ ap (λ b. e b y) same ∙ takes.0 y z.0 z.1
          | inr o ↦ is.looked a hs (elim (of_minus_lacks left new a l) [ inl p ↦ p | inr i ↦ clash i out.0 ]) o y z.0
        ];
  }

  -- no name is taken, and w was looked at
  pub reach_idle : (s left todo : NameSet) (v : C) (x w : ℕ) → IsReaching e s v x left todo → ((y : ℕ) → Has left y → e w y ≡ v) → IsReaching e s v x left (remove todo w)
  reach_idle s left todo v x w is all = record {
    start = is.start;
    inside = is.inside;
    taken = λ y h. is.taken y (of_remove todo w y h).1;
    least = is.least;
    looked = λ a hs l t y k. elim (same_name a w) [
      | inl same ↦ ap (λ b. e b y) same ∙ all y k
      | inr differs ↦ is.looked a hs l (false_from_ne_true _ (λ h. clash (remove_left todo w a differs h) t)) y k
    ];
  }

  -- all names of left are looked at, for a colour that is its own reverse: those that a name taken leads to are taken, and what was taken before leads to none of the others
  pub reach_back : {reverse : C → C} → IsColouring reverse e → (s left todo new : NameSet) (v : C) (x : ℕ) → reverse v ≡ v → IsReaching e s v x left todo →
      TakesUnless (λ y. (t : ℕ) → Has (difference s left) t → e y t ≡ v) left new → IsReaching e s v x (difference left new) new
  reach_back {reverse = reverse} col s left todo new v x own is takes = record {
    start = (is.start.0, rest_lacks left new x is.start.1);
    inside = λ y k. is.inside y (of_minus left new y k).0;
    taken = λ y k. (is.inside y (takes.1 y k).0, minus_lacks left new y k);
    least = λ part closed k y hs l. elim (of_minus_lacks left new y l) [
      | inl o ↦ is.least part closed k y hs o
      | inr i ↦ true_from_ne_false _ (λ out. (takes.1 y i).1 (λ t ht.
          let taken : Has s t × Lacks left t = of_minus s left t ht in
          turned t y (closed.across t y (is.least part closed k t taken.0 taken.1) hs out)))
    ];
    looked = λ a hs l t y k.
        let z : Has left y × Lacks new y = of_minus left new y k in
        elim (of_minus_lacks left new a l) [
          | inl o ↦ turned y a (takes.0 y z.0 z.1 a (minus_has s left a hs o))
          | inr i ↦ clash i t
        ];
  } where
    turned : (a b : ℕ) → e a b ≡ v → e b a ≡ v
    turned a b same = col.reversed a b ∙ ap reverse same ∙ own

  pub reach_end : (s left todo : NameSet) (v : C) (x : ℕ) → IsReaching e s v x left todo → ((y : ℕ) → Lacks todo y) → IsComponent e s x (difference s left) v
  reach_end s left todo v x is none = record {
    holds = minus_has s left x is.start.0 is.start.1;
    closed = record {
      inside = λ y k. (of_minus s left y k).0;
      across = λ a b ha hb l.
          let p : Has s a × Lacks left a = of_minus s left a ha in
          is.looked a p.0 p.1 (none a) b (elim (of_minus_lacks s left b l) [ inl o ↦ clash hb o | inr i ↦ i ]);
    };
    least = λ part closed k y h. let p : Has s y × Lacks left y = of_minus s left y h in is.least part closed k y p.0 p.1;
  }

  -- begun is looked at but for todo
  pub grow_start : (s begun todo : NameSet) (v : ℕ) → Has begun v → Within begun s → Within todo begun →
      ((w : ℕ) → Has begun w → Lacks todo w → (y : ℕ) → Has s y → Lacks begun y → e v y ≡ e w y) → IsGrowing e s v begun (difference s begun) todo
  grow_start s begun todo v hv inside among seen = record {
    start = hv;
    begins = λ y k. (inside y k, minus_lacks s begun y k);
    inside = λ y k. (of_minus s begun y k).0;
    taken = λ y k. (inside y (among y k), minus_lacks s begun y (among y k));
    least = λ m module_is holds y hs l. elim (of_minus_lacks s begun y l) [ inl o ↦ clash hs o | inr i ↦ holds y i ];
    looked = λ w hs l t y k. elim (of_minus_lacks s begun w l) [
      | inl o ↦ clash hs o
      | inr i ↦ let z : Has s y × Lacks begun y = of_minus s begun y k in seen w i t y z.0 z.1
    ];
  }

  pub back_start : (s : NameSet) (v j : ℕ) → Has s v → Has s j → v ≢ j → ((m : NameSet) → IsModule e s m → Has m v → Has m j → Within s m) →
      IsGoingBack e s v (difference s (only_name j)) (only_name j)
  back_start s v j hv hj differ alone = record {
    start = minus_has s (only_name j) v hv (only_lacks j v differ);
    inside = λ y k. (of_minus s (only_name j) y k).0;
    taken = λ y k. (subst (Has s) (sym (of_only j y k)) hj, minus_lacks s (only_name j) y k);
    whole = λ y hs l m module_is mv my. elim (of_minus_lacks s (only_name j) y l) [
      | inl o ↦ clash hs o
      | inr i ↦ alone m module_is mv (subst (Has m) (of_only j y i) my)
    ];
    looked = λ w hs l t y k. elim (of_minus_lacks s (only_name j) w l) [ inl o ↦ clash hs o | inr i ↦ clash i t ];
  }

  pub back_turn : (s left todo new : NameSet) (v w : ℕ) → IsGoingBack e s v left todo → Has todo w → TakesUnless (λ y. e w y ≡ e w v) left new →
      IsGoingBack e s v (difference left new) (union (remove todo w) new)
  back_turn s left todo new v w is hw takes = record {
    start = minus_has left new v is.start (false_from_ne_true _ (λ k. (takes.1 v k).1 refl));
    inside = λ y k. is.inside y (of_minus left new y k).0;
    taken = taken_then s left todo new w is.inside is.taken (λ y k. (takes.1 y k).0);
    whole = λ y hs l m module_is mv my. elim (of_minus_lacks left new y l) [
      | inl o ↦ is.whole y hs o m module_is mv my
      | inr i ↦ is.whole w (is.taken w hw).0 (is.taken w hw).1 m module_is mv
          (true_from_ne_false _ (λ out. (takes.1 y i).1 (module_is.alike y v w my mv (is.taken w hw).0 out)))
    ];
    looked = λ a hs l t y k.
        let out : Lacks new a × ((a ≡ w) ⊎ Lacks todo a) = looked_at todo new w a t in
        let z : Has left y × Lacks new y = of_minus left new y k in
        elim out.1 [
          | inl same ↦ ap (λ b. e b y) same ∙ takes.0 y z.0 z.1 ∙ ap (λ b. e b v) (sym same)
          | inr o ↦ is.looked a hs (elim (of_minus_lacks left new a l) [ inl p ↦ p | inr i ↦ clash i out.0 ]) o y z.0
        ];
  }

  -- what is left is a module that holds v, and no proper module holds v and another name
  pub back_end : (s left todo : NameSet) (v : ℕ) → IsGoingBack e s v left todo → ((y : ℕ) → Lacks todo y) → IsModule e s left
  back_end s left todo v is none = record {
    some = (v, is.start);
    inside = is.inside;
    alike = λ a b x ha hb hx l. is.looked x hx l (none x) a ha ∙ sym (is.looked x hx l (none x) b hb);
  }

  module _ {reverse : C → C} (col : IsColouring reverse e) where
    pub grow_turn : (s begun left todo new : NameSet) (v w : ℕ) → IsGrowing e s v begun left todo → Has todo w → TakesUnless (λ y. e v y ≡ e w y) left new →
        IsGrowing e s v begun (difference left new) (union (remove todo w) new)
    grow_turn s begun left todo new v w is hw takes = record {
      start = is.start;
      begins = λ y k. let t : Has s y × Lacks left y = is.begins y k in (t.0, rest_lacks left new y t.1);
      inside = λ y k. is.inside y (of_minus left new y k).0;
      taken = taken_then s left todo new w is.inside is.taken (λ y k. (takes.1 y k).0);
      least = λ m module_is holds y hs l. elim (of_minus_lacks left new y l) [
        | inl o ↦ is.least m module_is holds y hs o
        | inr i ↦ true_from_ne_false _ (λ out. (takes.1 y i).1
            (other_way col y v y w (module_is.alike v w y (holds v is.start) (is.least m module_is holds w (is.taken w hw).0 (is.taken w hw).1) hs out)))
      ];
      looked = λ a hs l t y k.
          let out : Lacks new a × ((a ≡ w) ⊎ Lacks todo a) = looked_at todo new w a t in
          let z : Has left y × Lacks new y = of_minus left new y k in
          elim out.1 [
            | inl same ↦ takes.0 y z.0 z.1 ∙ ap (λ b. e b y) (sym same)
            | inr o ↦ is.looked a hs (elim (of_minus_lacks left new a l) [ inl p ↦ p | inr i ↦ clash i out.0 ]) o y z.0
          ];
    }

    pub grow_end : (s begun left todo : NameSet) (v : ℕ) → IsGrowing e s v begun left todo → ((y : ℕ) → Lacks todo y) → IsLeastModuleOver e s begun (difference s left)
    grow_end s begun left todo v is none = record {
      is_module = record {
        some = (v, minus_has s left v (is.begins v is.start).0 (is.begins v is.start).1);
        inside = λ y k. (of_minus s left y k).0;
        alike = λ a b x ha hb hx l.
            let out : Has left x = elim (of_minus_lacks s left x l) [ inl o ↦ clash hx o | inr i ↦ i ] in
            let p : Has s a × Lacks left a = of_minus s left a ha in
            let q : Has s b × Lacks left b = of_minus s left b hb in
            other_way col a x b x (sym (is.looked a p.0 p.1 (none a) x out) ∙ is.looked b q.0 q.1 (none b) x out);
      };
      holds = λ y k. let t : Has s y × Lacks left y = is.begins y k in minus_has s left y t.0 t.1;
      least = λ m module_is holds y k. let t : Has s y × Lacks left y = of_minus s left y k in is.least m module_is holds y t.0 t.1;
    }

  -- the least module over two names is that of the two
  pub least_of_two : (s k begun : NameSet) (u v : ℕ) → ((y : ℕ) → Has begun y → (y ≡ u) ⊎ (y ≡ v)) → Has begun u → Has begun v → IsLeastModuleOver e s begun k → IsLeastModule e s u v k
  least_of_two s k begun u v of_begun hu hv is = record {
    is_module = is.is_module;
    has_left = is.holds u hu;
    has_right = is.holds v hv;
    least = λ m module_is p q. is.least m module_is (λ y h. elim (of_begun y h) [ inl same ↦ subst (Has m) (sym same) p | inr same ↦ subst (Has m) (sym same) q ]);
  }
