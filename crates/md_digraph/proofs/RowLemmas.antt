-- Rows of successors and of predecessors that cut a class.
use Rattle.std.proofs.Common.{◌≡◌, ◌≢◌, ℕ, Bool, true, Option, Some, None, IfSome, IfNone, sym, ◌∙◌, ap, subst, inl, inr}
use Rattle.std.specs.Option.{is_some}
use Rattle.std.specs.FinSet.{contains, union, intersection, difference}
use Rattle.std.proofs.lemmas.Bool.{cases_Bool, true_from_ne_false, false_from_ne_true}
use Rattle.md_graph.specs.NameSet.{IsLeastFrom, NoneFrom, symmetric_difference}
use Rattle.md_graph.specs.Sets.{NameSet, Has, Lacks, Disjoint, only_name}
use Rattle.md_graph.proofs.SetLemmas.{clash, meet_has, of_meet, minus_has, of_minus, of_union, union_left, none_lacks, rest_told, Has-along}
use Rattle.md_modules.specs.Colours.{IsColouring}
use Rattle.md_modules.specs.Classes.{IsSplitter}
use Rattle.md_modules.proofs.ClassLemmas.{IsCutBy}
use Rattle.md_digraph.specs.PlainDigraph.{PlainDigraph, IsDigraph, has_arc_to, successors, predecessors}
use Rattle.md_digraph.specs.ArcColours.{ArcColour, between}
use Rattle.md_digraph.proofs.DigraphLemmas.{contains-successors, contains-predecessors}
use Rattle.md_digraph.proofs.ArcTurns.{told_all}
use Rattle.md_modules.proofs.Modules.{other_way}
use Rattle.md_digraph.specs.Cuts.{IsCutByRow, IsToldByRow}

symmetric_differs : (a b : NameSet) (y : ℕ) → Has (symmetric_difference a b) y → contains a y ≢ contains b y
symmetric_differs a b y h same = elim (of_union (difference a b) (difference b a) y h) [
  | inl i ↦ let two : Has a y × Lacks b y = of_minus a b y i in clash two.0 (same ∙ two.1)
  | inr i ↦ let two : Has b y × Lacks a y = of_minus b a y i in clash (same ∙ two.0) two.1
]

module _ {g : PlainDigraph} (digraph : IsDigraph g) where
  abbrev e : ℕ → ℕ → ArcColour
  e = between (has_arc_to g)

  -- a name that one of u and v has an arc to, and the other hasn't
  pub told_out : (others out_u out_v row : NameSet) (u v p : ℕ) → out_u ≡ successors g u → out_v ≡ successors g v → row ≡ predecessors g p → IsLeastFrom (intersection others (symmetric_difference out_u out_v)) 0 p →
      IsToldByRow e others u v row
  told_out others out_u out_v row u v p is_u is_v is_row is =
      let two : Has others p × Has (symmetric_difference out_u out_v) p = of_meet others (symmetric_difference out_u out_v) p is.member in
      record {
        by = p;
        inside = two.0;
        alike = λ x y same. at x ∙ ap (λ c. c.1) same ∙ sym (at y);
        differ = λ same. symmetric_differs out_u out_v p two.1
            (ap (λ t. contains t p) is_u ∙ contains-successors digraph u p ∙ sym (at u) ∙ same ∙ at v ∙ sym (ap (λ t. contains t p) is_v ∙ contains-successors digraph v p));
      }
    where
      at : (x : ℕ) → contains row x ≡ has_arc_to g x p
      at x = ap (λ t. contains t x) is_row ∙ contains-predecessors digraph p x

  -- a name that has an arc to one of u and v, and not to the other
  pub told_in : (others in_u in_v row : NameSet) (u v p : ℕ) → in_u ≡ predecessors g u → in_v ≡ predecessors g v → row ≡ successors g p → IsLeastFrom (intersection others (symmetric_difference in_u in_v)) 0 p →
      IsToldByRow e others u v row
  told_in others in_u in_v row u v p is_u is_v is_row is =
      let two : Has others p × Has (symmetric_difference in_u in_v) p = of_meet others (symmetric_difference in_u in_v) p is.member in
      record {
        by = p;
        inside = two.0;
        alike = λ x y same. at x ∙ ap (λ c. c.0) same ∙ sym (at y);
        differ = λ same. symmetric_differs in_u in_v p two.1
            (ap (λ t. contains t p) is_u ∙ contains-predecessors digraph u p ∙ sym (at u) ∙ same ∙ at v ∙ sym (ap (λ t. contains t p) is_v ∙ contains-predecessors digraph v p));
      }
    where
      at : (x : ℕ) → contains row x ≡ has_arc_to g p x
      at x = ap (λ t. contains t x) is_row ∙ contains-successors digraph p x

  pub none_told : (others out_u out_v in_u in_v : NameSet) (u v : ℕ) → out_u ≡ successors g u → out_v ≡ successors g v → in_u ≡ predecessors g u → in_v ≡ predecessors g v →
      NoneFrom (intersection others (symmetric_difference out_u out_v)) 0 → NoneFrom (intersection others (symmetric_difference in_u in_v)) 0 → (y : ℕ) → Has others y → e u y ≡ e v y
  none_told others out_u out_v in_u in_v u v is_out_u is_out_v is_in_u is_in_v no_out no_in y h = (told_all digraph u v others).0 y h (false_from_ne_true _ (λ t.
      let two : Has others y × Has (union out into) y = of_meet others (union out into) y t in
      elim (of_union out into y two.1) [
        | inl i ↦ clash (meet_has others out y h i) (subst (λ m. Lacks (intersection others m) y) (same_out) (none_lacks _ no_out y))
        | inr i ↦ clash (meet_has others into y h i) (subst (λ m. Lacks (intersection others m) y) (same_in) (none_lacks _ no_in y))
      ])) where
        out : NameSet
        out = symmetric_difference (successors g u) (successors g v)

        into : NameSet
        into = symmetric_difference (predecessors g u) (predecessors g v)

        same_out : symmetric_difference out_u out_v ≡ out
        same_out = λ i. symmetric_difference (is_out_u i) (is_out_v i)

        same_in : symmetric_difference in_u in_v ≡ into
        same_in = λ i. symmetric_difference (is_in_u i) (is_in_v i)

-- ---- a class

module _ {C : Type 0} (e : ℕ → ℕ → C) where
  pub row_cuts : (class others row : NameSet) (u v : ℕ) → Has class u → Has class v → Disjoint class others → IsToldByRow e others u v row → IsCutByRow e others class row
  row_cuts class others row u v hu hv apart is = record {
    by = is.by;
    inside = is.inside;
    outside = false_from_ne_true _ (λ h. clash is.inside (apart is.by h));
    alike = is.alike;
    sees = elim (cases_Bool (contains row u)) [ inl t ↦ (u, hu, t) | inr f ↦ (v, hv, true_from_ne_false _ (λ k. is.differ (f ∙ sym k))) ];
    misses = elim (cases_Bool (contains row u)) [ inl t ↦ (v, hv, false_from_ne_true _ (λ k. is.differ (t ∙ sym k))) | inr f ↦ (u, hu, f) ];
  }

  -- where all members of a class have the same colours with the others
  pub none_cuts : {reverse : C → C} → IsColouring reverse e → (class others : NameSet) (first : ℕ) → ((w : ℕ) → Has class w → (y : ℕ) → Has others y → e first y ≡ e w y) → (p : ℕ) → IsSplitter e others class p → ⊥
  none_cuts col class others first alike p is =
      let (a, b, ha, hb, differ) = is.tells in
      differ (other_way col a p b p (sym (alike a ha p is.inside) ∙ alike b hb p is.inside))

  pub cuts_in : (s class others row : NameSet) → others ≡ difference s class → IsCutByRow e others class row → IsCutByRow e s class row
  cuts_in s class others row is cut = record {
    by = cut.by;
    inside = (of_minus s class cut.by (subst (λ t. Has t cut.by) is cut.inside)).0;
    outside = cut.outside;
    alike = cut.alike;
    sees = cut.sees;
    misses = cut.misses;
  }

  pub none_in : (s class others : NameSet) → others ≡ difference s class → ((p : ℕ) → IsSplitter e others class p → ⊥) → (p : ℕ) → IsSplitter e s class p → ⊥
  none_in s class others is none p tells = none p (record {
    inside = subst (λ t. Has t p) (sym is) (minus_has s class p tells.inside tells.outside);
    outside = tells.outside;
    tells = tells.tells;
  })

  pub is_cut_by : (s class row : NameSet) (cut : IsCutByRow e s class row) → IsCutBy e s class row cut.by
  is_cut_by s class row cut = record { inside = cut.inside; outside = cut.outside; alike = cut.alike; sees = cut.sees; misses = cut.misses }

-- ---- a class with the names outside it

-- where a class is a name alone
pub alone_told : (class : NameSet) (found : Option ℕ) (r : Bool) → IfSome found (λ v. class ≡ only_name v) → r ≡ is_some found → r ≡ true → (v : ℕ) × (class ≡ only_name v)
alone_told class None r one is t = absurd (cc)
alone_told class (Some v) r one is t = (v, one)

pub found_in : {C A : Type 0} (e : ℕ → ℕ → C) (row_of : A → NameSet) (s class names others : NameSet) (found : Option A) → names ≡ class → others ≡ difference s names →
    IfSome found (λ row. IsCutByRow e others names (row_of row)) → IfSome found (λ row. IsCutByRow e s class (row_of row))
found_in e row_of s class names others None same is cut = tt
found_in e row_of s class names others (Some row) same is cut =
    cuts_in e s class others (row_of row) (is ∙ ap (difference s) same) (subst (λ t. IsCutByRow e others t (row_of row)) same cut)

pub none_found_in : {C A : Type 0} (e : ℕ → ℕ → C) (s class names others : NameSet) (found : Option A) → names ≡ class → others ≡ difference s names →
    IfNone found ((p : ℕ) → IsSplitter e others names p → ⊥) → IfNone found ((p : ℕ) → IsSplitter e s class p → ⊥)
none_found_in e s class names others None same is none = none_in e s class others (is ∙ ap (difference s) same) (subst (λ t. (p : ℕ) → IsSplitter e others t p → ⊥) same none)
none_found_in e s class names others (Some row) same is none = tt

-- ---- a row that has some names of a class and lacks some

module _ (class row : NameSet) where
  pub row_sees : (apart : NameSet) (a : ℕ) → Disjoint class apart → IsLeastFrom (intersection class (symmetric_difference row apart)) 0 a → (x : ℕ) × Has class x × Has row x
  row_sees apart a disjoint is =
      let two : Has class a × Has (symmetric_difference row apart) a = of_meet class (symmetric_difference row apart) a is.member in (
        a,
        two.0,
        elim (of_union (difference row apart) (difference apart row) a two.1) [
          | inl i ↦ (of_minus row apart a i).0
          | inr i ↦ clash (of_minus apart row a i).0 (disjoint a two.0)
        ],
      )

  pub row_misses : (a : ℕ) → IsLeastFrom (intersection class (symmetric_difference row class)) 0 a → (x : ℕ) × Has class x × Lacks row x
  row_misses a is = let two : Has class a × Lacks row a = of_minus class row a (Has-along _ _ (rest_told class row) a is.member) in (a, two.0, two.1)

  -- no name of the class
  pub row_has_none : (apart : NameSet) → Disjoint class apart → NoneFrom (intersection class (symmetric_difference row apart)) 0 → (x y : ℕ) → Has class x → Has class y → contains row x ≡ contains row y
  row_has_none apart disjoint none x y hx hy = lacks x hx ∙ sym (lacks y hy)
    where
      lacks : (z : ℕ) → Has class z → Lacks row z
      lacks z h = false_from_ne_true _ (λ k.
          clash (meet_has class (symmetric_difference row apart) z h (union_left (difference row apart) (difference apart row) z (minus_has row apart z k (disjoint z h))))
          (none_lacks (intersection class (symmetric_difference row apart)) none z))

  -- all names of the class
  pub row_has_all : NoneFrom (intersection class (symmetric_difference row class)) 0 → (x y : ℕ) → Has class x → Has class y → contains row x ≡ contains row y
  row_has_all none x y hx hy = has x hx ∙ sym (has y hy)
    where
      has : (z : ℕ) → Has class z → Has row z
      has z h = true_from_ne_false _ (λ k.
          clash (Has-along _ _ (sym (rest_told class row)) z (minus_has class row z h k)) (none_lacks (intersection class (symmetric_difference row class)) none z))

module _ {g : PlainDigraph} (digraph : IsDigraph g) (class others : NameSet) (p : ℕ) where
  out_at : (row : NameSet) → row ≡ successors g p → (x : ℕ) → contains row x ≡ has_arc_to g p x
  out_at row is x = ap (λ t. contains t x) is ∙ contains-successors digraph p x

  in_at : (row : NameSet) → row ≡ predecessors g p → (x : ℕ) → contains row x ≡ has_arc_to g x p
  in_at row is x = ap (λ t. contains t x) is ∙ contains-predecessors digraph p x

  row_cuts_by : (row : NameSet) → Has others p → Disjoint class others → ((x y : ℕ) → between (has_arc_to g) p x ≡ between (has_arc_to g) p y → contains row x ≡ contains row y) →
      ((a : ℕ) × Has class a × Has row a) → ((a : ℕ) × Has class a × Lacks row a) → IsCutByRow (between (has_arc_to g)) others class row
  row_cuts_by row member apart alike sees misses = record {
    by = p;
    inside = member;
    outside = false_from_ne_true _ (λ h. clash member (apart p h));
    alike = alike;
    sees = sees;
    misses = misses;
  }

  pub out_cuts : (row : NameSet) → row ≡ successors g p → Has others p → Disjoint class others → ((a : ℕ) × Has class a × Has row a) → ((a : ℕ) × Has class a × Lacks row a) →
      IsCutByRow (between (has_arc_to g)) others class row
  out_cuts row is member apart sees misses = row_cuts_by row member apart (λ x y same. out_at row is x ∙ ap (λ c. c.0) same ∙ sym (out_at row is y)) sees misses

  pub in_cuts : (row : NameSet) → row ≡ predecessors g p → Has others p → Disjoint class others → ((a : ℕ) × Has class a × Has row a) → ((a : ℕ) × Has class a × Lacks row a) →
      IsCutByRow (between (has_arc_to g)) others class row
  in_cuts row is member apart sees misses = row_cuts_by row member apart (λ x y same. in_at row is x ∙ ap (λ c. c.1) same ∙ sym (in_at row is y)) sees misses

  pub no_row_cuts : (out into : NameSet) → out ≡ successors g p → into ≡ predecessors g p →
      ((x y : ℕ) → Has class x → Has class y → contains out x ≡ contains out y) → ((x y : ℕ) → Has class x → Has class y → contains into x ≡ contains into y) →
      IsSplitter (between (has_arc_to g)) others class p → ⊥
  no_row_cuts out into is_out is_into same_out same_in is =
      let (a, b, ha, hb, differ) = is.tells in
      let forth : has_arc_to g p a ≡ has_arc_to g p b = sym (out_at out is_out a) ∙ same_out a b ha hb ∙ out_at out is_out b in
      let back : has_arc_to g a p ≡ has_arc_to g b p = sym (in_at into is_into a) ∙ same_in a b ha hb ∙ in_at into is_into b in
      differ (λ i. (forth i, back i))
