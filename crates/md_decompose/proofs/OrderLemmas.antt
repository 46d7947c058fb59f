-- Classes listed in ascending order of their least names, by marks that are sorted.
use Rattle.std.proofs.Common.{◌≡◌, ℕ, ◌<◌, ◌≤◌, ◌≢◌, false, eqb, List, [], ◌∷◌, ◌++◌, length, get_or, map, All, Contains, AllPairs, refl, sym, ◌∙◌, ap, subst, inl, inr, arith}
use Rattle.std.proofs.lemmas.Bool.{ne_eqb, eqb-false}
use Rattle.std.proofs.lemmas.List.{get_or_default, get_or-map, length-map, map-append}
use Rattle.std.proofs.lemmas.List.Elements.{Contains-get_or, All-push}
use Rattle.std.proofs.lemmas.List.Kept.{AllPairs-cons}
use Rattle.std.proofs.lemmas.List.Sorted.{All-permutation, IsPermutation-map, Contains-permutation}
use Rattle.std.proofs.lemmas.Map.Keys.{IsDistinct-from_apart, IsDistinct-IsPermutation, apart_from_distinct}
use Rattle.std.specs.FinSet.{empty}
use Rattle.std.specs.List.{IsDistinct}
use Rattle.std.specs.List.Sorted.{IsPermutation, IsNonDecreasingBy}
use Rattle.md_graph.specs.NameSet.{IsLeastFrom}
use Rattle.md_graph.specs.Sets.{NameSet, Has, HasSome}
use Rattle.md_graph.proofs.SetLemmas.{same_turned, Has-along, along_two}
use Rattle.md_text.proofs.Lists.{In, of_contains, to_contains, in_right}
use Rattle.md_tree.specs.StrongTrees.{IsBefore}
use Rattle.md_decompose.specs.declared.ordered.Mark.{Mark}
use Rattle.md_decompose.specs.Children.{set_at}
use Rattle.md_modules.specs.Classes.{AreApart}
use Rattle.md_decompose.specs.Marks.{IsMark, AreMarks, ListsInOrder}

pub contains_at : (cs : List NameSet) (k : ℕ) → k < length cs → Contains cs (set_at cs k)
contains_at cs k l = Contains-get_or cs k empty l

pub at_contained : (cs : List NameSet) (m : NameSet) → Contains cs m → (k : ℕ) × (k < length cs) × (set_at cs k ≡ m)
at_contained cs m has = (has.0, has.1, get_or_default cs has.0 empty m has.1 ∙ has.2)

-- each one of sets that are apart has a member
pub some_taken : (cs done rest : List NameSet) (c : NameSet) → AreApart cs → done ++ c ∷ rest ≡ cs → HasSome c
some_taken cs done rest c apart is =
    let place : (k : ℕ) × (k < length cs) × (set_at cs k ≡ c) =
    at_contained cs c (subst (λ ns. Contains ns c) is (to_contains (done ++ c ∷ rest) c (in_right done (c ∷ rest) c (inl refl))))
    in
    subst HasSome place.2 (apart.some place.0 place.1)

-- ---- marks

abbrev pub class_of : {w : ℕ} → Mark w → NameSet
class_of m = m.class

abbrev least_of : {w : ℕ} → Mark w → ℕ
least_of m = m.least

no_mark : {w : ℕ} → Mark w
no_mark = record { least = 0; class = empty }

-- the marks of the sets, in the same order
pub record AreMarksOf {w : ℕ} (cs : List NameSet) (ms : List (Mark w)) : Type 0 where
  pub classes : map class_of ms ≡ cs
  pub least : All (λ m. IsLeastFrom m.class 0 m.least) ms

module _ {w : ℕ} (cs : List NameSet) (ms sorted : List (Mark w)) (apart : AreApart cs) (is : AreMarksOf cs ms) (moved : IsPermutation ms sorted) where
  size : length ms ≡ length cs
  size = sym (length-map ms class_of) ∙ ap length is.classes

  at_place : (k : ℕ) (d : Mark w) → k < length ms → (get_or ms k d).class ≡ set_at cs k
  at_place k d l = sym (get_or-map class_of ms k d empty l) ∙ ap (λ ns. get_or ns k empty) is.classes

  distinct : IsDistinct eqb (map least_of ms)
  distinct = IsDistinct-from_apart eqb (map least_of ms) (λ i j d before known.
      let mapped : length (map least_of ms) ≡ length ms = length-map ms least_of in
      let in_i : i < length ms = omega arith in
      let in_j : j < length ms = omega arith in
      let first : get_or (map least_of ms) i d ≡ (get_or ms i no_mark).least = get_or-map least_of ms i no_mark d in_i in
      let second : get_or (map least_of ms) j d ≡ (get_or ms j no_mark).least = get_or-map least_of ms j no_mark d in_j in
      ne_eqb _ _ (λ same.
      let both : (get_or ms i no_mark).least ≡ (get_or ms j no_mark).least = sym first ∙ same ∙ second in
      let one : i ≡ j = apart.apart i j (get_or ms i no_mark).least
      (Has-along _ _ (at_place i no_mark in_i) _ (is.least i no_mark in_i).member)
      (Has-along _ _ (at_place j no_mark in_j) _ (subst (Has (get_or ms j no_mark).class) (sym both) (is.least j no_mark in_j).member)) in
      omega arith))

  pub marks_sorted : IsNonDecreasingBy (λ (m : Mark w). m.least) sorted → AreMarks cs sorted
  marks_sorted rising = record {
    marks = All-permutation (IsMark cs) ms sorted moved (λ k d l. record {
      known = subst (Contains cs) (sym (at_place k d l)) (contains_at cs k (let same : length ms ≡ length cs = size in omega arith));
      least = is.least k d l;
    });
    cover = λ c has.
        let place : (k : ℕ) × (k < length cs) × (set_at cs k ≡ c) = at_contained cs c has in
        let known : place.0 < length ms = (let same : length ms ≡ length cs = size in let l : place.0 < length cs = place.1 in omega arith) in
        (get_or ms place.0 no_mark, Contains-permutation ms sorted (get_or ms place.0 no_mark) moved (Contains-get_or ms place.0 no_mark known), at_place place.0 no_mark known ∙ place.2);
    ascending = λ i j d before known.
        let le : (get_or sorted i d).least ≤ (get_or sorted j d).least = rising i j d (omega arith) known in
        let mapped : length (map least_of sorted) ≡ length sorted = length-map sorted least_of in
        let apart_keys : eqb (get_or (map least_of sorted) i 0) (get_or (map least_of sorted) j 0) ≡ false =
        apart_from_distinct eqb (map least_of sorted) i j 0
        (IsDistinct-IsPermutation eqb same_turned (map least_of ms) (map least_of sorted) (IsPermutation-map least_of ms sorted moved) distinct) before (omega arith)
        in
        let first : get_or (map least_of sorted) i 0 ≡ (get_or sorted i d).least = get_or-map least_of sorted i d 0 (omega arith) in
        let second : get_or (map least_of sorted) j 0 ≡ (get_or sorted j d).least = get_or-map least_of sorted j d 0 known in
        let differ : (get_or sorted i d).least ≢ (get_or sorted j d).least = λ same. eqb-false _ _ apart_keys (first ∙ same ∙ sym second) in
        omega arith;
  }

-- one more set, with its mark behind the others
pub marks_none : {w : ℕ} (ms : List (Mark w)) → ms ≡ [] → AreMarksOf [] ms
marks_none ms none = subst (AreMarksOf []) (sym none) (record { classes = refl; least = λ k d l. absurd (let b : k < 0 = l in omega arith) })

pub marks_more : {w : ℕ} (cs : List NameSet) (ms more : List (Mark w)) (m : Mark w) → AreMarksOf cs ms → IsLeastFrom m.class 0 m.least → more ≡ ms ++ m ∷ [] →
    AreMarksOf (cs ++ m.class ∷ []) more
marks_more {w} cs ms more m are least pushed = subst (AreMarksOf (cs ++ m.class ∷ [])) (sym pushed) (record {
  classes = map-append class_of ms (m ∷ []) ∙ ap (λ ns. ns ++ m.class ∷ []) are.classes;
  least = All-push (λ (n : Mark w). IsLeastFrom n.class 0 n.least) ms m are.least least;
})

-- ---- sets listed by their marks

in_map : {w : ℕ} (ms : List (Mark w)) (m : Mark w) → In ms m → In (map class_of ms) m.class
in_map [] m none = none
in_map (n ∷ ms) m (inl same) = inl (ap class_of same)
in_map (n ∷ ms) m (inr i) = inr (in_map ms m i)

of_map : {w : ℕ} (ms : List (Mark w)) (c : NameSet) → In (map class_of ms) c → (m : Mark w) × In ms m × (c ≡ m.class)
of_map {w} [] c none = absurd none
of_map {w} (n ∷ ms) c (inl same) = (n, inl refl, same)
of_map {w} (n ∷ ms) c (inr i) = let r : (m : Mark w) × In ms m × (c ≡ m.class) = of_map ms c i in (r.0, inr r.1, r.2)

-- each mark's set is before those behind it
module _ {w : ℕ} (first : NameSet) (cs : List NameSet) (ms : List (Mark w)) (are : AreMarks cs ms) where
  known_of : (m : Mark w) → In ms m → IsMark cs m
  known_of m i =
      let has : Contains ms m = to_contains ms m i in
      subst (IsMark cs) has.2 (are.marks has.0 m has.1)

  classes_rise : AllPairs IsBefore (map class_of ms)
  classes_rise i j d before known =
      let mapped : length (map class_of ms) ≡ length ms = length-map ms class_of in
      let in_i : i < length ms = omega arith in
      let in_j : j < length ms = omega arith in
      along_two IsBefore (get_or ms i no_mark).class (get_or ms j no_mark).class (get_or (map class_of ms) i d) (get_or (map class_of ms) j d)
      (get_or-map class_of ms i no_mark d in_i) (get_or-map class_of ms j no_mark d in_j) (
        (get_or ms i no_mark).least,
        (are.marks i no_mark in_i).least.member,
        λ y h.
            let above : (get_or ms j no_mark).least ≤ y = (are.marks j no_mark in_j).least.first y h (omega arith) in
            let rises : (get_or ms i no_mark).least < (get_or ms j no_mark).least = are.ascending i j no_mark before in_j in
            omega arith,
      )

  all_behind : ((k : ℕ) → k < length cs → IsBefore first (set_at cs k)) → All (IsBefore first) (map class_of ms)
  all_behind lowest k d l =
      let mapped : length (map class_of ms) ≡ length ms = length-map ms class_of in
      let in_k : k < length ms = omega arith in
      let place : (n : ℕ) × (n < length cs) × (set_at cs n ≡ (get_or ms k no_mark).class) = at_contained cs (get_or ms k no_mark).class (are.marks k no_mark in_k).known in
      subst (IsBefore first) (place.2 ∙ sym (get_or-map class_of ms k no_mark d in_k)) (lowest place.0 place.1)

  pub listed : (done : List NameSet) → ((k : ℕ) → k < length cs → IsBefore first (set_at cs k)) → done ≡ first ∷ map class_of ms → ListsInOrder first cs done
  listed done lowest is = subst (ListsInOrder first cs) (sym is) (record {
    order = AllPairs-cons IsBefore first (map class_of ms) (all_behind lowest) classes_rise;
    exactly = λ n. (
      λ has. elim (of_contains (first ∷ map class_of ms) n has) [
        | inl same ↦ inl same
        | inr i ↦ (let m : (m : Mark w) × In ms m × (n ≡ m.class) = of_map ms n i in inr (subst (Contains cs) (sym m.2) (known_of m.0 m.1).known))
      ],
      λ one. to_contains (first ∷ map class_of ms) n (elim one [
        | inl same ↦ inl same
        | inr has ↦
            let m : (m : Mark w) × Contains ms m × (m.class ≡ n) = are.cover n has in
            inr (subst (In (map class_of ms)) m.2 (in_map ms m.0 (of_contains ms m.0 m.1)))
      ]),
    );
  })
