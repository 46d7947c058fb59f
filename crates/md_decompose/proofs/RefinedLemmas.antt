-- Classes that no module lies across: they stay so where those without a name are cut by its row.
use Rattle.std.proofs.Common.{◌≡◌, ◌≢◌, ℕ, zero, suc, ◌+◌, ◌<◌, ◌≤◌, Bool, true, false, ◌⊎◌, cond, not, ◌&&◌, ◌||◌, if◌then◌else◌, ltb, List, [], ◌∷◌, ◌++◌, All, map, length, replicate, get_or, set, Option, None, Some, is_some, refl, sym, ◌∙◌, ap, subst, inl, inr, arith, length-append}
use Rattle.std.specs.List.{filter, flat_map, position_from}
use Rattle.std.specs.FinSet.{contains, empty, insert}
use Rattle.std.proofs.lemmas.Bool.{cases_lt, lt-ltb, false≢true, false_from_ne_true}
use Rattle.std.proofs.lemmas.Option.{none-some, same_Some}
use Rattle.std.proofs.lemmas.List.{get_or-replicate, get_or_past, get_or-set_same, get_or-set_other, get_or-map, length-replicate, length-map}
use Rattle.std.proofs.lemmas.List.Elements.{All-nil, All-cons, All-head, All-tail, All-append}
use Rattle.std.proofs.lemmas.List.Folds.{list_any-append}
use Rattle.md_graph.specs.declared.TheConstants.{NAMES}
use Rattle.md_graph.specs.NameSet.{AllBelow, ascending}
use Rattle.md_graph.specs.Sets.{NameSet, Has, Lacks, HasSome}
use Rattle.md_graph.proofs.SetLemmas.{clash, same_name, empty_lacks, Has-along, insert_new, insert_old, of_insert}
use Rattle.md_modules.specs.Modules.{IsModule}
use Rattle.md_modules.specs.Classes.{class_at, HoldsModules}
use Rattle.md_modules.proofs.ClassLists.{at_known}
use Rattle.md_refine.specs.Partitions.{Classes, is_in, is_name, holders, class_position, ArePartition, unless_empty, parts, cut_outside, one_class}
use Rattle.md_refine.proofs.Lists.{in_filter, in_first}
use Rattle.md_refine.proofs.Refining.{in_ascending, held, some_held}
use Rattle.std.proofs.Math.Bool.{or-false, and-false}
use Rattle.md_refine.proofs.Showing.{position_some}
use Rattle.md_decompose.specs.Refined.{HasAllOrNone, CutNoModule, number_at, IsNumbering, AreNumbered, set_or_empty, set_yet_at}

-- ---- the names of classes

named_alone : (c : List ℕ) (v : ℕ) → is_name (unless_empty c) v ≡ is_in c v
named_alone [] v = refl
named_alone (x ∷ xs) v = or-false (is_in (x ∷ xs) v)

named_parts : (t : ℕ → Bool) (c : List ℕ) (v : ℕ) → is_name (parts t c) v ≡ is_in c v
named_parts t c v =
    list_any-append (λ d. is_in d v) (unless_empty (filter t c)) (unless_empty (filter (λ w. not (t w)) c))
    ∙ rw (named_alone (filter t c) v, named_alone (filter (λ w. not (t w)) c) v, in_filter t c v, in_filter (λ w. not (t w)) c v) (both (t v) (is_in c v))
  where
    both : (a b : Bool) → ((a && b) || (not a && b)) ≡ b
    both true true = refl
    both true false = refl
    both false true = refl
    both false false = refl

module _ (f : List ℕ → List (List ℕ)) where
  named_each : (v : ℕ) → ((c : List ℕ) → is_name (f c) v ≡ is_in c v) → (cs : List (List ℕ)) → is_name (flat_map f cs) v ≡ is_name cs v
  named_each v same [] = refl
  named_each v same (c ∷ cs) = list_any-append (λ d. is_in d v) (f c) (flat_map f cs) ∙ rw (same c, named_each v same cs) refl

  all_each : (P : List ℕ → Type 0) → ((c : List ℕ) → P c → All P (f c)) → (cs : List (List ℕ)) → All P cs → All P (flat_map f cs)
  all_each P each [] all = All-nil P
  all_each P each (c ∷ cs) all = All-append P (f c) (flat_map f cs) (each c (All-head P c cs all)) (all_each P each cs (All-tail P c cs all))

all_alone : (P : List ℕ → Type 0) (c : List ℕ) → P c → All P (unless_empty c)
all_alone P [] here = All-nil P
all_alone P (x ∷ xs) here = All-cons P (x ∷ xs) [] here (All-nil P)

-- ---- the first class

pub cut_none : {C : Type 0} (e : ℕ → ℕ → C) (s b : NameSet) → AllBelow b NAMES → CutNoModule e s b (one_class b).classes
cut_none e s b below = record {
  names = λ v. named_alone (ascending b) v ∙ in_b v;
  whole = λ m is inside. all_alone (HasAllOrNone m) (ascending b) (λ x y hx hy. in_b x ∙ inside x hx ∙ sym (in_b y ∙ inside y hy));
}
  where
    in_b : (v : ℕ) → is_in (ascending b) v ≡ contains b v
    in_b v = in_ascending b NAMES v ∙ go (contains b v) refl
      where
        go : (h : Bool) → contains b v ≡ h → (ltb v NAMES && h) ≡ h
        go true h = rw (lt-ltb v NAMES (below v h)) refl
        go false h = and-false (ltb v NAMES)

-- ---- one more row

-- a part of a class, by a test that doesn't tell the names of m in the class apart
part_whole : (m : NameSet) (t : ℕ → Bool) (c : List ℕ) → ((x y : ℕ) → Has m x → Has m y → is_in c x ≡ true → t x ≡ t y) → HasAllOrNone m c → HasAllOrNone m (filter t c)
part_whole m t c alike whole x y hx hy =
    in_filter t c x ∙ go (is_in c x) refl ∙ sym (in_filter t c y)
  where
    go : (b : Bool) → is_in c x ≡ b → (t x && b) ≡ (t y && is_in c y)
    go true h = rw (sym (whole x y hx hy) ∙ h) (ap (λ a. a && true) (alike x y hx hy h))
    go false h = rw (sym (whole x y hx hy) ∙ h) (and-false (t x) ∙ sym (and-false (t y)))

module _ {C : Type 0} (e : ℕ → ℕ → C) (s b row : NameSet) (p : ℕ) (inside : Has s p) (sees : (x y : ℕ) → e p x ≡ e p y → contains row x ≡ contains row y) where
  abbrev piece : List ℕ → List (List ℕ)
  piece c = if is_in c p then c ∷ [] else parts (contains row) c

  named_piece : (v : ℕ) (c : List ℕ) → is_name (piece c) v ≡ is_in c v
  named_piece v c = elim (is_in c p) as (λ a. is_name (if a then c ∷ [] else parts (contains row) c) v ≡ is_in c v) [
    | true ↦ or-false (is_in c v)
    | false ↦ named_parts (contains row) c v
  ]

  -- a name outside m sees the names of m alike
  whole_piece : (m : NameSet) → IsModule e s m → (c : List ℕ) → HasAllOrNone m c → All (HasAllOrNone m) (piece c)
  whole_piece m is c whole =
      elim (is_in c p) as (λ a. is_in c p ≡ a → All (HasAllOrNone m) (if a then c ∷ [] else parts (contains row) c)) [
        | true ↦ λ h. All-cons (HasAllOrNone m) c [] whole (All-nil (HasAllOrNone m))
        | false ↦ λ h.
            All-append (HasAllOrNone m) (unless_empty (filter (contains row) c)) (unless_empty (filter (λ w. not (contains row w)) c))
            (all_alone (HasAllOrNone m) (filter (contains row) c) (part_whole m (contains row) c (alike h) whole))
            (all_alone (HasAllOrNone m) (filter (λ w. not (contains row w)) c) (part_whole m (λ w. not (contains row w)) c (λ x y hx hy k. ap not (alike h x y hx hy k)) whole))
      ] refl
    where
      alike : is_in c p ≡ false → (x y : ℕ) → Has m x → Has m y → is_in c x ≡ true → contains row x ≡ contains row y
      alike out x y hx hy k =
          let lacks : Lacks m p = false_from_ne_true (contains m p) (λ hp. false≢true (sym out ∙ whole p x hp hx ∙ k)) in
          sees x y (is.alike x y p hx hy inside lacks)

  pub cut_more : (cs : List (List ℕ)) → CutNoModule e s b cs → CutNoModule e s b (cut_outside p row cs)
  cut_more cs before = record {
    names = λ v. named_each piece v (named_piece v) cs ∙ before.names v;
    whole = λ m is within. all_each piece (HasAllOrNone m) (whole_piece m is) cs (before.whole m is within);
  }

-- ---- the numbers of classes

position_same : (x y k : ℕ) (cs : List (List ℕ)) → All (λ c. is_in c x ≡ is_in c y) cs → position_from (λ c. is_in c x) k cs ≡ position_from (λ c. is_in c y) k cs
position_same x y k [] same = refl
position_same x y k (c ∷ cs) same =
    rw (All-head (λ d. is_in d x ≡ is_in d y) c cs same, position_same x y (k + 1) cs (All-tail (λ d. is_in d x ≡ is_in d y) c cs same)) refl

position_low : (t : List ℕ → Bool) (j k : ℕ) (cs : List (List ℕ)) → position_from t j cs ≡ Some k → k < j + length cs
position_low t j k [] is = absurd (none-some k is)
position_low t j k (c ∷ cs) is =
    elim (t c) as (λ b. cond b (Some j) (position_from t (j + 1) cs) ≡ Some k → k < j + length (c ∷ cs)) [
      | true ↦ λ h. let same = same_Some j k h in omega arith
      | false ↦ λ h. let rest = position_low t (j + 1) k cs h in omega arith
    ] is

position_none : (v j : ℕ) (cs : List (List ℕ)) → holders v cs ≡ 0 → position_from (λ c. is_in c v) j cs ≡ None
position_none v j [] none = refl
position_none v j (c ∷ cs) none =
    rw (some_held v c cs none) (position_none v (j + 1) cs (less (is_in c v) (holders v cs) none))
  where
    less : (a : Bool) (n : ℕ) → cond a 1 0 + n ≡ 0 → n ≡ 0
    less true n h = absurd (omega arith)
    less false n h = omega arith

-- each class has a name whose position it has
position_each : (j : ℕ) (cs : List (List ℕ)) → All (λ c. c ≢ []) cs → ((v : ℕ) → holders v cs ≤ 1) → (i : ℕ) → i < length cs → (v : ℕ) × (position_from (λ c. is_in c v) j cs ≡ Some (j + i))
position_each j [] some once i low = absurd (omega arith)
position_each j (c ∷ cs) some once zero low = first c (All-head (λ d. d ≢ []) c cs some)
  where
    first : (c : List ℕ) → c ≢ [] → (v : ℕ) × (position_from (λ d. is_in d v) j (c ∷ cs) ≡ Some (j + 0))
    first [] filled = absurd (filled refl)
    first (x ∷ xs) filled = (x, rw (in_first x xs) (ap (λ k. Some k) (let same : j ≡ j + 0 = omega arith in same)))
position_each j (c ∷ cs) some once (suc i) low =
    later (position_each (j + 1) cs (All-tail (λ d. d ≢ []) c cs some) (λ v. let o = once v in omega arith) i (omega arith))
  where
    later : (v : ℕ) × (position_from (λ d. is_in d v) (j + 1) cs ≡ Some (j + 1 + i)) → (v : ℕ) × (position_from (λ d. is_in d v) j (c ∷ cs) ≡ Some (j + suc i))
    later (v, found) =
        let out : is_in c v ≡ false = false_from_ne_true (is_in c v) (λ h. none-some (j + 1 + i) (sym (position_none v (j + 1) cs (held v c cs (once v) h)) ∙ found)) in
        (v, rw out (found ∙ ap (λ k. Some k) (let same : j + 1 + i ≡ j + suc i = omega arith in same)))

has_position : (cs : List (List ℕ)) (v : ℕ) → is_name cs v ≡ true → (k : ℕ) × (class_position cs v ≡ Some k)
has_position cs v named = go (class_position cs v) refl (position_some (λ c. is_in c v) 0 cs ∙ named)
  where
    go : (o : Option ℕ) → class_position cs v ≡ o → is_some (class_position cs v) ≡ true → (k : ℕ) × (class_position cs v ≡ Some k)
    go None is some = absurd (false≢true (sym (ap is_some is) ∙ some))
    go (Some k) is some = (k, is)

module _ (b : NameSet) (q : Classes) (names : (v : ℕ) → is_name q.classes v ≡ contains b v) (part : ArePartition q) where
  pub is_numbering : IsNumbering b (class_position q.classes) (length q.classes)
  is_numbering = record {
    known = λ v h.
        let at = has_position q.classes v (names v ∙ h) in
        (at.0, at.1, (let low = position_low (λ c. is_in c v) 0 at.0 q.classes at.1 in omega arith));
    used = λ k low.
        let at = position_each 0 q.classes part.filled part.apart k low in
        let found : class_position q.classes at.0 ≡ Some k = at.1 ∙ ap (λ n. Some n) (let same : 0 + k ≡ k = omega arith in same) in
        (at.0, sym (names at.0) ∙ sym (position_some (λ c. is_in c at.0) 0 q.classes) ∙ ap is_some found, found);
  }

  -- a list with the positions
  module _ (numbers : List (Option ℕ)) (count : ℕ) (counted : count ≡ length q.classes) (are : (v : ℕ) → number_at numbers v ≡ class_position q.classes v) where
    pub is_numbered_list : IsNumbering b (number_at numbers) count
    is_numbered_list = record {
      known = λ v h. let at = is_numbering.known v h in (at.0, are v ∙ at.1, (let low = at.2 in omega arith));
      used = λ k low. let at = is_numbering.used k (omega arith) in (at.0, at.1, are at.0 ∙ at.2);
    }

    pub sets_at_positions : (cs : List NameSet) → AreNumbered b (number_at numbers) count cs → AreNumbered b (class_position q.classes) (length q.classes) cs
    sets_at_positions cs sets = record {
      long = sets.long ∙ counted;
      members = λ k v h. let at = sets.members k v h in (at.0, sym (are v) ∙ at.1);
      cover = λ k v low member is. sets.cover k v (omega arith) member (are v ∙ is);
    }

  -- the sets by number partition b, and no module lies across two
  module _ {C : Type 0} (e : ℕ → ℕ → C) (s : NameSet) (cut : CutNoModule e s b q.classes) (cs : List NameSet) (sets : AreNumbered b (class_position q.classes) (length q.classes) cs) where
    pub holds_modules : HoldsModules e s b cs
    holds_modules = record {
      partition = record {
        are_apart = record {
          some = λ k low.
              let at = is_numbering.used k (let long = sets.long in omega arith) in
              (at.0, sets.cover k at.0 (let long = sets.long in omega arith) at.1 at.2);
          apart = λ j k x hj hk. same_Some j k (sym (sets.members j x hj).1 ∙ (sets.members k x hk).1);
        };
        inside = λ k x h. (sets.members k x h).0;
        cover = λ x h. let at = is_numbering.known x h in (at.0, sets.cover at.0 x at.2 h at.1);
      };
      whole = λ m is within k x h hm y hy.
          let same = position_same x y 0 q.classes (let all = cut.whole m is within in λ i d l. all i d l x y hm hy) in
          sets.cover k y (let low = at_known cs k x h in let long = sets.long in omega arith) (within y hy) (sym same ∙ (sets.members k x h).1);
    }

-- ---- the sets by number

-- a name that has a number is below the length of the list
pub numbered_within : (b : NameSet) (numbers : List (Option ℕ)) (count : ℕ) → IsNumbering b (number_at numbers) count → (v : ℕ) → Has b v → v < length numbers
numbered_within b numbers count is v member =
    elim (cases_lt v (length numbers)) [
      | inl within ↦ within
      | inr past ↦ let known = is.known v member in absurd (none-some known.0 (sym (get_or_past numbers v None past) ∙ known.1))
    ]

pub number_low : (b : NameSet) (numbers : List (Option ℕ)) (count : ℕ) → IsNumbering b (number_at numbers) count → (v n : ℕ) → Has b v → number_at numbers v ≡ Some n → n < count
number_low b numbers count is v n member number =
    let known = is.known v member in
    let same = same_Some n known.0 (sym number ∙ known.1) in
    let low = known.2 in
    omega arith

-- there is no set yet
pub none_yet_has : (count k v : ℕ) → Has (set_yet_at (replicate count None) k) v → ⊥
none_yet_has count k v h =
    clash (Has-along (set_yet_at (replicate count None) k) empty (ap set_or_empty (is_none (cases_lt k count))) v h) (empty_lacks v)
  where
    is_none : (k < count) ⊎ (count ≤ k) → get_or (replicate {A = Option NameSet} count None) k None ≡ None
    is_none (inl low) = get_or-replicate count k None None low
    is_none (inr past) = get_or_past (replicate count None) k None (let long = length-replicate {A = Option NameSet} count None in omega arith)

-- v is taken in to the set with the number n
module _ (b : NameSet) (numbers : List (Option ℕ)) (sets : List (Option NameSet)) (n v : ℕ) (o : Option NameSet) (low : n < length sets) (is : set_or_empty o ≡ insert (set_yet_at sets n) v) where
  here : set_yet_at (set sets n o) n ≡ insert (set_yet_at sets n) v
  here = ap set_or_empty (get_or-set_same sets n o None low) ∙ is

  there : (k : ℕ) → k ≢ n → set_yet_at (set sets n o) k ≡ set_yet_at sets k
  there k differ = ap set_or_empty (get_or-set_other sets n k o None differ)

  pub members_more : ((k w : ℕ) → Has (set_yet_at sets k) w → Has b w × (number_at numbers w ≡ Some k)) → Has b v → number_at numbers v ≡ Some n → (k w : ℕ) → Has (set_yet_at (set sets n o) k) w → Has b w × (number_at numbers w ≡ Some k)
  members_more before member number k w h = elim (same_name k n) [
    | inl same ↦
        elim (of_insert (set_yet_at sets n) v w (Has-along (set_yet_at (set sets n o) k) (insert (set_yet_at sets n) v) (ap (set_yet_at (set sets n o)) same ∙ here) w h)) [
          | inl new ↦ (subst (Has b) (sym new) member, ap (number_at numbers) new ∙ number ∙ ap (λ i. Some i) (sym same))
          | inr old ↦ let at = before n w old in (at.0, at.1 ∙ ap (λ i. Some i) (sym same))
        ]
    | inr differ ↦ before k w (Has-along (set_yet_at (set sets n o) k) (set_yet_at sets k) (there k differ) w h)
  ]

  pub members_kept : (k w : ℕ) → Has (set_yet_at sets k) w → Has (set_yet_at (set sets n o) k) w
  members_kept k w h = elim (same_name k n) [
    | inl same ↦
        Has-along (insert (set_yet_at sets n) v) (set_yet_at (set sets n o) k) (sym (ap (set_yet_at (set sets n o)) same ∙ here)) w
        (insert_old (set_yet_at sets n) v w (Has-along (set_yet_at sets k) (set_yet_at sets n) (ap (set_yet_at sets) same) w h))
    | inr differ ↦ Has-along (set_yet_at sets k) (set_yet_at (set sets n o) k) (sym (there k differ)) w h
  ]

  pub member_taken : (k : ℕ) → n ≡ k → Has (set_yet_at (set sets n o) k) v
  member_taken k same =
      Has-along (insert (set_yet_at sets n) v) (set_yet_at (set sets n o) k) (sym here ∙ ap (set_yet_at (set sets n o)) same) v (insert_new (set_yet_at sets n) v)

-- each set is there
pub none_left : (sets done rest : List (Option NameSet)) → done ++ None ∷ rest ≡ sets → ((k : ℕ) → k < length sets → HasSome (set_yet_at sets k)) → ⊥
none_left sets done rest is some =
    let long = ap length is in
    let sum = length-append done (None ∷ rest) in
    let has = some (length done) (omega arith) in
    clash (Has-along (set_yet_at sets (length done)) empty (ap (λ xs. set_yet_at xs (length done)) (sym is) ∙ ap set_or_empty (behind done)) has.0 has.1) (empty_lacks has.0)
  where
    behind : (xs : List (Option NameSet)) → get_or (xs ++ None ∷ rest) (length xs) None ≡ None
    behind [] = refl
    behind (x ∷ xs) = behind xs

pub all_there : (sets : List (Option NameSet)) (made : List NameSet) → made ≡ map set_or_empty sets → (length made ≡ length sets) × ((k : ℕ) → class_at made k ≡ set_yet_at sets k)
all_there sets made is = (
  ap length is ∙ length-map sets set_or_empty,
  λ k. ap (λ cs. class_at cs k) is ∙ at k (cases_lt k (length sets)),
)
  where
    at : (k : ℕ) → (k < length sets) ⊎ (length sets ≤ k) → class_at (map set_or_empty sets) k ≡ set_yet_at sets k
    at k (inl low) = get_or-map set_or_empty sets k None empty low
    at k (inr past) = get_or_past (map set_or_empty sets) k empty (let long = length-map sets set_or_empty in omega arith) ∙ sym (ap set_or_empty (get_or_past sets k None past))

pub sets_numbered : (b : NameSet) (numbers : List (Option ℕ)) (count : ℕ) (sets : List (Option NameSet)) (made : List NameSet) → length sets ≡ count → ((k v : ℕ) → Has (set_yet_at sets k) v → Has b v × (number_at numbers v ≡ Some k)) → ((k v : ℕ) → Has b v → number_at numbers v ≡ Some k → Has (set_yet_at sets k) v) → length made ≡ length sets → ((k : ℕ) → class_at made k ≡ set_yet_at sets k) → AreNumbered b (number_at numbers) count made
sets_numbered b numbers count sets made size members cover long same = record {
  long = long ∙ size;
  members = λ k v h. members k v (Has-along (class_at made k) (set_yet_at sets k) (same k) v h);
  cover = λ k v low h is. Has-along (set_yet_at sets k) (class_at made k) (sym (same k)) v (cover k v h is);
}
