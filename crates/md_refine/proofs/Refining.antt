-- Cuts of classes by touched names, one class after the other, are the cut of all.
use Rattle.std.proofs.Common.{◌≡◌, ◌≢◌, ℕ, zero, suc, ◌+◌, ◌<◌, ◌≤◌, Bool, true, false, cond, not, ◌&&◌, ◌||◌, ◌==◌, if◌then◌else◌, ltb, nat_le, List, [], ◌∷◌, ◌++◌, length, All, refl, sym, ◌∙◌, ap, inl, inr, arith, append-nil}
use Rattle.std.specs.List.{filter, flat_map}
use Rattle.std.specs.FinSet as set
use Rattle.std.proofs.lemmas.Bool.{or_right, cases_eq, false≢true, false_from_ne_true}
use Rattle.std.proofs.lemmas.Bool.Decides.{nat_tests}
use Rattle.std.proofs.lemmas.List.Elements.{All-head, All-tail}
use Rattle.std.proofs.lemmas.List.Concat.{flat_map-append}
use Rattle.std.proofs.lemmas.List.Folds.{list_any-append}
use Rattle.std.proofs.lemmas.List.Sums.{length-filter, count_by-le-length}
use Rattle.md_graph.specs.declared.TheConstants.{NAMES}
use Rattle.md_graph.specs.Sets.{NameSet}
use Rattle.md_graph.specs.NameSet.{ascending, ascending_between}
use Rattle.md_refine.specs.Partitions.{Classes, is_in, is_name, holders, class_with, ArePartition, unless_empty, parts, cut, cut_outside, is_outside, met, settled_by, settled}
use Rattle.md_refine.proofs.Lists.{in_filter, filter_same, filter_twice, filter_all, filter_none, in_first}

-- each class has the property
abbrev pub Each : (List ℕ → Type 0) → List (List ℕ) → Type 0
Each P [] = Unit {0}
Each P (c ∷ cs) = P c × Each P cs

pub each_more : (P Q : List ℕ → Type 0) (cs : List (List ℕ)) → ((c : List ℕ) → P c → Q c) → Each P cs → Each Q cs
each_more P Q [] wider all = tt
each_more P Q (c ∷ cs) wider all = (wider c all.0, each_more P Q cs wider all.1)

pub each_all : (P : List ℕ → Type 0) (cs : List (List ℕ)) → All P cs → Each P cs
each_all P [] all = tt
each_all P (c ∷ cs) all = (All-head P c cs all, each_all P cs (All-tail P c cs all))

-- ---- parts

pub one_part : (c : List ℕ) → c ≢ [] → unless_empty c ≡ c ∷ []
one_part [] some = absurd (some refl)
one_part (x ∷ xs) some = refl

parts_same : (f g : ℕ → Bool) (c : List ℕ) → ((v : ℕ) → is_in c v ≡ true → f v ≡ g v) → parts f c ≡ parts g c
parts_same f g c same =
    rw (filter_same f g c same, filter_same (λ v. not (f v)) (λ v. not (g v)) c (λ v m. ap not (same v m))) refl

parts_none : (f : ℕ → Bool) (c : List ℕ) → ((v : ℕ) → is_in c v ≡ true → f v ≡ false) → parts f c ≡ unless_empty c
parts_none f c none =
    rw (filter_none f c none, filter_all (λ v. not (f v)) c (λ v m. ap not (none v m))) refl

parts_alone : (g : ℕ → Bool) (c : List ℕ) → ((v : ℕ) → is_in c v ≡ true → g v ≡ false) → flat_map (parts g) (unless_empty c) ≡ unless_empty c
parts_alone g [] none = refl
parts_alone g (x ∷ xs) none = ap (λ l. l ++ []) (parts_none g (x ∷ xs) none)

-- parts without a name that passes stay
parts_stay : (f g : ℕ → Bool) (c : List ℕ) → ((v : ℕ) → is_in c v ≡ true → g v ≡ false) → flat_map (parts g) (parts f c) ≡ parts f c
parts_stay f g c none =
    flat_map-append (parts g) (unless_empty (filter f c)) (unless_empty (filter (λ v. not (f v)) c))
    ∙ (λ i. parts_alone g (filter f c) (λ v m. none v (inside f v m)) i ++ parts_alone g (filter (λ v. not (f v)) c) (λ v m. none v (inside (λ w. not (f w)) v m)) i)
  where
    inside : (h : ℕ → Bool) (v : ℕ) → is_in (filter h c) v ≡ true → is_in c v ≡ true
    inside h v m = let e = in_filter h c v in grind (arith, nat_tests)

-- ---- one class is settled

-- w is the class with t, or a class without t has no name of w
record IsTurn (w : List ℕ) (t : ℕ) (c : List ℕ) : Type 0 where
  here : is_in c t ≡ true → c ≡ w
  there : is_in c t ≡ false → (v : ℕ) → is_in c v ≡ true → is_in w v ≡ false

with_none : (v t : ℕ) (cs : List (List ℕ)) → holders v cs ≡ 0 → is_in (class_with t cs) v ≡ false
with_none v t [] none = refl
with_none v t (c ∷ cs) none =
    elim (is_in c t) as (λ b. is_in (if b then c else class_with t cs) v ≡ false) [
      | true ↦ elim (is_in c v) as (λ b. cond b 1 0 + holders v cs ≡ 0 → b ≡ false) [ true ↦ λ e. absurd (omega arith) | false ↦ λ e. refl ] none
      | false ↦ with_none v t cs (omega arith)
    ]

pub held : (v : ℕ) (c : List ℕ) (cs : List (List ℕ)) → holders v (c ∷ cs) ≤ 1 → is_in c v ≡ true → holders v cs ≡ 0
held v c cs once m = let all : cond true 1 0 + holders v cs ≤ 1 = rw m at once in omega arith

pub some_held : (v : ℕ) (c : List ℕ) (cs : List (List ℕ)) → holders v (c ∷ cs) ≡ 0 → is_in c v ≡ false
some_held v c cs none = elim (is_in c v) as (λ b. cond b 1 0 + holders v cs ≡ 0 → b ≡ false) [ true ↦ λ e. absurd (omega arith) | false ↦ λ e. refl ] none

others : (c : List ℕ) (t : ℕ) (cs : List (List ℕ)) → is_in c t ≡ true → ((v : ℕ) → is_in c v ≡ true → holders v cs ≡ 0) → Each (IsTurn c t) cs
others c t [] m apart = tt
others c t (d ∷ cs) m apart = (
  record {
    here = λ h. absurd (false≢true (sym (some_held t d cs (apart t m)) ∙ h));
    there = λ _ v h. false_from_ne_true (is_in c v) (λ k. false≢true (sym (some_held v d cs (apart v k)) ∙ h));
  },
  others c t cs m (λ v k. let e = apart v k in omega arith),
)

turns : (t : ℕ) (cs : List (List ℕ)) → ((v : ℕ) → holders v cs ≤ 1) → Each (IsTurn (class_with t cs) t) cs
turns t [] once = tt
turns t (c ∷ cs) once =
    elim (is_in c t) as (λ b. is_in c t ≡ b → Each (IsTurn (if b then c else class_with t cs) t) (c ∷ cs)) [
      | true ↦ λ m. (record { here = λ _. refl; there = λ h. absurd (false≢true (sym h ∙ m)) }, others c t cs m (λ v k. held v c cs (once v) k))
      | false ↦ λ n. (
        record {
          here = λ h. absurd (false≢true (sym n ∙ h));
          there = λ _ v h. with_none v t cs (held v c cs (once v) h);
        },
        turns t cs (λ v. let o = once v in omega arith),
      )
    ] refl

-- the touched names outside a class
abbrev left : List ℕ → List ℕ → List ℕ
left w ts = filter (λ v. not (is_in w v)) ts

turned : (ts w : List ℕ) (t : ℕ) (c : List ℕ) → IsTurn w t c → flat_map (parts (is_in (left w ts))) (if is_in c t then parts (is_in ts) c else c ∷ []) ≡ parts (is_in ts) c
turned ts w t c turn =
    elim (is_in c t) as (λ b. is_in c t ≡ b → flat_map (parts (is_in (left w ts))) (if b then parts (is_in ts) c else c ∷ []) ≡ parts (is_in ts) c) [
      | true ↦ λ m. parts_stay (is_in ts) (is_in (left w ts)) c (λ v h.
          let e = in_filter (λ q. not (is_in w q)) ts v in
          let inside : is_in w v ≡ true = sym (ap (λ l. is_in l v) (turn.here m)) ∙ h in
          e ∙ rw inside refl)
      | false ↦ λ n. append-nil _ ∙ parts_same (is_in (left w ts)) (is_in ts) c (λ v h.
          let e = in_filter (λ q. not (is_in w q)) ts v in
          let outside = turn.there n v h in
          e ∙ rw outside refl)
    ] refl

pieces : (f g h : List ℕ → List (List ℕ)) (cs : List (List ℕ)) → Each (λ c. flat_map f (g c) ≡ h c) cs → flat_map f (flat_map g cs) ≡ flat_map h cs
pieces f g h [] same = refl
pieces f g h (c ∷ cs) same =
    flat_map-append f (g c) (flat_map g cs) ∙ (λ i. same.0 i ++ pieces f g h cs same.1 i)

-- the cut by the touched names
abbrev pub cut_by : Classes → List (List ℕ)
cut_by p = flat_map (parts (is_in p.touched)) p.classes

-- it stays where a class is settled
pub settled_cut : (p : Classes) → ArePartition p → cut_by (settled p) ≡ cut_by p
settled_cut p is = go p.touched refl
  where
    go : (ts : List ℕ) → p.touched ≡ ts → cut_by (settled_by ts p) ≡ cut_by p
    go [] e = refl
    go (t ∷ ts) e =
        pieces (parts (is_in (left (class_with t p.classes) p.touched))) (λ c. if is_in c t then parts (is_in p.touched) c else c ∷ []) (parts (is_in p.touched)) p.classes
        (each_more _ _ p.classes (λ c turn. turned p.touched (class_with t p.classes) t c turn) (turns t p.classes is.apart))

-- where nothing is touched, it is the classes
pub cut_done : (p : Classes) → ArePartition p → p.touched ≡ [] → cut_by p ≡ p.classes
cut_done p is none = ap (λ ts. flat_map (parts (is_in ts)) p.classes) none ∙ go p.classes (each_all (λ c. c ≢ []) p.classes is.filled)
  where
    go : (cs : List (List ℕ)) → Each (λ c. c ≢ []) cs → flat_map (parts (is_in [])) cs ≡ cs
    go [] some = refl
    go (c ∷ cs) some = λ i. (parts_none (is_in []) c (λ v m. refl) ∙ one_part c some.0) i ++ go cs some.1 i

-- ---- the cut by a set

pub in_ascending : (s : NameSet) (n v : ℕ) → is_in (ascending_between s 0 n) v ≡ (ltb v n && set.contains s v)
unfolding ascending_between
in_ascending s zero v = grind (arith, nat_tests)
in_ascending s (suc n) v =
    list_any-append (λ x. x == v) (ascending_between s 0 n) (if nat_le 0 n && set.contains s n then n ∷ [] else [])
    ∙ rw (in_ascending s n v) (last (set.contains s) n v)
  where
    last : (f : ℕ → Bool) (n v : ℕ) → ((ltb v n && f v) || is_in (if nat_le 0 n && f n then n ∷ [] else []) v) ≡ (ltb v (suc n) && f v)
    last f n v = elim (cases_eq n v) [ inl same ↦ grind (arith, nat_tests) | inr other ↦ grind (arith, nat_tests) ]

members_named : (cs : List (List ℕ)) → Each (λ c. (v : ℕ) → is_in c v ≡ true → is_name cs v ≡ true) cs
members_named [] = tt
members_named (c ∷ cs) = (
  λ v m. rw m refl,
  each_more _ _ cs (λ d named v m. rw (named v m) (or_right (is_in c v) true refl)) (members_named cs),
)

same_pieces : (f g : List ℕ → List (List ℕ)) (cs : List (List ℕ)) → Each (λ c. f c ≡ g c) cs → flat_map f cs ≡ flat_map g cs
same_pieces f g [] same = refl
same_pieces f g (c ∷ cs) same = λ i. same.0 i ++ same_pieces f g cs same.1 i

-- the members of the set that are names, but for those in the class of p
abbrev pub met_outside : ℕ → NameSet → List (List ℕ) → List ℕ
met_outside p s classes = filter (is_outside p classes) (ascending s)

-- the cut by the members that are names outside the class of p
pub outside_cut : (p : ℕ) (s : NameSet) (q : Classes) → ArePartition q → flat_map (parts (is_in (met_outside p s q.classes))) q.classes ≡ cut_outside p s q.classes
outside_cut p s q is =
    same_pieces (parts (is_in (met_outside p s cs))) (λ c. if is_in c p then c ∷ [] else parts (set.contains s) c) cs
    (both cs (members_named cs) (turns p cs is.apart) (each_all (λ c. c ≢ []) cs is.filled))
  where
    cs : List (List ℕ)
    cs = q.classes

    w : List ℕ
    w = class_with p cs

    below : (v n : ℕ) (b d : Bool) → v < n → ((true && not d) && (ltb v n && b)) ≡ (b && not d)
    below v n b d low = grind (arith, nat_tests)

    met_is : (v : ℕ) → is_name cs v ≡ true → is_in (met_outside p s cs) v ≡ (set.contains s v && not (is_in w v))
    met_is v name =
        in_filter (is_outside p cs) (ascending s) v ∙ rw (name, in_ascending s NAMES v) (below v NAMES (set.contains s v) (is_in w v) (is.names v name))

    one : (c : List ℕ) → ((v : ℕ) → is_in c v ≡ true → is_name cs v ≡ true) → IsTurn w p c → c ≢ [] → parts (is_in (met_outside p s cs)) c ≡ (if is_in c p then c ∷ [] else parts (set.contains s) c)
    one c named turn some =
        elim (is_in c p) as (λ b. is_in c p ≡ b → parts (is_in (met_outside p s cs)) c ≡ (if b then c ∷ [] else parts (set.contains s) c)) [
          | true ↦ λ m.
              parts_none (is_in (met_outside p s cs)) c (λ v h.
              let inside : is_in w v ≡ true = sym (ap (λ l. is_in l v) (turn.here m)) ∙ h in
              met_is v (named v h) ∙ rw inside (and_none (set.contains s v)))
              ∙ one_part c some
          | false ↦ λ n.
              parts_same (is_in (met_outside p s cs)) (set.contains s) c (λ v h.
              met_is v (named v h) ∙ rw (turn.there n v h) (and_all (set.contains s v)))
        ] refl
      where
        and_none : (b : Bool) → (b && not true) ≡ false
        and_none true = refl
        and_none false = refl

        and_all : (b : Bool) → (b && not false) ≡ b
        and_all true = refl
        and_all false = refl

    both : (ds : List (List ℕ)) → Each (λ c. (v : ℕ) → is_in c v ≡ true → is_name cs v ≡ true) ds → Each (IsTurn w p) ds → Each (λ c. c ≢ []) ds → Each (λ c. parts (is_in (met_outside p s cs)) c ≡ (if is_in c p then c ∷ [] else parts (set.contains s) c)) ds
    both [] named turn some = tt
    both (d ∷ ds) named turn some = (one d named.0 turn.0 some.0, both ds named.1 turn.1 some.1)

-- outside no class, each is cut
pub cut_all : (p : ℕ) (s : NameSet) (q : Classes) → ArePartition q → NAMES ≤ p → cut_outside p s q.classes ≡ cut s q.classes
cut_all p s q is high =
    same_pieces (λ c. if is_in c p then c ∷ [] else parts (set.contains s) c) (parts (set.contains s)) q.classes
    (each_more _ _ q.classes (λ c named. one c named) (members_named q.classes))
  where
    one : (c : List ℕ) → ((v : ℕ) → is_in c v ≡ true → is_name q.classes v ≡ true) → (if is_in c p then c ∷ [] else parts (set.contains s) c) ≡ parts (set.contains s) c
    one c named =
        let out : is_in c p ≡ false = false_from_ne_true (is_in c p) (λ m. let low = is.names p (named p m) in absurd (omega arith)) in
        rw out refl

-- no more are met outside a class than at all
pub few_outside : (p : ℕ) (s : NameSet) (classes : List (List ℕ)) → length (met_outside p s classes) ≤ length (met s classes)
few_outside p s classes =
    let w = class_with p classes in
    let twice = ap length (filter_twice (is_name classes) (λ v. not (is_in w v)) (ascending s)) in
    let long = length-filter (λ v. not (is_in w v)) (met s classes) in
    let most = count_by-le-length (λ v. not (is_in w v)) (met s classes) in
    omega arith

-- ---- each turn leaves fewer touched names

with_own : (t : ℕ) (cs : List (List ℕ)) → is_name cs t ≡ true → is_in (class_with t cs) t ≡ true
with_own t [] named = absurd (false≢true named)
with_own t (c ∷ cs) named =
    elim (is_in c t) as (λ b. is_in c t ≡ b → (b || is_name cs t) ≡ true → is_in (if b then c else class_with t cs) t ≡ true) [
      | true ↦ λ m _. m
      | false ↦ λ _ rest. with_own t cs rest
    ] refl named

pub settled_fewer : (p : Classes) → ArePartition p → p.touched ≢ [] → length (settled p).touched < length p.touched
settled_fewer p is some = go p.touched refl
  where
    go : (ts : List ℕ) → p.touched ≡ ts → length (settled_by ts p).touched < length ts
    go [] e = absurd (some e)
    go (t ∷ ts) e =
        let w = class_with t p.classes in
        let own : is_in w t ≡ true = with_own t p.classes (is.touched_names t (ap (λ l. is_in l t) e ∙ in_first t ts)) in
        let gone : left w (t ∷ ts) ≡ left w ts = rw own refl in
        let long = length-filter (λ v. not (is_in w v)) ts in
        let most = count_by-le-length (λ v. not (is_in w v)) ts in
        let all : length (left w p.touched) ≡ length (left w ts) = ap length (ap (left w) e ∙ gone) in
        omega arith
