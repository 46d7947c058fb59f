-- Rows of arcs after more arcs are taken in.
use Rattle.std.proofs.Common.{◌≡◌, ◌⊎◌, ◌↔◌, ℕ, ◌*◌, ◌<◌, ◌≤◌, Bool, true, cond, ◌&&◌, ◌||◌, ◌==◌, List, length, get_or, set, refl, sym, ◌∙◌, ap, subst, inl, inr, arith}
use Rattle.std.proofs.lemmas.Bool.{cases_Bool, cases_eq, cases_lt, eq-eqb, ne_eqb, eqb-true, and_parts, or_cases, or_left, or_right}
use Rattle.std.proofs.Math.Bool.{or-false, or_comm, and_comm}
use Rattle.std.proofs.lemmas.List.{get_or_read, get_or_past, length-set}
use Rattle.std.specs.List.{refill}
use Rattle.std.specs.FinSet as set
use Rattle.md_graph.specs.declared.TheConstants.{WORDS}
use Rattle.md_graph.specs.Sets.{NameSet, Has}
use Rattle.md_graph.specs.Rows.{row_of}
use Rattle.md_graph.proofs.RowLemmas.{contains-set_row, refilled}
use Rattle.md_graph.proofs.SetLaws.{contains-empty, contains-insert, contains-union}
use Rattle.md_graph.proofs.PairLaws.{is_pair}
use Rattle.md_graph.proofs.Limits.{words_few}
use Rattle.md_graph.proofs.SetLemmas.{clash}
use Rattle.md_forcing.specs.declared.arc.Arc.{Arc}
use Rattle.md_forcing.specs.Forcing.{arc}
use Rattle.md_forcing.specs.ArcSet.{HasArc, AreTransposed}

-- the new rows have the arcs of the old ones, and those for which the test is true
abbrev pub Adds : List NameSet → (ℕ → ℕ → Bool) → List NameSet → Type 0
Adds old test new = (u v : ℕ) → set.contains (row_of new u) v ≡ (set.contains (row_of old u) v || test u v)

-- one row takes more in
joined_row : (rows : List NameSet) (k : ℕ) (new old : NameSet) (t : ℕ → Bool) → k < length rows → old ≡ get_or rows k old → ((q : ℕ) → set.contains new q ≡ (set.contains old q || t q)) → Adds rows (λ u v. (u == k) && t v) (set rows k new)
joined_row rows k new old t below read gives u v =
    contains-set_row rows k new u v below
    ∙ elim (cases_eq u k) [
      | inl same ↦
          rw (eq-eqb u k same)
          (gives v ∙ ap (λ s. set.contains s v || t v) (get_or_read rows k old below read set.empty ∙ ap (row_of rows) (sym same)))
      | inr other ↦ rw (ne_eqb u k other) (sym (or-false (set.contains (row_of rows u) v)))
    ]

-- each row of some names takes one name in
each_row : (rows ws : List NameSet) (names : NameSet) (v : ℕ) → ((u : ℕ) → row_of ws u ≡ cond (set.contains names u) (set.insert (row_of rows u) v) (row_of rows u)) → Adds rows (λ u w. set.contains names u && (w == v)) ws
each_row rows ws names v each u w =
    ap (λ s. set.contains s w) (each u)
    ∙ elim (cases_Bool (set.contains names u)) [
      | inl t ↦ rw t (contains-insert (row_of rows u) v w ∙ or_comm (w == v) (set.contains (row_of rows u) w))
      | inr f ↦ rw f (sym (or-false (set.contains (row_of rows u) w)))
    ]

turned_added : {limit : ℕ} (t : ℕ → ℕ → Bool) (a b a_new b_new : List NameSet) → AreTransposed limit a b → length a_new ≡ length a → length b_new ≡ length b → Adds a t a_new → Adds b (λ v u. t u v) b_new → AreTransposed limit a_new b_new
turned_added t a b a_new b_new is a_len b_len more more_turned = record {
  few = (let few = is.few in omega arith);
  names = is.names;
  same = b_len ∙ is.same ∙ sym a_len;
  both = λ u v. more_turned v u ∙ ap (λ x. x || t u v) (is.both u v) ∙ sym (more u v);
}

seen_added : (t : ℕ → ℕ → Bool) (P : Arc → Type 0) → ((x : Arc) → (t x.tail x.head ≡ true) ↔ P x) → (a now new : List NameSet) → a ≡ now → Adds a t new → (x : Arc) → HasArc new x ↔ (HasArc now x ⊎ P x)
seen_added t P same a now new is more x = (
  λ h. elim (or_cases _ _ (sym (more x.tail x.head) ∙ h)) [
    | inl old ↦ inl (subst (λ r. HasArc r x) is old)
    | inr added ↦ inr ((same x).0 added)
  ],
  λ h. more x.tail x.head ∙ elim h [
    | inl old ↦ or_left _ _ (subst (λ r. HasArc r x) (sym is) old)
    | inr added ↦ or_right _ _ ((same x).1 added)
  ],
)

-- ---- one arc

put_tail : (rows : List NameSet) (u v : ℕ) (new old : NameSet) → u < length rows → new ≡ set.insert old v → old ≡ get_or rows u old → Adds rows (is_pair u v) (set rows u new)
put_tail rows u v new old below is read =
    joined_row rows u new old (λ y. y == v) below read (λ q. ap (λ s. set.contains s q) is ∙ contains-insert old v q ∙ or_comm (q == v) (set.contains old q))

put_head : (rows : List NameSet) (u v : ℕ) (new old : NameSet) → v < length rows → new ≡ set.insert old u → old ≡ get_or rows v old → Adds rows (λ y x. is_pair u v x y) (set rows v new)
put_head rows u v new old below is read y x =
    put_tail rows v u new old below is read y x ∙ ap (λ b. set.contains (row_of rows y) x || b) (and_comm (y == v) (x == u))

put_same : (u v : ℕ) (x : Arc) → (is_pair u v x.tail x.head ≡ true) ↔ (x ≡ arc u v)
put_same u v x = (
  λ h. let parts = and_parts (x.tail == u) (x.head == v) h in λ i. record { tail = eqb-true x.tail u parts.0 i; head = eqb-true x.head v parts.1 i },
  λ e. rw (eq-eqb x.tail u (ap (λ a. a.tail) e), eq-eqb x.head v (ap (λ a. a.head) e)) refl,
)

pub put_turned : {limit : ℕ} (a b now : List NameSet) (u v : ℕ) → AreTransposed limit a b → a ≡ now → u < length now → v < length now → (new_u old_u new_v old_v : NameSet) → new_u ≡ set.insert old_u v → old_u ≡ get_or a u old_u → new_v ≡ set.insert old_v u → old_v ≡ get_or b v old_v → AreTransposed limit (set a u new_u) (set b v new_v)
put_turned a b now u v is same room_u room_v new_u old_u new_v old_v is_u read_u is_v read_v =
    let len = ap length same in
    let len_b = is.same in
    turned_added (is_pair u v) a b _ _ is (length-set a u new_u) (length-set b v new_v) (put_tail a u v new_u old_u (omega arith) is_u read_u) (put_head b u v new_v old_v (omega arith) is_v read_v)

pub put_taken : (a now : List NameSet) (by : Arc) → a ≡ now → by.tail < length now → (new old : NameSet) → new ≡ set.insert old by.head → old ≡ get_or a by.tail old → (x : Arc) → HasArc (set a by.tail new) x ↔ (HasArc now x ⊎ (x ≡ by))
put_taken a now by same room new old is read =
    let len = ap length same in
    seen_added (is_pair by.tail by.head) (λ x. x ≡ by) (put_same by.tail by.head) a now _ same (put_tail a by.tail by.head new old (omega arith) is read)

-- ---- one row, and its turned ones

abbrev row_test : ℕ → NameSet → ℕ → ℕ → Bool
row_test k names u v = (u == k) && set.contains names v

whole_row : (rows : List NameSet) (k : ℕ) (names new old : NameSet) → k < length rows → new ≡ set.union old names → old ≡ get_or rows k old → Adds rows (row_test k names) (set rows k new)
whole_row rows k names new old below is read =
    joined_row rows k new old (set.contains names) below read (λ q. ap (λ s. set.contains s q) is ∙ contains-union old names q)

turned_row : (n : ℕ) (rows old ws : List NameSet) (names : NameSet) (k : ℕ) → n ≡ length rows → old ≡ rows → length ws ≡ length old → ((u : ℕ) → row_of ws u ≡ cond (set.contains names u) (set.insert (row_of old u) k) (row_of old u)) → (length (refill n rows ws) ≡ length rows) × Adds rows (λ v u. row_test k names u v) (refill n rows ws)
turned_row n rows old ws names k len same kept each =
    let same_len = ap length same in
    let whole = refilled n rows ws (omega arith) in (
      ap length whole ∙ kept ∙ same_len,
      λ v u. ap (λ r. set.contains (row_of r v) u) whole ∙ each_row old ws names k each v u ∙ ap (λ r. set.contains (row_of r v) u || (set.contains names v && (u == k))) same ∙ ap (λ b. set.contains (row_of rows v) u || b) (and_comm (set.contains names v) (u == k)),
    )

row_same : (k : ℕ) (names : NameSet) (u v : ℕ) → (row_test k names u v ≡ true) ↔ ((u ≡ k) × Has names v)
row_same k names u v = (
  λ h. let parts = and_parts (u == k) (set.contains names v) h in (eqb-true u k parts.0, parts.1),
  λ p. rw (eq-eqb u k p.0, p.1) refl,
)

module _ {limit : ℕ} (a b now : List NameSet) (k : ℕ) (names : NameSet) (is : AreTransposed limit a b) (same : a ≡ now) (room : k < length now) (new old : NameSet) (made : new ≡ set.union old names) where
  module _ (read : old ≡ get_or a k old) where
    pub heads_turned : (n : ℕ) (before ws : List NameSet) → n ≡ length b → before ≡ b → length ws ≡ length before → ((u : ℕ) → row_of ws u ≡ cond (set.contains names u) (set.insert (row_of before u) k) (row_of before u)) → AreTransposed limit (set a k new) (refill n b ws)
    heads_turned n before ws len same_b kept each =
        let len_a = ap length same in
        let other = turned_row n b before ws names k len same_b kept each in
        turned_added (row_test k names) a b _ _ is (length-set a k new) other.0 (whole_row a k names new old (omega arith) made read) other.1

    pub heads_taken : (x : Arc) → HasArc (set a k new) x ↔ (HasArc now x ⊎ ((x.tail ≡ k) × Has names x.head))
    heads_taken =
        let len_a = ap length same in
        seen_added (row_test k names) (λ x. (x.tail ≡ k) × Has names x.head) (λ x. row_same k names x.tail x.head) a now _ same (whole_row a k names new old (omega arith) made read)

  module _ (read : old ≡ get_or b k old) (n : ℕ) (before ws : List NameSet) (len : n ≡ length a) (same_a : before ≡ a) (kept : length ws ≡ length before) (each : (u : ℕ) → row_of ws u ≡ cond (set.contains names u) (set.insert (row_of before u) k) (row_of before u)) where
    pub tails_turned : AreTransposed limit (refill n a ws) (set b k new)
    tails_turned =
        let len_a = ap length same in
        let len_b = is.same in
        let other = turned_row n a before ws names k len same_a kept each in
        turned_added (λ u v. row_test k names v u) a b _ _ is other.0 (length-set b k new) other.1 (whole_row b k names new old (omega arith) made read)

    pub tails_taken : (x : Arc) → HasArc (refill n a ws) x ↔ (HasArc now x ⊎ ((x.head ≡ k) × Has names x.tail))
    tails_taken =
        seen_added (λ u v. row_test k names v u) (λ x. (x.head ≡ k) × Has names x.tail) (λ x. row_same k names x.head x.tail) a now _ same (turned_row n a before ws names k len same_a kept each).1

-- ---- rows without members

pub turned_none : (w : ℕ) (a b : List NameSet) (n : ℕ) → n ≤ 64 * w → w ≤ WORDS → length a ≡ n → length b ≡ n → ((v : ℕ) → row_of a v ≡ set.empty) → ((v : ℕ) → row_of b v ≡ set.empty) → AreTransposed (64 * w) a b
turned_none w a b n few limit len_a len_b none_a none_b = record {
  few = omega arith;
  names = words_few w limit;
  same = len_b ∙ sym len_a;
  both = λ u v. ap (λ s. set.contains s u) (none_b v) ∙ contains-empty u ∙ sym (ap (λ s. set.contains s v) (none_a u) ∙ contains-empty v);
}

pub none_seen : (rows : List NameSet) → ((v : ℕ) → row_of rows v ≡ set.empty) → (a : Arc) → HasArc rows a → ⊥
none_seen rows none a h = clash h (ap (λ s. set.contains s a.head) (none a.tail) ∙ contains-empty a.head)

-- ---- where seen arcs end

row_within : (rows : List NameSet) (u v : ℕ) → Has (row_of rows u) v → u < length rows
row_within rows u v h =
    elim (cases_lt u (length rows)) [
      | inl below ↦ below
      | inr past ↦ clash h (ap (λ s. set.contains s v) (get_or_past rows u set.empty past) ∙ contains-empty v)
    ]

pub tail_within : (rows : List NameSet) (a : Arc) → HasArc rows a → a.tail < length rows
tail_within rows a h = row_within rows a.tail a.head h

pub head_within : {limit : ℕ} (a b now : List NameSet) (x : Arc) → AreTransposed limit a b → a ≡ now → HasArc now x → x.head < length now
head_within a b now x is same h =
    let inner : Has (row_of a x.tail) x.head = subst (λ r. Has (row_of r x.tail) x.head) (sym same) h in
    let below = row_within b x.head x.tail (is.both x.tail x.head ∙ inner) in
    let len = ap length same in
    let len_b = is.same in
    omega arith
