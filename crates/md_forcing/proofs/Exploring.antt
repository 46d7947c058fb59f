-- How far the exploration of a class has come: the arcs at the first places have handed on what they force.
use Rattle.std.proofs.Common.{◌≡◌, ◌⊎◌, ◌↔◌, ℕ, zero, suc, ◌+◌, ◌*◌, ◌<◌, ◌≤◌, Bool, true, List, [], ◌∷◌, ◌++◌, map, length, slice_get, Some, refl, sym, ◌∙◌, ap, subst, append-nil, inl, inr, arith}
use Rattle.std.proofs.lemmas.Bool.{cases_Bool, cases_lt}
use Rattle.std.specs.FinSet as set
use Rattle.std.specs.Map.{keys_of}
use Rattle.md_graph.specs.declared.TheConstants.{NAMES}
use Rattle.md_graph.specs.Sets.{NameSet}
use Rattle.md_graph.specs.Rows.{row_of}
use Rattle.md_graph.proofs.SetLemmas.{clash}
use Rattle.md_forcing.specs.declared.arc.Arc.{Arc}
use Rattle.md_forcing.specs.Lists.{Holds, NoRepeats}
use Rattle.md_forcing.specs.Forcing.{IsArc, ForcesDirectly, Reaches}
use Rattle.md_forcing.specs.ArcSet.{HasArc, IsForcingClosed}
use Rattle.md_forcing.specs.Classes.{IsForcedAt, AreByDistance, IsClass}
use Rattle.md_forcing.specs.Turns.{TakesForced, placed_at}
use Rattle.md_forcing.proofs.ListLemmas.{holds_left, holds_right, of_append, once_append, of_map, get_left, get_of_append, place_within, keys-append, key_at, place_of_key, same_some}
use Rattle.md_forcing.proofs.NameLists.{few_arcs, length-keys}
use Rattle.md_forcing.proofs.Reaching.{Symmetric, forces_back, reaches_itself, reaches_step, reached_arc, over_reached}

pub record Exploring (e : ℕ → ℕ → Bool) (first : Arc) (start rows : List NameSet) (es : List (Arc × ℕ)) (i : ℕ) : Type 0 where
  pub begins : slice_get es 0 ≡ Some (first, 0)
  pub once : NoRepeats (keys_of es)
  pub seen : (a : Arc) → HasArc rows a ↔ (HasArc start a ⊎ Holds (keys_of es) a)
  pub fresh : (a : Arc) → Holds (keys_of es) a → HasArc start a → ⊥
  pub reached : (a : Arc) → Holds (keys_of es) a → Reaches e first a
  pub forced : (j p : ℕ) (a : Arc) → 0 < j → slice_get es j ≡ Some (a, p) → IsForcedAt e es j p a
  pub done : (j p : ℕ) (a b : Arc) → j < i → slice_get es j ≡ Some (a, p) → IsArc e b → ForcesDirectly e a b → HasArc rows b
  pub low : (j p : ℕ) (a : Arc) → slice_get es j ≡ Some (a, p) → p ≤ i
  pub by_distance : AreByDistance e es

same_entry : (x y : Arc × ℕ) → Some x ≡ Some y → x ≡ y
same_entry x y e = same_some x y e

placed_keys : (place : ℕ) (more : List Arc) → keys_of (map (placed_at place) more) ≡ more
placed_keys place [] = refl
placed_keys place (x ∷ xs) = ap (λ l. x ∷ l) (placed_keys place xs)

module _ (e : ℕ → ℕ → Bool) (first : Arc) (start : List NameSet) where
  one_entry : (j p : ℕ) (a : Arc) → 0 < j → slice_get {X = Arc × ℕ} ((first, 0) ∷ []) j ≡ Some (a, p) → ⊥
  one_entry zero p a h s = absurd (omega arith)
  one_entry (suc j) p a h s = cc

  only_place : (j p : ℕ) (a : Arc) → slice_get {X = Arc × ℕ} ((first, 0) ∷ []) j ≡ Some (a, p) → p ≡ 0
  only_place zero p a s = ap (λ x. x.1) (same_entry (a, p) (first, 0) (sym s))
  only_place (suc j) p a s = cc

  pub exploring_start : IsArc e first → (HasArc start first → ⊥) → (rows : List NameSet) (es : List (Arc × ℕ)) → ((a : Arc) → HasArc rows a ↔ (HasArc start a ⊎ (a ≡ first))) → es ≡ (first, 0) ∷ [] → Exploring e first start rows es 0
  exploring_start is fresh rows es taken made =
      let P : List (Arc × ℕ) → Type 0 = λ xs. Exploring e first start rows xs 0 in
      subst P (sym made) (record {
        begins = refl;
        once = (λ h. h, tt);
        seen = λ a. (
          λ h. elim ((taken a).0 h) [ inl s ↦ inl s | inr f ↦ inr (inl f) ],
          λ h. elim h [
            | inl s ↦ (taken a).1 (inl s)
            | inr k ↦ elim k [ inl f ↦ (taken a).1 (inr f) | inr none ↦ absurd none ]
          ],
        );
        fresh = λ a h s. elim h [ inl f ↦ fresh (subst (HasArc start) f s) | inr none ↦ none ];
        reached = λ a h. elim h [ inl f ↦ subst (Reaches e first) (sym f) (reaches_itself e first is) | inr none ↦ absurd none ];
        forced = λ j p a above s. absurd (one_entry j p a above s);
        done = λ j p a b below _ _ _. absurd (omega arith);
        low = λ j p a s. let here = only_place j p a s in omega arith;
        by_distance = record {
          in_order = λ j k p q a b _ s _. let here = only_place j p a s in omega arith;
          earliest = λ j k p q a b s _ less. let here = only_place j p a s in absurd (omega arith);
        };
      })

  module _ (rows new_rows : List NameSet) (es new : List (Arc × ℕ)) (i : ℕ) (before : Exploring e first start rows es i) (turn : TakesForced e i rows es new_rows new) where
    new_keys : keys_of new ≡ keys_of es ++ turn.more
    new_keys = ap keys_of turn.longer ∙ keys-append es _ ∙ ap (λ l. keys_of es ++ l) (placed_keys i turn.more)

    in_old : (a : Arc) → Holds (keys_of es) a → Holds (keys_of new) a
    in_old a h = subst (λ l. Holds l a) (sym new_keys) (holds_left (keys_of es) turn.more a h)

    in_more : (a : Arc) → Holds turn.more a → Holds (keys_of new) a
    in_more a h = subst (λ l. Holds l a) (sym new_keys) (holds_right (keys_of es) turn.more a h)

    of_new : (a : Arc) → Holds (keys_of new) a → Holds (keys_of es) a ⊎ Holds turn.more a
    of_new a h = of_append (keys_of es) turn.more a (subst (λ l. Holds l a) new_keys h)

    more_once : NoRepeats (keys_of new)
    more_once = subst NoRepeats (sym new_keys)
        (once_append (keys_of es) turn.more before.once turn.once (λ a l r. ((turn.exactly a).0 r).2 ((before.seen a).1 (inr l))))

    more_seen : (a : Arc) → HasArc new_rows a ↔ (HasArc start a ⊎ Holds (keys_of new) a)
    more_seen a = (
      λ h. elim ((turn.taken a).0 h) [
        | inl old ↦ elim ((before.seen a).0 old) [ inl s ↦ inl s | inr k ↦ inr (in_old a k) ]
        | inr m ↦ inr (in_more a m)
      ],
      λ h. elim h [
        | inl s ↦ (turn.taken a).1 (inl ((before.seen a).1 (inl s)))
        | inr k ↦ elim (of_new a k) [
          | inl old ↦ (turn.taken a).1 (inl ((before.seen a).1 (inr old)))
          | inr m ↦ (turn.taken a).1 (inr m)
        ]
      ],
    )

    more_fresh : (a : Arc) → Holds (keys_of new) a → HasArc start a → ⊥
    more_fresh a h s =
        elim (of_new a h) [
          | inl old ↦ before.fresh a old s
          | inr m ↦ ((turn.exactly a).0 m).2 ((before.seen a).1 (inl s))
        ]

    by_key : Holds (keys_of es) turn.by
    by_key = key_at es i turn.by turn.its_place turn.stands

    more_reached : (a : Arc) → Holds (keys_of new) a → Reaches e first a
    more_reached a h =
        elim (of_new a h) [
          | inl old ↦ before.reached a old
          | inr m ↦ let new_one = (turn.exactly a).0 m in reaches_step e first turn.by a (before.reached turn.by by_key) new_one.0 new_one.1
        ]

    at_new : (j p : ℕ) (a : Arc) → slice_get new j ≡ Some (a, p) → (slice_get es j ≡ Some (a, p)) ⊎ ((length es ≤ j) × Holds (map (placed_at i) turn.more) (a, p))
    at_new j p a s = get_of_append es _ j (a, p) (subst (λ l. slice_get l j ≡ Some (a, p)) turn.longer s)

    new_place : (p : ℕ) (a : Arc) → Holds (map (placed_at i) turn.more) (a, p) → p ≡ i
    new_place p a h = ap (λ x. x.1) (of_map (placed_at i) turn.more (a, p) h).2

    still : (j p : ℕ) (a : Arc) → slice_get es j ≡ Some (a, p) → slice_get new j ≡ Some (a, p)
    still j p a s = subst (λ l. slice_get l j ≡ Some (a, p)) (sym turn.longer) (get_left es _ j (a, p) s)

    more_forced : (j p : ℕ) (a : Arc) → 0 < j → slice_get new j ≡ Some (a, p) → IsForcedAt e new j p a
    more_forced j p a above s =
        elim (at_new j p a s) [
          | inl old ↦
              let f = before.forced j p a above old in
              record { before = f.before; by = f.by; its_place = f.its_place; stands = still p f.its_place f.by f.stands; forces = f.forces }
          | inr behind ↦
              let w = of_map (placed_at i) turn.more (a, p) behind.1 in
              let same_arc : a ≡ w.0 = ap (λ x. x.0) w.2 in
              let same_place : p ≡ i = ap (λ x. x.1) w.2 in
              let within = place_within es i _ turn.stands in
              let far = behind.0 in
              record {
                before = omega arith;
                by = turn.by;
                its_place = turn.its_place;
                stands = subst (λ k. slice_get new k ≡ Some (turn.by, turn.its_place)) (sym same_place) (still i turn.its_place turn.by turn.stands);
                forces = subst (ForcesDirectly e turn.by) (sym same_arc) ((turn.exactly w.0).0 w.1).1;
              }
        ]

    handed : (b : Arc) → IsArc e b → ForcesDirectly e turn.by b → HasArc new_rows b
    handed b is f =
        elim (cases_Bool (set.contains (row_of rows b.tail) b.head)) [
          | inl t ↦ (turn.taken b).1 (inl t)
          | inr none ↦ (turn.taken b).1 (inr ((turn.exactly b).1 (is, f, λ t. clash t none)))
        ]

    more_done : (j p : ℕ) (a b : Arc) → j < i + 1 → slice_get new j ≡ Some (a, p) → IsArc e b → ForcesDirectly e a b → HasArc new_rows b
    more_done j p a b below s is f =
        let within = place_within es i _ turn.stands in
        elim (at_new j p a s) [
          | inl old ↦ elim (cases_lt j i) [
            | inl less ↦ (turn.taken b).1 (inl (before.done j p a b less old is f))
            | inr not_less ↦
                let here : j ≡ i = omega arith in
                let same : (a, p) ≡ (turn.by, turn.its_place) = same_entry _ _ (sym old ∙ ap (slice_get es) here ∙ turn.stands) in
                handed b is (subst (λ x. ForcesDirectly e x b) (ap (λ x. x.0) same) f)
          ]
          | inr behind ↦ let far = behind.0 in absurd (omega arith)
        ]

    more_low : (j p : ℕ) (a : Arc) → slice_get new j ≡ Some (a, p) → p ≤ i + 1
    more_low j p a s =
        elim (at_new j p a s) [
          | inl old ↦ let low = before.low j p a old in omega arith
          | inr behind ↦ let here = new_place p a behind.1 in omega arith
        ]

    more_in_order : (j k p q : ℕ) (a b : Arc) → j ≤ k → slice_get new j ≡ Some (a, p) → slice_get new k ≡ Some (b, q) → p ≤ q
    more_in_order j k p q a b order s t =
        elim (at_new j p a s) [
          | inl old ↦ elim (at_new k q b t) [
            | inl older ↦ before.by_distance.in_order j k p q a b order old older
            | inr behind ↦ let low = before.low j p a old in let here = new_place q b behind.1 in omega arith
          ]
          | inr behind ↦ elim (at_new k q b t) [
            | inl older ↦ let within = place_within es k _ older in let far = behind.0 in absurd (omega arith)
            | inr last ↦ let here = new_place p a behind.1 in let there = new_place q b last.1 in omega arith
          ]
        ]

    -- a place before one that has handed on is an old one
    old_place : (k q : ℕ) (b : Arc) → k < i → slice_get new k ≡ Some (b, q) → slice_get es k ≡ Some (b, q)
    old_place k q b below t =
        elim (at_new k q b t) [
          | inl old ↦ old
          | inr behind ↦ let within = place_within es i _ turn.stands in let far = behind.0 in absurd (omega arith)
        ]

    more_earliest : (j k p q : ℕ) (a b : Arc) → slice_get new j ≡ Some (a, p) → slice_get new k ≡ Some (b, q) → k < p → ForcesDirectly e b a → ⊥
    more_earliest j k p q a b s t less f =
        elim (at_new j p a s) [
          | inl old ↦
              let low = before.low j p a old in
              before.by_distance.earliest j k p q a b old (old_place k q b (omega arith) t) less f
          | inr behind ↦
              let w = of_map (placed_at i) turn.more (a, p) behind.1 in
              let same_arc : a ≡ w.0 = ap (λ x. x.0) w.2 in
              let same_place : p ≡ i = ap (λ x. x.1) w.2 in
              let new_one = (turn.exactly w.0).0 w.1 in
              let below : k < i = omega arith in
              new_one.2 (before.done k q b w.0 below (old_place k q b below t) new_one.0 (subst (ForcesDirectly e b) same_arc f))
        ]

    pub exploring_more : Exploring e first start new_rows new (i + 1)
    exploring_more = record {
      begins = still 0 0 first before.begins;
      once = more_once;
      seen = more_seen;
      fresh = more_fresh;
      reached = more_reached;
      forced = more_forced;
      done = more_done;
      low = more_low;
      by_distance = record { in_order = more_in_order; earliest = more_earliest };
    }

  module _ (symmetric : Symmetric e) (closed : IsForcingClosed e start) (rows : List NameSet) (es : List (Arc × ℕ)) (i : ℕ) (before : Exploring e first start rows es i) where
    key_arc : (a : Arc) → Holds (keys_of es) a → IsArc e a
    key_arc a h = reached_arc e first a (before.reached a h)

    pub key_seen : (a : Arc) → Holds (keys_of es) a → HasArc rows a
    key_seen a h = (before.seen a).1 (inr h)

    pub few_entries : ((u v : ℕ) → e u v ≡ true → (u < NAMES) × (v < NAMES)) → length es ≤ NAMES * NAMES
    few_entries names =
        let few = few_arcs NAMES (keys_of es) before.once (λ a h. names a.tail a.head (key_arc a h)) in
        subst (λ n. n ≤ NAMES * NAMES) (length-keys es) few

    module _ (all : length es ≤ i) where
      handed_on : (a b : Arc) → Holds (keys_of es) a → IsArc e b → ForcesDirectly e a b → HasArc rows b
      handed_on a b h is f =
          let place = place_of_key es a h in
          let within = place_within es place.0 _ place.2 in
          before.done place.0 place.1 a b (omega arith) place.2 is f

      keys_closed : (a b : Arc) → Holds (keys_of es) a → IsArc e b → ForcesDirectly e a b → Holds (keys_of es) b
      keys_closed a b h is f =
          elim ((before.seen b).0 (handed_on a b h is f)) [
            | inl old ↦ absurd (before.fresh a h (closed b a old (key_arc a h) (forces_back e symmetric a b f)))
            | inr k ↦ k
          ]

      pub exploring_class : IsClass e first es
      exploring_class = record {
        begins = before.begins;
        once = before.once;
        reached = λ a. (
          before.reached a,
          over_reached e (Holds (keys_of es)) (λ x y _ h is f. keys_closed x y h is f) first a (key_at es 0 first 0 before.begins),
        );
        forced = before.forced;
        by_distance = before.by_distance;
      }

      pub exploring_closed : IsForcingClosed e rows
      exploring_closed a b s is f =
          elim ((before.seen a).0 s) [
            | inl old ↦ (before.seen b).1 (inl (closed a b old is f))
            | inr k ↦ handed_on a b k is f
          ]

-- an arc that forces none but seen ones is explored at once
pub exploring_alone : (e : ℕ → ℕ → Bool) (first : Arc) (start : List NameSet) → IsArc e first → (HasArc start first → ⊥) → (rows : List NameSet) (es : List (Arc × ℕ)) → ((a : Arc) → HasArc rows a ↔ (HasArc start a ⊎ (a ≡ first))) → es ≡ (first, 0) ∷ [] → ((b : Arc) → IsArc e b → ForcesDirectly e first b → HasArc rows b) → Exploring e first start rows es 1
exploring_alone e first start is fresh rows es taken made all =
    let before = exploring_start e first start is fresh rows es taken made in
    exploring_more e first start rows rows es es 0 before (record {
      by = first;
      its_place = 0;
      stands = before.begins;
      more = [];
      longer = sym (append-nil es);
      once = tt;
      exactly = λ b. (λ h. absurd h, λ p. absurd (p.2 (all b p.0 p.1)));
      taken = λ b. (λ h. inl h, λ p. elim p [ inl h ↦ h | inr h ↦ absurd h ]);
    })
