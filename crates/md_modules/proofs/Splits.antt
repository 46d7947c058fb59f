-- Sets that split, for any colours: closed parts, splits and segments, and the children, which are the least segments.
use Rattle.std.proofs.Common.{◌≡◌, ℕ, true, false, ◌≢◌, ◌⊎◌, refl, sym, ◌∙◌, ap, subst, inl, inr}
use Rattle.std.specs.FinSet.{contains, remove, union, intersection, difference}
use Rattle.md_graph.specs.Sets.{NameSet, Has, Lacks, Within, HasSome, only_name}
use Rattle.md_modules.specs.Colours.{IsColouring, AreTold}
use Rattle.md_modules.specs.Modules.{IsModule, Overlap, IsStrong, IsMaximalStrong}
use Rattle.md_modules.specs.Kinds.{IsSplit}
use Rattle.md_modules.specs.Components.{IsClosed, IsComponent}
use Rattle.md_modules.specs.Segments.{IsSegment, IsLeastSegment}
use Rattle.md_modules.specs.Laws.{SplitChildren, SplitsHaveOneColour, ChildrenOfSplit}
use Rattle.std.proofs.lemmas.Bool.{cases_Bool, true_from_ne_false, false_from_ne_true}
use Rattle.md_graph.proofs.SetLemmas.{clash, only_has, of_only, only_lacks, remove_left, Within-refl, Within-trans, Has-along, lacks_along, same_members, meet_has, of_meet, of_meet_lacks, union_left, of_union, of_union_lacks, minus_has, of_minus, of_minus_lacks, minus_lacks}
use Rattle.md_graph.proofs.Search.{Decided, decide_test, decide_both, decide_if, decide_like, decide_some, decide_all, decide_some_set, decide_within, decide_has_some, outside_or_within, smallest, least}
use Rattle.md_modules.proofs.Modules.{other_way, meet_module}
use Rattle.md_modules.proofs.Strong.{nested_if_meet}

-- each of two colours is the reverse of the other
pub record AreReverses {C : Type 0} (reverse : C → C) (v w : C) : Type 0 where
  pub there : reverse v ≡ w
  pub back : reverse w ≡ v

pub swapped : {C : Type 0} {reverse : C → C} {v w : C} → AreReverses reverse v w → AreReverses reverse w v
swapped two = record { there = two.back; back = two.there }

module _ {C : Type 0} {e : ℕ → ℕ → C} where
  -- ---- closed parts

  pub split_closed : (s a : NameSet) (v : C) → IsSplit e s a v → IsClosed e s a v
  split_closed s a v split = record { inside = split.inside; across = split.across }

  pub closed_split : (s a : NameSet) (v : C) → IsClosed e s a v → HasSome a → (x : ℕ) × Has s x × Lacks a x → IsSplit e s a v
  closed_split s a v closed some rest = record { some = some; inside = closed.inside; rest = rest; across = closed.across }

  pub closed_whole : (s : NameSet) (v : C) → IsClosed e s s v
  closed_whole s v = record { inside = Within-refl s; across = λ a b p q l. clash q l }

  pub closed_meet : (s a b : NameSet) (v : C) → IsClosed e s a v → IsClosed e s b v → IsClosed e s (intersection a b) v
  closed_meet s a b v ca cb = record {
    inside = λ x h. ca.inside x (of_meet a b x h).0;
    across = λ p q hp hq l. elim (of_meet_lacks a b q l) [
      | inl o ↦ ca.across p q (of_meet a b p hp).0 hq o
      | inr o ↦ cb.across p q (of_meet a b p hp).1 hq o
    ];
  }

  -- closed in a closed part is closed
  pub closed_of_closed : (s c d : NameSet) (v : C) → IsClosed e s c v → IsClosed e c d v → IsClosed e s d v
  closed_of_closed s c d v outer inner = record {
    inside = Within-trans d c s inner.inside outer.inside;
    across = λ p q hp hq l. elim (cases_Bool (contains c q)) [
      | inl h ↦ inner.across p q hp h l
      | inr o ↦ outer.across p q (inner.inside p hp) hq o
    ];
  }

  -- where a pair of another colour leads on from a member, its other end is a member
  pub closed_leads : (s c : NameSet) (v : C) → IsClosed e s c v → (p q : ℕ) → Has c p → Has s q → e p q ≢ v → Has c q
  closed_leads s c v closed p q hp hq differs = true_from_ne_false _ (λ l. differs (closed.across p q hp hq l))

  -- a set that doesn't split lies in each closed part that it meets
  pub unsplit_within : (s c a : NameSet) (v : C) (x : ℕ) → Within c s → ((part : NameSet) → IsSplit e c part v → ⊥) → IsClosed e s a v → Has c x → Has a x → Within c a
  unsplit_within s c a v x inside none closed hc ha = elim (outside_or_within c a) [
    | inr all ↦ all
    | inl rest ↦ absurd (none (intersection c a) (record {
      some = (x, meet_has c a x hc ha);
      inside = λ y h. (of_meet c a y h).0;
      rest = (rest.0, rest.1, false_from_ne_true _ (λ h. clash (of_meet c a rest.0 h).1 rest.2));
      across = λ p q hp hq l. closed.across p q (of_meet c a p hp).1 (inside q hq) (elim (of_meet_lacks c a q l) [ inl o ↦ clash hq o | inr o ↦ o ]);
    }))
  ]

  -- two names alone split
  pub pair_splits : (s : NameSet) (x y : ℕ) → Has s x → Has s y → y ≢ x → ((z : ℕ) → Has (remove s x) z → z ≡ y) → IsSplit e s (only_name x) (e x y)
  pair_splits s x y hx hy n alone = record {
    some = (x, only_has x);
    inside = λ z h. subst (Has s) (sym (of_only x z h)) hx;
    rest = (y, hy, only_lacks x y n);
    across = λ a b ha hb l. ap (λ z. e z b) (of_only x a ha) ∙ ap (e x) (alone b (remove_left s x b (λ same. clash (subst (Has (only_name x)) (sym same) (only_has x)) l) hb));
  }

  -- ---- segments

  pub segment_inside : (s c : NameSet) (v w : C) → IsSegment e s c v w → Within c s
  segment_inside s c v w is x h = is.initial.inside x (of_meet is.first is.last x (Has-along c _ is.is x h)).0

  -- a segment the other way round
  segment_turned : (s c : NameSet) (v w : C) → IsSegment e s c v w → IsSegment e s c w v
  segment_turned s c v w is = record {
    first = is.last;
    last = is.first;
    initial = is.final;
    final = is.initial;
    is = is.is ∙ same_members _ _ (turned is.first is.last) (turned is.last is.first);
  } where
    turned : (a b : NameSet) → Within (intersection a b) (intersection b a)
    turned a b x h = let two : Has a x × Has b x = of_meet a b x h in meet_has b a x two.1 two.0

  -- a last part is a segment
  last_segment : (s c : NameSet) (v w : C) → IsClosed e s c w → IsSegment e s c v w
  last_segment s c v w closed = record {
    first = s;
    last = c;
    initial = closed_whole s v;
    final = closed;
    is = same_members _ _ (λ x h. meet_has s c x (closed.inside x h) h) (λ x h. (of_meet s c x h).1);
  }

  -- ---- decisions

  module _ (told : AreTold C) where
    decide_closed_all : (s c : NameSet) (v : C) → Decided ((a : ℕ) → Has c a → (b : ℕ) → Has s b → Lacks c b → e a b ≡ v)
    decide_closed_all s c v = decide_all c _ (λ a ha. decide_all s _ (λ b hb. decide_if (decide_test (contains c b) false) (told (e a b) v)))

    pub decide_closed : (s c : NameSet) (v : C) → Decided (IsClosed e s c v)
    decide_closed s c v =
        decide_like
        (λ w. record { inside = w.0; across = λ a b p q l. w.1 a p b q l })
        (λ closed. (closed.inside, λ a p b q l. closed.across a b p q l))
        (decide_both (decide_within c s) (decide_closed_all s c v))

    -- whether s splits
    pub decide_split : (s : NameSet) (v : C) → Decided ((part : NameSet) × IsSplit e s part v)
    decide_split s v =
        decide_like
        (λ w. (w.0, closed_split s w.0 v w.2.0 w.2.1.0 w.2.1.1))
        (λ w. (w.0, w.1.inside, (split_closed s w.0 v w.1, (w.1.some, w.1.rest))))
        (decide_some_set s (λ a. IsClosed e s a v × (HasSome a × ((x : ℕ) × Has s x × Lacks a x)))
        (λ a w. decide_both (decide_closed s a v) (decide_both (decide_has_some a) (decide_some s (Lacks a) (λ x h. decide_test (contains a x) false)))))

    -- each name lies in a least closed part
    pub component_of : (s : NameSet) (v : C) (x : ℕ) → Has s x → (c : NameSet) × IsComponent e s x c v
    component_of s v x h =
        let r : (c : NameSet) × Within c s × (IsClosed e s c v × Has c x) × ((a : NameSet) → IsClosed e s a v × Has a x → Within c a) =
        least (λ c. IsClosed e s c v × Has c x) s (closed_whole s v, h) (λ c w. decide_both (decide_closed s c v) (decide_test (contains c x) true))
        (λ a b p q. (closed_meet s a b v p.0 q.0, meet_has a b x p.1 q.1)) in
        (r.0, record { holds = r.2.1; closed = r.2.0; least = λ a p q. r.3 a (p, q) })

    -- and in a least segment
    pub segment_of : (s : NameSet) (v w : C) (x : ℕ) → Has s x → (c : NameSet) × IsLeastSegment e s x c v w
    segment_of s v w x h = of_parts (component_of s v x h) (component_of s w x h) where
      of_parts : (f : NameSet) × IsComponent e s x f v → (l : NameSet) × IsComponent e s x l w → (c : NameSet) × IsLeastSegment e s x c v w
      of_parts f l = (
        intersection f.0 l.0,
        record {
          holds = meet_has f.0 l.0 x f.1.holds l.1.holds;
          segment = record { first = f.0; last = l.0; initial = f.1.closed; final = l.1.closed; is = refl };
          least = λ a is hx y hy.
              let here : Has f.0 y × Has l.0 y = of_meet f.0 l.0 y hy in
              let begun : Has is.first x × Has is.last x = of_meet is.first is.last x (Has-along a _ is.is x hx) in
              Has-along _ a (sym is.is) y (meet_has is.first is.last y (f.1.least is.first is.initial begun.0 y here.0) (l.1.least is.last is.final begun.1 y here.1));
        },
      )

  module _ {reverse : C → C} (col : IsColouring reverse e) where
    -- ---- what is left of a part

    pub closed_rest : (s c : NameSet) (v : C) → IsClosed e s c v → IsClosed e s (difference s c) (reverse v)
    closed_rest s c v closed = record {
      inside = λ x h. (of_minus s c x h).0;
      across = λ p q hp hq l. col.reversed q p
          ∙ ap reverse (closed.across q p (elim (of_minus_lacks s c q l) [ inl o ↦ clash hq o | inr i ↦ i ]) (of_minus s c p hp).0 (of_minus s c p hp).1);
    }

    -- the rest of a split is a split
    pub split_rest : (s a : NameSet) (v : C) → IsSplit e s a v → IsSplit e s (difference s a) (reverse v)
    split_rest s a v split =
        closed_split s (difference s a) (reverse v) (closed_rest s a v (split_closed s a v split))
        (split.rest.0, minus_has s a split.rest.0 split.rest.1 split.rest.2)
        (split.some.0, split.inside split.some.0 split.some.1, minus_lacks s a split.some.0 split.some.1)

    -- a colour of a split is the reverse of its reverse
    pub split_reverses : (s a : NameSet) (v : C) → IsSplit e s a v → AreReverses reverse v (reverse v)
    split_reverses s a v split = record {
      there = refl;
      back = ap reverse (ap reverse (sym across) ∙ sym (col.reversed split.some.0 split.rest.0)) ∙ sym (col.reversed split.rest.0 split.some.0) ∙ across;
    } where
      across : e split.some.0 split.rest.0 ≡ v
      across = split.across split.some.0 split.rest.0 split.some.1 split.rest.1 split.rest.2

    -- a set that doesn't split with a colour doesn't split with its reverse
    pub unsplit_turned : (c : NameSet) (v w : C) → AreReverses reverse v w → ((a : NameSet) → IsSplit e c a v → ⊥) → (a : NameSet) → IsSplit e c a w → ⊥
    unsplit_turned c v w two none a split = none (difference c a) (subst (IsSplit e c (difference c a)) two.back (split_rest c a w split))

    -- two splits of one set have one colour, or each the reverse of the other's
    pub one_colour : (s a b : NameSet) (v w : C) → IsSplit e s a v → IsSplit e s b w → (v ≡ w) ⊎ (w ≡ reverse v)
    one_colour s a b v w p q =
        elim (cases_Bool (contains b x)) [
          | inl xb ↦ elim (cases_Bool (contains b y)) [
            | inr yo ↦ inl (sym (from_x y hy p.rest.2) ∙ q.across x y xb hy yo)
            | inl yb ↦ elim (cases_Bool (contains a z)) [
              | inl za ↦ inr (turned z y (to_y z za) (q.across y z yb q.rest.1 q.rest.2))
              | inr zo ↦ inl (sym (from_x z q.rest.1 zo) ∙ q.across x z xb q.rest.1 q.rest.2)
            ]
          ]
          | inr xo ↦ elim (cases_Bool (contains b y)) [
            | inl yb ↦ inr (turned x y (to_y x p.some.1) (q.across y x yb hx xo))
            | inr yo ↦ elim (cases_Bool (contains a u)) [
              | inl ua ↦ inl (sym (to_y u ua) ∙ q.across u y q.some.1 hy yo)
              | inr uo ↦ inr (turned x u (from_x u (q.inside u q.some.1) uo) (q.across u x q.some.1 hx xo))
            ]
          ]
        ]
      where
        -- x is in a, y isn't; u is in b, z isn't
        x : ℕ
        x = p.some.0

        y : ℕ
        y = p.rest.0

        u : ℕ
        u = q.some.0

        z : ℕ
        z = q.rest.0

        hx : Has s x
        hx = p.inside x p.some.1

        hy : Has s y
        hy = p.rest.1

        from_x : (n : ℕ) → Has s n → Lacks a n → e x n ≡ v
        from_x n h o = p.across x n p.some.1 h o

        to_y : (n : ℕ) → Has a n → e n y ≡ v
        to_y n h = p.across n y h hy p.rest.2

        turned : (m n : ℕ) → e m n ≡ v → e n m ≡ w → w ≡ reverse v
        turned m n there back = sym back ∙ col.reversed m n ∙ ap reverse there

    -- ---- modules

    pub closed_module : (s c : NameSet) (v : C) → IsClosed e s c v → HasSome c → IsModule e s c
    closed_module s c v closed some = record {
      some = some;
      inside = closed.inside;
      alike = λ a b x p q k l. other_way col a x b x (closed.across a x p k l ∙ sym (closed.across b x q k l));
    }

    pub segment_module : (s c : NameSet) (v w : C) → IsSegment e s c v w → HasSome c → IsModule e s c
    segment_module s c v w is some =
        let here : Has (intersection is.first is.last) some.0 = Has-along c _ is.is some.0 some.1 in
        let two : Has is.first some.0 × Has is.last some.0 = of_meet is.first is.last some.0 here in
        subst (IsModule e s) (sym is.is)
        (meet_module s is.first is.last (closed_module s is.first v is.initial (some.0, two.0)) (closed_module s is.last w is.final (some.0, two.1)) (some.0, here))

    -- each strong module but s lies in each closed part that it meets: that part and the rest of s are modules
    pub strong_in_closed : (s m c : NameSet) (v : C) (x : ℕ) → IsStrong e s m → m ≢ s → IsClosed e s c v → Has m x → Has c x → Within m c
    strong_in_closed s m c v x is differs closed hm hc = elim (outside_or_within m c) [
      | inr all ↦ all
      | inl left ↦ elim (nested_if_meet m c x (is.free c (closed_module s c v closed (x, hc))) hm hc) [
        | inl all ↦ all
        | inr holds ↦ absurd (no_rest left holds (minus_has s c left.0 (is.is_module.inside left.0 left.1) left.2))
      ]
    ] where
      no_rest : (left : (y : ℕ) × Has m y × Lacks c y) → Within c m → Has (difference s c) left.0 → ⊥
      no_rest left holds h =
          elim (nested_if_meet m (difference s c) left.0 (is.free (difference s c) (closed_module s (difference s c) (reverse v) (closed_rest s c v closed) (left.0, h))) left.1 h) [
            | inl out ↦ clash hc (of_minus s c x (out x hm)).1
            | inr rest ↦ differs (same_members m s is.is_module.inside (λ y hy. elim (cases_Bool (contains c y)) [
              | inl i ↦ holds y i
              | inr o ↦ rest y (minus_has s c y hy o)
            ]))
          ]

    pub strong_in_segment : (s m c : NameSet) (v w : C) (x : ℕ) → IsStrong e s m → m ≢ s → IsSegment e s c v w → Has m x → Has c x → Within m c
    strong_in_segment s m c v w x is differs segment hm hc y hy =
        let two : Has segment.first x × Has segment.last x = of_meet segment.first segment.last x (Has-along c _ segment.is x hc) in
        Has-along _ c (sym segment.is) y
        (meet_has segment.first segment.last y (strong_in_closed s m segment.first v x is differs segment.initial hm two.0 y hy)
        (strong_in_closed s m segment.last w x is differs segment.final hm two.1 y hy))

    -- ---- least segments

    -- a first part of a segment is a segment
    first_of_segment : (s c a : NameSet) (v w : C) → AreReverses reverse v w → IsSegment e s c v w → IsClosed e c a v → IsSegment e s a v w
    first_of_segment s c a v w two is inner = record {
      first = union a behind;
      last = is.last;
      initial = record {
        inside = λ x h. elim (of_union a behind x h) [ inl i ↦ segment_inside s c v w is x (inner.inside x i) | inr d ↦ (of_minus s is.last x d).0 ];
        across = λ p q hp hq l. elim (of_union a behind p hp) [
          | inl i ↦ elim (cases_Bool (contains is.first q)) [
            | inl f ↦ inner.across p q i (Has-along _ c (sym is.is) q (meet_has is.first is.last q f (in_last q hq (of_union_lacks a behind q l).1))) (of_union_lacks a behind q l).0
            | inr o ↦ is.initial.across p q (parts p i).0 hq o
          ]
          | inr d ↦ before.across p q d hq (of_union_lacks a behind q l).1
        ];
      };
      final = is.final;
      is = same_members _ _ (λ x h. meet_has (union a behind) is.last x (union_left a behind x h) (parts x h).1)
          (λ x h.
          let both : Has (union a behind) x × Has is.last x = of_meet (union a behind) is.last x h in
          elim (of_union a behind x both.0) [ inl i ↦ i | inr d ↦ clash both.1 (of_minus s is.last x d).1 ]);
    } where
      behind : NameSet
      behind = difference s is.last

      before : IsClosed e s behind v
      before = subst (IsClosed e s behind) two.back (closed_rest s is.last w is.final)

      parts : (x : ℕ) → Has a x → Has is.first x × Has is.last x
      parts x h = of_meet is.first is.last x (Has-along c _ is.is x (inner.inside x h))

      in_last : (q : ℕ) → Has s q → Lacks behind q → Has is.last q
      in_last q hq l = elim (of_minus_lacks s is.last q l) [ inl o ↦ clash hq o | inr i ↦ i ]

    -- a least segment doesn't split with its colour
    pub segment_unsplit : (s c : NameSet) (v w : C) (x : ℕ) → AreReverses reverse v w → IsLeastSegment e s x c v w → (a : NameSet) → IsSplit e c a v → ⊥
    segment_unsplit s c v w x two is a split =
        elim (cases_Bool (contains a x)) [
          | inl h ↦ clash (is.least a (first_of_segment s c a v w two is.segment (split_closed c a v split)) h split.rest.0 split.rest.1) split.rest.2
          | inr o ↦ clash split.some.1
              (of_minus c a split.some.0 (is.least (difference c a) last (minus_has c a x is.holds o) split.some.0 (split.inside split.some.0 split.some.1))).1
        ]
      where
        last : IsSegment e s (difference c a) v w
        last = segment_turned s (difference c a) w v (first_of_segment s c (difference c a) w v (swapped two) (segment_turned s c v w is.segment)
            (subst (IsClosed e c (difference c a)) two.there (closed_rest c a v (split_closed c a v split))))

    -- a segment that doesn't split is the least one of each of its members
    pub unsplit_segment : (s c : NameSet) (v w : C) (x : ℕ) → AreReverses reverse v w → IsSegment e s c v w → ((a : NameSet) → IsSplit e c a v → ⊥) → Has c x → IsLeastSegment e s x c v w
    unsplit_segment s c v w x two is none h = record {
      holds = h;
      segment = is;
      least = λ a other hx y hy.
          let begun : Has other.first x × Has other.last x = of_meet other.first other.last x (Has-along a _ other.is x hx) in
          Has-along _ a (sym other.is) y
          (meet_has other.first other.last y (unsplit_within s c other.first v x (segment_inside s c v w is) none other.initial h begun.0 y hy)
          (unsplit_within s c other.last w x (segment_inside s c v w is) (unsplit_turned c v w two none) other.final h begun.1 y hy));
    }

    -- a module that overlaps c splits it, where all members of c have one colour with a name of that module outside c
    overlap_split : (s c k : NameSet) (v : C) → Within c s → IsModule e s k → (over : Overlap c k) → ((z : ℕ) → Has c z → e z over.right.0 ≡ v) → IsSplit e c (difference c k) v
    overlap_split s c k v inside module_is over colour = record {
      some = (over.left.0, minus_has c k over.left.0 over.left.1 over.left.2);
      inside = λ x h. (of_minus c k x h).0;
      rest = (over.meet.0, over.meet.1, minus_lacks c k over.meet.0 over.meet.2);
      across = λ p q hp hq l.
          let out : Has c p × Lacks k p = of_minus c k p hp in
          module_is.alike q over.right.0 p (elim (of_minus_lacks c k q l) [ inl o ↦ clash hq o | inr i ↦ i ]) over.right.1 (inside p out.0) out.1 ∙ colour p out.0;
    }

    -- a segment that doesn't split is strong
    pub segment_strong : (s c : NameSet) (v w : C) → AreReverses reverse v w → IsSegment e s c v w → HasSome c → ((a : NameSet) → IsSplit e c a v → ⊥) → IsStrong e s c
    segment_strong s c v w two is some none = record {
      is_module = segment_module s c v w is some;
      free = λ k module_is over.
          elim (of_meet_lacks is.first is.last over.right.0 (lacks_along (intersection is.first is.last) c (sym is.is) over.right.0 over.right.2)) [
            | inl o ↦ none (difference c k) (overlap_split s c k v inside module_is over (λ z h. is.initial.across z over.right.0 (parts z h).0 (module_is.inside over.right.0 over.right.1) o))
            | inr o ↦ unsplit_turned c v w two none (difference c k)
                (overlap_split s c k w inside module_is over (λ z h. is.final.across z over.right.0 (parts z h).1 (module_is.inside over.right.0 over.right.1) o))
          ];
    } where
      inside : Within c s
      inside = segment_inside s c v w is

      parts : (z : ℕ) → Has c z → Has is.first z × Has is.last z
      parts z h = of_meet is.first is.last z (Has-along c _ is.is z h)

    -- ---- children

    -- where s splits, a least segment is a child
    pub segment_child : (s part c : NameSet) (v w : C) (x : ℕ) → AreReverses reverse v w → IsSplit e s part v → IsLeastSegment e s x c v w → IsMaximalStrong e s c
    segment_child s part c v w x two split is = record {
      is_strong = segment_strong s c v w two is.segment (x, is.holds) none;
      proper = λ same. none part (subst (λ t. IsSplit e t part v) (sym same) split);
      maximal = λ n strong differs holds. same_members n c (strong_in_segment s n c v w x strong differs is.segment (holds x is.holds) is.holds) holds;
    } where
      none : (a : NameSet) → IsSplit e c a v → ⊥
      none = segment_unsplit s c v w x two is

    -- where s splits, a child is the least segment of each of its members
    pub child_segment : AreTold C → (s part c : NameSet) (v w : C) (x : ℕ) → AreReverses reverse v w → IsSplit e s part v → IsMaximalStrong e s c → Has c x → IsLeastSegment e s x c v w
    child_segment told s part c v w x two split is h =
        let r : (d : NameSet) × IsLeastSegment e s x d v w = segment_of told s v w x (is.is_strong.is_module.inside x h) in
        let child : IsMaximalStrong e s r.0 = segment_child s part r.0 v w x two split r.1 in
        let same : r.0 ≡ c = is.maximal r.0 child.is_strong child.proper (strong_in_segment s c r.0 v w x is.is_strong is.proper r.1.segment h r.1.holds) in
        subst (λ t. IsLeastSegment e s x t v w) same r.1

    -- where s splits, no child splits in the same way
    pub child_unsplit : AreTold C → (s c part : NameSet) (v : C) → IsSplit e s part v → IsMaximalStrong e s c → (a : NameSet) → IsSplit e c a v → ⊥
    child_unsplit told s c part v split is =
        let some : HasSome c = is.is_strong.is_module.some in
        let two : AreReverses reverse v (reverse v) = split_reverses s part v split in
        segment_unsplit s c v (reverse v) some.0 two (child_segment told s part c v (reverse v) some.0 two split is some.1)

    -- where s splits, a last part with a member has a child whose pairs with the others of that part have the colour
    pub front_child : AreTold C → (s part rest : NameSet) (v w : C) → AreReverses reverse v w → IsSplit e s part v → IsClosed e s rest w → HasSome rest → (c : NameSet) × IsMaximalStrong e s c × IsClosed e rest c v
    front_child told s part rest v w two split closed some =
        let r : (c : NameSet) × Within c rest × (HasSome c × IsClosed e rest c v) × ((a : NameSet) → Within a c → HasSome a × IsClosed e rest a v → a ≡ c) =
        smallest (λ c. HasSome c × IsClosed e rest c v) rest (some, closed_whole rest v) (λ a _. decide_both (decide_has_some a) (decide_closed told rest a v)) in
        let none : (a : NameSet) → IsSplit e r.0 a v → ⊥ = λ a inner.
        clash (Has-along r.0 a (sym (r.3 a inner.inside (inner.some, closed_of_closed rest r.0 a v r.2.1 (split_closed r.0 a v inner)))) inner.rest.0 inner.rest.1) inner.rest.2 in
        let segment : IsSegment e s r.0 v w = first_of_segment s rest r.0 v w two (last_segment s rest v w closed) r.2.1 in
        (r.0, segment_child s part r.0 v w r.2.0.0 two split (unsplit_segment s r.0 v w r.2.0.0 two segment none r.2.0.1), r.2.1)

    pub split_children : AreTold C → (s part : NameSet) (v : C) → IsSplit e s part v → SplitChildren reverse e s v
    split_children told s part v split = record {
      segments = λ c. (
        λ child.
            let some : HasSome c = child.is_strong.is_module.some in
            (some.0, child_segment told s part c v (reverse v) some.0 two split child some.1),
        λ found. segment_child s part c v (reverse v) found.0 two split found.1,
      );
      unsplit = λ c a child. (child_unsplit told s c part v split child a, unsplit_turned c v (reverse v) two (child_unsplit told s c part v split child) a);
      first = λ rest closed some. front_child told s part rest v (reverse v) two split closed some;
    } where
      two : AreReverses reverse v (reverse v)
      two = split_reverses s part v split

pub one_colour_proof : (C : Type 0) → SplitsHaveOneColour C
one_colour_proof C reverse e col = one_colour col

pub split_children_proof : (C : Type 0) → ChildrenOfSplit C
split_children_proof C reverse e col told = split_children col told
