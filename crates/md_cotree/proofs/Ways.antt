-- Ways up.
use Rattle.std.proofs.Common.{◌≡◌, ◌≢◌, ℕ, zero, suc, ◌+◌, ◌-◌, ◌<◌, ◌≤◌, Bool, true, Some, None, is_some, refl, sym, ◌∙◌, ap, subst, inl, inr, arith}
use Rattle.std.proofs.lemmas.Bool.{cases_lt}
use Rattle.std.proofs.lemmas.Option.{none-some, same_Some}
use Rattle.md_lists.specs.Links.{Links, kind_at, parent_at, IsLive, AreLinks}
use Rattle.md_graph.specs.Linked.{times}
use Rattle.md_lists.proofs.LinkLaws.{parent_child}
use Rattle.md_cotree.specs.PlaceTrees.{place_kind}
use Rattle.md_cotree.specs.Climbs.{Climbs, Meet, Meets}

module _ (l : Links) where
  pub climb_more : (n p a b : ℕ) → Climbs l n p a → parent_at l a ≡ Some b → Climbs l (suc n) p b
  climb_more zero p a b way is = (b, ap (parent_at l) way ∙ is, refl)
  climb_more (suc n) p a b way is = (way.0, way.1, climb_more n way.0 a b way.2 is)

  pub climb_join : (k n m p a b : ℕ) → k ≡ n + m → Climbs l n p a → Climbs l m a b → Climbs l k p b
  climb_join k zero m p a b e one two = let same : m ≡ k = omega arith in subst (λ z. Climbs l z p b) same (subst (λ z. Climbs l m z b) (sym one) two)
  climb_join zero (suc n) m p a b e one two = absurd (omega arith)
  climb_join (suc k) (suc n) m p a b e one two = (one.0, one.1, climb_join k n m one.0 a b (omega arith) one.2 two)

  pub climb_split : (k n m p b : ℕ) → k ≡ n + m → Climbs l k p b → (a : ℕ) × Climbs l n p a × Climbs l m a b
  climb_split k zero m p b e way = let same : k ≡ m = omega arith in (p, refl, subst (λ z. Climbs l z p b) same way)
  climb_split zero (suc n) m p b e way = absurd (omega arith)
  climb_split (suc k) (suc n) m p b e way = let rest = climb_split k n m way.0 b (omega arith) way.2 in (rest.0, (way.0, way.1, rest.1), rest.2)

  pub climb_one : (n p a b : ℕ) → Climbs l n p a → Climbs l n p b → a ≡ b
  climb_one zero p a b one two = sym one ∙ two
  climb_one (suc n) p a b one two =
      climb_one n one.0 a b one.2 (subst (λ z. Climbs l n z b) (same_Some two.0 one.0 (sym two.1 ∙ one.1)) two.2)

  pub climb_end : (n m p r s : ℕ) → Climbs l n p r → parent_at l r ≡ None → Climbs l m p s → parent_at l s ≡ None → n ≡ m
  climb_end zero zero p r s one no_r two no_s = refl
  climb_end zero (suc m) p r s one no_r two no_s = absurd (none-some two.0 (sym no_r ∙ sym (ap (parent_at l) one) ∙ two.1))
  climb_end (suc n) zero p r s one no_r two no_s = absurd (none-some one.0 (sym no_s ∙ sym (ap (parent_at l) two) ∙ one.1))
  climb_end (suc n) (suc m) p r s one no_r two no_s =
      ap (λ z. suc z) (climb_end n m one.0 r s one.2 no_r (subst (λ z. Climbs l m z s) (same_Some two.0 one.0 (sym two.1 ∙ one.1)) two.2) no_s)

  -- places that have or are parents are live
  module _ (ok : AreLinks l) where
    live_or_free : (p : ℕ) (o : _) → kind_at l p ≡ o → (kind_at l p ≡ None → ⊥) → is_some o ≡ true
    live_or_free p None e not = absurd (not e)
    live_or_free p (Some k) e not = refl

    pub has_live : (p q : ℕ) → parent_at l p ≡ Some q → IsLive l p
    has_live p q is = live_or_free p (kind_at l p) refl (λ free. none-some q (sym (ok.bare p free).no_parent ∙ is))

    pub parent_live : (p q : ℕ) → parent_at l p ≡ Some q → IsLive l q
    parent_live p q is =
        live_or_free q (kind_at l q) refl
        (λ free. let e = ap (times p) (ok.bare q free).no_children in let one = parent_child l ok q p is in omega arith)

  -- ---- the loops

  pub record IsBelow (p place i n r : ℕ) : Type 0 where
    pub left : ℕ
    pub sum : i + left ≡ n
    pub way : Climbs l left place r

  pub below_begin : (p n r : ℕ) → Climbs l n p r → IsBelow p p 0 n r
  below_begin p n r way = record { left = n; sum = omega arith; way = way }

  below_up : (p place i n r q left : ℕ) → i + left ≡ n → Climbs l left place r → parent_at l place ≡ Some q → i < n → IsBelow p q (i + 1) n r
  below_up p place i n r q zero e way is less = absurd (omega arith)
  below_up p place i n r q (suc left) e way is less = record { left = left; sum = omega arith; way = subst (λ z. Climbs l left z r) (same_Some way.0 q (sym way.1 ∙ is)) way.2 }

  pub below_more : (p place i n r q : ℕ) → IsBelow p place i n r → parent_at l place ≡ Some q → i < n → IsBelow p q (i + 1) n r
  below_more p place i n r q at is less = below_up p place i n r q at.left at.sum at.way is less

  not_end : (place left r q : ℕ) → Climbs l left place r → parent_at l r ≡ None → parent_at l place ≡ Some q → 0 < left
  not_end place zero r q way none is = absurd (none-some q (sym none ∙ sym (ap (parent_at l) way) ∙ is))
  not_end place (suc left) r q way none is = omega arith

  pub below_less : (p place i n r q : ℕ) → IsBelow p place i n r → parent_at l r ≡ None → parent_at l place ≡ Some q → i < n
  below_less p place i n r q at none is = let some = not_end place at.left r q at.way none is in let e = at.sum in omega arith

  at_end : (place left r : ℕ) → Climbs l left place r → parent_at l place ≡ None → left ≡ 0
  at_end place zero r way none = refl
  at_end place (suc left) r way none = absurd (none-some way.0 (sym none ∙ way.1))

  pub below_end : (p place i n r : ℕ) → IsBelow p place i n r → parent_at l place ≡ None → i ≡ n
  below_end p place i n r at none = let e = at.sum in let z = at_end place at.left r at.way none in omega arith

  climbs_next : (place left r : ℕ) → 0 < left → Climbs l left place r → (q : ℕ) × (parent_at l place ≡ Some q)
  climbs_next place zero r some way = absurd (omega arith)
  climbs_next place (suc left) r some way = (way.0, way.1)

  pub below_next : (p place i n r : ℕ) → IsBelow p place i n r → i < n → (q : ℕ) × (parent_at l place ≡ Some q)
  below_next p place i n r at less = climbs_next place at.left r (let e = at.sum in omega arith) at.way

  at_top : (place left r : ℕ) → left ≡ 0 → Climbs l left place r → place ≡ r
  at_top place zero r e way = way
  at_top place (suc left) r e way = absurd (omega arith)

  pub below_top : (p place i n r : ℕ) → IsBelow p place i n r → n ≤ i → place ≡ r
  below_top p place i n r at past = at_top place at.left r (let e = at.sum in omega arith) at.way

  -- ---- where two ways meet

  pub record IsMeeting (left right i n : ℕ) (b : Bool) : Type 0 where
    pub more : ℕ
    pub sum : i + more ≡ n
    pub meet : Meet l left right more more b

  climbs_or : (n p a w : ℕ) → Climbs l n p a → parent_at l a ≡ Some w → (q : ℕ) × (parent_at l p ≡ Some q)
  climbs_or zero p a w way is = (w, ap (parent_at l) way ∙ is)
  climbs_or (suc n) p a w way is = (way.0, way.1)

  pub meeting_left : (left right i n : ℕ) (b : Bool) → IsMeeting left right i n b → (q : ℕ) × (parent_at l left ≡ Some q)
  meeting_left left right i n b at = climbs_or at.more left at.meet.left at.meet.top at.meet.from_left at.meet.left_top

  pub meeting_right : (left right i n : ℕ) (b : Bool) → IsMeeting left right i n b → (q : ℕ) × (parent_at l right ≡ Some q)
  meeting_right left right i n b at = climbs_or at.more right at.meet.right at.meet.top at.meet.from_right at.meet.right_top

  module _ (left right x y : ℕ) (is_x : parent_at l left ≡ Some x) (is_y : parent_at l right ≡ Some y) where
    same_top : (n : ℕ) (b : Bool) → Meet l left right n n b → x ≡ y → kind_at l x ≡ Some (place_kind b)
    same_top zero b m same = ap (kind_at l) (same_Some x m.top (sym is_x ∙ ap (parent_at l) m.from_left ∙ m.left_top)) ∙ m.kind
    same_top (suc n) b m same =
        absurd (m.differ (climb_one n x m.left m.right
        (subst (λ z. Climbs l n z m.left) (same_Some m.from_left.0 x (sym m.from_left.1 ∙ is_x)) m.from_left.2)
        (subst (λ z. Climbs l n z m.right) (same_Some m.from_right.0 y (sym m.from_right.1 ∙ is_y) ∙ sym same) m.from_right.2)))

    go_on : (i n more : ℕ) (b : Bool) → i + more ≡ n → Meet l left right more more b → x ≢ y → IsMeeting x y (i + 1) n b
    go_on i n zero b e m differ =
        absurd (differ (same_Some x y (sym is_x ∙ ap (parent_at l) m.from_left ∙ m.left_top ∙ sym m.right_top ∙ sym (ap (parent_at l) m.from_right) ∙ is_y)))
    go_on i n (suc more) b e m differ = record {
      more = more;
      sum = omega arith;
      meet = record {
        left = m.left;
        right = m.right;
        top = m.top;
        from_left = subst (λ z. Climbs l more z m.left) (same_Some m.from_left.0 x (sym m.from_left.1 ∙ is_x)) m.from_left.2;
        from_right = subst (λ z. Climbs l more z m.right) (same_Some m.from_right.0 y (sym m.from_right.1 ∙ is_y)) m.from_right.2;
        differ = m.differ;
        left_top = m.left_top;
        right_top = m.right_top;
        kind = m.kind;
      };
    }

    pub meeting_top : (i n : ℕ) (b : Bool) → IsMeeting left right i n b → x ≡ y → kind_at l x ≡ Some (place_kind b)
    meeting_top i n b at same = same_top at.more b at.meet same

    pub meeting_more : (i n : ℕ) (b : Bool) → IsMeeting left right i n b → x ≢ y → IsMeeting x y (i + 1) n b
    meeting_more i n b at differ = go_on i n at.more b at.sum at.meet differ

  pub meeting_begin : (p q n : ℕ) (b : Bool) → Meet l p q n n b → IsMeeting p q 0 n b
  meeting_begin p q n b m = record { more = n; sum = omega arith; meet = m }

  pub meeting_end : (left right i n : ℕ) (b : Bool) → IsMeeting left right i n b → i ≤ n
  meeting_end left right i n b at = let e = at.sum in omega arith

  -- ---- at one level

  pub way_left : (p q : ℕ) (b : Bool) → (m : Meets l p q b) → Climbs l (suc (m.left_steps + m.steps_on)) p m.root
  way_left p q b m = climb_join (suc (m.left_steps + m.steps_on)) (suc m.left_steps) m.steps_on p m.meet.top m.root (omega arith) (climb_more m.left_steps p m.meet.left m.meet.top m.meet.from_left m.meet.left_top) m.on

  pub way_right : (p q : ℕ) (b : Bool) → (m : Meets l p q b) → Climbs l (suc (m.right_steps + m.steps_on)) q m.root
  way_right p q b m = climb_join (suc (m.right_steps + m.steps_on)) (suc m.right_steps) m.steps_on q m.meet.top m.root (omega arith) (climb_more m.right_steps q m.meet.right m.meet.top m.meet.from_right m.meet.right_top) m.on

  -- the places at one level, and how the ways from there meet
  pub record IsLevel (p q up_left up_right limit : ℕ) (b : Bool) : Type 0 where
    pub left : ℕ
    pub right : ℕ
    pub from_left : Climbs l up_left p left
    pub from_right : Climbs l up_right q right
    pub steps : ℕ
    pub meet : Meet l left right steps steps b
    pub few : steps < limit

  pub level : (p q high low up_left up_right : ℕ) (b : Bool) → (m : Meets l p q b) → high ≡ suc (m.left_steps + m.steps_on) → low ≡ suc (m.right_steps + m.steps_on) →
      up_left ≡ high - low → up_right ≡ low - high → IsLevel p q up_left up_right high b
  level p q high low up_left up_right b m one two is_left is_right =
      elim (cases_lt m.left_steps m.right_steps) [
        | inl less ↦
            let way = climb_split m.right_steps up_right m.left_steps q m.meet.right (omega arith) m.meet.from_right in
            record {
              left = p;
              right = way.0;
              from_left = let none : 0 ≡ up_left = omega arith in subst (λ z. Climbs l z p p) none refl;
              from_right = way.1;
              steps = m.left_steps;
              meet = record { left = m.meet.left; right = m.meet.right; top = m.meet.top; from_left = m.meet.from_left; from_right = way.2; differ = m.meet.differ; left_top = m.meet.left_top; right_top = m.meet.right_top; kind = m.meet.kind };
              few = omega arith;
            }
        | inr more ↦
            let way = climb_split m.left_steps up_left m.right_steps p m.meet.left (omega arith) m.meet.from_left in
            record {
              left = way.0;
              right = q;
              from_left = way.1;
              from_right = let none : 0 ≡ up_right = omega arith in subst (λ z. Climbs l z q q) none refl;
              steps = m.right_steps;
              meet = record { left = m.meet.left; right = m.meet.right; top = m.meet.top; from_left = way.2; from_right = m.meet.from_right; differ = m.meet.differ; left_top = m.meet.left_top; right_top = m.meet.right_top; kind = m.meet.kind };
              few = omega arith;
            }
      ]

  -- the places that were found
  pub meet_from : (a x b y n : ℕ) (series : Bool) → x ≡ a → y ≡ b → Meet l a b n n series → Meet l x y n n series
  meet_from a x b y n series one two m = subst (λ z. Meet l z y n n series) (sym one) (subst (λ z. Meet l a z n n series) (sym two) m)
