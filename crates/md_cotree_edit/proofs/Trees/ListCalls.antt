-- What one call of the lists makes of the trees that they keep.
use Rattle.std.proofs.Common.{◌≡◌, ℕ, ◌+◌, ◌<◌, Bool, true, false, cond, ◌==◌, List, [], ◌∷◌, Option, Some, None, is_some, refl, sym, ◌∙◌, ap, inl, inr, arith}
use Rattle.std.proofs.lemmas.Bool.{cases_eq, eq-eqb, ne_eqb}
use Rattle.md_lists.specs.declared.kinds.PlaceKind.{PlaceKind}
use Rattle.md_lists.specs.declared.kinds.PlaceKind.TheVariants.{Leaf}
use Rattle.md_lists.specs.declared.TheConstants.{PLACES}
use Rattle.md_lists.specs.Words.{holds_once}
use Rattle.md_graph.specs.Linked.{times}
use Rattle.md_lists.specs.Links.{Links, kind_at, parent_at, children_at, alive, IsLive, IsBare, AreLinks, with_kind, attached, detached}
use Rattle.md_lists.proofs.LinkLaws.{held, attached_parent, detached_parent, kind-with_kind}
use Rattle.md_cotree.specs.PlaceTrees.{PlaceTree, tip, inner, PlaceTrees, no_more, then, place_of, roots, place_kind, times_in, times_among}
use Rattle.md_cotree.proofs.Frames.{hit, miss}
use Rattle.md_cotree_edit.specs.Counts.{kind_code, kind_in, kind_row, child_in, child_row}
use Rattle.md_cotree_edit.specs.Contexts.{Frame, fill, plug, AreTreesKept}
use Rattle.md_cotree_edit.proofs.Trees.LocalCounts.{cond_no, cond_yes, sum_no, sum_yes, children_none, kinds_none, cond_zero}
use Rattle.md_cotree_edit.proofs.Trees.KeptTrees.{no_times, kept_once, kept_loose}
use Rattle.std.proofs.Math.Nat.{add-zero}

-- c is one time more a child of q
pub record IsLinked (q c : ℕ) (ts us : PlaceTrees) : Type 0 where
  pub places : (p : ℕ) → times_among p us ≡ times_among p ts
  pub kinds : (p : ℕ) → kind_row p us ≡ kind_row p ts
  pub links : (p x : ℕ) → child_row p x us ≡ child_row p x ts + cond (c == x) (cond (q == p) 1 0) 0

shift_times : (fs : List Frame) (p : ℕ) (t s : PlaceTree) → times_in p (plug fs s) + times_in p t ≡ times_in p (plug fs t) + times_in p s
shift_times [] p t s = omega arith
shift_times (f ∷ fs) p t s = let rest = shift_times fs p (fill f t) (fill f s) in omega arith

shift_kinds : (fs : List Frame) (p : ℕ) (t s : PlaceTree) → kind_in p (plug fs s) + kind_in p t ≡ kind_in p (plug fs t) + kind_in p s
shift_kinds [] p t s = omega arith
shift_kinds (f ∷ fs) p t s = sum_up _ _ _ _ _ _ (shift_kinds fs p (fill f t) (fill f s))
  where
    sum_up : (a b root t s rest : ℕ) → a + (root + (t + rest)) ≡ b + (root + (s + rest)) → a + t ≡ b + s
    sum_up a b root t s rest e = omega arith

shift_links : (fs : List Frame) (p c : ℕ) (t s : PlaceTree) → place_of s ≡ place_of t → child_in p c (plug fs s) + child_in p c t ≡ child_in p c (plug fs t) + child_in p c s
shift_links [] p c t s same = omega arith
shift_links (f ∷ fs) p c t s same =
    let rest = shift_links fs p c (fill f t) (fill f s) refl in
    let root : cond (f.place == p) (times c (roots (then s f.others))) 0 ≡ cond (f.place == p) (times c (roots (then t f.others))) 0 = ap (λ z. cond (f.place == p) (cond (z == c) 1 0 + times c (roots f.others)) 0) same in
    omega arith

-- a loose tree becomes the first child of a node
pub linked_plug : (fs : List Frame) (q : ℕ) (k : Bool) (ts us : PlaceTrees) (t : PlaceTree) → IsLinked q (place_of t) (then (plug fs (inner q k ts)) (then t us)) (then (plug fs (inner q k (then t ts))) us)
linked_plug fs q k ts us t = record {
  places = λ p. let e = shift_times fs p (inner q k ts) (inner q k (then t ts)) in omega arith;
  kinds = λ p. sum_up _ _ _ _ _ _ (shift_kinds fs p (inner q k ts) (inner q k (then t ts)));
  links = λ p x. let e = shift_links fs p x (inner q k ts) (inner q k (then t ts)) refl in let r = root p x in omega arith;
}
  where
    sum_up : (a b root t ts us : ℕ) → a + (root + ts) ≡ b + (root + (t + ts)) → a + us ≡ b + (t + us)
    sum_up a b root t ts us e = omega arith

    root : (p x : ℕ) → cond (q == p) (cond (place_of t == x) 1 0 + times x (roots ts)) 0 ≡ cond (q == p) (times x (roots ts)) 0 + cond (place_of t == x) (cond (q == p) 1 0) 0
    root p x = go (q == p) (place_of t == x) (times x (roots ts))
      where
        go : (a b : Bool) (n : ℕ) → ◌≡◌ {A = ℕ} (cond a (cond b 1 0 + n) 0) (cond a n 0 + cond b (cond a 1 0) 0)
        go true true n = omega arith
        go true false n = omega arith
        go false true n = refl
        go false false n = refl

-- a tree of one place, which has this kind, by its number
pub record IsAlone (p code : ℕ) (t : PlaceTree) : Type 0 where
  pub root : place_of t ≡ p
  pub once : (q : ℕ) → times_in q t ≡ cond (p == q) 1 0
  pub kind : (q : ℕ) → kind_in q t ≡ cond (p == q) code 0
  pub links : (q c : ℕ) → child_in q c t ≡ 0

pub tip_alone : (p v : ℕ) → IsAlone p (kind_code (Some (Leaf v))) (tip p v)
tip_alone p v = record { root = refl; once = λ q. refl; kind = λ q. refl; links = λ q c. refl }

pub node_alone : (p : ℕ) (k : Bool) → IsAlone p (kind_code (Some (place_kind k))) (inner p k no_more)
node_alone p k = record {
  root = refl;
  once = λ q. omega arith;
  kind = λ q. add-zero (cond (p == q) (kind_code (Some (place_kind k))) 0);
  links = λ q c. let none = cond_zero (p == q) 0 refl in omega arith;
}

module _ (l : Links) (ok : AreLinks l) where
  pub kept_attached : (q c : ℕ) (ts us : PlaceTrees) → AreTreesKept l ts → IsLive l q → IsLive l c → parent_at l c ≡ None → IsLinked q c ts us → AreTreesKept (attached l q c) us
  kept_attached q c ts us kept live_q live_c loose is = record {
    each = λ p. is.places p ∙ kept.each p;
    kinds = λ p. is.kinds p ∙ kept.kinds p;
    links = λ p x. elim (cases_eq x c) [
      | inl same ↦
          let e = is.links p x in
          let k = kept.links p x in
          let a : holds_once (parent_at l x) p ≡ 0 = ap (λ o. holds_once o p) (ap (parent_at l) same ∙ loose) in
          let b : holds_once (parent_at (attached l q c) x) p ≡ cond (q == p) 1 0 =
          ap (λ o. holds_once o p) (attached_parent l ok q c live_q live_c loose x ∙ ap (λ b. cond b (Some q) (parent_at l x)) (eq-eqb x c same)) in
          let g = cond_yes c x (cond (q == p) 1 0) (sym same) in
          omega arith
      | inr other ↦
          let e = is.links p x in
          let k = kept.links p x in
          let b : holds_once (parent_at (attached l q c) x) p ≡ holds_once (parent_at l x) p =
          ap (λ o. holds_once o p) (attached_parent l ok q c live_q live_c loose x ∙ ap (λ b. cond b (Some q) (parent_at l x)) (ne_eqb x c other)) in
          let g = cond_no c x (cond (q == p) 1 0) (λ e. other (sym e)) in
          omega arith
    ];
  }

  pub linked_parent : (q c : ℕ) (ts us : PlaceTrees) → AreTreesKept l us → IsLinked q c ts us → parent_at l c ≡ Some q
  linked_parent q c ts us kept is =
      held (parent_at l c) q
      (let e = is.links q c in let k = kept.links q c in let a = cond_yes c c (cond (q == q) 1 0) refl in let b = cond_yes q q 1 refl in omega arith)

  pub kept_detached : (q c : ℕ) (ts us : PlaceTrees) → AreTreesKept l us → IsLinked q c ts us → AreTreesKept (detached l q c) ts
  kept_detached q c ts us kept is = record {
    each = λ p. sym (is.places p) ∙ kept.each p;
    kinds = λ p. sym (is.kinds p) ∙ kept.kinds p;
    links = λ p x. elim (cases_eq x c) [
      | inl same ↦
          let e = is.links p x in
          let k = kept.links p x in
          let a : holds_once (parent_at l x) p ≡ cond (q == p) 1 0 = ap (λ o. holds_once o p) (ap (parent_at l) same ∙ parent) in
          let b : holds_once (parent_at (detached l q c) x) p ≡ 0 =
          ap (λ o. holds_once o p) (detached_parent l ok q c parent x ∙ ap (λ b. cond b None (parent_at l x)) (eq-eqb x c same)) in
          let g = cond_yes c x (cond (q == p) 1 0) (sym same) in
          omega arith
      | inr other ↦
          let e = is.links p x in
          let k = kept.links p x in
          let b : holds_once (parent_at (detached l q c) x) p ≡ holds_once (parent_at l x) p =
          ap (λ o. holds_once o p) (detached_parent l ok q c parent x ∙ ap (λ b. cond b None (parent_at l x)) (ne_eqb x c other)) in
          let g = cond_no c x (cond (q == p) 1 0) (λ e. other (sym e)) in
          omega arith
    ];
  }
    where
      parent : parent_at l c ≡ Some q
      parent = linked_parent q c ts us kept is

  -- kinds where a place has another one, or none
  module _ (p : ℕ) (within : p < PLACES) (o : Option PlaceKind) where
    kind_here : (q : ℕ) → q ≡ p → kind_at (with_kind l p o) q ≡ o
    kind_here q same = kind-with_kind l ok p q o within ∙ ap (λ b. cond b o (kind_at l q)) (eq-eqb q p same)

    kind_there : (q : ℕ) → (q ≡ p → ⊥) → kind_at (with_kind l p o) q ≡ kind_at l q
    kind_there q other = kind-with_kind l ok p q o within ∙ ap (λ b. cond b o (kind_at l q)) (ne_eqb q p other)

    alive_here : (q : ℕ) → q ≡ p → alive (with_kind l p o) q ≡ cond (is_some o) 1 0
    alive_here q same = ap (λ (z : Option PlaceKind). cond (is_some z) 1 0) (kind_here q same)

    alive_there : (q : ℕ) → (q ≡ p → ⊥) → alive (with_kind l p o) q ≡ alive l q
    alive_there q other = ap (λ (z : Option PlaceKind). cond (is_some z) 1 0) (kind_there q other)

  -- a tree of one place more
  pub alone_made : (p : ℕ) (kind : PlaceKind) (t : PlaceTree) (ts : PlaceTrees) → IsAlone p (kind_code (Some kind)) t → kind_at l p ≡ None → p < PLACES → AreTreesKept l ts → AreTreesKept (with_kind l p (Some kind)) (then t ts)
  alone_made p kind t ts alone free within kept = record {
    each = λ q. elim (cases_eq q p) [
      | inl same ↦
          let n = alone.once q in
          let e = kept.each q in
          let a : alive l q ≡ 0 = ap (λ (o : Option PlaceKind). cond (is_some o) 1 0) (ap (kind_at l) same ∙ free) in
          let b = alive_here p within (Some kind) q same in
          let h = hit p q (sym same) in
          omega arith
      | inr other ↦
          let n = alone.once q in
          let e = kept.each q in
          let b = alive_there p within (Some kind) q other in
          let m = miss p q (λ z. other (sym z)) in
          omega arith
    ];
    kinds = λ q. elim (cases_eq q p) [
      | inl same ↦
          sum_yes _ _ _ _ (alone.kind q ∙ cond_yes p q (kind_code (Some kind)) (sym same)) (kept.kinds q ∙ ap kind_code (ap (kind_at l) same ∙ free)) (ap kind_code (kind_here p within (Some kind) q same))
      | inr other ↦
          sum_no _ _ _ (alone.kind q ∙ cond_no p q (kind_code (Some kind)) (λ z. other (sym z))) (kept.kinds q ∙ sym (ap kind_code (kind_there p within (Some kind) q other)))
    ];
    links = λ q c. let e = kept.links q c in let none = alone.links q c in omega arith;
  }

  -- a loose tree of one place less
  module _ (p code : ℕ) (t : PlaceTree) (ts : PlaceTrees) (alone : IsAlone p code t) (kept : AreTreesKept l (then t ts)) where
    alone_rest : (q : ℕ) → q ≡ p → times_among q ts ≡ 0
    alone_rest q same = let one = kept_once l (then t ts) kept q in let n = alone.once q in let h = hit p q (sym same) in omega arith

    pub alone_freed : p < PLACES → AreTreesKept (with_kind l p None) ts
    alone_freed within = record {
      each = λ q. elim (cases_eq q p) [
        | inl same ↦ let none = alone_rest q same in let b = alive_here p within None q same in omega arith
        | inr other ↦
            let n = alone.once q in
            let e = kept.each q in
            let b = alive_there p within None q other in
            let m = miss p q (λ z. other (sym z)) in
            omega arith
      ];
      kinds = λ q. elim (cases_eq q p) [
        | inl same ↦ kinds_none q ts (alone_rest q same) ∙ sym (ap kind_code (kind_here p within None q same))
        | inr other ↦ sum_left _ _ _ (alone.kind q ∙ cond_no p q code (λ z. other (sym z))) (kept.kinds q) ∙ sym (ap kind_code (kind_there p within None q other))
      ];
      links = λ q c. let e = kept.links q c in let none = alone.links q c in omega arith;
    }
      where
        sum_left : (a b m : ℕ) → a ≡ 0 → a + b ≡ m → b ≡ m
        sum_left a b m e f = omega arith

    pub alone_bare : l.marked ≡ [] → IsBare l p
    alone_bare unmarked =
        let marks = ok.marks p in
        let none = ap (times p) unmarked in
        record {
          no_parent = ap (parent_at l) (sym alone.root) ∙ kept_loose l t ts kept;
          no_children = no_times (children_at l p) (λ c.
              let e = kept.links p c in
              let a = ok.agree p c in
              let f = alone.links p c in
              let n = children_none p c ts (alone_rest p refl) in
              omega arith);
          no_tally = omega arith;
          no_note = omega arith;
        }

  -- a node without children
  pub kept_made : (p : ℕ) (k : Bool) (ts : PlaceTrees) → kind_at l p ≡ None → p < PLACES → AreTreesKept l ts → AreTreesKept (with_kind l p (Some (place_kind k))) (then (inner p k no_more) ts)
  kept_made p k ts = alone_made p (place_kind k) (inner p k no_more) ts (node_alone p k)

  pub kept_freed : (p : ℕ) (k : Bool) (ts : PlaceTrees) → p < PLACES → AreTreesKept l (then (inner p k no_more) ts) → AreTreesKept (with_kind l p None) ts
  kept_freed p k ts within kept = alone_freed p (kind_code (Some (place_kind k))) (inner p k no_more) ts (node_alone p k) kept within

  pub kept_bare : (p : ℕ) (k : Bool) (ts : PlaceTrees) → l.marked ≡ [] → AreTreesKept l (then (inner p k no_more) ts) → IsBare l p
  kept_bare p k ts unmarked kept = alone_bare p (kind_code (Some (place_kind k))) (inner p k no_more) ts (node_alone p k) kept unmarked

  -- a root of another kind
  pub kept_turned : (p : ℕ) (k j : Bool) (ts us : PlaceTrees) → p < PLACES → AreTreesKept l (then (inner p k ts) us) → AreTreesKept (with_kind l p (Some (place_kind j))) (then (inner p j ts) us)
  kept_turned p k j ts us within kept = record {
    each = λ q. elim (cases_eq q p) [
      | inl same ↦
          let one = kept_once l (then (inner p k ts) us) kept q in
          let b = alive_here p within (Some (place_kind j)) q same in
          let h = hit p q (sym same) in
          omega arith
      | inr other ↦
          kept.each q ∙ sym (alive_there p within (Some (place_kind j)) q other)
    ];
    kinds = λ q. elim (cases_eq q p) [
      | inl same ↦
          let one = kept_once l (then (inner p k ts) us) kept q in
          let h = hit p q (sym same) in
          sum_here _ _ _ _ _ (cond_yes p q (kind_code (Some (place_kind j))) (sym same)) (kinds_none q ts (omega arith)) (kinds_none q us (omega arith)) (ap kind_code (kind_here p within (Some (place_kind j)) q same))
      | inr other ↦
          sum_there _ _ _ _ _ (cond_no p q (kind_code (Some (place_kind j))) (λ z. other (sym z))) (cond_no p q (kind_code (Some (place_kind k))) (λ z. other (sym z))) (kept.kinds q ∙ sym (ap kind_code (kind_there p within (Some (place_kind j)) q other)))
    ];
    links = kept.links;
  }
    where
      sum_here : (a b c n m : ℕ) → a ≡ n → b ≡ 0 → c ≡ 0 → m ≡ n → (a + b) + c ≡ m
      sum_here a b c n m e f g h = omega arith

      sum_there : (a z b c m : ℕ) → a ≡ 0 → z ≡ 0 → (z + b) + c ≡ m → (a + b) + c ≡ m
      sum_there a z b c m e f g = omega arith
