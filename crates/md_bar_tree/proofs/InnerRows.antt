-- One part more of an outline, in which the inner children of each node are counted.
use Rattle.std.proofs.Common.{◌≡◌, ◌↔◌, ℕ, true, List, [], ◌∷◌, ◌++◌, Option, Some, None, append_assoc, append-nil, refl, sym, ◌∙◌, ap, subst}
use Rattle.std.proofs.lemmas.List.{same_from_push}
use Rattle.md_tree.specs.declared.Kind.{Kind}
use Rattle.md_tree.specs.Trees.{PlainTree, leaf, node, PlainTrees, no_tree, one_more, count}
use Rattle.md_tree.proofs.Leaving.{no_snoc}
use Rattle.md_outline.specs.declared.outline.OutlinePart.{OutlinePart}
use Rattle.md_outline.specs.declared.outline.OutlinePart.TheVariants.{Name, Node}
use Rattle.md_outline.specs.Outlines.{outline_of, row_outline, outline_option}
use Rattle.md_bar_tree.specs.declared.Class.{Class}
use Rattle.md_bar_tree.specs.Inner.{IsInnerTree, HasOneInner, IsNarrow, HasFewInner, HaveFewInner, HasFewInnerIn}
use Rattle.md_bar_tree.proofs.BarLaw.{one_of_leaves}
use Rattle.md_bar_tree.specs.declared.few_inner.InnerRoom.{InnerRoom}
use Rattle.md_bar_tree.specs.declared.few_inner.InnerRoom.TheVariants.{Any, One, NoMore}
use Rattle.md_bar_tree.specs.declared.few_inner.Row.{Row}
use Rattle.md_bar_tree.specs.InnerRows.{MayBe, MayBeIn, ComingRow, kept_row, kept_rows, with_row, rows_left, HaveInnerRoom, AreComing}

-- ---- the end of an outline

no_outline : (t : PlainTree) (l : List (OutlinePart Kind)) → [] ≡ outline_of t ++ l → ⊥
no_outline (leaf w) l f = let g : [] ≡ Name w ∷ l = f in cc
no_outline (node k cs ps) l f = let g : [] ≡ Node k (count cs) ∷ (row_outline cs ++ l) = f in cc

-- ---- how many may be inner

pub none_behind : (t : PlainTree) (ts : PlainTrees) → IsInnerTree t → MayBe One (one_more t ts) ↔ MayBeIn (Some NoMore) ts
none_behind t ts is = ((λ h. h.0 is), λ h. ((λ _. h), one_of_leaves ts h))

-- ---- a row of trees is put

abbrev put_row : InnerRoom → PlainTrees → List ComingRow → List ComingRow
put_row room no_tree rs = rs
put_row room (one_more t ts) rs = record { room = room; next = t; others = ts } ∷ rs

put_kept : (room : InnerRoom) (cs : PlainTrees) (rs : List ComingRow) (kept : List Row) → kept ≡ kept_rows rs → with_row kept room (count cs) ≡ kept_rows (put_row room cs rs)
put_kept room no_tree rs kept are = are
put_kept room (one_more t ts) rs kept are = ap (λ l. l ++ record { room = room; behind = count ts } ∷ []) are

put_left : (room : InnerRoom) (cs : PlainTrees) (rs : List ComingRow) → rows_left (put_row room cs rs) ≡ row_outline cs ++ rows_left rs
put_left room no_tree rs = refl
put_left room (one_more t ts) rs = sym (append_assoc (outline_of t) (row_outline ts) (rows_left rs))

may_none : (room : InnerRoom) → MayBe room no_tree
may_none Any = tt
may_none One = tt
may_none NoMore = tt

put_room : (class : Class) (room : InnerRoom) (cs : PlainTrees) (rs : List ComingRow) → HaveInnerRoom class (put_row room cs rs) ↔ (MayBe room cs × HaveFewInner class cs × HaveInnerRoom class rs)
put_room class room no_tree rs = ((λ h. (may_none room, tt, h)), λ h. h.2)
put_room class room (one_more t ts) rs = ((λ h. h), λ h. h)

leaf_may : (room : InnerRoom) (v : ℕ) (ts : PlainTrees) → MayBe room ts ↔ MayBe room (one_more (leaf v) ts)
leaf_may Any v ts = ((λ h. h), λ h. h)
leaf_may One v ts = ((λ h. ((λ is. absurd is), h)), λ h. h.1)
leaf_may NoMore v ts = ((λ h. ((λ is. is), h)), λ h. h.1)

-- ---- the next part is taken

module _ (class : Class) (t : PlainTree) (others : List (OutlinePart Kind)) (kept : List Row) where
  pub none_kept : (part : OutlinePart Kind) → kept ≡ [] → AreComing class t (part ∷ others) kept → ⊥
  none_kept part none coming = by_rows coming.rows coming.kept_are coming.parts_are
    where
      by_rows : (rows : List ComingRow) → kept ≡ kept_rows rows → part ∷ others ≡ rows_left rows → ⊥
      by_rows [] kept_are parts_are = let f : part ∷ others ≡ [] = parts_are in cc
      by_rows (r ∷ rs) kept_are parts_are = no_snoc (kept_rows rs) (kept_row r) (sym none ∙ kept_are)

  module _ (front : List Row) (row : Row) (cut : kept ≡ front ++ row ∷ []) where
    -- what the last row is
    record IsLast (part : OutlinePart Kind) : Type 0 where
      room : InnerRoom
      next : PlainTree
      behind : PlainTrees
      outer : List ComingRow
      row_is : row ≡ record { room = room; behind = count behind }
      front_are : front ≡ kept_rows outer
      parts_are : part ∷ others ≡ outline_of next ++ (row_outline behind ++ rows_left outer)
      same : (MayBe room (one_more next behind) × HaveFewInner class (one_more next behind) × HaveInnerRoom class outer) ↔ HasFewInner class t

    last_row : (part : OutlinePart Kind) → AreComing class t (part ∷ others) kept → IsLast part
    last_row part coming = by_rows coming.rows coming.kept_are coming.parts_are coming.same
      where
        by_rows : (rows : List ComingRow) → kept ≡ kept_rows rows → part ∷ others ≡ rows_left rows → HaveInnerRoom class rows ↔ HasFewInner class t → IsLast part
        by_rows [] kept_are parts_are same = let f : part ∷ others ≡ [] = parts_are in absurd (cc)
        by_rows (r ∷ rs) kept_are parts_are same =
            let ends : (front ≡ kept_rows rs) × (row ≡ kept_row r) = same_from_push front (kept_rows rs) row (kept_row r) (sym cut ∙ kept_are) in
            record {
              room = r.room;
              next = r.next;
              behind = r.others;
              outer = rs;
              row_is = ends.1;
              front_are = ends.0;
              parts_are = parts_are;
              same = same;
            }

    pub name_taken : (v : ℕ) (next : List Row) → next ≡ with_row front row.room row.behind → AreComing class t (Name v ∷ others) kept → AreComing class t others next
    name_taken v next put coming = by_next last.next last.parts_are last.same
      where
        last : IsLast (Name v)
        last = last_row (Name v) coming

        by_next : (u : PlainTree) → Name v ∷ others ≡ outline_of u ++ (row_outline last.behind ++ rows_left last.outer) →
            (MayBe last.room (one_more u last.behind) × HaveFewInner class (one_more u last.behind) × HaveInnerRoom class last.outer) ↔ HasFewInner class t → AreComing class t others next
        by_next (leaf w) parts_are same =
            let rest : others ≡ row_outline last.behind ++ rows_left last.outer = cc in
            let put_is = put_room class last.room last.behind last.outer in
            let may = leaf_may last.room w last.behind in
            record {
              rows = put_row last.room last.behind last.outer;
              kept_are = put ∙ ap (λ (o : Row). with_row front o.room o.behind) last.row_is ∙ put_kept last.room last.behind last.outer front last.front_are;
              parts_are = rest ∙ sym (put_left last.room last.behind last.outer);
              same = (
                (λ h. let a = put_is.0 h in same.0 (may.0 a.0, (tt, a.1), a.2)),
                λ h. let a = same.1 h in put_is.1 (may.1 a.0, a.1.1, a.2),
              );
            }
        by_next (node k cs ps) parts_are same = let f : Name v ≡ Node k (count cs) = cc in absurd (cc)

    module _ (k : Kind) (n : ℕ) where
      pub node_taken : (room first : InnerRoom) (mid next : List Row) → ((u : PlainTree) (ts : PlainTrees) → IsInnerTree u → MayBe row.room (one_more u ts) ↔ MayBe room ts) →
          ((cs : PlainTrees) → MayBe first cs ↔ (IsNarrow class k → HasOneInner cs)) → mid ≡ with_row front room row.behind → next ≡ with_row mid first n → AreComing class t (Node k n ∷ others) kept → AreComing class t others next
      node_taken room first mid next inner below put_mid put coming = by_next last.next last.parts_are last.same
        where
          last : IsLast (Node k n)
          last = last_row (Node k n) coming

          by_next : (u : PlainTree) → Node k n ∷ others ≡ outline_of u ++ (row_outline last.behind ++ rows_left last.outer) →
              (MayBe last.room (one_more u last.behind) × HaveFewInner class (one_more u last.behind) × HaveInnerRoom class last.outer) ↔ HasFewInner class t → AreComing class t others next
          by_next (leaf w) parts_are same = let f : Node k n ≡ Name w = cc in absurd (cc)
          by_next (node l cs ps) parts_are same =
              let kind : k ≡ l = cc in
              let size : n ≡ count cs = cc in
              let rest : others ≡ row_outline cs ++ (row_outline last.behind ++ rows_left last.outer) = cc in
              let outer = put_row room last.behind last.outer in
              let outer_kept : mid ≡ kept_rows outer = put_mid ∙ ap (λ (o : Row). with_row front room o.behind) last.row_is ∙ put_kept room last.behind last.outer front last.front_are in
              let puts = put_room class first cs outer in
              let outer_puts = put_room class room last.behind last.outer in
              let may : MayBe last.room (one_more (node l cs ps) last.behind) ↔ MayBe room last.behind =
              subst (λ (o : Row). MayBe o.room (one_more (node l cs ps) last.behind) ↔ MayBe room last.behind) last.row_is (inner (node l cs ps) last.behind tt) in
              let one : MayBe first cs ↔ (IsNarrow class l → HasOneInner cs) = subst (λ m. MayBe first cs ↔ (IsNarrow class m → HasOneInner cs)) kind (below cs) in
              record {
                rows = put_row first cs outer;
                kept_are = put ∙ ap (with_row mid first) size ∙ put_kept first cs outer mid outer_kept;
                parts_are = rest ∙ ap (λ l. row_outline cs ++ l) (sym (put_left room last.behind last.outer)) ∙ sym (put_left first cs outer);
                same = (
                  (λ h. let a = puts.0 h in let b = outer_puts.0 a.2 in same.0 (may.1 b.0, ((one.0 a.0, a.1), b.1), b.2)),
                  λ h. let a = same.1 h in puts.1 (one.1 a.1.0.0, a.1.0.1, outer_puts.1 (may.0 a.0, a.1.1, a.2)),
                );
              }

      pub node_refused : ((u : PlainTree) (ts : PlainTrees) → IsInnerTree u → MayBe row.room (one_more u ts) ↔ ⊥) → AreComing class t (Node k n ∷ others) kept → ¬ (HasFewInner class t)
      node_refused inner coming few = by_next last.next last.parts_are last.same
        where
          last : IsLast (Node k n)
          last = last_row (Node k n) coming

          by_next : (u : PlainTree) → Node k n ∷ others ≡ outline_of u ++ (row_outline last.behind ++ rows_left last.outer) →
              (MayBe last.room (one_more u last.behind) × HaveFewInner class (one_more u last.behind) × HaveInnerRoom class last.outer) ↔ HasFewInner class t → ⊥
          by_next (leaf w) parts_are same = let f : Node k n ≡ Name w = cc in absurd (cc)
          by_next (node l cs ps) parts_are same =
              (inner (node l cs ps) last.behind tt).0 (subst (λ (o : Row). MayBe o.room (one_more (node l cs ps) last.behind)) (sym last.row_is) (same.1 few).0)

-- ---- the first part, and the last

pub first_coming : (class : Class) (t : PlainTree) (parts : List (OutlinePart Kind)) (kept : List Row) → parts ≡ outline_of t → kept ≡ with_row [] Any 1 → AreComing class t parts kept
first_coming class t parts kept are put = record {
  rows = record { room = Any; next = t; others = no_tree } ∷ [];
  kept_are = put;
  parts_are = are ∙ sym (append-nil (outline_of t));
  same = ((λ h. h.1.0), λ few. (tt, (few, tt), tt));
}

few_of_none : (class : Class) (t : PlainTree) (kept : List Row) → AreComing class t [] kept → HasFewInner class t
few_of_none class t kept coming = by_rows coming.rows coming.parts_are coming.same
  where
    by_rows : (rows : List ComingRow) → [] ≡ rows_left rows → HaveInnerRoom class rows ↔ HasFewInner class t → HasFewInner class t
    by_rows [] parts_are same = same.0 tt
    by_rows (r ∷ rs) parts_are same = absurd (no_outline r.next (row_outline r.others ++ rows_left rs) parts_are)

pub all_taken : (class : Class) (parts : List (OutlinePart Kind)) (o : Option PlainTree) → parts ≡ outline_option o → (kept : List Row) → ((t : PlainTree) → parts ≡ outline_of t → AreComing class t [] kept) → (true ≡ true) ↔ HasFewInnerIn class o
all_taken class parts None are kept coming = ((λ _. tt), λ _. refl)
all_taken class parts (Some t) are kept coming = ((λ _. few_of_none class t kept (coming t are)), λ _. refl)
