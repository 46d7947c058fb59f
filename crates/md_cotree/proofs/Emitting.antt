-- The places of a tree, listed: each before those below it, the children from the last to the first.
use Rattle.std.proofs.Common.{◌≡◌, ℕ, ◌+◌, ◌<◌, ◌≤◌, Bool, true, false, cond, List, [], ◌∷◌, ◌++◌, length, map, Option, Some, None, is_some, refl, sym, ◌∙◌, ap, subst, arith, append_assoc, append-nil, length-append}
use Rattle.std.specs.Prelude.{⊤}
use Rattle.std.proofs.lemmas.Bool.{eq-eqb, ne_eqb}
use Rattle.std.proofs.lemmas.List.{map-append, length-map}
use Rattle.md_lists.specs.declared.TheConstants.{PLACES}
use Rattle.md_lists.specs.Words.{behind}
use Rattle.md_graph.specs.Linked.{first_or, times}
use Rattle.md_lists.specs.Links.{Links, parent_at, children_at, IsLive, AreLinks, siblings}
use Rattle.md_lists.proofs.ListLaws.{times-append, times-first}
use Rattle.md_lists.proofs.LinkLaws.{child_once, child_parent, few_children}
use Rattle.md_tree.specs.Trees.{row, count}
use Rattle.md_tree.specs.Parts.{inner as inner_part, parts_of, parts_backward}
use Rattle.md_cotree.specs.PlaceTrees.{PlaceTree, tip, inner, PlaceTrees, no_more, then, place_of, roots, place_kind, kind_of, node_count, shape, shapes, Stands, StandsBelow}
use Rattle.md_cotree.specs.Forests.{row_append, shape_list}
use Rattle.md_cotree.specs.Orders.{AllLive, part_of_kind, part_at}
use Rattle.md_cotree.proofs.Rows.{roots-joined, shape_list-joined, row_shapes, length_roots}
use Rattle.md_cotree.proofs.Rooted.{node_parts, count_shapes}
use Rattle.md_tree.proofs.Listing.{backward-append}

-- ---- the children of a place

pub record IsWalk (kids start now : List ℕ) (next : Option ℕ) : Type 0 where
  pub done : List ℕ
  pub left : List ℕ
  pub whole : kids ≡ done ++ left
  pub reached : now ≡ start ++ done
  pub at : next ≡ first_or left None

pub walk_begin : (kids start : List ℕ) (next : Option ℕ) → next ≡ first_or kids None → IsWalk kids start start next
walk_begin kids start next is = record { done = []; left = kids; whole = refl; reached = sym (append-nil start); at = is }

pub behind_front : (c : ℕ) (done left : List ℕ) → times c done ≡ 0 → behind c (done ++ c ∷ left) ≡ first_or left None
behind_front c [] left none = ap (λ b. cond b (first_or left None) (behind c left)) (eq-eqb c c refl)
behind_front c (x ∷ done) left none =
    ap (λ b. cond b (first_or (done ++ c ∷ left) None) (behind c (done ++ c ∷ left))) (ne_eqb x c (λ e. let one = times-first c done in let f = ap (λ z. times c (z ∷ done)) e in omega arith))
    ∙ behind_front c done left (omega arith)

-- the child at which the walk stands
pub record IsAt (l : Links) (place child : ℕ) : Type 0 where
  pub some : 0 < times child (children_at l place)
  pub parent : parent_at l child ≡ Some place

module _ (l : Links) (ok : AreLinks l) (place child : ℕ) (start now : List ℕ) where
  pub walk_at : IsWalk (children_at l place) start now (Some child) → IsAt l place child
  walk_at walk = go walk.left walk.whole walk.at
    where
      go : (left : List ℕ) → children_at l place ≡ walk.done ++ left → Some child ≡ first_or left None → IsAt l place child
      go [] whole at = absurd cc
      go (x ∷ left) whole at =
          let same : child ≡ x = cc in
          let some : 0 < times child (children_at l place) =
          let e = ap (times child) whole in let a = times-append child walk.done (x ∷ left) in let one = times-first child left in let f = ap (λ z. times child (z ∷ left)) same in omega arith in
          record { some = some; parent = child_parent l ok place child some }

  pub walk_more : (more : List ℕ) (next : Option ℕ) → IsWalk (children_at l place) start now (Some child) → more ≡ now ++ child ∷ [] → next ≡ behind child (siblings l (parent_at l child)) →
      IsWalk (children_at l place) start more next
  walk_more more next walk push is = go walk.left walk.whole walk.at
    where
      go : (left : List ℕ) → children_at l place ≡ walk.done ++ left → Some child ≡ first_or left None → IsWalk (children_at l place) start more next
      go [] whole at = absurd cc
      go (x ∷ left) whole at =
          let same : child ≡ x = cc in
          let all : children_at l place ≡ walk.done ++ child ∷ left = whole ∙ ap (λ z. walk.done ++ z ∷ left) (sym same) in
          let once = child_once l ok place child in
          let none : times child walk.done ≡ 0 = let e = ap (times child) all in let a = times-append child walk.done (child ∷ left) in let one = times-first child left in omega arith in
          record {
            done = walk.done ++ child ∷ [];
            left = left;
            whole = all ∙ sym (append_assoc walk.done (child ∷ []) left);
            reached = push ∙ ap (λ xs. xs ++ child ∷ []) walk.reached ∙ append_assoc start walk.done (child ∷ []);
            at = is ∙ ap (λ o. behind child (siblings l o)) (walk_at walk).parent ∙ ap (behind child) all ∙ behind_front child walk.done left none;
          }

  pub walk_room : IsWalk (children_at l place) start now (Some child) → length now < PLACES + length start
  walk_room walk = go walk.left walk.whole walk.at
    where
      go : (left : List ℕ) → children_at l place ≡ walk.done ++ left → Some child ≡ first_or left None → length now < PLACES + length start
      go [] whole at = absurd cc
      go (x ∷ left) whole at =
          let e = ap length whole in let a = length-append walk.done (x ∷ left) in let f = ap length walk.reached in let b = length-append start walk.done in let low = few_children l ok place in
          omega arith

pub walk_end : (kids start now : List ℕ) (next : Option ℕ) → next ≡ None → IsWalk kids start now next → now ≡ start ++ kids
walk_end kids start now next none walk = go walk.left walk.whole walk.at
  where
    go : (left : List ℕ) → kids ≡ walk.done ++ left → next ≡ first_or left None → now ≡ start ++ kids
    go [] whole at = walk.reached ∙ ap (λ xs. start ++ xs) (sym (whole ∙ append-nil walk.done))
    go (x ∷ left) whole at = absurd (let bad : None ≡ Some x = sym none ∙ at in cc)

-- ---- the trees that wait

abbrev pub AllStand : Links → PlaceTrees → Type 0
AllStand l no_more = ⊤
AllStand l (then t ts) = Stands l t × AllStand l ts

stand_below : (l : Links) (q : ℕ) (ts : PlaceTrees) → StandsBelow l q ts → AllStand l ts
stand_below l q no_more is = tt
stand_below l q (then t ts) is = (is.1, stand_below l q ts is.2)

stand_both : (l : Links) (ts us : PlaceTrees) → AllStand l ts → AllStand l us → AllStand l (row_append ts us)
stand_both l no_more us a b = b
stand_both l (then t ts) us a b = (a.0, stand_both l ts us a.1 b)

-- a row with a last tree
pub record Last (l : Links) (ws : PlaceTrees) (before : List ℕ) (place : ℕ) : Type 0 where
  pub front : PlaceTrees
  pub tree : PlaceTree
  pub whole : ws ≡ row_append front (then tree no_more)
  pub places : roots front ≡ before
  pub at : place_of tree ≡ place
  pub stands : Stands l tree
  pub rest : AllStand l front

cut_last : (l : Links) (ws : PlaceTrees) (before : List ℕ) (place : ℕ) → roots ws ≡ before ++ place ∷ [] → AllStand l ws → Last l ws before place
cut_last l no_more [] place e all = absurd cc
cut_last l no_more (b ∷ before) place e all = absurd cc
cut_last l (then t no_more) [] place e all = record { front = no_more; tree = t; whole = refl; places = refl; at = cc; stands = all.0; rest = tt }
cut_last l (then t (then u us)) [] place e all = absurd cc
cut_last l (then t ws) (b ∷ before) place e all =
    let rest : roots ws ≡ before ++ place ∷ [] = cc in
    let first : place_of t ≡ b = cc in
    let cut = cut_last l ws before place rest all.1 in
    record {
      front = then t cut.front;
      tree = cut.tree;
      whole = ap (then t) cut.whole;
      places = λ i. first i ∷ cut.places i;
      at = cut.at;
      stands = cut.stands;
      rest = (all.0, cut.rest);
    }

-- the children of a place, and its part
abbrev kids : PlaceTree → PlaceTrees
kids (tip p v) = no_more
kids (inner p k ts) = ts

tree_part : (l : Links) (t : PlaceTree) → Stands l t → parts_of (shape t) ≡ part_at l (place_of t) ∷ parts_backward (shapes (kids t))
tree_part l (tip p v) is = ap (λ o. part_of_kind o (length (children_at l p)) ∷ []) (sym is.0)
tree_part l (inner p k ts) is =
    ap (λ p. p ∷ parts_backward (shapes ts))
    (part_kind k (count (shapes ts)) (length (children_at l p)) (count_shapes ts ∙ sym (length_roots ts) ∙ ap length (sym is.1))
    ∙ ap (λ o. part_of_kind o (length (children_at l p))) (sym is.0))
  where
    part_kind : (k : Bool) (n m : ℕ) → n ≡ m → inner_part (kind_of k) n [] ≡ part_of_kind (Some (place_kind k)) m
    part_kind true n m e = ap (λ z. inner_part (kind_of true) z []) e
    part_kind false n m e = ap (λ z. inner_part (kind_of false) z []) e

kids_at : (l : Links) (t : PlaceTree) → Stands l t → children_at l (place_of t) ≡ roots (kids t)
kids_at l (tip p v) is = is.1
kids_at l (inner p k ts) is = is.1

kids_stand : (l : Links) (t : PlaceTree) → Stands l t → AllStand l (kids t)
kids_stand l (tip p v) is = tt
kids_stand l (inner p k ts) is = stand_below l p ts is.2

tree_live : (l : Links) (t : PlaceTree) → Stands l t → IsLive l (place_of t)
tree_live l (tip p v) is = ap is_some is.0
tree_live l (inner p k ts) is = ap is_some is.0

backward_joined : (ts us : PlaceTrees) → parts_backward (shapes (row_append ts us)) ≡ parts_backward (shapes us) ++ parts_backward (shapes ts)
backward_joined ts us =
    ap parts_backward (sym (row_shapes (row_append ts us))) ∙ ap (λ l. parts_backward (row l)) (shape_list-joined ts us) ∙ backward-append (shape_list ts) (shape_list us)
    ∙ (λ i. parts_backward (row_shapes us i) ++ parts_backward (row_shapes ts i))

-- the parts of the places that are listed, and those of the trees that wait, are those of the tree
pub record IsEmission (l : Links) (t : PlaceTree) (places waiting : List ℕ) : Type 0 where
  pub trees : PlaceTrees
  pub all : AllStand l trees
  pub on : roots trees ≡ waiting
  pub whole : map (part_at l) places ++ parts_backward (shapes trees) ≡ parts_of (shape t)

pub emission_begin : (l : Links) (t : PlaceTree) (root : ℕ) (places waiting : List ℕ) → Stands l t → place_of t ≡ root → places ≡ [] → waiting ≡ root ∷ [] → IsEmission l t places waiting
emission_begin l t root places waiting is at none one = record {
  trees = then t no_more;
  all = (is, tt);
  on = ap (λ p. p ∷ []) at ∙ sym one;
  whole = ap (λ ps. map (part_at l) ps ++ parts_of (shape t)) none;
}

module _ (l : Links) (t : PlaceTree) (places waiting popped : List ℕ) (place : ℕ) (pop : waiting ≡ popped ++ place ∷ []) (so : IsEmission l t places waiting) where
  last : Last l so.trees popped place
  last = cut_last l so.trees popped place (so.on ∙ pop) so.all

  pub emission_live : IsLive l place
  emission_live = subst (IsLive l) last.at (tree_live l last.tree last.stands)

  pub emission_more : (listed more : List ℕ) → listed ≡ places ++ place ∷ [] → more ≡ popped ++ children_at l place → IsEmission l t listed more
  emission_more listed more push below = record {
    trees = row_append last.front (kids last.tree);
    all = stand_both l last.front (kids last.tree) last.rest (kids_stand l last.tree last.stands);
    on =
        roots-joined last.front (kids last.tree)
        ∙ (λ i. last.places i ++ (sym (kids_at l last.tree last.stands) ∙ ap (children_at l) last.at) i) ∙ sym below;
    whole =
        ap (λ ps. map (part_at l) ps ++ parts_backward (shapes (row_append last.front (kids last.tree)))) push
        ∙ ap (λ xs. xs ++ parts_backward (shapes (row_append last.front (kids last.tree)))) (map-append (part_at l) places (place ∷ []))
        ∙ append_assoc (map (part_at l) places) (part_at l place ∷ []) (parts_backward (shapes (row_append last.front (kids last.tree))))
        ∙ ap (λ xs. map (part_at l) places ++ part_at l place ∷ xs) (backward_joined last.front (kids last.tree))
        ∙ ap (λ p. map (part_at l) places ++ part_at l p ∷ (parts_backward (shapes (kids last.tree)) ++ parts_backward (shapes last.front))) (sym last.at)
        ∙ ap (λ xs. map (part_at l) places ++ (xs ++ parts_backward (shapes last.front))) (sym (tree_part l last.tree last.stands))
        ∙ ap (λ xs. map (part_at l) places ++ xs) (sym (backward_joined last.front (then last.tree no_more)))
        ∙ ap (λ ts. map (part_at l) places ++ parts_backward (shapes ts)) (sym last.whole) ∙ so.whole;
  }

pub emission_few : (l : Links) (t : PlaceTree) (places waiting : List ℕ) → node_count t ≤ PLACES → IsEmission l t places waiting → length places ≤ PLACES
emission_few l t places waiting few so =
    let e = ap length so.whole in
    let a = length-append (map (part_at l) places) (parts_backward (shapes so.trees)) in
    let b = length-map places (part_at l) in
    let n = node_parts t in
    omega arith

pub emission_end : (l : Links) (t : PlaceTree) (places waiting : List ℕ) → waiting ≡ [] → IsEmission l t places waiting → map (part_at l) places ≡ parts_of (shape t)
emission_end l t places waiting none so = go so.trees (so.on ∙ none) so.whole
  where
    go : (ts : PlaceTrees) → roots ts ≡ [] → map (part_at l) places ++ parts_backward (shapes ts) ≡ parts_of (shape t) → map (part_at l) places ≡ parts_of (shape t)
    go no_more e w = sym (append-nil (map (part_at l) places)) ∙ w
    go (then u us) e w = absurd cc

pub live_push : (l : Links) (ps qs : List ℕ) (p : ℕ) → qs ≡ ps ++ p ∷ [] → AllLive l ps → IsLive l p → AllLive l qs
live_push l ps qs p e all one = subst (AllLive l) (sym e) (go ps all)
  where
    go : (xs : List ℕ) → AllLive l xs → AllLive l (xs ++ p ∷ [])
    go [] all = (one, tt)
    go (x ∷ xs) all = (all.0, go xs all.1)

pub live_pop : (l : Links) (ps qs : List ℕ) (p : ℕ) → qs ≡ ps ++ p ∷ [] → AllLive l qs → IsLive l p × AllLive l ps
live_pop l ps qs p e all = go ps (subst (AllLive l) e all)
  where
    go : (xs : List ℕ) → AllLive l (xs ++ p ∷ []) → IsLive l p × AllLive l xs
    go [] all = (all.0, tt)
    go (x ∷ xs) all = let rest = go xs all.1 in (rest.0, (all.0, rest.1))
