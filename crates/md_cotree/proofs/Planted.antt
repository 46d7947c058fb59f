-- The loose trees that the parts of an outline have become: their outlines, one behind the other, are the parts that were read.
use Rattle.std.proofs.Common.{◌≡◌, ℕ, ◌+◌, ◌-◌, ◌*◌, ◌<◌, ◌≤◌, ◌^◌, Bool, true, false, cond, ◌&&◌, ◌==◌, List, [], ◌∷◌, ◌++◌, length, get_or, take, drop, reverse, Option, Some, None, refl, sym, ◌∙◌, ap, subst, arith, length-append}
use Rattle.std.proofs.lemmas.List.{take-append-drop, at_drop_more, drop_all, same_from_push}
use Rattle.std.specs.List.{All}
use Rattle.std.specs.Prelude.{vec_items}
use Rattle.std.specs.Option.{option_map, option_to_list}
use Rattle.md_graph.specs.declared.TheConstants.{NAMES}
use Rattle.md_graph.specs.PlainGraph.{empty_graph}
use Rattle.md_graph.specs.Sets.{Has, HasSome}
use Rattle.md_graph.proofs.SetLemmas.{clash, only_has, union_left, empty_lacks}
use Rattle.md_lists.specs.declared.TheConstants.{PLACES}
use Rattle.md_lists.specs.Words.{holds_once}
use Rattle.md_graph.specs.Linked.{times}
use Rattle.md_lists.specs.Links.{Links, AreLinks}
use Rattle.md_lists.proofs.LinkLaws.{holds-once-same}
use Rattle.md_tree.specs.declared.Kind.{Kind}
use Rattle.md_tree.specs.Trees.{PlainTree, names, names_below, row, EachNodeBelow}
use Rattle.md_tree.specs.NoPrimes.{HasNoPrime}
use Rattle.md_tree.specs.TreeGraph.{graph_of_tree}
use Rattle.md_tree.specs.WellFormed.{NoneOfKind, IsCanonicalNode, IsCanonicalTree, IsWellFormed}
use Rattle.md_tree.proofs.Spelled.{plain_two}
use Rattle.md_outline.specs.declared.outline.OutlinePart.{OutlinePart}
use Rattle.md_outline.specs.declared.outline.OutlinePart.TheVariants.{Name, Node}
use Rattle.md_outline.specs.Outlines.{outline_of, row_outline, outline_option}
use Rattle.md_outline.specs.OutlineParts.{IsNoPrimePart}
use Rattle.md_outline.proofs.NoPrimeParts.{no_prime_parts}
use Rattle.md_cotree.specs.declared.cotree.Cotree.{Cotree}
use Rattle.md_cotree.specs.PlaceTrees.{PlaceTree, tip, inner, PlaceTrees, no_more, then, place_of, roots, kind_of, leaves_in, leaves_among, node_count, node_counts, NoneInner, Alternates, AllAlternate, shape, shapes, FillsLists}
use Rattle.md_cotree.specs.Forests.{shape_list, IsForest, IsReady, with_outline_part, HasTreesFor}
use Rattle.md_cotree.specs.Cotrees.{AreEntries, root_row, IsKeptAs, Denotes}
use Rattle.md_cotree.proofs.Cographs.{plain_shape}
use Rattle.md_cotree.proofs.Rows.{row_shapes}
use Rattle.md_cotree.proofs.Rooted.{count_shapes}
use Rattle.md_cotree.proofs.Frames.{hit}
use Rattle.md_cotree.proofs.NoPaths.{kind_not_prime}
use Rattle.md_cotree.proofs.Naming.{named, times-named, name_has, name_once, few_names, few_parts}
use Rattle.md_cotree.proofs.OutlineTrees.{trees_told, FindTrees, find_all, find_rest, told_all, outline_told}

-- ---- the trees and their outlines

mutual
  leaf_told : (t : PlaceTree) (p v : ℕ) → leaves_in p v t ≤ times v (named (outline_of (shape t)))
  leaf_told (tip q w) p v = go (q == p) (w == v)
    where
      go : (a b : Bool) → cond (a && b) 1 0 ≤ cond b 1 0 + 0
      go true b = omega arith
      go false true = omega arith
      go false false = omega arith
  leaf_told (inner q k ts) p v = leaves_told ts p v

  leaves_told : (ts : PlaceTrees) (p v : ℕ) → leaves_among p v ts ≤ times v (named (row_outline (shapes ts)))
  leaves_told no_more p v = omega arith
  leaves_told (then t ts) p v =
      let first = leaf_told t p v in
      let rest = leaves_told ts p v in
      let e = times-named v (outline_of (shape t)) (row_outline (shapes ts)) in
      omega arith

mutual
  node_outline : (t : PlaceTree) → node_count t ≡ length (outline_of (shape t))
  node_outline (tip p v) = refl
  node_outline (inner p k ts) = let rest = nodes_outline ts in omega arith

  nodes_outline : (ts : PlaceTrees) → node_counts ts ≡ length (row_outline (shapes ts))
  nodes_outline no_more = refl
  nodes_outline (then t ts) =
      let first = node_outline t in
      let rest = nodes_outline ts in
      let e = length-append (outline_of (shape t)) (row_outline (shapes ts)) in
      omega arith

-- ---- the parts of a well-formed tree without prime nodes

pub record AreCotreeParts (parts : List (OutlinePart Kind)) : Type 0 where
  pub find : FindTrees parts
  pub once : (v : ℕ) → times v (named parts) ≤ 1
  pub low : (v : ℕ) → 0 < times v (named parts) → v < NAMES
  pub few : length parts ≤ 2 * NAMES
  pub plain : All IsNoPrimePart parts

parts_fit : (o : Option PlainTree) → IsWellFormed o → HasNoPrime o → AreCotreeParts (outline_option o)
parts_fit None is not = record {
  find = tt;
  once = λ v. omega arith;
  low = λ v some. absurd (omega arith);
  few = omega arith;
  plain = (no_prime_parts None).0 not;
}
parts_fit (Some t) is not = record {
  find = find_all t is.1 not;
  once = name_once t is.1;
  low = λ v some. is.0 v (name_has t v some);
  few = let n = few_names t is in let m = few_parts t is.1 in omega arith;
  plain = (no_prime_parts (Some t)).0 not;
}

pub cotree_parts : (parts : List (OutlinePart Kind)) (o : Option PlainTree) → IsWellFormed o → HasNoPrime o → parts ≡ outline_option o → AreCotreeParts parts
cotree_parts parts o is not told = subst AreCotreeParts (sym told) (parts_fit o is not)

-- ---- while parts are left

pub record IsPlanting (parts : List (OutlinePart Kind)) (c : Cotree) (i : ℕ) (stack : List ℕ) : Type 0 where
  pub trees : PlaceTrees
  pub forest : IsForest c stack trees
  pub told : shape_list trees ≡ trees_told (drop i parts)

module _ (parts : List (OutlinePart Kind)) (are : AreCotreeParts parts) (c : Cotree) (stack : List ℕ) (i : ℕ) (more : i < length parts) (d : OutlinePart Kind) (so : IsPlanting parts c (i + 1) stack) where
  abbrev p : OutlinePart Kind
  p = get_or parts i d

  rest : drop i parts ≡ p ∷ drop (i + 1) parts
  rest = at_drop_more (λ l. l) parts i d more

  find : FindTrees (p ∷ drop (i + 1) parts)
  find = subst FindTrees rest (find_rest (take i parts) (drop i parts) (subst FindTrees (sym (take-append-drop i parts)) are.find))

  read : row_outline (shapes so.trees) ≡ drop (i + 1) parts
  read = ap row_outline (sym (row_shapes so.trees)) ∙ ap (λ zs. row_outline (row zs)) so.told ∙ outline_told (drop (i + 1) parts) find.1

  whole : take i parts ++ p ∷ row_outline (shapes so.trees) ≡ parts
  whole = ap (λ l. take i parts ++ p ∷ l) read ∙ ap (λ l. take i parts ++ l) (sym rest) ∙ take-append-drop i parts

  pub plant_finds : HasTreesFor p (shape_list so.trees)
  plant_finds = subst (HasTreesFor p) (sym so.told) find.0

  pub plant_room : node_counts so.trees < PLACES
  plant_room =
      let e = nodes_outline so.trees in
      let all = ap length whole in
      let a = length-append (take i parts) (p ∷ row_outline (shapes so.trees)) in
      let n = are.few in
      omega arith

  pub plant_ready : IsReady c p
  plant_ready = go p whole (are.plain i d more)
    where
      absent : (v : ℕ) (o : Option ℕ) → get_or c.places.items v None ≡ o → take i parts ++ Name v ∷ row_outline (shapes so.trees) ≡ parts → o ≡ None
      absent v None e w = refl
      absent v (Some q) e w = absurd (
          let one : leaves_among q v so.trees ≡ 1 = so.forest.names v q ∙ ap (λ z. holds_once z q) e ∙ holds-once-same q in
          let low = leaves_told so.trees q v in
          let all = ap (λ l. times v (named l)) w in
          let a = times-named v (take i parts) (Name v ∷ row_outline (shapes so.trees)) in
          let h = hit v v refl in
          let once = are.once v in
          omega arith)

      go : (q : OutlinePart Kind) → take i parts ++ q ∷ row_outline (shapes so.trees) ≡ parts → IsNoPrimePart q → IsReady c q
      go (Name v) w not = (
        are.low v (
            let all = ap (λ l. times v (named l)) w in
            let a = times-named v (take i parts) (Name v ∷ row_outline (shapes so.trees)) in
            let h = hit v v refl in
            omega arith),
        absent v (get_or c.places.items v None) refl w,
      )
      go (Node k n) w not = not

  pub plant_more : (new : Cotree) (now : List ℕ) → (us : PlaceTrees) × IsForest new now us × (shape_list us ≡ with_outline_part p (shape_list so.trees)) → IsPlanting parts new i now
  plant_more new now made = record {
    trees = made.0;
    forest = made.1;
    told = made.2 ∙ ap (with_outline_part p) so.told ∙ ap trees_told (sym rest);
  }

-- ---- at the end

none_inner : (ts : PlaceTrees) (k : Bool) → NoneOfKind (shapes ts) (kind_of k) → NoneInner ts k
none_inner no_more k none = tt
none_inner (then (tip p v) ts) k none = ((λ is. is), none_inner ts k none.1)
none_inner (then (inner p j us) ts) k none = ((λ is. none.0 (ap kind_of is)), none_inner ts k none.1)

mutual
  alternates_of : (t : PlaceTree) → IsCanonicalTree (shape t) → Alternates t
  alternates_of (tip p v) each = tt
  alternates_of (inner p k ts) each =
      let plain = plain_shape (kind_of k) (shapes ts) [] (kind_not_prime k) each.0.shape in
      (let e = count_shapes ts in let two = plain_two plain in omega arith, none_inner ts k plain.other_kinds, all_alternate ts each.1)

  all_alternate : (ts : PlaceTrees) → EachNodeBelow IsCanonicalNode (shapes ts) → AllAlternate ts
  all_alternate no_more each = tt
  all_alternate (then t ts) each = (alternates_of t each.0, all_alternate ts each.1)

-- the root that is popped off a stack of one place, or of none
popped_root : (o : Option PlaceTree) (stack left : List ℕ) (n : ℕ) (root : Option ℕ) → roots (root_row o) ≡ stack → stack ≡ left ++ option_to_list root → n ≡ length stack →
    ((d : ℕ) → 0 < n → root ≡ Some (get_or stack (n - 1) d)) → root ≡ option_map place_of o
popped_root None stack left n None e s long value = refl
popped_root None stack left n (Some p) e s long value = absurd (let z = ap length (e ∙ s) in let a = length-append left (p ∷ []) in omega arith)
popped_root (Some t) stack left n None e s long value = absurd (let z = ap length e in let some : None ≡ Some (get_or stack (n - 1) 0) = value 0 (omega arith) in cc)
popped_root (Some t) stack left n (Some p) e s long value = ap (λ q. Some q) (same_from_push left [] p (place_of t) (sym s ∙ sym e)).1

-- the one tree that is left, if there is one, is kept
module _ (parts : List (OutlinePart Kind)) (o : Option PlainTree) (is : IsWellFormed o) (not : HasNoPrime o) (all : parts ≡ outline_option o) (c d : Cotree) (stack left : List ℕ) (n i : ℕ) (so : IsPlanting parts c i stack) (none : i ≡ 0) where
  pub planted : d.lists ≡ c.lists → d.places ≡ c.places → d.leaves ≡ c.leaves → stack ≡ left ++ option_to_list d.root → n ≡ length stack →
      ((x : ℕ) → 0 < n → d.root ≡ Some (get_or stack (n - 1) x)) → Denotes d (graph_of_tree o)
  planted lists places leaves pop long value = go o is not so.trees (so.told ∙ ap (λ n. trees_told (drop n parts)) none ∙ ap trees_told all) so.forest
    where
      keep : (q : Option PlaceTree) → AllAlternate (root_row q) → IsForest c stack (root_row q) → IsKeptAs d q
      keep q alternates forest = record {
        fits = subst (λ l. FillsLists l (root_row q)) (sym lists) forest.fits;
        root = popped_root q stack left n d.root (single q ∙ forest.on_stack) pop long value;
        entries = subst AreEntries (sym places) forest.entries;
        names = λ v p. forest.names v p ∙ ap (λ z. holds_once (get_or (vec_items z) v None) p) (sym places);
        leaves = leaves ∙ forest.leaves;
        alternates = alternates;
        unmarked = ap (λ (l : Links). l.marked) lists ∙ forest.unmarked;
      }
        where
          single : (q : Option PlaceTree) → roots (root_row q) ≡ reverse (roots (root_row q))
          single None = refl
          single (Some t) = refl

      go : (o : Option PlainTree) → IsWellFormed o → HasNoPrime o → (ts : PlaceTrees) → shape_list ts ≡ trees_told (outline_option o) → IsForest c stack ts → Denotes d (graph_of_tree o)
      go None is not no_more one forest = (None, keep None tt forest, refl)
      go None is not (then u us) one forest = absurd cc
      go (Some t) is not ts one forest = here ts (one ∙ told_all t is.1 not) forest
        where
          here : (ts : PlaceTrees) → shape_list ts ≡ t ∷ [] → IsForest c stack ts → Denotes d (graph_of_tree (Some t))
          here no_more one forest = absurd cc
          here (then u (then w us)) one forest = absurd cc
          here (then u no_more) one forest =
              let same : shape u ≡ t = cc in
              (Some u, keep (Some u) (alternates_of u (subst IsCanonicalTree (sym same) is.1), tt) forest, ap (λ z. graph_of_tree (Some z)) same)

-- ---- at the beginning

has_name : (t : PlaceTree) → Alternates t → HasSome (names (shape t))
has_name (tip p v) alternates = (v, only_has v)
has_name (inner p k no_more) alternates = absurd (let two = alternates.0 in omega arith)
has_name (inner p k (then t ts)) alternates =
    let x = has_name t alternates.2.0 in
    (x.0, union_left (names (shape t)) (names_below (shapes ts)) x.0 x.1)

-- a cotree of the graph without vertices keeps no tree
keeps_none : (c : Cotree) → Denotes c empty_graph → IsKeptAs c None
keeps_none c is = go is.0 is.1 is.2
  where
    go : (o : Option PlaceTree) → IsKeptAs c o → graph_of_tree (option_map shape o) ≡ empty_graph → IsKeptAs c None
    go None kept same = kept
    go (Some t) kept same =
        let x = has_name t kept.alternates.0 in
        absurd (clash (subst (λ g. Has g.vertices x.0) same x.1) (empty_lacks x.0))

pub plant_begin : (parts : List (OutlinePart Kind)) (c : Cotree) (i : ℕ) (stack : List ℕ) → i ≡ length parts → AreLinks c.lists → stack ≡ [] → Denotes c empty_graph → IsPlanting parts c i stack
plant_begin parts c i stack all links none is =
    let kept = keeps_none c is in
    record {
      trees = no_more;
      forest = record { fits = kept.fits; links = links; on_stack = sym none; entries = kept.entries; names = kept.names; leaves = kept.leaves; unmarked = kept.unmarked };
      told = ap trees_told (sym (drop_all i parts (omega arith)));
    }

-- the outline of a tree is short
pub short_outline : (t : PlainTree) (o : Option PlainTree) → o ≡ Some t → IsWellFormed o → length (outline_of t) < 2 ^ 32
short_outline t o some is = go (subst IsWellFormed some is)
  where
    go : IsWellFormed (Some t) → length (outline_of t) < 2 ^ 32
    go is = let few = few_parts t is.1 in let low = few_names t is in omega arith
