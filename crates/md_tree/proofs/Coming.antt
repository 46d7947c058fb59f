-- The steps of the builder: what each token makes of the open nodes, and where no well-formed tree has the text.
use Rattle.std.proofs.Common.{◌≡◌, ℕ, suc, ◌+◌, ◌*◌, ◌-◌, ◌<◌, ◌≤◌, ◌⊎◌, Bool, List, [], ◌∷◌, ◌++◌, length, take, drop, Some, append_assoc, append-nil, length-append, refl, sym, ◌∙◌, ap, subst, inl, inr, arith}
use Rattle.std.proofs.Math.Seq.{take-append_seam, drop-append_seam}
use Rattle.std.specs.Prelude.{◌↔◌}
use Rattle.std.specs.FinSet.{empty, len}
use Rattle.md_graph.specs.declared.TheConstants.{NAMES}
use Rattle.md_graph.proofs.Limits.{NAMES-lt}
use Rattle.md_graph.specs.Sets.{NameSet, Has, Lacks}
use Rattle.md_graph.proofs.SetLemmas.{clash, empty_lacks, only_has, union_left, union_right, of_union}
use Rattle.md_graph.proofs.Search.{len_proper, len_within}
use Rattle.md_graph.proofs.NameLemmas.{few_names}
use Rattle.md_tree.specs.declared.builder.Opened.{Opened}
use Rattle.md_tree.specs.declared.builder.Held.{Held}
use Rattle.md_tree.specs.declared.builder.Step.{Step}
use Rattle.md_tree.specs.declared.builder.Step.TheVariants.{Onward, Useless, End}
use Rattle.md_tree.specs.Trees.{PlainTreeOf, PlainTreesOf, leaf, node, no_tree, one_more, names, names_below, count, row, EachNode, EachNodeBelow}
use Rattle.md_tree.specs.Spellings.{Spelling, IsSpelling}
use Rattle.md_tree.specs.TreeTexts.{pairs_text_by, tree_text_by, row_text_by}
use Rattle.md_tree.specs.WellFormed.{AreDisjoint, IsCanonicalNodeBy, IsWellFormedBelow, IsCanonicalTreeBy}
use Rattle.md_tree.specs.Residual.{OpenNode, ahead, closed, with_child, Follows, Due}
use Rattle.md_text.specs.Fronts.{LacksFirst, LacksNumber, IsNumberSplit}
use Rattle.md_tree.specs.Held.{AreLeast, AscendsIf, IsMinimum, AreKept, MayHave, MayListIf, IsDue, IsBehind, IsInside, befores, opened, opened_node, AreUseless, IsBuilt, IsBuildStep, LacksEnd, IsEnd, HasBuiltInside, HasReadTree, trees_held}
use Rattle.std.specs.Ordering.{nat_cmp}
use Rattle.md_tree.proofs.Texts.{leaf_is_no_node, node_spelled, row_spelled}
use Rattle.md_tree.proofs.Residuals.{ahead_row, follows_stops, tree_step, open_step, comma_step, end_step, each_follows}
use Rattle.std.proofs.lemmas.List.{same_from_push}
use Rattle.md_tree.proofs.Leaving.{no_snoc}
use Rattle.md_tree.proofs.Folding.{count_row}
use Rattle.md_tree.proofs.Holding.{lacks_if, shape_has, shape_lists, of_order_if, least_drop, names_either, kept_closed}
use Rattle.md_tree.proofs.Numerals.{end_shorter}

module _ {K P : Type 0} {sp : Spelling K P} (law : IsSpelling sp) where
  abbrev letter : K → ℕ
  letter = sp.kinds.letter

  abbrev lists : K → Bool
  lists = sp.kinds.lists

  abbrev pairs_text : ℕ → List P → List ℕ
  pairs_text = pairs_text_by sp.pairs

  abbrev tree_text : PlainTreeOf K P → List ℕ
  tree_text = tree_text_by sp

  abbrev row_text : ℕ → PlainTreesOf K P → List ℕ
  row_text = row_text_by sp

  -- the name read
  pub due_name : (bytes rest : List ℕ) (opens : List (Opened K)) (ts : List (PlainTreeOf K P)) (v : ℕ) (tail : List ℕ) → IsDue sp bytes rest opens ts → IsNumberSplit rest v tail →
      IsBehind sp bytes tail opens (ts ++ leaf v ∷ [])
  due_name bytes rest opens ts v tail d n = record {
    nodes = d.nodes;
    tree = leaf v;
    open_is = d.open_is;
    trees_are = ap (λ w. w ++ leaf v ∷ []) d.trees_are;
    means = λ w. (
      (λ e. (tree_step law d.nodes (leaf v) tail w n.1).0 (subst (λ y. Due sp d.nodes y w) n.0 ((d.means w).0 e))),
      (λ f. (d.means w).1 (subst (λ y. Due sp d.nodes y w) (sym n.0) ((tree_step law d.nodes (leaf v) tail w n.1).1 f))),
    );
  }

  -- a letter and a bracket read
  pub due_node : (bytes rest : List ℕ) (opens : List (Opened K)) (ts : List (PlainTreeOf K P)) (k : K) (tail : List ℕ) → IsDue sp bytes rest opens ts → rest ≡ letter k ∷ 40 ∷ tail →
      IsDue sp bytes tail (opens ++ record { kind = k; first = length ts } ∷ []) ts
  due_node bytes rest opens ts k tail d e =
      let o : OpenNode K P = record { kind = k; before = [] } in
      let same : opened_node o d.nodes ≡ record { kind = k; first = length ts } = ap (λ (n : ℕ). record { kind = k; first = n }) (ap length (sym d.trees_are)) in
      record {
        nodes = o ∷ d.nodes;
        open_is = ap (λ w. w ++ record { kind = k; first = length ts } ∷ []) d.open_is ∙ ap (λ w. opened d.nodes ++ w ∷ []) (sym same);
        trees_are = d.trees_are ∙ sym (append-nil (befores d.nodes));
        means = λ w. (
          (λ f. (open_step law d.nodes k tail w).0 (subst (λ y. Due sp d.nodes y w) e ((d.means w).0 f))),
          (λ f. (d.means w).1 (subst (λ y. Due sp d.nodes y w) (sym e) ((open_step law d.nodes k tail w).1 f))),
        );
      }

  -- the innermost node is taken off
  of_behind : (bytes rest : List ℕ) (opens others : List (Opened K)) (inner : Opened K) (ts : List (PlainTreeOf K P)) (s : List (OpenNode K P)) (t : PlainTreeOf K P) →
      opens ≡ opened s → ts ≡ befores s ++ t ∷ [] → ((w : PlainTreeOf K P) → (bytes ≡ tree_text w) ↔ Follows sp s t rest w) → opens ≡ others ++ inner ∷ [] → IsInside sp bytes rest inner others ts
  of_behind bytes rest opens others inner ts [] t a b m e = absurd (no_snoc others inner (sym a ∙ e))
  of_behind bytes rest opens others inner ts (o ∷ s) t a b m e =
      let r : (opened s ≡ others) × (opened_node o s ≡ inner) = same_from_push (opened s) others (opened_node o s) inner (sym a ∙ e) in
      record { node = o; nodes = s; tree = t; inner_is = sym r.1; open_is = sym r.0; trees_are = b; means = m }

  pub behind_inside : (bytes rest : List ℕ) (opens others : List (Opened K)) (inner : Opened K) (ts : List (PlainTreeOf K P)) → IsBehind sp bytes rest opens ts → opens ≡ others ++ inner ∷ [] →
      IsInside sp bytes rest inner others ts
  behind_inside bytes rest opens others inner ts b e = of_behind bytes rest opens others inner ts b.nodes b.tree b.open_is b.trees_are b.means e

  -- a comma read
  inside_comma : (bytes rest : List ℕ) (inner : Opened K) (opens : List (Opened K)) (ts : List (PlainTreeOf K P)) (tail : List ℕ) → IsInside sp bytes rest inner opens ts → rest ≡ 44 ∷ tail →
      IsDue sp bytes tail (opens ++ inner ∷ []) ts
  inside_comma bytes rest inner opens ts tail i e = record {
    nodes = with_child i.node i.tree ∷ i.nodes;
    open_is = ap (λ w. w ++ inner ∷ []) i.open_is ∙ ap (λ w. opened i.nodes ++ w ∷ []) i.inner_is;
    trees_are = i.trees_are ∙ append_assoc (befores i.nodes) i.node.before (i.tree ∷ []);
    means = λ w. (
      (λ f. (comma_step law i.node i.nodes i.tree tail w).0 (subst (λ y. Follows sp (i.node ∷ i.nodes) i.tree y w) e ((i.means w).0 f))),
      (λ f. (i.means w).1 (subst (λ y. Follows sp (i.node ∷ i.nodes) i.tree y w) (sym e) ((comma_step law i.node i.nodes i.tree tail w).1 f))),
    );
  }

  -- a comma read in a node that stays open
  comma_in : (bytes rest : List ℕ) (opens : List (Opened K)) (ts : List (PlainTreeOf K P)) (tail : List ℕ) (s : List (OpenNode K P)) (t : PlainTreeOf K P) →
      opens ≡ opened s → ts ≡ befores s ++ t ∷ [] → ((w : PlainTreeOf K P) → (bytes ≡ tree_text w) ↔ Follows sp s t rest w) → 0 < length opens → rest ≡ 44 ∷ tail → IsDue sp bytes tail opens ts
  comma_in bytes rest opens ts tail [] t a b m some e = let none : length opens ≡ 0 = ap length a in absurd (omega arith)
  comma_in bytes rest opens ts tail (o ∷ s) t a b m some e =
      subst (λ os. IsDue sp bytes tail os ts) (sym a)
      (inside_comma bytes rest (opened_node o s) (opened s) ts tail (record { node = o; nodes = s; tree = t; inner_is = refl; open_is = refl; trees_are = b; means = m }) e)

  pub behind_comma : (bytes rest : List ℕ) (opens : List (Opened K)) (ts : List (PlainTreeOf K P)) (tail : List ℕ) → IsBehind sp bytes rest opens ts → 0 < length opens → rest ≡ 44 ∷ tail → IsDue sp bytes tail opens ts
  behind_comma bytes rest opens ts tail b some e = comma_in bytes rest opens ts tail b.nodes b.tree b.open_is b.trees_are b.means some e

  -- a step from a later place is one from an earlier place
  pub step_from : (bytes text tail : List ℕ) {w : ℕ} (step : Step) (held : Held K P w) → length tail ≤ length text → IsBuildStep sp bytes tail step held → IsBuildStep sp bytes text step held
  step_from bytes text tail (Onward rest) held l s = (s.0, (let m = s.1 in omega arith))
  step_from bytes text tail Useless held l s = s
  step_from bytes text tail End held l s = s

  -- the children of the innermost node
  module _ (bytes rest : List ℕ) (inner : Opened K) (opens : List (Opened K)) (ts : List (PlainTreeOf K P)) (i : IsInside sp bytes rest inner opens ts) where
    abbrev children : List (PlainTreeOf K P)
    children = i.node.before ++ i.tree ∷ []

    pub inside_trees : ts ≡ befores i.nodes ++ children
    inside_trees = i.trees_are ∙ append_assoc (befores i.nodes) i.node.before (i.tree ∷ [])

    first_is : inner.first ≡ length (befores i.nodes)
    first_is = ap (λ (o : Opened K). o.first) i.inner_is

    pub inside_front : take inner.first ts ≡ befores i.nodes
    inside_front = ap (λ n. take n ts) first_is ∙ ap (take (length (befores i.nodes))) inside_trees ∙ take-append_seam (befores i.nodes) children

    pub inside_children : drop inner.first ts ≡ children
    inside_children = ap (λ n. drop n ts) first_is ∙ ap (drop (length (befores i.nodes))) inside_trees ∙ drop-append_seam (befores i.nodes) children

    closed_is : (ps : List P) → closed i.node i.tree no_tree ps ≡ node inner.kind (row (drop inner.first ts)) ps
    closed_is ps =
        ap (λ cs. node i.node.kind cs ps) (ahead_row i.node.before i.tree ∙ ap row (sym inside_children))
        ∙ ap (λ (o : Opened K). node o.kind (row (drop inner.first ts)) ps) (sym i.inner_is)

    pub inside_end : (ps : List P) (tail : List ℕ) → rest ≡ pairs_text 59 ps ++ 41 ∷ tail →
        IsBehind sp bytes tail opens (take inner.first ts ++ node inner.kind (row (drop inner.first ts)) ps ∷ [])
    inside_end ps tail e =
        let step : (w : PlainTreeOf K P) → Follows sp (i.node ∷ i.nodes) i.tree (pairs_text 59 ps ++ 41 ∷ tail) w ↔ Follows sp i.nodes (closed i.node i.tree no_tree ps) tail w = end_step law i.node i.nodes i.tree ps tail in
        record {
          nodes = i.nodes;
          tree = node inner.kind (row (drop inner.first ts)) ps;
          open_is = i.open_is;
          trees_are = ap (λ w. w ++ node inner.kind (row (drop inner.first ts)) ps ∷ []) inside_front;
          means = λ w. (
            (λ f. subst (λ u. Follows sp i.nodes u tail w) (closed_is ps) ((step w).0 (subst (λ y. Follows sp (i.node ∷ i.nodes) i.tree y w) e ((i.means w).0 f)))),
            (λ f. (i.means w).1 (subst (λ y. Follows sp (i.node ∷ i.nodes) i.tree y w) (sym e) ((step w).1 (subst (λ u. Follows sp i.nodes u tail w) (sym (closed_is ps)) f)))),
          );
        }

    last_of : (w : PlainTreeOf K P) (others : PlainTreesOf K P) (ps : List P) (r : List ℕ) → LacksFirst 44 rest → rest ≡ row_text 44 others ++ (pairs_text 59 ps ++ 41 ∷ r) →
        Follows sp i.nodes (closed i.node i.tree others ps) r w → IsCanonicalTreeBy sp w → (ps : List P) × (r : List ℕ) × (rest ≡ pairs_text 59 ps ++ 41 ∷ r) × IsCanonicalNodeBy sp inner.kind (row (drop inner.first ts)) ps
    last_of w no_tree ps r lacks e f c =
        let t : EachNode (IsCanonicalNodeBy sp) (closed i.node i.tree no_tree ps) = each_follows law (IsCanonicalNodeBy sp) i.nodes (closed i.node i.tree no_tree ps) r w f c in
        let u : EachNode (IsCanonicalNodeBy sp) (node inner.kind (row (drop inner.first ts)) ps) = subst (EachNode (IsCanonicalNodeBy sp)) (closed_is ps) t in
        (ps, r, e, u.0)
    last_of w (one_more u us) ps r lacks e f c = absurd (lacks (tree_text u ++ (row_text 44 us ++ (pairs_text 59 ps ++ 41 ∷ r))) (e ∙ row_spelled law 44 u us (pairs_text 59 ps ++ 41 ∷ r)))

    -- in the text of a well-formed tree the node ends, and is such as well-formed trees have it
    inside_part : (w : PlainTreeOf K P) → LacksFirst 44 rest → bytes ≡ tree_text w → IsCanonicalTreeBy sp w → (ps : List P) × (r : List ℕ) × (rest ≡ pairs_text 59 ps ++ 41 ∷ r) × IsCanonicalNodeBy sp inner.kind (row (drop inner.first ts)) ps
    inside_part w lacks e c = let f = (i.means w).0 e in last_of w f.others f.pairs f.behind lacks f.text f.whole c

    pub useless_children : {limit : ℕ} → LacksFirst 44 rest → (ms : List ℕ) → AreLeast ts ms → (MayHave sp.kinds inner.kind (row (drop inner.first ts)) × AscendsIf (sp.kinds.sorts inner.kind) (drop inner.first ms) → ⊥) → AreUseless sp limit bytes
    useless_children lacks ms l n w good e =
        let p = inside_part w lacks e good.1 in
        let l2 : AreLeast children (drop (length (befores i.nodes)) ms) = least_drop (befores i.nodes) children ms (subst (λ y. AreLeast y ms) inside_trees l) in
        let l3 : AreLeast (drop inner.first ts) (drop inner.first ms) = subst (λ n. AreLeast (drop inner.first ts) (drop n ms)) (sym first_is) (subst (λ y. AreLeast y (drop (length (befores i.nodes)) ms)) (sym inside_children) l2) in
        n (shape_has law inner.kind (row (drop inner.first ts)) p.0 p.3.shape, of_order_if (sp.kinds.sorts inner.kind) (drop inner.first ts) (drop inner.first ms) l3 p.3.order)

    pub useless_end : {limit : ℕ} → LacksFirst 44 rest → LacksEnd sp.pairs (lists inner.kind) (length (drop inner.first ts)) rest → AreUseless sp limit bytes
    useless_end lacks n w good e =
        let p = inside_part w lacks e good.1 in
        n p.0 p.1 (subst (λ m. MayListIf sp.pairs (lists inner.kind) m p.0) (count_row (drop inner.first ts)) (shape_lists law inner.kind (row (drop inner.first ts)) p.0 p.3.shape)) p.2

    pub inside_first : inner.first < length ts
    inside_first =
        let a : length ts ≡ length (befores i.nodes) + length children = ap length inside_trees ∙ length-append (befores i.nodes) children in
        let b : length children ≡ length i.node.before + 1 = length-append i.node.before (i.tree ∷ []) in
        let c = first_is in
        omega arith

  -- the trees of a node that ends are taken off, and the node takes their place
  pub node_ended : {w : ℕ} (bytes text : List ℕ) (inner : Opened K) (held new : Held K P w) (ps : List P) (m : ℕ) (tail : List ℕ) → HasBuiltInside sp bytes text inner held →
      MayHave sp.kinds inner.kind (row (drop inner.first (trees_held held))) → AscendsIf (sp.kinds.sorts inner.kind) (drop inner.first held.least.items) →
      IsEnd sp.pairs (lists inner.kind) (length (trees_held held) - inner.first) text ps tail → IsMinimum (drop inner.first held.least.items) m →
      trees_held new ≡ take inner.first (trees_held held) ++ node inner.kind (row (drop inner.first (trees_held held))) ps ∷ [] → new.least.items ≡ take inner.first held.least.items ++ m ∷ [] →
      new.opens.items ≡ held.opens.items → new.seen ≡ held.seen → HasReadTree sp bytes text tail new
  node_ended {w} bytes text inner held new ps m tail h has ascend end is trees least opens seen =
      let ts = trees_held held in
      let us = take inner.first ts ++ node inner.kind (row (drop inner.first ts)) ps ∷ [] in (
        record {
          kept = subst (λ vs. AreKept sp (64 * w) vs new.least.items new.seen) (sym trees)
              (subst (λ ms. AreKept sp (64 * w) us ms new.seen) (sym least)
              (subst (AreKept sp (64 * w) us (take inner.first held.least.items ++ m ∷ [])) (sym seen)
              (kept_closed law ts held.least.items held.seen inner.first inner.kind ps m (inside_first _ _ inner _ _ h.comes) h.kept has end.0 ascend is)));
          comes = subst (IsBehind sp bytes tail new.opens.items) (sym trees) (subst (λ os. IsBehind sp bytes tail os us) (sym opens) (inside_end bytes text inner held.opens.items ts h.comes ps tail end.1));
        },
        end_shorter law.pairs _ _ ps end.1,
      )

  -- outside all nodes
  over_of : (bytes rest : List ℕ) (ts : List (PlainTreeOf K P)) (s : List (OpenNode K P)) (t : PlainTreeOf K P) → [] ≡ opened s → ts ≡ befores s ++ t ∷ [] → ((w : PlainTreeOf K P) → (bytes ≡ tree_text w) ↔ Follows sp s t rest w) →
      (t : PlainTreeOf K P) × (ts ≡ t ∷ []) × ((w : PlainTreeOf K P) → (bytes ≡ tree_text w) ↔ ((rest ≡ []) × (w ≡ t)))
  over_of bytes rest ts [] t a b m = (t, b, m)
  over_of bytes rest ts (o ∷ s) t a b m = absurd (no_snoc (opened s) (opened_node o s) a)

  pub behind_end : {limit : ℕ} (bytes rest : List ℕ) (opens : List (Opened K)) (ts : List (PlainTreeOf K P)) (ms : List ℕ) (seen : NameSet) → AreKept sp limit ts ms seen → IsBehind sp bytes rest opens ts → opens ≡ [] → rest ≡ [] → IsBuilt sp limit bytes ts
  behind_end bytes rest opens ts ms seen k b none e =
      let o = over_of bytes rest ts b.nodes b.tree (sym none ∙ b.open_is) b.trees_are b.means in
      let same : row ts ≡ one_more o.0 no_tree = ap row o.1 in
      record {
        tree = o.0;
        only = o.1;
        good = (
          (λ x h. k.below x ((k.same x).1 (subst (λ y. Has (names_below y) x) (sym same) (union_left (names o.0) empty x h)))),
          (subst (EachNodeBelow (IsCanonicalNodeBy sp)) same k.canonical).0,
        );
        text = (o.2 o.0).1 (e, refl);
      }

  pub useless_over : {limit : ℕ} (bytes rest : List ℕ) (opens : List (Opened K)) (ts : List (PlainTreeOf K P)) → IsBehind sp bytes rest opens ts → opens ≡ [] → 0 < length rest → AreUseless sp limit bytes
  useless_over bytes rest opens ts b none some w good e =
      let o = over_of bytes rest ts b.nodes b.tree (sym none ∙ b.open_is) b.trees_are b.means in
      let l : length rest ≡ 0 = ap length ((o.2 w).0 e).0 in
      omega arith

  -- in an open node the text goes on
  open_goes_on : (s : List (OpenNode K P)) (t : PlainTreeOf K P) (r : List ℕ) (w : PlainTreeOf K P) → Follows sp s t r w → r ≡ [] → length (opened s) ≡ 0
  open_goes_on [] t r w f e = refl
  open_goes_on (o ∷ s) t r w f e =
      let a : length r ≡ length (row_text 44 f.others) + length (pairs_text 59 f.pairs ++ 41 ∷ f.behind) = ap length f.text ∙ length-append (row_text 44 f.others) (pairs_text 59 f.pairs ++ 41 ∷ f.behind) in
      let b : length (pairs_text 59 f.pairs ++ 41 ∷ f.behind) ≡ length (pairs_text 59 f.pairs) + suc (length f.behind) = length-append (pairs_text 59 f.pairs) (41 ∷ f.behind) in
      let none : length r ≡ 0 = ap length e in
      absurd (omega arith)

  pub useless_open : {limit : ℕ} (bytes rest : List ℕ) (opens : List (Opened K)) (ts : List (PlainTreeOf K P)) → IsBehind sp bytes rest opens ts → 0 < length opens → rest ≡ [] → AreUseless sp limit bytes
  useless_open bytes rest opens ts b some over w good e =
      let none : length (opened b.nodes) ≡ 0 = open_goes_on b.nodes b.tree rest w ((b.means w).0 e) over in
      let same : length opens ≡ length (opened b.nodes) = ap length b.open_is in
      omega arith

  -- the names of a child are names of the node
  ahead_has : (xs : List (PlainTreeOf K P)) (t : PlainTreeOf K P) (cs : PlainTreesOf K P) (x : ℕ) → Has (names t) x → Has (names_below (ahead xs (one_more t cs))) x
  ahead_has [] t cs x h = union_left (names t) (names_below cs) x h
  ahead_has (y ∷ xs) t cs x h = union_right (names y) (names_below (ahead xs (one_more t cs))) x (ahead_has xs t cs x h)

  -- and no name of the children before it
  ahead_apart : (xs : List (PlainTreeOf K P)) (t : PlainTreeOf K P) (cs : PlainTreesOf K P) → AreDisjoint (ahead xs (one_more t cs)) → (x : ℕ) → Has (names t) x → Has (names_below (row xs)) x → ⊥
  ahead_apart [] t cs a x h g = clash g (empty_lacks x)
  ahead_apart (y ∷ xs) t cs a x h g = elim (of_union (names y) (names_below (row xs)) x g) [
    | inl i ↦ clash (ahead_has xs t cs x h) (a.0 x i)
    | inr i ↦ ahead_apart xs t cs a.1 x h i
  ]

  pub part_names : (s : List (OpenNode K P)) (t : PlainTreeOf K P) (r : List ℕ) (w : PlainTreeOf K P) → Follows sp s t r w → (x : ℕ) → Has (names t) x → Has (names w) x
  part_names [] t r w f x h = subst (λ y. Has (names y) x) (sym f.1) h
  part_names (o ∷ s) t r w f x h = part_names s (closed o t f.others f.pairs) f.behind w f.whole x (ahead_has o.before t f.others x h)

  part_apart : (s : List (OpenNode K P)) (t : PlainTreeOf K P) (r : List ℕ) (w : PlainTreeOf K P) → Follows sp s t r w → IsCanonicalTreeBy sp w → (x : ℕ) → Has (names t) x → Has (names_below (row (befores s))) x → ⊥
  part_apart [] t r w f c x h g = clash g (empty_lacks x)
  part_apart (o ∷ s) t r w f c x h g =
      let u : PlainTreeOf K P = closed o t f.others f.pairs in
      let n : EachNode (IsCanonicalNodeBy sp) (closed o t f.others f.pairs) = each_follows law (IsCanonicalNodeBy sp) s (closed o t f.others f.pairs) f.behind w f.whole c in
      elim (names_either (befores s) o.before x g) [
        | inl i ↦ part_apart s (closed o t f.others f.pairs) f.behind w f.whole c x (ahead_has o.before t f.others x h) i
        | inr i ↦ ahead_apart o.before t f.others n.0.apart x h i
      ]

  pub useless_name : {limit : ℕ} (bytes rest : List ℕ) (opens : List (Opened K)) (ts : List (PlainTreeOf K P)) (ms : List ℕ) (seen : NameSet) (v : ℕ) (tail : List ℕ) → AreKept sp limit ts ms seen → IsDue sp bytes rest opens ts →
      IsNumberSplit rest v tail → (limit ≤ v) ⊎ Has seen v → AreUseless sp limit bytes
  useless_name {limit} bytes rest opens ts ms seen v tail k d n bad w good e =
      let f : Follows sp d.nodes (leaf v) tail w = (tree_step law d.nodes (leaf v) tail w n.1).0 (subst (λ y. Due sp d.nodes y w) n.0 ((d.means w).0 e)) in
      elim bad [
        | inl large ↦ (let b : v < limit = good.0 v (part_names d.nodes (leaf v) tail w f v (only_has v)) in omega arith)
        | inr known ↦ part_apart d.nodes (leaf v) tail w f good.1 v (only_has v) (subst (λ y. Has (names_below (row y)) v) d.trees_are ((k.same v).0 known))
      ]

  -- where a tree is due
  leaf_due : {limit : ℕ} → limit ≤ NAMES → (bytes rest : List ℕ) (s : List (OpenNode K P)) (w t : PlainTreeOf K P) (r : List ℕ) → ((k : K) → LacksFirst (letter k) rest) → LacksNumber rest → IsWellFormedBelow sp limit (Some w) →
      rest ≡ tree_text t ++ r → Follows sp s t r w → ⊥
  leaf_due {limit} few bytes rest s w (leaf v) r letters lacks good e f =
      let below : v < limit = good.0 v (part_names s (leaf v) r w f v (only_has v)) in
      let all = NAMES-lt in
      lacks v r (omega arith) (follows_stops law s (leaf v) r w f) e
  leaf_due few bytes rest s w (node k cs ps) r letters lacks good e f = letters k (row_text 40 cs ++ (pairs_text 59 ps ++ 41 ∷ r)) (e ∙ node_spelled law k cs ps r)

  pub useless_number : {limit : ℕ} → limit ≤ NAMES → (bytes rest : List ℕ) (opens : List (Opened K)) (ts : List (PlainTreeOf K P)) → IsDue sp bytes rest opens ts → ((k : K) → LacksFirst (letter k) rest) → LacksNumber rest → AreUseless sp limit bytes
  useless_number few bytes rest opens ts d letters lacks w good e =
      let t = (d.means w).0 e in
      leaf_due few bytes rest d.nodes w t.tree t.behind letters lacks good t.text t.follows

  two_children : (k : K) (cs : PlainTreesOf K P) → MayHave sp.kinds k cs → 2 ≤ count cs
  two_children k cs h = let two : 2 ≤ sp.kinds.least_count k = law.kinds.two k in let enough = h.0 in omega arith

  no_child : (k : K) → MayHave {P = P} sp.kinds k no_tree → ⊥
  no_child k h = let two : 2 ≤ 0 = two_children k no_tree h in omega arith

  -- a node has a child, so that a bracket stands behind its letter
  letter_due : (k : K) (tail : List ℕ) (t : PlainTreeOf K P) (r : List ℕ) → LacksFirst 40 tail → IsCanonicalTreeBy sp t → letter k ∷ tail ≡ tree_text t ++ r → ⊥
  letter_due k tail (leaf v) r lacks c e = leaf_is_no_node law v k r tail (sym e)
  letter_due k tail (node l no_tree ps) r lacks c e = no_child l (shape_has law l no_tree ps c.0.shape)
  letter_due k tail (node l (one_more u us) ps) r lacks c e =
      let f : letter k ∷ tail ≡ letter l ∷ (row_text 40 (one_more u us) ++ (pairs_text 59 ps ++ 41 ∷ r)) = e ∙ node_spelled law l (one_more u us) ps r in
      let g : tail ≡ row_text 40 (one_more u us) ++ (pairs_text 59 ps ++ 41 ∷ r) = cc in
      lacks (tree_text u ++ (row_text 44 us ++ (pairs_text 59 ps ++ 41 ∷ r))) (g ∙ row_spelled law 40 u us (pairs_text 59 ps ++ 41 ∷ r))

  pub useless_letter : {limit : ℕ} (bytes rest : List ℕ) (opens : List (Opened K)) (ts : List (PlainTreeOf K P)) (k : K) (tail : List ℕ) → IsDue sp bytes rest opens ts → rest ≡ letter k ∷ tail → LacksFirst 40 tail → AreUseless sp limit bytes
  useless_letter bytes rest opens ts k tail d is lacks w good e =
      let t = (d.means w).0 e in
      letter_due k tail t.tree t.behind lacks (each_follows law (IsCanonicalNodeBy sp) d.nodes t.tree t.behind w t.follows good.1) (sym is ∙ t.text)

  -- how many names a tree has
  some_name : (t : PlainTreeOf K P) → IsCanonicalTreeBy sp t → (x : ℕ) × Has (names t) x
  some_name (leaf v) c = (v, only_has v)
  some_name (node k no_tree ps) c = absurd (no_child k (shape_has law k no_tree ps c.0.shape))
  some_name (node k (one_more t ts) ps) c = let x = some_name t c.1.0 in (x.0, union_left (names t) (names_below ts) x.0 x.1)

  -- another child has a name that the child has not
  other_name : (xs : List (PlainTreeOf K P)) (t : PlainTreeOf K P) (ts : PlainTreesOf K P) → EachNodeBelow (IsCanonicalNodeBy sp) (ahead xs (one_more t ts)) → AreDisjoint (ahead xs (one_more t ts)) → 2 ≤ count (ahead xs (one_more t ts)) →
      (x : ℕ) × Has (names_below (ahead xs (one_more t ts))) x × Lacks (names t) x
  other_name [] t no_tree c a two = let g : 2 ≤ 1 = two in absurd (omega arith)
  other_name [] t (one_more u us) c a two =
      let x = some_name u c.1.0 in
      let inside : Has (names_below (one_more u us)) x.0 = union_left (names u) (names_below us) x.0 x.1 in
      (x.0, union_right (names t) (names_below (one_more u us)) x.0 inside, lacks_if (names t) x.0 (λ h. clash inside (a.0 x.0 h)))
  other_name (y ∷ xs) t ts c a two =
      let x = some_name y c.0 in
      (x.0, union_left (names y) (names_below (ahead xs (one_more t ts))) x.0 x.1, lacks_if (names t) x.0 (λ h. clash (ahead_has xs t ts x.0 h) (a.0 x.0 x.1)))

  -- the open nodes are fewer than the names of the whole tree
  open_few : (s : List (OpenNode K P)) (t : PlainTreeOf K P) (r : List ℕ) (w : PlainTreeOf K P) → Follows sp s t r w → IsCanonicalTreeBy sp w → length s + len (names t) ≤ len (names w)
  open_few [] t r w f c = let same : len (names w) ≡ len (names t) = ap (λ u. len (names u)) f.1 in omega arith
  open_few (o ∷ s) t r w f c =
      let n : EachNode (IsCanonicalNodeBy sp) (closed o t f.others f.pairs) = each_follows law (IsCanonicalNodeBy sp) s (closed o t f.others f.pairs) f.behind w f.whole c in
      let x = other_name o.before t f.others n.1 n.0.apart (two_children o.kind (ahead o.before (one_more t f.others)) (shape_has law o.kind (ahead o.before (one_more t f.others)) f.pairs n.0.shape)) in
      let more : len (names t) < len (names (closed o t f.others f.pairs)) =
      len_proper (names t) (names (closed o t f.others f.pairs)) x.0 (λ y h. ahead_has o.before t f.others y h) x.1 x.2 in
      let rest : length s + len (names (closed o t f.others f.pairs)) ≤ len (names w) = open_few s (closed o t f.others f.pairs) f.behind w f.whole c in
      omega arith

  length_opened : (s : List (OpenNode K P)) → length (opened s) ≡ length s
  length_opened [] = refl
  length_opened (o ∷ s) =
      let a : length (opened s ++ opened_node o s ∷ []) ≡ length (opened s) + 1 = length-append (opened s) (opened_node o s ∷ []) in
      let b : length (opened s) ≡ length s = length_opened s in
      let c : length (opened s ++ opened_node o s ∷ []) ≡ suc (length s) = omega arith in
      c

  pub useless_deep : {limit : ℕ} (bytes rest : List ℕ) (opens : List (Opened K)) (ts : List (PlainTreeOf K P)) → IsDue sp bytes rest opens ts → limit ≤ length opens → AreUseless sp limit bytes
  useless_deep {limit} bytes rest opens ts d deep w good e =
      let t = (d.means w).0 e in
      let few : length d.nodes + len (names t.tree) ≤ len (names w) = open_few d.nodes t.tree t.behind w t.follows good.1 in
      let all : len (names w) ≤ limit = few_names (names w) limit good.0 in
      let count : length opens ≡ length d.nodes = ap length d.open_is ∙ length_opened d.nodes in
      let x = some_name t.tree (each_follows law (IsCanonicalNodeBy sp) d.nodes t.tree t.behind w t.follows good.1) in
      let some : len (empty {R = nat_cmp}) < len (names t.tree) = len_proper empty (names t.tree) x.0 (λ y h. clash h (empty_lacks y)) x.1 (empty_lacks x.0) in
      omega arith

  -- so are the trees that are held
  few_trees : (ts : List (PlainTreeOf K P)) (ms : List ℕ) → AreLeast ts ms → AreDisjoint (row ts) → length ts ≤ len (names_below (row ts))
  few_trees [] ms l a = let h : 0 ≤ len (empty {R = nat_cmp}) = omega arith in h
  few_trees (t ∷ ts) [] l a = absurd l
  few_trees (t ∷ ts) (m ∷ ms) l a =
      let more : len (names_below (row ts)) < len (names_below (row (t ∷ ts))) =
      len_proper (names_below (row ts)) (names_below (row (t ∷ ts))) m (λ x h. union_right (names t) (names_below (row ts)) x h) (union_left (names t) (names_below (row ts)) m l.0.member) (a.0 m l.0.member) in
      let rest : length ts ≤ len (names_below (row ts)) = few_trees ts ms l.1 a.1 in
      let h : suc (length ts) ≤ len (names_below (row (t ∷ ts))) = omega arith in
      h

  pub few_held : {limit : ℕ} (ts : List (PlainTreeOf K P)) (ms : List ℕ) (seen : NameSet) → AreKept sp limit ts ms seen → length ts ≤ limit
  few_held {limit} ts ms seen k =
      let a : length ts ≤ len (names_below (row ts)) = few_trees ts ms k.least k.apart in
      let b : len (names_below (row ts)) ≤ len seen = len_within (names_below (row ts)) seen (λ x h. (k.same x).1 h) in
      let c : len seen ≤ limit = few_names seen limit k.below in
      omega arith

  -- nothing is read at the beginning
  pub due_start : (bytes : List ℕ) → IsDue sp bytes bytes [] []
  due_start bytes = record {
    nodes = [];
    open_is = refl;
    trees_are = refl;
    means = λ w. (
      (λ e. record { tree = w; behind = []; text = e ∙ sym (append-nil (tree_text w)); follows = (refl, refl) }),
      (λ d. d.text ∙ ap (λ x. tree_text d.tree ++ x) d.follows.0 ∙ append-nil (tree_text d.tree) ∙ ap tree_text (sym d.follows.1)),
    );
  }
