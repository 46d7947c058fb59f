-- One part more of a tree's text.
use Rattle.std.proofs.Common.{◌≡◌, ℕ, suc, ◌+◌, ◌-◌, ◌<◌, ◌≤◌, Bool, List, [], ◌∷◌, ◌++◌, length, take, drop, Option, Some, None, codes, append_assoc, append-nil, refl, sym, ◌∙◌, ap, ap₂, subst, inl, inr, arith, length-append}
use Rattle.std.proofs.lemmas.List.{drop_at, same_from_push}
use Rattle.std.proofs.lemmas.List.Elements.{All-nil, All-cons, All-head, All-append, All-drop}
use Rattle.std.specs.List.{All}
use Rattle.md_graph.specs.PlainGraph.{PlainGraph, IsGraph, adjacent}
use Rattle.md_graph.specs.Sets.{NameSet, Has}
use Rattle.md_graph.proofs.SetLemmas.{only_has, union_left, union_right}
use Rattle.md_text.specs.Numbers.{decimal}
use Rattle.md_tree.specs.declared.Kind.{Kind}
use Rattle.md_tree.specs.Heads.{head, head_at}
use Rattle.md_tree.specs.Spellings.{letter}
use Rattle.md_tree.specs.StrongTrees.{IsTree}
use Rattle.md_tree.specs.Trees.{PlainTree, leaf, node, PlainTrees, no_tree, one_more, names, names_below, count, EachNode, EachNodeBelow}
use Rattle.md_tree.specs.TreeTexts.{tree_text, row_text, pairs_text, text_of}
use Rattle.md_tree.proofs.Built.{tree_names}
use Rattle.md_tree.proofs.Leaving.{no_snoc}
use Rattle.md_outline.specs.declared.outline.OutlinePart.{OutlinePart}
use Rattle.md_outline.specs.declared.outline.OutlinePart.TheVariants.{Name, Node}
use Rattle.md_outline.specs.declared.writer.Begun.{Begun}
use Rattle.md_outline.specs.Outlines.{outline_of, row_outline, outline_option}
use Rattle.md_outline.specs.NodeRows.{head_list, AreHeadsOf, pairs_by_rows, IsNodeByRows}
use Rattle.md_outline.specs.BegunNodes.{IsPartBelow, BegunNode, begun_node, begun_nodes, heads_held, parts_left, text_left, HasChildLeft, AreHeld, IsMarkPut, AreBegun, IsDue, IsOnWay, MayGoOn}
use Rattle.md_outline.proofs.NodeRows.{count_heads, rows_tell}

-- ---- the text of a mark and a name

pub marked_name : (text next first second : List ℕ) (mark v : ℕ) → next ≡ (text ++ first) ++ second → first ≡ mark ∷ [] → second ≡ decimal v → next ≡ (text ++ mark ∷ []) ++ decimal v
marked_name text next first second mark v put is_mark is_name = put ∙ ap₂ (λ f s. (text ++ f) ++ s) is_mark is_name

-- ---- no node is begun

pub ready_none : (begun : List Begun) → begun ≡ [] → HasChildLeft begun
ready_none begun none os o f = absurd (no_snoc os o (sym none ∙ f))

-- ---- a child of the innermost node is finished

abbrev finish : List BegunNode → ℕ → List BegunNode
finish [] h = []
finish (b ∷ bs) h = record b { finished = b.finished ++ h ∷ [] } ∷ bs

finish_begun : (nodes : List BegunNode) (h : ℕ) → begun_nodes (finish nodes h) ≡ begun_nodes nodes
finish_begun [] h = refl
finish_begun (b ∷ bs) h = refl

finish_parts : (nodes : List BegunNode) (h : ℕ) → parts_left (finish nodes h) ≡ parts_left nodes
finish_parts [] h = refl
finish_parts (b ∷ bs) h = refl

finish_text : (nodes : List BegunNode) (h : ℕ) → text_left (finish nodes h) ≡ text_left nodes
finish_text [] h = refl
finish_text (b ∷ bs) h = refl

finish_held : (nodes : List BegunNode) (h : ℕ) (held next : List ℕ) → held ≡ heads_held nodes → next ≡ held ++ h ∷ [] → AreHeld (finish nodes h) next
finish_held [] h held next are one = tt
finish_held (b ∷ bs) h held next are one = one ∙ ap (λ l. l ++ h ∷ []) are ∙ append_assoc (heads_held bs) b.finished (h ∷ [])

module _ (e : ℕ → ℕ → Bool) (s : NameSet) where
  finish_inside : (nodes : List BegunNode) (h : ℕ) → AreBegun e s (h ∷ []) nodes → AreBegun e s [] (finish nodes h)
  finish_inside [] h inside = tt
  finish_inside (b ∷ bs) h inside = (
    record {
      node = inside.0.node;
      below = inside.0.below;
      heads = append_assoc b.finished (h ∷ []) (head_list b.coming) ∙ inside.0.heads;
    },
    inside.1,
  )

  -- so nodes stand where a tree in them is written
  behind_tree : (whole text : List ℕ) (parts : List (OutlinePart Kind)) (begun : List Begun) (held kept : List ℕ) (nodes : List BegunNode) (h : ℕ) → AreBegun e s (h ∷ []) nodes → begun ≡ begun_nodes nodes → held ≡ heads_held nodes →
      parts ≡ parts_left nodes → text ++ text_left nodes ≡ whole → kept ≡ held ++ h ∷ [] → IsOnWay e s whole text parts begun kept
  behind_tree whole text parts begun held kept nodes h inside begun_are held_are parts_are text_is one = record {
    nodes = finish nodes h;
    inside = finish_inside nodes h inside;
    begun_are = begun_are ∙ sym (finish_begun nodes h);
    held_are = finish_held nodes h held kept held_are one;
    parts_are = parts_are ∙ sym (finish_parts nodes h);
    text_is = ap (λ l. text ++ l) (finish_text nodes h) ∙ text_is;
  }

  -- ---- what is due

  pub may_begin : (text : List ℕ) (parts : List (OutlinePart Kind)) (begun : List Begun) (held : List ℕ) (t : PlainTree) → begun ≡ [] → held ≡ [] → EachNode (IsNodeByRows e s) t → parts ≡ outline_of t → MayGoOn e s (text ++ tree_text t) text parts begun held
  may_begin text parts begun held t none no_head each are = inl (
    none,
    record {
      tree = t;
      nodes = [];
      each = each;
      inside = tt;
      begun_are = none;
      held_are = no_head;
      parts_are = are ∙ sym (append-nil (outline_of t));
      text_is = ap (λ l. text ++ l) (append-nil (tree_text t));
    },
  )

  due_in : (whole text marked_text : List ℕ) (part : OutlinePart Kind) (others : List (OutlinePart Kind)) (begun marked : List Begun) (held : List ℕ) → HasChildLeft begun → IsMarkPut text begun marked_text marked →
      (nodes : List BegunNode) → AreBegun e s [] nodes → begun ≡ begun_nodes nodes → AreHeld nodes held → part ∷ others ≡ parts_left nodes → text ++ text_left nodes ≡ whole → IsDue e s whole marked_text (part ∷ others) marked held
  due_in whole text marked_text part others begun marked held ready is [] inside begun_are held_are parts_are text_is = absurd (let f : part ∷ others ≡ [] = parts_are in cc)
  due_in whole text marked_text part others begun marked held ready is (b ∷ bs) inside begun_are held_are parts_are text_is = by_coming b.coming refl
    where
      by_coming : (cs : PlainTrees) → b.coming ≡ cs → IsDue e s whole marked_text (part ∷ others) marked held
      by_coming no_tree none = let l : 0 < count b.coming = ready (begun_nodes bs) (begun_node b) begun_are in let n : count b.coming ≡ 0 = ap count none in absurd (omega arith)
      by_coming (one_more t ts) some =
          let m = is.some (begun_nodes bs) (begun_node b) begun_are in
          let one : count b.coming ≡ suc (count ts) = ap count some in
          let less : count b.coming - 1 ≡ count ts = omega arith in
          let each : EachNodeBelow (IsNodeByRows e s) (one_more t ts) = subst (EachNodeBelow (IsNodeByRows e s)) some inside.0.below in
          record {
            tree = t;
            nodes = record b { coming = ts; mark = 44 } ∷ bs;
            each = each.0;
            inside = (
              record { node = inside.0.node; below = each.1; heads = ap (λ l. b.finished ++ head_list l) (sym some) ∙ inside.0.heads },
              inside.1,
            );
            begun_are = m.1 ∙ ap (λ n. begun_nodes bs ++ record (begun_node b) { left = n; mark = 44 } ∷ []) less;
            held_are = held_are;
            parts_are = parts_are ∙ ap (λ l. row_outline l ++ parts_left bs) some ∙ append_assoc (outline_of t) (row_outline ts) (parts_left bs);
            text_is =
                let last = pairs_text 59 b.pairs ++ 41 ∷ [] in
                ap (λ l. l ++ (tree_text t ++ ((row_text 44 ts ++ last) ++ text_left bs))) m.0
                ∙ append_assoc text (b.mark ∷ []) (tree_text t ++ ((row_text 44 ts ++ last) ++ text_left bs))
                ∙ ap (λ l. text ++ b.mark ∷ l) (sym (append_assoc (tree_text t) (row_text 44 ts ++ last) (text_left bs)) ∙ ap (λ l. l ++ text_left bs) (sym (append_assoc (tree_text t) (row_text 44 ts) last)))
                ∙ ap (λ l. text ++ ((row_text b.mark l ++ last) ++ text_left bs)) (sym some) ∙ text_is;
          }

  pub due_next : (whole text marked_text : List ℕ) (part : OutlinePart Kind) (others : List (OutlinePart Kind)) (begun marked : List Begun) (held : List ℕ) → HasChildLeft begun → IsMarkPut text begun marked_text marked →
      MayGoOn e s whole text (part ∷ others) begun held → IsDue e s whole marked_text (part ∷ others) marked held
  due_next whole text marked_text part others begun marked held ready is (inl start) =
      let m = is.none start.0 in
      subst (λ l. IsDue e s whole l (part ∷ others) marked held) (sym m.0) (subst (λ l. IsDue e s whole text (part ∷ others) l held) (start.0 ∙ sym m.1) start.1)
  due_next whole text marked_text part others begun marked held ready is (inr way) =
      due_in whole text marked_text part others begun marked held ready is way.nodes way.inside way.begun_are way.held_are way.parts_are way.text_is

  -- ---- a name, and the letter of a node

  module _ (whole text next : List ℕ) (others : List (OutlinePart Kind)) (begun : List Begun) (held : List ℕ) where
    pub name_put : (v : ℕ) (kept : List ℕ) → IsDue e s whole text (Name v ∷ others) begun held → next ≡ text ++ decimal v → kept ≡ held ++ v ∷ [] → IsOnWay e s whole next others begun kept
    name_put v kept due put one = by_tree due.tree due.inside due.parts_are due.text_is
      where
        by_tree : (t : PlainTree) → AreBegun e s (head t ∷ []) due.nodes → Name v ∷ others ≡ outline_of t ++ parts_left due.nodes → text ++ (tree_text t ++ text_left due.nodes) ≡ whole → IsOnWay e s whole next others begun kept
        by_tree (leaf w) inside parts text_is =
            let same : v ≡ w = cc in
            let rest : others ≡ parts_left due.nodes = cc in
            behind_tree whole next others begun held kept due.nodes w inside due.begun_are due.held_are rest
            (ap (λ l. l ++ text_left due.nodes) (put ∙ ap (λ n. text ++ decimal n) same) ∙ append_assoc text (decimal w) (text_left due.nodes) ∙ text_is) (one ∙ ap (λ n. held ++ n ∷ []) same)
        by_tree (node k cs ps) inside parts text_is = let f : Name v ≡ Node k (count cs) = cc in absurd (cc)

    pub letter_put : (k : Kind) (n : ℕ) (opened : List Begun) → IsDue e s whole text (Node k n ∷ others) begun held → next ≡ text ++ letter k ∷ [] →
        opened ≡ begun ++ record { kind = k; count = n; left = n; mark = 40 } ∷ [] → IsOnWay e s whole next others opened held
    letter_put k n opened due put one = by_tree due.tree due.each due.inside due.parts_are due.text_is
      where
        by_tree : (t : PlainTree) → EachNode (IsNodeByRows e s) t → AreBegun e s (head t ∷ []) due.nodes → Node k n ∷ others ≡ outline_of t ++ parts_left due.nodes → text ++ (tree_text t ++ text_left due.nodes) ≡ whole →
            IsOnWay e s whole next others opened held
        by_tree (leaf w) each inside parts text_is = let f : Node k n ≡ Name w = cc in absurd (cc)
        by_tree (node l cs ps) each inside parts text_is =
            let kind : k ≡ l = cc in
            let size : n ≡ count cs = cc in
            let rest : others ≡ row_outline cs ++ parts_left due.nodes = cc in
            record {
              nodes = record { kind = l; children = cs; pairs = ps; finished = []; coming = cs; mark = 40 } ∷ due.nodes;
              inside = (record { node = each.0; below = each.1; heads = refl }, inside);
              begun_are = one ∙ ap₂ (λ b o. b ++ o ∷ []) due.begun_are (ap₂ (λ c m. record { kind = c; count = m; left = m; mark = 40 }) kind size);
              held_are = due.held_are ∙ sym (append-nil (heads_held due.nodes));
              parts_are = rest;
              text_is =
                  ap (λ x. x ++ ((row_text 40 cs ++ (pairs_text 59 ps ++ 41 ∷ [])) ++ text_left due.nodes)) (put ∙ ap (λ c. text ++ letter c ∷ []) kind)
                  ∙ append_assoc text (letter l ∷ []) ((row_text 40 cs ++ (pairs_text 59 ps ++ 41 ∷ [])) ++ text_left due.nodes) ∙ text_is;
            }

  -- ---- a name among the children of a node

  pub name_next : (whole text next : List ℕ) (others : List (OutlinePart Kind)) (outer : List Begun) (o p : Begun) (held kept : List ℕ) (v : ℕ) → 0 < o.left → p ≡ record o { left = o.left - 1; mark = 44 } →
      next ≡ (text ++ o.mark ∷ []) ++ decimal v → kept ≡ held ++ v ∷ [] → IsOnWay e s whole text (Name v ∷ others) (outer ++ o ∷ []) held → IsOnWay e s whole next others (outer ++ p ∷ []) kept
  name_next whole text next others outer o p held kept v some less put one way =
      let marked = text ++ o.mark ∷ [] in
      name_put whole marked next others (outer ++ p ∷ []) held v kept (due_next whole text marked (Name v) others (outer ++ o ∷ []) (outer ++ p ∷ []) held ready is (inr way)) put one
    where
      ready : HasChildLeft (outer ++ o ∷ [])
      ready os q f = subst (λ x. 0 < x.left) (same_from_push outer os o q f).1 some

      is : IsMarkPut text (outer ++ o ∷ []) (text ++ o.mark ∷ []) (outer ++ p ∷ [])
      is = record {
        none = λ f. absurd (no_snoc outer o (sym f));
        some = λ os q f.
            let same = same_from_push outer os o q f in (
              ap (λ x. text ++ x.mark ∷ []) same.1,
              ap₂ (λ l (x : Begun). l ++ x ∷ []) same.0 (less ∙ ap {A = Begun} (λ x. record x { left = x.left - 1; mark = 44 }) same.1),
            );
      }

  -- ---- the end of a node

  -- what the end of the innermost node finds on the stacks
  record IsEnding (whole text : List ℕ) (parts : List (OutlinePart Kind)) (front : List Begun) (o : Begun) (held : List ℕ) : Type 0 where
    b : BegunNode
    outer : List BegunNode
    o_is : o ≡ begun_node b
    front_are : front ≡ begun_nodes outer
    inside : AreBegun e s (head_at b.children 0 ∷ []) outer
    node : IsNodeByRows e s b.kind b.children b.pairs
    held_are : held ≡ heads_held outer ++ head_list b.children
    parts_are : parts ≡ parts_left outer
    text_is : text ++ ((pairs_text 59 b.pairs ++ 41 ∷ []) ++ text_left outer) ≡ whole

  ending : (whole text : List ℕ) (parts : List (OutlinePart Kind)) (begun front : List Begun) (o : Begun) (held : List ℕ) → begun ≡ front ++ o ∷ [] → o.left ≡ 0 → IsOnWay e s whole text parts begun held → IsEnding whole text parts front o held
  ending whole text parts begun front o held cut none way = by_nodes way.nodes way.inside way.begun_are way.held_are way.parts_are way.text_is
    where
      by_nodes : (nodes : List BegunNode) → AreBegun e s [] nodes → begun ≡ begun_nodes nodes → AreHeld nodes held → parts ≡ parts_left nodes → text ++ text_left nodes ≡ whole → IsEnding whole text parts front o held
      by_nodes [] inside begun_are held_are parts_are text_is = absurd (no_snoc front o (sym begun_are ∙ cut))
      by_nodes (b ∷ bs) inside begun_are held_are parts_are text_is = by_coming b.coming refl
        where
          ends : (front ≡ begun_nodes bs) × (o ≡ begun_node b)
          ends = same_from_push front (begun_nodes bs) o (begun_node b) (sym cut ∙ begun_are)

          by_coming : (cs : PlainTrees) → b.coming ≡ cs → IsEnding whole text parts front o held
          by_coming no_tree is = record {
            b = b;
            outer = bs;
            o_is = ends.1;
            front_are = ends.0;
            inside = inside.1;
            node = inside.0.node;
            held_are = held_are ∙ ap (λ l. heads_held bs ++ l) (sym (append-nil b.finished) ∙ ap (λ l. b.finished ++ head_list l) (sym is) ∙ inside.0.heads);
            parts_are = parts_are ∙ ap (λ l. row_outline l ++ parts_left bs) is;
            text_is = ap (λ l. text ++ ((row_text b.mark l ++ (pairs_text 59 b.pairs ++ 41 ∷ [])) ++ text_left bs)) (sym is) ∙ text_is;
          }
          by_coming (one_more t ts) is = let l : count b.coming ≡ suc (count ts) = ap count is in let n : o.left ≡ count b.coming = ap (λ x. x.left) ends.1 in absurd (omega arith)

  module _ (whole text : List ℕ) (parts : List (OutlinePart Kind)) (begun front : List Begun) (o : Begun) (held : List ℕ) (cut : begun ≡ front ++ o ∷ []) (none : o.left ≡ 0) (way : IsOnWay e s whole text parts begun held) where
    abbrev at : IsEnding whole text parts front o held
    at = ending whole text parts begun front o held cut none way

    count_is : o.count ≡ length (head_list at.b.children)
    count_is = ap (λ x. x.count) at.o_is ∙ sym (count_heads at.b.children)

    held_size : length held ≡ length (heads_held at.outer) + length (head_list at.b.children)
    held_size = ap length at.held_are ∙ length-append (heads_held at.outer) (head_list at.b.children)

    first_is : length held - o.count ≡ length (heads_held at.outer)
    first_is = let a = count_is in let b = held_size in omega arith

    own_heads : drop (length held - o.count) held ≡ head_list at.b.children
    own_heads = ap (drop (length held - o.count)) at.held_are ∙ drop_at (heads_held at.outer) (head_list at.b.children) (length held - o.count) (sym first_is)

    pub heads_there : o.count ≤ length held
    heads_there = let a = count_is in let b = held_size in omega arith

    pub heads_stand : AreHeadsOf s (drop (length held - o.count) held)
    heads_stand = subst (AreHeadsOf s) (sym own_heads) at.node.heads

    first_head : (cs : PlainTrees) (front_heads : List ℕ) → 0 < length (head_list cs) → take (length front_heads + 1) (front_heads ++ head_list cs) ≡ front_heads ++ head_at cs 0 ∷ []
    first_head no_tree front_heads some = absurd (let b : 0 < 0 = some in omega arith)
    first_head (one_more t ts) [] some = refl
    first_head (one_more t ts) (x ∷ xs) some =
        let n : suc (length xs) + 1 ≡ suc (length xs + 1) = omega arith in
        ap (λ k. take k (x ∷ (xs ++ head_list (one_more t ts)))) n ∙ ap (λ l. x ∷ l) (first_head (one_more t ts) xs some)

    pub end_put : (next kept : List ℕ) → next ≡ text ++ (pairs_text 59 (pairs_by_rows e o.kind (drop (length held - o.count) held)) ++ 41 ∷ []) → kept ≡ take (length held - o.count + 1) held → IsOnWay e s whole next parts front kept
    end_put next kept put cut_heads =
        let kind : o.kind ≡ at.b.kind = ap (λ x. x.kind) at.o_is in
        let pairs : pairs_by_rows e o.kind (drop (length held - o.count) held) ≡ at.b.pairs = ap₂ (pairs_by_rows e) kind own_heads ∙ sym at.node.pairs in
        behind_tree whole next parts front (heads_held at.outer) kept at.outer (head_at at.b.children 0) at.inside at.front_are refl at.parts_are
        (ap (λ l. l ++ text_left at.outer) (put ∙ ap (λ p. text ++ (pairs_text 59 p ++ 41 ∷ [])) pairs) ∙ append_assoc text (pairs_text 59 at.b.pairs ++ 41 ∷ []) (text_left at.outer) ∙ at.text_is)
        (cut_heads ∙ ap₂ (λ n l. take (n + 1) l) first_is at.held_are ∙ first_head at.b.children (heads_held at.outer) at.node.heads.some)

  -- ---- behind the last part

  pub all_written : (whole text : List ℕ) (begun : List Begun) (held : List ℕ) → HasChildLeft begun → MayGoOn e s whole text [] begun held → text ≡ whole
  all_written whole text begun held ready (inl start) = absurd (by_tree start.1.tree start.1.parts_are)
    where
      by_tree : (t : PlainTree) → [] ≡ outline_of t ++ parts_left start.1.nodes → ⊥
      by_tree (leaf w) f = cc
      by_tree (node k cs ps) f = cc
  all_written whole text begun held ready (inr way) = by_nodes way.nodes way.begun_are way.parts_are way.text_is
    where
      by_nodes : (nodes : List BegunNode) → begun ≡ begun_nodes nodes → [] ≡ parts_left nodes → text ++ text_left nodes ≡ whole → text ≡ whole
      by_nodes [] begun_are parts_are text_is = sym (append-nil text) ∙ text_is
      by_nodes (b ∷ bs) begun_are parts_are text_is = by_coming b.coming refl
        where
          by_coming : (cs : PlainTrees) → b.coming ≡ cs → text ≡ whole
          by_coming no_tree is = let l : 0 < count b.coming = ready (begun_nodes bs) (begun_node b) begun_are in let n : count b.coming ≡ 0 = ap count is in absurd (omega arith)
          by_coming (one_more t ts) is = absurd (by_tree t (parts_are ∙ ap (λ l. row_outline l ++ parts_left bs) is ∙ append_assoc (outline_of t) (row_outline ts) (parts_left bs)))
            where
              by_tree : (u : PlainTree) → [] ≡ outline_of u ++ (row_outline ts ++ parts_left bs) → ⊥
              by_tree (leaf w) f = cc
              by_tree (node k cs ps) f = cc

-- ---- the names of a tree

module _ (limit : ℕ) where
  mutual
    parts_below : (t : PlainTree) → ((v : ℕ) → Has (names t) v → v < limit) → All (IsPartBelow limit) (outline_of t)
    parts_below (leaf v) below = All-cons (IsPartBelow limit) (Name v) [] (below v (only_has v)) (All-nil (IsPartBelow limit))
    parts_below (node k cs ps) below = All-cons (IsPartBelow limit) (Node k (count cs)) (row_outline cs) tt (row_below cs below)

    row_below : (cs : PlainTrees) → ((v : ℕ) → Has (names_below cs) v → v < limit) → All (IsPartBelow limit) (row_outline cs)
    row_below no_tree below = All-nil (IsPartBelow limit)
    row_below (one_more t ts) below =
        All-append (IsPartBelow limit) (outline_of t) (row_outline ts) (parts_below t (λ v h. below v (union_left (names t) (names_below ts) v h)))
        (row_below ts (λ v h. below v (union_right (names t) (names_below ts) v h)))

  -- a name that stands in an outline is one of the names
  pub name_below : (parts others : List (OutlinePart Kind)) (at v : ℕ) → All (IsPartBelow limit) parts → drop at parts ≡ Name v ∷ others → v < limit
  name_below parts others at v below cut = All-head (IsPartBelow limit) (Name v) others (subst (All (IsPartBelow limit)) cut (All-drop (IsPartBelow limit) at parts below))

-- ---- a tree, or none

no_outline : (t : PlainTree) → length (outline_of t) ≡ 0 → ⊥
no_outline (leaf v) none = let f : suc 0 ≡ 0 = none in omega arith
no_outline (node k cs ps) none = let f : suc (length (row_outline cs)) ≡ 0 = none in omega arith

pub text_of_none : (parts : List (OutlinePart Kind)) (t : Option PlainTree) → length parts ≡ 0 → parts ≡ outline_option t → codes "empty" ≡ text_of t
text_of_none parts None none are = refl
text_of_none parts (Some t) none are = absurd (no_outline t (ap length (sym are) ∙ none))

module _ {g : PlainGraph} (graph : IsGraph g) (parts : List (OutlinePart Kind)) (some : 0 < length parts) where
  none_left : parts ≡ [] → ⊥
  none_left f = let l : length parts ≡ 0 = ap length f in omega arith

  pub all_below : (bound limit : ℕ) → bound ≤ limit → ((v : ℕ) → Has g.vertices v → v < bound) → (t : Option PlainTree) → IsTree (adjacent g) g.vertices t → parts ≡ outline_option t → All (IsPartBelow limit) parts
  all_below bound limit within above None is are = absurd (none_left are)
  all_below bound limit within above (Some t) is are =
      subst (All (IsPartBelow limit)) (sym are)
      (parts_below limit t (λ v h. let low : v < bound = above v (subst (λ s. Has s v) (tree_names g.vertices t is) h) in omega arith))

  pub some_tree : (t : Option PlainTree) → IsTree (adjacent g) g.vertices t → parts ≡ outline_option t → (u : PlainTree) × EachNode (IsNodeByRows (adjacent g) g.vertices) u × (parts ≡ outline_of u)
  some_tree None is are = absurd (none_left are)
  some_tree (Some t) is are = (t, rows_tell graph t is, are)

  pub text_of_some : (text next : List ℕ) → ((u : PlainTree) → EachNode (IsNodeByRows (adjacent g) g.vertices) u → parts ≡ outline_of u → next ≡ text ++ tree_text u) →
      (t : Option PlainTree) → IsTree (adjacent g) g.vertices t → parts ≡ outline_option t → next ≡ text ++ text_of t
  text_of_some text next put None is are = absurd (none_left are)
  text_of_some text next put (Some t) is are = put t (rows_tell graph t is) are
