-- The trees of the entries of an outline, while it is made and when it is read off.
use Rattle.std.proofs.Common.{◌≡◌, ℕ, ◌+◌, ◌-◌, ◌<◌, ◌≤◌, List, [], ◌∷◌, ◌++◌, length, Some, get_or, take, drop, map, reverse, refl, sym, ◌∙◌, ap, subst, arith, length-append, length-drop, append_assoc}
use Rattle.std.proofs.lemmas.List.{map-append, take-map, drop-map, length-map, take_at, drop_at, take_all, take-append-le, drop-append-le, length-take, length-reverse, append-nil, reverse-append, reverse-reverse}
use Rattle.std.proofs.lemmas.List.Elements.{All-nil, All-head, All-tail, All-append, All-push, All-take, All-drop, All-weaker, All-pop}
use Rattle.std.proofs.lemmas.List.Sorted.{IsPermutation-map, IsPermutation-reverse, length_permutation, All-permutation}
use Rattle.std.specs.List.{All}
use Rattle.std.specs.List.Sorted.{IsPermutation}
use Rattle.md_lists.specs.declared.TheConstants.{PLACES}
use Rattle.md_lists.specs.Links.{Links}
use Rattle.md_tree.specs.declared.Kind.{Kind}
use Rattle.md_tree.specs.Parts.{PlainPart, name, inner as inner_part, parts_of}
use Rattle.md_tree.specs.Trees.{PlainTree, leaf, node, count, row}
use Rattle.md_tree.proofs.Folding.{count_row}
use Rattle.md_outline.specs.declared.outline.OutlinePart.{OutlinePart}
use Rattle.md_outline.specs.declared.outline.OutlinePart.TheVariants.{Name, Node}
use Rattle.md_outline.specs.Outlines.{outline_of, row_outline}
use Rattle.md_outline.proofs.TreeOutlines.{map_reverse, outline-append}
use Rattle.md_cotree.specs.declared.outline.Entry.{Entry}
use Rattle.md_cotree.specs.Entries.{below_part, tree_over, entry_tree, entry_keyed, trees_after, table_trees, PartFits, FitsIn, AreEntryTrees, entry_least, first_least, IsNodeEntryPut, IsEntryPut, stack_outline, IsOutlineAt}
use Rattle.md_cotree.specs.Orders.{part_at, tree_of, first_key, AreFalling, IsPutOver, IsPartPut, HasBelow, HasTree}
use Rattle.md_cotree.specs.PlaceTrees.{PlaceTree, place_of, shape, Stands}
use Rattle.md_cotree.proofs.Rooted.{node_parts}
use Rattle.md_cotree.proofs.Stacked.{IsStacked, stack_one, stack_end}
use Rattle.md_cotree.proofs.Sorting.{falling_top, over_some, rising_keyed}

-- ---- a node's entry comes in place of those of its children

first_is : (sorted : List Entry) (first : Entry) → 0 < length sorted → first ≡ get_or sorted 0 first → first.least ≡ first_least sorted
first_is [] first some is = absurd (omega arith)
first_is (e ∷ es) first some is = ap entry_least is

pub node_entry_put : (k : Kind) (count below : ℕ) (stack table fallen stack' table' : List Entry) (first : Entry) → below ≡ length stack - count → 0 < count → count ≤ length stack →
    AreFalling entry_least below stack fallen → first ≡ get_or fallen (length fallen - 1) first → table' ≡ table ++ drop below fallen →
    stack' ≡ take below fallen ++ record { least = first.least; part = Node k count; first = length table } ∷ [] → IsNodeEntryPut k count stack table stack' table'
node_entry_put k count below stack table fallen stack' table' first at some few is last laid put = record {
  sorted = is.sorted;
  moved = subst (λ i. IsPermutation (drop i stack) is.sorted) at is.moved;
  rising = is.rising;
  put =
      put ∙ ap (λ l. take below l ++ record { least = first.least; part = Node k count; first = length table } ∷ []) is.whole
      ∙ ap (λ l. l ++ record { least = first.least; part = Node k count; first = length table } ∷ []) (take_at (take below stack) (reverse is.sorted) below long)
      ∙ ap (λ i. take i stack ++ record { least = first.least; part = Node k count; first = length table } ∷ []) at
      ∙ ap (λ n. take (length stack - count) stack ++ record { least = n; part = Node k count; first = length table } ∷ []) (first_is is.sorted first more (falling_top entry_least below stack fallen (omega arith) is more first last));
  laid = laid ∙ ap (λ l. table ++ drop below l) is.whole ∙ ap (λ l. table ++ l) (drop_at (take below stack) (reverse is.sorted) below long);
}
  where
    long : length (take below stack) ≡ below
    long = let e = length-take below stack in omega arith

    more : 0 < length is.sorted
    more = over_some count below stack (drop below stack) is.sorted at some few refl is.moved

-- ---- lists

same_map : {A B : Type 0} (P : A → Type 0) (f g : A → B) → ((x : A) → P x → f x ≡ g x) → (xs : List A) → All P xs → map f xs ≡ map g xs
same_map P f g same [] all = refl
same_map P f g same (x ∷ xs) all = (λ i. same x (All-head P x xs all) i ∷ same_map P f g same xs (All-tail P x xs all) i)

trees_keyed : (trees : List PlainTree) (es : List Entry) → map (entry_tree trees) es ≡ map tree_of (map (entry_keyed trees) es)
trees_keyed trees [] = refl
trees_keyed trees (e ∷ es) = ap (λ ts. entry_tree trees e ∷ ts) (trees_keyed trees es)

first_keyed : (trees : List PlainTree) (es : List Entry) → first_least es ≡ first_key (map (entry_keyed trees) es)
first_keyed trees [] = refl
first_keyed trees (e ∷ es) = refl

part_fits_more : (m n first : ℕ) (p : OutlinePart Kind) → m ≤ n → PartFits m p first → PartFits n p first
part_fits_more m n first (Name v) le fits = tt
part_fits_more m n first (Node k c) le fits = omega arith

fits_more : (m n : ℕ) → m ≤ n → (e : Entry) → FitsIn m e → FitsIn n e
fits_more m n le e fits = part_fits_more m n e.first e.part le fits

all_fit_more : (m n : ℕ) → m ≤ n → (es : List Entry) → All (FitsIn m) es → All (FitsIn n) es
all_fit_more m n le es all = All-weaker (FitsIn m) (FitsIn n) (fits_more m n le) es all

-- ---- one more part

-- an entry keeps its tree when trees join
same_tree : (trees more : List PlainTree) (e : Entry) → FitsIn (length trees) e → entry_tree (trees ++ more) e ≡ entry_tree trees e
same_tree trees more e fits = go e.part fits
  where
    go : (p : OutlinePart Kind) → PartFits (length trees) p e.first → tree_over p (below_part p e.first (trees ++ more)) ≡ tree_over p (below_part p e.first trees)
    go (Name v) fit = refl
    go (Node k n) fit =
        let rest = length-drop e.first trees in
        ap (λ ts. node k (row (reverse ts)) [])
        (ap (take n) (drop-append-le e.first trees more (omega arith)) ∙ take-append-le n (drop e.first trees) more (omega arith))

after_both : (trees : List PlainTree) (es fs : List Entry) → trees_after trees (es ++ fs) ≡ trees_after (trees_after trees es) fs
after_both trees [] fs = refl
after_both trees (e ∷ es) fs = after_both (trees ++ entry_tree trees e ∷ []) es fs

-- entries over trees that are there already
after_fit : (trees more : List PlainTree) (es : List Entry) → All (FitsIn (length trees)) es → trees_after (trees ++ more) es ≡ trees ++ (more ++ map (entry_tree trees) es)
after_fit trees more [] all = ap (λ ts. trees ++ ts) (sym (append-nil more))
after_fit trees more (e ∷ es) all =
    ap (λ ts. trees_after ts es)
    (ap (λ t. (trees ++ more) ++ t ∷ []) (same_tree trees more e (All-head (FitsIn (length trees)) e es all)) ∙ append_assoc trees more (entry_tree trees e ∷ []))
    ∙ after_fit trees (more ++ entry_tree trees e ∷ []) es (All-tail (FitsIn (length trees)) e es all)
    ∙ ap (λ ts. trees ++ ts) (append_assoc more (entry_tree trees e ∷ []) (map (entry_tree trees) es))

table_more : (table es : List Entry) → All (FitsIn (length (table_trees table))) es → table_trees (table ++ es) ≡ table_trees table ++ map (entry_tree (table_trees table)) es
table_more table es all =
    after_both [] table es ∙ ap (λ ts. trees_after ts es) (sym (append-nil (table_trees table))) ∙ after_fit (table_trees table) [] es all

module _ (trees : List PlainTree) (table stack : List Entry) (so : AreEntryTrees trees table stack) where
  pub trees_long : length table ≡ length trees
  trees_long = sym (length-map table (entry_tree trees)) ∙ ap length so.told

  fit_trees : (e : Entry) → FitsIn (length table) e → FitsIn (length trees) e
  fit_trees = fits_more (length table) (length trees) (omega (arith, trees_long))

  same_trees : (more : List PlainTree) (es : List Entry) → All (FitsIn (length table)) es → map (entry_tree (trees ++ more)) es ≡ map (entry_tree trees) es
  same_trees more es all = same_map (FitsIn (length table)) (entry_tree (trees ++ more)) (entry_tree trees) (λ e fits. same_tree trees more e (fit_trees e fits)) es all

  same_keyed : (more : List PlainTree) (es : List Entry) → All (FitsIn (length table)) es → map (entry_keyed (trees ++ more)) es ≡ map (entry_keyed trees) es
  same_keyed more es all =
      same_map (FitsIn (length table)) (entry_keyed (trees ++ more)) (entry_keyed trees) (λ e fits. ap (λ t. record { least = e.least; tree = t }) (same_tree trees more e (fit_trees e fits))) es all

  module _ (k : Kind) (n : ℕ) (few : n ≤ length stack) (stack' table' : List Entry) (is : IsNodeEntryPut k n stack table stack' table') where
    abbrev added : List PlainTree
    added = map (entry_tree trees) (reverse is.sorted)

    abbrev grown : List PlainTree
    grown = trees ++ added

    sorted_long : length is.sorted ≡ n
    sorted_long = let e = length_permutation (drop (length stack - n) stack) is.sorted is.moved in let f = length-drop (length stack - n) stack in omega arith

    added_long : length added ≡ n
    added_long = length-map (reverse is.sorted) (entry_tree trees) ∙ length-reverse is.sorted ∙ sorted_long

    table_long : length table' ≡ length table + n
    table_long = ap length is.laid ∙ length-append table (reverse is.sorted) ∙ ap (λ m. length table + m) (length-reverse is.sorted ∙ sorted_long)

    sorted_fits : All (FitsIn (length table)) (reverse is.sorted)
    sorted_fits =
        All-permutation (FitsIn (length table)) is.sorted (reverse is.sorted) (IsPermutation-reverse is.sorted)
        (All-permutation (FitsIn (length table)) (drop (length stack - n) stack) is.sorted is.moved (All-drop (FitsIn (length table)) (length stack - n) stack so.stack_fits))

    abbrev entry : Entry
    entry = record { least = first_least is.sorted; part = Node k n; first = length table }

    node_trees : AreEntryTrees grown table' stack'
    node_trees = record {
      told =
          ap (map (entry_tree grown)) is.laid ∙ map-append (entry_tree grown) table (reverse is.sorted)
          ∙ (λ i. (same_trees added table so.table_fits ∙ so.told) i ++ same_trees added (reverse is.sorted) sorted_fits i);
      table_fits =
          subst (All (FitsIn (length table'))) (sym is.laid)
          (All-append (FitsIn (length table')) table (reverse is.sorted) (all_fit_more (length table) (length table') (omega (arith, table_long)) table so.table_fits)
          (all_fit_more (length table) (length table') (omega (arith, table_long)) (reverse is.sorted) sorted_fits));
      stack_fits =
          subst (All (FitsIn (length table'))) (sym is.put)
          (All-push (FitsIn (length table')) (take (length stack - n) stack) entry
          (all_fit_more (length table) (length table') (omega (arith, table_long)) (take (length stack - n) stack) (All-take (FitsIn (length table)) (length stack - n) stack so.stack_fits))
          (omega (arith, table_long)));
    }

    -- the tree of the node's entry
    entry_is : entry_tree grown entry ≡ node k (row (map tree_of (map (entry_keyed trees) is.sorted))) []
    entry_is =
        ap (λ ts. node k (row (reverse ts)) []) (ap (take n) (drop_at trees added (length table) (sym trees_long)) ∙ take_all n added (omega (arith, added_long)))
        ∙ ap (λ ts. node k (row ts) [])
        (ap reverse (map_reverse (entry_tree trees) is.sorted) ∙ reverse-reverse (map (entry_tree trees) is.sorted) ∙ trees_keyed trees is.sorted)

    at : length (map (entry_keyed trees) stack) - n ≡ length stack - n
    at = ap (λ m. m - n) (length-map stack (entry_keyed trees))

    node_keyed : IsPutOver k n (map (entry_keyed trees) stack) (map (entry_keyed grown) stack')
    node_keyed = record {
      sorted = map (entry_keyed trees) is.sorted;
      moved =
          subst (λ xs. IsPermutation xs (map (entry_keyed trees) is.sorted))
          (sym (drop-map (entry_keyed trees) (length stack - n) stack) ∙ ap (λ i. drop i (map (entry_keyed trees) stack)) (sym at))
          (IsPermutation-map (entry_keyed trees) (drop (length stack - n) stack) is.sorted is.moved);
      rising = rising_keyed (entry_keyed trees) is.sorted is.rising;
      whole =
          ap (map (entry_keyed grown)) is.put ∙ map-append (entry_keyed grown) (take (length stack - n) stack) (entry ∷ [])
          ∙ (λ i. (same_keyed added (take (length stack - n) stack) (All-take (FitsIn (length table)) (length stack - n) stack so.stack_fits)
          ∙ sym (take-map (entry_keyed trees) (length stack - n) stack) ∙ ap (λ m. take m (map (entry_keyed trees) stack)) (sym at)) i
          ++ record { least = first_keyed trees is.sorted i; tree = entry_is i } ∷ []);
    }

-- the trees after one more part
module _ (table stack : List Entry) (so : AreEntryTrees (table_trees table) table stack) where
  node_put : (k : Kind) (n : ℕ) → n ≤ length stack → (stack' table' : List Entry) → IsNodeEntryPut k n stack table stack' table' →
      AreEntryTrees (table_trees table') table' stack' × IsPutOver k n (map (entry_keyed (table_trees table)) stack) (map (entry_keyed (table_trees table')) stack')
  node_put k n few stack' table' put =
      let trees = table_trees table in
      let fit : All (FitsIn (length trees)) (reverse put.sorted) = all_fit_more (length table) (length trees) (omega (arith, trees_long trees table stack so)) (reverse put.sorted) (sorted_fits trees table stack so k n few stack' table' put) in
      let same : table_trees table' ≡ grown trees table stack so k n few stack' table' put = ap table_trees put.laid ∙ table_more table (reverse put.sorted) fit in
      subst (λ ts. AreEntryTrees ts table' stack' × IsPutOver k n (map (entry_keyed trees) stack) (map (entry_keyed ts) stack')) (sym same)
      (node_trees trees table stack so k n few stack' table' put, node_keyed trees table stack so k n few stack' table' put)

  pub put_trees : (p : PlainPart) (stack' table' : List Entry) → HasBelow p stack → IsEntryPut p stack table stack' table' →
      AreEntryTrees (table_trees table') table' stack' × IsPartPut p (map (entry_keyed (table_trees table)) stack) (map (entry_keyed (table_trees table')) stack')
  put_trees (name v) stack' table' has put =
      let trees = table_trees table in
      subst (λ l. AreEntryTrees (table_trees l) l stack' × (map (entry_keyed (table_trees l)) stack' ≡ map (entry_keyed trees) stack ++ record { least = v; tree = leaf v } ∷ [])) (sym put.1) (
        record {
          told = so.told;
          table_fits = so.table_fits;
          stack_fits = subst (All (FitsIn (length table))) (sym put.0) (All-push (FitsIn (length table)) stack (record { least = v; part = Name v; first = 0 }) so.stack_fits tt);
        },
        ap (map (entry_keyed trees)) put.0 ∙ map-append (entry_keyed trees) stack (record { least = v; part = Name v; first = 0 } ∷ []),
      )
  put_trees (inner_part k n ps) stack' table' has put = node_put k n has.1 stack' table' put

-- each part adds an entry
pub put_long : (table stack : List Entry) (p : PlainPart) (stack' table' : List Entry) → HasBelow p stack → IsEntryPut p stack table stack' table' →
    length table' + length stack' ≡ length table + length stack + 1
put_long table stack (name v) stack' table' has put =
    let a = ap length put.0 in let b = length-append stack (record { least = v; part = Name v; first = 0 } ∷ []) in let e = ap length put.1 in omega arith
put_long table stack (inner_part k n ps) stack' table' has put =
    let few = has.1 in
    let a = ap length put.put in
    let b = length-append (take (length stack - n) stack) (record { least = first_least put.sorted; part = Node k n; first = length table } ∷ []) in
    let c = length-take (length stack - n) stack in
    let d = ap length put.laid in
    let e = length-append table (reverse put.sorted) in
    let f = length-reverse put.sorted in
    let g = length_permutation (drop (length stack - n) stack) put.sorted put.moved in
    let h = length-drop (length stack - n) stack in
    omega arith

-- ---- the outline, read off

-- the parts so far and the outlines of what waits are the whole
pub record IsReadOff (trees : List PlainTree) (table : List Entry) (whole parts : List (OutlinePart Kind)) (waiting : List Entry) : Type 0 where
  pub fits : All (FitsIn (length table)) waiting
  pub goes_on : parts ++ stack_outline trees waiting ≡ whole

module _ (trees : List PlainTree) (table stack : List Entry) (so : AreEntryTrees trees table stack) where
  outline_is : (e : Entry) → FitsIn (length table) e → outline_of (entry_tree trees e) ≡ e.part ∷ stack_outline trees (below_part e.part e.first table)
  outline_is e fits = go e.part fits
    where
      go : (p : OutlinePart Kind) → PartFits (length table) p e.first → outline_of (tree_over p (below_part p e.first trees)) ≡ p ∷ stack_outline trees (below_part p e.first table)
      go (Name v) fit = refl
      go (Node k n) fit =
          let long = trees_long trees table stack so in
          let rest = length-drop e.first trees in
          let some = length-take n (drop e.first trees) in
          let turned = length-reverse (take n (drop e.first trees)) in
          let counted : count (row (reverse (take n (drop e.first trees)))) ≡ n = count_row (reverse (take n (drop e.first trees))) ∙ omega arith in
          ap (λ m. Node k m ∷ row_outline (row (reverse (take n (drop e.first trees))))) counted
          ∙ ap (λ ts. Node k n ∷ row_outline (row (reverse ts)))
          (ap (λ ts. take n (drop e.first ts)) (sym so.told) ∙ ap (take n) (drop-map (entry_tree trees) e.first table) ∙ take-map (entry_tree trees) n (drop e.first table))

  below_fits : (p : OutlinePart Kind) (first : ℕ) → All (FitsIn (length table)) (below_part p first table)
  below_fits (Name v) first = All-nil (FitsIn (length table))
  below_fits (Node k n) first = All-take (FitsIn (length table)) n (drop first table) (All-drop (FitsIn (length table)) first table so.table_fits)

  pub read_begin : (parts : List (OutlinePart Kind)) → parts ≡ [] → IsReadOff trees table (stack_outline trees stack) parts stack
  read_begin parts none = record { fits = so.stack_fits; goes_on = ap (λ ps. ps ++ stack_outline trees stack) none }

  module _ (whole parts : List (OutlinePart Kind)) (waiting popped : List Entry) (next : Entry) (pop : waiting ≡ popped ++ next ∷ []) (is : IsReadOff trees table whole parts waiting) where
    both : All (FitsIn (length table)) popped × FitsIn (length table) next
    both = All-pop (FitsIn (length table)) waiting popped (Some next) pop is.fits

    pub next_fits : FitsIn (length table) next
    next_fits = both.1

    last_first : stack_outline trees (popped ++ next ∷ []) ≡ outline_of (entry_tree trees next) ++ stack_outline trees popped
    last_first =
        ap (λ ts. row_outline (row (reverse ts))) (map-append (entry_tree trees) popped (next ∷ []))
        ∙ ap (λ ts. row_outline (row ts)) (reverse-append (map (entry_tree trees) popped) (entry_tree trees next ∷ []))

    pub read_more : (more : List Entry) (parts' : List (OutlinePart Kind)) → parts' ≡ parts ++ next.part ∷ [] → more ≡ popped ++ below_part next.part next.first table →
        IsReadOff trees table whole parts' more
    read_more more parts' push below =
        let kids = below_part next.part next.first table in
        record {
          fits = subst (All (FitsIn (length table))) (sym below) (All-append (FitsIn (length table)) popped kids both.0 (below_fits next.part next.first));
          goes_on =
              (λ i. push i ++ stack_outline trees (below i)) ∙ append_assoc parts (next.part ∷ []) (stack_outline trees (popped ++ kids))
              ∙ ap (λ ts. parts ++ next.part ∷ row_outline (row (reverse ts))) (map-append (entry_tree trees) popped kids)
              ∙ ap (λ ts. parts ++ next.part ∷ row_outline (row ts)) (reverse-append (map (entry_tree trees) popped) (map (entry_tree trees) kids))
              ∙ ap (λ ps. parts ++ next.part ∷ ps) (outline-append (reverse (map (entry_tree trees) kids)) (reverse (map (entry_tree trees) popped)))
              ∙ ap (λ ps. parts ++ (ps ++ stack_outline trees popped)) (sym (outline_is next both.1))
              ∙ ap (λ ps. parts ++ ps) (sym last_first) ∙ ap (λ es. parts ++ stack_outline trees es) (sym pop) ∙ is.goes_on;
        }

  pub read_few : (whole parts : List (OutlinePart Kind)) (waiting : List Entry) → IsReadOff trees table whole parts waiting → length parts ≤ length whole
  read_few whole parts waiting is = let e = ap length is.goes_on in let f = length-append parts (stack_outline trees waiting) in omega arith

  pub read_end : (whole parts : List (OutlinePart Kind)) (waiting : List Entry) → waiting ≡ [] → IsReadOff trees table whole parts waiting → parts ≡ whole
  read_end whole parts waiting none is = sym (append-nil parts) ∙ ap (λ es. parts ++ stack_outline trees es) (sym none) ∙ is.goes_on

-- ---- the loop

pub entries_begin : (table stack : List Entry) → table ≡ [] → stack ≡ [] → AreEntryTrees (table_trees table) table stack
entries_begin table stack none empty =
    subst (λ l. AreEntryTrees (table_trees l) l stack) (sym none) (record {
      told = refl;
      table_fits = All-nil (FitsIn 0);
      stack_fits = subst (All (FitsIn 0)) (sym empty) (All-nil (FitsIn 0));
    })

pub entries_below : (trees : List PlainTree) (stack : List Entry) (p : PlainPart) → HasBelow p (map (entry_keyed trees) stack) → HasBelow p stack
entries_below trees stack (name v) has = tt
entries_below trees stack (inner_part k n ps) has = (has.0, (let e = length-map stack (entry_keyed trees) in let few = has.1 in omega arith))

one_entry : (stack : List Entry) → length stack ≡ 1 → (e : Entry) × (stack ≡ e ∷ [])
one_entry [] long = absurd (omega arith)
one_entry (e ∷ []) long = (e, refl)
one_entry (e ∷ f ∷ es) long = absurd (omega arith)

-- the one entry that is left
pub told_outline : (l : Links) (root : ℕ) (table stack : List Entry) (parts : List (OutlinePart Kind)) (left : List PlainPart) → left ≡ [] → HasTree l root →
    ((t : PlaceTree) → Stands l t → place_of t ≡ root → IsStacked (shape t) left (map (entry_keyed (table_trees table)) stack)) →
    parts ≡ stack_outline (table_trees table) stack → IsOutlineAt l root parts
told_outline l root table stack parts left none has stacked is =
    let trees = table_trees table in
    let long : length stack ≡ 1 = sym (length-map stack (entry_keyed trees)) ∙ stack_one (shape has.0) left (map (entry_keyed trees) stack) none (stacked has.0 has.1 has.2) in
    let one = one_entry stack long in (
      entry_tree trees one.0,
      is ∙ ap (stack_outline trees) one.1 ∙ append-nil (outline_of (entry_tree trees one.0)),
      λ t stands at loose. stack_end (shape t) left (map (entry_keyed trees) stack) [] (entry_keyed trees one.0) none (ap (map (entry_keyed trees)) one.1) (stacked t stands at) loose,
    )

-- there is an entry for each place that was gone through
pub few_begin : (l : Links) (root : ℕ) (table stack : List Entry) (places : List ℕ) → table ≡ [] → stack ≡ [] → HasTree l root →
    ((t : PlaceTree) → Stands l t → place_of t ≡ root → map (part_at l) places ≡ parts_of (shape t)) → length table + length stack + length places ≤ PLACES
few_begin l root table stack places none empty has parts =
    let a = ap length none in
    let b = ap length empty in
    let e = ap length (parts has.0 has.1 has.2) in
    let f = length-map places (part_at l) in
    let n = node_parts has.0 in
    let low = has.3 in
    omega arith
