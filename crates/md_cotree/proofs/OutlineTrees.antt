-- The trees whose outlines stand one behind the other: they are read from the last part to the first.
use Rattle.std.proofs.Common.{◌≡◌, List, [], ◌∷◌, ◌++◌, length, take, drop, refl, sym, ◌∙◌, ap, subst, arith, append_assoc, append-nil, length-append}
use Rattle.std.proofs.Math.Seq.{take-append_seam, drop-append_seam}
use Rattle.std.proofs.lemmas.List.{take-append-drop, length-take}
use Rattle.std.specs.Prelude.{⊤}
use Rattle.md_tree.specs.declared.Kind.{Kind}
use Rattle.md_tree.specs.Parts.{listed}
use Rattle.md_tree.specs.Trees.{PlainTree, leaf, node, PlainTrees, no_tree, one_more, count, row, EachNode, EachNodeBelow}
use Rattle.md_tree.specs.WellFormed.{IsCanonicalNode, IsCanonicalTree}
use Rattle.md_tree.proofs.Folding.{count_row, row_listed, length_listed}
use Rattle.md_outline.specs.declared.outline.OutlinePart.{OutlinePart}
use Rattle.md_outline.specs.declared.outline.OutlinePart.TheVariants.{Name, Node}
use Rattle.md_outline.specs.Outlines.{outline_of, row_outline}
use Rattle.md_outline.proofs.TreeOutlines.{outline-append}
use Rattle.md_cotree.specs.Forests.{with_outline_part, HasTreesFor}
use Rattle.md_cotree.proofs.Cographs.{NotPrime, plain_shape}

-- the trees that these parts tell
abbrev pub trees_told : List (OutlinePart Kind) → List PlainTree
trees_told [] = []
trees_told (p ∷ ps) = with_outline_part p (trees_told ps)

-- behind each part come the trees of its children
abbrev pub FindTrees : List (OutlinePart Kind) → Type 0
FindTrees [] = ⊤
FindTrees (p ∷ ps) = HasTreesFor p (trees_told ps) × FindTrees ps

mutual
  pub told_tree : (t : PlainTree) → IsCanonicalTree t → EachNode NotPrime t → (ps : List (OutlinePart Kind)) → trees_told (outline_of t ++ ps) ≡ t ∷ trees_told ps
  told_tree (leaf v) each not ps = refl
  told_tree (node k cs qs) each not ps =
      ap (λ zs. node k (row (take (count cs) zs)) [] ∷ drop (count cs) zs) (told_row cs each.1 not.1 ps)
      ∙ ap (λ n. node k (row (take n (listed cs ++ trees_told ps))) [] ∷ drop n (listed cs ++ trees_told ps)) (sym (length_listed cs))
      ∙ (λ i. node k (row (take-append_seam (listed cs) (trees_told ps) i)) [] ∷ drop-append_seam (listed cs) (trees_told ps) i)
      ∙ (λ i. node k (row_listed cs i) (sym (plain_shape k cs qs not.0 each.0.shape).no_pairs i) ∷ trees_told ps)

  told_row : (cs : PlainTrees) → EachNodeBelow IsCanonicalNode cs → EachNodeBelow NotPrime cs → (ps : List (OutlinePart Kind)) → trees_told (row_outline cs ++ ps) ≡ listed cs ++ trees_told ps
  told_row no_tree each not ps = refl
  told_row (one_more t ts) each not ps =
      ap trees_told (append_assoc (outline_of t) (row_outline ts) ps) ∙ told_tree t each.0 not.0 (row_outline ts ++ ps) ∙ ap (λ zs. t ∷ zs) (told_row ts each.1 not.1 ps)

mutual
  find_tree : (t : PlainTree) → IsCanonicalTree t → EachNode NotPrime t → (ps : List (OutlinePart Kind)) → FindTrees ps → FindTrees (outline_of t ++ ps)
  find_tree (leaf v) each not ps rest = (tt, rest)
  find_tree (node k cs qs) each not ps rest = (
    (let e = ap length (told_row cs each.1 not.1 ps) in let a = length-append (listed cs) (trees_told ps) in let n = length_listed cs in omega arith),
    find_row cs each.1 not.1 ps rest,
  )

  find_row : (cs : PlainTrees) → EachNodeBelow IsCanonicalNode cs → EachNodeBelow NotPrime cs → (ps : List (OutlinePart Kind)) → FindTrees ps → FindTrees (row_outline cs ++ ps)
  find_row no_tree each not ps rest = rest
  find_row (one_more t ts) each not ps rest =
      subst FindTrees (sym (append_assoc (outline_of t) (row_outline ts) ps)) (find_tree t each.0 not.0 (row_outline ts ++ ps) (find_row ts each.1 not.1 ps rest))

pub find_all : (t : PlainTree) → IsCanonicalTree t → EachNode NotPrime t → FindTrees (outline_of t)
find_all t each not = subst FindTrees (append-nil (outline_of t)) (find_tree t each not [] tt)

pub told_all : (t : PlainTree) → IsCanonicalTree t → EachNode NotPrime t → trees_told (outline_of t) ≡ t ∷ []
told_all t each not = ap trees_told (sym (append-nil (outline_of t))) ∙ told_tree t each not []

pub find_rest : (ps qs : List (OutlinePart Kind)) → FindTrees (ps ++ qs) → FindTrees qs
find_rest [] qs find = find
find_rest (p ∷ ps) qs find = find_rest ps qs find.1

outline_put : (p : OutlinePart Kind) (zs : List PlainTree) → HasTreesFor p zs → row_outline (row (with_outline_part p zs)) ≡ p ∷ row_outline (row zs)
outline_put (Name v) zs has = refl
outline_put (Node k n) zs has =
    let long : count (row (take n zs)) ≡ n = count_row (take n zs) ∙ omega (arith, length-take n zs) in
    ap (λ m. Node k m ∷ (row_outline (row (take n zs)) ++ row_outline (row (drop n zs)))) long
    ∙ ap (λ ps. Node k n ∷ ps) (sym (outline-append (take n zs) (drop n zs)) ∙ ap (λ ts. row_outline (row ts)) (take-append-drop n zs))

-- the outlines of the trees that the parts tell are the parts
pub outline_told : (ps : List (OutlinePart Kind)) → FindTrees ps → row_outline (row (trees_told ps)) ≡ ps
outline_told [] find = refl
outline_told (p ∷ ps) find = outline_put p (trees_told ps) find.0 ∙ ap (λ qs. p ∷ qs) (outline_told ps find.1)
