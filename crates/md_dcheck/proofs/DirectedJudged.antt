-- Whether a text is that of the line with the tree of a directed graph.
use Rattle.std.proofs.Common.{◌≡◌, ◌≢◌, ◌↔◌, ℕ, Bool, List, ◌∷◌, ◌++◌, codes, Option, Some, None, refl, sym, ◌∙◌, ap, subst}
use Rattle.std.specs.FinSet.{empty}
use Rattle.std.specs.Prelude.{IsTrue}
use Rattle.md_digraph.specs.PlainDigraph.{PlainDigraph, has_arc_to}
use Rattle.md_tree.proofs.Texts.{one_text_proof}
use Rattle.md_dtree.specs.DirectedTrees.{PlainDTree, IsDirectedTree}
use Rattle.md_dtree.specs.DirectedTexts.{directed_text_of}
use Rattle.md_dtree.proofs.ArcKinds.{directed_spelling_law}
use Rattle.md_dtree.proofs.OneDirected.{one_tree_proof}
use Rattle.md_dcheck.specs.DirectedReports.{DirectedLine, directed_tree, directed_line_text, HasDirectedTree}
use Rattle.md_dcheck.specs.DueDigraphs.{HasTreeText}

-- a tree that has the text is the tree of the directed graph exactly where that has the text
pub fits_text : (g : PlainDigraph) (text : List ℕ) (o : Option PlainDTree) (fit : Bool) → text ≡ directed_text_of o → (IsTrue fit ↔ HasTreeText g text) → (IsTrue fit ↔ IsDirectedTree (has_arc_to g) g.vertices o)
fits_text g text o fit is told = (
  (λ yes. let t = told.0 yes in subst (IsDirectedTree (has_arc_to g) g.vertices) (one_text_proof directed_spelling_law t.0 o (sym t.2 ∙ is)) t.1),
  λ tree. told.1 (o, tree, is),
)

-- where there is no vertex, there is no tree, and its text is a word
pub no_tree : (g : PlainDigraph) (o : Option PlainDTree) → g.vertices ≡ empty → IsDirectedTree (has_arc_to g) g.vertices o → o ≡ None
no_tree g o none is = let one = one_tree_proof (has_arc_to g) g.vertices in one.2 o is ∙ sym (one.2 None none)

pub word_for_none : (g : PlainDigraph) (text : List ℕ) (fit : Bool) → g.vertices ≡ empty → (IsTrue fit ↔ text ≡ codes "empty") → (IsTrue fit ↔ HasTreeText g text)
word_for_none g text fit none told = (
  (λ yes. (None, none, told.0 yes)),
  λ some. told.1 (some.2 ∙ ap directed_text_of (no_tree g some.0 none some.1)),
)

-- else the text is that of a tree
pub text_of_some : (g : PlainDigraph) (text : List ℕ) (fit : Bool) → (g.vertices ≡ empty → ⊥) →
    (IsTrue fit ↔ ((t : PlainDTree) × IsDirectedTree (has_arc_to g) g.vertices (Some t) × (text ≡ directed_text_of (Some t)))) → (IsTrue fit ↔ HasTreeText g text)
text_of_some g text fit some told = (
  (λ yes. let t = told.0 yes in (Some t.0, t.1, t.2)),
  λ has. by_tree has.0 has.1 has.2,
)
  where
    by_tree : (o : Option PlainDTree) → IsDirectedTree (has_arc_to g) g.vertices o → text ≡ directed_text_of o → IsTrue fit
    by_tree None none is = absurd (some none)
    by_tree (Some t) tree is = told.1 (t, tree, is)

-- the line with a tree begins with its word
pub tree_line : (g : PlainDigraph) (text rest : List ℕ) (fit : Bool) → text ≡ codes "t " ++ rest → (IsTrue fit ↔ HasTreeText g rest) →
    (IsTrue fit ↔ ((line : DirectedLine) × HasDirectedTree g line × (text ≡ directed_line_text line)))
tree_line g text rest fit cut told = (
  (λ yes. let t = told.0 yes in (directed_tree t.0, (t.0, t.1, refl), cut ∙ ap (λ (r : List ℕ). codes "t " ++ r) t.2)),
  λ some. told.1 (some.1.0, some.1.1, behind 116 32 rest (directed_text_of some.1.0) (sym cut ∙ some.2 ∙ ap directed_line_text some.1.2)),
)
  where
    behind : (x y : ℕ) (xs ys : List ℕ) → x ∷ y ∷ xs ≡ x ∷ y ∷ ys → xs ≡ ys
    behind x y xs ys same = cc

pub other_line : (g : PlainDigraph) (text : List ℕ) → ((rest : List ℕ) → text ≢ codes "t " ++ rest) → ((line : DirectedLine) × HasDirectedTree g line × (text ≡ directed_line_text line)) → ⊥
other_line g text none some = none (directed_text_of some.1.0) (some.2 ∙ ap directed_line_text some.1.2)
