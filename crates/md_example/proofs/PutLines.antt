-- Lines of trees, put one behind the other.
use Rattle.std.proofs.Common.{◌≡◌, ℕ, ◌+◌, ◌<◌, Bool, true, false, Option, List, [], ◌∷◌, ◌++◌, length, refl, sym, ap, subst, arith}
use Rattle.std.specs.Bool.{OnTrue, OnFalse}
use Rattle.md_digraph.specs.PlainDigraph.{PlainDigraph, has_arc_to}
use Rattle.md_dtree.specs.DirectedTexts.{directed_text_of}
use Rattle.md_dtree.specs.DirectedTrees.{PlainDTree, IsDirectedTree}
use Rattle.md_example.specs.TreeLines.{PutsTreeLines}

-- what is left to put makes up all, from the text so far
abbrev pub Leads : List PlainDigraph → List PlainDigraph → List ℕ → Type 0
Leads all left text = (after : List ℕ) → PutsTreeLines left text after → PutsTreeLines all [] after

pub leads_begin : (all left : List PlainDigraph) (text : List ℕ) → left ≡ all → text ≡ [] → Leads all left text
leads_begin all left text same none after h = subst (λ l. PutsTreeLines l [] after) same (subst (λ t. PutsTreeLines left t after) none h)

pub leads_more : (all left rest : List PlainDigraph) (g : PlainDigraph) (text new : List ℕ) → left ≡ g ∷ rest → ((tree : Option PlainDTree) × IsDirectedTree (has_arc_to g) g.vertices tree × (new ≡ text ++ directed_text_of tree ++ 10 ∷ [])) →
    Leads all left text → Leads all rest new
leads_more all left rest g text new is put leads after h =
    leads after (subst (λ l. PutsTreeLines l text after) (sym is) (put.0, put.1, subst (λ t. PutsTreeLines rest t after) put.2 h))

pub leads_end : (all left : List PlainDigraph) (text : List ℕ) → length left ≡ 0 → Leads all left text → PutsTreeLines all [] text
leads_end all [] text none leads = leads text refl
leads_end all (g ∷ gs) text none leads = absurd (omega arith)

-- where something is left it is taken
pub taken : (some : Bool) (left rest : List PlainDigraph) (g : PlainDigraph) (counter count : ℕ) → length left + counter ≡ count → counter < count → OnTrue some (left ≡ g ∷ rest) → OnFalse some (left ≡ []) → left ≡ g ∷ rest
taken true left rest g counter count long below first none = first
taken false left rest g counter count long below first none = let e = ap length none in absurd (omega arith)
