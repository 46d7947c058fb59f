-- Lists turned round, and the outlines of trees from the last to the first.
use Rattle.std.proofs.Common.{◌≡◌, List, [], ◌∷◌, ◌++◌, reverse, refl, sym, ◌∙◌, ap, subst, inl, inr}
use Rattle.std.proofs.lemmas.List.{reverse-append}
use Rattle.md_text.proofs.Lists.{In, in_left, in_right}
use Rattle.md_tree.specs.Trees.{PlainTreeOf, PlainTreesOf, row, EachNodeBelow}
use Rattle.md_tree.proofs.Folding.{each_join}
use Rattle.md_outline.specs.declared.outline.OutlinePart.{OutlinePart}
use Rattle.md_outline.specs.Outlines.{row_outline}
use Rattle.md_outline.proofs.TreeOutlines.{outline-append}
use Rattle.md_decompose.proofs.Waiting.{IsLaidBackward}

pub reverse_more : {A : Type 0} (x : A) (xs : List A) → reverse (x ∷ xs) ≡ reverse xs ++ x ∷ []
reverse_more x xs = reverse-append (x ∷ []) xs

pub in_reverse : {A : Type 0} (xs : List A) (y : A) → In xs y → In (reverse xs) y
in_reverse [] y i = absurd i
in_reverse (x ∷ xs) y (inl same) = subst (λ ys. In ys y) (sym (reverse_more x xs)) (in_right (reverse xs) (x ∷ []) y (inl same))
in_reverse (x ∷ xs) y (inr i) = subst (λ ys. In ys y) (sym (reverse_more x xs)) (in_left (reverse xs) (x ∷ []) y (in_reverse xs y i))

pub each_reverse : {K P : Type 0} (N : K → PlainTreesOf K P → List P → Type 0) (ts : List (PlainTreeOf K P)) → EachNodeBelow N (row ts) → EachNodeBelow N (row (reverse ts))
each_reverse N [] each = tt
each_reverse N (t ∷ ts) each = subst (λ us. EachNodeBelow N (row us)) (sym (reverse_more t ts)) (each_join N (reverse ts) (t ∷ []) (each_reverse N ts each.1) (each.0, tt))

-- the outlines of trees, that of the last one first
abbrev pub laid_outlines : {K P : Type 0} → List (PlainTreeOf K P) → List (OutlinePart K)
laid_outlines ts = row_outline (row (reverse ts))

pub outlines_laid : {K P : Type 0} → IsLaidBackward (laid_outlines {K = K} {P = P})
outlines_laid = record {
  none = refl;
  append = λ xs ys. ap (λ ts. row_outline (row ts)) (reverse-append xs ys) ∙ outline-append (reverse ys) (reverse xs);
}
