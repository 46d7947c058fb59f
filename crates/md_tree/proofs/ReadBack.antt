-- The text of a well-formed tree is read as that tree.
use Rattle.std.proofs.Common.{◌≤◌, ℕ, Bool, true, false, List, Option, Some, None, Ok, Err, refl, sym, inl, inr, arith}
use Rattle.md_tree.specs.declared.reader.TreeFault.TheVariants.{Syntax, NotCanonical, Memory}
use Rattle.md_tree.specs.Trees.{PlainTreeOf, PlainTreesOf, leaf, node, no_tree, one_more, count, EachNode, EachNodeBelow}
use Rattle.md_tree.specs.Plain.{plain_option}
use Rattle.md_tree.specs.Spellings.{Spelling, IsSpelling}
use Rattle.md_tree.specs.WellFormed.{IsCanonicalNodeBy, HasShapeIf, IsWellFormedBelow}
use Rattle.md_tree.specs.Grammar.{HasPairsIf, IsSpelledNode, IsSpelledBy}
use Rattle.md_tree.specs.Laws.{WrittenTreesAreReadBelow}
use Rattle.md_tree.proofs.Texts.{one_text_proof}

module _ {K P : Type 0} {sp : Spelling K P} (law : IsSpelling sp) where
  shape_spelled : (b : Bool) (k : K) (cs : PlainTreesOf K P) (ps : List P) → HasShapeIf sp b k cs ps → (1 ≤ count cs) × HasPairsIf b ps
  shape_spelled false k cs ps s = ((let two : 2 ≤ sp.kinds.least_count k = law.kinds.two k in let enough = s.enough in omega arith), s.no_pairs)
  shape_spelled true k cs ps s = ((let two : 2 ≤ sp.kinds.least_count k = law.kinds.two k in let enough = s.enough in omega arith), s.some_pair)

  mutual
    spelled_tree : (t : PlainTreeOf K P) → EachNode (IsCanonicalNodeBy sp) t → EachNode (IsSpelledNode sp) t
    spelled_tree (leaf v) c = tt
    spelled_tree (node k cs ps) c =
        let s = shape_spelled (sp.kinds.lists k) k cs ps c.0.shape in
        (record { some_child = s.0; pairs = s.1 }, spelled_row cs c.1)

    spelled_row : (ts : PlainTreesOf K P) → EachNodeBelow (IsCanonicalNodeBy sp) ts → EachNodeBelow (IsSpelledNode sp) ts
    spelled_row no_tree c = tt
    spelled_row (one_more t ts) c = (spelled_tree t c.0, spelled_row ts c.1)

  pub spelled_good : (limit : ℕ) (o : Option (PlainTreeOf K P)) → IsWellFormedBelow sp limit o → IsSpelledBy sp o
  spelled_good limit None good = tt
  spelled_good limit (Some t) good = spelled_tree t good.1

  pub read_back_proof : (limit : ℕ) → WrittenTreesAreReadBelow sp limit
  read_back_proof limit o good (Ok r) h = inl (r, refl, sym (one_text_proof law o (plain_option r) h.1))
  read_back_proof limit o good (Err (Syntax place)) h = absurd (h.outside (o, spelled_good limit o good, refl))
  read_back_proof limit o good (Err NotCanonical) h = absurd (h.1 o good refl)
  read_back_proof limit o good (Err Memory) h = inr refl
