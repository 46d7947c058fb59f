-- Lists of names, and the sets of their members.
use Rattle.std.specs.Prelude.{◌≡◌, ℕ, ◌+◌, ◌<◌, List, [], ◌∷◌, map, refl}
use Rattle.std.proofs.Common.{ap, sym, ◌∙◌, subst, arith}
use Rattle.std.proofs.lemmas.List.Elements.{All-weaker}
use Rattle.md_graph.specs.declared.TheConstants.{NAMES}
use Rattle.md_graph.specs.Sets.{NameSet}
use Rattle.md_graph.specs.NameSet.{ascending}
use Rattle.md_graph.proofs.NameLemmas.{IsItem, ascending_items, ascending_order}
use Rattle.md_script.specs.Neighbours.{IsNameList}

-- the members of a set in ascending order are such a list
pub ascending_is_list : (s : NameSet) → IsNameList (ascending s)
ascending_is_list s = record {
  increasing = λ k below. ascending_order s 0 NAMES k (k + 1) 0 (omega arith) below;
  names = All-weaker (IsItem s 0 NAMES) (λ v. v < NAMES) (λ v is. is.below) (ascending s) (ascending_items s 0 NAMES);
}

map_same : (xs : List ℕ) → map (λ x. x) xs ≡ xs
map_same [] = refl
map_same (x ∷ xs) = ap (λ l. x ∷ l) (map_same xs)

-- the same of a list of what an iterator gave
pub collected_list : (list xs : List ℕ) (s : NameSet) → list ≡ xs → map (λ x. x) xs ≡ ascending s → IsNameList list
collected_list list xs s items all = subst IsNameList (sym (items ∙ sym (map_same xs) ∙ all)) (ascending_is_list s)
