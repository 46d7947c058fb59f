-- What taking edits back costs in steps.
use Rattle.std.proofs.Common.{◌≡◌, ℕ, ◌+◌, ◌*◌, ◌≤◌, Bool, true, false, cond, ◌==◌, ◌&&◌, ◌||◌, List, [], ◌∷◌, ◌++◌, length, None, refl, sym, ◌∙◌, ap, arith}
use Rattle.std.specs.List.{All}
use Rattle.std.proofs.lemmas.List.Elements.{All-head, All-tail}
use Rattle.std.proofs.lemmas.Bool.Decides.{nat_tests}
use Rattle.std.specs.FinSet as set
use Rattle.md_graph.specs.declared.TheConstants.{NAMES}
use Rattle.md_graph.specs.Sets.{NameSet}
use Rattle.md_graph.specs.NameSet.{AllBelow}
use Rattle.md_graph.specs.PlainGraph.{PlainGraph, IsGraph, adjacent, neighbours, with_vertex, with_edges}
use Rattle.md_graph.proofs.NameLemmas.{length-ascending}
use Rattle.md_graph.proofs.SetLaws.{len-empty, len-insert, same_set}
use Rattle.md_graph.proofs.GraphLemmas.{IsGraph-with_vertex, contains-neighbours, adjacent_ends, adjacent-with_vertex, adjacent-with_edges}
use Rattle.md_script.specs.declared.edit.Edit.{Edit}
use Rattle.md_script.specs.declared.edit.Edit.TheVariants.{AddEdge, DelEdge, AddVertex, DelVertex}
use Rattle.md_script.specs.Edit.{HasNamesBelow, least_absent, reason_of, after}
use Rattle.md_script.specs.Pasts.{inverse_of, all_after, inverses_of, Applies}
use Rattle.md_script.proofs.ChangeLemmas.{names_within, by_parts, neighbours_are_vertices, no_own_neighbour, after_is_graph}
use Rattle.md_script.proofs.BackLemmas.{apart, only_passes}
use Rattle.md_script.proofs.GroupLemmas.{after_below, applied_goes_back}
use Rattle.md_report.specs.Cographs.{IsCograph}
use Rattle.md_cograph.specs.EditCosts.{edit_cost, back_cost}
use Rattle.md_session.specs.Costs.{edits_cost}

-- ---- one edit more

pub edits_cost-push : (g : PlainGraph) (edits : List Edit) (e : Edit) → edits_cost g (edits ++ e ∷ []) ≡ edits_cost g edits + edit_cost (all_after g edits) e
edits_cost-push g [] e = omega arith
edits_cost-push g (x ∷ edits) e = let rest = edits_cost-push (after g x) edits e in omega arith

-- ---- the inverse of an edit costs no more than the edit

abbrev listed_set : List ℕ → NameSet
listed_set list = set.from_list list

len_from_list : (list : List ℕ) → set.len (listed_set list) ≤ length list
len_from_list [] = let e : set.len (listed_set []) ≡ 0 = len-empty in omega arith
len_from_list (v ∷ list) =
    let rest = len_from_list list in
    let more = len-insert (listed_set list) v in
    let most = at_most (set.contains (listed_set list) v) (set.len (listed_set list)) in
    omega arith
  where
    at_most : (b : Bool) (n : ℕ) → cond b n (n + 1) ≤ n + 1
    at_most true n = omega arith
    at_most false n = omega arith

if_there : (b : Bool) (n m : ℕ) → n ≤ m → cond b n 0 ≤ m
if_there true n m le = le
if_there false n m le = omega arith

-- the tests of a vertex and its own neighbours
own_row : (same has own other there : Bool) → same ≡ true → own ≡ false → there ≡ false → ((same && has) || (other && own) || there) ≡ has
own_row same has own other there s o t = rw (s, o, t) (grind arith)

module _ (limit : ℕ) (few : limit ≤ NAMES) where
  new_row : (g : PlainGraph) (x : ℕ) (list : List ℕ) → IsGraph g → HasNamesBelow limit (AddVertex x list) → reason_of g (AddVertex x list) ≡ None → neighbours (after g (AddVertex x list)) x ≡ set.from_list list
  new_row g x list is names none =
      let others = set.from_list list in
      let within = names_within few (AddVertex x list) names in
      let h = with_edges (with_vertex g x) x others in
      let next : IsGraph h = after_is_graph g (AddVertex x list) is within none in
      let members = neighbours_are_vertices g (with_vertex g x) (AddVertex x list) x list others refl none refl refl in
      let own = no_own_neighbour g (AddVertex x list) x list others refl none refl in
      let absent = (by_parts (least_absent g list) (set.contains g.vertices x) x none).0 in
      same_set _ _ (λ y.
      contains-neighbours next x y
      ∙ adjacent-with_edges (with_vertex g x) x others (λ w m. (IsGraph-with_vertex is x within.0).names w (members w m)) x y
      ∙ own_row (x == x) (set.contains others y) (set.contains others x) (y == x) (adjacent (with_vertex g x) x y) (grind (arith, nat_tests)) own
      (adjacent-with_vertex g x x y ∙ apart is x x y absent (grind (arith, nat_tests))))

  pub inverse_few : (g : PlainGraph) (edit : Edit) → IsGraph g → HasNamesBelow limit edit → reason_of g edit ≡ None → edit_cost (after g edit) (inverse_of g edit) ≤ edit_cost g edit
  inverse_few g (AddEdge u v) is names none = omega arith
  inverse_few g (DelEdge u v) is names none = omega arith
  inverse_few g (AddVertex x list) is names none =
      let row = ap (λ (s : NameSet). set.len s) (new_row g x list is names none) in
      let small : set.len (set.from_list list) ≤ length list = len_from_list list in
      if_there (set.contains (after g (AddVertex x list)).vertices x) (256 * (set.len (neighbours (after g (AddVertex x list)) x) + 1)) (256 * (length list + 1)) (omega arith)
  inverse_few g (DelVertex x) is names none =
      let there = only_passes (set.contains g.vertices x) _ none in
      let row = length-ascending (neighbours g x) NAMES (λ u m. is.names u (adjacent_ends is x u (sym (contains-neighbours is x u) ∙ m)).1) in
      let whole : edit_cost g (DelVertex x) ≡ 256 * (set.len (neighbours g x) + 1) = ap (λ b. cond b (256 * (set.len (neighbours g x) + 1)) 0) there in
      omega arith

  -- what was applied is taken back at no more than its cost
  pub back_few : (g : PlainGraph) (edits : List Edit) → IsGraph g → AllBelow g.vertices limit → IsCograph g → All (HasNamesBelow limit) edits → Applies IsCograph g edits → back_cost (all_after g edits) (inverses_of g edits) ≤ edits_cost g edits
  back_few g [] is below kept names applies = omega arith
  back_few g (edit ∷ edits) is below kept names applies =
      let own = All-head (HasNamesBelow limit) edit edits names in
      let others = All-tail (HasNamesBelow limit) edit edits names in
      let next = after_is_graph g edit is (names_within few edit own) applies.0 in
      let next_below = after_below limit g edit below own in
      let goes = applied_goes_back limit IsCograph (after g edit) edits few next next_below applies.1.0 others applies.1.1 in
      let rest = back_few (after g edit) edits next next_below applies.1.0 others applies.1.1 in
      let here = inverse_few g edit is own applies.0 in
      let last = ap (λ (k : PlainGraph). edit_cost k (inverse_of g edit)) goes.leads in
      omega arith
