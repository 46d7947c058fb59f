-- The members of a set of names in ascending order: how many are below a name, and a walk over them that counts.
use Rattle.std.specs.Prelude.{◌≡◌, ℕ, ◌+◌, ◌^◌, ◌<◌, ◌≤◌, List, ◌∷◌, length}
use Rattle.std.proofs.Common.{subst, ap, sym, ◌∙◌, arith, length-append}
use Rattle.std.proofs.lemmas.Bool.{false_from_ne_true}
use Rattle.md_blocks.proofs.BlockLemmas.{nothing_below}
use Rattle.md_graph.specs.declared.TheConstants.{NAMES}
use Rattle.md_graph.specs.Sets.{NameSet, Has}
use Rattle.md_graph.specs.NameSet.{ascending, ascending_between}
use Rattle.md_graph.specs.PlainGraph.{PlainGraph, IsGraph, neighbours}
use Rattle.md_graph.proofs.GraphLemmas.{adjacent_ends, contains-neighbours}
use Rattle.md_graph.proofs.Limits.{NAMES-lt}
use Rattle.md_graph.proofs.NameLemmas.{IsFirstItem, few_below, ascending_none, ascending_split, ascending_step, walk_turn}
use Rattle.md_dimacs.specs.Text.{position}

-- ---- how many there are

count_split : (s : NameSet) (m n : ℕ) → m ≤ n → length (ascending_between s 0 n) ≡ length (ascending_between s 0 m) + length (ascending_between s m n)
count_split s m n within = ap length (ascending_split s 0 m n (omega arith) within) ∙ length-append (ascending_between s 0 m) (ascending_between s m n)

pub count_up_to : (s : NameSet) (m n : ℕ) → m ≤ n → length (ascending_between s 0 m) ≤ length (ascending_between s 0 n)
count_up_to s m n within = let all = count_split s m n within in omega arith

pub count_member : (s : NameSet) (v : ℕ) → Has s v → length (ascending_between s 0 (v + 1)) ≡ length (ascending_between s 0 v) + 1
count_member s v m =
    let only : IsFirstItem s v (v + 1) v = record { member = m; above = omega arith; below = omega arith; first = λ w _ from _. from } in
    let one = ap length (ascending_step s v (v + 1) v only ∙ ap (λ l. v ∷ l) (nothing_below s (v + 1) (v + 1) (omega arith))) in
    let all = count_split s v (v + 1) (omega arith) in
    omega arith

-- where v is the first member from low on, as many are below v as below low
count_first : (s : NameSet) (low n v : ℕ) → IsFirstItem s low n v → length (ascending_between s 0 v) ≡ length (ascending_between s 0 low)
count_first s low n v item =
    let from = item.above in
    let name = item.below in
    let none = ap length (ascending_none s low v (λ w from below. false_from_ne_true _ (λ m. let least = item.first w m from (omega arith) in omega arith))) in
    let all = count_split s low v from in
    omega arith

-- ---- a list of the members from low on, of which `place` are below

pub record Coming (s : NameSet) (low place : ℕ) (xs : List ℕ) : Type 0 where
  pub left : xs ≡ ascending_between s low NAMES
  pub placed : place ≡ length (ascending_between s 0 low)

pub record NextUp (s : NameSet) (low place v : ℕ) (rest : List ℕ) : Type 0 where
  pub item : IsFirstItem s low NAMES v
  pub placed : place ≡ length (ascending_between s 0 v)
  pub after : Coming s (v + 1) (place + 1) rest

pub coming_all : (s : NameSet) (xs : List ℕ) → xs ≡ ascending s → Coming s 0 0 xs
coming_all s xs e = record { left = e; placed = sym (ap length (nothing_below s 0 0 (omega arith))) }

pub next_up : (s : NameSet) (low place : ℕ) (xs : List ℕ) (v : ℕ) (rest : List ℕ) → Coming s low place xs → xs ≡ v ∷ rest → NextUp s low place v rest
next_up s low place xs v rest c e =
    let turn = walk_turn s low NAMES v xs rest c.left e in
    let count : place ≡ length (ascending_between s 0 v) = c.placed ∙ sym (count_first s low NAMES v turn.item) in
    record {
      item = turn.item;
      placed = count;
      after = record { left = turn.left; placed = ap (λ k. k + 1) count ∙ sym (count_member s v turn.item.member) };
    }

pub position_is : (g : PlainGraph) (v place : ℕ) → place ≡ length (ascending_between g.vertices 0 v) → place + 1 ≡ position g v
unfolding position
position_is g v place e = ap (λ k. k + 1) e

pub coming_at_start : (s : NameSet) (low : ℕ) (xs : List ℕ) → low ≡ 0 → xs ≡ ascending s → Coming s low 0 xs
coming_at_start s low xs e list = subst (λ k. Coming s k 0 xs) (sym e) (coming_all s xs list)

pub coming_at : (s : NameSet) (low at place : ℕ) (xs : List ℕ) → at ≡ low → Coming s low place xs → Coming s at place xs
coming_at s low at place xs e c = subst (λ k. Coming s k place xs) (sym e) c

pub place_small : (s : NameSet) (low place v : ℕ) (rest : List ℕ) → NextUp s low place v rest → place + 1 < 10 ^ 5
place_small s low place v rest up =
    let most = few_below s 0 v in
    let placed = up.placed in
    let name = up.item.below in
    let fit = NAMES-lt in
    omega arith

pub neighbour_is_vertex : (g : PlainGraph) (v w : ℕ) → IsGraph g → Has (neighbours g v) w → Has g.vertices w
neighbour_is_vertex g v w is m = (adjacent_ends is v w (sym (contains-neighbours is v w) ∙ m)).1
