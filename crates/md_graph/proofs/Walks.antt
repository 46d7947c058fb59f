-- A walk over the members of a set of names.
use Rattle.std.proofs.Common.{◌≡◌, ℕ, ◌+◌, ◌<◌, ◌≤◌, List, [], ◌∷◌, arith, subst}
use Rattle.md_graph.specs.declared.TheConstants.{NAMES}
use Rattle.md_graph.specs.Sets.{NameSet, Has}
use Rattle.md_graph.specs.NameSet.{AllBelow, IsLeastFrom, ascending, ascending_from}
use Rattle.md_graph.proofs.NameLemmas.{IsTurn, walk_turn, walk_end, walk_more}

-- Done holds of the members below low, and the others are left
pub record Walked (s : NameSet) (left : List ℕ) (Done : ℕ → Type 0) : Type 0 where
  pub low : ℕ
  pub is : left ≡ ascending_from s low
  pub names : AllBelow s NAMES
  pub done : (w : ℕ) → Has s w → w < low → Done w

pub Walked-start : {s : NameSet} {left : List ℕ} {Done : ℕ → Type 0} → left ≡ ascending s → AllBelow s NAMES → Walked s left Done
Walked-start is names = record { low = 0; is = is; names = names; done = λ w m h. absurd (omega arith) }

-- the same of a set that is the walked one
pub Walked-along : {s t : NameSet} {left : List ℕ} {Done : ℕ → Type 0} → s ≡ t → Walked s left Done → Walked t left Done
Walked-along {left} {Done} same walked = subst (λ s. Walked s left Done) same walked

pub Walked-item : {s : NameSet} {left : List ℕ} {Done : ℕ → Type 0} → Walked s left Done → (x : ℕ) (rest : List ℕ) → left ≡ x ∷ rest → Has s x
Walked-item {s} {left} walked x rest steps =
    let turn : IsTurn s walked.low NAMES x rest = walk_turn s walked.low NAMES x left rest walked.is steps in turn.item.member

pub Walked-name : {s : NameSet} {left : List ℕ} {Done : ℕ → Type 0} → Walked s left Done → (x : ℕ) (rest : List ℕ) → left ≡ x ∷ rest → x < NAMES
Walked-name walked x rest steps = walked.names x (Walked-item walked x rest steps)

pub Walked-more : {s : NameSet} {left : List ℕ} {Done : ℕ → Type 0} → Walked s left Done → (x : ℕ) (rest : List ℕ) → left ≡ x ∷ rest → Done x → Walked s rest Done
Walked-more {s} {left} {Done} walked x rest steps here =
    let turn : IsTurn s walked.low NAMES x rest = walk_turn s walked.low NAMES x left rest walked.is steps in
    record { low = x + 1; is = turn.left; names = walked.names; done = walk_more s walked.low NAMES x Done turn.item walked.done here }

pub Walked-end : {s : NameSet} {left : List ℕ} {Done : ℕ → Type 0} → Walked s left Done → (rest : List ℕ) → (left ≡ []) × (rest ≡ []) → (w : ℕ) → Has s w → Done w
Walked-end {s} {left} walked rest steps w m =
    walked.done w m (walk_end s walked.low NAMES left rest walked.names walked.is steps w m)

-- the same of a wider Done
pub Walked-map : {s : NameSet} {left : List ℕ} {Done Wider : ℕ → Type 0} → Walked s left Done → ((w : ℕ) → Done w → Wider w) → Walked s left Wider
Walked-map walked wider = record { low = walked.low; is = walked.is; names = walked.names; done = λ w m h. wider w (walked.done w m h) }

-- a walk over the members behind the least one
pub Walked-behind : {s : NameSet} {left : List ℕ} {Done : ℕ → Type 0} (first : ℕ) → IsLeastFrom s 0 first → AllBelow s NAMES → left ≡ ascending_from s (first + 1) → Done first → Walked s left Done
Walked-behind {Done} first least names is here = record {
  low = first + 1;
  is = is;
  names = names;
  done = λ w m h. let at_least : first ≤ w = least.first w m (omega arith) in let same : first ≡ w = omega arith in subst Done same here;
}
