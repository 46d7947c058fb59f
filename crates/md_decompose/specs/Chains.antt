-- The modules of a set that hold its least name and that a search grew, each inside the next.
-- Source: the least modules over growing sets of names, as in Ehrenfeucht, Gabow, McConnell and Sullivan, An O(n^2) divide-and-conquer
-- algorithm for the prime tree decomposition of two-structures and modular decomposition of graphs.
use Rattle.std.specs.Prelude.{◌≡◌, ◌<◌, ◌≤◌, ℕ, zero, suc, Bool, List, length, get_or, take}
use Rattle.std.specs.FinSet.{insert, from_list}
use Rattle.md_graph.specs.NameSet.{IsLeastFrom}
use Rattle.md_graph.specs.Sets.{NameSet, Has, Lacks}
use Rattle.md_modules.specs.Modules.{IsModule, IsLeastModuleOver}
use Rattle.md_decompose.specs.declared.nested_modules.Step.{Step}
use Rattle.md_decompose.specs.declared.nested_modules.Nested.{Nested}

-- v and the names of a list
abbrev pub with_names : ℕ → List ℕ → NameSet
with_names v xs = insert (from_list xs) v

-- no name is taken
abbrev pub no_step : Step
no_step = record { from = 0; to = 0; led = 0 }

-- the step at a place, counted from 0; that without a name past the end
abbrev pub step_at : List Step → ℕ → Step
step_at steps k = get_or steps k no_step

-- how many names are taken in the first n steps
abbrev pub taken_with : List Step → ℕ → ℕ
taken_with steps zero = 0
taken_with steps (suc k) = (step_at steps k).to

-- begun is a module of s that holds v and lacks j, and held is the least one over it and j
pub record IsGrown (e : ℕ → ℕ → Bool) (s : NameSet) (v : ℕ) (begun held : NameSet) (j : ℕ) : Type 0 where
  pub is_module : IsModule e s begun
  pub start : Has begun v
  pub new : Lacks begun j
  pub least : IsLeastModuleOver e s (insert begun j) held

-- v and the names taken before a step are a module, and v and those taken up to its end the least one over it and the name that led
-- to it
pub record IsStepOf (e : ℕ → ℕ → Bool) (s : NameSet) (v : ℕ) (taken : List ℕ) (t : Step) : Type 0 where
  pub rises : t.from ≤ t.to
  pub known : t.to ≤ length taken
  pub grown : IsGrown e s v (with_names v (take t.from taken)) (with_names v (take t.to taken)) t.led

-- each step is one of the names taken, none begins before the end of an earlier one, and the last one takes the last name
pub record AreSteps (e : ℕ → ℕ → Bool) (s : NameSet) (v : ℕ) (taken : List ℕ) (steps : List Step) : Type 0 where
  pub each : (k : ℕ) → k < length steps → IsStepOf e s v taken (step_at steps k)
  pub order : (i k : ℕ) → i < k → k < length steps → (step_at steps i).to ≤ (step_at steps k).from
  pub ends : length taken ≡ taken_with steps (length steps)

-- the chain has modules of s that hold the least name of s
abbrev pub IsChainOf : (ℕ → ℕ → Bool) → NameSet → Nested → Type 0
IsChainOf e s c = (v : ℕ) → IsLeastFrom s 0 v → AreSteps e s v c.taken.items c.steps.items

-- the front has the first steps of a chain, those that end before `most` names are taken, and the names taken in them
pub record IsChainFront (c : Nested) (most : ℕ) (front : Nested) : Type 0 where
  pub count : ℕ
  pub known : count ≤ length c.steps.items
  pub steps : front.steps.items ≡ take count c.steps.items
  pub taken : front.taken.items ≡ take (taken_with c.steps.items count) c.taken.items
  pub inside : 0 < count → taken_with c.steps.items count < most
  pub beyond : (k : ℕ) → count ≤ k → k < length c.steps.items → most ≤ (step_at c.steps.items k).to
