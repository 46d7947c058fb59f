-- Lists of names.
use Rattle.std.specs.Prelude.{ℕ, ◌<◌, List}
use Rattle.std.specs.List.{All}
use Rattle.std.specs.List.Sorted.{IsStrictlyIncreasing}
use Rattle.md_graph.specs.declared.TheConstants.{NAMES}

-- an ascending list of names without repeats
pub record IsNameList (list : List ℕ) : Type 0 where
  pub increasing : IsStrictlyIncreasing list
  pub names : All (λ v. v < NAMES) list
