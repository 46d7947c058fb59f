-- What a reader of a script has read.
use Rattle.std.specs.Prelude.{◌≡◌, ℕ, List, ◌∷◌, Option, Some}
use Rattle.std.specs.FinSet as set
use Rattle.md_graph.specs.Sets.{NameSet}
use Rattle.md_script.specs.declared.fault.ScriptKind.{ScriptKind}
use Rattle.md_script.specs.declared.fault.ScriptFault.{ScriptFault}
use Rattle.md_script.specs.declared.fault.ScriptFault.TheVariants.{Bad as BadLine, Memory as NoMemory}
use Rattle.md_script.specs.declared.line.Refusal.{Refusal}
use Rattle.md_script.specs.declared.line.Refusal.TheVariants.{Bad, Memory}
use Rattle.md_script.specs.Line.{names_written}
use Rattle.md_script.specs.File.{first_fault}

-- a fault that is named is the first one; want of memory may come at any time
abbrev pub IsFaultOf : List ℕ → ScriptFault → Type 0
IsFaultOf bytes (BadLine kind line) = first_fault bytes ≡ Some (record { kind = kind; line = line })
IsFaultOf bytes NoMemory = Unit {0}

-- the same of one line
abbrev pub IsRefusal : Option ScriptKind → Refusal → Type 0
IsRefusal fault (Bad kind) = fault ≡ Some kind
IsRefusal fault Memory = Unit {0}

-- fields write the names that are the members of a set
pub record NamesSet (rest : List (List ℕ)) (s : NameSet) : Type 0 where
  pub list : List ℕ
  pub written : names_written rest ≡ Some list
  pub members : s ≡ set.from_list list

-- fields write a name and then those of a set
pub record NamesVertex (rest : List (List ℕ)) (x : ℕ) (s : NameSet) : Type 0 where
  pub list : List ℕ
  pub written : names_written rest ≡ Some (x ∷ list)
  pub members : s ≡ set.from_list list
