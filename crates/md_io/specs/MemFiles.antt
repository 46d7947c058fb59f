-- What files in memory are to a contract.
use Rattle.std.specs.Prelude.{◌≡◌, ℕ, ◌+◌, ◌-◌, ◌^◌, List, Bool, ◌&&◌, ◌||◌, ◌==◌, nat_lt, Option, Some, None, is_none, Result, Vec, IsTrue, IsErrOf, ◌≤◌, ◌⊎◌, ◌≢◌}
use Rattle.std.specs.Global.{Global}
use Rattle.std.specs.Option.{option_map}
use Rattle.std.specs.List.{list_any, list_all}
use Rattle.std.specs.BTreeMap.{get_by_text}
use Rattle.md_io.specs.declared.mem_files.MemFiles.{MemFiles}
use Rattle.md_io.specs.declared.LoadFault.{LoadFault}
use Rattle.md_io.specs.declared.LoadFault.TheVariants.{Failed, TooLong, Memory}
use Rattle.md_io.specs.declared.TheConstants.{LIMIT}
use Rattle.md_io.specs.Told.{Told, absent, file}
use Rattle.md_io.specs.Count.{count_up}

-- a look-up's answer, as what is told of a file
abbrev pub told_of : Option (List ℕ) → Told
told_of None = absent
told_of (Some bytes) = file bytes

-- what is told of a name: every file is told, and every other name is absent.
-- Source: a finite map from names to contents.
abbrev pub stored : MemFiles → List ℕ → Told
stored files name = told_of (option_map (λ bytes. bytes.items) (get_by_text files.files name))

-- the numbers of the loads that fail, counted from 1.
-- Source: faults planted by the number of a call.
abbrev pub failing_loads : MemFiles → List ℕ
failing_loads files = files.failing.items

-- how many loads were made
abbrev pub load_count : MemFiles → ℕ
load_count files = files.loads

-- the next load of the name fails: its number is among the failing ones, or the name has no file
abbrev pub next_load_fails : MemFiles → List ℕ → Bool
next_load_fails files name =
    list_any (λ number. number == load_count files + 1) (failing_loads files)
    || is_none (get_by_text files.files name)

-- no load from here on fails by its number, and the count of faults is below its last value
abbrev pub no_load_fails : MemFiles → Bool
no_load_fails files =
    nat_lt files.faults (2 ^ 64 - 1)
    && list_all (λ number. nat_lt number (load_count files + 1)) (failing_loads files)

-- a load of files in memory: the failing loads fail, no other does, and want of memory goes before;
-- a file that is too long hands over one byte more than the limit.
-- Source: a reader finds out that a file is too long by the first byte past the limit.
pub record IsMemLoad (old : MemFiles) (name : List ℕ) (limit : ℕ)
    (answer : Result (Vec ℕ Global) LoadFault) (new : MemFiles) : Type 0 where
  pub failed_only : IsErrOf answer Failed → IsTrue (next_load_fails old name)
  pub failed_always : IsTrue (next_load_fails old name)
      → IsErrOf answer Failed ⊎ IsErrOf answer Memory
  pub fault : IsErrOf answer Failed → new.faults ≡ count_up old.faults 1
  pub no_fault : ¬ IsErrOf answer Failed → new.faults ≡ old.faults
  pub too_long_taken : IsErrOf answer TooLong → new.taken ≡ count_up old.taken (limit + 1)
  pub fault_taken : IsErrOf answer Failed ⊎ IsErrOf answer Memory → new.taken ≡ old.taken
  pub over : IsErrOf answer TooLong → LIMIT ≤ limit → new.overs ≡ count_up old.overs 1
  pub no_over : new.overs ≢ old.overs → IsErrOf answer TooLong × (LIMIT ≤ limit)
  pub counted : load_count new ≡ count_up (load_count old) 1
  pub same_failing : failing_loads new ≡ failing_loads old
