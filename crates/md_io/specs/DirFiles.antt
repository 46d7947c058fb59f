-- What files of the system are to a contract.
use Rattle.std.specs.Prelude.{◌≡◌, ℕ, ◌+◌, ◌≤◌, List, length, Option, Result, Vec, IsErrOf}
use Rattle.std.specs.Global.{Global}
use Rattle.std.specs.Io.KnownBytes.{Consumes}
use Rattle.md_io.specs.declared.LoadFault.{LoadFault}
use Rattle.md_io.specs.declared.LoadFault.TheVariants.{Failed}
use Rattle.md_io.specs.Count.{count_up}

-- the counts of faults and of bytes before and after a load of a file of the system: one more fault
-- exactly where it failed, and at most one byte more than the limit taken.
-- Source: the read loop of POSIX, `read` until it gives 0.
pub record IsSystemLoad (limit : ℕ) (answer : Result (Vec ℕ Global) LoadFault)
    (faults new_faults taken new_taken : ℕ) : Type 0 where
  pub fault : IsErrOf answer Failed → new_faults ≡ count_up faults 1
  pub no_fault : ¬ IsErrOf answer Failed → new_faults ≡ faults
  pub stops : new_taken ≤ taken + (limit + 1)

-- the bytes that a reader gave between two moments are counted, where it tells what it has left.
-- Source: a reader gives the beginning of what it has left.
pub record IsCountedRead (before now : Option (List ℕ)) (taken new_taken : ℕ) : Type 0 where
  pub bytes : List ℕ
  pub read : Consumes before now bytes
  pub counted : new_taken ≡ count_up taken (length bytes)
