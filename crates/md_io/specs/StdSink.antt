-- What a sink over a writer is to a contract.
use Rattle.std.specs.Prelude.{◌≡◌, ℕ, Result, IsErrOf}
use Rattle.md_io.specs.declared.PutFault.{PutFault}
use Rattle.md_io.specs.declared.PutFault.TheVariants.{Failed, Memory}
use Rattle.md_io.specs.Count.{count_up}

-- the count of faults before and after a put to a writer: one more exactly where it failed, and
-- memory is never wanted.
-- Source: the write loop of POSIX, `write` until all is taken.
pub record IsWriterPut (answer : Result (Unit {0}) PutFault) (faults new_faults : ℕ) : Type 0 where
  pub fault : IsErrOf answer Failed → new_faults ≡ count_up faults 1
  pub no_fault : ¬ IsErrOf answer Failed → new_faults ≡ faults
  pub no_want : ¬ IsErrOf answer Memory
