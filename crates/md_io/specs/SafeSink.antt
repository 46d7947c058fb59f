-- What a sink in memory that never fails is to a contract.
use Rattle.std.specs.Prelude.{◌≡◌, ℕ, List, Result, IsErrOf, IsOkUnless}
use Rattle.md_io.specs.declared.safe_sink.SafeSink.{SafeSink}
use Rattle.md_io.specs.declared.PutFault.{PutFault}
use Rattle.md_io.specs.declared.PutFault.TheVariants.{Memory}
use Rattle.md_io.specs.Count.{count_up}

-- a put to a sink that never fails: it takes the whole piece, or memory runs out.
-- Source: appending to a list.
pub record IsSafePut (old : SafeSink) (piece : List ℕ)
    (answer : Result (Unit {0}) PutFault) (new : SafeSink) : Type 0 where
  pub only_memory : IsOkUnless answer Memory
  pub want : IsErrOf answer Memory → new.wants ≡ count_up old.wants 1
