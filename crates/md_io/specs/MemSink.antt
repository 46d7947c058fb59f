-- What a sink in memory is to a contract.
use Rattle.std.specs.Prelude.{◌≡◌, ℕ, ◌+◌, List, ◌++◌, length, take, Bool, ◌&&◌, ◌||◌, ◌==◌, not, if◌then◌else◌, Result, IsTrue, IsErrOf, ◌⊎◌}
use Rattle.std.specs.List.{list_any}
use Rattle.md_io.specs.declared.mem_sink.MemSink.{MemSink}
use Rattle.md_io.specs.declared.PutFault.{PutFault}
use Rattle.md_io.specs.declared.PutFault.TheVariants.{Failed, Memory}
use Rattle.md_io.specs.Count.{count_up}

-- the numbers of the puts that fail, counted from 1; an empty piece is no put.
-- Source: faults planted by the number of a call.
abbrev pub failing_puts : MemSink → List ℕ
failing_puts sink = sink.failing.items

-- how many puts were made
abbrev pub put_count : MemSink → ℕ
put_count sink = sink.puts

-- how many bytes a failing put takes at most
abbrev pub part_of_put : MemSink → ℕ
part_of_put sink = sink.part

-- the numbers of the flushes that fail, counted from 1.
-- Source: faults planted by the number of a call.
abbrev pub failing_flushes : MemSink → List ℕ
failing_flushes sink = sink.failing_flushes.items

-- how many flushes were made
abbrev pub flush_count : MemSink → ℕ
flush_count sink = sink.flushes

-- the next put of the piece fails: it is no empty piece, and its number is among the failing ones
-- or a flush failed
abbrev pub next_put_fails : MemSink → List ℕ → Bool
next_put_fails sink piece =
    not (length piece == 0)
    && (list_any (λ number. number == put_count sink + 1) (failing_puts sink) || sink.broken)

-- the next flush fails: its number is among the failing ones, or a flush failed
abbrev pub next_flush_fails : MemSink → Bool
next_flush_fails sink =
    list_any (λ number. number == flush_count sink + 1) (failing_flushes sink) || sink.broken

-- a put to a sink in memory: the failing puts fail and take their part, no other put fails,
-- and want of memory goes before. Source: a device may take a part of a piece and then fail.
pub record IsMemPut (old : MemSink) (piece : List ℕ)
    (answer : Result (Unit {0}) PutFault) (new : MemSink) : Type 0 where
  pub failed_only : IsErrOf answer Failed → IsTrue (next_put_fails old piece)
  pub failed_always : IsTrue (next_put_fails old piece)
      → IsErrOf answer Failed ⊎ IsErrOf answer Memory
  pub failed_part : IsErrOf answer Failed
      → new.content.items ≡ old.content.items ++ take (part_of_put old) piece
  pub fault : IsErrOf answer Failed → new.faults ≡ count_up old.faults 1
  pub no_fault : ¬ IsErrOf answer Failed → new.faults ≡ old.faults
  pub want : IsErrOf answer Memory → new.wants ≡ count_up old.wants 1
  pub counted : put_count new
      ≡ (if length piece == 0 then put_count old else count_up (put_count old) 1)
  pub same_failing : failing_puts new ≡ failing_puts old
  pub same_part : part_of_put new ≡ part_of_put old
  pub same_failing_flushes : failing_flushes new ≡ failing_flushes old
  pub same_flushes : flush_count new ≡ flush_count old
  pub same_broken : new.broken ≡ old.broken

-- a flush of a sink in memory: the failing flushes fail, and no other does; no put is counted.
-- Source: a device may fail at a flush.
pub record IsMemFlush (old : MemSink) (answer : Result (Unit {0}) PutFault) (new : MemSink)
    : Type 0 where
  pub failed_only : IsErrOf answer Failed → IsTrue (next_flush_fails old)
  pub failed_always : IsTrue (next_flush_fails old) → IsErrOf answer Failed
  pub fault : IsErrOf answer Failed → new.faults ≡ count_up old.faults 1
  pub counted : flush_count new ≡ count_up (flush_count old) 1
  pub same_failing_flushes : failing_flushes new ≡ failing_flushes old
  pub same_puts : put_count new ≡ put_count old
  pub same_failing : failing_puts new ≡ failing_puts old
  pub same_part : part_of_put new ≡ part_of_put old
