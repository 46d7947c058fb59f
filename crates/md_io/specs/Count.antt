-- Counts of events, which stand still at the last value of a `u64`.
use Rattle.std.specs.Prelude.{ℕ, ◌+◌, ◌-◌, ◌^◌, ◌≤◌, min}

-- a count after some more events. Source: saturating addition at 64 bits.
abbrev pub count_up : ℕ → ℕ → ℕ
count_up before more = min (before + more) (2 ^ 64 - 1)

-- between two moments a count rose by at least this many, or it stands at its last value
abbrev pub RoseBy : ℕ → ℕ → ℕ → Type 0
RoseBy before now more = count_up before more ≤ now

-- between two moments a count rose, or it stands at its last value
abbrev pub Rose : ℕ → ℕ → Type 0
Rose before now = RoseBy before now 1
