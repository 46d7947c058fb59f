-- What a kind of files or of sinks may tell of a call beyond its trait: a relation of what was before, what was handed in, the answer,
-- and what is after. Source: our own.
use Rattle.std.specs.Prelude.{ℕ, List, Result, Vec}
use Rattle.std.specs.Global.{Global}
use Rattle.md_io.specs.declared.LoadFault.{LoadFault}
use Rattle.md_io.specs.declared.PutFault.{PutFault}

-- of a load, by the name of the file and the limit
abbrev pub LoadRelation : Type 0 → Type 1
LoadRelation F = F → List ℕ → ℕ → Result (Vec ℕ Global) LoadFault → F → Type 0

-- of a put, by the piece
abbrev pub PutRelation : Type 0 → Type 1
PutRelation S = S → List ℕ → Result (Unit {0}) PutFault → S → Type 0

-- of a flush
abbrev pub FlushRelation : Type 0 → Type 1
FlushRelation S = S → Result (Unit {0}) PutFault → S → Type 0
