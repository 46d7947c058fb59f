-- What an object tells of the file of a name.
use Rattle.std.specs.Prelude.{◌≡◌, ℕ, ◌<◌, List, length}

-- nothing is told of the name, or it has no file, or its file has these bytes.
-- Source: a file system as a partial function from names to contents, of which a part may be
-- unknown.
pub data Told : Type 0 where
  untold : Told
  absent : Told
  file : List ℕ → Told

-- these bytes may be the whole file: any where nothing is told, none where there is no file
abbrev pub IsToldAs : Told → List ℕ → Type 0
IsToldAs untold bytes = Unit {0}
IsToldAs absent bytes = ⊥
IsToldAs (file whole) bytes = bytes ≡ whole

-- the file may have more bytes than the limit: so it may where nothing is told, and none has where
-- there is no file
abbrev pub IsToldLonger : Told → ℕ → Type 0
IsToldLonger untold limit = Unit {0}
IsToldLonger absent limit = ⊥
IsToldLonger (file whole) limit = limit < length whole

-- there is a file, and its bytes are told
abbrev pub IsToldFile : Told → Type 0
IsToldFile untold = ⊥
IsToldFile absent = ⊥
IsToldFile (file whole) = Unit {0}
