-- What a run can read, by what the files tell.
use Rattle.std.specs.Prelude.{◌≡◌, ℕ, ◌≤◌, Bool, Option, Some, None, List, [], ◌∷◌, ◌++◌, length}
use Rattle.md_io.specs.declared.Files as files
use Rattle.md_io.specs.Told.{Told, file, IsToldAs, IsToldFile}
use Rattle.md_io.specs.declared.TheConstants.{LIMIT}
use Rattle.md_top.specs.declared.request.Request.{Request}
use Rattle.md_top.specs.Request.{files_of, with_files}

-- what is told of the files, and their counts before and after
pub record FilesRun : Type 0 where
  pub holds : List ℕ → Told
  pub asked_old : List (List ℕ)
  pub asked_new : List (List ℕ)
  pub faults_old : ℕ
  pub faults_new : ℕ
  pub overs_old : ℕ
  pub overs_new : ℕ
  pub sure_old : Bool
  pub sure_new : Bool

-- the same of files of any kind
abbrev pub files_run : {F : Type 0} → files.Ghosts F → F → F → FilesRun
files_run g old new = record {
  holds = g.holds old;
  asked_old = g.asked old;
  asked_new = g.asked new;
  faults_old = g.faults old;
  faults_new = g.faults new;
  overs_old = g.overs old;
  overs_new = g.overs new;
  sure_old = g.sure old;
  sure_new = g.sure new;
}

-- the files of these names can have these contents, and none is past the limit
abbrev pub AreToldAs : (List ℕ → Told) → List (List ℕ) → List (List ℕ) → Type 0
AreToldAs holds [] [] = Unit {0}
AreToldAs holds [] (bytes ∷ others) = ⊥
AreToldAs holds (name ∷ names) [] = ⊥
AreToldAs holds (name ∷ names) (bytes ∷ others) =
    IsToldAs (holds name) bytes × (length bytes ≤ LIMIT) × AreToldAs holds names others

-- the files of these names are told, with these contents, and none is past the limit
abbrev pub AreFiles : (List ℕ → Told) → List (List ℕ) → List (List ℕ) → Type 0
AreFiles holds [] [] = Unit {0}
AreFiles holds [] (bytes ∷ others) = ⊥
AreFiles holds (name ∷ names) [] = ⊥
AreFiles holds (name ∷ names) (bytes ∷ others) =
    (holds name ≡ file bytes) × (length bytes ≤ LIMIT) × AreFiles holds names others

-- each of these names is told as a file
abbrev pub AllToldFiles : (List ℕ → Told) → List (List ℕ) → Type 0
AllToldFiles holds [] = Unit {0}
AllToldFiles holds (name ∷ names) = IsToldFile (holds name) × AllToldFiles holds names

-- What is asked, and what is told lets its files have these contents. Where all of them are told there is one
-- such input at most.
pub record CanBeInput (holds : List ℕ → Told) (request : Option (Request (List ℕ))) (input : Request (List ℕ)) : Type 0 where
  pub asked : Request (List ℕ)
  pub contents : List (List ℕ)
  pub is : request ≡ Some asked
  pub told : AreToldAs holds (files_of asked) contents
  pub filled : with_files asked contents ≡ Some input

-- what is asked, and its files are told with these contents
pub record IsInput (holds : List ℕ → Told) (request : Option (Request (List ℕ))) (input : Request (List ℕ)) : Type 0 where
  pub asked : Request (List ℕ)
  pub contents : List (List ℕ)
  pub is : request ≡ Some asked
  pub files : AreFiles holds (files_of asked) contents
  pub filled : with_files asked contents ≡ Some input

-- the names of the files of a request, none where the words are in no form
abbrev pub file_names : Option (Request (List ℕ)) → List (List ℕ)
file_names None = []
file_names (Some asked) = files_of asked

-- the names asked for grew by the first of these names, in their order: by none, some or all of them; and each of them but the last
-- has a file that can be had
pub record AsksInOrder (holds : List ℕ → Told) (old new names : List (List ℕ)) : Type 0 where
  pub part : List (List ℕ)
  pub rest : List (List ℕ)
  pub whole : names ≡ part ++ rest
  pub grown : new ≡ old ++ part
  pub had : (front : List (List ℕ)) (last : List ℕ) → part ≡ front ++ last ∷ []
      → (contents : List (List ℕ)) × AreToldAs holds front contents
