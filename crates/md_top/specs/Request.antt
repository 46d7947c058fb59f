-- What the program can be asked: each list of words makes one request, or none.
-- Source: the command words of docs/FORMATS.md. A word is seen as the bytes of its text.
use Rattle.std.specs.Prelude.{ℕ, ◌≤◌, ◌&&◌, nat_le, Option, Some, None, List, [], ◌∷◌, ◌++◌, if◌then◌else◌, codes, map, option_map, option_and_then, string_bytes}
use Rattle.std.specs.Borrow.{Bor}
use Rattle.std.specs.declared.alloc.Global.{Global}
use Rattle.std.specs.declared.string.String.{String}
use Rattle.std.specs.Str.{bytes_eq}
use Rattle.md_text.specs.Numbers.{number_of}
use Rattle.md_bar_tree.specs.declared.Class.{Class}
use Rattle.md_input.specs.declared.format.Format.{Format}
use Rattle.md_input.specs.declared.format.Format.TheVariants.{G6, Dimacs}
use Rattle.md_report.specs.declared.line.GraphMode.{GraphMode}
use Rattle.md_report.specs.declared.line.GraphMode.TheVariants.{Shortest}
use Rattle.md_report.specs.declared.line.SessionMode.{SessionMode}
use Rattle.md_report.specs.declared.line.SessionMode.TheVariants.{Of}
use Rattle.md_report.specs.declared.line.Mode.{Mode}
use Rattle.md_report.specs.Lines.{mode_of_word, class_of_word, as_graph_mode, as_session_mode}
use Rattle.md_top.specs.declared.big.TheConstants.{BIGGEST}
use Rattle.md_top.specs.declared.request.Subject.{Subject}
use Rattle.md_top.specs.declared.request.Subject.TheVariants.{Graphs, Session, Digraphs}
use Rattle.md_top.specs.declared.request.Request.{Request}
use Rattle.md_top.specs.declared.request.Request.TheVariants.{Convert, Report, Check, Big}
use Rattle.md_top.specs.Subject.{subject_over, subject_files, with_subject_files}

-- what stands before the last of these, and the last
abbrev pub front_and_last : {A : Type 0} → A → List A → List A × A
front_and_last x [] = ([], x)
front_and_last x (y ∷ more) = let behind = front_and_last y more in (x ∷ behind.0, behind.1)

-- the same of a list, none where it is empty
abbrev pub split_last : {A : Type 0} → List A → Option (List A × A)
split_last [] = None
split_last (x ∷ more) = Some (front_and_last x more)

-- the request with another thing in place of each file
abbrev pub over : {A B : Type 0} → (A → B) → Request A → Request B
over f (Convert to from graph) = Convert to from (f graph)
over f (Report subject) = Report (subject_over f subject)
over f (Check subject report) = Check (subject_over f subject) (f report)
over f (Big size) = Big size

-- the request with the bytes of its names
abbrev pub seen : Request (Bor (List ℕ)) → Request (List ℕ)
seen = over (λ name. name.now)

-- what stands for the files, in the order of the words
abbrev pub files_of : {A : Type 0} → Request A → List A
files_of (Convert to from graph) = graph ∷ []
files_of (Report subject) = subject_files subject
files_of (Check subject report) = subject_files subject ++ report ∷ []
files_of (Big size) = []

-- a check over the subject with these in place of its files, and the last of them as the report
abbrev pub check_with : {A B : Type 0} → Subject A → Option (List B × B) → Option (Request B)
check_with subject (Some (files, report)) = option_map (λ filled. Check filled report) (with_subject_files subject files)
check_with subject None = None

-- the request with these in place of its files, where they are as many
abbrev pub with_files : {A B : Type 0} → Request A → List B → Option (Request B)
with_files (Convert to from name) (graph ∷ []) = Some (Convert to from graph)
with_files (Report subject) files = option_map Report (with_subject_files subject files)
with_files (Check subject name) files = check_with subject (split_last files)
with_files (Big size) [] = Some (Big size)
with_files asked files = None

-- the texts of the words
abbrev pub texts : List (String Global) → List (List ℕ)
texts = map string_bytes

-- the format that a word names
abbrev pub format_of : List ℕ → Option Format
format_of word =
    if bytes_eq word (codes "g6") then Some G6
    else (if bytes_eq word (codes "dimacs") then Some Dimacs else None)

-- the mode of a report over the graphs of a file: the head of a report of shortest chains has no word of its own
abbrev pub graph_mode : List ℕ → Option GraphMode
graph_mode word =
    if bytes_eq word (codes "shortest") then Some Shortest
    else option_and_then as_graph_mode (mode_of_word word)

-- the mode of sessions on a class, or that of sessions that a mode is
abbrev pub session_mode_by : Option Class → Option Mode → Option SessionMode
session_mode_by (Some class) mode = Some (Of class)
session_mode_by None mode = option_and_then as_session_mode mode

-- the mode of a report over a graph and a script: a class, or a mode of sessions
abbrev pub session_mode : List ℕ → Option SessionMode
session_mode word = session_mode_by (class_of_word word) (mode_of_word word)

-- a report over the graphs of a file, if the words name a mode and a format
abbrev pub graphs_subject : Option GraphMode → Option Format → List ℕ → Option (Subject (List ℕ))
graphs_subject (Some mode) (Some from) graph = Some (Graphs mode from graph)
graphs_subject mode from graph = None

-- a report of a session, if the words name a mode and a format
abbrev pub session_subject : Option SessionMode → Option Format → List ℕ → List ℕ → Option (Subject (List ℕ))
session_subject (Some mode) (Some from) graph script = Some (Session mode from graph script)
session_subject mode from graph script = None

-- a report of the trees of the directed graphs of a file, if the word is theirs
abbrev pub digraphs_subject : List ℕ → List ℕ → Option (Subject (List ℕ))
digraphs_subject word graph = if bytes_eq word (codes "dtree") then Some (Digraphs graph) else None

-- what the report is over that the words name
abbrev pub subject_of : List (List ℕ) → Option (Subject (List ℕ))
subject_of (word ∷ graph ∷ []) = digraphs_subject word graph
subject_of (mode ∷ format ∷ graph ∷ []) = graphs_subject (graph_mode mode) (format_of format) graph
subject_of (mode ∷ format ∷ graph ∷ script ∷ []) = session_subject (session_mode mode) (format_of format) graph script
subject_of words = None

-- the text of each graph of a file in a format, if the words behind that name a format and a file
abbrev pub convert_request : Format → List (List ℕ) → Option (Request (List ℕ))
convert_request to (format ∷ graph ∷ []) = option_map (λ from. Convert to from graph) (format_of format)
convert_request to words = None

-- a number of names, if it is one that such a session may have: from 1 to BIGGEST
abbrev pub size_within : Option ℕ → Option ℕ
size_within (Some n) = if nat_le 1 n && nat_le n BIGGEST then Some n else None
size_within None = None

-- the number of names that a word writes: 1 to 18 decimal digits, leading zeros among them
abbrev pub size_written : List ℕ → Option ℕ
size_written word = size_within (number_of word)

-- the session over the edits that a number gives, if one word stands behind that and writes a number of names
abbrev pub big_request : List (List ℕ) → Option (Request (List ℕ))
big_request (size ∷ []) = option_map Big (size_written size)
big_request words = None

-- the number of names in a request is one that such a session may have
abbrev pub HasSize : {A : Type 0} → Request A → Type 0
HasSize (Big size) = size ≤ BIGGEST
HasSize request = Unit {0}

-- the check of a report, the last word, over what the words before it name
abbrev pub check_of : Option (List (List ℕ) × List ℕ) → Option (Request (List ℕ))
check_of (Some (words, report)) = option_map (λ subject. Check subject report) (subject_of words)
check_of None = None

-- the check that the words behind `check` ask for
abbrev pub check_request : List (List ℕ) → Option (Request (List ℕ))
check_request words = check_of (split_last words)

-- the request that the words make
abbrev pub request_of : List (List ℕ) → Option (Request (List ℕ))
request_of [] = None
request_of (command ∷ behind) =
    if bytes_eq command (codes "check") then check_request behind
    else (if bytes_eq command (codes "big") then big_request behind
    else (if bytes_eq command (codes "edges") then convert_request Dimacs behind
    else (if bytes_eq command (codes "graph6") then convert_request G6 behind
    else option_map Report (subject_of (command ∷ behind)))))
