-- The first fault of an edit's line, and the edit that it spells.
use Rattle.std.specs.Prelude.{◌≡◌, ℕ, suc, ◌<◌, Bool, true, false, cond, nat_le, ◌==◌, List, [], ◌∷◌, length, Option, Some, None, option_and_then, refl}
use Rattle.std.specs.Option.{option_or}
use Rattle.std.specs.List.{All}
use Rattle.std.proofs.Common.{ap, sym, ◌∙◌, arith, subst}
use Rattle.std.proofs.lemmas.Bool.{eqb-true, leb-false}
use Rattle.std.proofs.lemmas.Bool.Decides.{nat_tests}
use Rattle.std.proofs.lemmas.List.Elements.{All-nil, All-cons, All-head, All-tail}
use Rattle.std.specs.FinSet as set
use Rattle.md_graph.specs.declared.TheConstants.{NAMES}
use Rattle.md_graph.specs.NameSet.{ascending}
use Rattle.md_text.specs.Numbers.{number_of}
use Rattle.md_script.specs.declared.edit.Edit.{Edit}
use Rattle.md_script.specs.declared.edit.Edit.TheVariants.{AddEdge, DelEdge, AddVertex, DelVertex}
use Rattle.md_script.specs.declared.fault.ScriptKind.{ScriptKind}
use Rattle.md_script.specs.declared.fault.ScriptKind.TheVariants.{FieldCount, NameTooLarge}
use Rattle.md_script.specs.declared.word.EditWord.{EditWord}
use Rattle.md_script.specs.declared.word.EditWord.TheVariants.{PlusEdge, MinusEdge, PlusVertex, MinusVertex}
use Rattle.md_script.specs.Edit.{HasNames}
use Rattle.md_script.specs.Line.{name_in, number_fault, before_names, names_written, names_fault, edit_with, edit_by, count_fault, vertex_fault, fault_with}
use Rattle.md_script.proofs.NameListLemmas.{ascending_is_list}

-- ---- fields that are all names

-- fields that write names
record AreNames (rest : List (List ℕ)) (list : List ℕ) : Type 0 where
  written : names_written rest ≡ Some list
  size : length list ≡ length rest
  below : All (λ v. v < NAMES) list
  faultless : names_fault rest ≡ None

-- a number that is a name
record IsName (number : Option ℕ) (v : ℕ) : Type 0 where
  written : name_in number ≡ Some v
  below : v < NAMES
  faultless : number_fault number ≡ None

name_at : (n : ℕ) → nat_le NAMES n ≡ false → IsName (Some n) n
name_at n small = record { written = rw small refl; below = leb-false NAMES n small; faultless = rw small refl }

some_name : (number : Option ℕ) → number_fault number ≡ None → (v : ℕ) × IsName number v
some_name None h = absurd (cc)
some_name (Some n) h = by_test (nat_le NAMES n) refl h where
  by_test : (large : Bool) → nat_le NAMES n ≡ large → cond large (Some NameTooLarge) None ≡ None → (v : ℕ) × IsName (Some n) v
  by_test true e h = absurd (cc)
  by_test false e h = (n, name_at n e)

that_name : (number : Option ℕ) (v : ℕ) → name_in number ≡ Some v → IsName number v
that_name None v h = absurd (cc)
that_name (Some n) v h = by_test (nat_le NAMES n) refl h where
  by_test : (large : Bool) → nat_le NAMES n ≡ large → cond large None (Some n) ≡ Some v → IsName (Some n) v
  by_test true e h = absurd (cc)
  by_test false e h = let same : n ≡ v = cc in subst (IsName (Some n)) same (name_at n e)

no_names : AreNames [] []
unfolding names_written names_fault
no_names = record { written = refl; size = refl; below = All-nil _; faultless = refl }

more_names : (field : List ℕ) (rest : List (List ℕ)) (v : ℕ) (list : List ℕ) → IsName (number_of field) v → AreNames rest list → AreNames (field ∷ rest) (v ∷ list)
unfolding names_written names_fault
more_names field rest v list name others = record {
  written = (λ i. before_names (name.written i) (others.written i));
  size = ap suc others.size;
  below = All-cons (λ w. w < NAMES) v list name.below others.below;
  faultless = (λ i. option_or (name.faultless i) (others.faultless i));
}

or_is_none : (first second : Option ScriptKind) → option_or first second ≡ None → (first ≡ None) × (second ≡ None)
or_is_none None second h = (refl, h)
or_is_none (Some kind) second h = absurd (cc)

names_without_fault : (rest : List (List ℕ)) → names_fault rest ≡ None → (list : List ℕ) × AreNames rest list
unfolding names_fault
names_without_fault [] h = ([], no_names)
names_without_fault (field ∷ rest) h =
    let parts = or_is_none (number_fault (number_of field)) (names_fault rest) h in
    let name = some_name (number_of field) parts.0 in
    let others = names_without_fault rest parts.1 in
    (name.0 ∷ others.0, more_names field rest name.0 others.0 name.1 others.1)

both_there : (first : Option ℕ) (others : Option (List ℕ)) (list : List ℕ) → before_names first others ≡ Some list
    → (v : ℕ) × (rest : List ℕ) × (first ≡ Some v) × (others ≡ Some rest) × (list ≡ v ∷ rest)
both_there None others list h = absurd (cc)
both_there (Some v) None list h = absurd (cc)
both_there (Some v) (Some rest) list h = (v, rest, refl, refl, cc)

names_are : (rest : List (List ℕ)) (list : List ℕ) → names_written rest ≡ Some list → AreNames rest list
unfolding names_written
names_are [] list h = let same : [] ≡ list = cc in subst (AreNames []) same no_names
names_are (field ∷ rest) list h =
    let parts = both_there (name_in (number_of field)) (names_written rest) list h in
    subst (AreNames (field ∷ rest)) (sym parts.4)
    (more_names field rest parts.0 parts.1 (that_name (number_of field) parts.0 parts.2) (names_are rest parts.1 parts.3))

-- ---- one edit

-- fields that spell an edit
record SpellEdit (word : EditWord) (rest : List (List ℕ)) (edit : Edit) : Type 0 where
  list : List ℕ
  names : AreNames rest list
  is : edit_with word list ≡ Some edit

counted : (n : ℕ) (rest : List (List ℕ)) → count_fault n rest ≡ None → (length rest ≡ n) × (names_fault rest ≡ None)
counted n rest h = by_test (length rest == n) refl h where
  by_test : (right : Bool) → (length rest == n) ≡ right → cond right (names_fault rest) (Some FieldCount) ≡ None → (length rest ≡ n) × (names_fault rest ≡ None)
  by_test true e h = (eqb-true (length rest) n e, h)
  by_test false e h = absurd (cc)

two_names : (list : List ℕ) → length list ≡ 2 → (u : ℕ) × (v : ℕ) × (list ≡ u ∷ v ∷ [])
two_names [] h = absurd (omega arith)
two_names (u ∷ []) h = absurd (omega arith)
two_names (u ∷ v ∷ []) h = (u, v, refl)
two_names (u ∷ v ∷ w ∷ more) h = absurd (omega arith)

one_name : (list : List ℕ) → length list ≡ 1 → (u : ℕ) × (list ≡ u ∷ [])
one_name [] h = absurd (omega arith)
one_name (u ∷ []) h = (u, refl)
one_name (u ∷ v ∷ more) h = absurd (omega arith)

edge_spelled : (word : EditWord) (make : ℕ → ℕ → Edit) (rest : List (List ℕ)) → ((u v : ℕ) → edit_with word (u ∷ v ∷ []) ≡ Some (make u v)) → count_fault 2 rest ≡ None
    → (edit : Edit) × SpellEdit word rest edit
edge_spelled word make rest makes h =
    let parts = counted 2 rest h in
    let names = names_without_fault rest parts.1 in
    let two = two_names names.0 (names.1.size ∙ parts.0) in
    (make two.0 two.1, record { list = names.0; names = names.1; is = ap (edit_with word) two.2 ∙ makes two.0 two.1 })

vertex_spelled : (rest : List (List ℕ)) → vertex_fault rest ≡ None → (edit : Edit) × SpellEdit PlusVertex rest edit
vertex_spelled [] h = absurd (cc)
vertex_spelled (field ∷ rest) h = by_list (names_without_fault (field ∷ rest) h) where
  by_list : (list : List ℕ) × AreNames (field ∷ rest) list → (edit : Edit) × SpellEdit PlusVertex (field ∷ rest) edit
  by_list ([], names) = absurd (let size = names.size in omega arith)
  by_list (x ∷ others, names) = (AddVertex x (ascending (set.from_list others)), record { list = x ∷ others; names = names; is = refl })

gone_spelled : (rest : List (List ℕ)) → count_fault 1 rest ≡ None → (edit : Edit) × SpellEdit MinusVertex rest edit
gone_spelled rest h =
    let parts = counted 1 rest h in
    let names = names_without_fault rest parts.1 in
    let one = one_name names.0 (names.1.size ∙ parts.0) in
    (DelVertex one.0, record { list = names.0; names = names.1; is = ap (edit_with MinusVertex) one.1 })

with_word : (word : EditWord) (rest : List (List ℕ)) → fault_with word rest ≡ None → (edit : Edit) × SpellEdit word rest edit
with_word PlusEdge rest h = edge_spelled PlusEdge AddEdge rest (λ u v. refl) h
with_word MinusEdge rest h = edge_spelled MinusEdge DelEdge rest (λ u v. refl) h
with_word PlusVertex rest h = vertex_spelled rest h
with_word MinusVertex rest h = gone_spelled rest h

pub edit_without_fault : (word : EditWord) (rest : List (List ℕ)) → fault_with word rest ≡ None → (edit : Edit) × (edit_by word rest ≡ Some edit)
edit_without_fault word rest h =
    let spelled = with_word word rest h in
    (spelled.0, ap (option_and_then (edit_with word)) spelled.1.names.written ∙ spelled.1.is)

-- the names behind a word that spell an edit are as many as it takes, and the edit's
record IsMade (word : EditWord) (list : List ℕ) (edit : Edit) : Type 0 where
  faultless : (rest : List (List ℕ)) → length list ≡ length rest → names_fault rest ≡ None → fault_with word rest ≡ None
  names : All (λ v. v < NAMES) list → HasNames edit

count_passed : (n : ℕ) (rest : List (List ℕ)) → n ≡ length rest → names_fault rest ≡ None → count_fault n rest ≡ None
count_passed n rest size none = let right : (length rest == n) ≡ true = grind (arith, nat_tests) in rw right none

vertex_passed : (n : ℕ) (rest : List (List ℕ)) → suc n ≡ length rest → names_fault rest ≡ None → vertex_fault rest ≡ None
vertex_passed n [] size none = absurd (omega arith)
vertex_passed n (field ∷ rest) size none = none

second : (u v : ℕ) (list : List ℕ) → All (λ w. w < NAMES) (u ∷ v ∷ list) → v < NAMES
second u v list all = All-head (λ w. w < NAMES) v list (All-tail (λ w. w < NAMES) u (v ∷ list) all)

made_edit : (word : EditWord) (list : List ℕ) (edit : Edit) → edit_with word list ≡ Some edit → IsMade word list edit
made_edit PlusEdge [] edit h = absurd (cc)
made_edit PlusEdge (u ∷ []) edit h = absurd (cc)
made_edit PlusEdge (u ∷ v ∷ []) edit h =
    let same : AddEdge u v ≡ edit = cc in
    record { faultless = count_passed 2; names = λ all. subst HasNames same (All-head (λ w. w < NAMES) u (v ∷ []) all, second u v [] all) }
made_edit PlusEdge (u ∷ v ∷ w ∷ more) edit h = absurd (cc)
made_edit MinusEdge [] edit h = absurd (cc)
made_edit MinusEdge (u ∷ []) edit h = absurd (cc)
made_edit MinusEdge (u ∷ v ∷ []) edit h =
    let same : DelEdge u v ≡ edit = cc in
    record { faultless = count_passed 2; names = λ all. subst HasNames same (All-head (λ w. w < NAMES) u (v ∷ []) all, second u v [] all) }
made_edit MinusEdge (u ∷ v ∷ w ∷ more) edit h = absurd (cc)
made_edit PlusVertex [] edit h = absurd (cc)
made_edit PlusVertex (x ∷ others) edit h =
    let same : AddVertex x (ascending (set.from_list others)) ≡ edit = cc in
    record {
      faultless = vertex_passed (length others);
      names = λ all. subst HasNames same (All-head (λ w. w < NAMES) x others all, (ascending_is_list (set.from_list others)).names);
    }
made_edit MinusVertex [] edit h = absurd (cc)
made_edit MinusVertex (x ∷ []) edit h =
    let same : DelVertex x ≡ edit = cc in
    record { faultless = count_passed 1; names = λ all. subst HasNames same (All-head (λ w. w < NAMES) x [] all) }
made_edit MinusVertex (x ∷ v ∷ more) edit h = absurd (cc)

by_names : (word : EditWord) (names : Option (List ℕ)) (edit : Edit) → option_and_then (edit_with word) names ≡ Some edit → (list : List ℕ) × (names ≡ Some list) × IsMade word list edit
by_names word None edit h = absurd (cc)
by_names word (Some list) edit h = (list, refl, made_edit word list edit h)

-- fields that spell an edit have no fault, and the edit's names are names
pub edit_spelled : (word : EditWord) (rest : List (List ℕ)) (edit : Edit) → edit_by word rest ≡ Some edit → (fault_with word rest ≡ None) × HasNames edit
edit_spelled word rest edit h =
    let made = by_names word (names_written rest) edit h in
    let names = names_are rest made.0 made.1 in
    (made.2.faultless rest names.size names.faultless, made.2.names names.below)
