-- The names in a line.
use Rattle.std.specs.Prelude.{◌≡◌, ℕ, List, [], ◌∷◌, ◌++◌, Option, Some, None, Result, Ok, Err, IfOk, IfErr, OnOk, option_map, refl}
use Rattle.std.specs.Option.{option_or}
use Rattle.std.proofs.Common.{subst, ap, sym, ◌∙◌, append_assoc}
use Rattle.std.proofs.lemmas.List.{append-nil}
use Rattle.std.specs.FinSet as set
use Rattle.std.specs.FinSet.{nat_cmp-IsAntisymmetric}
use Rattle.std.specs.Cmp.{nat_cmp_total}
use Rattle.md_graph.specs.Sets.{NameSet}
use Rattle.md_text.specs.Fields.{fields}
use Rattle.md_text.specs.Numbers.{number_of, BeginsWithNumber, AreTwoNumbers}
use Rattle.md_script.specs.declared.fault.ScriptKind.{ScriptKind}
use Rattle.md_script.specs.Line.{name_in, number_fault, before_names, names_written, names_fault, count_fault, vertex_fault}
use Rattle.md_script.specs.Read.{NamesSet, NamesVertex}

option_or-none : {T : Type 0} (o : Option T) → option_or o None ≡ o
option_or-none None = refl
option_or-none (Some x) = refl

-- ---- any number of names

-- of the fields, those up to `rest` are names, the members of s
pub record HasRead (whole rest : List (List ℕ)) (s : NameSet) : Type 0 where
  pub done : List ℕ
  pub names : names_written whole ≡ option_map (λ more. done ++ more) (names_written rest)
  pub members : s ≡ set.from_list done
  pub fault : names_fault whole ≡ names_fault rest

one_before : (done : List ℕ) (v : ℕ) (o : Option (List ℕ)) → option_map (λ more. done ++ more) (before_names (Some v) o) ≡ option_map (λ more. (done ++ v ∷ []) ++ more) o
one_before done v None = refl
one_before done v (Some xs) = ap (λ l. Some l) (sym (append_assoc done (v ∷ []) xs))

names-cons : (field : List ℕ) (rest : List (List ℕ)) (v : ℕ) → name_in (number_of field) ≡ Some v → names_written (field ∷ rest) ≡ before_names (Some v) (names_written rest)
unfolding names_written
names-cons field rest v is = ap (λ o. before_names o (names_written rest)) is

fault-cons : (field : List ℕ) (rest : List (List ℕ)) → number_fault (number_of field) ≡ None → names_fault (field ∷ rest) ≡ names_fault rest
unfolding names_fault
fault-cons field rest is = ap (λ o. option_or o (names_fault rest)) is

fault-here : (field : List ℕ) (rest : List (List ℕ)) (kind : ScriptKind) → number_fault (number_of field) ≡ Some kind → names_fault (field ∷ rest) ≡ Some kind
unfolding names_fault
fault-here field rest kind is = ap (λ o. option_or o (names_fault rest)) is

pub read_more : (whole : List (List ℕ)) (line more : List ℕ) (number : Option ℕ) (v : ℕ) (s t : NameSet) → HasRead whole (fields line) s → BeginsWithNumber line number more
    → name_in number ≡ Some v → number_fault number ≡ None → t ≡ set.insert s v → HasRead whole (fields more) t
read_more whole line more number v s t h b name fault added = record {
  done = h.done ++ v ∷ [];
  names =
      h.names ∙ ap (λ l. option_map (λ xs. h.done ++ xs) (names_written l)) b.is_first
      ∙ ap (option_map (λ xs. h.done ++ xs)) (names-cons b.field (fields more) v (ap name_in (sym b.is_number) ∙ name))
      ∙ one_before h.done v (names_written (fields more));
  members = added ∙ ap (λ u. set.insert u v) h.members ∙ sym (set.from_list_push nat_cmp_total nat_cmp-IsAntisymmetric h.done v);
  fault = h.fault ∙ ap names_fault b.is_first ∙ fault-cons b.field (fields more) (ap number_fault (sym b.is_number) ∙ fault);
}

pub read_refused : (whole : List (List ℕ)) (line more : List ℕ) (number : Option ℕ) (kind : ScriptKind) (s : NameSet) → HasRead whole (fields line) s → BeginsWithNumber line number more
    → number_fault number ≡ Some kind → names_fault whole ≡ Some kind
read_refused whole line more number kind s h b fault =
    h.fault ∙ ap names_fault b.is_first ∙ fault-here b.field (fields more) kind (ap number_fault (sym b.is_number) ∙ fault)

names-nil : names_written [] ≡ Some []
unfolding names_written
names-nil = refl

fault-nil : names_fault [] ≡ None
unfolding names_fault
fault-nil = refl

pub read_all : (whole rest : List (List ℕ)) (s : NameSet) → HasRead whole rest s → rest ≡ [] → NamesSet whole s
read_all whole rest s h end = record {
  list = h.done ++ [];
  written = h.names ∙ ap (λ l. option_map (λ more. h.done ++ more) (names_written l)) end ∙ ap (option_map (λ more. h.done ++ more)) names-nil;
  members = h.members ∙ ap set.from_list (sym (append-nil h.done));
}

pub read_faultless : (whole rest : List (List ℕ)) (s : NameSet) → HasRead whole rest s → rest ≡ [] → names_fault whole ≡ None
read_faultless whole rest s h end = h.fault ∙ ap names_fault end ∙ fault-nil

-- ---- a name and any number of others

pub vertex_read : (line more : List ℕ) (number : Option ℕ) (x : ℕ) (s : NameSet) → BeginsWithNumber line number more → name_in number ≡ Some x → NamesSet (fields more) s
    → NamesVertex (fields line) x s
vertex_read line more number x s b name others = record {
  list = others.list;
  written =
      ap names_written b.is_first ∙ names-cons b.field (fields more) x (ap name_in (sym b.is_number) ∙ name)
      ∙ ap (before_names (Some x)) others.written;
  members = others.members;
}

pub vertex_refused : (line more : List ℕ) (number : Option ℕ) (kind : ScriptKind) → BeginsWithNumber line number more → number_fault number ≡ Some kind
    → vertex_fault (fields line) ≡ Some kind
vertex_refused line more number kind b fault =
    ap vertex_fault b.is_first ∙ fault-here b.field (fields more) kind (ap number_fault (sym b.is_number) ∙ fault)

pub others_fault : (line more : List ℕ) (number : Option ℕ) (fault : Option ScriptKind) → BeginsWithNumber line number more → number_fault number ≡ None
    → names_fault (fields more) ≡ fault → vertex_fault (fields line) ≡ fault
others_fault line more number fault b none later =
    ap vertex_fault b.is_first ∙ fault-cons b.field (fields more) (ap number_fault (sym b.is_number) ∙ none) ∙ later

-- ---- one name, or two

names_one : (rest : List (List ℕ)) (a : List ℕ) (u : ℕ) → rest ≡ a ∷ [] → name_in (number_of a) ≡ Some u → names_written rest ≡ Some (u ∷ [])
names_one rest a u cut name = ap names_written cut ∙ names-cons a [] u name ∙ ap (before_names (Some u)) names-nil

names_two : (rest : List (List ℕ)) (a b : List ℕ) (u v : ℕ) → rest ≡ a ∷ b ∷ [] → name_in (number_of a) ≡ Some u → name_in (number_of b) ≡ Some v
    → names_written rest ≡ Some (u ∷ v ∷ [])
names_two rest a b u v cut first second =
    ap names_written cut ∙ names-cons a (b ∷ []) u first ∙ ap (before_names (Some u)) (names_one (b ∷ []) b v refl second)

fault_one : (rest : List (List ℕ)) (a : List ℕ) → rest ≡ a ∷ [] → count_fault 1 rest ≡ number_fault (number_of a)
unfolding names_fault
fault_one rest a cut = ap (count_fault 1) cut ∙ option_or-none (number_fault (number_of a))

fault_two : (rest : List (List ℕ)) (a b : List ℕ) → rest ≡ a ∷ b ∷ [] → count_fault 2 rest ≡ option_or (number_fault (number_of a)) (number_fault (number_of b))
unfolding names_fault
fault_two rest a b cut = ap (count_fault 2) cut ∙ ap (option_or (number_fault (number_of a))) (option_or-none (number_fault (number_of b)))

-- what a result says of two numbers, it says of the line whose fields write them
pub ends_named : (r : Result (ℕ × ℕ) ScriptKind) (line : List ℕ) (u v : Option ℕ) → AreTwoNumbers line u v
    → IfOk r (λ p. name_in u ≡ Some p.0) → IfOk r (λ p. name_in v ≡ Some p.1) → IfOk r (λ p. names_written (fields line) ≡ Some (p.0 ∷ p.1 ∷ []))
ends_named (Ok p) line u v t first second =
    names_two (fields line) t.first t.second p.0 p.1 t.are_fields (ap name_in (sym t.is_first) ∙ first) (ap name_in (sym t.is_second) ∙ second)
ends_named (Err kind) line u v t first second = tt

both_faults : (line : List ℕ) (u v : Option ℕ) → AreTwoNumbers line u v → option_or (number_fault u) (number_fault v) ≡ count_fault 2 (fields line)
both_faults line u v t =
    (λ i. option_or (number_fault (t.is_first i)) (number_fault (t.is_second i))) ∙ sym (fault_two (fields line) t.first t.second t.are_fields)

pub ends_passed : (r : Result (ℕ × ℕ) ScriptKind) (line : List ℕ) (u v : Option ℕ) → AreTwoNumbers line u v
    → OnOk r (option_or (number_fault u) (number_fault v) ≡ None) → OnOk r (count_fault 2 (fields line) ≡ None)
ends_passed r line u v t h = subst (λ o. OnOk r (o ≡ None)) (both_faults line u v t) h

pub ends_refused : (r : Result (ℕ × ℕ) ScriptKind) (line : List ℕ) (u v : Option ℕ) → AreTwoNumbers line u v
    → IfErr r (λ kind. option_or (number_fault u) (number_fault v) ≡ Some kind) → IfErr r (λ kind. count_fault 2 (fields line) ≡ Some kind)
ends_refused r line u v t h = subst (λ o. IfErr r (λ kind. o ≡ Some kind)) (both_faults line u v t) h

-- and of one
pub vertex_named : (r : Result ℕ ScriptKind) (rest : List (List ℕ)) (a : List ℕ) (u : Option ℕ) → rest ≡ a ∷ [] → u ≡ number_of a
    → IfOk r (λ x. name_in u ≡ Some x) → IfOk r (λ x. names_written rest ≡ Some (x ∷ []))
vertex_named (Ok x) rest a u cut eu name = names_one rest a x cut (ap name_in (sym eu) ∙ name)
vertex_named (Err kind) rest a u cut eu name = tt

one_fault : (rest : List (List ℕ)) (a : List ℕ) (u : Option ℕ) → rest ≡ a ∷ [] → u ≡ number_of a → number_fault u ≡ count_fault 1 rest
one_fault rest a u cut eu = ap number_fault eu ∙ sym (fault_one rest a cut)

pub vertex_passed : (r : Result ℕ ScriptKind) (rest : List (List ℕ)) (a : List ℕ) (u : Option ℕ) → rest ≡ a ∷ [] → u ≡ number_of a
    → OnOk r (number_fault u ≡ None) → OnOk r (count_fault 1 rest ≡ None)
vertex_passed r rest a u cut eu h = subst (λ o. OnOk r (o ≡ None)) (one_fault rest a u cut eu) h

pub name_refused : (r : Result ℕ ScriptKind) (rest : List (List ℕ)) (a : List ℕ) (u : Option ℕ) → rest ≡ a ∷ [] → u ≡ number_of a
    → IfErr r (λ kind. number_fault u ≡ Some kind) → IfErr r (λ kind. count_fault 1 rest ≡ Some kind)
name_refused r rest a u cut eu h = subst (λ o. IfErr r (λ kind. o ≡ Some kind)) (one_fault rest a u cut eu) h
