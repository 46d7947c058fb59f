-- What a digraph6 line spells: a line without fault spells one directed graph, and a line that spells one has no fault.
use Rattle.std.proofs.Common.{◌≡◌, ◌≢◌, ℕ, ◌+◌, ◌*◌, ◌<◌, ◌≤◌, ◌==◌, Bool, true, false, not, List, [], ◌∷◌, ◌++◌, length, get_or, drop, if◌then◌else◌, Option, None, Some, inl, inr, refl, sym, ap, subst, ◌∙◌, arith, length-append, length-drop}
use Rattle.std.specs.List.{list_all, AllPass}
use Rattle.std.proofs.lemmas.Bool.{ne_eqb}
use Rattle.std.proofs.lemmas.Bool.Decides.{nat_tests, eqb_tells}
use Rattle.std.proofs.lemmas.List.Sums.{AllPass-from_list_all}
use Rattle.std.proofs.Math.Seq.{drop-append_seam}
use Rattle.std.proofs.lemmas.List.Elements.{All-drop}
use Rattle.md_graph.specs.NameSet.{AllBelow}
use Rattle.md_digraph.specs.declared.TheConstants.{DIRECTED_NAMES}
use Rattle.md_digraph.specs.PlainDigraph.{PlainDigraph}
use Rattle.md_graph6.specs.declared.fault.G6Kind.{G6Kind}
use Rattle.md_graph6.specs.declared.fault.G6Kind.TheVariants.{BadByte, Truncated, OtherFormat}
use Rattle.md_graph6.specs.Bits.{bit, group_count}
use Rattle.md_graph6.specs.Size.{size_text, size_of, is_too_long, most_in_four_bytes}
use Rattle.md_graph6.specs.Line.{is_group, is_set_behind}
use Rattle.md_graph6.proofs.SizeLemmas.{taken_of, n_of, size_text-read, size_text-shortest, size_text-some, size_text-spelt}
use Rattle.md_graph6.proofs.PaddingLemmas.{padding-none, padding-all}
use Rattle.md_graph6.proofs.SpellLemmas.{text_groups}
use Rattle.md_graph6.proofs.FirstLemmas.{numbers_below}
use Rattle.md_digraph6.specs.ArcLine.{SpellsArcLine, IsArcBodyOf, some_loop, bits_fault, arc_body_fault, arc_size_fault, arc_rest_fault, arc_line_fault, digraph_of_body, digraph_of_sized, digraph_of_line}
use Rattle.md_digraph6.proofs.ArcBits.{decoded_is_arc_body, decoded_vertices, body_has_no_loop, arc_body-one}

-- a size takes at most four bytes
pub directed_size : (n : ℕ) → n ≤ DIRECTED_NAMES → n ≤ most_in_four_bytes
directed_size n few = omega (arith, few)

-- ---- what the faults rule out

pub record IsSoundArcBody (rest : List ℕ) (taken n : ℕ) : Type 0 where
  pub shortest : is_too_long taken n ≡ false
  pub few : n ≤ DIRECTED_NAMES
  pub long : length rest ≡ taken + group_count (n * n)
  pub no_loop : some_loop (drop taken rest) n n ≡ false
  pub padding : is_set_behind (drop taken rest) (n * n) ≡ false

pub record IsSoundArcRest (rest : List ℕ) : Type 0 where
  pub groups : AllPass is_group rest
  pub some : 0 < length rest
  pub taken : ℕ
  pub n : ℕ
  pub sized : size_of rest ≡ Some (taken, n)
  pub body : IsSoundArcBody rest taken n

arc_body_fault-none : (rest : List ℕ) (taken n : ℕ) → arc_body_fault rest taken n ≡ None → IsSoundArcBody rest taken n
unfolding arc_body_fault bits_fault
arc_body_fault-none rest taken n e = record {
  shortest = grind (arith, nat_tests);
  few = grind (arith, nat_tests);
  long = grind (arith, nat_tests);
  no_loop = grind (arith, nat_tests);
  padding = grind (arith, nat_tests);
}

arc_body_fault-sound : (rest : List ℕ) (taken n : ℕ) → IsSoundArcBody rest taken n → arc_body_fault rest taken n ≡ None
unfolding arc_body_fault bits_fault
arc_body_fault-sound rest taken n sound =
    grind (arith, nat_tests, sound.shortest, sound.few, sound.long, sound.no_loop, sound.padding)

arc_size_fault-none : (rest : List ℕ) (size : Option (ℕ × ℕ)) → AllPass is_group rest → 0 < length rest → size_of rest ≡ size
    → arc_size_fault rest size ≡ None → IsSoundArcRest rest
unfolding arc_size_fault
arc_size_fault-none rest None groups some sized sound = cc
arc_size_fault-none rest (Some size) groups some sized sound = record {
  groups = groups;
  some = some;
  taken = size.0;
  n = size.1;
  sized = sized;
  body = arc_body_fault-none rest size.0 size.1 sound;
}

-- by the tests that come first
first_tests-none : (groups empty : Bool) (later : Option G6Kind)
    → (if not groups then Some BadByte else if empty then Some Truncated else later) ≡ None
    → (groups ≡ true) × (empty ≡ false) × (later ≡ None)
first_tests-none false empty later e = cc
first_tests-none true true later e = cc
first_tests-none true false later e = (refl, refl, e)

arc_rest_fault-none : (rest : List ℕ) → arc_rest_fault rest ≡ None → IsSoundArcRest rest
unfolding arc_rest_fault
arc_rest_fault-none rest sound =
    let parts = first_tests-none (list_all is_group rest) (length rest == 0) (arc_size_fault rest (size_of rest)) sound in
    let some : 0 < length rest = grind (arith, nat_tests, parts.1) in
    arc_size_fault-none rest (size_of rest) (AllPass-from_list_all is_group rest parts.0) some refl parts.2

-- group bytes have the faults of their size
pub arc_rest_fault-sized : (rest : List ℕ) (size : Option (ℕ × ℕ)) → list_all is_group rest ≡ true → (length rest == 0) ≡ false → size_of rest ≡ size
    → arc_rest_fault rest ≡ arc_size_fault rest size
unfolding arc_rest_fault
arc_rest_fault-sized rest size groups some sized = rw (groups, some, sized) refl

-- ---- a line by its first byte

arc_line_fault-some : (line : List ℕ) → 0 < length line
    → arc_line_fault line ≡ (if get_or line 0 0 == 38 then arc_rest_fault (drop 1 line) else Some OtherFormat)
unfolding arc_line_fault
arc_line_fault-some [] some = absurd (omega arith)
arc_line_fault-some (byte ∷ rest) some = refl

pub arc_line_fault-empty : (line : List ℕ) → length line ≡ 0 → arc_line_fault line ≡ None
unfolding arc_line_fault
arc_line_fault-empty [] none = refl
arc_line_fault-empty (byte ∷ rest) none = absurd (omega arith)

pub arc_line_fault-arcs : (line : List ℕ) → 0 < length line → get_or line 0 0 ≡ 38 → arc_line_fault line ≡ arc_rest_fault (drop 1 line)
arc_line_fault-arcs line some first = arc_line_fault-some line some ∙ rw first refl

pub arc_line_fault-other : (line : List ℕ) → 0 < length line → get_or line 0 0 ≢ 38 → arc_line_fault line ≡ Some OtherFormat
arc_line_fault-other line some other = arc_line_fault-some line some ∙ rw (ne_eqb (get_or line 0 0) 38 other) refl

-- a line without fault is `&` and what stands behind it
pub record IsSoundArcLine (line : List ℕ) : Type 0 where
  pub text : line ≡ 38 ∷ drop 1 line
  pub rest : IsSoundArcRest (drop 1 line)

pub sound_arc_line : (line : List ℕ) → 0 < length line → arc_line_fault line ≡ None → IsSoundArcLine line
sound_arc_line [] some sound = absurd (omega (arith, some))
sound_arc_line (byte ∷ rest) some sound = elim (eqb_tells byte 38) [
  | inl (test, is) ↦ record {
    text = ap (λ b. b ∷ rest) is;
    rest = arc_rest_fault-none rest (sym (arc_line_fault-arcs (byte ∷ rest) some is) ∙ sound);
  }
  | inr (test, other) ↦ absurd (faulty (sym (arc_line_fault-other (byte ∷ rest) some other) ∙ sound))
]
  where
    faulty : ◌≡◌ {A = Option G6Kind} (Some OtherFormat) None → ⊥
    faulty e = cc

-- ---- what is spelt

text_is_sound : (n : ℕ) (body : List ℕ) → n ≤ DIRECTED_NAMES → length body ≡ group_count (n * n) → some_loop body n n ≡ false
    → ((k : ℕ) → n * n ≤ k → k < 6 * group_count (n * n) → bit body k ≡ 0)
    → IsSoundArcBody (size_text n ++ body) (length (size_text n)) n
text_is_sound n body few long no_loop blank = record {
  shortest = size_text-shortest n (directed_size n few);
  few = few;
  long = length-append (size_text n) body ∙ ap (λ k. length (size_text n) + k) long;
  no_loop = rw (drop-append_seam (size_text n) body) no_loop;
  padding = rw (drop-append_seam (size_text n) body) (padding-none body (n * n) blank);
}

text_rest_fault : (n : ℕ) (body : List ℕ) → n ≤ DIRECTED_NAMES → AllPass is_group body
    → IsSoundArcBody (size_text n ++ body) (length (size_text n)) n → arc_rest_fault (size_text n ++ body) ≡ None
unfolding arc_rest_fault arc_size_fault
text_rest_fault n body few groups sound =
    let some : 0 < length (size_text n ++ body) = size_text-some n body (directed_size n few) in
    let other : length (size_text n ++ body) ≢ 0 = λ none. absurd (omega (arith, some, none)) in
    rw (text_groups n body (directed_size n few) groups, ne_eqb (length (size_text n ++ body)) 0 other, size_text-read n body (directed_size n few))
    (arc_body_fault-sound (size_text n ++ body) (length (size_text n)) n sound)

pub spells_arc-sound : (line : List ℕ) (g : PlainDigraph) → SpellsArcLine line g → arc_line_fault line ≡ None
spells_arc-sound line g s =
    let no_loop = body_has_no_loop s.body s.n g s.bits in
    let sound = text_is_sound s.n s.body s.few s.long no_loop s.padding in
    rw s.text (arc_line_fault-arcs (38 ∷ (size_text s.n ++ s.body)) (omega arith) refl ∙ text_rest_fault s.n s.body s.few s.groups sound)

text_digraph : (n : ℕ) (body : List ℕ) (g : PlainDigraph) → n ≤ DIRECTED_NAMES → IsArcBodyOf body n g
    → digraph_of_line (38 ∷ (size_text n ++ body)) ≡ g
unfolding digraph_of_sized
text_digraph n body g few bits =
    rw (size_text-read n body (directed_size n few), drop-append_seam (size_text n) body)
    (arc_body-one body n (digraph_of_body body n) g (decoded_is_arc_body body n few (body_has_no_loop body n g bits)) bits)

pub spells_arc-digraph : (line : List ℕ) (g : PlainDigraph) → SpellsArcLine line g → digraph_of_line line ≡ g
spells_arc-digraph line g s = rw s.text (text_digraph s.n s.body g s.few s.bits)

sound_line-spells : (line : List ℕ) → IsSoundArcLine line → SpellsArcLine line (digraph_of_line line)
unfolding digraph_of_sized
sound_line-spells line facts =
    let rest = facts.rest in
    let body = rest.body in
    record {
      n = rest.n;
      body = drop rest.taken (drop 1 line);
      few = body.few;
      text = facts.text ∙ ap (λ r. 38 ∷ r) (size_text-spelt (drop 1 line) rest.taken rest.n rest.some rest.groups rest.sized body.shortest (directed_size rest.n body.few));
      long = rw (length-drop rest.taken (drop 1 line)) (omega (arith, body.long));
      groups = All-drop (λ byte. is_group byte ≡ true) rest.taken (drop 1 line) rest.groups;
      bits = rw rest.sized (decoded_is_arc_body (drop rest.taken (drop 1 line)) rest.n body.few body.no_loop);
      padding = padding-all (drop rest.taken (drop 1 line)) (rest.n * rest.n) body.padding;
    }

pub sound-spells_arc : (line : List ℕ) → 0 < length line → arc_line_fault line ≡ None → SpellsArcLine line (digraph_of_line line)
sound-spells_arc line some sound = sound_line-spells line (sound_arc_line line some sound)

-- a directed graph that is filled from what stands behind the size is the line's
pub filled_is_arc_line : (line : List ℕ) (taken n : ℕ) (g : PlainDigraph) → size_of (drop 1 line) ≡ Some (taken, n) → n ≤ DIRECTED_NAMES
    → some_loop (drop taken (drop 1 line)) n n ≡ false → IsArcBodyOf (drop taken (drop 1 line)) n g → g ≡ digraph_of_line line
unfolding digraph_of_sized
filled_is_arc_line line taken n g sized few no_loop bits =
    rw sized (arc_body-one (drop taken (drop 1 line)) n g (digraph_of_body (drop taken (drop 1 line)) n) bits
    (decoded_is_arc_body (drop taken (drop 1 line)) n few no_loop))

-- ---- a line without fault is read

pub arc_body_at : (line : List ℕ) (taken n : ℕ) → 0 < length line → arc_line_fault line ≡ None → size_of (drop 1 line) ≡ Some (taken, n)
    → IsSoundArcBody (drop 1 line) taken n
arc_body_at line taken n some sound sized =
    let rest = (sound_arc_line line some sound).rest in
    let same = sym rest.sized ∙ sized in
    subst (λ m. IsSoundArcBody (drop 1 line) taken m) (n_of _ _ _ _ same) (subst (λ t. IsSoundArcBody (drop 1 line) t rest.n) (taken_of _ _ _ _ same) rest.body)

pub arc_size_there : (line : List ℕ) → 0 < length line → arc_line_fault line ≡ None → size_of (drop 1 line) ≡ None → ⊥
arc_size_there line some sound none = let rest = (sound_arc_line line some sound).rest in cc (rest.sized)

-- a size has room where the vertices have
pub arc_size_fits : (line : List ℕ) (taken n m : ℕ) → size_of (drop 1 line) ≡ Some (taken, n) → AllBelow (digraph_of_line line).vertices m → n ≤ m
unfolding digraph_of_sized
arc_size_fits line taken n m sized below =
    numbers_below n (digraph_of_body (drop taken (drop 1 line)) n).vertices m (decoded_vertices (drop taken (drop 1 line)) n) (rw sized at below)
