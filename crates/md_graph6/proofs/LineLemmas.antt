-- The faults of one graph6 line, and what such a line without fault is made of.
use Rattle.std.proofs.Common.{◌≡◌, ℕ, ◌+◌, ◌≤◌, Bool, true, false, not, List, length, get_or, drop, if◌then◌else◌, Option, None, Some, refl, sym, ◌∙◌, arith}
use Rattle.std.specs.List.{list_all, AllPass}
use Rattle.std.proofs.lemmas.List.Sums.{AllPass-from_list_all}
use Rattle.std.proofs.lemmas.Bool.Decides.{nat_tests}
use Rattle.md_graph6.specs.declared.fault.G6Kind.{G6Kind}
use Rattle.md_graph6.specs.declared.fault.G6Kind.TheVariants.{BadByte, OtherFormat}
use Rattle.md_graph6.specs.Bits.{body_length}
use Rattle.md_graph6.specs.Size.{size_of, is_too_long}
use Rattle.md_graph6.specs.Line.{is_group, begins_other, graph6_fault, size_fault, body_fault, is_padding_set}

-- the faults of a graph6 line, by its first byte
pub graph6_fault-is : (limit : ℕ) (line : List ℕ)
    → graph6_fault limit line ≡ (if begins_other (get_or line 0 0) then Some OtherFormat else
    if not (list_all is_group line) then Some BadByte else size_fault limit line (size_of line))
unfolding graph6_fault
graph6_fault-is limit line = refl

-- a line of group bytes has the faults of its size
pub graph6_fault-sized : (limit : ℕ) (line : List ℕ) (size : Option (ℕ × ℕ))
    → begins_other (get_or line 0 0) ≡ false → list_all is_group line ≡ true → size_of line ≡ size
    → graph6_fault limit line ≡ size_fault limit line size
graph6_fault-sized limit line size first groups sized = graph6_fault-is limit line ∙ rw (first, groups, sized) refl

-- what the faults of the body rule out
pub record IsSoundBody (limit : ℕ) (line : List ℕ) (taken n : ℕ) : Type 0 where
  pub shortest : is_too_long taken n ≡ false
  pub few : n ≤ limit
  pub long : length line ≡ taken + body_length n
  pub padding : is_padding_set (drop taken line) n ≡ false

pub body_fault-none : {limit : ℕ} (line : List ℕ) (taken n : ℕ) → body_fault limit line taken n ≡ None → IsSoundBody limit line taken n
unfolding body_fault
body_fault-none {limit} line taken n e = record {
  shortest = grind (arith, nat_tests);
  few = grind (arith, nat_tests);
  long = grind (arith, nat_tests);
  padding = grind (arith, nat_tests);
}

-- a line without fault has a size, and a sound body
pub record IsSoundLine (limit : ℕ) (line : List ℕ) : Type 0 where
  pub groups : AllPass is_group line
  pub taken : ℕ
  pub n : ℕ
  pub sized : size_of line ≡ Some (taken, n)
  pub body : IsSoundBody limit line taken n

size_fault-none : {limit : ℕ} (line : List ℕ) (size : Option (ℕ × ℕ)) → AllPass is_group line → size_of line ≡ size
    → size_fault limit line size ≡ None → IsSoundLine limit line
unfolding size_fault
size_fault-none line None groups sized sound = cc
size_fault-none line (Some size) groups sized sound = record {
  groups = groups;
  taken = size.0;
  n = size.1;
  sized = sized;
  body = body_fault-none line size.0 size.1 sound;
}

first_faults-none : (line : List ℕ) (other groups : Bool) (later : Option G6Kind)
    → (if other then Some OtherFormat else if not groups then Some BadByte else later) ≡ None
    → (other ≡ false) × (groups ≡ true) × (later ≡ None)
first_faults-none line true groups later e = cc
first_faults-none line false false later e = cc
first_faults-none line false true later e = (refl, refl, e)

pub graph6_fault-none : {limit : ℕ} (line : List ℕ) → graph6_fault limit line ≡ None → IsSoundLine limit line
graph6_fault-none {limit} line sound =
    let parts = first_faults-none line (begins_other (get_or line 0 0)) (list_all is_group line)
    (size_fault limit line (size_of line)) (sym (graph6_fault-is limit line) ∙ sound) in
    size_fault-none line (size_of line) (AllPass-from_list_all is_group line parts.1) refl parts.2

-- and a line of group bytes with a size and a sound body has no fault
pub body_fault-sound : {limit : ℕ} (line : List ℕ) (taken n : ℕ) → IsSoundBody limit line taken n → body_fault limit line taken n ≡ None
unfolding body_fault
body_fault-sound {limit} line taken n sound =
    grind (arith, nat_tests, sound.shortest, sound.few, sound.long, sound.padding)
