-- Finite sets of names, and the words for them. Two sets with the same members are equal.
-- Source: finite sets, as in any textbook.
use Rattle.std.specs.Prelude.{◌≡◌, ℕ, ◌≢◌, true, false}
use Rattle.std.specs.FinSet.{FinSet, contains, empty, insert}
use Rattle.std.specs.Ordering.{nat_cmp}

-- a finite set of names
abbrev pub NameSet : Type 0
NameSet = FinSet nat_cmp

-- x is a member of s
abbrev pub Has : NameSet → ℕ → Type 0
Has s x = contains s x ≡ true

-- x is no member of s
abbrev pub Lacks : NameSet → ℕ → Type 0
Lacks s x = contains s x ≡ false

-- each member of s is one of t
abbrev pub Within : NameSet → NameSet → Type 0
Within s t = (x : ℕ) → Has s x → Has t x

-- no member of s is one of t
abbrev pub Disjoint : NameSet → NameSet → Type 0
Disjoint s t = (x : ℕ) → Has s x → Lacks t x

-- s has a member
abbrev pub HasSome : NameSet → Type 0
HasSome s = (x : ℕ) × Has s x

-- s has two members
abbrev pub HasTwo : NameSet → Type 0
HasTwo s = (x : ℕ) × (y : ℕ) × Has s x × Has s y × (x ≢ y)

-- the set with one member
abbrev pub only_name : ℕ → NameSet
only_name v = insert empty v

-- t holds s and is another set
abbrev pub Proper : NameSet → NameSet → Type 0
Proper s t = Within s t × (s ≢ t)
