-- What kinds of nodes have to be for each set of names to have exactly one tree of strong modules.
-- Source: Ehrenfeucht and Rozenberg, Theory of 2-structures; which laws are asked for is our own.
use Rattle.std.specs.Prelude.{◌≡◌, ℕ, List}
use Rattle.std.specs.FinSet.{difference}
use Rattle.md_graph.specs.Sets.{NameSet, Has, Lacks, Within, HasSome, HasTwo}
use Rattle.md_modules.specs.Modules.{IsMaximalStrong}
use Rattle.md_tree.specs.Trees.{PlainTreesOf}

-- rest is what is left of s where some children of s are taken off, each of which stands before all that is left
pub record IsLeft {C : Type 0} (e : ℕ → ℕ → C) (Before : NameSet → NameSet → Type 0) (s rest : NameSet) : Type 0 where
  pub inside : Within rest s
  pub whole : (c : NameSet) → IsMaximalStrong e s c → (x : ℕ) → Has c x → Has rest x → Within c rest
  pub behind : (c : NameSet) → IsMaximalStrong e s c → (x : ℕ) → Has c x → Lacks rest x → Before c rest

-- the laws of kinds of nodes, of the order of the children of a node, and of the pairs that it lists
pub record AreKinds {K P C : Type 0} (e : ℕ → ℕ → C) (HasTheKind : NameSet → K → Type 0) (Before : K → NameSet → NameSet → Type 0)
    (Lists : K → PlainTreesOf K P → List P → Type 0) : Type 0 where
  -- sets with two members have one kind each, and no other sets have one
  pub two : (s : NameSet) (k : K) → HasTheKind s k → HasTwo s
  pub some_kind : (s : NameSet) → HasTwo s → (k : K) × HasTheKind s k
  pub one_kind : (s : NameSet) (k l : K) → HasTheKind s k → HasTheKind s l → k ≡ l
  -- there is one list of pairs
  pub some_pairs : (k : K) (cs : PlainTreesOf K P) → (ps : List P) × Lists k cs ps
  pub one_pairs : (k : K) (cs : PlainTreesOf K P) (ps qs : List P) → Lists k cs ps → Lists k cs qs → ps ≡ qs
  -- of the children that are left one stands before the others
  pub next : (s rest : NameSet) (k : K) → HasTheKind s k → IsLeft e (Before k) s rest → HasSome rest →
      (c : NameSet) × IsMaximalStrong e s c × Within c rest × Before k c (difference rest c)
  -- what stands before a set stands before each part of it, and no two sets stand before each other
  pub fewer : (k : K) (a b c : NameSet) → Before k a b → Within c b → Before k a c
  pub not_both : (k : K) (a b : NameSet) → HasSome a → HasSome b → Before k a b → Before k b a → ⊥
