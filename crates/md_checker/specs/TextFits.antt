-- What is kept while the text of a tree is compared with a graph.
-- Source: our own; bottom-up parsing on a stack, as in any textbook of compilers.
use Rattle.std.specs.Prelude.{◌≡◌, ◌≢◌, ◌↔◌, ◌⊎◌, ◌<◌, ◌≤◌, ℕ, Bool, true, false, List, length, get_or, map, Contains, Option, Some, ⊤}
use Rattle.md_graph.specs.declared.TheConstants.{NAMES}
use Rattle.md_graph.specs.Sets.{NameSet, Has, Lacks, Within}
use Rattle.md_tree.specs.declared.builder.Opened.{Opened}
use Rattle.md_tree.specs.Spellings.{KindRules, PairRules, spelling}
use Rattle.md_tree.specs.Held.{AreKept, Comes, IsInside}
use Rattle.md_tree.specs.Trees.{PlainTreeOf, row, EachNodeBelow}
use Rattle.md_checker.specs.declared.text_walk.Walk.{Walk}
use Rattle.md_checker.specs.TextViews.{View, root_kind, FitsView, AdmitsNode, IsTextOfTree}

-- a node that is open, before whose children so many trees are finished
abbrev pub opened_at : {K : Type 0} → K → ℕ → Opened K
opened_at k first = record { kind = k; first = first }

-- a node of a kind that lists no pairs has no child of its own kind
abbrev pub LacksKindIf : {K : Type 0} → Bool → K → List (Option K) → Type 0
LacksKindIf true k kinds = ⊤
LacksKindIf false k kinds = Contains kinds (Some k) → ⊥

-- a node of kind k may have children whose roots are of these kinds
abbrev pub MayHaveKinds : {K : Type 0} → KindRules K → K → List (Option K) → Type 0
MayHaveKinds r k kinds = (r.least_count k ≤ length kinds) × LacksKindIf (r.lists k) k kinds

-- the names of a list are in the set
abbrev pub AreLive : List ℕ → NameSet → Type 0
AreLive list live = (i : ℕ) → i < length list → Has live (get_or list i 0)

-- the others are what the set has besides the names of the list
abbrev pub HasOthers : NameSet → List ℕ → NameSet → Type 0
HasOthers live list others = (x : ℕ) → Has others x ↔ (Has live x × ((i : ℕ) → i < length list → x ≢ get_or list i 0))

module _ {K P : Type 0} (kinds : KindRules K) (pairs : PairRules P) (v : View K P) where
  -- the bytes are the text of no tree of the graph that is asked for
  abbrev pub AreNoTreesText : List ℕ → Type 0
  AreNoTreesText bytes = (t : PlainTreeOf K P) → IsTextOfTree kinds pairs v bytes t → ⊥

  -- the least names and the kinds are those of finished trees that fit the graph, and all names are `seen`; the vertices that
  -- aren't seen and the least names, and no others, are `live`
  pub record AreParsed (list : List ℕ) (roots : List (Option K)) (seen live : NameSet) (trees : List (PlainTreeOf K P)) : Type 0 where
    pub kept : AreKept (spelling kinds pairs) NAMES trees list seen
    pub roots_are : roots ≡ map root_kind trees
    pub fit : EachNodeBelow (FitsView v) (row trees)
    pub admitted : EachNodeBelow (AdmitsNode v) (row trees)
    pub within : Within seen v.vertices
    pub unseen : (x : ℕ) → Has v.vertices x → Lacks seen x → Has live x
    pub least : AreLive list live
    pub only_live : (x : ℕ) → Has live x → (Has v.vertices x × Lacks seen x) ⊎ ((i : ℕ) × (i < length list) × (x ≡ get_or list i 0))

  -- the bytes before the rest are read, and these are their open nodes
  pub record IsReadBy (bytes rest : List ℕ) (behind : Bool) (list : List ℕ) (roots : List (Option K)) (opens : List (Opened K))
      (seen live : NameSet) : Type 0 where
    pub trees : List (PlainTreeOf K P)
    pub walked : AreParsed list roots seen live trees
    pub comes : Comes (spelling kinds pairs) behind bytes rest opens trees

  -- the same in a node that is taken off the open ones
  pub record IsReadInsideBy (bytes rest : List ℕ) (inner : Opened K) (list : List ℕ) (roots : List (Option K)) (opens : List (Opened K))
      (seen live : NameSet) : Type 0 where
    pub trees : List (PlainTreeOf K P)
    pub walked : AreParsed list roots seen live trees
    pub comes : IsInside (spelling kinds pairs) bytes rest inner opens trees

  -- the bytes before the rest are read, and this is kept
  abbrev pub IsRead : {w : ℕ} → List ℕ → List ℕ → Bool → Walk K w → Type 0
  IsRead bytes rest behind w = IsReadBy bytes rest behind w.least.items w.roots.items w.opens.items w.seen w.live

  abbrev pub IsReadInside : {w : ℕ} → List ℕ → List ℕ → Opened K → Walk K w → Type 0
  IsReadInside bytes rest inner w = IsReadInsideBy bytes rest inner w.least.items w.roots.items w.opens.items w.seen w.live

  -- some of the text is read as well
  abbrev pub IsReadOn : {w : ℕ} → List ℕ → List ℕ → List ℕ → Bool → Walk K w → Type 0
  IsReadOn bytes text rest behind w = IsRead bytes rest behind w × (length rest < length text)
