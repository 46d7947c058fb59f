-- What is held while a tree is built from its text: the finished children of the nodes that are open.
-- Source: bottom-up parsing on a stack, as in any textbook of compilers.
use Rattle.std.specs.Prelude.{◌≡◌, ◌≢◌, ◌↔◌, ◌*◌, ◌<◌, ◌≤◌, ℕ, suc, Bool, true, false, List, [], ◌∷◌, ◌++◌, length, get_or, map, AllPairs, Contains, Some, ⊤, IsTrue, Option, MatchOption}
use Rattle.std.specs.Borrow.{Bor}
use Rattle.md_graph.specs.declared.TheConstants.{NAMES}
use Rattle.md_graph.specs.NameSet.{AllBelow}
use Rattle.md_graph.specs.Sets.{NameSet, Has}
use Rattle.md_text.specs.Numbers.{decimal}
use Rattle.md_tree.specs.declared.Kind.{Kind}
use Rattle.md_tree.specs.declared.Pair.{Pair}
use Rattle.md_tree.specs.declared.builder.Opened.{Opened}
use Rattle.md_tree.specs.declared.builder.Held.{Held}
use Rattle.md_tree.specs.declared.builder.Step.{Step}
use Rattle.md_tree.specs.declared.builder.Step.TheVariants.{Onward, Useless, End}
use Rattle.md_tree.specs.Trees.{PlainTreeOf, PlainTreesOf, count, names, names_below, EachNodeBelow, row}
use Rattle.md_tree.specs.Plain.{plain}
use Rattle.md_tree.specs.Spellings.{Spelling, KindRules, PairRules, IsPairBeforeBy, graph_pairs, is_prime}
use Rattle.md_tree.specs.TreeTexts.{pairs_text_by, tree_text_by}
use Rattle.md_tree.specs.WellFormed.{AreDisjoint, IsCanonicalNodeBy, IsWellFormedBelow, NoneOfKind}
use Rattle.md_tree.specs.Residual.{OpenNode, Due, Follows}

-- the least member of s
pub record IsLeast (s : NameSet) (least : ℕ) : Type 0 where
  pub member : Has s least
  pub first : (x : ℕ) → Has s x → least ≤ x

-- each number is the least name of the tree at its place
abbrev pub AreLeast : {K P : Type 0} → List (PlainTreeOf K P) → List ℕ → Type 0
AreLeast [] [] = ⊤
AreLeast [] (m ∷ ms) = ⊥
AreLeast (t ∷ ts) [] = ⊥
AreLeast (t ∷ ts) (m ∷ ms) = IsLeast (names t) m × AreLeast ts ms

-- each number is below the next one
abbrev pub Ascends : List ℕ → Type 0
Ascends ms = (k : ℕ) → suc k < length ms → get_or ms k 0 < get_or ms (suc k) 0

-- the same if it has to be so
abbrev pub AscendsIf : Bool → List ℕ → Type 0
AscendsIf true ms = Ascends ms
AscendsIf false ms = ⊤

-- the least of some numbers
pub record IsMinimum (ms : List ℕ) (least : ℕ) : Type 0 where
  pub place : ℕ
  pub within : place < length ms
  pub there : get_or ms place 0 ≡ least
  pub first : (k : ℕ) → k < length ms → least ≤ get_or ms k 0

-- a node of a kind that lists no pairs has no child of its own kind
abbrev pub HasOthersIf : {K P : Type 0} → Bool → K → PlainTreesOf K P → Type 0
HasOthersIf true k cs = ⊤
HasOthersIf false k cs = NoneOfKind cs k

-- a node of kind k may have the children
abbrev pub MayHave : {K P : Type 0} → KindRules K → K → PlainTreesOf K P → Type 0
MayHave r k cs = (r.least_count k ≤ count cs) × HasOthersIf (r.lists k) k cs

-- the finished children of open nodes, the outermost node's first
abbrev pub befores : {K P : Type 0} → List (OpenNode K P) → List (PlainTreeOf K P)
befores [] = []
befores (o ∷ s) = befores s ++ o.before

-- an open node with the number of the trees before its first child
abbrev pub opened_node : {K P : Type 0} → OpenNode K P → List (OpenNode K P) → Opened K
opened_node o s = record { kind = o.kind; first = length (befores s) }

-- the open nodes, the outermost first
abbrev pub opened : {K P : Type 0} → List (OpenNode K P) → List (Opened K)
opened [] = []
opened (o ∷ s) = opened s ++ opened_node o s ∷ []

abbrev pub trees_held : {K P : Type 0} {w : ℕ} → Held K P w → List (PlainTreeOf K P)
trees_held held = map plain held.trees.items

module _ {K P : Type 0} (sp : Spelling K P) where
  -- the trees are as trees that are well-formed below a limit have them, with their least names and all their names
  pub record AreKept (limit : ℕ) (ts : List (PlainTreeOf K P)) (ms : List ℕ) (seen : NameSet) : Type 0 where
    pub canonical : EachNodeBelow (IsCanonicalNodeBy sp) (row ts)
    pub apart : AreDisjoint (row ts)
    pub same : (x : ℕ) → Has seen x ↔ Has (names_below (row ts)) x
    pub below : AllBelow seen limit
    pub least : AreLeast ts ms

  -- a tree is due in open nodes whose finished children are the trees
  pub record IsDue (bytes rest : List ℕ) (opens : List (Opened K)) (ts : List (PlainTreeOf K P)) : Type 0 where
    pub nodes : List (OpenNode K P)
    pub open_is : opens ≡ opened nodes
    pub trees_are : ts ≡ befores nodes
    pub means : (w : PlainTreeOf K P) → (bytes ≡ tree_text_by sp w) ↔ Due sp nodes rest w

  -- the last of the trees is read, and the others are the finished children of open nodes
  pub record IsBehind (bytes rest : List ℕ) (opens : List (Opened K)) (ts : List (PlainTreeOf K P)) : Type 0 where
    pub nodes : List (OpenNode K P)
    pub tree : PlainTreeOf K P
    pub open_is : opens ≡ opened nodes
    pub trees_are : ts ≡ befores nodes ++ tree ∷ []
    pub means : (w : PlainTreeOf K P) → (bytes ≡ tree_text_by sp w) ↔ Follows sp nodes tree rest w

  -- the same behind a tree in a node that is taken off the open ones
  pub record IsInside (bytes rest : List ℕ) (inner : Opened K) (opens : List (Opened K)) (ts : List (PlainTreeOf K P)) : Type 0 where
    pub node : OpenNode K P
    pub nodes : List (OpenNode K P)
    pub tree : PlainTreeOf K P
    pub inner_is : inner ≡ opened_node node nodes
    pub open_is : opens ≡ opened nodes
    pub trees_are : ts ≡ (befores nodes ++ node.before) ++ tree ∷ []
    pub means : (w : PlainTreeOf K P) → (bytes ≡ tree_text_by sp w) ↔ Follows sp (node ∷ nodes) tree rest w

  abbrev pub Comes : Bool → List ℕ → List ℕ → List (Opened K) → List (PlainTreeOf K P) → Type 0
  Comes true = IsBehind
  Comes false = IsDue

  -- what is held is kept well, of names that have a bit in w words
  abbrev pub IsHeldWell : {w : ℕ} → Held K P w → Type 0
  IsHeldWell {w} held = AreKept (64 * w) (trees_held held) held.least.items held.seen

  -- the bytes before the rest are read, and held
  pub record HasBuilt {w : ℕ} (bytes rest : List ℕ) (behind : Bool) (held : Held K P w) : Type 0 where
    pub kept : IsHeldWell held
    pub comes : Comes behind bytes rest held.opens.items (trees_held held)

  -- the same in a node that is taken off the open ones
  pub record HasBuiltInside {w : ℕ} (bytes rest : List ℕ) (inner : Opened K) (held : Held K P w) : Type 0 where
    pub kept : IsHeldWell held
    pub comes : IsInside bytes rest inner held.opens.items (trees_held held)

  -- the bytes are no text of a tree that is well-formed below the limit
  abbrev pub AreUseless : ℕ → List ℕ → Type 0
  AreUseless limit bytes = (t : PlainTreeOf K P) → IsWellFormedBelow sp limit (Some t) → bytes ≢ tree_text_by sp t

  -- the only tree that is held is well-formed below the limit, and the bytes are its text
  pub record IsBuilt (limit : ℕ) (bytes : List ℕ) (ts : List (PlainTreeOf K P)) : Type 0 where
    pub tree : PlainTreeOf K P
    pub only : ts ≡ tree ∷ []
    pub good : IsWellFormedBelow sp limit (Some tree)
    pub text : bytes ≡ tree_text_by sp tree

  -- a tree that ends the text before the rest is read, and held
  abbrev pub HasReadTree : {w : ℕ} → List ℕ → List ℕ → List ℕ → Held K P w → Type 0
  HasReadTree bytes text rest held = HasBuilt bytes rest true held × (length rest < length text)

  -- the node that is taken off the open ones ends before the rest, and is held; or the bytes are no well-formed tree's text
  abbrev pub EndsNode : {w : ℕ} → List ℕ → Opened K → Held K P w → Option (Bor (List ℕ)) → Held K P w → Type 0
  EndsNode {w} text inner before rest after =
      (bytes : List ℕ) → HasBuiltInside bytes text inner before → MatchOption rest (AreUseless (64 * w) bytes) (λ tail. HasReadTree bytes text tail.now after)

  -- what a step makes of what is held
  abbrev pub IsBuildStep : {w : ℕ} → List ℕ → List ℕ → Step → Held K P w → Type 0
  IsBuildStep bytes text (Onward tail) held = HasBuilt bytes tail.now false held × (length tail.now < length text)
  IsBuildStep {w} bytes text Useless held = AreUseless (64 * w) bytes
  IsBuildStep {w} bytes text End held = IsBuilt (64 * w) bytes (trees_held held)

-- the byte behind a pair: a comma before another one, and the bracket at the end
abbrev pub mark_of : Bool → ℕ
mark_of true = 44
mark_of false = 41

-- the last of the pairs behind a pair
abbrev pub last_behind : {P : Type 0} → P → List P → P
last_behind last [] = last
last_behind last (p ∷ ps) = last_behind p ps

module _ {P : Type 0} (r : PairRules P) where
  -- a node with n children may list the pairs, if its kind lists some
  abbrev pub MayListIf : Bool → ℕ → List P → Type 0
  MayListIf false n ps = ps ≡ []
  MayListIf true n ps = (ps ≢ []) × AllPairs (IsPairBeforeBy r) ps × ((p : P) → Contains ps p → r.IsOf n p)

  -- both positions are below the limit of names
  abbrev pub IsSmall : P → Type 0
  IsSmall p = (r.first p < NAMES) × (r.second p < NAMES)

  abbrev pub AreSmall : List P → Type 0
  AreSmall [] = ⊤
  AreSmall (p ∷ ps) = IsSmall p × AreSmall ps

  -- a pair in digits with its mark, before the tail
  abbrev pub pair_before : P → Bool → List ℕ → List ℕ
  pair_before p more tail = decimal (r.first p) ++ r.between ∷ (decimal (r.second p) ++ mark_of more ∷ tail)

  -- the pairs before the rest are read, of those behind a semicolon
  pub record ArePairsRead (text rest : List ℕ) (read : List P) : Type 0 where
    pub forth : (others : List P) (x : List ℕ) → 59 ∷ rest ≡ pairs_text_by r 59 others ++ 41 ∷ x → 59 ∷ text ≡ pairs_text_by r 59 (read ++ others) ++ 41 ∷ x
    pub back : (ps : List P) (x : List ℕ) → AreSmall ps → 59 ∷ text ≡ pairs_text_by r 59 ps ++ 41 ∷ x →
        (others : List P) × AreSmall others × (59 ∷ rest ≡ pairs_text_by r 59 others ++ 41 ∷ x)

  -- no small pair stands there
  abbrev pub LacksPair : List ℕ → Type 0
  LacksPair text = (p : P) (more : Bool) (tail : List ℕ) → IsSmall p → text ≢ pair_before p more tail

  -- no small pairs stand behind a semicolon, with the bracket behind them
  abbrev pub LacksPairs : List ℕ → Type 0
  LacksPairs text = (ps : List P) (x : List ℕ) → AreSmall ps → 59 ∷ text ≢ pairs_text_by r 59 ps ++ 41 ∷ x

  -- no pairs that a node with n children may list stand there, with the bracket behind them
  abbrev pub LacksEnd : Bool → ℕ → List ℕ → Type 0
  LacksEnd lists n text = (ps : List P) (x : List ℕ) → MayListIf lists n ps → text ≢ pairs_text_by r 59 ps ++ 41 ∷ x

  -- the pairs and the bracket stand before the tail, and the node may list them
  abbrev pub IsEnd : Bool → ℕ → List ℕ → List P → List ℕ → Type 0
  IsEnd lists n text ps tail = MayListIf lists n ps × (text ≡ pairs_text_by r 59 ps ++ 41 ∷ tail)

  -- the pair comes behind the one before it, and is of two of n children
  abbrev pub MayFollow : ℕ → P → P → Type 0
  MayFollow n last p = IsPairBeforeBy r last p × r.IsOf n p

  -- behind the pair `last`, each of the pairs may follow the one before it
  abbrev pub EachMayFollow : ℕ → P → List P → Type 0
  EachMayFollow n last [] = ⊤
  EachMayFollow n last (p ∷ ps) = MayFollow n last p × EachMayFollow n p ps

  -- comes before each pair of two children
  abbrev pub no_pair : P
  no_pair = r.pair 0 0

  -- the pairs ascend, and are of two of n children
  abbrev pub AreListed : ℕ → List P → Type 0
  AreListed n ps = EachMayFollow n no_pair ps

  -- the pairs before the rest are read, the last of them is told, and whether they may be listed
  pub record HasRead (n : ℕ) (text rest : List ℕ) (read : List P) (last : P) (listed : Bool) : Type 0 where
    pub pairs : ArePairsRead text rest read
    pub last_is : last ≡ last_behind no_pair read
    pub may : IsTrue listed ↔ AreListed n read

-- a node of a graph's tree may list the pairs
abbrev pub MayList : Kind → ℕ → List Pair → Type 0
MayList k = MayListIf graph_pairs (is_prime k)
