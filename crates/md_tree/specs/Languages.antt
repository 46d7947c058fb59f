-- What may come behind a front of a text of the grammar: the front alone tells it by the kinds of the nodes that are open.
-- Source: residuals (left quotients) of languages, as in any textbook of formal languages.
use Rattle.std.specs.Prelude.{◌≡◌, ◌<◌, ◌⊎◌, ℕ, Bool, true, false, List, [], ◌∷◌, ◌++◌, length}
use Rattle.md_text.specs.Numbers.{decimal}
use Rattle.md_text.specs.Fronts.{IsPastDigits}
use Rattle.md_tree.specs.declared.grammar.Turn.{Turn}
use Rattle.md_tree.specs.declared.grammar.Turn.TheVariants.{Onward, Blocked, End}
use Rattle.md_tree.specs.Trees.{PlainTreeOf, PlainTreesOf, EachNode, EachNodeBelow}
use Rattle.md_tree.specs.Spellings.{Spelling}
use Rattle.md_tree.specs.TreeTexts.{pairs_text_by, row_text_by, tree_text_by}
use Rattle.md_tree.specs.Grammar.{HasPairsIf, IsSpelledNode}

-- the texts begin alike: both are empty, or their first bytes are the same
abbrev pub HeadsAgree : List ℕ → List ℕ → Type 0
HeadsAgree [] y = y ≡ []
HeadsAgree (b ∷ x) y = (z : List ℕ) × (y ≡ b ∷ z)

-- a number, and then a text of L
pub record NumberThen (L : List ℕ → Type 0) (x : List ℕ) : Type 0 where
  pub number : ℕ
  pub behind : List ℕ
  pub text : x ≡ decimal number ++ behind
  pub then : L behind

-- a byte, and then a text of L
pub record ByteThen (b : ℕ) (L : List ℕ → Type 0) (x : List ℕ) : Type 0 where
  pub behind : List ℕ
  pub text : x ≡ b ∷ behind
  pub then : L behind

-- behind a front of the text, the texts of L are those of K
pub record GoesOn (L : List ℕ → Type 0) (text : List ℕ) (K : List ℕ → Type 0) (tail : List ℕ) : Type 0 where
  pub front : List ℕ
  pub whole : text ≡ front ++ tail
  pub makes : (x : List ℕ) → K x → L (front ++ x)
  pub leaves : (x : List ℕ) → HeadsAgree tail x → L (front ++ x) → K x

-- a front of the text begins a text of L, and no text of L begins with it and the next byte, or ends there if the text does
pub record IsStuck (L : List ℕ → Type 0) (text tail : List ℕ) : Type 0 where
  pub front : List ℕ
  pub whole : text ≡ front ++ tail
  pub more : List ℕ
  pub begins : L (front ++ more)
  pub ends : (x : List ℕ) → HeadsAgree tail x → L (front ++ x) → ⊥

-- a number stands before the tail, and no digit at its beginning
abbrev pub IsNumberBefore : List ℕ → List ℕ → Type 0
IsNumberBefore text tail = (n : ℕ) × (text ≡ decimal n ++ tail) × IsPastDigits tail

-- no digit stands at the beginning of the text; or a digit stands at that of the tail, behind a zero
abbrev pub IsNoNumber : List ℕ → List ℕ → Type 0
IsNoNumber text tail = ((text ≡ tail) × IsPastDigits tail) ⊎ ((text ≡ 48 ∷ tail) × (¬ (IsPastDigits tail)))

-- the nodes that are open, the outermost first
abbrev pub outermost_first : {K : Type 0} → List K → List K
outermost_first [] = []
outermost_first (k ∷ ks) = outermost_first ks ++ k ∷ []

module _ {K P : Type 0} (sp : Spelling K P) where
  -- the text of a tree of the grammar
  abbrev pub IsTreeText : List ℕ → Type 0
  IsTreeText x = (t : PlainTreeOf K P) × EachNode (IsSpelledNode sp) t × (x ≡ tree_text_by sp t)

  -- the end of a node of kind k behind one of its children, and then a text of L
  pub record Closes (k : K) (L : List ℕ → Type 0) (x : List ℕ) : Type 0 where
    pub others : PlainTreesOf K P
    pub pairs : List P
    pub behind : List ℕ
    pub spelled : EachNodeBelow (IsSpelledNode sp) others
    pub right : HasPairsIf (sp.kinds.lists k) pairs
    pub text : x ≡ row_text_by sp 44 others ++ (pairs_text_by sp.pairs 59 pairs ++ 41 ∷ behind)
    pub then : L behind

  -- the ends of nodes of these kinds, the innermost first
  abbrev pub Tail : List K → List ℕ → Type 0
  Tail [] x = x ≡ []
  Tail (k ∷ ks) x = Closes k (Tail ks) x

  -- a tree, and then the ends of the nodes
  pub record TreeThen (ks : List K) (x : List ℕ) : Type 0 where
    pub tree : PlainTreeOf K P
    pub behind : List ℕ
    pub spelled : EachNode (IsSpelledNode sp) tree
    pub text : x ≡ tree_text_by sp tree ++ behind
    pub then : Tail ks behind

  -- pairs, each behind a comma, the bracket, and then the ends of the nodes
  pub record PairsThen (ks : List K) (x : List ℕ) : Type 0 where
    pub pairs : List P
    pub behind : List ℕ
    pub text : x ≡ pairs_text_by sp.pairs 44 pairs ++ 41 ∷ behind
    pub then : Tail ks behind

  -- the same from the first pair on, of which the mark is read
  abbrev pub PairThen : List K → List ℕ → Type 0
  PairThen ks = NumberThen (ByteThen sp.pairs.between (NumberThen (PairsThen ks)))

  -- another pair, or the end of the pairs
  abbrev pub PairsGoOn : Bool → List K → List ℕ → Type 0
  PairsGoOn true ks = PairThen ks
  PairsGoOn false ks = Tail ks

  -- what may come behind a tree, or where one is due
  abbrev pub ComesNext : Bool → List K → List ℕ → Type 0
  ComesNext true ks = Tail ks
  ComesNext false ks = TreeThen ks

  -- a part is read, and the nodes are open in which the texts of L go on
  pub record HasTurned (L : List ℕ → Type 0) (text : List ℕ) (behind : Bool) (tail : List ℕ) (opens : List K) : Type 0 where
    pub kinds : List K
    pub are : opens ≡ outermost_first kinds
    pub on : GoesOn L text (ComesNext behind kinds) tail

  -- what a turn says of the texts of L
  abbrev pub IsReadingTurn : (List ℕ → Type 0) → List ℕ → Turn → List K → Type 0
  IsReadingTurn L text (Onward tail behind) opens = HasTurned L text behind tail.now opens × (length tail.now < length text)
  IsReadingTurn L text (Blocked tail) opens = IsStuck L text tail.now
  IsReadingTurn L text End opens = L text
