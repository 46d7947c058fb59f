-- The grammar of the texts of trees, in which names and positions are any numbers, and where bytes leave it.
-- Source: context-free languages and their prefixes, as in any textbook of formal languages.
use Rattle.std.specs.Prelude.{◌≡◌, ◌≢◌, ◌<◌, ◌≤◌, ℕ, Bool, true, false, List, [], ◌++◌, length, take, ⊤, Option, Some, None}
use Rattle.md_tree.specs.Trees.{PlainTreeOf, PlainTreesOf, count, EachNode}
use Rattle.md_tree.specs.Spellings.{Spelling, graph_spelling}
use Rattle.md_tree.specs.TreeTexts.{text_of_by}

-- pairs stand in a node whose kind lists them, one or more, and in no other
abbrev pub HasPairsIf : {P : Type 0} → Bool → List P → Type 0
HasPairsIf true ps = ps ≢ []
HasPairsIf false ps = ps ≡ []

module _ {K P : Type 0} (sp : Spelling K P) where
  -- a node has a child or more, and pairs exactly if its kind lists them
  pub record IsSpelledNode (k : K) (cs : PlainTreesOf K P) (ps : List P) : Type 0 where
    pub some_child : 1 ≤ count cs
    pub pairs : HasPairsIf (sp.kinds.lists k) ps

  -- each node is as the grammar has it; so is no tree
  abbrev pub IsSpelledBy : Option (PlainTreeOf K P) → Type 0
  IsSpelledBy None = ⊤
  IsSpelledBy (Some t) = EachNode IsSpelledNode t

  -- the bytes are a text of the grammar
  abbrev pub InGrammarBy : List ℕ → Type 0
  InGrammarBy bytes = (o : Option (PlainTreeOf K P)) × IsSpelledBy o × (bytes ≡ text_of_by sp o)

  -- the bytes begin a text of the grammar, or are one
  abbrev pub BeginsTextBy : List ℕ → Type 0
  BeginsTextBy bytes = (rest : List ℕ) × InGrammarBy (bytes ++ rest)

  -- the bytes are no text of the grammar, and those before the place are the longest front of them that begins one
  pub record LeavesAtBy (bytes : List ℕ) (place : ℕ) : Type 0 where
    pub outside : ¬ (InGrammarBy bytes)
    pub within : place ≤ length bytes
    pub begins : BeginsTextBy (take place bytes)
    pub longest : (k : ℕ) → place < k → k ≤ length bytes → ¬ (BeginsTextBy (take k bytes))

-- the bytes are a text of the grammar of graphs' trees
abbrev pub InGrammar : List ℕ → Type 0
InGrammar = InGrammarBy graph_spelling

-- where they leave it
abbrev pub LeavesAt : List ℕ → ℕ → Type 0
LeavesAt = LeavesAtBy graph_spelling
