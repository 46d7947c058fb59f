-- What may still come of a tree's text, where a part of it is read.
-- Source: residuals (left quotients) of languages, as in any textbook of formal languages.
use Rattle.std.specs.Prelude.{◌≡◌, ℕ, List, [], ◌∷◌, ◌++◌}
use Rattle.md_tree.specs.Trees.{PlainTreeOf, PlainTreesOf, node, one_more}
use Rattle.md_tree.specs.Spellings.{Spelling}
use Rattle.md_tree.specs.TreeTexts.{pairs_text_by, row_text_by, tree_text_by}

-- a node of which a part is read: its kind, and its children so far
pub record OpenNode (K P : Type 0) : Type 0 where
  pub kind : K
  pub before : List (PlainTreeOf K P)

-- the trees of a list before others
abbrev pub ahead : {K P : Type 0} → List (PlainTreeOf K P) → PlainTreesOf K P → PlainTreesOf K P
ahead [] cs = cs
ahead (t ∷ ts) cs = one_more t (ahead ts cs)

-- the node whose next child is t
abbrev pub closed : {K P : Type 0} → OpenNode K P → PlainTreeOf K P → PlainTreesOf K P → List P → PlainTreeOf K P
closed o t ts ps = node o.kind (ahead o.before (one_more t ts)) ps

-- with the next child
abbrev pub with_child : {K P : Type 0} → OpenNode K P → PlainTreeOf K P → OpenNode K P
with_child o t = record { kind = o.kind; before = o.before ++ t ∷ [] }

module _ {K P : Type 0} (sp : Spelling K P) where
  -- the rest ends a node behind its child t, and L holds of the node and what stands behind it
  pub record Closing (L : PlainTreeOf K P → List ℕ → Type 0) (o : OpenNode K P) (t : PlainTreeOf K P) (rest : List ℕ) : Type 0 where
    pub others : PlainTreesOf K P
    pub pairs : List P
    pub behind : List ℕ
    pub text : rest ≡ row_text_by sp 44 others ++ (pairs_text_by sp.pairs 59 pairs ++ 41 ∷ behind)
    pub whole : L (closed o t others pairs) behind

  -- behind the tree t in open nodes, the innermost first, the rest makes up the whole tree
  abbrev pub Follows : List (OpenNode K P) → PlainTreeOf K P → List ℕ → PlainTreeOf K P → Type 0
  Follows [] t rest whole = (rest ≡ []) × (whole ≡ t)
  Follows (o ∷ s) t rest whole = Closing (λ u behind. Follows s u behind whole) o t rest

  -- where a tree is due in open nodes, the rest makes up the whole tree
  pub record Due (s : List (OpenNode K P)) (rest : List ℕ) (whole : PlainTreeOf K P) : Type 0 where
    pub tree : PlainTreeOf K P
    pub behind : List ℕ
    pub text : rest ≡ tree_text_by sp tree ++ behind
    pub follows : Follows s tree behind whole
