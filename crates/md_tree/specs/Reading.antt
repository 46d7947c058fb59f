-- The answers of the reader of trees' texts.
-- Source: this project's own format of trees.
use Rattle.std.specs.Prelude.{◌≡◌, ◌≢◌, ℕ, List, ⊤, Option, Result, Ok, Err}
use Rattle.md_graph.specs.declared.TheConstants.{NAMES}
use Rattle.md_tree.specs.declared.TreeOf.{TreeOf}
use Rattle.md_tree.specs.declared.Kind.{Kind}
use Rattle.md_tree.specs.declared.Pair.{Pair}
use Rattle.md_tree.specs.declared.reader.TreeFault.{TreeFault}
use Rattle.md_tree.specs.declared.reader.TreeFault.TheVariants.{Syntax, NotCanonical, Memory}
use Rattle.md_tree.specs.Trees.{PlainTreeOf}
use Rattle.md_tree.specs.Plain.{plain_option}
use Rattle.md_tree.specs.Spellings.{Spelling, graph_spelling}
use Rattle.md_tree.specs.WellFormed.{IsWellFormedBelow}
use Rattle.md_tree.specs.TreeTexts.{text_of_by}
use Rattle.md_tree.specs.Grammar.{InGrammarBy, LeavesAtBy}

-- a tree that is well-formed below a limit has this text, and is the answer; or the bytes leave the grammar, and the place is
-- told; or they are in it and no such tree's text; out of memory, nothing is told
abbrev pub IsTreeReadingBelow : {K P : Type 0} → Spelling K P → ℕ → List ℕ → Result (Option (TreeOf K P)) TreeFault → Type 0
IsTreeReadingBelow sp limit bytes (Ok o) = IsWellFormedBelow sp limit (plain_option o) × (bytes ≡ text_of_by sp (plain_option o))
IsTreeReadingBelow sp limit bytes (Err (Syntax place)) = LeavesAtBy sp bytes place
IsTreeReadingBelow {K} {P} sp limit bytes (Err NotCanonical) =
    InGrammarBy sp bytes × ((o : Option (PlainTreeOf K P)) → IsWellFormedBelow sp limit o → bytes ≢ text_of_by sp o)
IsTreeReadingBelow sp limit bytes (Err Memory) = ⊤

-- the answers for the texts of graphs' trees
abbrev pub IsTreeReading : List ℕ → Result (Option (TreeOf Kind Pair)) TreeFault → Type 0
IsTreeReading = IsTreeReadingBelow graph_spelling NAMES
