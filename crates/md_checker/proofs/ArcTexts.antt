-- The text of the arcs of a set, piece by piece.
use Rattle.std.proofs.Common.{◌≡◌, ℕ, ◌+◌, ◌<◌, ◌≤◌, List, [], ◌∷◌, ◌++◌, map, length, get_or, codes, append_assoc, refl, sym, ◌∙◌, ap, subst, arith}
use Rattle.std.proofs.lemmas.List.Concat.{flat_map-append}
use Rattle.std.specs.List.{All}
use Rattle.md_graph.specs.declared.TheConstants.{NAMES}
use Rattle.md_graph.specs.NameSet.{ascending}
use Rattle.md_graph.specs.PlainGraph.{PlainGraph, IsGraph, adjacent}
use Rattle.md_graph.specs.Rows.{row_of}
use Rattle.md_graph.specs.Sets.{NameSet, Has}
use Rattle.md_graph.proofs.GraphLemmas.{adjacent_ends}
use Rattle.md_text.specs.declared.piece.Piece.{Piece}
use Rattle.md_text.specs.Numbers.{decimal}
use Rattle.md_text.specs.Pieces.{AreNumerals, texts_at}
use Rattle.md_forcing.specs.declared.arc.Arc.{Arc}
use Rattle.md_forcing.specs.declared.arc_set.Side.TheVariants.{Edges}
use Rattle.md_forcing.specs.Forcing.{arc}
use Rattle.md_forcing.specs.ArcSet.{HasArc}
use Rattle.md_forcing.proofs.NameLists.{of_ascending}
use Rattle.md_comparability.specs.Listed.{arcs_below}
use Rattle.md_comparability.specs.Walking.{IsWholeOrientation}
use Rattle.md_comparability.proofs.Chosen.{chosen_arc}
use Rattle.md_comparability.proofs.Listing.{arcs_more, arcs_none}
use Rattle.md_comparability.proofs.Reached.{side_premises}
use Rattle.md_report.specs.Lines.{arc_text, arcs_text}
use Rattle.md_report.proofs.ArcTexts.{heads_text}
use Rattle.md_checker.proofs.Ordering.{holds_item}

-- the heads of a row are names with a piece
pub heads_there : (rows : List NameSet) (pieces : List Piece) (tail : ℕ) (heads : NameSet) → ((a : Arc) → HasArc rows a → a.head < length rows) → length rows ≤ length pieces → heads ≡ row_of rows tail →
    All (λ v. v < length pieces) (ascending heads)
heads_there rows pieces tail heads within count is k d below =
    let v = get_or (ascending heads) k d in
    let member : Has heads v = (of_ascending heads NAMES v (holds_item (ascending heads) k d below)).0 in
    let less : v < length rows = within (arc tail v) (subst (λ s. Has s v) is member) in
    omega arith

-- ---- row by row

pub arcs_begin : (rows : List NameSet) (before gathered : List ℕ) → gathered ≡ [] → before ++ gathered ≡ before ++ arcs_text (arcs_below rows 0)
arcs_begin rows before gathered none = ap (λ l. before ++ l) none ∙ sym (ap (λ l. before ++ arcs_text l) (arcs_none rows))

pub arcs_on : (rows : List NameSet) (pieces : List Piece) (start : List ℕ) (tail : ℕ) (heads : NameSet) (before now after : List ℕ) → AreNumerals pieces → start ≡ 32 ∷ (decimal tail ++ 62 ∷ []) →
    heads ≡ row_of rows tail → All (λ v. v < length pieces) (ascending heads) → now ≡ before ++ arcs_text (arcs_below rows tail) → after ≡ now ++ texts_at pieces start (ascending heads) →
    after ≡ before ++ arcs_text (arcs_below rows (tail + 1))
arcs_on rows pieces start tail heads before now after are is_start is_row there so put =
    put ∙ ap (λ l. l ++ texts_at pieces start (ascending heads)) so
    ∙ append_assoc before (arcs_text (arcs_below rows tail)) (texts_at pieces start (ascending heads))
    ∙ ap (λ l. before ++ (arcs_text (arcs_below rows tail) ++ l)) (heads_text pieces are start tail is_start (ascending heads) there)
    ∙ ap (λ l. before ++ l) (sym (flat_map-append (λ a. codes " " ++ arc_text a) (arcs_below rows tail) (map (arc tail) (ascending heads))) ∙ ap arcs_text (arcs_more rows tail _ _ _ refl is_row refl))

-- ---- the heads of the least-edge orientation

pub chosen_within : {g : PlainGraph} → IsGraph g → (chosen : List NameSet) → IsWholeOrientation (adjacent g) chosen → ((v : ℕ) → Has g.vertices v → v < length chosen) → (a : Arc) → HasArc chosen a → a.head < length chosen
chosen_within {g} is chosen whole room a seen =
    let side = side_premises is Edges in
    room a.head (adjacent_ends is a.tail a.head (chosen_arc (adjacent g) side.adjacency a ((whole.all a).0 seen))).1
