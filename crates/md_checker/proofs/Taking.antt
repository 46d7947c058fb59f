-- Lines that are taken by their texts alone: they tell a tree or an orientation.
use Rattle.std.proofs.Common.{◌≡◌, ◌⊎◌, ℕ, ◌+◌, ◌≤◌, Bool, true, IsTrue, List, [], ◌∷◌, ◌++◌, length, drop, Some, Result, Ok, IfOk, codes, refl, sym, ◌∙◌, ap, subst, inl, inr, length-drop, arith}
use Rattle.std.specs.Prelude.{◌↔◌, slice_get}
use Rattle.std.proofs.lemmas.List.{nil_from_length}
use Rattle.md_graph.specs.PlainGraph.{PlainGraph, adjacent}
use Rattle.md_script.specs.declared.edit.Edit as script
use Rattle.md_script.specs.declared.item.Item.{Item}
use Rattle.md_tree.specs.Trees.{PlainTree}
use Rattle.md_tree.specs.StrongTrees.{IsTreeOf}
use Rattle.md_tree.specs.TreeTexts.{tree_text}
use Rattle.md_forcing.specs.declared.arc.Arc.{Arc}
use Rattle.md_comparability.specs.Orientations.{HasTransitiveOrientation, IsLeastEdgeOrientation}
use Rattle.md_report.specs.declared.line.GraphMode.{GraphMode}
use Rattle.md_report.specs.declared.line.GraphMode.TheVariants as graph_modes
use Rattle.md_report.specs.declared.line.SessionMode.{SessionMode}
use Rattle.md_report.specs.declared.line.SessionMode.TheVariants.{Edit, Cograph, Quiet, Of}
use Rattle.md_report.specs.Lines.{PlainLine, tree, applied, oriented, arcs_text, line_text}
use Rattle.md_report.specs.Orientations.{IsShortestLine}
use Rattle.md_report.specs.Sessions.{State, first_state}
use Rattle.md_report.specs.ItemLines.{IsAllowed, IsDoneLine}
use Rattle.md_report.specs.Places.{Place, at_state, at_items, at_end, Reports}
use Rattle.md_report.specs.Steps.{state_of}
use Rattle.md_checker.specs.declared.session_checker.SessionDue.{SessionDue}
use Rattle.md_checker.specs.declared.session_checker.SessionDue.TheVariants.{State as state_due, Items}
use Rattle.md_checker.specs.declared.session_checker.DueTree.TheVariants.{First, Answered, Last}
use Rattle.md_checker.specs.Judged.{IsJudgedByText}
use Rattle.md_checker.specs.Standing.{session_place, MayTell, Takes}
use Rattle.md_checker.specs.States.{IsStateText}
use Rattle.md_report.proofs.Groups.{drop_read}

-- a graph's tree is a line that reports it
pub tree_reports : (mode : GraphMode) (g : PlainGraph) (t : PlainTree) (text : List ℕ) → mode ≡ graph_modes.Tree → IsTreeOf (adjacent g) g.vertices t → text ≡ codes "t " ++ tree_text t →
    (line : PlainLine) × Reports mode g line × (text ≡ line_text line)
tree_reports mode g t text is fits spelled = (tree (Some t), subst (λ m. Reports m g (tree (Some t))) (sym is) (Some t, fits, refl), spelled)

-- its least-edge orientation is one in modes compare and shortest
pub orientation_reports : (mode : GraphMode) (g : PlainGraph) (arcs : List Arc) (text : List ℕ) → mode ≡ graph_modes.Compare → HasTransitiveOrientation (adjacent g) → IsLeastEdgeOrientation (adjacent g) arcs →
    text ≡ codes "yes" ++ arcs_text arcs → (line : PlainLine) × Reports mode g line × (text ≡ line_text line)
orientation_reports mode g arcs text is has least spelled = (oriented arcs, subst (λ m. Reports m g (oriented arcs)) (sym is) (has, least), spelled)

pub shortest_reports : (mode : GraphMode) (g : PlainGraph) (arcs : List Arc) (text : List ℕ) → mode ≡ graph_modes.Shortest → HasTransitiveOrientation (adjacent g) → IsLeastEdgeOrientation (adjacent g) arcs →
    text ≡ codes "yes" ++ arcs_text arcs → (line : PlainLine) × Reports mode g line × (text ≡ line_text line)
shortest_reports mode g arcs text is has least spelled =
    let line : IsShortestLine (adjacent g) (oriented arcs) = record { is = (has, least); shortest = λ chain same. cc } in
    (oriented arcs, subst (λ m. Reports m g (oriented arcs)) (sym is) line, spelled)

-- the tree of the first state of a session
pub first_taken : (mode : SessionMode) (g : PlainGraph) (items : List Item) (text : List ℕ) → (mode ≡ Quiet → ⊥) → IsStateText mode g (codes "t ") text →
    Takes (at_state mode g items) text (at_items mode (first_state g) items)
first_taken Edit g items text told s = (tree (Some s.tree), (Some s.tree, s.fits, refl), s.spelled, refl)
first_taken Cograph g items text told s = (tree (Some s.tree), inr (s.allowed, (Some s.tree, s.fits, refl)), s.spelled, refl)
first_taken Quiet g items text told s = absurd (told refl)
first_taken (Of class) g items text told s = (tree (Some s.tree), inr (s.allowed, (Some s.tree, s.fits, refl)), s.spelled, refl)

-- the tree of the graph after an edit
pub text_done : (mode : SessionMode) (g : PlainGraph) (text : List ℕ) → (mode ≡ Quiet → ⊥) → (s : IsStateText mode g (codes "ok ") text) → IsDoneLine mode g (applied (Some s.tree))
text_done Edit g text told s = (Some s.tree, s.fits, refl)
text_done Cograph g text told s = (Some s.tree, s.fits, refl)
text_done Quiet g text told s = absurd (told refl)
text_done (Of class) g text told s = (Some s.tree, s.fits, refl)

-- what a comparison told that found the text
pub text_told : {X : Type 0} (r : Result Bool X) (mode : SessionMode) (g : PlainGraph) (text : List ℕ) → r ≡ Ok true → IfOk r (λ fit. IsTrue fit ↔ IsStateText mode g (codes "ok ") text) → IsStateText mode g (codes "ok ") text
text_told r mode g text so told = (subst (λ x. IfOk x (λ fit. IsTrue fit ↔ IsStateText mode g (codes "ok ") text)) so told).0 refl

-- an item by whose text a line was taken
pub item_taken : (limit : ℕ) (mode : SessionMode) (g h : PlainGraph) (items left : List (List script.Edit)) (item : Item) (text : List ℕ) → IsJudgedByText true limit mode g items item text h left →
    (more : List Item) → Takes (at_items mode (state_of g items) (item ∷ more)) text (at_items mode (state_of h left) more)
item_taken limit mode g h items left item text j more = (j.0, j.2.0.line_is, j.1, ap (λ x. at_items mode x more) j.2.0.state_is)

-- the tree of the last graph of a session in mode quiet
last_taken : (due : SessionDue) (mode : SessionMode) (s : State) (text : List ℕ) → (due ≡ state_due) ⊎ (due ≡ Items) → (due ≡ state_due → s.earlier ≡ []) → mode ≡ Quiet → IsStateText mode s.graph (codes "t ") text →
    Takes (session_place due mode s []) text at_end
last_taken due mode s text at first quiet t =
    subst (λ m. Takes (session_place due m s []) text at_end) (sym quiet)
    (elim at [
      | inl is ↦ subst (λ d. Takes (session_place d Quiet s []) text at_end) (sym is) (tree (Some t.tree), inr (subst (λ m. IsAllowed m s.graph) quiet t.allowed, (Some t.tree, t.fits, refl)), t.spelled, refl)
      | inr is ↦ subst (λ d. Takes (session_place d Quiet s []) text at_end) (sym is) (tree (Some t.tree), (Some t.tree, t.fits, refl), t.spelled, refl)
    ])

-- ---- the same from the place at which the checker stands

pub takes_first : (left : Bool) (due : SessionDue) (mode : SessionMode) (s : State) (items : List Item) (text : List ℕ) (p : Place) → session_place due mode s items ≡ p → MayTell First due mode left → s.earlier ≡ [] →
    IsStateText mode s.graph (codes "t ") text → Takes p text (at_items mode s items)
takes_first left due mode s items text p view may none t =
    subst (λ q. Takes q text (at_items mode s items)) (sym (ap (λ d. session_place d mode s items) may.0) ∙ view)
    (subst (λ l. Takes (at_state mode s.graph items) text (at_items mode (record { graph = s.graph; earlier = l }) items)) (sym none) (first_taken mode s.graph items text may.1 t))

pub takes_answered : (left : Bool) (due : SessionDue) (mode : SessionMode) (s next : State) (all : List Item) (n : ℕ) (item : Item) (text : List ℕ) (p : Place) →
    session_place due mode s (drop n all) ≡ p → MayTell Answered due mode left → slice_get all n ≡ Some item →
    ((items : List Item) → Takes (at_items mode s (item ∷ items)) text (at_items mode next items)) → Takes p text (at_items mode next (drop (n + 1) all))
takes_answered left due mode s next all n item text p view may found takes =
    subst (λ q. Takes q text (at_items mode next (drop (n + 1) all)))
    (sym (ap (λ d. session_place d mode s (drop n all)) may.0 ∙ ap (λ l. at_items mode s l) (drop_read all n item found)) ∙ view) (takes (drop (n + 1) all))

pub takes_last : (left : Bool) (due : SessionDue) (mode : SessionMode) (s : State) (all : List Item) (n : ℕ) (text : List ℕ) (p : Place) → session_place due mode s (drop n all) ≡ p →
    MayTell Last due mode left → length all ≤ n → (due ≡ state_due → s.earlier ≡ []) → IsStateText mode s.graph (codes "t ") text → Takes p text at_end
takes_last left due mode s all n text p view may past first t =
    let none : drop n all ≡ [] = nil_from_length (drop n all) (omega (arith, length-drop n all)) in
    subst (λ q. Takes q text at_end) (sym (ap (λ l. session_place due mode s l) none) ∙ view) (last_taken due mode s text may.0 first may.1 t)
