-- A line that may come where graphs and items of scripts are left is well-formed, as a line of any report or as one of a session on a class.
use Rattle.std.proofs.Common.{◌≡◌, ◌⊎◌, ℕ, ◌+◌, ◌<◌, ◌≤◌, length, arith, Bool, true, false, not, cond, List, [], ◌∷◌, find, Option, None, Some, option_map, sym, ◌∙◌, subst, inl, inr, refl}
use Rattle.std.specs.Prelude.{◌==◌, ⊤}
use Rattle.std.specs.Bool.{then_some}
use Rattle.std.specs.Option.{option_or}
use Rattle.std.specs.List.{All}
use Rattle.std.specs.FinSet as set
use Rattle.std.proofs.lemmas.List.Elements.{All-nil, All-cons, All-head, All-tail}
use Rattle.md_graph.specs.declared.TheConstants.{NAMES}
use Rattle.md_graph.specs.Sets.{NameSet}
use Rattle.md_graph.specs.PlainGraph.{PlainGraph, IsGraph, adjacent}
use Rattle.md_graph.proofs.SetLemmas.{clash}
use Rattle.md_modules.specs.declared.induced_paths.P4.{P4}
use Rattle.md_modules.proofs.Turns.{graph_adjacency}
use Rattle.md_forcing.specs.declared.arc.Arc.{Arc}
use Rattle.md_forcing.specs.declared.arc_set.Side.TheVariants.{Edges, NonEdges}
use Rattle.md_forcing.specs.Forcing.{arc, IsArc, Leads}
use Rattle.md_forcing.specs.Lists.{Holds}
use Rattle.md_forcing.specs.Sides.{adjacent_on}
use Rattle.md_comparability.specs.Chains.{IsForcingChain}
use Rattle.md_comparability.specs.Orders.{IsOrder}
use Rattle.md_comparability.specs.Laws.{MeetsPremises}
use Rattle.md_comparability.proofs.Reached.{side_premises}
use Rattle.md_bar_tree.specs.declared.Class.{Class}
use Rattle.md_bar_tree.specs.declared.BarKind.{BarKind}
use Rattle.md_bar_tree.specs.declared.BarKind.TheVariants as kinds
use Rattle.md_bar_tree.specs.declared.Bar.{Bar}
use Rattle.md_bar_tree.specs.Bars.{AreInside, AreDifferent, IsBarOfKind}
use Rattle.md_tree.specs.Trees.{PlainTree}
use Rattle.md_tree.specs.WellFormed.{IsWellFormed}
use Rattle.md_tree.proofs.OneTree.{well_formed_proof}
use Rattle.md_script.specs.declared.edit.Edit as script
use Rattle.md_script.specs.declared.edit.Edit.TheVariants.{AddEdge, DelEdge, AddVertex, DelVertex}
use Rattle.md_script.specs.declared.edit.EditReason.{EditReason}
use Rattle.md_script.specs.declared.edit.EditReason.TheVariants.{Same, NoVertex, NameTaken, EdgeThere, EdgeAbsent}
use Rattle.md_script.specs.declared.TheConstants.{EDITS}
use Rattle.md_script.specs.declared.item.Item.{Item}
use Rattle.md_script.specs.declared.item.Item.TheVariants.{One, Undo, Group}
use Rattle.md_script.specs.Edit.{HasNames, ends_reason, least_absent, reason_of, after}
use Rattle.md_script.specs.Items.{IsScriptItem}
use Rattle.md_script.proofs.ChangeLemmas.{after_is_graph}
use Rattle.md_report.specs.declared.line.GraphMode.{GraphMode}
use Rattle.md_report.specs.declared.line.GraphMode.TheVariants.{Tree, Compare, Shortest, Permute}
use Rattle.md_report.specs.declared.line.SessionMode.{SessionMode}
use Rattle.md_report.specs.declared.line.SessionMode.TheVariants.{Edit, Cograph, Quiet, Of}
use Rattle.md_report.specs.Lines.{PlainLine, path_of_bar, session_head, head, head_class, tree, applied, applied_quiet, refused, refused_bar, group_refused, group_refused_bar, nothing_to_undo, barred, not_cograph, oriented, forced, orders, forced_in, forced_in_complement, end}
use Rattle.md_report.specs.WellFormedLines.{IsVertexName, IsNamedArc, IsNamedChain, IsNamedP4, IsBarOrder, IsNamedBar, IsNamedPath, IsNamedReason, IsEditNumber, IsWellFormedLine}
use Rattle.md_bar.specs.ClassLines.{IsWellFormedClass}
use Rattle.md_report.specs.Orientations.{IsOrientationLine}
use Rattle.md_report.specs.Models.{IsModelLine}
use Rattle.md_report.specs.Sessions.{State, first_state, HasTreeLine}
use Rattle.md_report.specs.Cographs.{IsP4Of, HasP4Line}
use Rattle.md_report.specs.Classes.{IsBarOf}
use Rattle.md_report.specs.ItemLines.{IsBarred, IsDoneLine, AnswersEdit, IsLineAt, IsGroupLine, IsUndoLine, AnswersItem}
use Rattle.md_report.specs.Places.{Place, before_head, at_graphs, before_session, at_state, at_items, at_end, after_end, Reports, ReportsState, ClosesItems, ComesAtItems, OpensSession, MayCome}
use Rattle.md_report.specs.Laws.{AreGraphs, IsSound}
use Rattle.md_report.proofs.ItemLines.{IsEditLine, edit_line}

-- the line is well-formed, as one of any report or of a session on a class
abbrev pub IsWellFormedSome : PlainLine → Type 0
IsWellFormedSome line = IsWellFormedLine line ⊎ IsWellFormedClass line

-- a line with the tree of a graph
tree_good : (made : Option PlainTree → PlainLine) → ((o : Option PlainTree) → IsWellFormed o → IsWellFormedLine (made o)) → (g : PlainGraph) → IsGraph g → (line : PlainLine) → HasTreeLine made g line → IsWellFormedLine line
tree_good made good g is line has =
    subst IsWellFormedLine (sym has.2) (good has.0 (well_formed_proof (adjacent g) (graph_adjacency is) g.vertices has.0 has.1 is.names))

-- an arc along an edge
arc_good : (e : ℕ → ℕ → Bool) → MeetsPremises e → (a : Arc) → IsArc e a → IsNamedArc a
arc_good e side a along = record {
  tail = (side.below a.tail a.head along).0;
  head = (side.below a.tail a.head along).1;
  differ = λ same. clash (subst (λ v. e a.tail v ≡ true) (sym same) along) (side.adjacency.irreflexive a.tail);
}

leads_good : (e : ℕ → ℕ → Bool) → MeetsPremises e → (a b : Arc) (list : List Arc) → Leads e a list b → All IsNamedArc list
leads_good e side a b [] leads = All-nil IsNamedArc
leads_good e side a b (c ∷ list) leads = All-cons IsNamedArc c list (arc_good e side c leads.0) (leads_good e side c b list leads.2)

chain_good : (e : ℕ → ℕ → Bool) → MeetsPremises e → (chain : List Arc) → IsForcingChain e chain → IsNamedChain chain
chain_good e side chain is = record {
  some = λ none. let f : [] ≡ arc is.u is.v ∷ is.turns.rest = sym none ∙ is.turns.begins in cc;
  arcs =
      subst (All IsNamedArc) (sym is.turns.begins)
      (All-cons IsNamedArc (arc is.u is.v) is.turns.rest (arc_good e side (arc is.u is.v) is.turns.starts) (leads_good e side (arc is.u is.v) (arc is.v is.u) is.turns.rest is.turns.leads));
}

held : {X : Type 0} (P : X → Type 0) (list : List X) → ((x : X) → Holds list x → P x) → All P list
held P [] each = All-nil P
held P (x ∷ list) each = All-cons P x list (each x (inl refl)) (held P list (λ y has. each y (inr has)))

order_good : (g : PlainGraph) → IsGraph g → (list : List ℕ) → IsOrder g.vertices list → All IsVertexName list
order_good g is list order = held IsVertexName list (λ v has. is.names v ((order.members v).0 has))

-- four vertices
four_good : (g : PlainGraph) → IsGraph g → (a b c d : ℕ) → AreInside g.vertices a b c d → All IsVertexName (a ∷ b ∷ c ∷ d ∷ [])
four_good g is a b c d inside =
    All-cons IsVertexName a (b ∷ c ∷ d ∷ []) (is.names a inside.0)
    (All-cons IsVertexName b (c ∷ d ∷ []) (is.names b inside.1)
    (All-cons IsVertexName c (d ∷ []) (is.names c inside.2)
    (All-cons IsVertexName d [] (is.names d inside.3) (All-nil IsVertexName))))

-- an induced P4
path_good : (g : PlainGraph) → IsGraph g → (p : P4) → IsP4Of g p → IsNamedP4 p
path_good g is p path = record {
  names = four_good g is p.a p.b p.c p.d path.inside;
  four = ((path.different.0, path.different.1, path.ascending), (path.different.2, path.different.3, path.different.4));
}

-- a bar of a class
record AreGoodFour (kind : BarKind) (s : NameSet) (a b c d : ℕ) : Type 0 where
  inside : AreInside s a b c d
  different : AreDifferent a b c d
  order : IsBarOrder kind a b c d

kind_good : (g : PlainGraph) (kind : BarKind) (a b c d : ℕ) → IsBarOfKind kind (adjacent g) g.vertices a b c d → AreGoodFour kind g.vertices a b c d
kind_good g kinds.P4 a b c d is = record {
  inside = is.inside;
  different = (is.different.0, is.different.1, (λ same. (let up : a < d = is.ascending in omega arith)), is.different.2, is.different.3, is.different.4);
  order = is.ascending;
}
kind_good g kinds.C4 a b c d is = record { inside = is.inside; different = is.different; order = is.ascending }
kind_good g kinds.TwoK2 a b c d is = record { inside = is.inside; different = is.different; order = is.ascending }

bar_good : (class : Class) (g : PlainGraph) → IsGraph g → (bar : Bar) → IsBarOf class g bar → IsNamedBar bar
bar_good class g is bar has =
    let good : AreGoodFour bar.kind g.vertices bar.a bar.b bar.c bar.d = kind_good g bar.kind bar.a bar.b bar.c bar.d has.is in
    record { names = four_good g is bar.a bar.b bar.c bar.d good.inside; different = good.different; order = good.order }

p4_good : (made : P4 → PlainLine) → ((p : P4) → IsNamedP4 p → IsWellFormedLine (made p)) → (g : PlainGraph) → IsGraph g → (line : PlainLine) → HasP4Line made g line → IsWellFormedLine line
p4_good made good g is line has = subst IsWellFormedLine (sym has.2) (good has.0 (path_good g is has.0 has.1))

-- the reason against an edit with names, if there is one, names a name
abbrev IsNamedOption : Option EditReason → Type 0
IsNamedOption None = ⊤
IsNamedOption (Some reason) = IsNamedReason reason

named_or : (o p : Option EditReason) → IsNamedOption o → IsNamedOption p → IsNamedOption (option_or o p)
named_or None p first second = second
named_or (Some reason) p first second = first

named_if : (b : Bool) (o p : Option EditReason) → IsNamedOption o → IsNamedOption p → IsNamedOption (cond b o p)
named_if true o p first second = first
named_if false o p first second = second

named_then : (b : Bool) (reason : EditReason) → IsNamedReason reason → IsNamedOption (then_some b reason)
named_then true reason is = is
named_then false reason is = tt

named_ends : (g : PlainGraph) (u v : ℕ) → u < NAMES → v < NAMES → IsNamedOption (ends_reason g u v)
named_ends g u v is_u is_v =
    named_if (u == v) (Some Same) _ tt
    (named_if (not (set.contains g.vertices u)) (Some (NoVertex u)) _ is_u (named_if (not (set.contains g.vertices v)) (Some (NoVertex v)) None is_v tt))

named_absent : (test : ℕ → Bool) (names : List ℕ) → All (λ v. v < NAMES) names → IsNamedOption (option_map NoVertex (find test names))
named_absent test [] all = tt
named_absent test (v ∷ names) all =
    found (test v) (All-head (λ w. w < NAMES) v names all) (named_absent test names (All-tail (λ w. w < NAMES) v names all))
  where
    found : (b : Bool) → v < NAMES → IsNamedOption (option_map NoVertex (find test names)) → IsNamedOption (option_map NoVertex (cond b (Some v) (find test names)))
    found true is later = is
    found false is later = later

named_reason : (g : PlainGraph) (edit : script.Edit) → HasNames edit → IsNamedOption (reason_of g edit)
named_reason g (AddEdge u v) names = named_or (ends_reason g u v) _ (named_ends g u v names.0 names.1) (named_then (adjacent g u v) EdgeThere tt)
named_reason g (DelEdge u v) names = named_or (ends_reason g u v) _ (named_ends g u v names.0 names.1) (named_then (not (adjacent g u v)) EdgeAbsent tt)
named_reason g (AddVertex x neighbours) names =
    named_or (option_map NoVertex (least_absent g neighbours)) _ (named_absent (λ v. not (set.contains g.vertices v)) neighbours names.1) (named_then (set.contains g.vertices x) (NameTaken x) names.0)
named_reason g (DelVertex x) names = named_then (not (set.contains g.vertices x)) (NoVertex x) names

-- the lines of graphs and of first states
module _ (g : PlainGraph) (is : IsGraph g) where
  near : MeetsPremises (adjacent g)
  near = side_premises is Edges

  apart : MeetsPremises (adjacent_on NonEdges g)
  apart = side_premises is NonEdges

  orientation_good : (line : PlainLine) → IsOrientationLine (adjacent g) line → IsWellFormedLine line
  orientation_good (oriented arcs) may = held IsNamedArc arcs (λ a has. arc_good (adjacent g) near a ((may.1.arcs a).0 has).3.0)
  orientation_good (forced chain) may = chain_good (adjacent g) near chain may
  orientation_good (head mode) may = absurd may
  orientation_good (head_class class) may = absurd may
  orientation_good (tree t) may = absurd may
  orientation_good (applied t) may = absurd may
  orientation_good applied_quiet may = absurd may
  orientation_good (refused reason) may = absurd may
  orientation_good (refused_bar bar) may = absurd may
  orientation_good (group_refused number reason) may = absurd may
  orientation_good (group_refused_bar number bar) may = absurd may
  orientation_good nothing_to_undo may = absurd may
  orientation_good (barred bar) may = absurd may
  orientation_good (orders first second) may = absurd may
  orientation_good (forced_in chain) may = absurd may
  orientation_good (forced_in_complement chain) may = absurd may
  orientation_good end may = absurd may

  model_good : (line : PlainLine) → IsModelLine g line → IsWellFormedLine line
  model_good (orders first second) may = (order_good g is first may.first, order_good g is second may.second)
  model_good (forced_in chain) may = chain_good (adjacent g) near chain may
  model_good (forced_in_complement chain) may = chain_good (adjacent_on NonEdges g) apart chain may.1
  model_good (head mode) may = absurd may
  model_good (head_class class) may = absurd may
  model_good (tree t) may = absurd may
  model_good (applied t) may = absurd may
  model_good applied_quiet may = absurd may
  model_good (refused reason) may = absurd may
  model_good (refused_bar bar) may = absurd may
  model_good (group_refused number reason) may = absurd may
  model_good (group_refused_bar number bar) may = absurd may
  model_good nothing_to_undo may = absurd may
  model_good (barred bar) may = absurd may
  model_good (oriented arcs) may = absurd may
  model_good (forced chain) may = absurd may
  model_good end may = absurd may

  graph_good : (mode : GraphMode) (line : PlainLine) → Reports mode g line → IsWellFormedLine line
  graph_good Tree line may = tree_good tree (λ o w. w) g is line may
  graph_good Compare line may = orientation_good line may
  graph_good Shortest line may = orientation_good line may.is
  graph_good Permute line may = model_good line may

  state_good : (mode : SessionMode) (line : PlainLine) → ReportsState mode g line → IsWellFormedSome line
  state_good Edit line may = inl (tree_good tree (λ o w. w) g is line may)
  state_good Cograph line (inl path) = inl (p4_good not_cograph (λ p w. (refl, w)) g is line path)
  state_good Cograph line (inr whole) = inl (tree_good tree (λ o w. w) g is line whole.1)
  state_good Quiet line path = inl (p4_good not_cograph (λ p w. (refl, w)) g is line path)
  state_good (Of class) line (inl bar) = inr (subst IsWellFormedClass (sym bar.2) (bar_good class g is bar.0 bar.1))
  state_good (Of class) line (inr whole) = inl (tree_good tree (λ o w. w) g is line whole.1)

  last_good : (mode : SessionMode) (line : PlainLine) → ClosesItems mode g line → IsWellFormedLine line
  last_good Edit line may = subst IsWellFormedLine (sym may) tt
  last_good Cograph line may = subst IsWellFormedLine (sym may) tt
  last_good (Of class) line may = subst IsWellFormedLine (sym may) tt
  last_good Quiet line may = tree_good tree (λ o w. w) g is line may

  -- the line of an item that was applied
  done_good : (mode : SessionMode) (line : PlainLine) → IsDoneLine mode g line → IsWellFormedLine line
  done_good Edit line done = tree_good applied (λ o w. w) g is line done
  done_good Cograph line done = tree_good applied (λ o w. w) g is line done
  done_good Quiet line done = subst IsWellFormedLine (sym done) tt
  done_good (Of class) line done = tree_good applied (λ o w. w) g is line done

  -- a bar that no state may have
  barred_good : (mode : SessionMode) (bar : Bar) → IsBarred mode g bar → IsNamedPath bar ⊎ IsNamedBar bar
  barred_good Edit bar has = absurd has
  barred_good Cograph bar has = inl (has.0, path_good g is (path_of_bar bar) has.1)
  barred_good Quiet bar has = inl (has.0, path_good g is (path_of_bar bar) has.1)
  barred_good (Of class) bar has = inr (bar_good class g is bar has)

-- the line of an edit alone
edit_good : (mode : SessionMode) (g : PlainGraph) (edit : script.Edit) (line : PlainLine) → IsGraph g → HasNames edit → AnswersEdit mode g edit line → IsWellFormedSome line
edit_good mode g edit line is names answers = by_reason (reason_of g edit) refl ((edit_line mode g edit line).0 answers) where
  by_reason : (o : Option EditReason) → reason_of g edit ≡ o → IsEditLine o mode (after g edit) line → IsWellFormedSome line
  by_reason (Some reason) same told = inl (subst IsWellFormedLine (sym told) (subst IsNamedOption same (named_reason g edit names)))
  by_reason None same (inl bar) = subst IsWellFormedSome (sym bar.2) (barred_good (after g edit) (after_is_graph g edit is names same) mode bar.0 bar.1)
  by_reason None same (inr done) = inl (done_good (after g edit) (after_is_graph g edit is names same) mode line done.1)

-- the line of a group at an edit, by the reason against it
at_good : (mode : SessionMode) (n : ℕ) (g : PlainGraph) (edit : script.Edit) (Behind : Type 0) (line : PlainLine) (o : Option EditReason) → reason_of g edit ≡ o → IsGraph g → HasNames edit → IsEditNumber n → (IsGraph (after g edit) → Behind → IsWellFormedSome line)
    → IsLineAt o mode n (after g edit) Behind line → IsWellFormedSome line
at_good mode n g edit Behind line (Some reason) same is names number rest told = inl (subst IsWellFormedLine (sym told) (number, subst IsNamedOption same (named_reason g edit names)))
at_good mode n g edit Behind line None same is names number rest (inl bar) =
    subst IsWellFormedSome (sym bar.2)
    (elim (barred_good (after g edit) (after_is_graph g edit is names same) mode bar.0 bar.1) [ inl path ↦ inl (number, path) | inr other ↦ inr (number, other) ])
at_good mode n g edit Behind line None same is names number rest (inr behind) = rest (after_is_graph g edit is names same) behind.1

group_good : (mode : SessionMode) (n : ℕ) (g : PlainGraph) (edits : List script.Edit) (line : PlainLine) → IsGraph g → All HasNames edits → n + length edits ≤ EDITS → IsGroupLine mode n g edits line → IsWellFormedSome line
group_good mode n g [] line is names few told = inl (done_good g is mode line told)
group_good mode n g (edit ∷ edits) line is names few told =
    at_good mode (n + 1) g edit (IsGroupLine mode (n + 1) (after g edit) edits line) line (reason_of g edit) refl is (All-head HasNames edit edits names) (omega arith, omega arith)
    (λ next behind. group_good mode (n + 1) (after g edit) edits line next (All-tail HasNames edit edits names) (omega arith) behind) told

-- the line of an undo
undo_good : (mode : SessionMode) (earlier : List PlainGraph) (line : PlainLine) → AreGraphs earlier → IsUndoLine mode earlier line → IsWellFormedLine line
undo_good mode [] line are told = subst IsWellFormedLine (sym told) tt
undo_good mode (g ∷ earlier) line are told = done_good g are.0 mode line told

-- the line of an item
item_good : (mode : SessionMode) (s : State) (item : Item) (line : PlainLine) → IsGraph s.graph → AreGraphs s.earlier → IsScriptItem NAMES item → AnswersItem mode s item line → IsWellFormedSome line
item_good mode s (One edit) line is are whole answers = edit_good mode s.graph edit line is whole.names answers
item_good mode s (Group edits) line is are whole answers = let small = whole.small in group_good mode 0 s.graph edits line is whole.names (omega arith) answers
item_good mode s Undo line is are whole answers = inl (undo_good mode s.earlier line are answers)

items_good : (mode : SessionMode) (s : State) (items : List Item) (line : PlainLine) → IsGraph s.graph → AreGraphs s.earlier → All (IsScriptItem NAMES) items → ComesAtItems mode s items line → IsWellFormedSome line
items_good mode s (item ∷ items) line is are whole may = item_good mode s item line is are (All-head (IsScriptItem NAMES) item items whole) may
items_good mode s [] line is are whole may = inl (last_good s.graph is mode line may)

opening_good : (mode : SessionMode) (g : PlainGraph) (items : List Item) (line : PlainLine) → IsGraph g → All (IsScriptItem NAMES) items → OpensSession mode g items line → IsWellFormedSome line
opening_good Edit g items line is whole may = state_good g is Edit line may
opening_good Cograph g items line is whole may = state_good g is Cograph line may
opening_good (Of class) g items line is whole may = state_good g is (Of class) line may
opening_good Quiet g items line is whole (inl path) = state_good g is Quiet line path
opening_good Quiet g items line is whole (inr rest) = items_good Quiet (first_state g) items line is tt whole rest.1

head_good : (mode : SessionMode) (line : PlainLine) → line ≡ session_head mode → IsWellFormedSome line
head_good Edit line is = inl (subst IsWellFormedLine (sym is) tt)
head_good Cograph line is = inl (subst IsWellFormedLine (sym is) tt)
head_good Quiet line is = inl (subst IsWellFormedLine (sym is) tt)
head_good (Of class) line is = inr (subst IsWellFormedClass (sym is) tt)

pub coming_good : (p : Place) → IsSound p → (line : PlainLine) → MayCome p line → IsWellFormedSome line
coming_good (before_head mode graphs) sound line may = inl (subst IsWellFormedLine (sym may) tt)
coming_good (at_graphs mode (g ∷ graphs)) sound line may = inl (graph_good g sound.0 mode line may)
coming_good (at_graphs mode []) sound line may = inl (subst IsWellFormedLine (sym may) tt)
coming_good (before_session mode g items) sound line may = head_good mode line may
coming_good (at_state mode g items) sound line may = opening_good mode g items line sound.0 sound.1 may
coming_good (at_items mode s items) sound line may = items_good mode s items line sound.0.0 sound.0.1 sound.1 may
coming_good at_end sound line may = inl (subst IsWellFormedLine (sym may) tt)
coming_good after_end sound line may = absurd may
