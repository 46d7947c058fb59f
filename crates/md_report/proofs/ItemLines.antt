-- The lines of items: what they tell, that each item has one, and that those of modes on cographs tell the same.
use Rattle.std.proofs.Common.{◌≡◌, ℕ, ◌+◌, Bool, true, false, cond, List, [], ◌∷◌, Option, Some, None, ◌⊎◌, ◌↔◌, refl, sym, ◌∙◌, ap, subst, inl, inr}
use Rattle.std.specs.List.{All}
use Rattle.std.proofs.lemmas.List.Elements.{All-head, All-tail}
use Rattle.md_graph.specs.declared.TheConstants.{NAMES}
use Rattle.md_graph.specs.PlainGraph.{PlainGraph, IsGraph, adjacent}
use Rattle.md_graph.proofs.GraphLemmas.{adjacent_sym, adjacent_self}
use Rattle.md_modules.proofs.DecidedPaths.{decide_path}
use Rattle.md_modules.proofs.Turns.{graph_adjacency}
use Rattle.md_modules.specs.declared.induced_paths.P4.{P4}
use Rattle.md_bar_tree.specs.declared.BarKind.TheVariants as kinds
use Rattle.md_bar_tree.specs.declared.Bar.{Bar}
use Rattle.md_bar_tree.specs.declared.Class.{Class}
use Rattle.md_bar_tree.proofs.BarLaw.{decide_bar}
use Rattle.md_tree.specs.Trees.{PlainTree}
use Rattle.md_tree.specs.StrongTrees.{IsTree}
use Rattle.md_tree.proofs.OneTree.{one_tree_proof}
use Rattle.md_script.specs.declared.edit.Edit as script
use Rattle.md_script.specs.declared.edit.EditReason.{EditReason}
use Rattle.md_script.specs.declared.item.Item.{Item}
use Rattle.md_script.specs.declared.item.Item.TheVariants.{One, Undo, Group}
use Rattle.md_script.specs.Edit.{HasNames, reason_of, after}
use Rattle.md_script.specs.Items.{HasItemNamesBelow}
use Rattle.md_script.specs.Pasts.{all_after, Applies}
use Rattle.md_script.proofs.ChangeLemmas.{after_is_graph}
use Rattle.md_report.specs.declared.line.SessionMode.{SessionMode}
use Rattle.md_report.specs.declared.line.SessionMode.TheVariants.{Edit, Cograph, Quiet, Of}
use Rattle.md_report.specs.Lines.{PlainLine, path_bar, path_of_bar, applied, applied_quiet, refused, refused_bar, group_refused, group_refused_bar, nothing_to_undo}
use Rattle.md_report.specs.Sessions.{State, undone, applied_state, is_applied, state_behind, HasTreeLine, IsLineBy}
use Rattle.md_report.specs.Cographs.{IsP4Of, IsP4Bar, IsCograph, HasP4Line, IsCographLineBy, IsQuietLineBy}
use Rattle.md_report.specs.Classes.{IsAllowedIn, IsBarOf, IsClassLineBy}
use Rattle.md_report.specs.ItemLines.{IsAllowed, IsBarred, IsDoneLine, AnswersEdit, IsLineAt, IsGroupLine, IsUndoLine, AnswersItem}
use Rattle.md_report.specs.Places.{tells_bar}
use Rattle.md_report.specs.Laws.{AreGraphs, KeepsCographs}

-- ---- bars that are induced P4s

path_is : (bar : Bar) → bar.kind ≡ kinds.P4 → bar ≡ path_bar (path_of_bar bar)
path_is bar is = λ i. record { kind = is i; a = bar.a; b = bar.b; c = bar.c; d = bar.d }

-- a line with an induced P4 is one with such a bar
path_told : (made : Bar → PlainLine) (g : PlainGraph) (line : PlainLine) → HasP4Line (λ p. made (path_bar p)) g line ↔ ((bar : Bar) × IsP4Bar g bar × (line ≡ made bar))
path_told made g line =
    (λ path. (path_bar path.0, (refl, path.1), path.2), λ told. (path_of_bar told.0, told.1.1, told.2 ∙ ap made (path_is told.0 told.1.0)))

-- ---- one form of the line of an edit for all modes

-- the line of an edit of a mode, by the reason against it and the graph h after it
abbrev pub IsEditLine : Option EditReason → SessionMode → PlainGraph → PlainLine → Type 0
IsEditLine (Some reason) mode h line = line ≡ refused reason
IsEditLine None mode h line = ((bar : Bar) × IsBarred mode h bar × (line ≡ refused_bar bar)) ⊎ (IsAllowed mode h × IsDoneLine mode h line)

-- the same of an edit at a session on cographs that gives h
path_or_done : (h : PlainGraph) (line : PlainLine) (Done : Type 0) → (HasP4Line (λ p. refused_bar (path_bar p)) h line ⊎ Done) ↔ (((bar : Bar) × IsP4Bar h bar × (line ≡ refused_bar bar)) ⊎ Done)
path_or_done h line Done =
    let told = path_told refused_bar h line in
    (λ is. elim is [ inl path ↦ inl (told.0 path) | inr done ↦ inr done ], λ is. elim is [ inl path ↦ inl (told.1 path) | inr done ↦ inr done ])

pub edit_line : (mode : SessionMode) (g : PlainGraph) (edit : script.Edit) (line : PlainLine) → AnswersEdit mode g edit line ↔ IsEditLine (reason_of g edit) mode (after g edit) line
edit_line Edit g edit line = by_reason (reason_of g edit) where
  by_reason : (o : Option EditReason) → IsLineBy o g edit line ↔ IsEditLine o Edit (after g edit) line
  by_reason (Some reason) = (λ is. is, λ is. is)
  by_reason None = (λ is. inr (tt, is), λ is. elim is [ inl path ↦ absurd path.1 | inr done ↦ done.1 ])
edit_line Cograph g edit line = by_reason (reason_of g edit) where
  by_reason : (o : Option EditReason) → IsCographLineBy o g edit line ↔ IsEditLine o Cograph (after g edit) line
  by_reason (Some reason) = (λ is. is, λ is. is)
  by_reason None = path_or_done (after g edit) line (IsCograph (after g edit) × IsDoneLine Cograph (after g edit) line)
edit_line Quiet g edit line = by_reason (reason_of g edit) where
  by_reason : (o : Option EditReason) → IsQuietLineBy o g edit line ↔ IsEditLine o Quiet (after g edit) line
  by_reason (Some reason) = (λ is. is, λ is. is)
  by_reason None = path_or_done (after g edit) line (IsCograph (after g edit) × IsDoneLine Quiet (after g edit) line)
edit_line (Of class) g edit line = by_reason (reason_of g edit) where
  by_reason : (o : Option EditReason) → IsClassLineBy o class (after g edit) line ↔ IsEditLine o (Of class) (after g edit) line
  by_reason (Some reason) = (λ is. is, λ is. is)
  by_reason None = (λ is. is, λ is. is)

-- ---- what a line tells

-- the edits that an item applies
abbrev pub edits_of : Item → List script.Edit
edits_of (One edit) = edit ∷ []
edits_of (Group edits) = edits
edits_of Undo = []

-- the line is that of an item, and tells that it wasn't applied, or that these edits were, and gave h
pub record Tells (mode : SessionMode) (g : PlainGraph) (edits : List script.Edit) (h : PlainGraph) (line : PlainLine) : Type 0 where
  pub plain : tells_bar line ≡ false
  pub outcome : (is_applied line ≡ false) ⊎ ((is_applied line ≡ true) × Applies (IsAllowed mode) g edits × IsDoneLine mode h line)

pub done_tells : (mode : SessionMode) (g : PlainGraph) (line : PlainLine) → IsDoneLine mode g line → (is_applied line ≡ true) × (tells_bar line ≡ false)
done_tells Edit g line done = (ap is_applied done.2, ap tells_bar done.2)
done_tells Cograph g line done = (ap is_applied done.2, ap tells_bar done.2)
done_tells Quiet g line done = (ap is_applied done, ap tells_bar done)
done_tells (Of class) g line done = (ap is_applied done.2, ap tells_bar done.2)

refused_tells : (mode : SessionMode) (g : PlainGraph) (edits : List script.Edit) (h : PlainGraph) (line known : PlainLine) → line ≡ known → tells_bar known ≡ false → is_applied known ≡ false → Tells mode g edits h line
refused_tells mode g edits h line known is plain none = record { plain = ap tells_bar is ∙ plain; outcome = inl (ap is_applied is ∙ none) }

applied_tells : (mode : SessionMode) (g : PlainGraph) (edits : List script.Edit) (h : PlainGraph) (line : PlainLine) → Applies (IsAllowed mode) g edits → IsDoneLine mode h line → Tells mode g edits h line
applied_tells mode g edits h line applies done =
    let told = done_tells mode h line done in
    record { plain = told.1; outcome = inr (told.0, applies, done) }

edit_tells : (mode : SessionMode) (g : PlainGraph) (edit : script.Edit) (line : PlainLine) → AnswersEdit mode g edit line → Tells mode g (edit ∷ []) (after g edit) line
edit_tells mode g edit line is = by_reason (reason_of g edit) refl ((edit_line mode g edit line).0 is) where
  by_reason : (o : Option EditReason) → reason_of g edit ≡ o → IsEditLine o mode (after g edit) line → Tells mode g (edit ∷ []) (after g edit) line
  by_reason (Some reason) same told = refused_tells mode g (edit ∷ []) (after g edit) line (refused reason) told refl refl
  by_reason None same (inl path) = refused_tells mode g (edit ∷ []) (after g edit) line (refused_bar path.0) path.2 refl refl
  by_reason None same (inr done) = applied_tells mode g (edit ∷ []) (after g edit) line (same, (done.0, tt)) done.1

-- an edit of a group, and those behind it
at_tells : (o : Option EditReason) (mode : SessionMode) (n : ℕ) (g : PlainGraph) (edit : script.Edit) (edits : List script.Edit) (h : PlainGraph) (Behind : Type 0) (line : PlainLine) → reason_of g edit ≡ o
    → IsLineAt o mode n (after g edit) Behind line → (Behind → Tells mode (after g edit) edits h line) → Tells mode g (edit ∷ edits) h line
at_tells (Some reason) mode n g edit edits h Behind line same is rest = refused_tells mode g (edit ∷ edits) h line (group_refused n reason) is refl refl
at_tells None mode n g edit edits h Behind line same (inl path) rest = refused_tells mode g (edit ∷ edits) h line (group_refused_bar n path.0) path.2 refl refl
at_tells None mode n g edit edits h Behind line same (inr on) rest =
    let told : Tells mode (after g edit) edits h line = rest on.1 in
    record {
      plain = told.plain;
      outcome = elim told.outcome [ inl none ↦ inl none | inr done ↦ inr (done.0, (same, (on.0, done.1)), done.2) ];
    }

group_tells : (mode : SessionMode) (n : ℕ) (g : PlainGraph) (edits : List script.Edit) (line : PlainLine) → IsGroupLine mode n g edits line → Tells mode g edits (all_after g edits) line
group_tells mode n g [] line is = applied_tells mode g [] g line tt is
group_tells mode n g (edit ∷ edits) line is =
    at_tells (reason_of g edit) mode (n + 1) g edit edits (all_after (after g edit) edits) (IsGroupLine mode (n + 1) (after g edit) edits line) line refl is (group_tells mode (n + 1) (after g edit) edits line)

undo_tells : (mode : SessionMode) (g : PlainGraph) (earlier : List PlainGraph) (line : PlainLine) → IsUndoLine mode earlier line → Tells mode g [] (undone g earlier).graph line
undo_tells mode g [] line is = refused_tells mode g [] g line nothing_to_undo is refl refl
undo_tells mode g (h ∷ earlier) line is = applied_tells mode g [] h line tt is

pub item_tells : (mode : SessionMode) (s : State) (item : Item) (line : PlainLine) → AnswersItem mode s item line → Tells mode s.graph (edits_of item) (applied_state s item).graph line
item_tells mode s (One edit) line is = edit_tells mode s.graph edit line is
item_tells mode s (Group edits) line is = group_tells mode 0 s.graph edits line is
item_tells mode s Undo line is = undo_tells mode s.graph s.earlier line is

-- ---- states

by_line : (b : Bool) (s t : State) → b ≡ true → cond b s t ≡ s
by_line true s t is = refl
by_line false s t is = absurd (cc)

not_by_line : (b : Bool) (s t : State) → b ≡ false → cond b s t ≡ t
not_by_line true s t is = absurd (cc)
not_by_line false s t is = refl

-- the state behind a line, by what it tells
pub state_applied : (s : State) (item : Item) (line : PlainLine) → is_applied line ≡ true → state_behind s item line ≡ applied_state s item
state_applied s item line is = by_line (is_applied line) (applied_state s item) s is

pub state_refused : (s : State) (item : Item) (line : PlainLine) → is_applied line ≡ false → state_behind s item line ≡ s
state_refused s item line is = not_by_line (is_applied line) (applied_state s item) s is

-- the graph that stands and the earlier ones are graphs
abbrev pub HasGraphs : State → Type 0
HasGraphs s = IsGraph s.graph × AreGraphs s.earlier

pub all_are_graphs : (Kept : PlainGraph → Type 0) (g : PlainGraph) (edits : List script.Edit) → IsGraph g → All HasNames edits → Applies Kept g edits → IsGraph (all_after g edits)
all_are_graphs Kept g [] is names applies = is
all_are_graphs Kept g (edit ∷ edits) is names applies =
    all_are_graphs Kept (after g edit) edits (after_is_graph g edit is (All-head HasNames edit edits names) applies.0) (All-tail HasNames edit edits names) applies.1.1

undone_graphs : (g : PlainGraph) (earlier : List PlainGraph) → IsGraph g → AreGraphs earlier → HasGraphs (undone g earlier)
undone_graphs g [] is are = (is, tt)
undone_graphs g (h ∷ earlier) is are = are

applied_graphs : (Kept : PlainGraph → Type 0) (s : State) (item : Item) → HasGraphs s → HasItemNamesBelow NAMES item → Applies Kept s.graph (edits_of item) → HasGraphs (applied_state s item)
applied_graphs Kept s (One edit) has names applies = (after_is_graph s.graph edit has.0 names applies.0, has)
applied_graphs Kept s (Group edits) has names applies = (all_are_graphs Kept s.graph edits has.0 names applies, has)
applied_graphs Kept s Undo has names applies = undone_graphs s.graph s.earlier has.0 has.1

-- the state behind the line of an item has graphs
pub state_graphs : (mode : SessionMode) (s : State) (item : Item) (line : PlainLine) → HasGraphs s → HasItemNamesBelow NAMES item → AnswersItem mode s item line → HasGraphs (state_behind s item line)
state_graphs mode s item line has names is =
    elim (item_tells mode s item line is).outcome [
      | inl none ↦ subst (λ (t : State). HasGraphs t) (sym (state_refused s item line none)) has
      | inr done ↦ subst (λ (t : State). HasGraphs t) (sym (state_applied s item line done.0)) (applied_graphs (IsAllowed mode) s item has names done.1)
    ]

-- ---- each item has a line

-- each graph has a line with its tree
pub tree_line : (made : Option PlainTree → PlainLine) (g : PlainGraph) → IsGraph g → (line : PlainLine) × HasTreeLine made g line
tree_line made g is =
    let o : (o : Option PlainTree) × IsTree (adjacent g) g.vertices o × ((p : Option PlainTree) → IsTree (adjacent g) g.vertices p → p ≡ o) =
    one_tree_proof (adjacent g) (record { symmetric = adjacent_sym g; irreflexive = adjacent_self is }) g.vertices in
    (made o.0, (o.0, o.1, refl))

-- a graph has an induced P4, or none
pub some_p4 : (g : PlainGraph) → IsGraph g → ((p : P4) × IsP4Of g p) ⊎ IsCograph g
some_p4 g is =
    elim (decide_path (record { symmetric = adjacent_sym g; irreflexive = adjacent_self is }) g.vertices) [
      | inl path ↦ inl (record { a = path.0; b = path.1; c = path.2; d = path.3 }, path.4)
      | inr none ↦ inr none
    ]

path_or_cograph : (g : PlainGraph) → IsGraph g → ((bar : Bar) × IsP4Bar g bar) ⊎ IsCograph g
path_or_cograph g is = elim (some_p4 g is) [ inl path ↦ inl (path_bar path.0, (refl, path.1)) | inr none ↦ inr none ]

-- a graph has a bar of a class, or none
pub some_bar : (class : Class) (g : PlainGraph) → IsGraph g → ((bar : Bar) × IsBarOf class g bar) ⊎ IsAllowedIn class g
some_bar class g is = decide_bar class (adjacent g) (graph_adjacency is) g.vertices

barred_or_allowed : (mode : SessionMode) (g : PlainGraph) → IsGraph g → ((bar : Bar) × IsBarred mode g bar) ⊎ IsAllowed mode g
barred_or_allowed Edit g is = inr tt
barred_or_allowed Cograph g is = path_or_cograph g is
barred_or_allowed Quiet g is = path_or_cograph g is
barred_or_allowed (Of class) g is = some_bar class g is

done_line : (mode : SessionMode) (g : PlainGraph) → IsGraph g → (line : PlainLine) × IsDoneLine mode g line
done_line Edit g is = tree_line applied g is
done_line Cograph g is = tree_line applied g is
done_line Quiet g is = (applied_quiet, refl)
done_line (Of class) g is = tree_line applied g is

some_edit_line : (mode : SessionMode) (g : PlainGraph) (edit : script.Edit) → IsGraph g → HasNames edit → (line : PlainLine) × AnswersEdit mode g edit line
some_edit_line mode g edit is names =
    let line : (line : PlainLine) × IsEditLine (reason_of g edit) mode (after g edit) line = by_reason (reason_of g edit) refl in
    (line.0, (edit_line mode g edit line.0).1 line.1)
  where
    by_reason : (o : Option EditReason) → reason_of g edit ≡ o → (line : PlainLine) × IsEditLine o mode (after g edit) line
    by_reason (Some reason) same = (refused reason, refl)
    by_reason None same =
        let next : IsGraph (after g edit) = after_is_graph g edit is names same in
        elim (barred_or_allowed mode (after g edit) next) [
          | inl path ↦ (refused_bar path.0, inl (path.0, path.1, refl))
          | inr free ↦ let line = done_line mode (after g edit) next in (line.0, inr (free, line.1))
        ]

some_line_at : (o : Option EditReason) (mode : SessionMode) (n : ℕ) (h : PlainGraph) (Behind : PlainLine → Type 0) → (o ≡ None → IsGraph h) → (IsGraph h → (line : PlainLine) × Behind line)
    → (line : PlainLine) × IsLineAt o mode n h (Behind line) line
some_line_at (Some reason) mode n h Behind next rest = (group_refused n reason, refl)
some_line_at None mode n h Behind next rest =
    elim (barred_or_allowed mode h (next refl)) [
      | inl path ↦ (group_refused_bar n path.0, inl (path.0, path.1, refl))
      | inr free ↦ let line = rest (next refl) in (line.0, inr (free, line.1))
    ]

some_group_line : (mode : SessionMode) (n : ℕ) (g : PlainGraph) (edits : List script.Edit) → IsGraph g → All HasNames edits → (line : PlainLine) × IsGroupLine mode n g edits line
some_group_line mode n g [] is names = done_line mode g is
some_group_line mode n g (edit ∷ edits) is names =
    some_line_at (reason_of g edit) mode (n + 1) (after g edit) (IsGroupLine mode (n + 1) (after g edit) edits) (after_is_graph g edit is (All-head HasNames edit edits names))
    (λ next. some_group_line mode (n + 1) (after g edit) edits next (All-tail HasNames edit edits names))

some_undo_line : (mode : SessionMode) (earlier : List PlainGraph) → AreGraphs earlier → (line : PlainLine) × IsUndoLine mode earlier line
some_undo_line mode [] are = (nothing_to_undo, refl)
some_undo_line mode (g ∷ earlier) are = done_line mode g are.0

pub item_line : (mode : SessionMode) (s : State) (item : Item) → HasGraphs s → HasItemNamesBelow NAMES item → (line : PlainLine) × AnswersItem mode s item line
item_line mode s (One edit) has names = some_edit_line mode s.graph edit has.0 names
item_line mode s (Group edits) has names = some_group_line mode 0 s.graph edits has.0 names
item_line mode s Undo has names = some_undo_line mode s.earlier has.1

-- ---- the lines of one item in two modes on cographs

path_in : (mode : SessionMode) → KeepsCographs mode → (g : PlainGraph) (bar : Bar) → IsBarred mode g bar → IsP4Bar g bar
path_in Edit kept g bar path = absurd kept
path_in Cograph kept g bar path = path
path_in Quiet kept g bar path = path
path_in (Of class) kept g bar path = absurd kept

none_in : (mode : SessionMode) → KeepsCographs mode → (g : PlainGraph) → IsAllowed mode g → IsCograph g
none_in Edit kept g none = absurd kept
none_in Cograph kept g none = none
none_in Quiet kept g none = none
none_in (Of class) kept g none = absurd kept

module _ (mode other : SessionMode) (kept : KeepsCographs mode) (also : KeepsCographs other) (line second : PlainLine) where
  -- both tell that the item was applied, or neither does
  abbrev AreAlike : Type 0
  AreAlike = is_applied line ≡ is_applied second

  both_refused : (known next : PlainLine) → line ≡ known → second ≡ next → is_applied known ≡ is_applied next → AreAlike
  both_refused known next is also_is same = ap is_applied is ∙ same ∙ sym (ap is_applied also_is)

  both_done : (h : PlainGraph) → IsDoneLine mode h line → IsDoneLine other h second → AreAlike
  both_done h one two = (done_tells mode h line one).0 ∙ sym (done_tells other h second two).0

  apart : (h : PlainGraph) (bar : Bar) → IsBarred mode h bar → IsAllowed other h → ⊥
  apart h bar path none = let is = path_in mode kept h bar path in none_in other also h none (bar.a, bar.b, bar.c, bar.d, is.1)

  other_apart : (h : PlainGraph) (bar : Bar) → IsBarred other h bar → IsAllowed mode h → ⊥
  other_apart h bar path none = let is = path_in other also h bar path in none_in mode kept h none (bar.a, bar.b, bar.c, bar.d, is.1)

  edit_alike : (o : Option EditReason) (h : PlainGraph) → IsEditLine o mode h line → IsEditLine o other h second → AreAlike
  edit_alike (Some reason) h one two = both_refused (refused reason) (refused reason) one two refl
  edit_alike None h (inl one) (inl two) = both_refused (refused_bar one.0) (refused_bar two.0) one.2 two.2 refl
  edit_alike None h (inl one) (inr two) = absurd (apart h one.0 one.1 two.0)
  edit_alike None h (inr one) (inl two) = absurd (other_apart h two.0 two.1 one.0)
  edit_alike None h (inr one) (inr two) = both_done h one.1 two.1

  at_alike : (o : Option EditReason) (n : ℕ) (h : PlainGraph) (A B : Type 0) → IsLineAt o mode n h A line → IsLineAt o other n h B second → (A → B → AreAlike) → AreAlike
  at_alike (Some reason) n h A B one two rest = both_refused (group_refused n reason) (group_refused n reason) one two refl
  at_alike None n h A B (inl one) (inl two) rest = both_refused (group_refused_bar n one.0) (group_refused_bar n two.0) one.2 two.2 refl
  at_alike None n h A B (inl one) (inr two) rest = absurd (apart h one.0 one.1 two.0)
  at_alike None n h A B (inr one) (inl two) rest = absurd (other_apart h two.0 two.1 one.0)
  at_alike None n h A B (inr one) (inr two) rest = rest one.1 two.1

  group_alike : (n : ℕ) (g : PlainGraph) (edits : List script.Edit) → IsGroupLine mode n g edits line → IsGroupLine other n g edits second → AreAlike
  group_alike n g [] one two = both_done g one two
  group_alike n g (edit ∷ edits) one two =
      at_alike (reason_of g edit) (n + 1) (after g edit) (IsGroupLine mode (n + 1) (after g edit) edits line) (IsGroupLine other (n + 1) (after g edit) edits second) one two
      (group_alike (n + 1) (after g edit) edits)

  undo_alike : (earlier : List PlainGraph) → IsUndoLine mode earlier line → IsUndoLine other earlier second → AreAlike
  undo_alike [] one two = both_refused nothing_to_undo nothing_to_undo one two refl
  undo_alike (g ∷ earlier) one two = both_done g one two

  pub item_alike : (s : State) (item : Item) → AnswersItem mode s item line → AnswersItem other s item second → AreAlike
  item_alike s (One edit) one two = edit_alike (reason_of s.graph edit) (after s.graph edit) ((edit_line mode s.graph edit line).0 one) ((edit_line other s.graph edit second).0 two)
  item_alike s (Group edits) one two = group_alike 0 s.graph edits one two
  item_alike s Undo one two = undo_alike s.earlier one two
