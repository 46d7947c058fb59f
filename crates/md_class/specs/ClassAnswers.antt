-- What comes of an edit of a session on a class of graphs, alone or in a group.
-- Source: Golumbic, Trivially perfect graphs (1978), and Chvatal and Hammer, Aggregation of inequalities in integer programming (1977); the
-- answers are this project's.
use Rattle.std.specs.Prelude.{◌≡◌, ℕ, ◌+◌, List, [], ◌∷◌, ◌++◌, length, slice_get, Bool, Option, Some, None, Result, Ok, Err, ⊤}
use Rattle.md_graph.specs.declared.Memory.{Memory}
use Rattle.md_graph.specs.PlainGraph.{PlainGraph}
use Rattle.md_bar_tree.specs.declared.Class.{Class}
use Rattle.md_script.specs.declared.edit.Edit.{Edit}
use Rattle.md_script.specs.Edit.{reason_of, after}
use Rattle.md_script.specs.Pasts.{inverse_of}
use Rattle.md_bar.specs.declared.ClassLine.{ClassLine}
use Rattle.md_bar.specs.ClassLines.{plain_class_line}
use Rattle.md_report.specs.Classes.{IsAllowedIn, IsBarOf}
use Rattle.md_report.specs.ItemLines.{IsLineAt}
use Rattle.md_report.specs.declared.line.SessionMode.TheVariants.{Of}
use Rattle.md_class.specs.declared.items.Answer.{Answer}
use Rattle.md_class.specs.declared.items.Answer.TheVariants.{Applied, Refused, Barred}
use Rattle.md_class.specs.declared.items.Fit.{Fit}
use Rattle.md_class.specs.declared.items.Fit.TheVariants as fits
use Rattle.md_class.specs.ItemAnswers.{IsToldOf}

-- what is told of g, which has no bar of the class; or a bar of it
abbrev pub IsFitOf : Class → Bool → PlainGraph → Fit → Type 0
IsFitOf class whole g (fits.Told told) = IsAllowedIn class g × IsToldOf whole g told
IsFitOf class whole g (fits.Bar bar) = IsBarOf class g bar

-- graph and history stay
abbrev pub AreKept : PlainGraph → List (List Edit) → PlainGraph → List (List Edit) → Type 0
AreKept g items next left = (next ≡ g) × (left ≡ items)

-- what takes the edit at g back is the last edit of the last item
abbrev pub IsPushedTo : PlainGraph → Edit → List (List Edit) → List (List Edit) → Type 0
IsPushedTo g edit items left =
    (last : List Edit) (others : List (List Edit)) → items ≡ last ∷ others → left ≡ (last ++ inverse_of g edit ∷ []) ∷ others

-- what comes of an edit at g, the graph behind it, and the items: it is applied, or refused for the reason against it, or since the
-- graph after it has a bar of the class; or memory is wanted, and all stays
abbrev pub IsClassAnswered : Class → Bool → PlainGraph → Edit → List (List Edit) → Result Answer Memory → PlainGraph → List (List Edit) → Type 0
IsClassAnswered class whole g edit items (Ok (Applied told)) next left =
    (reason_of g edit ≡ None) × (next ≡ after g edit) × IsFitOf class whole next (fits.Told told) × IsPushedTo g edit items left
IsClassAnswered class whole g edit items (Ok (Refused reason)) next left = (reason_of g edit ≡ Some reason) × AreKept g items next left
IsClassAnswered class whole g edit items (Ok (Barred bar)) next left =
    (reason_of g edit ≡ None) × IsBarOf class (after g edit) bar × AreKept g items next left
IsClassAnswered class whole g edit items (Err wanted) next left = AreKept g items next left

-- what comes of a group of which n edits were applied, and gave h: these are all; or the line is that of the next one, at which the group
-- ends; or memory is wanted
abbrev pub IsGroupEnd : Class → List Edit → PlainGraph → ℕ → Result (Option ClassLine) Memory → Type 0
IsGroupEnd class edits h n (Ok None) = n ≡ length edits
IsGroupEnd class edits h n (Ok (Some line)) =
    (edit : Edit) × (slice_get edits n ≡ Some edit) × IsLineAt (reason_of h edit) (Of class) (n + 1) (after h edit) ⊥ (plain_class_line line)
IsGroupEnd class edits h n (Err wanted) = ⊤
