-- What a session on cographs answers, and the graph that it then has.
-- Source: Corneil, Perl and Stewart, A linear recognition algorithm for cographs; the answers are this project's.
use Rattle.std.specs.Prelude.{◌≡◌, ℕ, ◌+◌, ◌⊎◌, List, [], ◌∷◌, ◌++◌, Option, Some, None}
use Rattle.md_graph.specs.PlainGraph.{PlainGraph}
use Rattle.md_modules.specs.declared.induced_paths.P4.{P4}
use Rattle.md_script.specs.declared.edit.Edit.{Edit}
use Rattle.md_script.specs.declared.edit.EditReason.{EditReason}
use Rattle.md_script.specs.Edit.{reason_of, after}
use Rattle.md_script.specs.Pasts.{inverse_of}
use Rattle.md_report.specs.Cographs.{IsP4Of, IsCograph}
use Rattle.md_session.specs.declared.cograph.OpenedOf as opened
use Rattle.md_session.specs.declared.cograph.OpenedOf.TheVariants.{Session, NotCograph}
use Rattle.md_session.specs.declared.cograph.Answer as answers
use Rattle.md_session.specs.declared.cograph.Answer.TheVariants.{Applied, Refused, RefusedP4}
use Rattle.md_session.specs.declared.cograph_items.ItemAnswer.{ItemAnswer}
use Rattle.md_session.specs.declared.cograph_items.ItemAnswer.TheVariants as items
use Rattle.md_report.specs.Lines.{PlainLine, applied_quiet, refused, refused_p4, group_refused, group_refused_p4, nothing_to_undo}

-- a session is opened on a cograph, and has that graph; of any other graph an induced P4 is told
abbrev pub IsOpened : {w : ℕ} → PlainGraph → opened.OpenedOf w → Type 0
IsOpened g (Session s) = (s ≡ g) × IsCograph g
IsOpened g (NotCograph p) = IsP4Of g p

-- the answer to an edit at g and the graph behind it, by the reason against the edit: the reason; or an induced P4 of the graph after
-- the edit; or that the edit was applied, where that graph is a cograph
abbrev pub IsAnsweredBy : Option EditReason → PlainGraph → Edit → answers.Answer → PlainGraph → Type 0
IsAnsweredBy (Some reason) g edit answer next = (answer ≡ Refused reason) × (next ≡ g)
IsAnsweredBy None g edit answer next =
    ((p : P4) × IsP4Of (after g edit) p × (answer ≡ RefusedP4 p) × (next ≡ g))
    ⊎ (IsCograph (after g edit) × (answer ≡ Applied) × (next ≡ after g edit))

-- the answer to an edit at g, and the graph behind it
abbrev pub IsAnswered : PlainGraph → Edit → answers.Answer → PlainGraph → Type 0
IsAnswered g edit answer next = IsAnsweredBy (reason_of g edit) g edit answer next

-- the line of an answer to an item, in mode quiet
abbrev pub answer_line : ItemAnswer → PlainLine
answer_line items.Applied = applied_quiet
answer_line (items.Refused reason) = refused reason
answer_line (items.RefusedP4 p) = refused_p4 p
answer_line (items.GroupRefused number reason) = group_refused number reason
answer_line (items.GroupRefusedP4 number p) = group_refused_p4 number p
answer_line items.NothingToUndo = nothing_to_undo

-- an edit at g was answered, and what takes it back is the last of the items; or it was refused, and they stay
abbrev pub IsPushed : PlainGraph → Edit → answers.Answer → List (List Edit) → List (List Edit) → Type 0
IsPushed g edit Applied items left =
    (last : List Edit) (others : List (List Edit)) → items ≡ last ∷ others → left ≡ (last ++ inverse_of g edit ∷ []) ∷ others
IsPushed g edit (Refused reason) items left = left ≡ items
IsPushed g edit (RefusedP4 p) items left = left ≡ items

-- the answer is that the edit of a group behind n others is refused at the graph h: for a reason, or since the graph after it has an
-- induced P4
abbrev pub IsGroupRefusal : PlainGraph → ℕ → Edit → ItemAnswer → Type 0
IsGroupRefusal h n edit (items.GroupRefused number reason) = (number ≡ n + 1) × (reason_of h edit ≡ Some reason)
IsGroupRefusal h n edit (items.GroupRefusedP4 number p) = (number ≡ n + 1) × (reason_of h edit ≡ None) × IsP4Of (after h edit) p
IsGroupRefusal h n edit _ = ⊥
