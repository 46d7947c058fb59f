-- Sessions on cographs: an edit that would make an induced P4 is refused with it, and the graph stays. In mode quiet the line of an
-- edit that is applied has no tree.
-- Source: Corneil, Perl and Stewart, A linear recognition algorithm for cographs; the lines are this project's.
use Rattle.std.specs.Prelude.{◌≡◌, ◌⊎◌, Option, Some, None}
use Rattle.md_graph.specs.PlainGraph.{PlainGraph, adjacent}
use Rattle.md_modules.specs.declared.induced_paths.P4.{P4}
use Rattle.md_modules.specs.InducedPaths.{IsInducedPath, HasInducedPath}
use Rattle.md_bar_tree.specs.declared.BarKind.TheVariants as kinds
use Rattle.md_bar_tree.specs.declared.Bar.{Bar}
use Rattle.md_script.specs.declared.edit.Edit.{Edit}
use Rattle.md_script.specs.declared.edit.EditReason.{EditReason}
use Rattle.md_script.specs.Edit.{reason_of, after}
use Rattle.md_report.specs.Lines.{PlainLine, path_of_bar, tree, applied, applied_quiet, refused, refused_p4, not_cograph}
use Rattle.md_report.specs.Sessions.{HasTreeLine}

-- the four names are an induced P4 of g
abbrev pub IsP4Of : PlainGraph → P4 → Type 0
IsP4Of g p = IsInducedPath (adjacent g) g.vertices p.a p.b p.c p.d

-- the bar is an induced P4 of g
abbrev pub IsP4Bar : PlainGraph → Bar → Type 0
IsP4Bar g bar = (bar.kind ≡ kinds.P4) × IsP4Of g (path_of_bar bar)

-- g is a cograph: it has no induced P4
abbrev pub IsCograph : PlainGraph → Type 0
IsCograph g = HasInducedPath (adjacent g) g.vertices → ⊥

-- the line is one with an induced P4 of g
abbrev pub HasP4Line : (P4 → PlainLine) → PlainGraph → PlainLine → Type 0
HasP4Line made g line = (p : P4) × IsP4Of g p × (line ≡ made p)

-- the line of the first state: an induced P4 of it, or its tree of strong modules where it is a cograph
abbrev pub IsOpeningLine : PlainGraph → PlainLine → Type 0
IsOpeningLine g line = HasP4Line not_cograph g line ⊎ (IsCograph g × HasTreeLine tree g line)

-- the line of an edit at g, by the reason against it: the reason; or an induced P4 of the graph after the edit; or that graph's
-- tree where it is a cograph
abbrev pub IsCographLineBy : Option EditReason → PlainGraph → Edit → PlainLine → Type 0
IsCographLineBy (Some reason) g edit line = line ≡ refused reason
IsCographLineBy None g edit line =
    HasP4Line refused_p4 (after g edit) line ⊎ (IsCograph (after g edit) × HasTreeLine applied (after g edit) line)

-- the line of an edit at g
abbrev pub IsCographLine : PlainGraph → Edit → PlainLine → Type 0
IsCographLine g edit line = IsCographLineBy (reason_of g edit) g edit line

-- the line of an edit at g in mode quiet, by the reason against it: the reason; or an induced P4 of the graph after the edit; or that
-- the edit was applied, where that graph is a cograph
abbrev pub IsQuietLineBy : Option EditReason → PlainGraph → Edit → PlainLine → Type 0
IsQuietLineBy (Some reason) g edit line = line ≡ refused reason
IsQuietLineBy None g edit line =
    HasP4Line refused_p4 (after g edit) line ⊎ (IsCograph (after g edit) × (line ≡ applied_quiet))

-- the line of an edit at g in mode quiet
abbrev pub IsQuietLine : PlainGraph → Edit → PlainLine → Type 0
IsQuietLine g edit line = IsQuietLineBy (reason_of g edit) g edit line
