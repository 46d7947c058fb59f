use Rattle.std.proofs.Common.{◌∷◌, [], subst, sym, refl, arith}
use Rattle.md_script.specs.Histories.{NameRowsInOrder}
use Rattle.md_script.proofs.KeptRows.{last_without, some_rows, last_with, last_given}
use Rattle.md_script.proofs.history.give.Goals as goal

pub unreachable-requires : goal.unreachable-requires
unreachable-requires g c =
    let some = some_rows c.in-AddVertex.x c.in-AddVertex.row c.args.kept c.in-AddVertex.is c.requires.0 _ c.requires.1 in
    let len = c.args.rows.now.ok.0 in
    let there = c.in-None.ensures.variant.1 (omega arith) in
    absurd (cc)

pub returns-in-AddEdge-clause-rows : goal.returns-in-AddEdge-clause-rows
returns-in-AddEdge-clause-rows g c = λ edits are.
    (last_without c.args.kept (λ m k rows. subst (λ e. NameRowsInOrder m (e ∷ []) k) c.in-AddEdge.is rows) edits _ are, refl)

pub returns-in-DelEdge-clause-rows : goal.returns-in-DelEdge-clause-rows
returns-in-DelEdge-clause-rows g c = λ edits are.
    (last_without c.args.kept (λ m k rows. subst (λ e. NameRowsInOrder m (e ∷ []) k) c.in-DelEdge.is rows) edits _ are, refl)

pub returns-in-DelVertex-clause-rows : goal.returns-in-DelVertex-clause-rows
returns-in-DelVertex-clause-rows g c = λ edits are.
    (last_without c.args.kept (λ m k rows. subst (λ e. NameRowsInOrder m (e ∷ []) k) c.in-DelVertex.is rows) edits _ are, refl)

pub returns-in-Some-clause-past : goal.returns-in-Some-clause-past
returns-in-Some-clause-past g c =
    sym (last_given c.in-AddVertex.x c.in-AddVertex.row c.args.kept c.in-AddVertex.is c.args.rows.now.items _ c.in-Some.neighbours c.in-Some.ensures.items c.requires.0 c.requires.1)

pub returns-in-Some-clause-rows : goal.returns-in-Some-clause-rows
returns-in-Some-clause-rows g c = λ edits are.
    last_with c.in-AddVertex.x c.in-AddVertex.row c.args.kept c.in-AddVertex.is c.args.rows.now.items _ c.in-Some.neighbours c.in-Some.ensures.items edits are
