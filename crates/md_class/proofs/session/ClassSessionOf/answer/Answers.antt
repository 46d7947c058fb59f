use Rattle.std.proofs.Common.{◌≤◌, ◌*◌, sym, subst, rules}
use Rattle.md_script.specs.declared.item.Item.{Item}
use Rattle.md_script.specs.Items.{HasItemNamesBelow, room_for}
use Rattle.md_script.specs.Histories.{HistoryFits}
use Rattle.md_report.specs.Classes.{IsAllowedIn}
use Rattle.md_class.specs.ClassSessions.{PlainClassSession}
use Rattle.md_class.proofs.ClassGraphs.{fits_cographs}
use Rattle.md_class.proofs.session.ClassSessionOf.answer.Goals as goal
use Rattle.md_class.proofs.session.ClassSessionOf.answer.Goals.{in-One, in-Group, in-Undo}

pub answer_one-requires : goal.answer_one-requires
answer_one-requires g c = (
  search rules,
  (
    search rules,
    (
      subst (HasItemNamesBelow (64 * g.row.W)) c.in-One.is c.requires.names,
      (
        c.self.invariant.0,
        (
          c.self.invariant.1,
          (
            c.self.invariant.2,
            (
              subst (λ (i : Item). room_for i ≤ c.args.history.now.spare) c.in-One.is c.requires.room,
              subst (λ (s : PlainClassSession). HistoryFits (64 * g.row.W) (IsAllowedIn s.class) s.graph c.args.history.now.items) (sym c.self.view_is) c.requires.fits,
            ),
          ),
        ),
      ),
    ),
  ),
)

pub answer_group-requires : goal.answer_group-requires
answer_group-requires g c = (
  search rules,
  (
    search rules,
    (
      subst (HasItemNamesBelow (64 * g.row.W)) c.in-Group.is c.requires.names,
      (
        c.self.invariant.0,
        (
          c.self.invariant.1,
          (
            c.self.invariant.2,
            (
              subst (λ (i : Item). room_for i ≤ c.args.history.now.spare) c.in-Group.is c.requires.room,
              subst (λ (s : PlainClassSession). HistoryFits (64 * g.row.W) (IsAllowedIn s.class) s.graph c.args.history.now.items) (sym c.self.view_is) c.requires.fits,
            ),
          ),
        ),
      ),
    ),
  ),
)

pub answer_undo-requires : goal.answer_undo-requires
answer_undo-requires g c =
    let fits = subst (λ (s : PlainClassSession). HistoryFits (64 * g.row.W) (IsAllowedIn s.class) s.graph c.args.history.now.items) (sym c.self.view_is) c.requires.fits in (
      search rules,
      (
        search rules,
        (
          c.self.invariant.1,
          (c.self.invariant.2, fits_cographs (64 * g.row.W) c.self.inside.class c.self.inside.graph c.args.history.now.items fits),
        ),
      ),
    )

pub invariant_of-self : goal.invariant_of-self
invariant_of-self g c =
    let fits = subst (λ (s : PlainClassSession). HistoryFits (64 * g.row.W) (IsAllowedIn s.class) s.graph c.args.history.now.items) (sym c.self.view_is) c.requires.fits in
    elim c.match-item.branch [
      | in-One w ↦ rw w.self-inside-is (
        w.answer_one.ensures.allowed,
        w.answer_one.ensures.denotes,
        subst (λ n. 64 * g.row.W ≤ n) (sym w.answer_one.ensures.near) c.self.invariant.2,
      )
      | in-Group w ↦ rw w.self-inside-is (
        w.answer_group.ensures.allowed,
        w.answer_group.ensures.denotes,
        subst (λ n. 64 * g.row.W ≤ n) (sym w.answer_group.ensures.near) c.self.invariant.2,
      )
      | in-Undo w ↦ rw w.self-inside-is (
        w.answer_undo.ensures.allowed c.self.inside.class c.self.invariant.0 fits,
        w.answer_undo.ensures.denotes,
        subst (λ n. 64 * g.row.W ≤ n) (sym w.answer_undo.ensures.near) c.self.invariant.2,
      )
    ]
