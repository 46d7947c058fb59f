use Rattle.std.proofs.Common.{◌≤◌, ◌*◌, sym, subst, rules}
use Rattle.md_graph.specs.PlainGraph.{PlainGraph}
use Rattle.md_script.specs.declared.item.Item.{Item}
use Rattle.md_script.specs.Items.{HasItemNamesBelow}
use Rattle.md_script.specs.Histories.{HistoryFits}
use Rattle.md_script.specs.Pasts.{AnyGraph}
use Rattle.md_script.specs.Items.{room_for}
use Rattle.md_session.proofs.general.GeneralSessionOf.apply_item.Goals as goal

pub apply_one-requires : goal.apply_one-requires
apply_one-requires g c = (
  search rules,
  (
    search rules,
    (
      subst (HasItemNamesBelow (64 * g.row.W)) c.in-One.is c.requires.names,
      (
        subst (λ (i : Item). room_for i ≤ c.args.history.now.spare) c.in-One.is c.requires.room,
        subst (λ (k : PlainGraph). HistoryFits (64 * g.row.W) AnyGraph k c.args.history.now.items) (sym c.self.view_is) c.requires.fits,
      ),
    ),
  ),
)

pub apply_group-requires : goal.apply_group-requires
apply_group-requires g c = (
  search rules,
  (
    search rules,
    (
      subst (HasItemNamesBelow (64 * g.row.W)) c.in-Group.is c.requires.names,
      (
        subst (λ (i : Item). room_for i ≤ c.args.history.now.spare) c.in-Group.is c.requires.room,
        subst (λ (k : PlainGraph). HistoryFits (64 * g.row.W) AnyGraph k c.args.history.now.items) (sym c.self.view_is) c.requires.fits,
      ),
    ),
  ),
)

pub undo-requires : goal.undo-requires
undo-requires g c = (search rules, (search rules, subst (λ (k : PlainGraph). HistoryFits (64 * g.row.W) AnyGraph k c.args.history.now.items) (sym c.self.view_is) c.requires.fits))
