use Rattle.std.proofs.Common.{◌≤◌, ◌*◌, sym, subst, rules}
use Rattle.md_graph.specs.PlainGraph.{PlainGraph}
use Rattle.md_cotree.proofs.NoPaths.{cotree_no_path}
use Rattle.md_script.specs.declared.item.Item.{Item}
use Rattle.md_script.specs.Items.{HasItemNamesBelow}
use Rattle.md_script.specs.Histories.{HistoryFits}
use Rattle.md_report.specs.Cographs.{IsCograph}
use Rattle.md_script.specs.Items.{room_for}
use Rattle.md_session.proofs.cograph.CographSessionOf.apply_item.Goals as goal

pub answer_one-requires : goal.answer_one-requires
answer_one-requires g c = (
  search rules,
  (
    search rules,
    (
      subst (HasItemNamesBelow (64 * g.row.W)) c.in-One.is c.requires.names,
      (
        c.self.invariant.0,
        (
          c.self.invariant.1,
          (
            subst (λ (i : Item). room_for i ≤ c.args.history.now.spare) c.in-One.is c.requires.room,
            subst (λ (k : PlainGraph). HistoryFits (64 * g.row.W) IsCograph k c.args.history.now.items) (sym c.self.view_is) c.requires.fits,
          ),
        ),
      ),
    ),
  ),
)

pub answer_group-requires : goal.answer_group-requires
answer_group-requires g c = (
  search rules,
  (
    search rules,
    (
      subst (HasItemNamesBelow (64 * g.row.W)) c.in-Group.is c.requires.names,
      (
        c.self.invariant.0,
        (
          c.self.invariant.1,
          (
            c.self.invariant.2,
            (
              subst (λ (i : Item). room_for i ≤ c.args.history.now.spare) c.in-Group.is c.requires.room,
              subst (λ (k : PlainGraph). HistoryFits (64 * g.row.W) IsCograph k c.args.history.now.items) (sym c.self.view_is) c.requires.fits,
            ),
          ),
        ),
      ),
    ),
  ),
)

pub answer_undo-requires : goal.answer_undo-requires
answer_undo-requires g c = (
  search rules,
  (
    search rules,
    (
      c.self.invariant.0,
      (
        c.self.invariant.1,
        (
          c.self.invariant.2,
          subst (λ (k : PlainGraph). HistoryFits (64 * g.row.W) IsCograph k c.args.history.now.items) (sym c.self.view_is) c.requires.fits,
        ),
      ),
    ),
  ),
)

pub invariant_of-self-in-Group : goal.invariant_of-self-in-Group
invariant_of-self-in-Group g c = (
  cotree_no_path c.answer_group.new.tree c.answer_group.new.graph c.answer_group.ensures.denotes,
  c.answer_group.ensures.denotes,
  subst (λ n. 64 * g.row.W ≤ n) (sym c.answer_group.ensures.near) c.self.invariant.2,
)

pub invariant_of-self-in-Undo : goal.invariant_of-self-in-Undo
invariant_of-self-in-Undo g c = (
  cotree_no_path c.answer_undo.new.tree c.answer_undo.new.graph c.answer_undo.ensures.denotes,
  c.answer_undo.ensures.denotes,
  subst (λ n. 64 * g.row.W ≤ n) (sym c.answer_undo.ensures.near) c.self.invariant.2,
)
