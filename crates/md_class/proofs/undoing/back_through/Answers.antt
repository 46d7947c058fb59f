use Rattle.std.proofs.Common.{◌*◌, ◌-◌, [], sym, ◌∙◌, subst, arith, rules}
use Rattle.md_graph.proofs.Limits.{words_few}
use Rattle.md_cotree.specs.Cotrees.{Denotes}
use Rattle.md_cotree.proofs.NoPaths.{cotree_no_path}
use Rattle.md_script.specs.Pasts.{as_edit, taken_back}
use Rattle.md_script.proofs.ChangeLemmas.{names_within}
use Rattle.md_script.proofs.GroupLemmas.{through_first, through_next, again_more}
use Rattle.md_report.specs.Cographs.{IsCograph}
use Rattle.md_class.proofs.undoing.back_through.Goals as goal

pub again-requires : goal.again-requires
again-requires g c =
    let given = c.requires.item in
    let first = through_first (64 * g.row.W) IsCograph (taken_back c.args.graph.now given.0) c.loop-left.graph given.0 c.loop-left.left (c.loop-left.left - 1) _ (c.loop-left.invariant.through given.0 given.1 given.2) (omega arith) (c.last_edit-past.ensures given.0 given.1 given.2) in
    (search rules, (search rules, (first.no_reason, first.names)))

pub change_back-requires : goal.change_back-requires
change_back-requires g c =
    let given = c.requires.item in
    let first = through_first (64 * g.row.W) IsCograph (taken_back c.args.graph.now given.0) c.loop-left.graph given.0 c.loop-left.left (c.loop-left.left - 1) _ (c.loop-left.invariant.through given.0 given.1 given.2) (omega arith) (c.last_edit-past.ensures given.0 given.1 given.2) in (
      search rules,
      (
        (c.loop-left.graph, c.loop-left.invariant.denotes, first.no_reason, first.kept),
        (
          names_within (words_few g.row.W c.vertices-vertices.ensures.limit) (as_edit c.last_edit-past.result) first.names,
          (let same = c.loop-left.invariant.near in let room = c.requires.near in omega arith),
        ),
      ),
    )

pub take_back-requires : goal.take_back-requires
take_back-requires g c =
    let given = c.requires.item in
    let first = through_first (64 * g.row.W) IsCograph (taken_back c.args.graph.now given.0) c.loop-left.graph given.0 c.loop-left.left (c.loop-left.left - 1) _ (c.loop-left.invariant.through given.0 given.1 given.2) (omega arith) (c.last_edit-past.ensures given.0 given.1 given.2) in
    (search rules, (search rules, (first.no_reason, first.names)))

pub loop-left-preserved : goal.loop-left-preserved
loop-left-preserved g c =
    let given = c.requires.item in
    let so = c.loop-left.invariant.again in
    let den = c.loop-left.invariant.denotes in
    let first = through_first (64 * g.row.W) IsCograph (taken_back c.args.graph.now given.0) c.loop-left.graph given.0 c.loop-left.left (c.loop-left.left - 1) _ (c.loop-left.invariant.through given.0 given.1 given.2) (omega arith) (c.last_edit-past.ensures given.0 given.1 given.2) in
    record {
      through = λ last others is.
          through_next (64 * g.row.W) IsCograph (taken_back c.args.graph.now last) c.loop-left.graph last c.loop-left.left (c.loop-left.left - 1) _ (c.loop-left.invariant.through last others is) (omega arith)
          (c.last_edit-past.ensures last others is) c.take_back.new.graph c.take_back.ensures;
      again = (
        _,
        c.push.ensures.items so.0 [] so.1,
        again_more (64 * g.row.W) IsCograph c.args.graph.now c.loop-left.graph c.take_back.new.graph so.0 _ _ so.2 c.again.ensures.back c.take_back.ensures (cotree_no_path c.loop-left.tree c.loop-left.graph den),
      );
      room = (let room = c.loop-left.invariant.room in let spare = c.push.ensures.spare in omega arith);
      denotes = subst (Denotes c.change_back.new.tree) (sym c.take_back.ensures) (c.change_back.ensures.done c.loop-left.graph den first.no_reason first.kept);
      near = c.change_back.ensures.near ∙ c.loop-left.invariant.near;
    }
