-- The three runs, one behind the other.
use Rattle.std.proofs.Common.{subst}
use Rattle.md_graph.specs.PlainGraph.{PlainGraph}
use Rattle.md_top.specs.Big.{inserts, RunsTo}
use Rattle.md_top.proofs.big.run_session.Goals as goal

pub returns : goal.returns
returns c =
    let inserting = c.in_ok-inserted.ensures.run in
    let cutting = c.cut_all-refused.ensures.run in
    let deleting = c.delete_all.ensures.run in
    record {
      told = record {
        full = c.insert_all.new.session;
        cut = c.cut_all-refused.new.session;
        last = c.delete_all.new.session;
        not_inserted = inserting.0;
        cut_off = cutting.0;
        deleted = deleting.0;
        not_deleted = deleting.1;
        inserting =
            subst (λ (g : PlainGraph). RunsTo g (inserts c.args.size) c.in_ok-inserted.inserted inserting.0 c.insert_all.new.session)
            c.in_ok-session.ensures.first inserting.1;
        cutting = cutting.1;
        deleting = deleting.2;
        nodes = c.node_count-nodes.ensures.count;
        left = c.vertex_count.ensures;
        left_nodes = c.node_count.ensures.count;
      };
    }
