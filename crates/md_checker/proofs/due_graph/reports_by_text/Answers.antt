use Rattle.md_tree.proofs.Stacking.{if_ok}
use Rattle.md_checker.proofs.Taking.{tree_reports, orientation_reports, shortest_reports}
use Rattle.md_checker.proofs.due_graph.reports_by_text.Goals as goal

pub returns-in-Tree : goal.returns-in-Tree
returns-in-Tree g c =
    if_ok c.is_word_and_tree.result (λ fit told yes. let t = told.0 yes in tree_reports c.args.mode c.args.graph.now t.0 c.args.text.now c.in-Tree.is t.1 t.2) c.is_word_and_tree.ensures

pub returns-in-Compare : goal.returns-in-Compare
returns-in-Compare g c =
    if_ok c.is_word_and_orientation.result (λ fit told yes. let t = told yes in orientation_reports c.args.mode c.args.graph.now t.0 c.args.text.now c.in-Compare.is t.1 t.2 t.3) c.is_word_and_orientation.ensures

pub returns-in-Shortest : goal.returns-in-Shortest
returns-in-Shortest g c =
    if_ok c.is_word_and_orientation-in-Shortest.result (λ fit told yes. let t = told yes in shortest_reports c.args.mode c.args.graph.now t.0 c.args.text.now c.in-Shortest.is t.1 t.2 t.3) c.is_word_and_orientation-in-Shortest.ensures
