-- The text is that of the line of the tree.
use Rattle.std.proofs.Common.{◌∙◌}
use Rattle.md_tree.specs.Plain.{plain_option}
use Rattle.md_dcheck.specs.DirectedReports.{directed_tree}
use Rattle.md_top.proofs.directed.put_tree_line.Goals as goal

pub returns-clause-puts : goal.returns-clause-puts
returns-clause-puts g c p may =
    c.put_line.ensures.puts p (directed_tree (plain_option c.args.tree.now)) may (c.deref.ensures.value ∙ c.in_ok-text.ensures)
