-- The line of its tree may come where the directed graph is due.
use Rattle.std.proofs.Common.{◌∷◌, refl}
use Rattle.md_tree.specs.Plain.{plain_option}
use Rattle.md_dcheck.specs.DirectedReports.{at_digraphs}
use Rattle.md_top.proofs.directed.put_tree.Goals as goal

pub returns-clause-puts : goal.returns-clause-puts
returns-clause-puts g c digraphs =
    c.put_tree_line.ensures.puts (at_digraphs (c.args.room.now ∷ digraphs)) (plain_option c.in_ok-tree.tree, c.in_ok-tree.ensures, refl)
