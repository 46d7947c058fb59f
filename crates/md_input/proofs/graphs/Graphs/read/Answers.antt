-- The graphs of a graph6 file are those of its lines; an edge file has one, and no lines are left.
use Rattle.std.proofs.Common.{arith, ◌∷◌, sym, subst, ◌∙◌, ap}
use Rattle.md_graph.specs.declared.TheConstants.{NAMES}
use Rattle.md_input.specs.Spelling.{SpellsGraphs}
use Rattle.md_input.proofs.GraphFiles.{spelled_lines, none_of_nothing, faultless_nothing}
use Rattle.md_input.proofs.graphs.Graphs.read.Goals as goal

pub new-requires-in-Dimacs : goal.new-requires-in-Dimacs
new-requires-in-Dimacs c = (NAMES, omega arith, faultless_nothing)

pub new-requires : goal.new-requires
new-requires c = (c.args.limit, c.requires, c.in_ok-scan-in-G6.ensures.sound)

pub returns-in_ok-scan-in-G6-clause-spells : goal.returns-in_ok-scan-in-G6-clause-spells
returns-in_ok-scan-in-G6-clause-spells c =
    spelled_lines _ c.in-G6.is c.args.limit _ _ c.requires c.in_ok-scan-in-G6.ensures.sound c.new.ensures

pub returns-in_ok-of_edges-in-Dimacs-clause-spells : goal.returns-in_ok-of_edges-in-Dimacs-clause-spells
returns-in_ok-of_edges-in-Dimacs-clause-spells c =
    subst (λ f. SpellsGraphs f c.args.file.now (c.in_ok-of_edges-in-Dimacs.field-0 ∷ c.new-in-Dimacs.result)) (sym c.in-Dimacs.is)
    (c.in_ok-of_edges-in-Dimacs.field-0, ap (λ more. c.in_ok-of_edges-in-Dimacs.field-0 ∷ more) (c.new-in-Dimacs.ensures ∙ none_of_nothing), c.in_ok-of_edges-in-Dimacs.ensures.spells)
