use Rattle.std.proofs.Common.{ap, ◌∙◌, ◌++◌}
use Rattle.std.specs.Prelude.{codes}
use Rattle.md_dimacs.proofs.TextLemmas.{head_is}
use Rattle.md_dimacs.proofs.writer.begin_text.Goals as goal

pub returns : goal.returns
returns g c =
    head_is c.args.graph.now c.from.result c.from-2.result c.extend_from_slice.new.self.items c.push_number.new.text.items c.push.new.self.items c.push_number-2.new.text.items c.push-2.new.self.items
    (c.in_ok-extend_from_slice.ensures.items ∙ ap (λ l. l ++ codes "p edge ") c.in_ok-text.ensures.items)
    (c.from.ensures ∙ c.count.ensures.value) (c.from-2.ensures ∙ c.edge_count-edges.ensures.value) c.in_ok-push_number.ensures.appended c.in_ok-push.ensures.items c.in_ok-push_number-2.ensures.appended c.in_ok-push-2.ensures.items
