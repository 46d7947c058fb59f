use Rattle.std.proofs.Common.{◌≡◌, ◌∙◌, sym, ap, subst, arith}
use Rattle.md_graph.specs.NameSet.{IsLeastFrom}
use Rattle.md_graph.proofs.SetLemmas.{only_has, of_only}
use Rattle.md_modules.specs.Blocks.{held_names}
use Rattle.md_modules.proofs.compact_set.CompactSet.first.Goals as goal

pub returns-in-One-clause-found : goal.returns-in-One-clause-found
returns-in-One-clause-found g c =
    let v = c.in-One.name in
    subst (λ s. IsLeastFrom s 0 v) (sym (ap (held_names g.row.W) c.in-One.is) ∙ c.self.view_is) (record {
      member = only_has v;
      above = omega arith;
      first = λ w h l. (let same : w ≡ v = of_only v w h in omega arith);
    })
