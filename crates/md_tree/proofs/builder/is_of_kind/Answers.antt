use Rattle.std.proofs.Common.{sym, subst}
use Rattle.std.specs.Prelude.{◌↔◌, IsTrue}
use Rattle.md_tree.specs.WellFormed.{IsOfKind}
use Rattle.md_tree.proofs.Plain.{plain_is_node}
use Rattle.md_tree.proofs.builder.is_of_kind.Goals as goal

pub returns-in-Node : goal.returns-in-Node
returns-in-Node g c =
    subst (λ t. IsTrue c.is.result ↔ IsOfKind t c.args.kind) (sym (plain_is_node c.args.tree.now _ _ _ c.in-Node.is)) c.is.ensures
