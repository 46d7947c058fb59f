use Rattle.std.proofs.Common.{subst}
use Rattle.std.proofs.lemmas.Bool.{not_from_true}
use Rattle.md_graph.proofs.SetLemmas.{clash}
use Rattle.md_tree.specs.WellFormed.{HasNoPrimeNode}
use Rattle.md_tree.proofs.Plain.{plain_is_node}
use Rattle.md_tree.proofs.cotree.+look.Goals as goal

pub is_cotree-returns-else-not-is_prime : goal.is_cotree-returns-else-not-is_prime
is_cotree-returns-else-not-is_prime t c = record {
  exactly = (
    (λ h. clash h (not_from_true c.is_prime.result c.if-not-is_prime.false)),
    λ free. absurd ((subst HasNoPrimeNode (plain_is_node c.args.tree.now _ _ _ c.in-Node.is) free).0 (c.is_prime.ensures.yes c.if-not-is_prime.false)),
  );
}
