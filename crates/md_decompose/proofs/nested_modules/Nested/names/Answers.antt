use Rattle.std.proofs.Common.{subst, List, ℕ, Contains, ◌<◌, ◌*◌, rules}
use Rattle.std.proofs.lemmas.List.Elements.{All-weaker, All-contains_itself}
use Rattle.md_decompose.proofs.nested_modules.Nested.names.Goals as goal

pub from_list-names-requires : goal.from_list-names-requires
from_list-names-requires g c =
    let xs = c.deref.result.now in (
      search rules,
      (
        All-weaker (Contains xs) (λ x. x < 64 * g.row.W) (λ x known. c.requires.names x (subst (λ (ys : List ℕ). Contains ys x) c.deref.ensures.value known)) xs (All-contains_itself xs),
        c.requires.limit,
      ),
    )
