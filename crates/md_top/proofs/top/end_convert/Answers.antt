-- The graph file is loaded.
use Rattle.std.proofs.Common.{[], ◌∷◌, refl}
use Rattle.std.proofs.KnownBytes.{Keeps-refl}
use Rattle.md_top.specs.declared.request.Request.TheVariants.{Convert}
use Rattle.md_top.proofs.EndsLemmas.{ends_of_command, ends_at_stop}
use Rattle.md_top.proofs.top.end_convert.Goals as goal

pub returns-in_err-file-clause-ends : goal.returns-in_err-file-clause-ends
returns-in_err-file-clause-ends g c =
    ends_at_stop (Convert c.args.to c.args.from c.args.graph.now) _ _ c.in_err-file.ensures.stops _ (Keeps-refl _) _ c.from_residual.ensures.1

pub returns-clause-ends : goal.returns-clause-ends
returns-clause-ends g c =
    ends_of_command (Convert c.args.to c.args.from c.args.graph.now) (c.in_ok-file.file.items ∷ []) _ refl _ _ c.in_ok-file.ensures.loaded
    _ (rw c.deref.ensures.value at c.convert.ensures.ends)
