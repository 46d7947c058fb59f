-- A fault below a lower limit is one below the limit, but for too many vertices.
use Rattle.std.proofs.Common.{◌≡◌, ◌≤◌, Some, sym, subst, ◌∙◌, arith}
use Rattle.std.proofs.lemmas.Grind.{common_steps}
use Rattle.md_dimacs.specs.File.{first_fault}
use Rattle.md_dimacs.proofs.FileLemmas.{limits_agree}
use Rattle.md_input.proofs.room.is_read.Goals as goal
use Rattle.md_input.proofs.room.is_read.Goals.{else-eq-via-then-eq+else-most-limit, else-eq-via-else-eq}

pub returns-in-Ok-clause-faultless : goal.returns-in-Ok-clause-faultless
returns-in-Ok-clause-faultless g c =
    let less : c.min.result ≤ c.args.limit = grind (arith, common_steps) in
    (limits_agree c.args.file.now c.min.result c.args.limit less).0 c.in-Ok.ensures.faultless

pub returns-else-eq-clause-fault : goal.returns-else-eq-clause-fault
returns-else-eq-clause-fault g c =
    elim c.else-eq.branch [
      | else-eq-via-then-eq+else-most-limit w ↦
          let same : c.min.result ≡ c.args.limit = grind (arith, common_steps) in
          subst (λ limit. first_fault limit c.args.file.now ≡ Some c.in-Err.fault) same c.in-Err.ensures.fault
      | else-eq-via-else-eq w ↦
          let less : c.min.result ≤ c.args.limit = grind (arith, common_steps) in
          (limits_agree c.args.file.now c.min.result c.args.limit less).1 c.in-Err.fault c.in-Err.ensures.fault
          (λ same. let told = sym w.if-eq.false ∙ c.eq.ensures in absurd (let both = rw same at told in cc))
    ]
