use Rattle.std.proofs.Common.{◌≡◌, ◌⊎◌, ◌∙◌, sym, inl, inr}
use Rattle.md_top.specs.declared.stop.Status.{Status}
use Rattle.md_top.specs.declared.stop.Status.TheVariants.{Done, Rejected, BadInput, ReadFault, WriteFault, Memory}
use Rattle.md_run_tests.proofs.clients.is_well_formed.Goals as goal

-- a fault of the input ends no run in another way
not_done : (s : Status) → s ≡ Done → (s ≡ BadInput) ⊎ (s ≡ ReadFault) ⊎ (s ≡ Memory) → ⊥
not_done s is (inl e) = let no = sym is ∙ e in cc
not_done s is (inr (inl e)) = let no = sym is ∙ e in cc
not_done s is (inr (inr e)) = let no = sym is ∙ e in cc

not_rejected : (s : Status) → s ≡ Rejected → (s ≡ BadInput) ⊎ (s ≡ ReadFault) ⊎ (s ≡ Memory) → ⊥
not_rejected s is (inl e) = let no = sym is ∙ e in cc
not_rejected s is (inr (inl e)) = let no = sym is ∙ e in cc
not_rejected s is (inr (inr e)) = let no = sym is ∙ e in cc

not_write_fault : (s : Status) → s ≡ WriteFault → (s ≡ BadInput) ⊎ (s ≡ ReadFault) ⊎ (s ≡ Memory) → ⊥
not_write_fault s is (inl e) = let no = sym is ∙ e in cc
not_write_fault s is (inr (inl e)) = let no = sym is ∙ e in cc
not_write_fault s is (inr (inr e)) = let no = sym is ∙ e in cc

pub returns-in-Done-clause-faulty : goal.returns-in-Done-clause-faulty
returns-in-Done-clause-faulty g c = λ input fault is has same. not_done c.run.result c.in-Done.is (c.run.ensures.bad_input_always input fault is has)

pub returns-in-Rejected-clause-faulty : goal.returns-in-Rejected-clause-faulty
returns-in-Rejected-clause-faulty g c = λ input fault is has same. not_rejected c.run.result c.in-Rejected.is (c.run.ensures.bad_input_always input fault is has)

pub returns-in-WriteFault-clause-faulty : goal.returns-in-WriteFault-clause-faulty
returns-in-WriteFault-clause-faulty g c = λ input fault is has same. not_write_fault c.run.result c.in-WriteFault.is (c.run.ensures.bad_input_always input fault is has)
