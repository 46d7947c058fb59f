use Rattle.std.proofs.Common.{◌≡◌, ℕ, zero, suc, ◌≤◌, ◌⊎◌, ◌∙◌, ap, sym, refl, inl, inr, subst, arith}
use Rattle.md_top.specs.declared.stop.Status.{Status}
use Rattle.md_top.specs.declared.stop.Status.TheVariants.{Done, Rejected, Usage, BadInput, ReadFault, WriteFault, Memory, TooLong}
use Rattle.md_top.specs.Status.{exit_number}
use Rattle.md_run_tests.proofs.clients.number_of_run.Goals as goal

-- the number of a status tells the status
status_at : ℕ → Status
status_at zero = Done
status_at (suc zero) = Rejected
status_at (suc (suc zero)) = Usage
status_at (suc (suc (suc zero))) = BadInput
status_at (suc (suc (suc (suc zero)))) = ReadFault
status_at (suc (suc (suc (suc (suc zero))))) = WriteFault
status_at (suc (suc (suc (suc (suc (suc zero)))))) = Memory
status_at (suc (suc (suc (suc (suc (suc (suc n))))))) = TooLong

at_number : (s : Status) → status_at (exit_number s) ≡ s
unfolding status_at
at_number Done = refl
at_number Rejected = refl
at_number Usage = refl
at_number BadInput = refl
at_number ReadFault = refl
at_number WriteFault = refl
at_number Memory = refl
at_number TooLong = refl

same_status : (s t : Status) → exit_number s ≡ exit_number t → s ≡ t
same_status s t is = sym (at_number s) ∙ ap status_at is ∙ at_number t

whole_below_two : (s : Status) → exit_number s ≤ 1 → (s ≡ Done) ⊎ (s ≡ Rejected)
whole_below_two Done few = inl refl
whole_below_two Rejected few = inr refl
whole_below_two Usage few = absurd (omega (arith, few))
whole_below_two BadInput few = absurd (omega (arith, few))
whole_below_two ReadFault few = absurd (omega (arith, few))
whole_below_two WriteFault few = absurd (omega (arith, few))
whole_below_two Memory few = absurd (omega (arith, few))
whole_below_two TooLong few = absurd (omega (arith, few))

few_numbers : (s : Status) → exit_number s ≤ 7
few_numbers Done = omega arith
few_numbers Rejected = omega arith
few_numbers Usage = omega arith
few_numbers BadInput = omega arith
few_numbers ReadFault = omega arith
few_numbers WriteFault = omega arith
few_numbers Memory = omega arith
few_numbers TooLong = omega arith

pub returns-clause-all : goal.returns-clause-all
returns-clause-all g c = subst (λ n. n ≤ 7) (sym c.number.ensures) (few_numbers c.run.result)

pub returns-clause-usage : goal.returns-clause-usage
returns-clause-usage g c = (
  λ is. c.run.ensures.usage.0 (same_status c.run.result Usage (sym c.number.ensures ∙ is)),
  λ none. c.number.ensures ∙ ap exit_number (c.run.ensures.usage.1 none),
)

pub returns-clause-good_input : goal.returns-clause-good_input
returns-clause-good_input g c = λ few.
    c.run.ensures.good_input (elim (whole_below_two c.run.result (subst (λ n. n ≤ 1) c.number.ensures few)) [ inl done ↦ inl done | inr rejected ↦ inr (inl rejected) ])

pub returns-clause-flushed : goal.returns-clause-flushed
returns-clause-flushed g c = λ few. c.run.ensures.flushed (whole_below_two c.run.result (subst (λ n. n ≤ 1) c.number.ensures few))

pub returns-clause-rejected : goal.returns-clause-rejected
returns-clause-rejected g c = λ is. c.run.ensures.rejected (same_status c.run.result Rejected (sym c.number.ensures ∙ is))

pub returns-clause-bad_input : goal.returns-clause-bad_input
returns-clause-bad_input g c = λ is. c.run.ensures.bad_input (same_status c.run.result BadInput (sym c.number.ensures ∙ is))

pub returns-clause-read_fault : goal.returns-clause-read_fault
returns-clause-read_fault g c = λ is. c.run.ensures.read_fault (same_status c.run.result ReadFault (sym c.number.ensures ∙ is))

pub returns-clause-write_fault : goal.returns-clause-write_fault
returns-clause-write_fault g c = λ is. c.run.ensures.write_fault (same_status c.run.result WriteFault (sym c.number.ensures ∙ is))

pub returns-clause-too_long : goal.returns-clause-too_long
returns-clause-too_long g c = λ is. c.run.ensures.too_long (same_status c.run.result TooLong (sym c.number.ensures ∙ is))
