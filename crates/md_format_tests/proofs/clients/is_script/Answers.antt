use Rattle.std.specs.Prelude.{IfOk, IsTrue, ◌↔◌, List}
use Rattle.std.proofs.Common.{◌≡◌, ℕ, true, false, Some, refl, sym, subst}
use Rattle.md_script.specs.declared.item.Item.{Item}
use Rattle.md_script.specs.File.{SpellsScript, FaultyLine, first_fault}
use Rattle.md_script.specs.Read.{IsFaultOf}
use Rattle.md_script.proofs.FileLemmas.{script_has_no_fault}
use Rattle.md_format_tests.proofs.clients.is_script.Goals.{in-Ok, in-Err-Bad, in-Err-Memory}
use Rattle.md_format_tests.proofs.clients.is_script.Goals as goal

faulty_spells_none : (bytes : List ℕ) (items : List Item) → SpellsScript bytes items → (fault : FaultyLine) → first_fault bytes ≡ Some fault → ⊥
faulty_spells_none bytes items spells fault is = let none = script_has_no_fault bytes items spells in cc

pub returns : goal.returns
returns c =
    let bytes = c.args.bytes.now in
    record {
      spelled = elim c.match-read_script.branch [
        | in-Ok w ↦ subst (λ r. IfOk r (λ is. IsTrue is ↔ ((items : List Item) × SpellsScript bytes items))) (sym w.result-is) ((λ is. (w.in-Ok.field-0, w.in-Ok.ensures.spells)), λ s. refl)
        | in-Err-Bad w ↦ subst (λ r. IfOk r (λ is. IsTrue is ↔ ((items : List Item) × SpellsScript bytes items))) (sym w.result-is) ((λ f. absurd (let no : false ≡ true = f in cc)), λ s. absurd (faulty_spells_none bytes s.0 s.1 _ (subst (IsFaultOf bytes) w.in-Err-Bad.field-0-is w.in-Err-Bad.ensures.fault)))
        | in-Err-Memory w ↦ subst (λ r. IfOk r (λ is. IsTrue is ↔ ((items : List Item) × SpellsScript bytes items))) (sym w.result-is) tt
      ];
    }
