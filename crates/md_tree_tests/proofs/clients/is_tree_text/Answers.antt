use Rattle.std.specs.Prelude.{IfOk, IsTrue, ◌↔◌, Option}
use Rattle.std.proofs.Common.{◌≡◌, ℕ, List, true, false, Err, refl, sym, subst, inl, inr}
use Rattle.md_graph.specs.declared.TheConstants.{NAMES}
use Rattle.md_tree.specs.Plain.{plain_option}
use Rattle.md_tree.specs.Trees.{PlainTree}
use Rattle.md_tree.specs.TreeTexts.{text_of}
use Rattle.md_tree.specs.WellFormed.{IsWellFormed}
use Rattle.md_tree.specs.Reading.{IsTreeReading}
use Rattle.md_tree.specs.declared.reader.TreeFault.{TreeFault}
use Rattle.md_tree.specs.declared.reader.TreeFault.TheVariants.{Memory}
use Rattle.md_tree.proofs.Spelled.{graph_law}
use Rattle.md_tree.proofs.ReadBack.{read_back_proof}
use Rattle.md_tree_tests.proofs.clients.is_tree_text.Goals.{in-Ok, in-Err-Syntax, in-Err-NotCanonical, in-Err-Memory}
use Rattle.md_tree_tests.proofs.clients.is_tree_text.Goals as goal

-- the text of a well-formed tree is refused for want of memory alone
refused : (bytes : List ℕ) (fault : TreeFault) → IsTreeReading bytes (Err fault) → (t : Option PlainTree) → IsWellFormed t → bytes ≡ text_of t → fault ≡ Memory
refused bytes fault reading t good is =
    elim (read_back_proof graph_law NAMES t good (Err fault) (subst (λ b. IsTreeReading b (Err fault)) is reading)) [
      | inl w ↦ absurd (let no = w.1 in cc)
      | inr e ↦ cc
    ]

pub returns : goal.returns
returns c =
    let bytes = c.args.bytes.now in
    record {
      told = elim c.match-read_tree.branch [
        | in-Ok w ↦ subst (λ r. IfOk r (λ is. IsTrue is ↔ ((t : Option PlainTree) × IsWellFormed t × (bytes ≡ text_of t)))) (sym w.result-is)
            ((λ is. (plain_option w.in-Ok.field-0, w.in-Ok.ensures.reading.0, w.in-Ok.ensures.reading.1)), λ s. refl)
        | in-Err-Syntax w ↦ subst (λ r. IfOk r (λ is. IsTrue is ↔ ((t : Option PlainTree) × IsWellFormed t × (bytes ≡ text_of t)))) (sym w.result-is) (
          (λ f. absurd (let no : false ≡ true = f in cc)),
          λ s. absurd (let memory = refused bytes w.in-Err-Syntax.field-0 w.in-Err-Syntax.ensures.reading s.0 s.1 s.2 in let fault = w.in-Err-Syntax.field-0-is in cc),
        )
        | in-Err-NotCanonical w ↦ subst (λ r. IfOk r (λ is. IsTrue is ↔ ((t : Option PlainTree) × IsWellFormed t × (bytes ≡ text_of t)))) (sym w.result-is) (
          (λ f. absurd (let no : false ≡ true = f in cc)),
          λ s. absurd (let memory = refused bytes w.in-Err-NotCanonical.field-0 w.in-Err-NotCanonical.ensures.reading s.0 s.1 s.2 in let fault = w.in-Err-NotCanonical.field-0-is in cc),
        )
        | in-Err-Memory w ↦ subst (λ r. IfOk r (λ is. IsTrue is ↔ ((t : Option PlainTree) × IsWellFormed t × (bytes ≡ text_of t)))) (sym w.result-is) tt
      ];
    }
