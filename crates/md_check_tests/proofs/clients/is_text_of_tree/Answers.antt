use Rattle.std.specs.Prelude.{IfOk, IsTrue, ◌↔◌, Option}
use Rattle.std.proofs.Common.{◌≡◌, ◌∙◌, ℕ, List, Bool, true, false, Result, Ok, Err, sym, subst, inl, inr}
use Rattle.md_graph.specs.PlainGraph.{PlainGraph, IsGraph, adjacent}
use Rattle.md_graph.specs.declared.TheConstants.{NAMES}
use Rattle.md_modules.proofs.Turns.{graph_adjacency}
use Rattle.md_tree.specs.Plain.{plain_option}
use Rattle.md_tree.specs.Trees.{PlainTree}
use Rattle.md_tree.specs.TreeTexts.{text_of}
use Rattle.md_tree.specs.StrongTrees.{IsTree}
use Rattle.md_tree.specs.Reading.{IsTreeReading}
use Rattle.md_tree.specs.declared.reader.TreeFault.{TreeFault}
use Rattle.md_tree.specs.declared.reader.TreeFault.TheVariants.{Memory}
use Rattle.md_tree.proofs.Spelled.{graph_law}
use Rattle.md_tree.proofs.Texts.{one_text_proof}
use Rattle.md_tree.proofs.OneTree.{well_formed_proof}
use Rattle.md_tree.proofs.ReadBack.{read_back_proof}
use Rattle.md_check_tests.proofs.clients.is_text_of_tree.Goals as goal

told_as : {E : Type 0} {A B : Type 0} (r : Result Bool E) → (A ↔ B) → IfOk r (λ fit. IsTrue fit ↔ A) → IfOk r (λ fit. IsTrue fit ↔ B)
told_as (Ok fit) both is = ((λ f. both.0 (is.0 f)), λ b. is.1 (both.1 b))
told_as (Err e) both is = tt

-- the text of the tree of a graph is refused for want of memory alone
module _ (g : PlainGraph) (is : IsGraph g) (text : List ℕ) where
  refused : (fault : TreeFault) → IsTreeReading text (Err fault) → (t : Option PlainTree) × IsTree (adjacent g) g.vertices t × (text ≡ text_of t) → fault ≡ Memory
  refused fault reading w =
      let good = well_formed_proof (adjacent g) (graph_adjacency is) g.vertices w.0 w.1 is.names in
      elim (read_back_proof graph_law NAMES w.0 good (Err fault) (subst (λ b. IsTreeReading b (Err fault)) w.2 reading)) [
        | inl read ↦ absurd (let no = read.1 in cc)
        | inr memory ↦ cc
      ]

pub returns-in-Ok : goal.returns-in-Ok
returns-in-Ok g c =
    let graph = c.args.graph.now in
    let tree = plain_option c.in-Ok.tree in
    let text = c.in-Ok.ensures.reading.1 in
    record {
      told = told_as c.fits.result
          ((λ is. (tree, is, text)), λ w. subst (IsTree (adjacent graph) graph.vertices) (one_text_proof graph_law w.0 tree (sym w.2 ∙ text)) w.1)
          c.fits.ensures;
    }

pub returns-in-Err-Syntax : goal.returns-in-Err-Syntax
returns-in-Err-Syntax g c = record {
  told = (
    λ f. absurd (let no : false ≡ true = f in cc),
    λ w. absurd (
        let memory = refused c.args.graph.now c.vertices-vertices.ensures.graph c.args.text.now c.in-Err-Syntax.field-0 c.in-Err-Syntax.ensures.reading w in
        let fault = c.in-Err-Syntax.field-0-is in
        cc
        ),
  );
}

pub returns-in-Err-NotCanonical : goal.returns-in-Err-NotCanonical
returns-in-Err-NotCanonical g c = record {
  told = (
    λ f. absurd (let no : false ≡ true = f in cc),
    λ w. absurd (
        let memory = refused c.args.graph.now c.vertices-vertices.ensures.graph c.args.text.now c.in-Err-NotCanonical.field-0 c.in-Err-NotCanonical.ensures.reading w in
        let fault = c.in-Err-NotCanonical.field-0-is in
        cc
        ),
  );
}
