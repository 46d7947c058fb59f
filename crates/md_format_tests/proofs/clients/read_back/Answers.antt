use Rattle.std.specs.Bool.{OnTrue, OnFalse}
use Rattle.std.proofs.Common.{◌≡◌, ◌∙◌, Bool, true, false, List, [], ◌∷◌, sym, ap, subst, None, arith}
use Rattle.md_graph.specs.declared.TheConstants.{NAMES}
use Rattle.md_graph.specs.PlainGraph.{PlainGraph}
use Rattle.md_graph6.specs.File.{first_fault, graphs_of}
use Rattle.md_format_tests.proofs.clients.read_back.Goals as goal

-- the first of one graph alone is that graph
only_one : (some : Bool) (all rest : List PlainGraph) (first g : PlainGraph) → OnTrue some (all ≡ first ∷ rest) → OnFalse some (all ≡ []) → all ≡ g ∷ [] → first ≡ g
only_one true all rest first g is none one = let e : first ∷ rest ≡ g ∷ [] = sym is ∙ one in cc
only_one false all rest first g is none one = absurd (let f : [] ≡ g ∷ [] = sym none ∙ one in cc)

pub new-requires-2 : goal.new-requires-2
new-requires-2 g c = (NAMES, omega arith, subst (λ bytes. first_fault NAMES bytes ≡ None) (sym c.deref.ensures.value) c.in_ok-text.ensures.no_fault)

pub returns : goal.returns
returns g c = record {
  same = only_one c.next.result c.new-2.result c.next.new.self c.next.new.graph _ c.next.ensures.first c.next.ensures.none (c.new-2.ensures ∙ ap graphs_of c.deref.ensures.value ∙ c.in_ok-text.ensures.graphs);
}
