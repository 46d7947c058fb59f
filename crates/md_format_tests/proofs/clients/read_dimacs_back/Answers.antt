use Rattle.std.proofs.Common.{◌≡◌, ◌∙◌, None, sym, subst}
use Rattle.md_graph.specs.declared.TheConstants.{NAMES}
use Rattle.md_dimacs.specs.Text.{dimacs_text, IsRenamed}
use Rattle.md_dimacs.specs.File.{Spells, first_fault}
use Rattle.md_dimacs.proofs.Renamed.{text_is_read}
use Rattle.md_format_tests.proofs.clients.read_dimacs_back.Goals as goal

pub unreachable-requires : goal.unreachable-requires
unreachable-requires g c =
    let graph = c.args.graph.now in
    let law = text_is_read graph c.vertices-vertices.ensures.graph c.requires.fewer in
    let bytes : c.deref.result.now ≡ dimacs_text graph = c.deref.ensures.value ∙ c.in_ok-text.ensures in
    let none : first_fault NAMES c.deref.result.now ≡ None = subst (λ b. first_fault NAMES b ≡ None) (sym bytes) law.faultless in
    let fault = c.in-Err.ensures.fault in
    cc

pub returns : goal.returns
returns g c =
    let graph = c.args.graph.now in
    let law = text_is_read graph c.vertices-vertices.ensures.graph c.requires.fewer in
    let bytes : c.deref.result.now ≡ dimacs_text graph = c.deref.ensures.value ∙ c.in_ok-text.ensures in
    let spells = subst (λ b. Spells NAMES b c.read.new.graph) bytes c.in-Ok.ensures.spells in
    record { renamed = subst (IsRenamed graph) (sym (law.spelled.only c.read.new.graph spells)) law.renamed }
