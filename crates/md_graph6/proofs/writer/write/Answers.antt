-- The bytes of the line, and what they are as a file.
use Rattle.std.proofs.Common.{◌≡◌, [], ◌∷◌, ◌++◌, length, take, drop, ap, ◌∙◌, rules, arith}
use Rattle.std.proofs.lemmas.Grind.{common_steps}
use Rattle.md_graph6.specs.Bits.{body_length}
use Rattle.md_graph6.specs.Size.{size_text}
use Rattle.md_graph6.proofs.ByteLemmas.{line_written}
use Rattle.md_graph6.proofs.WriteLemmas.{blank_written, whole_back, size_kept, body_kept, SpellsLine-written}
use Rattle.md_graph6.proofs.FileLemmas.{text_spells, text_sound}
use Rattle.md_graph6.proofs.writer.write.Goals as goal

pub put_behind-requires : goal.put_behind-requires
put_behind-requires g c =
    let line = c.as_mut_slice.ensures.value ∙ c.in_ok-text.ensures.items in
    let blank = blank_written _ c.args.graph.now _ _ _ line c.size_length-size.ensures in
    (search rules, (c.shape-n.ensures.count, (c.shape-n.ensures.consecutive, (grind (arith, common_steps), (blank, grind (arith, common_steps))))))

pub returns-clause-bytes : goal.returns-clause-bytes
returns-clause-bytes g c =
    let line = c.put_behind.new.line in
    let items = c.in_ok-text.text.items in
    let size = c.size_length-size.result in
    let n = c.shape-n.result.0 in
    let same : length line ≡ length items = c.put_behind.auto.line ∙ ap length c.as_mut_slice.ensures.value in
    let begins : take size line ≡ size_text n =
    size_kept line items _ size n (body_length n) c.put_behind.ensures.size c.as_mut_slice.ensures.value c.in_ok-text.ensures.items c.size_length-size.ensures in
    let long : length (drop size line) ≡ body_length n =
    body_kept line items size n (body_length n) same c.in_ok-text.ensures.items c.size_length-size.ensures in
    c.push_reserved.ensures.items ∙ ap (λ s. s ++ 10 ∷ []) (whole_back line items c.in_ok-text.text.len same c.in_ok-text.text.ok.0)
    ∙ line_written line c.args.graph.now size n c.shape-n.ensures.count begins long c.put_behind.ensures.body

pub returns-clause-text : goal.returns-clause-text
returns-clause-text g c =
    let line = c.put_behind.new.line in
    let items = c.in_ok-text.text.items in
    let size = c.size_length-size.result in
    let n = c.shape-n.result.0 in
    let same : length line ≡ length items = c.put_behind.auto.line ∙ ap length c.as_mut_slice.ensures.value in
    record {
      line = line;
      ended = c.push_reserved.ensures.items ∙ ap (λ s. s ++ 10 ∷ []) (whole_back line items c.in_ok-text.text.len same c.in_ok-text.text.ok.0);
      spells =
          SpellsLine-written line size n c.args.graph.now c.shape-n.ensures.count
          (size_kept line items _ size n (body_length n) c.put_behind.ensures.size c.as_mut_slice.ensures.value c.in_ok-text.ensures.items c.size_length-size.ensures)
          (body_kept line items size n (body_length n) same c.in_ok-text.ensures.items c.size_length-size.ensures)
          c.put_behind.ensures.body;
    }

pub returns-clause-spells : goal.returns-clause-spells
returns-clause-spells g c = text_spells _ _ (returns-clause-text g c)

pub returns-clause-no_fault : goal.returns-clause-no_fault
returns-clause-no_fault g c = (text_sound (returns-clause-text g c)).0

pub returns-clause-graphs : goal.returns-clause-graphs
returns-clause-graphs g c = (text_sound (returns-clause-text g c)).1
