use Rattle.std.proofs.Common.{◌≡◌, ◌*◌, ℕ, refl, subst}
use Rattle.md_digraph.specs.declared.TheConstants.{DIRECTED_NAMES, DIRECTED_WORDS}
use Rattle.md_tree.specs.Reading.{IsTreeReadingBelow}
use Rattle.md_dtree.specs.DirectedSpelling.{directed_spelling}
use Rattle.md_dtree.proofs.texts.read_directed.Goals as goal

-- the rows of the largest directed graphs have one bit a name
bits : 64 * DIRECTED_WORDS ≡ DIRECTED_NAMES
bits = refl

pub returns : goal.returns
returns c = record {
  reading = subst (λ (limit : ℕ). IsTreeReadingBelow directed_spelling limit c.args.bytes.now c.read_tree_of.result) bits c.read_tree_of.ensures.reading;
}
