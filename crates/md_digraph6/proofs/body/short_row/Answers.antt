use Rattle.md_digraph6.proofs.ArcFill.{word_row}
use Rattle.md_digraph6.proofs.body.short_row.Goals as goal

pub returns : goal.returns
returns g c =
    word_row c.args.body.now c.args.n c.args.i c.args.unread.bits c.args.unread.held c.args.unread.at c.low_bits.result c.none-row.result c.insert_block.new.self
    c.none-row.ensures.value c.insert_block.ensures.changed c.requires.short c.requires.enough c.requires.unread c.low_bits.ensures
