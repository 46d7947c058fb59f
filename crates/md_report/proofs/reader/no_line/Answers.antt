use Rattle.std.proofs.lemmas.Option.{MatchOption-at_none}
use Rattle.md_report.proofs.Behind.{reads_on, no_piece_no, word_no, word_whole, chain_no}
use Rattle.md_report.proofs.reader.no_line.Goals as goal

pub returns-in_default : goal.returns-in_default
returns-in_default c = no_piece_no c.args.rest.now c.in_default.ensures

pub returns-in-Some-refusal_word : goal.returns-in-Some-refusal_word
returns-in-Some-refusal_word c =
    reads_on _ _ _ _ (word_whole c.args.rest.now _ _ _ c.in-Some.ensures c.in-Some-refusal_word.ensures)
    (word_no c.args.rest.now _ _ _ c.in-Some.ensures c.in-Some-refusal_word.ensures) _ c.refusal_line.ensures

pub returns-in-None : goal.returns-in-None
returns-in-None c =
    chain_no c.args.rest.now _ _ c.in-Some.ensures c.in_default-refusal_word.ensures (MatchOption-at_none _ _ c.in-None.is c.in_ok-chain.ensures)
