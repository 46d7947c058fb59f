use Rattle.std.proofs.Common.{◌/◌, ◌%◌, arith}
use Rattle.md_graph.proofs.FirstPlace.{first_found, first_more, whole_word}
use Rattle.md_graph.proofs.words.first_place.Goals as goal

pub returns-then-begun-ne0-clause-found : goal.returns-then-begun-ne0-clause-found
returns-then-begun-ne0-clause-found c =
    let found = first_found c.args.words.now c.args.from (c.args.from / 64) c.args.used (c.args.from % 64) _ (omega arith) c.if-begun-ne0.true c.from_place-begun.type_inv c.from_place-begun.ensures (λ j h. omega arith) (omega arith) (λ q h l. absurd (omega arith)) in
    (found.within, found.above, found.here, found.first)

pub returns-then-words-i-ne0-clause-found : goal.returns-then-words-i-ne0-clause-found
returns-then-words-i-ne0-clause-found c =
    let found = first_found c.args.words.now c.args.from c.loop-i.i c.args.used 0 _ c.loop-i-test.true c.if-words-i-ne0.true (c.type_inv.words c.loop-i.i).fits (whole_word c.args.words.now c.loop-i.i) (λ j h. absurd (omega arith)) (omega arith) c.loop-i.invariant in
    (found.within, found.above, found.here, found.first)

pub loop-i-init : goal.loop-i-init
loop-i-init c = first_more c.args.words.now c.args.from (c.args.from / 64) (c.args.from % 64) _ c.from_place-begun.ensures c.if-begun-ne0.false (λ j h. omega arith) (λ q h l. absurd (omega arith))

pub loop-i-preserved : goal.loop-i-preserved
loop-i-preserved c = first_more c.args.words.now c.args.from c.loop-i.i 0 _ (whole_word c.args.words.now c.loop-i.i) c.if-words-i-ne0.false (λ j h. absurd (omega arith)) c.loop-i.invariant
