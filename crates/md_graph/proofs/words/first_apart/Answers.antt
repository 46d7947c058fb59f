use Rattle.md_graph.proofs.BitWords.{apart_found, apart_more}
use Rattle.md_graph.proofs.words.first_apart.Goals as goal

pub returns-then-apart-ne0-clause-found : goal.returns-then-apart-ne0-clause-found
returns-then-apart-ne0-clause-found c =
    let found = apart_found c.args.words.now c.args.first.now c.args.second.now c.loop-i.i c.args.used c.loop-i-test.true c.if-apart-ne0.true (c.type_inv.words c.loop-i.i).fits c.loop-i.invariant in
    (found.within, found.here, found.first)

pub loop-i-preserved : goal.loop-i-preserved
loop-i-preserved c = apart_more c.args.words.now c.args.first.now c.args.second.now c.loop-i.i c.if-apart-ne0.false c.loop-i.invariant
