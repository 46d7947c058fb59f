use Rattle.std.proofs.Common.{◌∙◌, arith}
use Rattle.std.specs.Prelude.{IsTrue}
use Rattle.md_tree.proofs.Numerals.{lacks_semicolon, lacks_pairs, lacks_listed, to_listed}
use Rattle.md_tree.proofs.pair_reader.read_listing_end.Goals as goal

pub returns-in_default : goal.returns-in_default
returns-in_default g c =
    let law = g.met.P.Paired.laws in
    lacks_semicolon law c.args.count c.args.text.now c.in_default.ensures.other

pub returns-in-None : goal.returns-in-None
returns-in-None g c =
    let law = g.met.P.Paired.laws in
    lacks_pairs law c.args.count c.args.text.now c.in-Ok.behind.now c.requires c.in-Ok.ensures.on
    (let e = c.in-None.is in let p = c.in_ok-pairs.ensures in rw e at p)

pub returns-then-not-listed : goal.returns-then-not-listed
returns-then-not-listed g c =
    let law = g.met.P.Paired.laws in
    let e = c.in-Some.is in let p = c.in_ok-pairs.ensures in let q = rw e at p in
    lacks_listed law c.args.count c.args.text.now c.in-Ok.behind.now c.in-Some.tail.now c.in-Some.pairs.items c.in-Ok.ensures.on q.2
    (λ l. let m = q.1.1 l in let f = c.if-not-listed.true in grind arith)

pub returns-else-not-listed : goal.returns-else-not-listed
returns-else-not-listed g c =
    let law = g.met.P.Paired.laws in
    let e = c.in-Some.is in let p = c.in_ok-pairs.ensures in let q = rw e at p in
    let yes : IsTrue c.in-Some.listed = (let f = c.if-not-listed.false in grind arith) in
    (to_listed law c.args.count c.in-Some.pairs.items (q.1.0 yes) q.0, c.in-Ok.ensures.on ∙ q.2)
