use Rattle.std.proofs.Common.{true, sym, subst, ap, ◌∙◌, ◌∷◌, ◌++◌}
use Rattle.std.specs.Prelude.{◌↔◌, IsTrue}
use Rattle.md_tree.specs.TreeTexts.{pairs_text_by}
use Rattle.md_tree.specs.Held.{no_pair, HasRead, AreListed}
use Rattle.md_tree.proofs.Numerals.{pair_read, pairs_whole, pairs_lack, pair_shorter, snoc_some, none_read, one_read, listed_more}
use Rattle.md_tree.proofs.pair_reader.read_pairs.Goals as goal

pub loop-first-init : goal.loop-first-init
loop-first-init g c =
    let rules = g.P.Paired.rules in let law = g.met.P.Paired.laws in
    subst (λ q. HasRead rules c.args.count c.args.text.now c.args.text.now c.new-pairs.result.items q true) (sym c.pair-last.ensures)
    (subst (λ ps. HasRead rules c.args.count c.args.text.now c.args.text.now ps (no_pair rules) true) (sym c.new-pairs.ensures.items) (none_read law c.args.count c.args.text.now))

pub returns-in_default : goal.returns-in_default
returns-in_default g c =
    let law = g.met.P.Paired.laws in
    pairs_lack law c.args.text.now c.loop-first.rest.now c.loop-first.pairs.items c.loop-first.invariant.pairs c.in_default.ensures

pub loop-first-preserved : goal.loop-first-preserved
loop-first-preserved g c =
    let rules = g.P.Paired.rules in let law = g.met.P.Paired.laws in
    let more = c.if-not-more.false in
    let n = c.args.count in
    let text = c.args.text.now in
    let now = c.still_listed-listed.result in
    let pair = c.pair-pair.result in
    let read = pair_read law c.loop-first.rest.now c.in-Some.tail.now c.in-Some.first c.in-Some.second c.in-Some.more pair c.pair-pair.ensures c.in-Some.ensures in
    subst (λ ps. HasRead rules n text c.in-Some.tail.now ps pair now) (sym c.in_ok-append.ensures)
    (one_read law n text c.loop-first.rest.now c.in-Some.tail.now c.loop-first.pairs.items c.loop-first.last pair c.loop-first.listed now c.loop-first.invariant (rw more at read) c.still_listed-listed.ensures)

pub loop-first-smaller : goal.loop-first-smaller
loop-first-smaller g c =
    let law = g.met.P.Paired.laws in
    pair_shorter law _ _ c.pair-pair.result c.in-Some.more
    (pair_read law c.loop-first.rest.now c.in-Some.tail.now c.in-Some.first c.in-Some.second c.in-Some.more c.pair-pair.result c.pair-pair.ensures c.in-Some.ensures)

pub returns-then-not-more : goal.returns-then-not-more
returns-then-not-more g c =
    let rules = g.P.Paired.rules in let law = g.met.P.Paired.laws in
    let more = c.if-not-more.true in
    let i = c.loop-first.invariant in
    let qs = c.loop-first.pairs.items in
    let now = c.still_listed-listed.result in
    let pair = c.pair-pair.result in
    let read = pair_read law c.loop-first.rest.now c.in-Some.tail.now c.in-Some.first c.in-Some.second c.in-Some.more pair c.pair-pair.ensures c.in-Some.ensures in (
      (λ e. snoc_some law qs pair (sym c.in_ok-append.ensures ∙ e)),
      subst (λ ps. IsTrue now ↔ AreListed rules c.args.count ps) (sym c.in_ok-append.ensures)
          (listed_more law c.args.count qs c.loop-first.last pair c.loop-first.listed now i.last_is i.may c.still_listed-listed.ensures),
      pairs_whole law c.args.text.now c.loop-first.rest.now c.in-Some.tail.now qs pair i.pairs (rw more at read)
          ∙ ap (λ w. pairs_text_by rules 59 w ++ 41 ∷ c.in-Some.tail.now) (sym c.in_ok-append.ensures),
    )
