use Rattle.std.proofs.Common.{◌≡◌, ◌+◌, arith, length-set, ◌∙◌, ap, refl, sym}
use Rattle.md_graph6.specs.Bits.{pair_number}
use Rattle.md_graph6.proofs.FillLemmas.{part_none, part_more, part_all}
use Rattle.md_graph6.proofs.ShortLemmas.{next_column}
use Rattle.md_graph6.proofs.body.block_bits.Goals as goal

pub loop-r-init : goal.loop-r-init
loop-r-init c = record { size = refl; place = c.column_place-place.ensures ∙ ap (pair_number 0) (omega arith); done = part_none c.args.body.now c.args.n c.args.low c.args.high 64 }

pub loop-r-preserved : goal.loop-r-preserved
loop-r-preserved c = record {
  size = length-set _ _ _ ∙ c.loop-r.invariant.size;
  place =
      let next : (c.args.high + c.loop-r.r) + 1 ≡ c.args.high + (c.loop-r.r + 1) = omega arith in
      next_column (c.args.high + c.loop-r.r) (sym c.loop-r.invariant.place) ∙ ap (pair_number 0) next;
  done = part_more c.args.body.now c.args.n c.args.low c.args.high c.loop-r.block c.loop-r.r c.column_bits.result (omega (arith, c.loop-r.invariant.size)) c.loop-r.invariant.done c.column_bits.ensures;
}

pub returns : goal.returns
returns c = part_all c.args.body.now c.args.n c.args.low c.args.high c.loop-r.block c.loop-r.r c.requires.inside (omega arith) c.loop-r.invariant.done
