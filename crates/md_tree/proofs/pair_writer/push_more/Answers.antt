use Rattle.std.proofs.Common.{◌≡◌, ◌++◌, ◌∷◌, refl, subst}
use Rattle.std.proofs.lemmas.List.{get_or_read_under}
use Rattle.md_text.specs.Numbers.{decimal}
use Rattle.md_tree.proofs.Written.{run_written, begins_on}
use Rattle.md_tree.proofs.pair_writer.push_more.Goals as goal

pub loop-place-preserved : goal.loop-place-preserved
loop-place-preserved g c =
    let rules = g.P.Paired.rules in
    let d = rules.pair 0 0 in
    record {
      begun = begins_on c.loop-place.invariant.begun c.put_pair.ensures.begun;
      start = c.put_pair.ensures.start;
      inside = c.put_run-place.ensures.place;
      written =
          run_written rules c.args.pairs.now c.loop-place.place c.put_run-place.result d c.loop-place.text.items c.loop-place.chunk c.put_pair.new.text.items
          c.put_pair.new.chunk c.put_run-place.new.chunk _ c.loop-place-test.true c.loop-place.invariant.written
          (subst (λ p. c.put_pair.new.text.items ++ c.put_pair.new.chunk ≡ (c.loop-place.text.items ++ c.loop-place.chunk) ++ 44 ∷ (decimal (rules.first p) ++ rules.between ∷ decimal (rules.second p)))
          (get_or_read_under c.args.pairs.now c.loop-place.place _ _ d c.index-pairs-place.is c.loop-place-test.true refl) c.in_ok-put_pair.ensures.written)
          c.put_run-place.ensures.written;
    }
