use Rattle.md_text.proofs.FrontLemmas.{empty_lacks_first, other_first}
use Rattle.md_tree.proofs.Numerals.{lacks_low, lacks_hyphen, lacks_high, lacks_mark}
use Rattle.md_tree.proofs.pair_reader.read_positions.Goals as goal

pub returns-in_err-first : goal.returns-in_err-first
returns-in_err-first g c = rw c.from_residual.ensures (lacks_low g.met.P.Paired.laws c.args.text.now c.in_err-first.ensures.number)

pub returns-in_default : goal.returns-in_default
returns-in_default g c = lacks_hyphen g.met.P.Paired.laws _ _ _ c.in_ok-first.ensures.number (rw c.between.ensures at c.in_default.ensures.other)

pub returns-in_err-second : goal.returns-in_err-second
returns-in_err-second g c =
    rw c.from_residual-in_err-second.ensures (lacks_high g.met.P.Paired.laws _ _ _ _ c.in_ok-first.ensures.number (rw c.between.ensures at c.in-Ok.ensures.on) c.in_err-second.ensures.number)

pub returns-in_err-mark : goal.returns-in_err-mark
returns-in_err-mark g c =
    rw c.from_residual-in_err-mark.ensures
    (lacks_mark g.met.P.Paired.laws _ _ _ _ _ _ c.in_ok-first.ensures.number (rw c.between.ensures at c.in-Ok.ensures.on) c.in_ok-second.ensures.number
    (empty_lacks_first 44 _ c.in_err-mark.ensures.cases) (empty_lacks_first 41 _ c.in_err-mark.ensures.cases))

pub returns : goal.returns
returns g c =
    lacks_mark g.met.P.Paired.laws _ _ _ _ _ _ c.in_ok-first.ensures.number (rw c.between.ensures at c.in-Ok.ensures.on) c.in_ok-second.ensures.number
    (other_first 44 _ _ _ c.in_ok-mark.ensures.cases.0 c.if-mark-eq44.false) (other_first 41 _ _ _ c.in_ok-mark.ensures.cases.0 c.if-mark-eq41.false)
