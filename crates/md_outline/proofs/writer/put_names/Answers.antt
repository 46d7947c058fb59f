use Rattle.std.proofs.Common.{◌+◌, ◌-◌, [], ◌∷◌, ◌++◌, length, drop, refl, ap, ◌∙◌, subst, arith}
use Rattle.md_text.specs.Pieces.{piece_text}
use Rattle.md_outline.specs.BegunNodes.{IsOnWay}
use Rattle.md_outline.proofs.Writing.{name_next, marked_name, name_below}
use Rattle.md_outline.proofs.writer.put_names.Goals as goal

pub bounds-numerals-name : goal.bounds-numerals-name
bounds-numerals-name c =
    name_below (length c.args.numerals.now) c.args.parts.now _ c.loop-name.next c.in-Some-next_name.name c.requires.below c.in-Some-next_name.ensures.name

pub loop-name-preserved : goal.loop-name-preserved
loop-name-preserved c =
    let node = c.loop-name.node in
    let text = c.loop-name.text.items ++ c.loop-name.chunk in
    let held = c.loop-name.heads.items in
    let within = name_below (length c.args.numerals.now) c.args.parts.now _ c.loop-name.next c.in-Some-next_name.name c.requires.below c.in-Some-next_name.ensures.name in
    let some = c.in-Some-next_name.ensures.left in
    let room = c.loop-name.invariant.room in
    let on = c.loop-name.invariant.on in
    let len = c.push_reserved.ensures.len in
    let capacity = c.push_reserved.ensures.capacity in
    record {
      written = λ e s whole outer way.
          name_next e s whole text (c.put_two.new.target.items ++ c.put_two.new.chunk) (drop (c.loop-name.next + 1) c.args.parts.now) outer node (record node { left = node.left - 1; mark = 44 }) held c.push_reserved.new.self.items c.in-Some-next_name.name some refl
          (marked_name text _ _ _ c.loop-name.node.mark c.in-Some-next_name.name c.in_ok-put_two.ensures.put c.byte_piece.ensures (ap piece_text c.index-numerals-name.is ∙ c.requires.numerals.text c.in-Some-next_name.name c.index-numerals-name.result within)) c.push_reserved.ensures.items
          (subst (λ l. IsOnWay e s whole text l (outer ++ node ∷ []) held) c.in-Some-next_name.ensures.name (c.loop-name.invariant.written e s whole outer way));
      on = omega arith;
      room = omega arith;
    }
