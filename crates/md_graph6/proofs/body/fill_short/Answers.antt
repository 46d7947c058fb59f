use Rattle.std.proofs.Common.{◌≡◌, ℕ, ◌+◌, ◌-◌, ◌*◌, subst, sym, arith}
use Rattle.md_graph6.specs.Bits.{pair_number}
use Rattle.md_graph6.specs.Short.{IsUnread}
use Rattle.md_graph6.proofs.ShortLemmas.{placed, column_few, next_column, filled_column}
use Rattle.md_graph6.proofs.body.fill_short.Goals as goal

pub with_bits-unread-requires-clause-few : goal.with_bits-unread-requires-clause-few
with_bits-unread-requires-clause-few g c =
    column_few (omega (arith, c.requires.short, c.loop-j-test.true)) c.loop-j.invariant.room c.loop-j.invariant.unread

pub with_bits-unread-requires-clause-unread : goal.with_bits-unread-requires-clause-unread
with_bits-unread-requires-clause-unread g c =
    subst (λ (p : ℕ). IsUnread c.args.body.now p c.loop-j.unread.bits c.loop-j.unread.held c.loop-j.unread.at) (placed c.loop-j.invariant.unread) c.loop-j.invariant.unread

pub loop-j-preserved : goal.loop-j-preserved
loop-j-preserved g c =
    let here : pair_number 0 c.loop-j.j ≡ 6 * c.loop-j.unread.at - c.loop-j.unread.held = placed c.loop-j.invariant.unread in
    let read : IsUnread c.args.body.now (pair_number 0 c.loop-j.j) c.with_bits-unread.result.bits c.with_bits-unread.result.held c.with_bits-unread.result.at =
    subst (λ (p : ℕ). IsUnread c.args.body.now p c.with_bits-unread.result.bits c.with_bits-unread.result.held c.with_bits-unread.result.at) (sym here) c.with_bits-unread.ensures.unread in
    let next : 6 * c.with_bits-unread.result.at - c.with_bits-unread.result.held + c.loop-j.j ≡ pair_number 0 (c.loop-j.j + 1) = next_column c.loop-j.j (placed read) in
    record {
      unread = subst (λ (p : ℕ). IsUnread c.args.body.now p c.behind_bits-unread.result.bits c.behind_bits-unread.result.held c.behind_bits-unread.result.at) next c.behind_bits-unread.ensures.unread;
      room = omega (arith, c.behind_bits-unread.ensures.held, c.with_bits-unread.ensures.room);
      filled = filled_column c.loop-j.invariant.filled read c.with_bits-unread.ensures.enough c.add_column.ensures;
    }
