use Rattle.std.proofs.Common.{rules, ◌≡◌, ℕ, ◌-◌, ◌*◌, subst, arith, sym}
use Rattle.md_graph6.specs.Short.{IsUnread}
use Rattle.md_graph6.proofs.ShortLemmas.{placed}
use Rattle.md_digraph6.proofs.ArcFill.{row_member, row_no_loop, rows_absent, rows_vertex, row_added, row_few, next_row}
use Rattle.md_digraph6.proofs.body.fill_short.Goals as goal

pub with_bits-unread-requires-clause-few : goal.with_bits-unread-requires-clause-few
with_bits-unread-requires-clause-few g c = row_few c.loop-i-test.true c.requires.short c.loop-i.invariant.room c.loop-i.invariant.unread

pub with_bits-unread-requires-clause-unread : goal.with_bits-unread-requires-clause-unread
with_bits-unread-requires-clause-unread g c =
    subst (λ (p : ℕ). IsUnread c.args.body.now p c.loop-i.unread.bits c.loop-i.unread.held c.loop-i.unread.at) (placed c.loop-i.invariant.unread) c.loop-i.invariant.unread

pub short_row-row-requires : goal.short_row-row-requires
short_row-row-requires g c =
    let here : c.loop-i.i * c.args.n ≡ 6 * c.loop-i.unread.at - c.loop-i.unread.held = placed c.loop-i.invariant.unread in
    let read : IsUnread c.args.body.now (c.loop-i.i * c.args.n) c.with_bits-unread.result.bits c.with_bits-unread.result.held c.with_bits-unread.result.at =
    subst (λ (p : ℕ). IsUnread c.args.body.now p c.with_bits-unread.result.bits c.with_bits-unread.result.held c.with_bits-unread.result.at) (sym here) c.with_bits-unread.ensures.unread in
    (search rules, (search rules, (omega (arith, c.loop-i-test.true), (c.requires.short, (c.requires.room, (c.with_bits-unread.ensures.enough, read))))))

pub add_arcs-requires : goal.add_arcs-requires
add_arcs-requires g c =
    let rows = c.loop-i.invariant.rows in
    let row = c.short_row-row.ensures in (
      search rules,
      (
        search rules,
        (
          rows_vertex c.args.body.now c.args.n c.loop-i.i c.loop-i.graph rows c.loop-i.i (omega (arith, c.loop-i-test.true)),
          (
            λ v member. rows_vertex c.args.body.now c.args.n c.loop-i.i c.loop-i.graph rows v (row_member c.args.body.now c.args.n c.loop-i.i c.short_row-row.result row v member),
            (
              row_no_loop c.args.body.now c.args.n c.loop-i.i c.short_row-row.result (omega (arith, c.loop-i-test.true)) c.requires.no_loop row,
              rows_absent c.args.body.now c.args.n c.loop-i.i c.loop-i.graph rows,
            ),
          ),
        ),
      ),
    )

pub behind_bits-unread-requires-clause-unread : goal.behind_bits-unread-requires-clause-unread
behind_bits-unread-requires-clause-unread g c =
    subst (λ (p : ℕ). IsUnread c.args.body.now p c.with_bits-unread.result.bits c.with_bits-unread.result.held c.with_bits-unread.result.at)
    (placed c.with_bits-unread.ensures.unread) c.with_bits-unread.ensures.unread

pub loop-i-preserved : goal.loop-i-preserved
loop-i-preserved g c =
    let here : c.loop-i.i * c.args.n ≡ 6 * c.loop-i.unread.at - c.loop-i.unread.held = placed c.loop-i.invariant.unread in
    let read : IsUnread c.args.body.now (c.loop-i.i * c.args.n) c.with_bits-unread.result.bits c.with_bits-unread.result.held c.with_bits-unread.result.at =
    subst (λ (p : ℕ). IsUnread c.args.body.now p c.with_bits-unread.result.bits c.with_bits-unread.result.held c.with_bits-unread.result.at) (sym here) c.with_bits-unread.ensures.unread in
    record {
      unread = next_row c.args.n c.loop-i.i (placed read) c.behind_bits-unread.ensures.unread;
      room = omega (arith, c.behind_bits-unread.ensures.held, c.with_bits-unread.ensures.room);
      rows = row_added c.args.body.now c.args.n c.loop-i.i c.loop-i.graph c.add_arcs.new.graph c.short_row-row.result c.loop-i.invariant.rows c.short_row-row.ensures c.add_arcs.ensures;
    }
