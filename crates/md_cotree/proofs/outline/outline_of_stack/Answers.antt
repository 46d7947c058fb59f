use Rattle.std.proofs.Common.{ap, length, length-append, ◌∷◌, [], sym, ◌∙◌, arith}
use Rattle.std.proofs.lemmas.List.{nil_from_length}
use Rattle.md_cotree.proofs.EntryTrees.{read_begin, next_fits, read_more, read_few, read_end}
use Rattle.md_cotree.proofs.outline.outline_of_stack.Goals as goal

pub loop-next-init : goal.loop-next-init
loop-next-init c = read_begin _ _ _ c.requires _ c.in_ok-parts.ensures.items

pub push_entries_below-requires : goal.push_entries_below-requires
push_entries_below-requires c = next_fits _ _ _ c.requires _ _ _ _ _ c.in-Some.ensures.items c.loop-next.invariant

pub loop-next-preserved : goal.loop-next-preserved
loop-next-preserved c =
    read_more _ _ _ c.requires _ _ _ _ _ c.in-Some.ensures.items c.loop-next.invariant _ _ c.in_ok-push.ensures.items c.in_ok-push_entries_below.ensures

pub loop-next-smaller : goal.loop-next-smaller
loop-next-smaller c =
    let so = read_more _ _ _ c.requires _ _ _ _ _ c.in-Some.ensures.items c.loop-next.invariant _ _ c.in_ok-push.ensures.items c.in_ok-push_entries_below.ensures in
    let low = read_few _ _ _ c.requires _ _ _ so in
    let more = ap length c.in_ok-push.ensures.items in
    let all = length-append c.loop-next.parts.items (c.in-Some.next.part ∷ []) in
    omega arith

pub returns : goal.returns
returns c = read_end _ _ _ c.requires _ _ c.loop-next.waiting.items (nil_from_length c.loop-next.waiting.items (sym c.loop-next.waiting.ok.0 ∙ c.in_default.ensures.cases.0)) c.loop-next.invariant
