use Rattle.std.proofs.Common.{◌-◌, ◌++◌, ◌∷◌, [], ◌∙◌, ap, get_or, take, arith}
use Rattle.md_outline.specs.declared.outline.OutlinePart.TheVariants.{Node}
use Rattle.md_cotree.specs.Entries.{entry_least}
use Rattle.md_cotree.proofs.Sorting.{falling_some}
use Rattle.md_cotree.proofs.EntryTrees.{node_entry_put}
use Rattle.md_tree.proofs.Stacking.{items_from}
use Rattle.md_cotree.proofs.outline.put_node_entry.Goals as goal

pub overflow_sub-len : goal.overflow_sub-len
overflow_sub-len c =
    let at = ap (λ n. n - c.args.count) (c.len.ensures ∙ c.args.stack.now.ok.0) in
    let some = falling_some entry_least c.args.count (c.len.result - c.args.count) c.args.stack.now.items c.arrange_entries.new.stack.items at c.requires.some c.requires.count c.arrange_entries.ensures in
    let len = c.len-2.ensures ∙ c.arrange_entries.new.stack.ok.0 in
    omega arith

pub index-requires : goal.index-requires
index-requires c = let len = c.len-2.ensures in let some = overflow_sub-len c in omega arith

pub returns : goal.returns
returns c =
    node_entry_put c.args.kind c.args.count (c.len.result - c.args.count) c.args.stack.now.items c.args.table.now.items c.arrange_entries.new.stack.items _ _ c.index.result.now
    (ap (λ n. n - c.args.count) (c.len.ensures ∙ c.args.stack.now.ok.0)) c.requires.some c.requires.count c.arrange_entries.ensures
    (c.index.ensures ∙ ap (λ n. get_or c.arrange_entries.new.stack.items (n - 1) c.index.result.now) (c.len-2.ensures ∙ c.arrange_entries.new.stack.ok.0))
    (c.in_ok-extend_from_slice.ensures.items ∙ ap (λ l. c.args.table.now.items ++ l) (items_from c.deref.result.now c.arrange_entries.new.stack.items (c.len.result - c.args.count) c.deref.ensures.value))
    (c.in_ok-push.ensures.items ∙ ap (λ l. l ++ record { least = c.index.result.now.least; part = Node c.args.kind c.args.count; first = c.len-first.result } ∷ []) c.truncate.ensures.items
    ∙ ap (λ n. take (c.len.result - c.args.count) c.arrange_entries.new.stack.items ++ record { least = c.index.result.now.least; part = Node c.args.kind c.args.count; first = n } ∷ []) (c.len-first.ensures ∙ c.args.table.now.ok.0))
