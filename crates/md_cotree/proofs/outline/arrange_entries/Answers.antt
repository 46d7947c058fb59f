use Rattle.std.proofs.Common.{◌∙◌, ap, take, drop, ◌++◌, length, rules}
use Rattle.std.proofs.lemmas.List.Sorted.{IsNonDecreasingBy-from_sort_by_key}
use Rattle.md_cotree.specs.Entries.{entry_least}
use Rattle.md_cotree.proofs.Sorting.{falling}
use Rattle.md_cotree.proofs.outline.arrange_entries.Goals as goal

pub returns : goal.returns
returns c =
    falling entry_least c.args.below _ c.args.stack.now.items c.split_at_mut-children.result.0.now c.split_at_mut-children.result.1.now
    c.sort_unstable_by_key.new.self _ c.requires c.args.stack.now.ok.0 (c.split_at_mut-children.ensures.front ∙ ap (take c.args.below) c.as_mut_slice.ensures.value)
    (c.split_at_mut-children.ensures.back ∙ ap (drop c.args.below) c.as_mut_slice.ensures.value) c.sort_unstable_by_key.ensures.permutation
    (IsNonDecreasingBy-from_sort_by_key entry_least _ c.sort_unstable_by_key.ensures.sorted (λ a r q k. search rules))
    (ap (λ l. take c.args.stack.now.len (c.split_at_mut-children.result.0.now ++ l ++ drop (length (c.split_at_mut-children.result.0.now ++ l)) c.args.stack.now.items)) c.reverse.ensures.after)
