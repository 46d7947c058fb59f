use Rattle.std.proofs.Common.{◌-◌, ◌∙◌, ap, get_or, arith}
use Rattle.md_cotree.specs.Orders.{least_of}
use Rattle.md_cotree.proofs.Sorting.{falling_some, taken_is_put}
use Rattle.md_cotree.proofs.ordering.put_over.Goals as goal

pub overflow_sub-len : goal.overflow_sub-len
overflow_sub-len c =
    let at = ap (λ n. n - c.args.count) (c.len.ensures ∙ c.args.stack.now.ok.0) in
    let some = falling_some least_of c.args.count (c.len.result - c.args.count) c.args.stack.now.items c.arrange.new.stack.items at c.requires.some c.requires.count c.arrange.ensures in
    let len = c.len-2.ensures ∙ c.arrange.new.stack.ok.0 in
    omega arith

pub index-requires : goal.index-requires
index-requires c = let len = c.len-2.ensures in let some = overflow_sub-len c in omega arith

pub returns : goal.returns
returns c =
    taken_is_put c.args.count (c.len.result - c.args.count) c.args.stack.now.items c.arrange.new.stack.items c.trees.new.stack.items c.in_ok-list.list
    (ap (λ n. n - c.args.count) (c.len.ensures ∙ c.args.stack.now.ok.0)) c.requires.some c.requires.count c.arrange.ensures c.in_ok-list.ensures.taken c.in_ok-list.ensures.below
    c.args.kind c.push.new.self.items c.index.result.now (record { list = c.new.result })
    (c.index.ensures ∙ ap (λ n. get_or c.arrange.new.stack.items (n - 1) c.index.result.now) (c.len-2.ensures ∙ c.arrange.new.stack.ok.0)) c.new.ensures.items c.in_ok-push.ensures.items
