use Rattle.std.proofs.Common.{◌<◌, rules}
use Rattle.std.proofs.lemmas.List.Elements.{All-weaker}
use Rattle.md_graph.specs.declared.TheConstants.{NAMES}
use Rattle.md_graph.specs.NameSet.{ascending_from}
use Rattle.md_graph.proofs.NameLemmas.{IsItem, ascending_items}
use Rattle.md_format_tests.proofs.members.put_members.Goals as goal

pub write_members-requires : goal.write_members-requires
write_members-requires g c =
    let set = c.from_list-set.result in
    (search rules, All-weaker (IsItem set 3 NAMES) (λ v. v < 128) (λ v is. c.members-members.ensures.below v is.member) (ascending_from set 3) (ascending_items set 3 NAMES))
