use Rattle.std.proofs.Common.{◌≡◌, refl, sym, ap, ◌∙◌, rules}
use Rattle.md_graph.specs.Sets.{only_name}
use Rattle.md_modules.specs.Blocks.{held_names}
use Rattle.md_modules.specs.declared.compact_set.Held.TheVariants.{One}
use Rattle.md_modules.proofs.BlockLemmas.{divided_as, one_divided}
use Rattle.md_modules.proofs.compact_set.CompactSet.divide.Goals as goal

pub returns-in-One : goal.returns-in-One
returns-in-One g c =
    let is : c.args.self.now ≡ held_names g.row.W (One c.in-One.field-0) = sym c.self.view_is ∙ ap (held_names g.row.W) c.in-One.is in
    divided_as c.args.self.now c.args.self.now c.args.row.now c.args.self.now _ c.args.other.now refl c.self.view_is
    (one_divided c.args.self.now c.args.row.now c.args.other.now c.in-One.field-0 is c.requires)

pub returns-in-Some : goal.returns-in-Some
returns-in-Some g c =
    let same : c.set_of-names.result ≡ c.args.self.now = c.set_of-names.ensures ∙ sym (ap (held_names g.row.W) c.in-Low.is) ∙ c.self.view_is in
    let kept : c.match-self-2.self ≡ only_name c.in-Some.name = search rules in
    divided_as c.set_of-names.result c.args.self.now c.args.row.now c.move_part.new.class _ c.move_part.new.other same (kept ∙ sym c.in-Some.ensures.one) c.move_part.ensures

pub returns-in-None : goal.returns-in-None
returns-in-None g c =
    let same : c.set_of-names.result ≡ c.args.self.now = c.set_of-names.ensures ∙ sym (ap (held_names g.row.W) c.in-Low.is) ∙ c.self.view_is in
    divided_as c.set_of-names.result c.args.self.now c.args.row.now c.move_part.new.class _ c.move_part.new.other same c.word_of.ensures c.move_part.ensures

pub returns-in-Some-only_member : goal.returns-in-Some-only_member
returns-in-Some-only_member g c =
    let same : c.deref_mut.result.now ≡ c.args.self.now = c.deref_mut.ensures.value ∙ sym (ap (held_names g.row.W) c.in-Several.is) ∙ c.self.view_is in
    let kept : c.match-self-3.self ≡ only_name c.in-Some-only_member.name = search rules in
    let one : c.move_part-in-Several.new.class ≡ only_name c.in-Some-only_member.name = search rules in
    divided_as c.deref_mut.result.now c.args.self.now c.args.row.now c.move_part-in-Several.new.class _ c.move_part-in-Several.new.other same (kept ∙ sym one) c.move_part-in-Several.ensures

pub returns-in_default : goal.returns-in_default
returns-in_default g c =
    let same : c.deref_mut.result.now ≡ c.args.self.now = c.deref_mut.ensures.value ∙ sym (ap (held_names g.row.W) c.in-Several.is) ∙ c.self.view_is in
    divided_as c.deref_mut.result.now c.args.self.now c.args.row.now c.move_part-in-Several.new.class _ c.move_part-in-Several.new.other same refl c.move_part-in-Several.ensures
