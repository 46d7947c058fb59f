use Rattle.std.proofs.Common.{◌∷◌, sym, ◌∙◌, subst}
use Rattle.std.proofs.lemmas.List.{nil_from_length}
use Rattle.md_bar_tree.specs.InnerRows.{AreComing}
use Rattle.md_bar_tree.proofs.InnerRows.{none_kept, name_taken, node_taken, node_refused}
use Rattle.md_bar_tree.proofs.few_inner.take_part.Goals as goal

pub returns-in_default : goal.returns-in_default
returns-in_default c t others coming =
    absurd (none_kept c.args.class t others c.args.rows.now.items c.args.part (nil_from_length c.args.rows.now.items (sym c.args.rows.now.ok.0 ∙ c.in_default.ensures.cases.0)) coming)

pub returns-in_default-room_behind : goal.returns-in_default-room_behind
returns-in_default-room_behind c t others coming =
    node_refused c.args.class t others c.args.rows.now.items c.pop.new.self.items c.in-Some.row c.in-Some.ensures.items c.in-Node.kind c.in-Node.count
    c.in_default-room_behind.ensures (subst (λ p. AreComing c.args.class t (p ∷ others) c.args.rows.now.items) c.in-Node.is coming)

pub returns-in-Name : goal.returns-in-Name
returns-in-Name c t others coming =
    name_taken c.args.class t others c.args.rows.now.items c.pop.new.self.items c.in-Some.row c.in-Some.ensures.items c.in-Name.field-0 c.put_back.new.rows.items
    c.put_back.ensures (subst (λ p. AreComing c.args.class t (p ∷ others) c.args.rows.now.items) c.in-Name.is coming)

pub returns-in_ok-push_row-in-Node : goal.returns-in_ok-push_row-in-Node
returns-in_ok-push_row-in-Node c t others coming =
    node_taken c.args.class t others c.args.rows.now.items c.pop.new.self.items c.in-Some.row c.in-Some.ensures.items c.in-Node.kind c.in-Node.count
    c.in-Some-room_behind.room c.room_of.result c.put_back-in-Node.new.rows.items c.push_row.new.rows.items
    c.in-Some-room_behind.ensures c.room_of.ensures c.put_back-in-Node.ensures c.in_ok-push_row-in-Node.ensures
    (subst (λ p. AreComing c.args.class t (p ∷ others) c.args.rows.now.items) c.in-Node.is coming)
