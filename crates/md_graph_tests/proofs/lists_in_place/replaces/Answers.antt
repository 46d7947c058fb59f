use Rattle.md_graph_tests.proofs.Loose.{four_loose, one_live, one_loose, two_live, two_parent, two_loose, three_live}
use Rattle.md_graph_tests.proofs.lists_in_place.replaces.Goals as goal

pub attach-requires-clause-parent : goal.attach-requires-clause-parent
attach-requires-clause-parent g c =
    let four = four_loose _ _ _ _ _ _ _ _ _ _ _ _ _ c.in_ok-lists.ensures.links c.make-p.ensures.links c.make-a.ensures.links c.make-b.ensures.links (c.make-p.ensures.inside, c.make-p.ensures.place, c.make-p.ensures.made, c.make-p.ensures.bare) (c.make-a.ensures.inside, c.make-a.ensures.place, c.make-a.ensures.made, c.make-a.ensures.bare) (c.make-b.ensures.inside, c.make-b.ensures.place, c.make-b.ensures.made, c.make-b.ensures.bare) (c.make-c.ensures.inside, c.make-c.ensures.place, c.make-c.ensures.made, c.make-c.ensures.bare) in
    four.3.3.3.0

pub attach-requires-clause-child : goal.attach-requires-clause-child
attach-requires-clause-child g c =
    let four = four_loose _ _ _ _ _ _ _ _ _ _ _ _ _ c.in_ok-lists.ensures.links c.make-p.ensures.links c.make-a.ensures.links c.make-b.ensures.links (c.make-p.ensures.inside, c.make-p.ensures.place, c.make-p.ensures.made, c.make-p.ensures.bare) (c.make-a.ensures.inside, c.make-a.ensures.place, c.make-a.ensures.made, c.make-a.ensures.bare) (c.make-b.ensures.inside, c.make-b.ensures.place, c.make-b.ensures.made, c.make-b.ensures.bare) (c.make-c.ensures.inside, c.make-c.ensures.place, c.make-c.ensures.made, c.make-c.ensures.bare) in
    four.3.3.0

pub attach-requires-clause-differ : goal.attach-requires-clause-differ
attach-requires-clause-differ g c =
    let four = four_loose _ _ _ _ _ _ _ _ _ _ _ _ _ c.in_ok-lists.ensures.links c.make-p.ensures.links c.make-a.ensures.links c.make-b.ensures.links (c.make-p.ensures.inside, c.make-p.ensures.place, c.make-p.ensures.made, c.make-p.ensures.bare) (c.make-a.ensures.inside, c.make-a.ensures.place, c.make-a.ensures.made, c.make-a.ensures.bare) (c.make-b.ensures.inside, c.make-b.ensures.place, c.make-b.ensures.made, c.make-b.ensures.bare) (c.make-c.ensures.inside, c.make-c.ensures.place, c.make-c.ensures.made, c.make-c.ensures.bare) in
    four.3.3.2.0

pub attach-requires-clause-loose : goal.attach-requires-clause-loose
attach-requires-clause-loose g c =
    let four = four_loose _ _ _ _ _ _ _ _ _ _ _ _ _ c.in_ok-lists.ensures.links c.make-p.ensures.links c.make-a.ensures.links c.make-b.ensures.links (c.make-p.ensures.inside, c.make-p.ensures.place, c.make-p.ensures.made, c.make-p.ensures.bare) (c.make-a.ensures.inside, c.make-a.ensures.place, c.make-a.ensures.made, c.make-a.ensures.bare) (c.make-b.ensures.inside, c.make-b.ensures.place, c.make-b.ensures.made, c.make-b.ensures.bare) (c.make-c.ensures.inside, c.make-c.ensures.place, c.make-c.ensures.made, c.make-c.ensures.bare) in
    four.3.3.1

pub attach-requires-2-clause-parent : goal.attach-requires-2-clause-parent
attach-requires-2-clause-parent g c =
    let four = four_loose _ _ _ _ _ _ _ _ _ _ _ _ _ c.in_ok-lists.ensures.links c.make-p.ensures.links c.make-a.ensures.links c.make-b.ensures.links (c.make-p.ensures.inside, c.make-p.ensures.place, c.make-p.ensures.made, c.make-p.ensures.bare) (c.make-a.ensures.inside, c.make-a.ensures.place, c.make-a.ensures.made, c.make-a.ensures.bare) (c.make-b.ensures.inside, c.make-b.ensures.place, c.make-b.ensures.made, c.make-b.ensures.bare) (c.make-c.ensures.inside, c.make-c.ensures.place, c.make-c.ensures.made, c.make-c.ensures.bare) in
    one_live _ _ c.make-c.ensures.links c.make-p.result c.make-a.result c.make-b.result c.make-c.result four c.attach.ensures.attached c.make-p.result four.3.3.3.0

pub attach-requires-2-clause-child : goal.attach-requires-2-clause-child
attach-requires-2-clause-child g c =
    let four = four_loose _ _ _ _ _ _ _ _ _ _ _ _ _ c.in_ok-lists.ensures.links c.make-p.ensures.links c.make-a.ensures.links c.make-b.ensures.links (c.make-p.ensures.inside, c.make-p.ensures.place, c.make-p.ensures.made, c.make-p.ensures.bare) (c.make-a.ensures.inside, c.make-a.ensures.place, c.make-a.ensures.made, c.make-a.ensures.bare) (c.make-b.ensures.inside, c.make-b.ensures.place, c.make-b.ensures.made, c.make-b.ensures.bare) (c.make-c.ensures.inside, c.make-c.ensures.place, c.make-c.ensures.made, c.make-c.ensures.bare) in
    one_live _ _ c.make-c.ensures.links c.make-p.result c.make-a.result c.make-b.result c.make-c.result four c.attach.ensures.attached c.make-b.result four.3.0

pub attach-requires-2-clause-differ : goal.attach-requires-2-clause-differ
attach-requires-2-clause-differ g c =
    let four = four_loose _ _ _ _ _ _ _ _ _ _ _ _ _ c.in_ok-lists.ensures.links c.make-p.ensures.links c.make-a.ensures.links c.make-b.ensures.links (c.make-p.ensures.inside, c.make-p.ensures.place, c.make-p.ensures.made, c.make-p.ensures.bare) (c.make-a.ensures.inside, c.make-a.ensures.place, c.make-a.ensures.made, c.make-a.ensures.bare) (c.make-b.ensures.inside, c.make-b.ensures.place, c.make-b.ensures.made, c.make-b.ensures.bare) (c.make-c.ensures.inside, c.make-c.ensures.place, c.make-c.ensures.made, c.make-c.ensures.bare) in
    four.3.2.1.0

pub attach-requires-2-clause-loose : goal.attach-requires-2-clause-loose
attach-requires-2-clause-loose g c =
    let four = four_loose _ _ _ _ _ _ _ _ _ _ _ _ _ c.in_ok-lists.ensures.links c.make-p.ensures.links c.make-a.ensures.links c.make-b.ensures.links (c.make-p.ensures.inside, c.make-p.ensures.place, c.make-p.ensures.made, c.make-p.ensures.bare) (c.make-a.ensures.inside, c.make-a.ensures.place, c.make-a.ensures.made, c.make-a.ensures.bare) (c.make-b.ensures.inside, c.make-b.ensures.place, c.make-b.ensures.made, c.make-b.ensures.bare) (c.make-c.ensures.inside, c.make-c.ensures.place, c.make-c.ensures.made, c.make-c.ensures.bare) in
    one_loose _ _ c.make-c.ensures.links c.make-p.result c.make-a.result c.make-b.result c.make-c.result four c.attach.ensures.attached

pub replace-requires-clause-old : goal.replace-requires-clause-old
replace-requires-clause-old g c =
    let four = four_loose _ _ _ _ _ _ _ _ _ _ _ _ _ c.in_ok-lists.ensures.links c.make-p.ensures.links c.make-a.ensures.links c.make-b.ensures.links (c.make-p.ensures.inside, c.make-p.ensures.place, c.make-p.ensures.made, c.make-p.ensures.bare) (c.make-a.ensures.inside, c.make-a.ensures.place, c.make-a.ensures.made, c.make-a.ensures.bare) (c.make-b.ensures.inside, c.make-b.ensures.place, c.make-b.ensures.made, c.make-b.ensures.bare) (c.make-c.ensures.inside, c.make-c.ensures.place, c.make-c.ensures.made, c.make-c.ensures.bare) in
    two_live _ _ c.make-c.ensures.links c.make-p.result c.make-a.result c.make-b.result c.make-c.result four c.attach.ensures.attached c.attach.ensures.links _ c.attach-2.ensures.attached c.make-a.result four.3.3.0

pub replace-requires-clause-new : goal.replace-requires-clause-new
replace-requires-clause-new g c =
    let four = four_loose _ _ _ _ _ _ _ _ _ _ _ _ _ c.in_ok-lists.ensures.links c.make-p.ensures.links c.make-a.ensures.links c.make-b.ensures.links (c.make-p.ensures.inside, c.make-p.ensures.place, c.make-p.ensures.made, c.make-p.ensures.bare) (c.make-a.ensures.inside, c.make-a.ensures.place, c.make-a.ensures.made, c.make-a.ensures.bare) (c.make-b.ensures.inside, c.make-b.ensures.place, c.make-b.ensures.made, c.make-b.ensures.bare) (c.make-c.ensures.inside, c.make-c.ensures.place, c.make-c.ensures.made, c.make-c.ensures.bare) in
    two_live _ _ c.make-c.ensures.links c.make-p.result c.make-a.result c.make-b.result c.make-c.result four c.attach.ensures.attached c.attach.ensures.links _ c.attach-2.ensures.attached c.make-c.result four.0

pub replace-requires-clause-differ : goal.replace-requires-clause-differ
replace-requires-clause-differ g c =
    let four = four_loose _ _ _ _ _ _ _ _ _ _ _ _ _ c.in_ok-lists.ensures.links c.make-p.ensures.links c.make-a.ensures.links c.make-b.ensures.links (c.make-p.ensures.inside, c.make-p.ensures.place, c.make-p.ensures.made, c.make-p.ensures.bare) (c.make-a.ensures.inside, c.make-a.ensures.place, c.make-a.ensures.made, c.make-a.ensures.bare) (c.make-b.ensures.inside, c.make-b.ensures.place, c.make-b.ensures.made, c.make-b.ensures.bare) (c.make-c.ensures.inside, c.make-c.ensures.place, c.make-c.ensures.made, c.make-c.ensures.bare) in
    four.2.1.0

pub replace-requires-clause-parent : goal.replace-requires-clause-parent
replace-requires-clause-parent g c =
    let four = four_loose _ _ _ _ _ _ _ _ _ _ _ _ _ c.in_ok-lists.ensures.links c.make-p.ensures.links c.make-a.ensures.links c.make-b.ensures.links (c.make-p.ensures.inside, c.make-p.ensures.place, c.make-p.ensures.made, c.make-p.ensures.bare) (c.make-a.ensures.inside, c.make-a.ensures.place, c.make-a.ensures.made, c.make-a.ensures.bare) (c.make-b.ensures.inside, c.make-b.ensures.place, c.make-b.ensures.made, c.make-b.ensures.bare) (c.make-c.ensures.inside, c.make-c.ensures.place, c.make-c.ensures.made, c.make-c.ensures.bare) in
    (c.make-p.result, two_parent _ _ c.make-c.ensures.links c.make-p.result c.make-a.result c.make-b.result c.make-c.result four c.attach.ensures.attached c.attach.ensures.links _ c.attach-2.ensures.attached, four.2.1.1.0)

pub replace-requires-clause-loose : goal.replace-requires-clause-loose
replace-requires-clause-loose g c =
    let four = four_loose _ _ _ _ _ _ _ _ _ _ _ _ _ c.in_ok-lists.ensures.links c.make-p.ensures.links c.make-a.ensures.links c.make-b.ensures.links (c.make-p.ensures.inside, c.make-p.ensures.place, c.make-p.ensures.made, c.make-p.ensures.bare) (c.make-a.ensures.inside, c.make-a.ensures.place, c.make-a.ensures.made, c.make-a.ensures.bare) (c.make-b.ensures.inside, c.make-b.ensures.place, c.make-b.ensures.made, c.make-b.ensures.bare) (c.make-c.ensures.inside, c.make-c.ensures.place, c.make-c.ensures.made, c.make-c.ensures.bare) in
    two_loose _ _ c.make-c.ensures.links c.make-p.result c.make-a.result c.make-b.result c.make-c.result four c.attach.ensures.attached c.attach.ensures.links _ c.attach-2.ensures.attached

pub first_child-requires : goal.first_child-requires
first_child-requires g c =
    let four = four_loose _ _ _ _ _ _ _ _ _ _ _ _ _ c.in_ok-lists.ensures.links c.make-p.ensures.links c.make-a.ensures.links c.make-b.ensures.links (c.make-p.ensures.inside, c.make-p.ensures.place, c.make-p.ensures.made, c.make-p.ensures.bare) (c.make-a.ensures.inside, c.make-a.ensures.place, c.make-a.ensures.made, c.make-a.ensures.bare) (c.make-b.ensures.inside, c.make-b.ensures.place, c.make-b.ensures.made, c.make-b.ensures.bare) (c.make-c.ensures.inside, c.make-c.ensures.place, c.make-c.ensures.made, c.make-c.ensures.bare) in
    three_live _ _ c.make-c.ensures.links c.make-p.result c.make-a.result c.make-b.result c.make-c.result four c.attach.ensures.attached c.attach.ensures.links _ c.attach-2.ensures.attached _ c.replace.ensures.replaced c.make-p.result four.3.3.3.0

pub next_sibling-requires : goal.next_sibling-requires
next_sibling-requires g c =
    let four = four_loose _ _ _ _ _ _ _ _ _ _ _ _ _ c.in_ok-lists.ensures.links c.make-p.ensures.links c.make-a.ensures.links c.make-b.ensures.links (c.make-p.ensures.inside, c.make-p.ensures.place, c.make-p.ensures.made, c.make-p.ensures.bare) (c.make-a.ensures.inside, c.make-a.ensures.place, c.make-a.ensures.made, c.make-a.ensures.bare) (c.make-b.ensures.inside, c.make-b.ensures.place, c.make-b.ensures.made, c.make-b.ensures.bare) (c.make-c.ensures.inside, c.make-c.ensures.place, c.make-c.ensures.made, c.make-c.ensures.bare) in
    three_live _ _ c.make-c.ensures.links c.make-p.result c.make-a.result c.make-b.result c.make-c.result four c.attach.ensures.attached c.attach.ensures.links _ c.attach-2.ensures.attached _ c.replace.ensures.replaced c.make-c.result four.0

pub next_sibling-requires-2 : goal.next_sibling-requires-2
next_sibling-requires-2 g c =
    let four = four_loose _ _ _ _ _ _ _ _ _ _ _ _ _ c.in_ok-lists.ensures.links c.make-p.ensures.links c.make-a.ensures.links c.make-b.ensures.links (c.make-p.ensures.inside, c.make-p.ensures.place, c.make-p.ensures.made, c.make-p.ensures.bare) (c.make-a.ensures.inside, c.make-a.ensures.place, c.make-a.ensures.made, c.make-a.ensures.bare) (c.make-b.ensures.inside, c.make-b.ensures.place, c.make-b.ensures.made, c.make-b.ensures.bare) (c.make-c.ensures.inside, c.make-c.ensures.place, c.make-c.ensures.made, c.make-c.ensures.bare) in
    three_live _ _ c.make-c.ensures.links c.make-p.result c.make-a.result c.make-b.result c.make-c.result four c.attach.ensures.attached c.attach.ensures.links _ c.attach-2.ensures.attached _ c.replace.ensures.replaced c.make-b.result four.3.0

pub child_count-requires : goal.child_count-requires
child_count-requires g c =
    let four = four_loose _ _ _ _ _ _ _ _ _ _ _ _ _ c.in_ok-lists.ensures.links c.make-p.ensures.links c.make-a.ensures.links c.make-b.ensures.links (c.make-p.ensures.inside, c.make-p.ensures.place, c.make-p.ensures.made, c.make-p.ensures.bare) (c.make-a.ensures.inside, c.make-a.ensures.place, c.make-a.ensures.made, c.make-a.ensures.bare) (c.make-b.ensures.inside, c.make-b.ensures.place, c.make-b.ensures.made, c.make-b.ensures.bare) (c.make-c.ensures.inside, c.make-c.ensures.place, c.make-c.ensures.made, c.make-c.ensures.bare) in
    three_live _ _ c.make-c.ensures.links c.make-p.result c.make-a.result c.make-b.result c.make-c.result four c.attach.ensures.attached c.attach.ensures.links _ c.attach-2.ensures.attached _ c.replace.ensures.replaced c.make-p.result four.3.3.3.0

pub parent-requires : goal.parent-requires
parent-requires g c =
    let four = four_loose _ _ _ _ _ _ _ _ _ _ _ _ _ c.in_ok-lists.ensures.links c.make-p.ensures.links c.make-a.ensures.links c.make-b.ensures.links (c.make-p.ensures.inside, c.make-p.ensures.place, c.make-p.ensures.made, c.make-p.ensures.bare) (c.make-a.ensures.inside, c.make-a.ensures.place, c.make-a.ensures.made, c.make-a.ensures.bare) (c.make-b.ensures.inside, c.make-b.ensures.place, c.make-b.ensures.made, c.make-b.ensures.bare) (c.make-c.ensures.inside, c.make-c.ensures.place, c.make-c.ensures.made, c.make-c.ensures.bare) in
    three_live _ _ c.make-c.ensures.links c.make-p.result c.make-a.result c.make-b.result c.make-c.result four c.attach.ensures.attached c.attach.ensures.links _ c.attach-2.ensures.attached _ c.replace.ensures.replaced c.make-a.result four.3.3.0

pub parent-requires-2 : goal.parent-requires-2
parent-requires-2 g c =
    let four = four_loose _ _ _ _ _ _ _ _ _ _ _ _ _ c.in_ok-lists.ensures.links c.make-p.ensures.links c.make-a.ensures.links c.make-b.ensures.links (c.make-p.ensures.inside, c.make-p.ensures.place, c.make-p.ensures.made, c.make-p.ensures.bare) (c.make-a.ensures.inside, c.make-a.ensures.place, c.make-a.ensures.made, c.make-a.ensures.bare) (c.make-b.ensures.inside, c.make-b.ensures.place, c.make-b.ensures.made, c.make-b.ensures.bare) (c.make-c.ensures.inside, c.make-c.ensures.place, c.make-c.ensures.made, c.make-c.ensures.bare) in
    three_live _ _ c.make-c.ensures.links c.make-p.result c.make-a.result c.make-b.result c.make-c.result four c.attach.ensures.attached c.attach.ensures.links _ c.attach-2.ensures.attached _ c.replace.ensures.replaced c.make-c.result four.0
