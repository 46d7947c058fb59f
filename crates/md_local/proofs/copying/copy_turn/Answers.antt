use Rattle.std.proofs.Common.{◌+◌, ◌≤◌, ◌++◌, map, refl, sym, ◌∙◌, ap, subst, arith}
use Rattle.std.proofs.lemmas.List.{nil_from_length}
use Rattle.md_tree.specs.Plain.{plain}
use Rattle.md_local.specs.Walks.{IsIn, HasMore, AreCopies, steps_ahead, turns_ahead}
use Rattle.md_local.proofs.Ways.{way_down, way_up, way_end, all_told, down_ahead, up_ahead}
use Rattle.md_local.proofs.copying.copy_turn.Goals as goal

pub returns-in-Some-clause-turn : goal.returns-in-Some-clause-turn
returns-in-Some-clause-turn c = λ t way.
    let h = c.in_ok-node.node in
    way_down AreCopies t c.args.path.now.items c.push.new.self.items c.args.current h
    (record { tree = h.tree; rest = c.in-Some.rest; below = h.below }) c.in_ok-open_copy.field-0 c.in-Some.child.now way c.in_ok-node.ensures refl refl
    c.in-Some.ensures.cases.0 c.in_ok-push.ensures.items c.in_ok-open_copy.ensures.tree c.in_ok-open_copy.ensures.rest
    c.in_ok-open_copy.ensures.below

pub returns-in-Some-clause-fewer : goal.returns-in-Some-clause-fewer
returns-in-Some-clause-fewer c =
    let h = c.in_ok-node.node in
    let passed = c.in_ok-node.ensures in
    let less : steps_ahead (λ t. 1) (λ t. 2) c.push.new.self.items c.in_ok-open_copy.field-0 + 2 ≤ turns_ahead c.args.path.now.items c.args.current + 1 =
    down_ahead (λ t. 1) (λ t. 2) c.args.path.now.items c.push.new.self.items c.args.current (record { tree = h.tree; rest = c.in-Some.rest; below = h.below })
    c.in_ok-open_copy.field-0 c.in-Some.child.now passed.0 passed.1 (passed.2 ∙ ap (λ l. passed.0 ++ map plain l) c.in-Some.ensures.cases.0)
    c.in_ok-push.ensures.items c.in_ok-open_copy.ensures.tree c.in_ok-open_copy.ensures.rest in
    omega arith

pub copy_over-requires : goal.copy_over-requires
copy_over-requires c =
    let h = c.in_ok-node.node in
    let passed = c.in_ok-node.ensures in
    let is = c.requires.1.2 in
    all_told AreCopies (plain h.tree.now) c.args.current h passed
    (subst (λ q. IsIn AreCopies q c.args.current) (sym is.1 ∙ ap (λ r. plain r.now) (sym passed.1)) is) (nil_from_length h.rest.now c.in_default.ensures.cases)

pub returns-in_ok-with_copy-in-Some-pop-clause-turn : goal.returns-in_ok-with_copy-in-Some-pop-clause-turn
returns-in_ok-with_copy-in-Some-pop-clause-turn c = λ t way.
    let more =
    subst (λ p. HasMore AreCopies p c.in-Some-pop.above c.in_ok-with_copy-in-Some-pop.field-0)
    (c.in_ok-copy.ensures ∙ ap (λ r. plain r.now) c.in_ok-node.ensures.1) c.in_ok-with_copy-in-Some-pop.ensures in
    way_up AreCopies t c.args.path.now.items c.pop.new.self.items c.args.current c.in-Some-pop.above c.in_ok-with_copy-in-Some-pop.field-0 way c.in-Some-pop.ensures.items more

pub returns-in_ok-with_copy-in-Some-pop-clause-fewer : goal.returns-in_ok-with_copy-in-Some-pop-clause-fewer
returns-in_ok-with_copy-in-Some-pop-clause-fewer c =
    let more = c.in_ok-with_copy-in-Some-pop.ensures in
    let less : steps_ahead (λ t. 1) (λ t. 2) c.pop.new.self.items c.in_ok-with_copy-in-Some-pop.field-0 + 1 ≤ turns_ahead c.args.path.now.items c.args.current =
    up_ahead (λ t. 1) (λ t. 2) c.args.path.now.items c.pop.new.self.items c.args.current c.in-Some-pop.above c.in_ok-with_copy-in-Some-pop.field-0 c.in-Some-pop.ensures.items more.0 more.1 in
    omega arith

pub returns-in-None-clause-turn : goal.returns-in-None-clause-turn
returns-in-None-clause-turn c = λ t way.
    let none = nil_from_length c.args.path.now.items (sym c.args.path.now.ok.0 ∙ c.in-None.ensures.cases.0) in
    let whole = way_end AreCopies t c.args.path.now.items c.args.current way none in
    c.in_ok-copy.ensures ∙ ap (λ r. plain r.now) c.in_ok-node.ensures.1 ∙ whole
