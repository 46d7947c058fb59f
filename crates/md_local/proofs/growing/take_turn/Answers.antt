use Rattle.std.proofs.Common.{◌+◌, ◌≤◌, ◌++◌, map, rules, refl, sym, ◌∙◌, ap, subst, arith}
use Rattle.std.proofs.lemmas.List.{nil_from_length}
use Rattle.md_tree.specs.Plain.{plain}
use Rattle.md_local.specs.Growing.{own_steps, IsOld, IsGrownFrom, IsGrownBelow}
use Rattle.md_local.specs.Walks.{IsIn, steps_ahead, turns_ahead}
use Rattle.md_local.proofs.Ways.{way_down, way_up, way_end, all_told, old_here, down_ahead, up_ahead, own_ahead}
use Rattle.md_local.proofs.growing.take_turn.Goals as goal

pub returns-in-Some-clause-turn : goal.returns-in-Some-clause-turn
returns-in-Some-clause-turn g c = λ t way.
    let h = c.in_ok-node.node in
    way_down (IsGrownBelow c.args.graph.now c.args.u c.args.v) t c.args.path.now.items c.push.new.self.items c.args.current h
    (record { tree = h.tree; rest = c.in-Some.rest; below = h.below }) c.in_ok-open_node.field-0 c.in-Some.child.now way (c.in_ok-node.ensures c.args.graph.now) refl refl
    c.in-Some.ensures.cases.0 c.in_ok-push.ensures.items c.in_ok-open_node.ensures.tree c.in_ok-open_node.ensures.rest
    (c.in_ok-open_node.ensures.below c.args.graph.now c.args.u c.args.v)

pub returns-in-Some-clause-fewer : goal.returns-in-Some-clause-fewer
returns-in-Some-clause-fewer g c =
    let h = c.in_ok-node.node in
    let passed = c.in_ok-node.ensures c.args.graph.now in
    let less : steps_ahead (λ t. 1) (λ t. 2) c.push.new.self.items c.in_ok-open_node.field-0 + 2 ≤ turns_ahead c.args.path.now.items c.args.current + 1 =
    down_ahead (λ t. 1) (λ t. 2) c.args.path.now.items c.push.new.self.items c.args.current (record { tree = h.tree; rest = c.in-Some.rest; below = h.below })
    c.in_ok-open_node.field-0 c.in-Some.child.now passed.0 passed.1 (passed.2 ∙ ap (λ l. passed.0 ++ map plain l) c.in-Some.ensures.cases.0)
    c.in_ok-push.ensures.items c.in_ok-open_node.ensures.tree c.in_ok-open_node.ensures.rest in
    omega arith

pub returns-in-Some-clause-rest : goal.returns-in-Some-clause-rest
returns-in-Some-clause-rest g c =
    let h = c.in_ok-node.node in
    let passed = c.in_ok-node.ensures c.args.graph.now in
    let own = own_steps c.args.u c.args.v in
    let less : steps_ahead own own c.push.new.self.items c.in_ok-open_node.field-0 + own (plain c.in-Some.child.now) ≤ steps_ahead own own c.args.path.now.items c.args.current + own (plain c.in-Some.child.now) =
    down_ahead own own c.args.path.now.items c.push.new.self.items c.args.current (record { tree = h.tree; rest = c.in-Some.rest; below = h.below })
    c.in_ok-open_node.field-0 c.in-Some.child.now passed.0 passed.1 (passed.2 ∙ ap (λ l. passed.0 ++ map plain l) c.in-Some.ensures.cases.0)
    c.in_ok-push.ensures.items c.in_ok-open_node.ensures.tree c.in_ok-open_node.ensures.rest in
    omega arith

pub grow-requires : goal.grow-requires
grow-requires g c =
    let h = c.in_ok-node.node in
    let passed = c.in_ok-node.ensures c.args.graph.now in
    let way = c.requires.way in
    let tells = IsGrownBelow c.args.graph.now c.args.u c.args.v in
    let here : IsOld c.args.graph.now c.args.u c.args.v way.0 (plain c.args.current.tree.now) =
    old_here tells c.args.graph.now c.args.u c.args.v way.0 way.1 c.args.path.now.items c.args.current way.2 way.3 in
    let is = way.3.2 in (
      search rules,
      (
        c.requires.left,
        (
          (way.0, subst (λ r. IsOld c.args.graph.now c.args.u c.args.v way.0 (plain r.now)) (sym passed.1) here),
          all_told tells (plain h.tree.now) c.args.current h passed
              (subst (λ q. IsIn tells q c.args.current) (sym is.1 ∙ ap (λ r. plain r.now) (sym passed.1)) is) (nil_from_length h.rest.now c.in_default.ensures.cases),
        ),
      ),
    )

pub returns-in_err-grown-clause-work : goal.returns-in_err-grown-clause-work
returns-in_err-grown-clause-work g c =
    let own = own_steps c.args.u c.args.v in
    let same = ap (λ r. own (plain r.now)) (c.in_ok-node.ensures c.args.graph.now).1 in
    let few = own_ahead own own c.args.path.now.items c.args.current in
    let done = c.grow.ensures.work in
    omega arith

pub returns-in_err-with_grown-in-Some-pop-clause-work : goal.returns-in_err-with_grown-in-Some-pop-clause-work
returns-in_err-with_grown-in-Some-pop-clause-work g c =
    let own = own_steps c.args.u c.args.v in
    let same = ap (λ r. own (plain r.now)) (c.in_ok-node.ensures c.args.graph.now).1 in
    let few = own_ahead own own c.args.path.now.items c.args.current in
    let done = c.grow.ensures.work in
    omega arith

pub returns-in_ok-with_grown-in-Some-pop-clause-turn : goal.returns-in_ok-with_grown-in-Some-pop-clause-turn
returns-in_ok-with_grown-in-Some-pop-clause-turn g c = λ t way.
    let grown =
    subst (λ r. IsGrownFrom c.args.graph.now c.args.u c.args.v (plain r.now) c.in_ok-grown.grown) (c.in_ok-node.ensures c.args.graph.now).1 c.in_ok-grown.ensures.grown in
    way_up (IsGrownBelow c.args.graph.now c.args.u c.args.v) t c.args.path.now.items c.pop.new.self.items c.args.current c.in-Some-pop.above c.in_ok-with_grown-in-Some-pop.field-0 way
    c.in-Some-pop.ensures.items (c.in_ok-with_grown-in-Some-pop.ensures c.args.graph.now c.args.u c.args.v (plain c.args.current.tree.now) grown)

pub returns-in_ok-with_grown-in-Some-pop-clause-fewer : goal.returns-in_ok-with_grown-in-Some-pop-clause-fewer
returns-in_ok-with_grown-in-Some-pop-clause-fewer g c =
    let more = c.in_ok-with_grown-in-Some-pop.ensures c.args.graph.now c.args.u c.args.v (plain c.in_ok-node.node.tree.now) c.in_ok-grown.ensures.grown in
    let less : steps_ahead (λ t. 1) (λ t. 2) c.pop.new.self.items c.in_ok-with_grown-in-Some-pop.field-0 + 1 ≤ turns_ahead c.args.path.now.items c.args.current =
    up_ahead (λ t. 1) (λ t. 2) c.args.path.now.items c.pop.new.self.items c.args.current c.in-Some-pop.above c.in_ok-with_grown-in-Some-pop.field-0 c.in-Some-pop.ensures.items more.0 more.1 in
    omega arith

pub returns-in_ok-with_grown-in-Some-pop-clause-rest : goal.returns-in_ok-with_grown-in-Some-pop-clause-rest
returns-in_ok-with_grown-in-Some-pop-clause-rest g c =
    let own = own_steps c.args.u c.args.v in
    let more = c.in_ok-with_grown-in-Some-pop.ensures c.args.graph.now c.args.u c.args.v (plain c.in_ok-node.node.tree.now) c.in_ok-grown.ensures.grown in
    let same = ap (λ r. own (plain r.now)) (c.in_ok-node.ensures c.args.graph.now).1 in
    let less : steps_ahead own own c.pop.new.self.items c.in_ok-with_grown-in-Some-pop.field-0 + own (plain c.args.current.tree.now) ≤ steps_ahead own own c.args.path.now.items c.args.current =
    up_ahead own own c.args.path.now.items c.pop.new.self.items c.args.current c.in-Some-pop.above c.in_ok-with_grown-in-Some-pop.field-0 c.in-Some-pop.ensures.items more.0 more.1 in
    let done = c.grow.ensures.work in
    omega arith

pub returns-in_ok-with_grown-in-Some-pop-clause-work : goal.returns-in_ok-with_grown-in-Some-pop-clause-work
returns-in_ok-with_grown-in-Some-pop-clause-work g c =
    let own = own_steps c.args.u c.args.v in
    let same = ap (λ r. own (plain r.now)) (c.in_ok-node.ensures c.args.graph.now).1 in
    let few = own_ahead own own c.args.path.now.items c.args.current in
    let done = c.grow.ensures.work in
    omega arith

pub returns-in-None-clause-turn : goal.returns-in-None-clause-turn
returns-in-None-clause-turn g c = λ t way.
    let none = nil_from_length c.args.path.now.items (sym c.args.path.now.ok.0 ∙ c.in-None.ensures.cases.0) in
    let whole = way_end (IsGrownBelow c.args.graph.now c.args.u c.args.v) t c.args.path.now.items c.args.current way none in
    subst (λ p. IsGrownFrom c.args.graph.now c.args.u c.args.v p c.in_ok-grown.grown) (ap (λ r. plain r.now) (c.in_ok-node.ensures c.args.graph.now).1 ∙ whole) c.in_ok-grown.ensures.grown

pub returns-in-None-clause-rest : goal.returns-in-None-clause-rest
returns-in-None-clause-rest g c =
    let own = own_steps c.args.u c.args.v in
    let same = ap (λ r. own (plain r.now)) (c.in_ok-node.ensures c.args.graph.now).1 in
    let few = own_ahead own own c.args.path.now.items c.args.current in
    let done = c.grow.ensures.work in
    omega arith

pub returns-in-None-clause-work : goal.returns-in-None-clause-work
returns-in-None-clause-work g c =
    let own = own_steps c.args.u c.args.v in
    let same = ap (λ r. own (plain r.now)) (c.in_ok-node.ensures c.args.graph.now).1 in
    let few = own_ahead own own c.args.path.now.items c.args.current in
    let done = c.grow.ensures.work in
    omega arith
