use Rattle.std.proofs.Common.{List, ℕ, true, refl, sym, ◌∙◌, rules, arith}
use Rattle.std.proofs.lemmas.List.{nil_from_length}
use Rattle.md_tree.specs.Held.{HasBuilt}
use Rattle.md_tree.specs.Spellings.{spelling}
use Rattle.md_tree.proofs.Spelled.{is_spelling}
use Rattle.md_tree.proofs.Coming.{behind_inside, step_from, useless_over}
use Rattle.md_tree.proofs.builder.end_nodes.Goals as goal

pub loop-first-init : goal.loop-first-init
loop-first-init g c = record { some = c.requires; each = λ bytes h. h; within = omega arith }

pub returns-in_default : goal.returns-in_default
returns-in_default g c bytes h =
    let law = is_spelling g.met.K.Lettered.laws g.met.P.Paired.laws in
    let i = c.loop-first.invariant in
    step_from law bytes c.args.text.now c.loop-first.rest.now c.step_at_end.result c.loop-first.held i.within (c.step_at_end.ensures bytes (i.each bytes h))

pub returns-then-first-eq44 : goal.returns-then-first-eq44
returns-then-first-eq44 g c bytes h =
    let law = is_spelling g.met.K.Lettered.laws g.met.P.Paired.laws in
    let i = c.loop-first.invariant in
    step_from law bytes c.args.text.now c.loop-first.rest.now c.step_comma.result c.loop-first.held i.within (c.step_comma.ensures bytes (i.each bytes h))

pub returns-in_default-pop : goal.returns-in_default-pop
returns-in_default-pop g c bytes h =
    let law = is_spelling g.met.K.Lettered.laws g.met.P.Paired.laws in
    let i = c.loop-first.invariant in
    let held = c.loop-first.held in
    useless_over law bytes c.loop-first.rest.now held.opens.items _ (i.each bytes h).comes (nil_from_length _ (sym held.opens.ok.0 ∙ c.in_default-pop.ensures.cases.0)) (c.in-Some.ensures.variant.0 refl)

pub end_node-requires : goal.end_node-requires
end_node-requires g c =
    let law = is_spelling g.met.K.Lettered.laws g.met.P.Paired.laws in
    let s = c.loop-first.invariant.some in
    (search rules, ((s.0, record { kept = s.1.kept; comes = behind_inside law s.0 _ _ _ c.in-Some-pop.inner _ s.1.comes c.in-Some-pop.ensures.items }), search rules))

pub returns-in_default-2 : goal.returns-in_default-2
returns-in_default-2 g c bytes h =
    let law = is_spelling g.met.K.Lettered.laws g.met.P.Paired.laws in
    let all = c.loop-first.invariant.each bytes h in
    let is = c.in_default-2.is in
    let p = c.in_ok-tail.ensures bytes (record { kept = all.kept; comes = behind_inside law bytes _ _ _ c.in-Some-pop.inner _ all.comes c.in-Some-pop.ensures.items }) in
    let q = rw is at p in
    q

pub loop-first-smaller : goal.loop-first-smaller
loop-first-smaller g c =
    let law = is_spelling g.met.K.Lettered.laws g.met.P.Paired.laws in
    let s = c.loop-first.invariant.some in
    let is = c.in-Some-2.is in
    let p = c.in_ok-tail.ensures s.0 (record { kept = s.1.kept; comes = behind_inside law s.0 _ _ _ c.in-Some-pop.inner _ s.1.comes c.in-Some-pop.ensures.items }) in
    let q = rw is at p in
    q.1

pub loop-first-preserved : goal.loop-first-preserved
loop-first-preserved g c =
    let sp = spelling g.K.Lettered.rules g.P.Paired.rules in let law = is_spelling g.met.K.Lettered.laws g.met.P.Paired.laws in
    let i = c.loop-first.invariant in
    let is = c.in-Some-2.is in
    let on = (λ (bytes : List ℕ) (h : HasBuilt sp bytes c.loop-first.rest.now true c.loop-first.held).
    let p = c.in_ok-tail.ensures bytes (record { kept = h.kept; comes = behind_inside law bytes _ _ _ c.in-Some-pop.inner _ h.comes c.in-Some-pop.ensures.items }) in
    let q = rw is at p in
    q) in
    record {
      some = (i.some.0, (on i.some.0 i.some.1).0);
      each = λ bytes h. (on bytes (i.each bytes h)).0;
      within = (let a = (on i.some.0 i.some.1).1 in let b = i.within in omega arith);
    }
