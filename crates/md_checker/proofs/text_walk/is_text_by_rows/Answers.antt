use Rattle.std.proofs.Common.{◌∙◌, subst, inl, inr, refl, arith}
use Rattle.std.proofs.lemmas.Bool.{cases_Bool}
use Rattle.std.proofs.lemmas.List.{nil_from_length}
use Rattle.md_graph.proofs.SetLemmas.{clash}
use Rattle.md_tree.proofs.Spelled.{is_spelling}
use Rattle.md_checker.specs.TextFits.{IsRead}
use Rattle.md_checker.proofs.TextWalk.{read_start, read_whole, not_whole}
use Rattle.md_checker.proofs.text_walk.is_text_by_rows.Goals as goal

pub loop-behind-init : goal.loop-behind-init
loop-behind-init g c =
    read_start (is_spelling g.met.K.Lettered.laws g.met.P.Paired.laws) (g.G.TextGraph.view c.args.graph.now) c.args.text.now c.in_ok-least.least.items c.in_ok-roots.roots.items c.new.result.items c.none.result c.copy.result c.in_ok-least.ensures.items c.in_ok-roots.ensures.items c.new.ensures.items c.none.ensures.value (c.copy.ensures.value ∙ c.vertices-vertices.ensures.set)

pub loop-behind-smaller : goal.loop-behind-smaller
loop-behind-smaller g c =
    let is = c.in-Some.is in
    let p = c.in_ok-tail.ensures c.args.text.now c.loop-behind.invariant in
    let q = rw is at p in
    q.1

pub loop-behind-preserved : goal.loop-behind-preserved
loop-behind-preserved g c =
    let is = c.in-Some.is in
    let p = c.in_ok-tail.ensures c.args.text.now c.loop-behind.invariant in
    let q = rw is at p in
    q.0

pub returns-in_default : goal.returns-in_default
returns-in_default g c =
    let is = c.in_default.is in
    let p = c.in_ok-tail.ensures c.args.text.now c.loop-behind.invariant in
    let q = rw is at p in
    record { text = (λ yes. clash yes refl, λ t. absurd (q t.0 t.1)) }

pub returns : goal.returns
returns g c =
    let w = c.loop-behind.walk in
    let law = is_spelling g.met.K.Lettered.laws g.met.P.Paired.laws in
    let view = g.G.TextGraph.view c.args.graph.now in
    let bytes = c.args.text.now in
    let r = subst (λ b. IsRead g.K.Lettered.rules g.P.Paired.rules view bytes c.loop-behind.rest.now b w) c.if-not-behind.false c.loop-behind.invariant in
    let none = nil_from_length c.loop-behind.rest.now (grind (arith, c.is_empty.ensures, c.if-not-is_empty.false)) in
    record {
      text = (
        λ yes. let two = c.is_whole.ensures.0 yes in read_whole law view bytes c.loop-behind.rest.now w.least.items w.roots.items w.opens.items w.seen w.live r none two.0 two.1,
        λ t. elim (cases_Bool c.is_whole.result) [
          | inl whole ↦ whole
          | inr other ↦ absurd (not_whole law view c.vertices-vertices.ensures.view bytes c.loop-behind.rest.now w.least.items w.roots.items w.opens.items w.seen w.live r none (λ two. clash (c.is_whole.ensures.1 two) other) t.0 t.1)
        ],
      );
    }
