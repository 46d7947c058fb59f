use Rattle.std.proofs.Common.{rules, true, ◌<◌, ◌≤◌, ◌*◌, drop, length, refl, sym, ◌∙◌, ap, subst, arith, length-drop}
use Rattle.std.proofs.lemmas.List.{take_rest}
use Rattle.std.specs.Prelude.{IsTrue}
use Rattle.md_tree.proofs.Numerals.{end_shorter}
use Rattle.md_tree.proofs.Spelled.{is_spelling}
use Rattle.md_checker.specs.TextFits.{IsReadBy}
use Rattle.md_checker.proofs.TextWalk.{few_heads, first_within, inside_heads, inside_live, inside_roots, read_end, no_children, not_admitted, no_order, no_end}
use Rattle.md_checker.proofs.text_walk.end_node.Goals as goal

pub slice_bounds-heads-count : goal.slice_bounds-heads-count
slice_bounds-heads-count g c =
    let a = first_within (is_spelling g.met.K.Lettered.laws g.met.P.Paired.laws) c.requires.read.1 in let b = ap length c.deref-2.ensures.value in omega arith

pub slice_bounds-heads-start : goal.slice_bounds-heads-start
slice_bounds-heads-start g c =
    let a = first_within (is_spelling g.met.K.Lettered.laws g.met.P.Paired.laws) c.requires.read.1 in let b = ap length c.deref-2.ensures.value in
    let f : c.args.inner.first ≤ length c.deref-2.result.now = omega arith in
    f

pub least_name-least-requires : goal.least_name-least-requires
least_name-least-requires g c =
    let a = first_within (is_spelling g.met.K.Lettered.laws g.met.P.Paired.laws) c.requires.read.1 in
    let first = c.args.inner.first in
    let size = ap length (take_rest c.deref-2.result.now first ∙ ap (drop first) c.deref-2.ensures.value) ∙ length-drop first c.args.walk.now.least.items in
    let yes : IsTrue c.may_stand.result = (let y = c.if-not-may_stand.false in grind arith) in
    record { some = omega arith; ascends = c.may_stand.ensures.0 yes }

pub past_end-requires : goal.past_end-requires
past_end-requires g c =
    let law = is_spelling g.met.K.Lettered.laws g.met.P.Paired.laws in
    let first = c.args.inner.first in
    let sub = take_rest c.deref-2.result.now first ∙ ap (drop first) c.deref-2.ensures.value in
    let yes : IsTrue c.may_stand.result = (let y = c.if-not-may_stand.false in grind arith) in
    let few = few_heads law c.requires.read.1 in
    let size = ap length sub ∙ length-drop first c.args.walk.now.least.items in (
      search rules,
      (inside_heads law c.requires.read.1 _ sub _ (c.may_stand.ensures.0 yes), (omega arith, inside_live law c.requires.read.1 _ sub)),
    )

pub close-requires : goal.close-requires
close-requires g c =
    let law = is_spelling g.met.K.Lettered.laws g.met.P.Paired.laws in
    let first = c.args.inner.first in
    let sub = take_rest c.deref-2.result.now first ∙ ap (drop first) c.deref-2.ensures.value in
    let yes : IsTrue c.may_stand.result = (let y = c.if-not-may_stand.false in grind arith) in
    let heads = inside_heads law c.requires.read.1 _ sub _ (c.may_stand.ensures.0 yes) in
    let low = c.least_name-least.ensures in
    let a = first_within law c.requires.read.1 in
    (search rules, (subst (λ v. v < 64 * g.row.W) low.there (c.vertices-vertices.ensures.below _ (heads.members low.place low.within)), omega arith))

pub returns : goal.returns
returns g c bytes r =
    let law = is_spelling g.met.K.Lettered.laws g.met.P.Paired.laws in
    let kinds = g.K.Lettered.rules in
    let view = g.G.TextGraph.view c.args.graph.now in
    let first = c.args.inner.first in
    let sub = take_rest c.deref-2.result.now first ∙ ap (drop first) c.deref-2.ensures.value in
    let up : IsTrue c.may_stand.result = (let y = c.if-not-may_stand.false in grind arith) in
    let may : IsTrue c.may_have.result = (let y = c.if-not-may_have.false in grind arith) in
    let asked : IsTrue c.admits.result = (let y = c.if-not-admits.false in grind arith) in
    let roots = take_rest c.deref.result.now first ∙ ap (drop first) c.deref.ensures.value in
    let is = c.in-Some.is in
    let p = c.in_ok-tail.ensures.past in
    let q = rw is at p in
    let new = c.close.new.walk in
    let s = c.in_ok-close.ensures in (
      subst (λ o. IsReadBy kinds g.P.Paired.rules view bytes c.in-Some.tail.now true new.least.items new.roots.items o new.seen new.live) (sym s.opens)
          (subst (λ n. IsReadBy kinds g.P.Paired.rules view bytes c.in-Some.tail.now true new.least.items new.roots.items c.args.walk.now.opens.items n new.live) (sym s.seen)
          (read_end law r c.vertices-vertices.ensures.view q.0 _ sub (c.may_stand.ensures.0 up) _ roots (c.may_have.ensures.0 may) ((c.admits.ensures.admitted (drop first r.trees) (inside_roots law r _ roots)).0 asked)
          c.least_name-least.result c.least_name-least.ensures q.1 c.past_end.new.live q.2 q.3 c.in-Some.tail.now new.least.items new.roots.items new.live q.4 s.least s.roots s.live)),
      end_shorter g.met.P.Paired.laws _ _ q.0 q.4,
    )

pub returns-then-not-may_have : goal.returns-then-not-may_have
returns-then-not-may_have g c bytes r =
    let law = is_spelling g.met.K.Lettered.laws g.met.P.Paired.laws in
    let first = c.args.inner.first in
    let roots = take_rest c.deref.result.now first ∙ ap (drop first) c.deref.ensures.value in
    no_children law r (drop first c.args.walk.now.least.items) refl c.requires.no_comma _ roots (λ has. let yes = c.may_have.ensures.1 has in let no = c.if-not-may_have.true in grind arith)

pub returns-then-not-admits : goal.returns-then-not-admits
returns-then-not-admits g c bytes r =
    let law = is_spelling g.met.K.Lettered.laws g.met.P.Paired.laws in
    let first = c.args.inner.first in
    let roots = take_rest c.deref.result.now first ∙ ap (drop first) c.deref.ensures.value in
    not_admitted law r (drop first c.args.walk.now.least.items) refl c.requires.no_comma
    (λ asked. let yes = (c.admits.ensures.admitted (drop first r.trees) (inside_roots law r _ roots)).1 asked in let no = c.if-not-admits.true in grind arith)

pub returns-then-not-may_stand : goal.returns-then-not-may_stand
returns-then-not-may_stand g c bytes r =
    let law = is_spelling g.met.K.Lettered.laws g.met.P.Paired.laws in
    let first = c.args.inner.first in
    let sub = take_rest c.deref-2.result.now first ∙ ap (drop first) c.deref-2.ensures.value in
    no_order law r _ sub c.requires.no_comma (λ up. let yes = c.may_stand.ensures.1 up in let no = c.if-not-may_stand.true in grind arith)

pub returns-in_default : goal.returns-in_default
returns-in_default g c bytes r =
    let law = is_spelling g.met.K.Lettered.laws g.met.P.Paired.laws in
    let first = c.args.inner.first in
    let sub = take_rest c.deref-2.result.now first ∙ ap (drop first) c.deref-2.ensures.value in
    let is = c.in_default.is in
    let p = c.in_ok-tail.ensures.none in
    let q = rw is at p in
    no_end law r _ sub c.requires.no_comma c.vertices-vertices.ensures.view q
