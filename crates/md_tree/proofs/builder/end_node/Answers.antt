use Rattle.std.proofs.Common.{◌≡◌, ◌≤◌, ◌<◌, ◌*◌, ◌-◌, length, map, drop, sym, ◌∙◌, ap, subst, rules, arith}
use Rattle.std.proofs.lemmas.List.{length-map, length-drop, length-take-le, drop-map}
use Rattle.std.specs.Prelude.{IsTrue, vec_len}
use Rattle.md_graph.proofs.Limits.{words_few}
use Rattle.md_tree.specs.Plain.{plain}
use Rattle.md_tree.specs.Trees.{row}
use Rattle.md_tree.specs.Held.{MayHave, AscendsIf, IsEnd, LacksEnd}
use Rattle.md_tree.proofs.Spelled.{is_spelling}
use Rattle.md_tree.proofs.Stacking.{plain_from, items_from}
use Rattle.md_tree.proofs.Holding.{least_length}
use Rattle.md_tree.proofs.Coming.{inside_first, node_ended, useless_children, useless_end, few_held}
use Rattle.md_tree.proofs.builder.end_node.Goals as goal

pub may_have-requires : goal.may_have-requires
may_have-requires g c =
    let held = c.args.held.now in let inner = c.args.inner in
    let b : length (map plain held.trees.items) ≡ length held.least.items = least_length _ _ c.requires.inside.1.kept.least in
    ap length (items_from c.deref-2.result.now held.least.items inner.first c.deref-2.ensures.value) ∙ length-drop inner.first held.least.items
    ∙ ap (λ n. n - inner.first) (sym b ∙ length-map held.trees.items plain)
    ∙ sym (length-drop inner.first held.trees.items) ∙ sym (ap length (items_from c.deref.result.now held.trees.items inner.first c.deref.ensures.value))

pub slice_bounds-may_have-count-2 : goal.slice_bounds-may_have-count-2
slice_bounds-may_have-count-2 g c =
    let law = is_spelling g.met.K.Lettered.laws g.met.P.Paired.laws in
    let held = c.args.held.now in
    let h = c.requires.inside.1 in
    let a : c.args.inner.first < length (map plain held.trees.items) = inside_first law _ _ c.args.inner _ _ h.comes in
    let b : length (map plain held.trees.items) ≡ length held.least.items = least_length _ _ h.kept.least in
    let d : length c.deref-2.result.now ≡ length held.least.items = ap length c.deref-2.ensures.value in
    omega arith

pub slice_bounds-may_have-start-2 : goal.slice_bounds-may_have-start-2
slice_bounds-may_have-start-2 g c =
    let law = is_spelling g.met.K.Lettered.laws g.met.P.Paired.laws in
    let held = c.args.held.now in
    let h = c.requires.inside.1 in
    let a : c.args.inner.first < length (map plain held.trees.items) = inside_first law _ _ c.args.inner _ _ h.comes in
    let b : length (map plain held.trees.items) ≡ length held.least.items = least_length _ _ h.kept.least in
    let d : length c.deref-2.result.now ≡ length held.least.items = ap length c.deref-2.ensures.value in
    let f : c.args.inner.first ≤ length c.deref-2.result.now = omega arith in
    f

pub returns-then-not-may_have : goal.returns-then-not-may_have
returns-then-not-may_have g c bytes h =
    let law = is_spelling g.met.K.Lettered.laws g.met.P.Paired.laws in
    let held = c.args.held.now in let inner = c.args.inner in
    let e = plain_from c.deref.result.now held.trees.items inner.first c.deref.ensures.value in
    let f = items_from c.deref-2.result.now held.least.items inner.first c.deref-2.ensures.value in
    useless_children law bytes c.args.text.now inner held.opens.items (map plain held.trees.items) h.comes c.requires.no_comma held.least.items h.kept.least
    (λ m.
    let yes = c.may_have.ensures.1 (subst (λ us. MayHave g.K.Lettered.rules inner.kind (row us)) (sym e) m.0, subst (AscendsIf (g.K.Lettered.rules.sorts inner.kind)) (sym f) m.1) in let no_one = c.if-not-may_have.true in grind arith)

pub read_end-requires : goal.read_end-requires
read_end-requires g c =
    let law = is_spelling g.met.K.Lettered.laws g.met.P.Paired.laws in
    let held = c.args.held.now in
    let few : length (map plain held.trees.items) ≤ 64 * g.row.W = few_held law _ _ _ c.requires.inside.1.kept in
    let names = words_few g.row.W c.within_limit.ensures.limit in
    let all : length (map plain held.trees.items) ≡ length held.trees.items = length-map held.trees.items plain in
    let count : c.len.result ≡ length held.trees.items - c.args.inner.first =
    c.len.ensures ∙ c.in_ok-list.list.ok.0 ∙ ap length c.in_ok-list.ensures.tail ∙ length-drop c.args.inner.first held.trees.items in
    omega arith

pub returns : goal.returns
returns g c bytes h =
    let law = is_spelling g.met.K.Lettered.laws g.met.P.Paired.laws in
    let held = c.args.held.now in let inner = c.args.inner in let ts = map plain held.trees.items in
    let s = c.in_ok-close.ensures in
    let is = c.in-Some.is in let p = c.in_ok-pairs.ensures in let q = rw is at p in
    let count : c.len.result ≡ length ts - inner.first =
    c.len.ensures ∙ c.in_ok-list.list.ok.0 ∙ ap length c.in_ok-list.ensures.tail ∙ length-drop inner.first held.trees.items
    ∙ ap (λ n. n - inner.first) (sym (length-map held.trees.items plain)) in
    let e = plain_from c.deref.result.now held.trees.items inner.first c.deref.ensures.value in
    let f = items_from c.deref-2.result.now held.least.items inner.first c.deref-2.ensures.value in
    let yes : IsTrue c.may_have.result = (let y = c.if-not-may_have.false in grind arith) in
    let both = c.may_have.ensures.0 yes in
    node_ended law bytes c.args.text.now inner held c.close.new.held c.in-Some.pairs.items s.least.0 c.in-Some.tail.now h
    (subst (λ us. MayHave g.K.Lettered.rules inner.kind (row us)) e both.0) (subst (AscendsIf (g.K.Lettered.rules.sorts inner.kind)) f both.1)
    (subst (λ b. IsEnd g.P.Paired.rules b (length ts - inner.first) c.args.text.now c.in-Some.pairs.items c.in-Some.tail.now) c.lists.ensures
    (subst (λ n. IsEnd g.P.Paired.rules c.lists.result n c.args.text.now c.in-Some.pairs.items c.in-Some.tail.now) count q)) s.least.1
    (s.trees held.trees.items c.in_ok-list.ensures.items c.in_ok-list.ensures.tail) s.least.2 s.opens s.seen

pub returns-in_default : goal.returns-in_default
returns-in_default g c bytes h =
    let law = is_spelling g.met.K.Lettered.laws g.met.P.Paired.laws in
    let held = c.args.held.now in let inner = c.args.inner in let ts = map plain held.trees.items in
    let is = c.in_default.is in let p = c.in_ok-pairs.ensures in let q = rw is at p in
    let size : c.len.result ≡ length (drop inner.first ts) =
    c.len.ensures ∙ c.in_ok-list.list.ok.0 ∙ ap length c.in_ok-list.ensures.tail ∙ sym (length-map (drop inner.first held.trees.items) plain)
    ∙ ap length (sym (drop-map plain inner.first held.trees.items)) in
    useless_end law bytes c.args.text.now inner held.opens.items ts h.comes c.requires.no_comma (subst (λ b. LacksEnd g.P.Paired.rules b (length (drop inner.first ts)) c.args.text.now) c.lists.ensures
    (subst (λ n. LacksEnd g.P.Paired.rules c.lists.result n c.args.text.now) size q))

pub close-requires : goal.close-requires
close-requires g c =
    let held = c.args.held.now in let inner = c.args.inner in
    let h = c.requires.inside.1 in
    let a = inside_first (is_spelling g.met.K.Lettered.laws g.met.P.Paired.laws) _ _ c.args.inner _ _ h.comes in
    let b = least_length _ _ h.kept.least in
    let some : inner.first < length held.least.items = omega arith in
    let all : length (map plain held.trees.items) ≡ length held.trees.items = length-map held.trees.items plain in
    let left : length c.take_from.new.trees.items ≡ inner.first = ap length c.in_ok-list.ensures.items ∙ length-take-le inner.first held.trees.items (omega arith) in
    let count = c.take_from.new.trees.ok.0 in
    let first : inner.first ≤ vec_len c.take_from.new.trees = omega arith in
    let f = items_from c.deref-2.result.now held.least.items inner.first c.deref-2.ensures.value in
    let yes : IsTrue c.may_have.result = (let y = c.if-not-may_have.false in grind arith) in
    let up = subst (AscendsIf (g.K.Lettered.rules.sorts inner.kind)) f (c.may_have.ensures.0 yes).1 in
    (search rules, (first, (some, up)))
