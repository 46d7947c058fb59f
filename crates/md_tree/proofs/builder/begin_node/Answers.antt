use Rattle.std.proofs.Common.{◌≡◌, ◌<◌, ◌≤◌, ◌*◌, ◌^◌, [], ◌∷◌, ◌++◌, length, map, sym, ◌∙◌, ap, subst, arith}
use Rattle.std.proofs.Math.Facts.{Fits-of_lt}
use Rattle.std.proofs.lemmas.List.{length-map}
use Rattle.std.specs.Int.{w32}
use Rattle.md_tree.specs.Plain.{plain}
use Rattle.md_tree.specs.Held.{IsDue}
use Rattle.md_graph.proofs.Limits.{NAMES-lt, words_few}
use Rattle.md_tree.specs.Spellings.{spelling}
use Rattle.md_tree.proofs.Spelled.{is_spelling}
use Rattle.md_tree.proofs.Coming.{due_node, few_held, useless_deep, useless_letter}
use Rattle.md_text.proofs.FrontLemmas.{shorter_tail}
use Rattle.md_tree.proofs.builder.begin_node.Goals as goal

pub returns-then-len : goal.returns-then-len
returns-then-len g c bytes h =
    let law = is_spelling g.met.K.Lettered.laws g.met.P.Paired.laws in
    let count = c.len.ensures in let all = c.args.held.now.opens.ok.0 in let many = c.if-len.true in
    useless_deep law bytes _ _ _ h.comes (omega arith)

pub overflow_cast-first : goal.overflow_cast-first
overflow_cast-first g c =
    let law = is_spelling g.met.K.Lettered.laws g.met.P.Paired.laws in
    let held = c.args.held.now in
    let few : length (map plain held.trees.items) ≤ 64 * g.row.W = few_held law _ _ _ c.requires.built.1.kept in
    let all : length (map plain held.trees.items) ≡ length held.trees.items = length-map held.trees.items plain in
    let count : c.len-first.result ≡ length held.trees.items = c.len-first.ensures ∙ held.trees.ok.0 in
    let names = words_few g.row.W c.within_limit.ensures.limit in let all_names = NAMES-lt in
    let fits : c.len-first.result < 2 ^ 32 = omega arith in
    Fits-of_lt {w = w32} fits

pub returns-in_ok-append-in-Ok : goal.returns-in_ok-append-in-Ok
returns-in_ok-append-in-Ok g c bytes h =
    let sp = spelling g.K.Lettered.rules g.P.Paired.rules in let law = is_spelling g.met.K.Lettered.laws g.met.P.Paired.laws in
    let ts = map plain c.args.held.now.trees.items in
    let first : length ts ≡ c.len-first.result = length-map c.args.held.now.trees.items plain ∙ sym c.args.held.now.trees.ok.0 ∙ sym c.len-first.ensures in
    let text = c.requires.letter ∙ ap (λ w. g.K.Lettered.rules.letter c.args.kind ∷ w) c.in-Ok.ensures.on in (
      record {
        kept = h.kept;
        comes = subst (λ os. IsDue sp bytes c.in-Ok.tail.now os ts)
            (ap (λ n. c.args.held.now.opens.items ++ record { kind = c.args.kind; first = n } ∷ []) first ∙ sym c.in_ok-append-in-Ok.ensures)
            (due_node law bytes c.args.text.now c.args.held.now.opens.items ts c.args.kind c.in-Ok.tail.now h.comes text);
      },
      (let a = shorter_tail (g.K.Lettered.rules.letter c.args.kind) _ _ c.requires.letter in let b = shorter_tail 40 _ _ c.in-Ok.ensures.on in omega arith),
    )

pub returns-in-Err : goal.returns-in-Err
returns-in-Err g c bytes h =
    let law = is_spelling g.met.K.Lettered.laws g.met.P.Paired.laws in
    useless_letter law bytes _ _ _ c.args.kind c.args.behind.now h.comes c.requires.letter c.in-Err.ensures.other
