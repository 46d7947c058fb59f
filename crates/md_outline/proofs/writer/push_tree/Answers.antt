use Rattle.std.proofs.Common.{length, ◌++◌, ◌+◌, ◌∙◌, append-nil, drop, sym, ap, subst, inr, rules, arith}
use Rattle.std.proofs.lemmas.List.{drop_all, drop_more}
use Rattle.std.proofs.lemmas.List.Elements.{All-get_or}
use Rattle.md_graph.specs.PlainGraph.{adjacent}
use Rattle.md_tree.specs.TreeTexts.{tree_text}
use Rattle.md_outline.specs.declared.outline.OutlinePart.TheVariants.{Name}
use Rattle.md_outline.specs.BegunNodes.{IsPartBelow, MayGoOn}
use Rattle.md_outline.proofs.Writing.{ready_none, may_begin, all_written}
use Rattle.md_outline.proofs.writer.push_tree.Goals as goal

pub loop-next-init : goal.loop-next-init
loop-next-init g c = record {
  ready = ready_none c.clear.new.self.items c.clear.ensures.items;
  written = λ t each are.
      subst (λ l. MayGoOn (adjacent c.args.graph.now) c.args.graph.now.vertices (c.args.text.now.items ++ tree_text t) l c.args.parts.now c.clear.new.self.items c.clear-2.new.self.items)
      (sym (ap (λ l. c.args.text.now.items ++ l) c.clear-3.ensures.changed ∙ append-nil c.args.text.now.items))
      (may_begin (adjacent c.args.graph.now) c.args.graph.now.vertices c.args.text.now.items c.args.parts.now c.clear.new.self.items c.clear-2.new.self.items t c.clear.ensures.items c.clear-2.ensures.items each are);
}

pub put_part-requires : goal.put_part-requires
put_part-requires g c = record {
  numerals = c.requires.numerals;
  below = All-get_or (IsPartBelow (length c.args.numerals.now)) c.args.parts.now c.loop-next.next (Name 0) c.loop-next-test.true c.requires.below;
  ready = c.loop-next.invariant.ready;
}

pub put_ends-requires : goal.put_ends-requires
put_ends-requires g c =
    let e = adjacent c.args.graph.now in
    let s = c.args.graph.now.vertices in
    let whole = c.args.text.now.items ++ tree_text c.requires.tree.0 in
    let go = c.loop-next.invariant.written c.requires.tree.0 c.requires.tree.1 c.requires.tree.2 in (
      search rules,
      (
        whole,
        drop c.in_ok-next.next c.args.parts.now,
        c.in_ok-next.ensures.written e s whole (c.in_ok-put_part.ensures e s whole (drop (c.loop-next.next + 1) c.args.parts.now)
            (subst (λ l. MayGoOn e s whole (c.loop-next.text.items ++ c.loop-next.progress.pairs.chunk) l c.loop-next.progress.begun.items c.loop-next.progress.heads.items) (drop_more c.args.parts.now c.loop-next.next _ (grind (arith, c.loop-next-test.true))) go)),
      ),
    )

pub loop-next-preserved : goal.loop-next-preserved
loop-next-preserved g c =
    let e = adjacent c.args.graph.now in
    let s = c.args.graph.now.vertices in
    record {
      ready = c.in_ok-put_ends.ensures.ready;
      written = λ t each are.
          let whole = c.args.text.now.items ++ tree_text t in
          inr (c.in_ok-put_ends.ensures.written whole (drop c.in_ok-next.next c.args.parts.now) (c.in_ok-next.ensures.written e s whole (c.in_ok-put_part.ensures e s whole (drop (c.loop-next.next + 1) c.args.parts.now)
          (subst (λ l. MayGoOn e s whole (c.loop-next.text.items ++ c.loop-next.progress.pairs.chunk) l c.loop-next.progress.begun.items c.loop-next.progress.heads.items) (drop_more c.args.parts.now c.loop-next.next _ (grind (arith, c.loop-next-test.true))) (c.loop-next.invariant.written t each are)))));
    }

pub returns : goal.returns
returns g c t each are =
    c.in_ok-flush.ensures.appended
    ∙ all_written (adjacent c.args.graph.now) c.args.graph.now.vertices (c.args.text.now.items ++ tree_text t) (c.loop-next.text.items ++ c.loop-next.progress.pairs.chunk) c.loop-next.progress.begun.items c.loop-next.progress.heads.items c.loop-next.invariant.ready
    (subst (λ l. MayGoOn (adjacent c.args.graph.now) c.args.graph.now.vertices (c.args.text.now.items ++ tree_text t) (c.loop-next.text.items ++ c.loop-next.progress.pairs.chunk) l c.loop-next.progress.begun.items c.loop-next.progress.heads.items)
    (drop_all c.loop-next.next c.args.parts.now (grind (arith, c.loop-next-test.false))) (c.loop-next.invariant.written t each are))
