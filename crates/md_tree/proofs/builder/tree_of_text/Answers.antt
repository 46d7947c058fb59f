use Rattle.std.proofs.Common.{◌≡◌, ◌*◌, [], Some, sym, ◌∙◌, ap, subst, map}
use Rattle.md_tree.specs.Plain.{plain}
use Rattle.md_tree.specs.TreeTexts.{tree_text_by}
use Rattle.md_tree.specs.WellFormed.{IsWellFormedBelow}
use Rattle.md_tree.specs.Held.{AreKept, IsDue}
use Rattle.md_tree.specs.Spellings.{spelling}
use Rattle.md_tree.proofs.Spelled.{is_spelling}
use Rattle.md_tree.proofs.Stacking.{popped_only}
use Rattle.md_tree.proofs.Holding.{kept_none}
use Rattle.md_tree.proofs.Coming.{due_start}
use Rattle.md_tree.proofs.builder.tree_of_text.Goals as goal

pub loop-held-init : goal.loop-held-init
loop-held-init g c =
    let sp = spelling g.K.Lettered.rules g.P.Paired.rules in let law = is_spelling g.met.K.Lettered.laws g.met.P.Paired.laws in
    let trees = ap (map plain) c.in_ok-with_capacity.ensures.items in
    let bytes = c.args.bytes.now in
    record {
      kept = subst (λ us. AreKept sp (64 * g.row.W) us c.in_ok-with_capacity-2.field-0.items c.none.result) (sym trees)
          (subst (λ ms. AreKept sp (64 * g.row.W) [] ms c.none.result) (sym c.in_ok-with_capacity-2.ensures.items) (subst (AreKept sp (64 * g.row.W) [] []) (sym c.none.ensures.value) (kept_none law)));
      comes = subst (λ us. IsDue sp bytes bytes c.in_ok-with_capacity-3.field-0.items us) (sym trees)
          (subst (λ os. IsDue sp bytes bytes os []) (sym c.in_ok-with_capacity-3.ensures.items) (due_start law bytes));
    }

pub loop-held-smaller : goal.loop-held-smaller
loop-held-smaller g c =
    let is = c.in-Onward.is in let p = c.in_ok-tail.ensures c.args.bytes.now c.loop-held.invariant in let q = rw is at p in
    q.1

pub loop-held-preserved : goal.loop-held-preserved
loop-held-preserved g c =
    let is = c.in-Onward.is in let p = c.in_ok-tail.ensures c.args.bytes.now c.loop-held.invariant in let q = rw is at p in
    q.0

pub returns-in-Useless : goal.returns-in-Useless
returns-in-Useless g c =
    let is = c.in-Useless.is in let p = c.in_ok-tail.ensures c.args.bytes.now c.loop-held.invariant in let q = rw is at p in
    q

pub returns-in-End : goal.returns-in-End
returns-in-End g c =
    let sp = spelling g.K.Lettered.rules g.P.Paired.rules in
    let is = c.in-End.is in let p = c.in_ok-tail.ensures c.args.bytes.now c.loop-held.invariant in let q = rw is at p in
    let trees = c.take_step.new.held.trees in
    popped_only trees.items c.pop.new.self.items c.pop.result q.tree (λ t. IsWellFormedBelow sp (64 * g.row.W) (Some t) × (c.args.bytes.now ≡ tree_text_by sp t)) _ q.only c.pop.ensures.items
    (λ none. let e = c.pop.ensures.cases in let z = rw none at e in sym trees.ok.0 ∙ z.0) (q.good, q.text)
