use Rattle.std.proofs.Common.{◌≡◌, ◌∷◌, [], ◌++◌, length, map, subst, sym, ◌∙◌, ap, arith, append_assoc}
use Rattle.std.specs.FinSet.{intersection}
use Rattle.md_graph.specs.declared.TheConstants.{NAMES}
use Rattle.md_graph.specs.NameSet.{AllBelow, ascending}
use Rattle.md_graph.proofs.NameLemmas.{length-ascending}
use Rattle.md_graph.proofs.SetLemmas.{of_meet}
use Rattle.md_graph.proofs.Walks.{Walked-start, Walked-item, Walked-more}
use Rattle.md_decompose.specs.Heads.{pair_at}
use Rattle.md_decompose.proofs.quotient.push_near.Goals as goal

pub loop-other-init : goal.loop-other-init
loop-other-init g c =
    let near : c.and-near.result ≡ intersection c.args.row.now c.args.among.now = c.and-near.ensures.value in
    let listed : c.into_iter-other-iterator.result ≡ ascending c.and-near.result = c.into_iter-other-iterator.ensures.into_iter_gives ∙ c.members-other-items.ensures.list in
    let same : c.into_iter-other-iterator.result ≡ ascending (intersection c.args.row.now c.args.among.now) = listed ∙ ap ascending near in
    record {
      pushed = ap (λ xs. c.reserve.new.self.items ++ map (pair_at g.P.Paired.rules c.args.places.now c.args.head) xs) same;
      walked = Walked-start same (subst (λ s. AllBelow s NAMES) near c.members-other-items.ensures.names);
      room = (
          let size = ap length listed ∙ length-ascending c.and-near.result NAMES c.members-other-items.ensures.names in
          let ok = c.in_ok-reserve.ensures.ok in
          let count = c.count.ensures.value in
          omega arith);
    }

pub bounds-places-other : goal.bounds-places-other
bounds-places-other g c =
    c.requires.room c.in-Some.other (of_meet c.args.row.now c.args.among.now c.in-Some.other (Walked-item c.loop-other.invariant.walked c.in-Some.other _ c.in-Some.ensures.steps)).1

pub loop-other-preserved : goal.loop-other-preserved
loop-other-preserved g c =
    let pair_of = pair_at g.P.Paired.rules c.args.places.now c.args.head in
    let rest = map pair_of c.next.new.self in
    record {
      pushed = ap (λ ps. ps ++ rest) (c.push_reserved.ensures.items ∙ ap (λ p. c.loop-other.pairs.items ++ p ∷ []) c.pair.ensures)
          ∙ append_assoc c.loop-other.pairs.items (pair_of c.in-Some.other ∷ []) rest
          ∙ ap (λ xs. c.loop-other.pairs.items ++ map pair_of xs) (sym c.in-Some.ensures.steps) ∙ c.loop-other.invariant.pushed;
      walked = Walked-more c.loop-other.invariant.walked c.in-Some.other _ c.in-Some.ensures.steps tt;
      room = (
          let room = c.loop-other.invariant.room in
          let one_less = ap length c.in-Some.ensures.steps in
          let longer = c.push_reserved.ensures.len in
          let same = c.push_reserved.ensures.capacity in
          omega arith);
    }
