use Rattle.std.proofs.Common.{◌≡◌, ◌≤◌, ◌+◌, ◌*◌, ◌∷◌, ◌++◌, [], length, map, refl, inl, inr, sym, ◌∙◌, ap, subst, arith, rules, append_assoc, append-nil}
use Rattle.std.proofs.lemmas.Bool.{cases_Bool}
use Rattle.std.proofs.lemmas.List.{nil_from_length, length_push, map-append}
use Rattle.std.specs.List.{sum_by}
use Rattle.std.specs.FinSet.{len}
use Rattle.md_graph.proofs.SetLemmas.{clash}
use Rattle.md_digraph.specs.declared.TheConstants.{DIRECTED_NAMES}
use Rattle.md_digraph.specs.PlainDigraph.{has_arc_to}
use Rattle.md_dtree.specs.Balance.{arcs_from, arcs_to}
use Rattle.md_ddecompose.specs.Ranks.{name_of, HasItsLag}
use Rattle.md_ddecompose.proofs.CutLemmas.{IsCutUpTo, cut_begins, next_name, has_lag, r_in, turn_cuts, turn_goes_on, turn_bounds, sums_more, cut_ends}
use Rattle.md_graph.proofs.NameLemmas.{few_names}
use Rattle.md_ddecompose.proofs.RankLemmas.{few_lags}
use Rattle.md_ddecompose.proofs.order_parts.cut_ranks.Goals as goal

pub loop-ranked-init : goal.loop-ranked-init
loop-ranked-init g c = record {
  cut = cut_begins (has_arc_to c.args.graph.now) c.args.set.now c.none-part.result c.new-parts.result.items c.none-part.ensures.value c.new-parts.ensures.items;
  left = refl;
  sums = refl;
  counted = refl;
  few = omega arith;
  ended = λ _. c.none-part.ensures.value;
}

pub insert-requires : goal.insert-requires
insert-requires g c =
    let rest = c.next.new.self.rest.items in
    let done = c.loop-ranked.yielded in
    let r = c.in-Some.ranked in
    let whole : done ++ r ∷ rest ≡ c.args.ranks.items =
    ap (λ ns. done ++ ns) (sym c.in-Some.ensures.steps.0) ∙ c.loop-ranked.invariant.left ∙ c.into_iter-ranked-iterator.ensures.into_iter_gives.0
    in
    (search rules, c.vertices-vertices.ensures.below r.name (c.requires.inside r.name (next_name (has_arc_to c.args.graph.now) c.args.set.now c.args.ranks.items done rest r c.requires.ranked whole)))

pub overflow_add-lags : goal.overflow_add-lags
overflow_add-lags g c =
    let inv = c.loop-ranked.invariant in
    let is =
    turn_bounds (has_arc_to c.args.graph.now) c.args.set.now c.args.ranks.items c.loop-ranked.yielded c.next.new.self.rest.items c.in-Some.ranked c.requires.ranked
    (ap (λ ns. c.loop-ranked.yielded ++ ns) (sym c.in-Some.ensures.steps.0) ∙ inv.left ∙ c.into_iter-ranked-iterator.ensures.into_iter_gives.0)
    (few_names c.args.set.now DIRECTED_NAMES (λ x h. c.vertices-vertices.ensures.digraph.names x (c.requires.inside x h))) in
    omega (arith, is.small, is.one, is.all, inv.few, inv.counted)

pub is_cut-cut-requires-clause-lags : goal.is_cut-cut-requires-clause-lags
is_cut-cut-requires-clause-lags g c =
    let inv = c.loop-ranked.invariant in
    let is =
    turn_bounds (has_arc_to c.args.graph.now) c.args.set.now c.args.ranks.items c.loop-ranked.yielded c.next.new.self.rest.items c.in-Some.ranked c.requires.ranked
    (ap (λ ns. c.loop-ranked.yielded ++ ns) (sym c.in-Some.ensures.steps.0) ∙ inv.left ∙ c.into_iter-ranked-iterator.ensures.into_iter_gives.0)
    (few_names c.args.set.now DIRECTED_NAMES (λ x h. c.vertices-vertices.ensures.digraph.names x (c.requires.inside x h))) in
    omega (arith, is.small, is.one, is.all, inv.few, inv.counted)

pub is_cut-cut-requires-clause-count : goal.is_cut-cut-requires-clause-count
is_cut-cut-requires-clause-count g c =
    let inv = c.loop-ranked.invariant in
    let is =
    turn_bounds (has_arc_to c.args.graph.now) c.args.set.now c.args.ranks.items c.loop-ranked.yielded c.next.new.self.rest.items c.in-Some.ranked c.requires.ranked
    (ap (λ ns. c.loop-ranked.yielded ++ ns) (sym c.in-Some.ensures.steps.0) ∙ inv.left ∙ c.into_iter-ranked-iterator.ensures.into_iter_gives.0)
    (few_names c.args.set.now DIRECTED_NAMES (λ x h. c.vertices-vertices.ensures.digraph.names x (c.requires.inside x h))) in
    omega (arith, is.small, is.one, is.all, inv.few, inv.counted, c.len-count.ensures ∙ c.args.ranks.ok.0)

pub loop-ranked-preserved : goal.loop-ranked-preserved
loop-ranked-preserved g c =
    let arc = has_arc_to c.args.graph.now in
    let s = c.args.set.now in
    let rs = c.args.ranks.items in
    let are = c.requires.ranked in
    let inv = c.loop-ranked.invariant in
    let done = c.loop-ranked.yielded in
    let rest = c.next.new.self.rest.items in
    let r = c.in-Some.ranked in
    let part = c.loop-ranked.part in
    let parts = c.loop-ranked.parts.items in
    let lags = c.loop-ranked.lags + r.lag in
    let first = c.loop-ranked.first + 1 in
    let whole : done ++ r ∷ rest ≡ rs = ap (λ ns. done ++ ns) (sym c.in-Some.ensures.steps.0) ∙ inv.left ∙ c.into_iter-ranked-iterator.ensures.into_iter_gives.0 in
    let lag : HasItsLag arc s r = has_lag arc s rs done rest r are whole r (r_in arc s rs done rest r are whole) in
    let names : map name_of (done ++ r ∷ []) ≡ map name_of done ++ r.name ∷ [] = map-append name_of done (r ∷ []) in
    let sums = sums_more arc s (map name_of done) r c.loop-ranked.lags c.loop-ranked.first lag inv.sums in
    let counted : first ≡ length done + 1 = ap (λ n. n + 1) inv.counted in
    let all = c.len-count.ensures ∙ c.args.ranks.ok.0 in
    let few : len s ≤ DIRECTED_NAMES = few_names s DIRECTED_NAMES (λ x h. c.vertices-vertices.ensures.digraph.names x (c.requires.inside x h)) in
    let small : r.lag ≤ 2 * DIRECTED_NAMES = few_lags arc s r few lag in
    let before : c.loop-ranked.lags ≤ c.loop-ranked.first * (2 * DIRECTED_NAMES) = inv.few in
    record {
      cut = elim (cases_Bool c.is_cut-cut.result) [
        | inl t ↦
            turn_cuts arc s rs done rest r are whole part parts inv.cut lags first c.len-count.result sums counted all c.insert.new.self c.end_part.new.part c.end_part.new.parts.items
            (c.is_cut-cut.ensures.0 t) c.insert.ensures.changed (c.in_ok-end_part.ensures.cut t).0 (c.in_ok-end_part.ensures.cut t).1
        | inr f ↦
            subst (IsCutUpTo arc s (map name_of (done ++ r ∷ [])) c.end_part.new.part) (sym (c.in_ok-end_part.ensures.uncut f).1)
            (turn_goes_on arc s rs done rest r are whole part parts inv.cut lags first c.len-count.result sums counted all c.end_part.new.part
            ((c.in_ok-end_part.ensures.uncut f).0 ∙ c.insert.ensures.changed) (λ test. clash (c.is_cut-cut.ensures.1 test) f))
      ];
      left = append_assoc done (r ∷ []) rest ∙ ap (λ ns. done ++ ns) (sym c.in-Some.ensures.steps.0) ∙ inv.left;
      sums = subst (λ xs. lags + sum_by (arcs_from arc s) xs ≡ sum_by (arcs_to arc s) xs + first * DIRECTED_NAMES) (sym names) sums;
      counted = counted ∙ sym (length_push done r);
      few = omega arith;
      ended = λ last. elim (cases_Bool c.is_cut-cut.result) [
        | inl t ↦ (c.in_ok-end_part.ensures.cut t).0
        | inr f ↦ clash (c.is_cut-cut.ensures.1 (inl last)) f
      ];
    }

pub returns : goal.returns
returns g c =
    let inv = c.loop-ranked.invariant in
    let done = c.loop-ranked.yielded in
    let left = c.loop-ranked.ranked-iterator.rest in
    let none : left.items ≡ [] = nil_from_length left.items (sym left.ok.0 ∙ c.in-None.ensures.steps.0) in
    let all : done ≡ c.args.ranks.items = sym (append-nil done) ∙ ap (λ ns. done ++ ns) (sym none) ∙ inv.left ∙ c.into_iter-ranked-iterator.ensures.into_iter_gives.0 in
    cut_ends (has_arc_to c.args.graph.now) c.args.set.now c.args.ranks.items done c.loop-ranked.part c.loop-ranked.parts.items c.requires.ranked all inv.cut
    (inv.ended (inv.counted ∙ ap (λ qs. length qs) all ∙ sym (c.len-count.ensures ∙ c.args.ranks.ok.0)))
