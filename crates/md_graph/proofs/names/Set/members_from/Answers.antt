use Rattle.md_graph.proofs.BitWords.{in_use_past}
use Rattle.std.proofs.Common.{refl, ◌≡◌, ◌*◌, ◌/◌, ◌∙◌, ap, subst, arith}
use Rattle.md_graph.specs.NameSet.{AllBelow, ascending_from}
use Rattle.md_graph.specs.Words.{members_left}
use Rattle.md_graph.specs.declared.TheConstants.{NAMES}
use Rattle.md_graph.proofs.Limits.{words_few}
use Rattle.md_graph.proofs.MemberLists.{members_left_from, members_left_past, ascending_limit, all_below, all_names}
use Rattle.md_graph.proofs.names.Set.members_from.Goals as goal

pub returns-then-used-at-clause-list : goal.returns-then-used-at-clause-list
returns-then-used-at-clause-list g c =
    let same : 64 * c.words_passed-used.result / 64 ≡ c.words_passed-used.result = omega arith in
    ap (λ k. members_left c.self.inside.words c.words_passed-used.result k 0) same
    ∙ members_left_past c.self.inside.words (64 * g.row.W) g.row.W c.words_passed-used.result c.args.v refl (in_use_past c.self.inside.words _ _ c.self.invariant.1 c.words_passed-used.ensures.all) c.if-used-at.true
    ∙ ascending_limit _ c.args.v _ (all_below c.self.inside.words (64 * g.row.W)) (words_few _ c.self.invariant.2)
    ∙ ap (λ s. ascending_from s c.args.v) c.self.view_is

pub returns-then-used-at-clause-names : goal.returns-then-used-at-clause-names
returns-then-used-at-clause-names g c = subst (λ s. AllBelow s NAMES) c.self.view_is (all_names c.self.inside.words g.row.W c.self.invariant.2)

pub returns-then-used-at-clause-below : goal.returns-then-used-at-clause-below
returns-then-used-at-clause-below g c = subst (λ s. AllBelow s (64 * g.row.W)) c.self.view_is (all_below c.self.inside.words (64 * g.row.W))

pub returns-clause-list : goal.returns-clause-list
returns-clause-list g c =
    let same : c.args.v / 64 * 64 / 64 ≡ c.args.v / 64 = omega arith in
    ap (λ k. members_left c.self.inside.words c.words_passed-used.result k c.from_place.result) same
    ∙ members_left_from c.self.inside.words (64 * g.row.W) g.row.W c.words_passed-used.result c.args.v c.from_place.result refl (in_use_past c.self.inside.words _ _ c.self.invariant.1 c.words_passed-used.ensures.all) c.words_passed-used.ensures.few (omega arith) c.from_place.ensures
    ∙ ascending_limit _ c.args.v _ (all_below c.self.inside.words (64 * g.row.W)) (words_few _ c.self.invariant.2)
    ∙ ap (λ s. ascending_from s c.args.v) c.self.view_is

pub returns-clause-names : goal.returns-clause-names
returns-clause-names g c = subst (λ s. AllBelow s NAMES) c.self.view_is (all_names c.self.inside.words g.row.W c.self.invariant.2)

pub returns-clause-below : goal.returns-clause-below
returns-clause-below g c = subst (λ s. AllBelow s (64 * g.row.W)) c.self.view_is (all_below c.self.inside.words (64 * g.row.W))
