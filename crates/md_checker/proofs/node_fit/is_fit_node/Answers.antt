use Rattle.std.proofs.Common.{cond, [], sym, ◌∙◌, subst, rules}
use Rattle.md_graph.proofs.SetLemmas.{clash}
use Rattle.md_tree.proofs.Stacking.{if_ok}
use Rattle.md_checker.specs.FitTests.{AreJoinedBy}
use Rattle.md_outline.specs.HeadPairs.{head_pairs}
use Rattle.md_checker.specs.TextViews.{StandForChildren}
use Rattle.md_checker.proofs.node_fit.is_fit_node.Goals as goal

pub is_prime_fit-requires : goal.is_prime_fit-requires
is_prime_fit-requires g c =
    let view = g.G.TextGraph.view c.args.graph.now in
    let lists = sym c.lists.ensures ∙ c.if-lists.true in
    (search rules, subst (λ b. StandForChildren view.vertices b c.args.heads.now) (c.vertices-vertices.ensures.view.sorts c.args.kind lists) c.requires.heads)

pub are_twins-requires : goal.are_twins-requires
are_twins-requires g c = (search rules, (sym c.lists.ensures ∙ c.if-lists.false, (c.requires.heads, c.requires.live)))

pub returns-then-lists : goal.returns-then-lists
returns-then-lists g c =
    let view = g.G.TextGraph.view c.args.graph.now in
    let is_view = c.vertices-vertices.ensures.view in
    let heads = c.args.heads.now in
    let lists = sym c.lists.ensures ∙ c.if-lists.true in
    let stand = subst (λ b. StandForChildren view.vertices b heads) (is_view.sorts c.args.kind lists) c.requires.heads in
    let joined =
    subst (λ b. AreJoinedBy (view.puts c.args.kind (cond b (head_pairs g.P.Paired.rules view.lists heads) [])) view.colours heads) (sym lists) (is_view.joined c.args.kind lists heads stand) in
    record {
      others = if_ok c.is_prime_fit.result (λ fit told yes. c.is_prime_fit.ensures.others) c.is_prime_fit.ensures.fit;
      fit = if_ok c.is_prime_fit.result (λ fit told yes. let two = told.0 yes in record { alike = two.0; joined = joined; trivial = λ prime. two.1 }) c.is_prime_fit.ensures.fit;
      unfit = if_ok c.is_prime_fit.result
          (λ fit told others are fits. told.1 (λ i y below h. fits.alike i y below ((are y).1 ((c.is_prime_fit.ensures.others y).0 h)), fits.trivial ((is_view.listing c.args.kind).0 lists))) c.is_prime_fit.ensures.fit;
    }

pub returns : goal.returns
returns g c =
    let view = g.G.TextGraph.view c.args.graph.now in
    let is_view = c.vertices-vertices.ensures.view in
    let heads = c.args.heads.now in
    let none = sym c.lists.ensures ∙ c.if-lists.false in
    record {
      others = c.are_twins.ensures.others;
      fit = λ yes. record {
        alike = c.are_twins.ensures.alike yes;
        joined = subst (λ b. AreJoinedBy (view.puts c.args.kind (cond b (head_pairs g.P.Paired.rules view.lists heads) [])) view.colours heads) (sym none) (c.are_twins.ensures.joined yes);
        trivial = λ prime. clash ((is_view.listing c.args.kind).1 prime) none;
      };
      unfit = λ others are fits. c.are_twins.ensures.other others are fits.alike
          (subst (λ b. AreJoinedBy (view.puts c.args.kind (cond b (head_pairs g.P.Paired.rules view.lists heads) [])) view.colours heads) none fits.joined);
    }
