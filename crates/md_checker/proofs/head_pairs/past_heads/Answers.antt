use Rattle.std.proofs.Common.{◌≡◌, ◌++◌, [], ◌+◌, ◌-◌, ◌<◌, ◌*◌, get_or, length, take, drop, sym, ◌∙◌, ap, subst, rules, arith}
use Rattle.std.proofs.lemmas.List.{take-append-drop, take_rest}
use Rattle.std.proofs.lemmas.List.Elements.{All-from_get_or}
use Rattle.md_graph.specs.NameSet.{ascending_from}
use Rattle.md_blocks.specs.declared.target.Compared.{Compared}
use Rattle.md_blocks.proofs.Refusals.{no_beginning}
use Rattle.md_outline.specs.HeadPairs.{pairs_from}
use Rattle.md_outline.proofs.HeadPairs.{AreHeadsPut, heads_begin, heads_left, heads_more, near_is, near_there}
use Rattle.md_checker.proofs.HeadPairs.{found_all, found_or, found_other}
use Rattle.md_checker.proofs.head_pairs.past_heads.Goals as goal

pub from_list-all-requires : goal.from_list-all-requires
from_list-all-requires g c =
    (search rules, (All-from_get_or (λ v. v < 64 * g.row.W) c.args.heads.now 0 (λ i low. c.vertices-vertices.ensures.below (get_or c.args.heads.now i 0) (c.requires.heads.members i low)), search rules))

pub loop-position-init : goal.loop-position-init
loop-position-init g c = record {
  put =
      let lists = (g.G.TextGraph.view c.args.graph.now).lists in
      subst (λ l. AreHeadsPut g.P.Paired.rules lists c.args.heads.now 0 [] l 59 c.args.space.now.places)
      (sym (ap (λ n. take n c.new-compared.result.text.now ++ c.clear.new.self) c.new-compared.ensures.none ∙ c.clear.ensures.changed))
      (heads_begin g.P.Paired.rules lists c.args.heads.now [] c.args.space.now.places c.requires.places);
  text = c.new-compared.ensures.text;
}

pub put_row-requires : goal.put_row-requires
put_row-requires g c =
    let places = c.loop-position.space.places in
    let there = near_there (g.G.TextGraph.view c.args.graph.now).lists c.args.heads.now c.requires.heads.order (λ k low. c.vertices-vertices.ensures.view.names (get_or c.args.heads.now k 0) (c.requires.heads.members k low)) _ c.ahead-from.result.0.now c.and-near.result c.from_list-all.result c.ahead-from.result.1
    c.ahead-from.ensures.few c.from_list-all.ensures.members c.and-near.ensures.value c.ahead-from.ensures.row places c.loop-position.invariant.put.places in
    (search rules, ((let a = c.loop-position-test.true in let b = c.requires.few in omega arith), there))

pub loop-position-preserved : goal.loop-position-preserved
loop-position-preserved g c =
    let lists = (g.G.TextGraph.view c.args.graph.now).lists in
    let near = near_is lists c.args.heads.now c.requires.heads.order (λ k low. c.vertices-vertices.ensures.view.names (get_or c.args.heads.now k 0) (c.requires.heads.members k low)) _ c.ahead-from.result.0.now c.and-near.result c.from_list-all.result c.ahead-from.result.1
    c.ahead-from.ensures.few c.from_list-all.ensures.members c.and-near.ensures.value c.ahead-from.ensures.row in
    let is = c.in-Ok.is in
    let written = c.put_row.ensures.written in
    let text = c.put_row.ensures.text in
    let row_done = rw is at written in
    let same = rw is at text in
    record {
      put = heads_more g.P.Paired.rules lists c.args.heads.now c.loop-position.position c.loop-position-test.true [] (take c.loop-position.compared.same c.loop-position.compared.text.now ++ c.loop-position.space.chunk) c.loop-position.space.mark c.loop-position.space.places
          c.loop-position.invariant.put (take c.put_row.new.target.same c.put_row.new.target.text.now ++ c.put_row.new.space.chunk) c.put_row.new.space.mark c.put_row.new.space.places (ascending_from c.and-near.result c.ahead-from.result.1)
          c.put_row.ensures.places near row_done;
      text = same ∙ c.loop-position.invariant.text;
    }

pub returns-in-Err : goal.returns-in-Err
returns-in-Err g c tail whole =
    let lists = (g.G.TextGraph.view c.args.graph.now).lists in
    let i = c.loop-position.position in
    let near = near_is lists c.args.heads.now c.requires.heads.order (λ k low. c.vertices-vertices.ensures.view.names (get_or c.args.heads.now k 0) (c.requires.heads.members k low)) _ c.ahead-from.result.0.now c.and-near.result c.from_list-all.result c.ahead-from.result.1
    c.ahead-from.ensures.few c.from_list-all.ensures.members c.and-near.ensures.value c.ahead-from.ensures.row in
    let left = heads_left g.P.Paired.rules lists c.args.heads.now i c.loop-position-test.true [] (take c.loop-position.compared.same c.loop-position.compared.text.now ++ c.loop-position.space.chunk) c.loop-position.space.mark c.loop-position.space.places c.loop-position.invariant.put in
    let is = c.in-Err.is in
    let refused = c.put_row.ensures.refused in
    let fronts = rw is at refused in
    no_beginning (λ (t : Compared). t.same) (λ (t : Compared). t.text.now) (fronts lists (get_or c.args.heads.now i 0) 0 c.args.heads.now (pairs_from g.P.Paired.rules lists c.args.heads.now (i + 1) (drop (i + 1) c.args.heads.now)) c.loop-position.invariant.put.places near)
    tail (c.loop-position.invariant.text ∙ whole ∙ ap (λ l. l ++ tail) (sym left))

pub returns : goal.returns
returns g c =
    let lists = (g.G.TextGraph.view c.args.graph.now).lists in
    let text = c.args.text.now in
    let same = c.loop-position.compared.same in
    let front = take same c.loop-position.compared.text.now in
    let rest = take (length text - same) (drop same text) in
    let cut : front ++ rest ≡ text = ap (λ t. take same t ++ rest) c.loop-position.invariant.text ∙ ap (λ l. take same text ++ l) (take_rest text same) ∙ take-append-drop same text in
    found_or c.strip_from.result
    (λ x. found_all g.P.Paired.rules lists c.args.heads.now c.loop-position.position c.loop-position-test.false text front rest c.loop-position.space.chunk c.loop-position.space.mark c.loop-position.space.places cut c.loop-position.invariant.put x.now)
    (found_other g.P.Paired.rules lists c.args.heads.now c.loop-position.position c.loop-position-test.false text front rest c.loop-position.space.chunk c.loop-position.space.mark c.loop-position.space.places cut c.loop-position.invariant.put)
    c.strip_from.ensures.begins c.strip_from.ensures.other
