use Rattle.std.proofs.Common.{arith, ap, sym, ◌∙◌, ◌+◌, ◌∷◌, vec_len}
use Rattle.md_graph.specs.NameSet.{ascending}
use Rattle.md_graph.specs.declared.TheConstants.{NAMES}
use Rattle.md_graph.proofs.Limits.{words_few}
use Rattle.md_graph.proofs.NameLemmas.{walk_end}
use Rattle.md_dimacs.proofs.AscendingLemmas.{coming_at_start, coming_at, next_up, place_small}
use Rattle.md_dimacs.proofs.PlacesLemmas.{spelled_more}
use Rattle.md_dimacs.proofs.writer.spell_places.Goals as goal

pub loop-v-init : goal.loop-v-init
loop-v-init g c =
    let list = c.into_iter-v-iterator.ensures.into_iter_gives ∙ c.members-v-items.ensures.list ∙ ap ascending c.vertices-vertices.ensures.set in
    record {
      coming = coming_at_start c.args.graph.now.vertices (vec_len c.in_ok-places.places) _ c.in_ok-places.ensures.len list;
      named = omega (arith, c.in_ok-places.ensures.len);
      spelled = λ w m below. absurd (omega (arith, c.in_ok-places.ensures.len));
    }

pub overflow_add-place : goal.overflow_add-place
overflow_add-place g c =
    let small = place_small c.args.graph.now.vertices _ _ _ _ (next_up c.args.graph.now.vertices _ c.loop-v.place _ c.in-Some.v _ c.loop-v.invariant.coming c.in-Some.ensures.steps) in
    omega arith

pub number_piece-requires : goal.number_piece-requires
number_piece-requires g c =
    record { few = place_small c.args.graph.now.vertices _ _ _ _ (next_up c.args.graph.now.vertices _ c.loop-v.place _ c.in-Some.v _ c.loop-v.invariant.coming c.in-Some.ensures.steps) }

pub fill_up-requires : goal.fill_up-requires
fill_up-requires g c = (next_up c.args.graph.now.vertices _ c.loop-v.place _ c.in-Some.v _ c.loop-v.invariant.coming c.in-Some.ensures.steps).item.above

pub loop-v-preserved : goal.loop-v-preserved
loop-v-preserved g c =
    let up = next_up c.args.graph.now.vertices (vec_len c.loop-v.places) c.loop-v.place _ c.in-Some.v _ c.loop-v.invariant.coming c.in-Some.ensures.steps in
    record {
      coming = coming_at c.args.graph.now.vertices (c.in-Some.v + 1) (vec_len c.fill_up.new.places) (c.loop-v.place + 1) _ c.in_ok-fill_up.ensures.count up.after;
      named = let name = c.vertices-vertices.ensures.below c.in-Some.v up.item.member in omega (arith, c.in_ok-fill_up.ensures.count);
      spelled = λ w m below.
          let short = c.number_piece.ensures.short in
          spelled_more c.args.graph.now c.loop-v.places.items c.fill_up.new.places.items c.in_ok-fill_up.ensures.items.0 (vec_len c.loop-v.places) c.loop-v.place c.in-Some.v _ c.piece_behind-piece.result up c.loop-v.places.ok.0 c.in_ok-fill_up.ensures.items.1 (sym c.fill_up.new.places.ok.0 ∙ c.in_ok-fill_up.ensures.count)
          (c.piece_behind-piece.ensures.text ∙ ap (λ l. 32 ∷ l) c.number_piece.ensures.text) (omega (arith, c.piece_behind-piece.ensures.count)) c.loop-v.invariant.spelled w m (omega (arith, c.in_ok-fill_up.ensures.count));
    }

pub returns : goal.returns
returns g c =
    let few = words_few g.row.W c.vertices-vertices.ensures.limit in
    record {
      place_of = λ w m.
          c.loop-v.invariant.spelled w m
          (walk_end c.args.graph.now.vertices (vec_len c.loop-v.places) NAMES _ _ c.vertices-vertices.ensures.graph.names c.loop-v.invariant.coming.left c.in-None.ensures.steps w m);
      named = let count = c.loop-v.places.ok.0 in omega (arith, c.loop-v.invariant.named, few);
    }
