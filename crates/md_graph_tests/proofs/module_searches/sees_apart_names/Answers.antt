use Rattle.std.proofs.Common.{rules, ◌≡◌, true}
use Rattle.md_graph.proofs.SetLemmas.{meet_inside}
use Rattle.md_modules.proofs.Turns.{least_whole}
use Rattle.md_graph_tests.proofs.module_searches.sees_apart_names.Goals as goal

pub closure_in-requires : goal.closure_in-requires
closure_in-requires g c = (search rules, (search rules, (meet_inside c.set.result c.vertices.result.now _ c.and-within.result c.vertices.ensures.set c.and-within.ensures.value, (search rules, search rules))))

pub back-requires : goal.back-requires
back-requires g c =
    let none : c.is_empty.result ≡ true = search rules in (
      search rules,
      (
        search rules,
        (
          meet_inside c.set.result c.vertices.result.now _ c.and-within.result c.vertices.ensures.set c.and-within.ensures.value,
          (
            search rules,
            least_whole c.and-within.result c.closure_in.new.into c.minus-rest.result c.args.v c.args.j c.closure_in.ensures.least c.minus-rest.ensures.value (c.is_empty.ensures.exactly.0 none),
          ),
        ),
      ),
    )
