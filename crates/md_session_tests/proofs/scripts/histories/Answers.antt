use Rattle.std.proofs.Common.{◌≡◌, ◌∷◌, [], ◌∙◌, sym, subst, rules}
use Rattle.md_graph.specs.PlainGraph.{PlainGraph}
use Rattle.md_script.specs.declared.edit.Edit.TheVariants.{DelVertex}
use Rattle.md_script.specs.Pasts.{as_edit, MayBack, AnyGraph}
use Rattle.md_script.proofs.GroupLemmas.{one_goes_back}
use Rattle.md_session_tests.proofs.scripts.histories.Goals as goal

pub back_through-requires : goal.back_through-requires
back_through-requires g c =
    let opened : c.open_item.new.self.items ≡ [] ∷ [] = search rules in (
      search rules,
      (
        search rules,
        (
          (
            _,
            _,
            c.push.ensures.items [] [] opened,
            (one_goes_back 64 AnyGraph c.expect-graph.result c.apply.new.graph (DelVertex 1) _ tt c.inverse-past.ensures.back c.apply.ensures).may,
            search rules,
          ),
          search rules,
        ),
      ),
    )

pub take_item_back-requires-2 : goal.take_item_back-requires-2
take_item_back-requires-2 g c =
    let opened : c.open_item.new.self.items ≡ [] ∷ [] = search rules in
    let again = c.back_through.ensures.again in
    let same : c.take_item_back.new.graph ≡ c.apply.new.graph = c.take_item_back.ensures.graph again.0 [] again.1 ∙ again.3 in (
      search rules,
      (
        search rules,
        (
          _,
          _,
          c.push.ensures.items [] [] opened,
          subst (λ (k : PlainGraph). MayBack 64 AnyGraph k (as_edit c.inverse-past.result ∷ [])) (sym same)
              ((one_goes_back 64 AnyGraph c.expect-graph.result c.apply.new.graph (DelVertex 1) _ tt c.inverse-past.ensures.back c.apply.ensures).may),
        ),
      ),
    )
