use Rattle.std.proofs.Common.{◌∷◌, [], ◌++◌, get_or, map, sym, ◌∙◌, ap, arith, append_assoc}
use Rattle.std.proofs.lemmas.List.{map-append, take_more}
use Rattle.md_graph.specs.Sets.{only_name}
use Rattle.md_outline.specs.declared.outline.OutlinePart.TheVariants.{Name}
use Rattle.md_decompose.proofs.outline.push_names.Goals as goal

pub loop-place-preserved : goal.loop-place-preserved
loop-place-preserved g c =
    let pushed = c.loop-place.invariant in
    let name = c.in-Some.name in (
      pushed.0 ++ name ∷ [],
      take_more c.args.sets.now c.loop-place.place c.index-sets-place.result (omega arith)
          ∙ ap (λ ss. ss ++ get_or c.args.sets.now c.loop-place.place c.index-sets-place.result ∷ []) pushed.1
          ∙ ap (λ s. map only_name pushed.0 ++ s ∷ []) (sym c.index-sets-place.is ∙ c.in-Some.ensures.one)
          ∙ sym (map-append only_name pushed.0 (name ∷ [])),
      omega arith,
      c.in_ok-push.ensures.items ∙ ap (λ ps. ps ++ Name name ∷ []) pushed.3 ∙ append_assoc c.args.parts.now.items (map Name pushed.0) (Name name ∷ [])
          ∙ ap (λ ps. c.args.parts.now.items ++ ps) (sym (map-append Name pushed.0 (name ∷ []))),
    )
