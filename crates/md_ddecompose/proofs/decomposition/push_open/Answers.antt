use Rattle.std.proofs.Common.{◌≡◌, [], ◌∷◌, ◌++◌, map, refl, sym, ◌∙◌, ap, append_assoc, append-nil}
use Rattle.std.proofs.lemmas.List.{nil_from_length, map-append}
use Rattle.md_graph.specs.Sets.{NameSet}
use Rattle.md_ddecompose.specs.declared.decomposition.Open.{Open}
use Rattle.md_ddecompose.specs.Turns.{open_below}
use Rattle.md_ddecompose.proofs.decomposition.push_open.Goals as goal

pub loop-names-init : goal.loop-names-init
loop-names-init g c = record { behind = sym (append-nil c.args.waiting.now.items); left = refl }

pub loop-names-preserved : goal.loop-names-preserved
loop-names-preserved g c =
    let yielded = c.loop-names.yielded in
    let names = c.in-Some.names in
    let begun = c.args.waiting.now.items in
    let below : NameSet → Open g.row.W = open_below c.args.kind in
    record {
      behind = c.in_ok-push.ensures.items ∙ ap (λ os. os ++ below names ∷ []) c.loop-names.invariant.behind ∙ append_assoc begun (map below yielded) (below names ∷ [])
          ∙ ap (λ os. begun ++ os) (sym (map-append below yielded (names ∷ [])));
      left = append_assoc yielded (names ∷ []) c.next.new.self.rest.items ∙ ap (λ ns. yielded ++ ns) (sym c.in-Some.ensures.steps.0) ∙ c.loop-names.invariant.left;
    }

pub returns : goal.returns
returns g c =
    let yielded = c.loop-names.yielded in
    let left = c.loop-names.names-iterator.rest in
    let none : left.items ≡ [] = nil_from_length left.items (sym left.ok.0 ∙ c.in-None.ensures.steps.0) in
    let all : yielded ≡ c.args.sets.items =
    sym (append-nil yielded) ∙ ap (λ ns. yielded ++ ns) (sym none) ∙ c.loop-names.invariant.left ∙ c.into_iter-names-iterator.ensures.into_iter_gives.0
    in
    let below : NameSet → Open g.row.W = open_below c.args.kind in
    c.loop-names.invariant.behind ∙ ap (λ ns. c.args.waiting.now.items ++ map below ns) all
