use Rattle.std.proofs.Common.{◌≡◌, not, Bool, true, false}
use Rattle.std.proofs.lemmas.Bool.{false_from_ne_true}
use Rattle.md_graph.proofs.SetLemmas.{clash}
use Rattle.md_graph_tests.proofs.clients.can_part.Goals as goal

lacks_where : (has there : Bool) → has ≡ there → not has ≡ true → there ≡ false
lacks_where true there is lacks = absurd (let f : false ≡ true = lacks in cc)
lacks_where false there is lacks = cc

not_where : (has there : Bool) → has ≡ there → there ≡ false → not has ≡ true
not_where true there is lacks = absurd (cc)
not_where false there is lacks = cc

pub returns : goal.returns
returns g c =
    let least = c.closure.ensures.least in
    record {
      parted = (
        λ is. (c.closure.new.into, least.is_module, least.has_left, least.has_right, lacks_where _ _ c.has.ensures.value is),
        λ m. not_where _ _ c.has.ensures.value (false_from_ne_true _ (λ h. clash (least.least m.0 m.1 m.2 m.3 c.args.w h) m.4)),
      );
    }
