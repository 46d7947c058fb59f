use Rattle.std.proofs.Common.{sym, ◌∙◌, ap}
use Rattle.md_tree.specs.Plain.{plain_option}
use Rattle.md_outline.specs.Outlines.{outline_option}
use Rattle.md_cotree.proofs.Planted.{short_outline}
use Rattle.md_tree_tests.proofs.cotrees.outline_and_back.Goals as goal

pub tree_outline-requires : goal.tree_outline-requires
tree_outline-requires g c = record { short = short_outline _ (plain_option c.args.tree.now) (ap plain_option c.in-Some.is) c.requires.well_formed }

pub outline-requires : goal.outline-requires
outline-requires g c =
    let den =
    c.in_ok-cotree.ensures.denotes (plain_option c.args.tree.now) c.requires.well_formed c.requires.no_prime
    (c.deref.ensures.value ∙ c.in_ok-made.ensures.outline ∙ sym (ap (λ t. outline_option (plain_option t)) c.in-Some.is)) in
    record { sound = (den.0, den.1) }
