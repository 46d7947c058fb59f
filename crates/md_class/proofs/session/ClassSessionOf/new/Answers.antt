use Rattle.std.proofs.Common.{false, refl, subst}
use Rattle.md_cograph.proofs.OutlinedCographs.{cograph_parts, cotree_outline, outline_denotes}
use Rattle.md_class.specs.ClassAnswers.{IsFitOf}
use Rattle.md_class.proofs.session.ClassSessionOf.new.Goals as goal

pub unreachable-requires : goal.unreachable-requires
unreachable-requires g c =
    let yes = c.has_no_prime_part.ensures.no_prime.1
    (cograph_parts c.args.graph c.vertices-vertices.ensures.graph c.in_ok-parts.parts.items c.deref.result.now c.deref.result.now c.in_ok-parts.ensures.outline c.deref.ensures.value c.deref.ensures.value
    c.in-None.ensures.none) in
    let fails = c.if-not-has_no_prime_part.true in
    absurd (cc)

pub from_outline-requires : goal.from_outline-requires
from_outline-requires g c = record {
  tree =
      cotree_outline c.args.graph c.vertices-vertices.ensures.graph c.in_ok-parts.parts.items c.deref.result.now c.deref-2.result.now c.in_ok-parts.ensures.outline
      c.deref.ensures.value c.deref-2.ensures.value (c.has_no_prime_part.ensures.no_prime.0 c.if-not-has_no_prime_part.false);
}

pub fit_of-requires : goal.fit_of-requires
fit_of-requires g c =
    let den = outline_denotes c.args.graph c.vertices-vertices.ensures.graph c.in_ok-parts.parts.items c.deref.result.now c.deref-2.result.now c.in_ok-parts.ensures.outline
    c.deref.ensures.value c.deref-2.ensures.value (c.has_no_prime_part.ensures.no_prime.0 c.if-not-has_no_prime_part.false) c.in_ok-tree.tree c.in_ok-tree.ensures.denotes in
    (c.args.graph, den)

pub returns-in-Bar : goal.returns-in-Bar
returns-in-Bar g c =
    let den = outline_denotes c.args.graph c.vertices-vertices.ensures.graph c.in_ok-parts.parts.items c.deref.result.now c.deref-2.result.now c.in_ok-parts.ensures.outline
    c.deref.ensures.value c.deref-2.ensures.value (c.has_no_prime_part.ensures.no_prime.0 c.if-not-has_no_prime_part.false) c.in_ok-tree.tree c.in_ok-tree.ensures.denotes in
    record { opened = subst (IsFitOf c.args.class false c.args.graph) c.in-Bar.is (c.in_ok-bar.ensures c.args.graph den) }

pub invariant_of-result : goal.invariant_of-result
invariant_of-result g c =
    let den = outline_denotes c.args.graph c.vertices-vertices.ensures.graph c.in_ok-parts.parts.items c.deref.result.now c.deref-2.result.now c.in_ok-parts.ensures.outline
    c.deref.ensures.value c.deref-2.ensures.value (c.has_no_prime_part.ensures.no_prime.0 c.if-not-has_no_prime_part.false) c.in_ok-tree.tree c.in_ok-tree.ensures.denotes in
    let so = subst (IsFitOf c.args.class false c.args.graph) c.in-Told.is (c.in_ok-bar.ensures c.args.graph den) in
    (so.0, den, c.in_ok-near-in-Told.ensures.capacity)

pub returns-in_ok-near-in-Told : goal.returns-in_ok-near-in-Told
returns-in_ok-near-in-Told g c =
    let den = outline_denotes c.args.graph c.vertices-vertices.ensures.graph c.in_ok-parts.parts.items c.deref.result.now c.deref-2.result.now c.in_ok-parts.ensures.outline
    c.deref.ensures.value c.deref-2.ensures.value (c.has_no_prime_part.ensures.no_prime.0 c.if-not-has_no_prime_part.false) c.in_ok-tree.tree c.in_ok-tree.ensures.denotes in
    let so = subst (IsFitOf c.args.class false c.args.graph) c.in-Told.is (c.in_ok-bar.ensures c.args.graph den) in
    record { opened = (refl, so.0) }
