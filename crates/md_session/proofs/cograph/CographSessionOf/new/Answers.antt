use Rattle.std.proofs.Common.{refl}
use Rattle.md_cotree.proofs.NoPaths.{cotree_no_path}
use Rattle.md_cograph.proofs.OutlinedCographs.{cograph_parts, cotree_outline, outline_denotes}
use Rattle.md_session.proofs.cograph.CographSessionOf.new.Goals as goal

pub from_outline-requires : goal.from_outline-requires
from_outline-requires g c = record {
  tree =
      cotree_outline c.args.graph c.vertices-vertices.ensures.graph c.in_ok-parts.parts.items c.deref.result.now c.deref-then-has_no_prime_part.result.now c.in_ok-parts.ensures.outline
      c.deref.ensures.value c.deref-then-has_no_prime_part.ensures.value (c.has_no_prime_part.ensures.no_prime.0 c.if-has_no_prime_part.true);
}

pub invariant_of-result : goal.invariant_of-result
invariant_of-result g c =
    let den = outline_denotes c.args.graph c.vertices-vertices.ensures.graph c.in_ok-parts.parts.items c.deref.result.now c.deref-then-has_no_prime_part.result.now c.in_ok-parts.ensures.outline
    c.deref.ensures.value c.deref-then-has_no_prime_part.ensures.value (c.has_no_prime_part.ensures.no_prime.0 c.if-has_no_prime_part.true) c.in_ok-tree.tree c.in_ok-tree.ensures.denotes in
    (cotree_no_path c.in_ok-tree.tree c.args.graph den, den, c.in_ok-near.ensures.capacity)

pub returns-then-has_no_prime_part : goal.returns-then-has_no_prime_part
returns-then-has_no_prime_part g c =
    let den = outline_denotes c.args.graph c.vertices-vertices.ensures.graph c.in_ok-parts.parts.items c.deref.result.now c.deref-then-has_no_prime_part.result.now c.in_ok-parts.ensures.outline
    c.deref.ensures.value c.deref-then-has_no_prime_part.ensures.value (c.has_no_prime_part.ensures.no_prime.0 c.if-has_no_prime_part.true) c.in_ok-tree.tree c.in_ok-tree.ensures.denotes in
    (refl, cotree_no_path c.in_ok-tree.tree c.args.graph den)

pub unreachable-requires : goal.unreachable-requires
unreachable-requires g c =
    let yes = c.has_no_prime_part.ensures.no_prime.1
    (cograph_parts c.args.graph c.vertices-vertices.ensures.graph c.in_ok-parts.parts.items c.deref.result.now c.deref.result.now c.in_ok-parts.ensures.outline c.deref.ensures.value c.deref.ensures.value
    c.in-None.ensures.none) in
    let fails = c.if-has_no_prime_part.false in
    absurd (cc)
