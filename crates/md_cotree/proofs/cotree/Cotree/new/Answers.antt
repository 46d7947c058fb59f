use Rattle.std.proofs.Common.{refl, arith}
use Rattle.md_cotree.proofs.Starting.{starts_empty}
use Rattle.md_cotree.proofs.cotree.Cotree.new.Goals as goal

pub returns : goal.returns
returns c = starts_empty _ c.in_ok-new.ensures.free (let none = c.in_ok-with_capacity.ensures.len in omega arith, c.in_ok-with_capacity.ensures.capacity) c.in_ok-with_capacity.ensures.items refl refl
