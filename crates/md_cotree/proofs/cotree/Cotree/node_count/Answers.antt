use Rattle.std.proofs.Common.{◌≡◌, Option, ◌∙◌, arith}
use Rattle.md_cotree.specs.Cotrees.{root_row, IsKeptAs}
use Rattle.md_cotree.specs.PlaceTrees.{PlaceTree, node_counts}
use Rattle.md_cotree.proofs.NodeCounts.{nodes_told}
use Rattle.md_cotree.proofs.NoPaths.{cotree_graph}
use Rattle.md_cotree.proofs.Room.{room}
use Rattle.md_cotree.proofs.cotree.Cotree.node_count.Goals as goal

pub returns : goal.returns
returns c = record {
  places = λ o kept. counted o kept;
  tree = λ g t denotes is.
      counted denotes.0 denotes.1
      ∙ nodes_told c.args.self.now g (cotree_graph c.args.self.now g denotes) denotes.0 denotes.1 denotes.2 t is;
}
  where
    counted : (o : Option PlaceTree) → IsKeptAs c.args.self.now o → c.from.result ≡ node_counts (root_row o)
    counted o kept =
        let all = room c.args.self.now.lists (root_row o) c.spare.ensures.links kept.fits in
        let free = c.spare.ensures.spare in
        let cast = c.from.ensures in
        omega arith
