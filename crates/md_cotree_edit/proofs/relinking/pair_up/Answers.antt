use Rattle.md_cotree.specs.PlaceTrees.{tip, inner, no_more, then}
use Rattle.md_cotree_edit.specs.Contexts.{plug}
use Rattle.std.proofs.Common.{refl}
use Rattle.md_cotree_edit.proofs.Insertions.Relinked.{pair_ready, pair_done}
use Rattle.md_cotree_edit.proofs.relinking.pair_up.Goals as goal

pub join-pair-requires-clause-trees : goal.join-pair-requires-clause-trees
join-pair-requires-clause-trees g c =
    let d = c.requires.trees.0 in
    let can = c.requires.trees.1 in
    let tidied = c.tidy-rest.ensures.trees d.kind d.loose (then (tip c.args.leaf d.name) (then (plug d.frames (inner c.args.stay d.kind d.stay)) no_more)) can.kept can.some in
    (tidied.0, tip c.args.leaf d.name, then (plug d.frames (inner c.args.stay d.kind d.stay)) no_more, tidied.1, tidied.2, refl)

pub attach-requires-clause-parent : goal.attach-requires-clause-parent
attach-requires-clause-parent g c =
    let d = c.requires.trees.0 in
    let can = c.requires.trees.1 in
    let tidied = c.tidy-rest.ensures.trees d.kind d.loose (then (tip c.args.leaf d.name) (then (plug d.frames (inner c.args.stay d.kind d.stay)) no_more)) can.kept can.some in
    let joined = c.join-pair.ensures.trees tidied.0 (tip c.args.leaf d.name) (then (plug d.frames (inner c.args.stay d.kind d.stay)) no_more) tidied.1 tidied.2 refl in
    (pair_ready c.join-pair.new.lists c.join-pair.ensures.links d.frames c.args.stay d.kind d.stay c.join-pair.result joined.0 joined.1 joined.2).parent

pub attach-requires-clause-child : goal.attach-requires-clause-child
attach-requires-clause-child g c =
    let d = c.requires.trees.0 in
    let can = c.requires.trees.1 in
    let tidied = c.tidy-rest.ensures.trees d.kind d.loose (then (tip c.args.leaf d.name) (then (plug d.frames (inner c.args.stay d.kind d.stay)) no_more)) can.kept can.some in
    let joined = c.join-pair.ensures.trees tidied.0 (tip c.args.leaf d.name) (then (plug d.frames (inner c.args.stay d.kind d.stay)) no_more) tidied.1 tidied.2 refl in
    (pair_ready c.join-pair.new.lists c.join-pair.ensures.links d.frames c.args.stay d.kind d.stay c.join-pair.result joined.0 joined.1 joined.2).child

pub attach-requires-clause-differ : goal.attach-requires-clause-differ
attach-requires-clause-differ g c =
    let d = c.requires.trees.0 in
    let can = c.requires.trees.1 in
    let tidied = c.tidy-rest.ensures.trees d.kind d.loose (then (tip c.args.leaf d.name) (then (plug d.frames (inner c.args.stay d.kind d.stay)) no_more)) can.kept can.some in
    let joined = c.join-pair.ensures.trees tidied.0 (tip c.args.leaf d.name) (then (plug d.frames (inner c.args.stay d.kind d.stay)) no_more) tidied.1 tidied.2 refl in
    (pair_ready c.join-pair.new.lists c.join-pair.ensures.links d.frames c.args.stay d.kind d.stay c.join-pair.result joined.0 joined.1 joined.2).differ

pub attach-requires-clause-loose : goal.attach-requires-clause-loose
attach-requires-clause-loose g c =
    let d = c.requires.trees.0 in
    let can = c.requires.trees.1 in
    let tidied = c.tidy-rest.ensures.trees d.kind d.loose (then (tip c.args.leaf d.name) (then (plug d.frames (inner c.args.stay d.kind d.stay)) no_more)) can.kept can.some in
    let joined = c.join-pair.ensures.trees tidied.0 (tip c.args.leaf d.name) (then (plug d.frames (inner c.args.stay d.kind d.stay)) no_more) tidied.1 tidied.2 refl in
    (pair_ready c.join-pair.new.lists c.join-pair.ensures.links d.frames c.args.stay d.kind d.stay c.join-pair.result joined.0 joined.1 joined.2).loose

pub returns-clause-trees : goal.returns-clause-trees
returns-clause-trees g c = λ d can.
    let tidied = c.tidy-rest.ensures.trees d.kind d.loose (then (tip c.args.leaf d.name) (then (plug d.frames (inner c.args.stay d.kind d.stay)) no_more)) can.kept can.some in
    let joined = c.join-pair.ensures.trees tidied.0 (tip c.args.leaf d.name) (then (plug d.frames (inner c.args.stay d.kind d.stay)) no_more) tidied.1 tidied.2 refl in
    record {
      tidy = tidied.0;
      pair = joined.0;
      kept = pair_done c.join-pair.new.lists c.join-pair.ensures.links d.frames c.args.stay d.kind d.stay c.join-pair.result joined.0 joined.1 joined.2 c.attach.new.self c.attach.ensures.attached;
      tidied = tidied.3;
      beside = joined.3;
    }
