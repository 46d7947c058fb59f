use Rattle.std.proofs.Common.{None, ◌∙◌, arith}
use Rattle.std.proofs.lemmas.List.{get_or_read}
use Rattle.md_lists.specs.Kept.{store_of}
use Rattle.md_lists.proofs.MadePlaces.{mark_made}
use Rattle.md_lists.proofs.Following.{follow_behind}
use Rattle.md_lists.proofs.Showing.{opened, sizes}
use Rattle.md_lists.proofs.lists.Lists.next_marked.Goals as goal

pub index-requires : goal.index-requires
index-requires g c =
    let s = opened c.self.inside c.args.self.now c.self.invariant c.self.view_is in
    let z = sizes c.self.inside c.args.self.now s in
    let r = c.requires in
    let w = mark_made (store_of c.self.inside) c.args.self.now s c.args.p (omega arith) in
    let e = z.mark_nexts_size in
    omega arith

pub returns-clause-next : goal.returns-clause-next
returns-clause-next g c =
    let s = opened c.self.inside c.args.self.now c.self.invariant c.self.view_is in
    let r = c.requires in
    let w = mark_made (store_of c.self.inside) c.args.self.now s c.args.p (omega arith) in
    let e = s.mark_nexts_len in
    get_or_read _ c.args.p _ (omega arith) c.index.ensures None ∙ follow_behind _ c.args.self.now.marked c.args.p s.mark_forward (omega arith)

pub returns-clause-links : goal.returns-clause-links
returns-clause-links g c = (opened c.self.inside c.args.self.now c.self.invariant c.self.view_is).links
