-- The read wrote behind the bytes that were there, and the room that is left was cut off.
use Rattle.std.proofs.Common.{◌≡◌, ◌+◌, ◌-◌, ◌++◌, length, take, drop, replicate, vec_len, rules, arith, ap, ◌∙◌, sym, subst}
use Rattle.std.specs.Io.KnownBytes.{Consumes}
use Rattle.std.proofs.lemmas.List.{with_items_is, places}
use Rattle.md_io.proofs.Reading.{read_behind}
use Rattle.md_io.proofs.system.read_piece.Given.{Over}
use Rattle.md_io.proofs.system.read_piece.Goals as goal

wrote_behind : (g : Over) (c : goal.After-truncate g) →
    let old = c.args.bytes.now.items in
    let now = c.truncate.new.self.items in
    (now ≡ old ++ drop (length old) now) × (drop (length old) now ≡ take c.in-Some.n (drop c.len-filled.result c.read_at.new.buffer))
wrote_behind g c =
    let old = c.args.bytes.now in
    let filled = c.len-filled.result in
    let room = filled + c.min-room.result in
    let long : filled ≡ length old.items = search (rules, places) in
    let grows : c.resize.new.self.items ≡ take room old.items ++ replicate (room - vec_len old) 0 = search rules in
    let back = with_items_is c.resize.new.self c.read_at.new.buffer (search (rules, places)) in
    let front = c.in-Some.ensures.front ∙ ap (take filled) c.as_mut_slice.ensures.value in
    let cut = c.truncate.ensures.items ∙ ap (take (filled + c.in-Some.n)) back in
    read_behind old.items c.resize.new.self.items c.read_at.new.buffer c.truncate.new.self.items (replicate (room - vec_len old) 0) filled room c.in-Some.n long (omega arith) grows front cut

pub returns-in-Some-clause-grows : goal.returns-in-Some-clause-grows
returns-in-Some-clause-grows g c = (wrote_behind g c).0

pub returns-in-Some-clause-taken : goal.returns-in-Some-clause-taken
returns-in-Some-clause-taken g c = subst (Consumes _ _) (sym (wrote_behind g c).1) c.in-Some.ensures.some
