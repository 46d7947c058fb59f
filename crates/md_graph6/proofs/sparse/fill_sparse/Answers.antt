use Rattle.std.proofs.Common.{rules, ◌≡◌, ◌≤◌, true, length, arith, ◌∙◌, sym}
use Rattle.std.proofs.lemmas.List.{take_rest}
use Rattle.std.proofs.lemmas.List.Elements.{All-drop}
use Rattle.md_graph.specs.declared.TheConstants.{NAMES}
use Rattle.md_graph.proofs.Limits.{NAMES-lt}
use Rattle.md_graph6.specs.Line.{is_group}
use Rattle.md_graph6.proofs.SparseLemmas.{sparse_some, sound_sparse, sound_sparse-sized, sound_sparse-pairs, size_inside, sparse_fits, filled_is_sparse}
use Rattle.md_graph6.proofs.sparse.fill_sparse.Goals as goal

pub size-requires-clause-some : goal.size-requires-clause-some
size-requires-clause-some g c = sparse_some NAMES _ c.requires.sound

pub size-requires-clause-groups : goal.size-requires-clause-groups
size-requires-clause-groups g c = (sound_sparse NAMES _ c.requires.sound).groups

pub unreachable-requires : goal.unreachable-requires
unreachable-requires g c = sound_sparse-sized _ c.requires.sound (sym c.size.ensures.value ∙ c.in_default.is)

pub overflow_cast-n : goal.overflow_cast-n
overflow_cast-n g c =
    let few : c.in-Some.n ≤ NAMES = (sound_sparse-pairs _ _ _ c.requires.sound (sym c.size.ensures.value ∙ c.in-Some.is)).few in
    let fits = NAMES-lt in
    omega arith

pub slice_bounds-fill_pairs-count : goal.slice_bounds-fill_pairs-count
slice_bounds-fill_pairs-count g c =
    size_inside _ _ _ (sparse_some NAMES _ c.requires.sound) (sym c.size.ensures.value ∙ c.in-Some.is)

pub slice_bounds-fill_pairs-start : goal.slice_bounds-fill_pairs-start
slice_bounds-fill_pairs-start g c =
    let within : c.in-Some.taken ≤ length c.args.rest.now = size_inside _ _ _ (sparse_some NAMES _ c.requires.sound) (sym c.size.ensures.value ∙ c.in-Some.is) in
    search rules

pub fill_pairs-requires : goal.fill_pairs-requires
fill_pairs-requires g c =
    let sized = sym c.size.ensures.value ∙ c.in-Some.is in
    let few : c.in-Some.n ≤ NAMES = (sound_sparse-pairs _ _ _ c.requires.sound sized).few in
    let groups = (sound_sparse NAMES _ c.requires.sound).groups in
    (search rules, (c.requires.empty, (few, (sparse_fits _ _ _ _ sized c.requires.room, rw take_rest (All-drop (λ byte. is_group byte ≡ true) _ _ groups)))))

pub returns : goal.returns
returns g c = filled_is_sparse _ _ _ _ (sym c.size.ensures.value ∙ c.in-Some.is) c.fill_pairs.ensures
