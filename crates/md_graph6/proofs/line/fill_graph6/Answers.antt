use Rattle.std.proofs.Common.{rules, ◌≡◌, ◌≤◌, true, length, arith, ◌∙◌, sym}
use Rattle.std.proofs.lemmas.List.{take_rest}
use Rattle.std.proofs.lemmas.List.Elements.{All-drop}
use Rattle.md_graph.specs.declared.TheConstants.{NAMES}
use Rattle.md_graph6.specs.Line.{is_group}
use Rattle.md_graph.proofs.Limits.{NAMES-lt}
use Rattle.md_graph6.proofs.LineLemmas.{IsSoundBody}
use Rattle.md_graph6.proofs.FirstLemmas.{size_fits}
use Rattle.md_graph6.proofs.SpellLemmas.{sound_line-sized, sound_line-groups, sound_line-body, filled_is_line}
use Rattle.md_graph6.proofs.line.fill_graph6.Goals as goal

pub size-requires-clause-groups : goal.size-requires-clause-groups
size-requires-clause-groups g c = sound_line-groups _ c.requires.sound

pub unreachable-requires : goal.unreachable-requires
unreachable-requires g c =
    sound_line-sized _ c.requires.sound (sym c.size.ensures.value ∙ c.in_default.is)

pub overflow_cast-n : goal.overflow_cast-n
overflow_cast-n g c =
    let body : IsSoundBody NAMES c.args.line.now c.in-Some.taken c.in-Some.n =
    sound_line-body _ _ _ c.requires.some c.requires.sound (sym c.size.ensures.value ∙ c.in-Some.is) in
    let few : c.in-Some.n ≤ NAMES = body.few in
    let fits = NAMES-lt in
    omega arith

pub slice_bounds-fill-count : goal.slice_bounds-fill-count
slice_bounds-fill-count g c =
    let body : IsSoundBody NAMES c.args.line.now c.in-Some.taken c.in-Some.n =
    sound_line-body _ _ _ c.requires.some c.requires.sound (sym c.size.ensures.value ∙ c.in-Some.is) in
    omega (arith, body.long)

pub slice_bounds-fill-start : goal.slice_bounds-fill-start
slice_bounds-fill-start g c =
    let body : IsSoundBody NAMES c.args.line.now c.in-Some.taken c.in-Some.n =
    sound_line-body _ _ _ c.requires.some c.requires.sound (sym c.size.ensures.value ∙ c.in-Some.is) in
    let within : c.in-Some.taken ≤ length c.args.line.now = omega (arith, body.long) in
    search rules

pub fill-requires : goal.fill-requires
fill-requires g c =
    let sized = sym c.size.ensures.value ∙ c.in-Some.is in
    let body : IsSoundBody NAMES c.args.line.now c.in-Some.taken c.in-Some.n =
    sound_line-body _ _ _ c.requires.some c.requires.sound sized in
    let groups = sound_line-groups _ c.requires.sound in
    (search rules, (c.requires.empty, (body.few, (size_fits _ _ _ _ c.requires.some c.requires.sound sized c.requires.room, rw take_rest (All-drop (λ byte. is_group byte ≡ true) _ _ groups)))))

pub returns : goal.returns
returns g c =
    let sized = sym c.size.ensures.value ∙ c.in-Some.is in
    let body : IsSoundBody NAMES c.args.line.now c.in-Some.taken c.in-Some.n =
    sound_line-body _ _ _ c.requires.some c.requires.sound sized in
    filled_is_line _ _ _ _ sized body.few c.fill.ensures
