use Rattle.std.proofs.Common.{rules, ◌≡◌, ℕ, ◌-◌, ◌≤◌, true, false, List, length, take, drop, arith, ◌∙◌, sym, ap, subst}
use Rattle.std.specs.List.{AllPass}
use Rattle.std.proofs.lemmas.List.{take_rest}
use Rattle.std.proofs.lemmas.List.Elements.{All-drop}
use Rattle.md_digraph.specs.declared.TheConstants.{DIRECTED_NAMES}
use Rattle.md_graph6.specs.Line.{is_group}
use Rattle.md_graph6.specs.Size.{size_of}
use Rattle.md_digraph6.specs.ArcLine.{IsArcBodyOf, some_loop}
use Rattle.md_digraph6.proofs.ArcLines.{sound_arc_line, arc_body_at, arc_size_there, arc_size_fits, filled_is_arc_line}
use Rattle.md_digraph6.proofs.line.fill_arc_line.Goals as goal

-- the part that is read
bits_part : (line : List ℕ) (taken : ℕ)
    → take (length (take (length line - 1) (drop 1 line)) - taken) (drop taken (take (length line - 1) (drop 1 line))) ≡ drop taken (drop 1 line)
bits_part line taken = take_rest (take (length line - 1) (drop 1 line)) taken ∙ ap (drop taken) (take_rest line 1)

pub size-requires-clause-some : goal.size-requires-clause-some
size-requires-clause-some g c = rw take_rest (sound_arc_line _ c.requires.some c.requires.sound).rest.some

pub size-requires-clause-groups : goal.size-requires-clause-groups
size-requires-clause-groups g c = rw take_rest (sound_arc_line _ c.requires.some c.requires.sound).rest.groups

pub unreachable-requires : goal.unreachable-requires
unreachable-requires g c =
    arc_size_there _ c.requires.some c.requires.sound (sym (ap size_of (take_rest c.args.line.now 1)) ∙ sym c.size.ensures.value ∙ c.in_default.is)

pub overflow_cast-n : goal.overflow_cast-n
overflow_cast-n g c =
    let sized = sym (ap size_of (take_rest c.args.line.now 1)) ∙ sym c.size.ensures.value ∙ c.in-Some.is in
    let body = arc_body_at _ _ _ c.requires.some c.requires.sound sized in
    let few : c.in-Some.n ≤ DIRECTED_NAMES = body.few in
    omega (arith, few)

pub slice_bounds-fill-count : goal.slice_bounds-fill-count
slice_bounds-fill-count g c =
    let sized = sym (ap size_of (take_rest c.args.line.now 1)) ∙ sym c.size.ensures.value ∙ c.in-Some.is in
    let body = arc_body_at _ _ _ c.requires.some c.requires.sound sized in
    rw take_rest (omega (arith, body.long))

pub slice_bounds-fill-start : goal.slice_bounds-fill-start
slice_bounds-fill-start g c =
    let sized = sym (ap size_of (take_rest c.args.line.now 1)) ∙ sym c.size.ensures.value ∙ c.in-Some.is in
    let body = arc_body_at _ _ _ c.requires.some c.requires.sound sized in
    let within : c.in-Some.taken ≤ length (take (length c.args.line.now - 1) (drop 1 c.args.line.now)) = rw take_rest (omega (arith, body.long)) in
    search rules

pub fill-requires : goal.fill-requires
fill-requires g c =
    let sized = sym (ap size_of (take_rest c.args.line.now 1)) ∙ sym c.size.ensures.value ∙ c.in-Some.is in
    let body = arc_body_at _ _ _ c.requires.some c.requires.sound sized in
    let line = sound_arc_line c.args.line.now c.requires.some c.requires.sound in
    let groups = All-drop (λ byte. is_group byte ≡ true) c.in-Some.taken (drop 1 c.args.line.now) line.rest.groups in
    let bits = bits_part c.args.line.now c.in-Some.taken in (
      search rules,
      (
        c.requires.empty,
        (
          body.few,
          (
            arc_size_fits c.args.line.now _ _ _ sized c.requires.room,
            (subst (AllPass is_group) (sym bits) groups, subst (λ b. some_loop b c.in-Some.n c.in-Some.n ≡ false) (sym bits) body.no_loop),
          ),
        ),
      ),
    )

pub returns : goal.returns
returns g c =
    let sized = sym (ap size_of (take_rest c.args.line.now 1)) ∙ sym c.size.ensures.value ∙ c.in-Some.is in
    let body = arc_body_at _ _ _ c.requires.some c.requires.sound sized in
    let bits = bits_part c.args.line.now c.in-Some.taken in
    filled_is_arc_line c.args.line.now c.in-Some.taken c.in-Some.n c.fill.new.graph sized body.few body.no_loop
    (subst (λ b. IsArcBodyOf b c.in-Some.n c.fill.new.graph) bits c.fill.ensures)
