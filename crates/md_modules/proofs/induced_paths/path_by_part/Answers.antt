use Rattle.std.proofs.Common.{rules}
use Rattle.md_modules.proofs.PathSearch.{if_none_map, no_telling, none_tells, sides_apart}
use Rattle.md_modules.proofs.induced_paths.path_by_part.Goals as goal

pub splitter_of_few-requires : goal.splitter_of_few-requires
splitter_of_few-requires g c = (search rules, (search rules, (search rules, (sides_apart c.requires.graph c.args.x c.args.value c.args.part.now c.args.others.now c.requires.alike c.requires.across, c.requires.inside))))

pub returns-in-Some-clause-none : goal.returns-in-Some-clause-none
returns-in-Some-clause-none g c =
    if_none_map c.path_over.result _ _
    (λ none. absurd (no_telling c.requires.graph c.args.part.now c.args.others.now c.args.value c.in-Some.o c.requires.whole c.in-Some.ensures.found none))
    c.path_over.ensures.none

pub returns-clause-none : goal.returns-clause-none
returns-clause-none g c =
    none_tells c.requires.graph c.args.part.now c.args.others.now
    (sides_apart c.requires.graph c.args.x c.args.value c.args.part.now c.args.others.now c.requires.alike c.requires.across)
    c.in_default.ensures.none
