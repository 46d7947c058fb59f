use Rattle.md_outline.proofs.HeadPairs.{ascend_two}
use Rattle.md_outline.proofs.pair_space.HeadPlaces.spell.Goals as goal

pub spell_places-requires-clause-ascending : goal.spell_places-requires-clause-ascending
spell_places-requires-clause-ascending c = ascend_two c.args.heads.now c.requires.ascending
