use Rattle.md_checker.proofs.text_fit.GraphOfTextGraphKindPair.has_trivial_modules_alone.Goals as goal

pub returns : goal.returns
returns g c = record { trivial = c.has_trivial_modules_alone.ensures }
