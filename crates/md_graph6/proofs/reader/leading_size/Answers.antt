use Rattle.std.proofs.Common.{◌≡◌, subst, sym}
use Rattle.md_graph6.specs.First.{BeginsWithSize, IsFirstBound}
use Rattle.md_graph6.specs.File.{graphs_in}
use Rattle.md_graph6.proofs.FirstLemmas.{first_leads}
use Rattle.md_graph6.proofs.reader.leading_size.Goals as goal

pub spelt_size-requires : goal.spelt_size-requires
spelt_size-requires c =
    let l = first_leads c.args.text.now c.requires.some c.requires.no_feed c.requires.no_return c.requires.sound in
    (l.0, subst (BeginsWithSize l.0) (sym c.from_size.ensures) l.1)

pub returns : goal.returns
returns c =
    let l = first_leads c.args.text.now c.requires.some c.requires.no_feed c.requires.no_return c.requires.sound in
    let same : c.spelt_size.result ≡ l.0 = c.spelt_size.ensures l.0 (subst (BeginsWithSize l.0) (sym c.from_size.ensures) l.1) in
    subst (λ n. IsFirstBound n (graphs_in c.args.text.now)) (sym same) l.2
