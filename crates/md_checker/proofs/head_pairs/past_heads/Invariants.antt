use Rattle.std.proofs.Common.{◌≡◌, ◌++◌, [], take}
use Rattle.md_outline.proofs.HeadPairs.{AreHeadsPut}
use Rattle.md_checker.proofs.head_pairs.past_heads.Given as goal

abbrev pub invariant-loop-position : goal.invariant-loop-position
invariant-loop-position g l = record {
  put : AreHeadsPut g.P.Paired.rules (g.G.TextGraph.view l.graph).lists l.heads l.position [] (take l.compared.same l.compared.text.now ++ l.space.chunk) l.space.mark l.space.places;
  text : l.compared.text.now ≡ l.text;
}
