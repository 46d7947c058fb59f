use Rattle.md_script.proofs.TokenLemmas.{word_has_names}
use Rattle.md_script.proofs.reader.read_line.Goals as goal

pub put-requires-clause-names : goal.put-requires-clause-names
put-requires-clause-names c = word_has_names _ _ c.in_ok-token.token c.in_ok-token.ensures.token
