-- The first fault of a line, and the token that it spells.
use Rattle.std.specs.Prelude.{◌≡◌, ℕ, ◌+◌, ◌<◌, Bool, true, false, cond, not, nat_le, List, [], ◌∷◌, Option, Some, None, option_map, refl}
use Rattle.std.proofs.Common.{ap, sym, ◌∙◌, subst}
use Rattle.std.proofs.lemmas.Bool.{leb-false, lt-leb}
use Rattle.md_script.specs.declared.TheConstants.{EDITS}
use Rattle.md_script.specs.declared.edit.Edit.{Edit as EditOfGraph}
use Rattle.md_script.specs.declared.fault.ScriptKind.{ScriptKind}
use Rattle.md_script.specs.declared.fault.ScriptKind.TheVariants.{Nested, NoGroup, TooManyEdits}
use Rattle.md_script.specs.declared.token.Token.{Token}
use Rattle.md_script.specs.declared.token.Token.TheVariants.{Edit, Undo, Begin, Commit}
use Rattle.md_script.specs.declared.word.LineWord.{LineWord}
use Rattle.md_script.specs.declared.word.LineWord.TheVariants as word
use Rattle.md_script.specs.Line.{is_skipped, word_of, edit_by}
use Rattle.md_script.specs.Tokens.{lone_token, token_by, token_of, Seen, lone_fault, word_fault, token_fault, fault_of_words, seen_with, seen_after}
use Rattle.md_script.specs.Drafts.{HasTokenNames, MayStand}
use Rattle.md_script.proofs.EditLemmas.{edit_without_fault, edit_spelled}

-- what stood before the next line, once this token stood there too
abbrev pub seen_behind : Seen → Token → Seen
seen_behind seen Begin = record { counted = seen.counted + 1; inside = true }
seen_behind seen Commit = record { counted = seen.counted; inside = false }
seen_behind seen _ = record { counted = seen.counted + 1; inside = seen.inside }

-- ---- a word and the fields behind it

-- a word without fault spells a token, which may stand there
record IsTokenWord (seen : Seen) (word : Option LineWord) (rest : List (List ℕ)) (token : Token) : Type 0 where
  spelled : token_by word rest ≡ Some token
  stands : MayStand seen token
  behind : seen_with seen word ≡ seen_behind seen token

-- and the other way round
record IsFaultless (seen : Seen) (word : Option LineWord) (rest : List (List ℕ)) (token : Token) : Type 0 where
  none : word_fault seen word rest ≡ None
  behind : seen_with seen word ≡ seen_behind seen token

some_room : (n : ℕ) (later : Option ScriptKind) → cond (nat_le EDITS n) (Some TooManyEdits) later ≡ None → (n < EDITS) × (later ≡ None)
some_room n later h = by_test (nat_le EDITS n) refl h where
  by_test : (many : Bool) → nat_le EDITS n ≡ many → cond many (Some TooManyEdits) later ≡ None → (n < EDITS) × (later ≡ None)
  by_test true e h = absurd (cc)
  by_test false e h = (leb-false EDITS n e, h)

with_room : (n : ℕ) (later : Option ScriptKind) → n < EDITS → later ≡ None → cond (nat_le EDITS n) (Some TooManyEdits) later ≡ None
with_room n later room none = let few : nat_le EDITS n ≡ false = lt-leb EDITS n room in rw few none

lone_without_fault : (wrong : Bool) (kind : ScriptKind) (token : Token) (rest : List (List ℕ)) → lone_fault wrong kind rest ≡ None → (wrong ≡ false) × (lone_token token rest ≡ Some token)
lone_without_fault true kind token [] h = absurd (cc)
lone_without_fault false kind token [] h = (refl, refl)
lone_without_fault wrong kind token (field ∷ rest) h = absurd (cc)

lone_spelled : (kind : ScriptKind) (lone token : Token) (rest : List (List ℕ)) → lone_token lone rest ≡ Some token → (lone ≡ token) × (lone_fault false kind rest ≡ None)
lone_spelled kind lone token [] h = (cc, refl)
lone_spelled kind lone token (field ∷ rest) h = absurd (cc)

mapped_edit : (found : Option EditOfGraph) (token : Token) → option_map Edit found ≡ Some token → (edit : EditOfGraph) × (found ≡ Some edit) × (Edit edit ≡ token)
mapped_edit None token h = absurd (cc)
mapped_edit (Some edit) token h = (edit, refl, cc)

negated : (b : Bool) → not b ≡ false → b ≡ true
negated true h = refl
negated false h = absurd (cc)

word_without_fault : (seen : Seen) (word : Option LineWord) (rest : List (List ℕ)) → word_fault seen word rest ≡ None → (token : Token) × IsTokenWord seen word rest token
word_without_fault seen None rest h = let parts = some_room seen.counted _ h in absurd (let no = parts.1 in cc)
word_without_fault seen (Some (word.Edit edit_word)) rest h =
    let parts = some_room seen.counted _ h in
    let edit = edit_without_fault edit_word rest parts.1 in
    (Edit edit.0, record { spelled = ap (option_map Edit) edit.1; stands = parts.0; behind = refl })
word_without_fault seen (Some word.Undo) rest h =
    let parts = some_room seen.counted _ h in
    let lone = lone_without_fault seen.inside Nested Undo rest parts.1 in
    (Undo, record { spelled = lone.1; stands = (lone.0, parts.0); behind = refl })
word_without_fault seen (Some word.Begin) rest h =
    let parts = some_room seen.counted _ h in
    let lone = lone_without_fault seen.inside Nested Begin rest parts.1 in
    (Begin, record { spelled = lone.1; stands = (lone.0, parts.0); behind = refl })
word_without_fault seen (Some word.Commit) rest h =
    let lone = lone_without_fault (not seen.inside) NoGroup Commit rest h in
    (Commit, record { spelled = lone.1; stands = negated seen.inside lone.0; behind = refl })

word_has_no_fault : (seen : Seen) (word : Option LineWord) (rest : List (List ℕ)) (token : Token) → token_by word rest ≡ Some token → MayStand seen token → IsFaultless seen word rest token
word_has_no_fault seen None rest token h stands = absurd (cc)
word_has_no_fault seen (Some (word.Edit edit_word)) rest token h stands =
    let made = mapped_edit (edit_by edit_word rest) token h in
    let own : MayStand seen (Edit made.0) = subst (MayStand seen) (sym made.2) stands in
    subst (IsFaultless seen (Some (word.Edit edit_word)) rest) made.2
    (record { none = with_room seen.counted _ own (edit_spelled edit_word rest made.0 made.1).0; behind = refl })
word_has_no_fault seen (Some word.Undo) rest token h stands =
    let lone = lone_spelled Nested Undo token rest h in
    let own : MayStand seen Undo = subst (MayStand seen) (sym lone.0) stands in
    subst (IsFaultless seen (Some word.Undo) rest) lone.0
    (record { none = with_room seen.counted _ own.1 (ap (λ b. lone_fault b Nested rest) own.0 ∙ lone.1); behind = refl })
word_has_no_fault seen (Some word.Begin) rest token h stands =
    let lone = lone_spelled Nested Begin token rest h in
    let own : MayStand seen Begin = subst (MayStand seen) (sym lone.0) stands in
    subst (IsFaultless seen (Some word.Begin) rest) lone.0
    (record { none = with_room seen.counted _ own.1 (ap (λ b. lone_fault b Nested rest) own.0 ∙ lone.1); behind = refl })
word_has_no_fault seen (Some word.Commit) rest token h stands =
    let lone = lone_spelled NoGroup Commit token rest h in
    let own : MayStand seen Commit = subst (MayStand seen) (sym lone.0) stands in
    subst (IsFaultless seen (Some word.Commit) rest) lone.0
    (record { none = ap (λ b. lone_fault (not b) NoGroup rest) own ∙ lone.1; behind = refl })

pub word_has_names : (word : Option LineWord) (rest : List (List ℕ)) (token : Token) → token_by word rest ≡ Some token → HasTokenNames token
word_has_names None rest token h = absurd (cc)
word_has_names (Some (word.Edit edit_word)) rest token h =
    let made = mapped_edit (edit_by edit_word rest) token h in
    subst HasTokenNames made.2 (edit_spelled edit_word rest made.0 made.1).1
word_has_names (Some word.Undo) rest token h = subst HasTokenNames (lone_spelled Nested Undo token rest h).0 tt
word_has_names (Some word.Begin) rest token h = subst HasTokenNames (lone_spelled Nested Begin token rest h).0 tt
word_has_names (Some word.Commit) rest token h = subst HasTokenNames (lone_spelled Nested Commit token rest h).0 tt

-- ---- one line

pub fault-skipped : (seen : Seen) (ws : List (List ℕ)) → is_skipped ws ≡ true → fault_of_words seen ws ≡ None
fault-skipped seen ws skipped = ap (λ b. cond b None (token_fault seen ws)) skipped

fault-token : (seen : Seen) (ws : List (List ℕ)) → is_skipped ws ≡ false → fault_of_words seen ws ≡ token_fault seen ws
fault-token seen ws here = ap (λ b. cond b None (token_fault seen ws)) here

pub seen_after-skipped : (seen : Seen) (ws : List (List ℕ)) → is_skipped ws ≡ true → seen_after seen ws ≡ seen
seen_after-skipped seen [] skipped = refl
seen_after-skipped seen (first ∷ rest) skipped = ap (λ b. cond b seen (seen_with seen (word_of first))) skipped

seen_after-token : (seen : Seen) (first : List ℕ) (rest : List (List ℕ)) → is_skipped (first ∷ rest) ≡ false → seen_after seen (first ∷ rest) ≡ seen_with seen (word_of first)
seen_after-token seen first rest here = ap (λ b. cond b seen (seen_with seen (word_of first))) here

-- a line without fault that isn't skipped
pub record IsTokenLine (seen : Seen) (ws : List (List ℕ)) (token : Token) : Type 0 where
  pub spelled : token_of ws ≡ Some token
  pub names : HasTokenNames token
  pub stands : MayStand seen token
  pub behind : seen_after seen ws ≡ seen_behind seen token

pub line_without_fault : (seen : Seen) (ws : List (List ℕ)) → is_skipped ws ≡ false → fault_of_words seen ws ≡ None → (token : Token) × IsTokenLine seen ws token
line_without_fault seen [] here h = absurd (cc)
line_without_fault seen (first ∷ rest) here h =
    let found = word_without_fault seen (word_of first) rest (sym (fault-token seen (first ∷ rest) here) ∙ h) in (
      found.0,
      record {
        spelled = found.1.spelled;
        names = word_has_names (word_of first) rest found.0 found.1.spelled;
        stands = found.1.stands;
        behind = seen_after-token seen first rest here ∙ found.1.behind;
      },
    )

-- a line that spells a token, which may stand there, has no fault
pub record HasNoFault (seen : Seen) (ws : List (List ℕ)) (token : Token) : Type 0 where
  pub none : fault_of_words seen ws ≡ None
  pub behind : seen_after seen ws ≡ seen_behind seen token

pub line_has_no_fault : (seen : Seen) (ws : List (List ℕ)) (token : Token) → is_skipped ws ≡ false → token_of ws ≡ Some token → MayStand seen token → HasNoFault seen ws token
line_has_no_fault seen [] token here h stands = absurd (cc)
line_has_no_fault seen (first ∷ rest) token here h stands =
    let fine = word_has_no_fault seen (word_of first) rest token h stands in
    record { none = fault-token seen (first ∷ rest) here ∙ fine.none; behind = seen_after-token seen first rest here ∙ fine.behind }
