-- The first fault of a script, and the items that it spells.
use Rattle.std.specs.Prelude.{◌≡◌, ℕ, ◌+◌, ◌≤◌, Bool, true, false, not, cond, ◌==◌, ◌⊎◌, List, [], ◌∷◌, ◌++◌, length, map, is_some, Option, Some, None, MatchOption, refl}
use Rattle.std.specs.Bool.{then_some}
use Rattle.std.specs.List.{All, flat_map, sum_by}
use Rattle.std.proofs.Common.{ap, sym, ◌∙◌, arith, subst, append_assoc, inl, inr}
use Rattle.std.proofs.lemmas.List.{append-nil, map-append}
use Rattle.std.proofs.lemmas.List.Sums.{sum_by-cons}
use Rattle.md_graph.specs.declared.TheConstants.{NAMES}
use Rattle.md_text.specs.Lines.{lines, without_return}
use Rattle.md_text.specs.Fields.{fields}
use Rattle.md_text.proofs.LineLemmas.{no_lines}
use Rattle.md_text.specs.Spelling.{SpellsOne, SpellsNone, fault_or, words, first_fault_behind}
use Rattle.md_script.specs.declared.TheConstants.{EDITS}
use Rattle.md_script.specs.declared.edit.Edit.{Edit as EditOfGraph}
use Rattle.md_script.specs.declared.fault.ScriptKind.{ScriptKind}
use Rattle.md_script.specs.declared.fault.ScriptKind.TheVariants.{OpenGroup}
use Rattle.md_script.specs.declared.item.Item.{Item}
use Rattle.md_script.specs.declared.item.Item.TheVariants as item
use Rattle.md_script.specs.declared.line.Refusal.{Refusal}
use Rattle.md_script.specs.declared.line.Refusal.TheVariants.{Bad}
use Rattle.md_script.specs.declared.token.Token.{Token}
use Rattle.md_script.specs.declared.token.Token.TheVariants.{Edit, Undo, Begin, Commit}
use Rattle.md_script.specs.Items.{IsScriptItem, item_size}
use Rattle.md_script.specs.Line.{is_skipped}
use Rattle.md_script.specs.Tokens.{tokens_of, token_of, Seen, fault_of_words, seen_after}
use Rattle.md_script.specs.Drafts.{PlainDraft, draft_tokens, draft_seen, with_token, with_token_of, draft_after, IsDraft, MayStand}
use Rattle.md_script.specs.File.{token_lines, SpellsScript, FaultyLine, fault_at, end_fault, fault_behind, nothing_seen, first_fault}
use Rattle.md_script.specs.Read.{IsRefusal}
use Rattle.md_script.proofs.TokenLemmas.{seen_behind, fault-skipped, seen_after-skipped, line_without_fault, line_has_no_fault}
use Rattle.md_script.proofs.DraftLemmas.{next_draft, next_is_draft, no_draft}

-- the tokens that lines spell, each if its line spells one
abbrev pub spelled_by : List (List ℕ) → List (Option Token)
spelled_by all = map token_of (token_lines all)

spelled-skipped : (line : List ℕ) (more : List (List ℕ)) → is_skipped (words line) ≡ true → spelled_by (line ∷ more) ≡ spelled_by more
spelled-skipped line more h = ap (λ b. map token_of (cond (not b) (words line ∷ token_lines more) (token_lines more))) h

spelled-token : (line : List ℕ) (more : List (List ℕ)) → is_skipped (words line) ≡ false → spelled_by (line ∷ more) ≡ token_of (words line) ∷ spelled_by more
spelled-token line more h = ap (λ b. map token_of (cond (not b) (words line ∷ token_lines more) (token_lines more))) h

-- a line without fault is passed
fault-passed : (seen next : Seen) (count : ℕ) (line : List ℕ) (more : List (List ℕ)) → fault_of_words seen (words line) ≡ None → seen_after seen (words line) ≡ next
    → fault_behind seen count (line ∷ more) ≡ fault_behind next (count + 1) more
unfolding first_fault_behind
fault-passed seen next count line more none is =
    ap (λ kind. fault_or fault_at kind (count + 1) (fault_behind (seen_after seen (words line)) (count + 1) more)) none
    ∙ ap (λ s. fault_behind s (count + 1) more) is

fault-named : (seen : Seen) (count : ℕ) (line : List ℕ) (more : List (List ℕ)) (kind : ScriptKind) → fault_of_words seen (words line) ≡ Some kind
    → fault_behind seen count (line ∷ more) ≡ Some (record { kind = kind; line = count + 1 })
unfolding first_fault_behind
fault-named seen count line more kind is = ap (λ k. fault_or fault_at k (count + 1) (fault_behind (seen_after seen (words line)) (count + 1) more)) is

fault-nil : (seen : Seen) (count : ℕ) → fault_behind seen count [] ≡ end_fault seen count
unfolding first_fault_behind
fault-nil seen count = refl

-- a first line has no fault, and neither have those behind it
record NoFault (seen : Seen) (count : ℕ) (line : List ℕ) (more : List (List ℕ)) : Type 0 where
  here : fault_of_words seen (words line) ≡ None
  behind : fault_behind (seen_after seen (words line)) (count + 1) more ≡ None

no_fault : (seen : Seen) (count : ℕ) (line : List ℕ) (more : List (List ℕ)) → fault_behind seen count (line ∷ more) ≡ None → NoFault seen count line more
unfolding first_fault_behind
no_fault seen count line more h = by_kind (fault_of_words seen (words line)) refl h where
  by_kind : (kind : Option ScriptKind) → fault_of_words seen (words line) ≡ kind → fault_or fault_at kind (count + 1) (fault_behind (seen_after seen (words line)) (count + 1) more) ≡ None → NoFault seen count line more
  by_kind None e h = record { here = e; behind = h }
  by_kind (Some kind) e h = absurd (cc)

-- ---- a draft and the lines behind it

-- a line without fault behind a draft
record IsRead (d : PlainDraft) (line : List ℕ) (more : List (List ℕ)) (next : PlainDraft) : Type 0 where
  tokens : map Some (draft_tokens d) ++ spelled_by (line ∷ more) ≡ map Some (draft_tokens next) ++ spelled_by more
  seen : seen_after (draft_seen d) (words line) ≡ draft_seen next
  draft : IsDraft d → IsDraft next

some_more : (tokens : List Token) (token : Token) (longer : List Token) (more : List (Option Token)) → longer ≡ tokens ++ token ∷ [] → map Some tokens ++ Some token ∷ more ≡ map Some longer ++ more
some_more tokens token longer more is =
    sym (ap (λ l. map Some l ++ more) is ∙ ap (λ l. l ++ more) (map-append Some tokens (token ∷ [])) ∙ append_assoc (map Some tokens) (Some token ∷ []) more)

line_is_read : (d : PlainDraft) (line : List ℕ) (more : List (List ℕ)) → fault_of_words (draft_seen d) (words line) ≡ None → IsRead d line more (draft_after d (words line))
line_is_read d line more none = by_test (is_skipped (words line)) refl where
  by_test : (skipped : Bool) → is_skipped (words line) ≡ skipped → IsRead d line more (draft_after d (words line))
  by_test true e =
      let same : d ≡ draft_after d (words line) = sym (ap (λ b. cond b d (with_token_of d (token_of (words line)))) e) in
      subst (IsRead d line more) same
      (record {
        tokens = ap (λ l. map Some (draft_tokens d) ++ l) (spelled-skipped line more e);
        seen = seen_after-skipped (draft_seen d) (words line) e;
        draft = λ is. is;
      })
  by_test false e =
      let found = line_without_fault (draft_seen d) (words line) e none in
      let next = next_draft d found.0 found.1.stands in
      let same : with_token d found.0 ≡ draft_after d (words line) = sym (ap (λ b. cond b d (with_token_of d (token_of (words line)))) e ∙ ap (with_token_of d) found.1.spelled) in
      subst (IsRead d line more) same
      (record {
        tokens =
            ap (λ l. map Some (draft_tokens d) ++ l) (spelled-token line more e ∙ ap (λ o. o ∷ spelled_by more) found.1.spelled)
            ∙ some_more (draft_tokens d) found.0 _ (spelled_by more) next.tokens;
        seen = found.1.behind ∙ sym next.seen;
        draft = λ is. next_is_draft d found.0 is found.1.names found.1.stands;
      })

-- items whose tokens are those of a draft and then those that the lines spell
record SpellBehind (d : PlainDraft) (all : List (List ℕ)) (items : List Item) : Type 0 where
  each : map Some (draft_tokens d) ++ spelled_by all ≡ map Some (flat_map tokens_of items)
  items_are : All (IsScriptItem NAMES) items
  few : sum_by item_size items ≤ EDITS

closed_draft : (d : PlainDraft) (count : ℕ) → IsDraft d → then_some (is_some d.1) (fault_at OpenGroup (count + 1)) ≡ None → (items : List Item) × SpellBehind d [] items
closed_draft (items, None) count is h = (
  items,
  record {
    each = append-nil (map Some (draft_tokens (items, None))) ∙ ap (map Some) (append-nil (flat_map tokens_of items));
    items_are = is.items;
    few = let few = is.few in omega arith;
  },
)
closed_draft (items, Some edits) count is h = absurd (cc)

spelled_without_fault : (d : PlainDraft) (count : ℕ) (all : List (List ℕ)) → IsDraft d → fault_behind (draft_seen d) count all ≡ None → (items : List Item) × SpellBehind d all items
spelled_without_fault d count [] is h = closed_draft d count is (sym (fault-nil (draft_seen d) count) ∙ h)
spelled_without_fault d count (line ∷ more) is h =
    let none = no_fault (draft_seen d) count line more h in
    let read = line_is_read d line more none.here in
    let rest = spelled_without_fault (draft_after d (words line)) (count + 1) more (read.draft is) (ap (λ s. fault_behind s (count + 1) more) (sym read.seen) ∙ none.behind) in
    (rest.0, record { each = read.tokens ∙ rest.1.each; items_are = rest.1.items_are; few = rest.1.few })

-- ---- the tokens that are still to come

-- of the items to come the first may be a group of which only these edits are left
abbrev Coming : Type 0
Coming = Option (List EditOfGraph) × List Item

abbrev tokens_coming : Coming → List Token
tokens_coming (None, items) = flat_map tokens_of items
tokens_coming (Some edits, items) = map Edit edits ++ Commit ∷ flat_map tokens_of items

abbrev left_size : Option (List EditOfGraph) → ℕ
left_size None = 0
left_size (Some edits) = length edits

-- what is to come fits behind what stood before
record FitsBehind (seen : Seen) (c : Coming) : Type 0 where
  inside : seen.inside ≡ is_some c.0
  few : seen.counted + left_size c.0 + sum_by item_size c.1 ≤ EDITS

-- the first token to come, and what comes then
record ComesNext (seen : Seen) (c : Coming) (token : Token) (rest : Coming) : Type 0 where
  is : tokens_coming c ≡ token ∷ tokens_coming rest
  stands : MayStand seen token
  fits : FitsBehind (seen_behind seen token) rest

next_coming : (seen : Seen) (c : Coming) → FitsBehind seen c → (c ≡ (None, [])) ⊎ ((token : Token) × (rest : Coming) × ComesNext seen c token rest)
next_coming seen (None, []) fits = inl refl
next_coming seen (None, item.One edit ∷ items) fits =
    let few = fits.few in let size = sum_by-cons item_size (item.One edit) items in
    inr (Edit edit, (None, items), record { is = refl; stands = omega arith; fits = record { inside = fits.inside; few = omega arith } })
next_coming seen (None, item.Undo ∷ items) fits =
    let few = fits.few in let size = sum_by-cons item_size item.Undo items in
    inr (Undo, (None, items), record { is = refl; stands = (fits.inside, omega arith); fits = record { inside = fits.inside; few = omega arith } })
next_coming seen (None, item.Group edits ∷ items) fits =
    let few = fits.few in let size = sum_by-cons item_size (item.Group edits) items in
    inr (
      Begin,
      (Some edits, items),
      record {
        is = ap (λ l. Begin ∷ l) (append_assoc (map Edit edits) (Commit ∷ []) (flat_map tokens_of items));
        stands = (fits.inside, omega arith);
        fits = record { inside = refl; few = omega arith };
      },
    )
next_coming seen (Some [], items) fits =
    let few = fits.few in
    inr (Commit, (None, items), record { is = refl; stands = fits.inside; fits = record { inside = refl; few = omega arith } })
next_coming seen (Some (edit ∷ edits), items) fits =
    let few = fits.few in
    inr (Edit edit, (Some edits, items), record { is = refl; stands = omega arith; fits = record { inside = fits.inside; few = omega arith } })

none_spelled : (first : Option Token) (rest : List (Option Token)) → first ∷ rest ≡ [] → ⊥
none_spelled first rest h = absurd (cc)

-- what holds of the lines behind the first
abbrev Faultless : ℕ → List (List ℕ) → Type 0
Faultless count more = (seen : Seen) (c : Coming) → spelled_by more ≡ map Some (tokens_coming c) → FitsBehind seen c → fault_behind seen (count + 1) more ≡ None

token_first : (seen : Seen) (count : ℕ) (line : List ℕ) (more : List (List ℕ)) (c : Coming) → is_skipped (words line) ≡ false → token_of (words line) ∷ spelled_by more ≡ map Some (tokens_coming c)
    → FitsBehind seen c → Faultless count more → fault_behind seen count (line ∷ more) ≡ None
token_first seen count line more c e h fits behind = elim (next_coming seen c fits) [
  | inl none ↦ absurd (none_spelled (token_of (words line)) (spelled_by more) (h ∙ ap (λ k. map Some (tokens_coming k)) none))
  | inr next ↦ (let is = h ∙ ap (map Some) next.2.is in
      let first : token_of (words line) ≡ Some next.0 = cc in
      let rest : spelled_by more ≡ map Some (tokens_coming next.1) = cc in
      let fine = line_has_no_fault seen (words line) next.0 e first next.2.stands in
      fault-passed seen (seen_behind seen next.0) count line more fine.none fine.behind ∙ behind (seen_behind seen next.0) next.1 rest next.2.fits)
]

first_has_no_fault : (seen : Seen) (count : ℕ) (line : List ℕ) (more : List (List ℕ)) (c : Coming) (skipped : Bool) → is_skipped (words line) ≡ skipped → spelled_by (line ∷ more) ≡ map Some (tokens_coming c)
    → FitsBehind seen c → Faultless count more → fault_behind seen count (line ∷ more) ≡ None
first_has_no_fault seen count line more c true e each fits behind =
    fault-passed seen seen count line more (fault-skipped seen (words line) e) (seen_after-skipped seen (words line) e)
    ∙ behind seen c (sym (spelled-skipped line more e) ∙ each) fits
first_has_no_fault seen count line more c false e each fits behind = token_first seen count line more c e (sym (spelled-token line more e) ∙ each) fits behind

nothing_comes : (seen : Seen) (count : ℕ) (c : Coming) → [] ≡ map Some (tokens_coming c) → FitsBehind seen c → end_fault seen count ≡ None
nothing_comes seen count c h fits = elim (next_coming seen c fits) [
  | inl none ↦ ap (λ b. then_some b (fault_at OpenGroup (count + 1))) (fits.inside ∙ ap (λ (k : Coming). is_some k.0) none)
  | inr next ↦ absurd (none_spelled (Some next.0) (map Some (tokens_coming next.1)) (sym (h ∙ ap (map Some) next.2.is)))
]

spelled_has_no_fault : (seen : Seen) (count : ℕ) (all : List (List ℕ)) (c : Coming) → spelled_by all ≡ map Some (tokens_coming c) → FitsBehind seen c → fault_behind seen count all ≡ None
spelled_has_no_fault seen count [] c each fits = fault-nil seen count ∙ nothing_comes seen count c each fits
spelled_has_no_fault seen count (line ∷ more) c each fits =
    first_has_no_fault seen count line more c (is_skipped (words line)) refl each fits (λ s k same fit. spelled_has_no_fault s (count + 1) more k same fit)

-- ---- one list of items

same_tokens : (xs ys : List Token) → map Some xs ≡ map Some ys → xs ≡ ys
same_tokens [] [] h = refl
same_tokens [] (y ∷ ys) h = absurd (cc)
same_tokens (x ∷ xs) [] h = absurd (cc)
same_tokens (x ∷ xs) (y ∷ ys) h =
    let first : x ≡ y = cc in
    let rest : map Some xs ≡ map Some ys = cc in
    let tail = same_tokens xs ys rest in
    λ i. first i ∷ tail i

-- a group ends at the first end of one
same_group : (es fs : List EditOfGraph) (xs ys : List Token) → map Edit es ++ Commit ∷ xs ≡ map Edit fs ++ Commit ∷ ys → (es ≡ fs) × (xs ≡ ys)
same_group [] [] xs ys h = (refl, cc)
same_group [] (f ∷ fs) xs ys h = absurd (cc)
same_group (e ∷ es) [] xs ys h = absurd (cc)
same_group (e ∷ es) (f ∷ fs) xs ys h =
    let first : e ≡ f = cc in
    let rest : map Edit es ++ Commit ∷ xs ≡ map Edit fs ++ Commit ∷ ys = cc in
    let tail = same_group es fs xs ys rest in
    ((λ i. first i ∷ tail.0 i), tail.1)

same_items : (xs ys : List Item) → flat_map tokens_of xs ≡ flat_map tokens_of ys → xs ≡ ys
same_items [] [] h = refl
same_items [] (item.One f ∷ ys) h = absurd (cc)
same_items [] (item.Undo ∷ ys) h = absurd (cc)
same_items [] (item.Group fs ∷ ys) h = absurd (cc)
same_items (item.One e ∷ xs) [] h = absurd (cc)
same_items (item.One e ∷ xs) (item.One f ∷ ys) h =
    let first : e ≡ f = cc in
    let rest : flat_map tokens_of xs ≡ flat_map tokens_of ys = cc in
    let tail = same_items xs ys rest in
    λ i. item.One (first i) ∷ tail i
same_items (item.One e ∷ xs) (item.Undo ∷ ys) h = absurd (cc)
same_items (item.One e ∷ xs) (item.Group fs ∷ ys) h = absurd (cc)
same_items (item.Undo ∷ xs) [] h = absurd (cc)
same_items (item.Undo ∷ xs) (item.One f ∷ ys) h = absurd (cc)
same_items (item.Undo ∷ xs) (item.Undo ∷ ys) h =
    let rest : flat_map tokens_of xs ≡ flat_map tokens_of ys = cc in
    let tail = same_items xs ys rest in
    λ i. item.Undo ∷ tail i
same_items (item.Undo ∷ xs) (item.Group fs ∷ ys) h = absurd (cc)
same_items (item.Group es ∷ xs) [] h = absurd (cc)
same_items (item.Group es ∷ xs) (item.One f ∷ ys) h = absurd (cc)
same_items (item.Group es ∷ xs) (item.Undo ∷ ys) h = absurd (cc)
same_items (item.Group es ∷ xs) (item.Group fs ∷ ys) h =
    let whole : (map Edit es ++ Commit ∷ []) ++ flat_map tokens_of xs ≡ (map Edit fs ++ Commit ∷ []) ++ flat_map tokens_of ys = cc in
    let parts =
    same_group es fs (flat_map tokens_of xs) (flat_map tokens_of ys)
    (sym (append_assoc (map Edit es) (Commit ∷ []) (flat_map tokens_of xs)) ∙ whole ∙ append_assoc (map Edit fs) (Commit ∷ []) (flat_map tokens_of ys)) in
    let tail = same_items xs ys parts.1 in
    λ i. item.Group (parts.0 i) ∷ tail i

-- ---- the laws

pub script_has_no_fault : (bytes : List ℕ) (items : List Item) → SpellsScript bytes items → first_fault bytes ≡ None
script_has_no_fault bytes items s =
    let few = s.few in spelled_has_no_fault nothing_seen 0 (lines bytes) (None, items) s.each (record { inside = refl; few = omega arith })

-- bytes without fault spell items, and no others
one_script : (bytes : List ℕ) → first_fault bytes ≡ None → (items : List Item) × SpellsScript bytes items × All (IsScriptItem NAMES) items × ((other : List Item) → SpellsScript bytes other → other ≡ items)
one_script bytes none =
    let found = spelled_without_fault ([], None) 0 (lines bytes) no_draft none in (
      found.0,
      record { each = found.1.each; few = found.1.few },
      found.1.items_are,
      λ other s. same_items other found.0 (same_tokens _ _ (sym s.each ∙ found.1.each)),
    )

pub script_spelled_or_faulty : (bytes : List ℕ) → MatchOption (first_fault bytes) (SpellsOne SpellsScript bytes) (λ _. SpellsNone SpellsScript bytes)
script_spelled_or_faulty bytes = by_fault (first_fault bytes) refl where
  by_fault : (fault : Option FaultyLine) → first_fault bytes ≡ fault → MatchOption fault (SpellsOne SpellsScript bytes) (λ _. SpellsNone SpellsScript bytes)
  by_fault None e = let one = one_script bytes e in (one.0, record { spells = one.1; only = one.3 })
  by_fault (Some fault) e = λ items s. let none = script_has_no_fault bytes items s in cc

pub script_has_names : (bytes : List ℕ) (items : List Item) → SpellsScript bytes items → All (IsScriptItem NAMES) items
script_has_names bytes items s =
    let one = one_script bytes (script_has_no_fault bytes items s) in subst (All (IsScriptItem NAMES)) (sym (one.3 items s)) one.2

-- ---- the steps of the reader

-- of all lines `count` are read, which spell a draft
pub record HasReadLines (all : List (List ℕ)) (count : ℕ) (rest : List (List ℕ)) (d : PlainDraft) : Type 0 where
  pub each : spelled_by all ≡ map Some (draft_tokens d) ++ spelled_by rest
  pub fault : fault_behind nothing_seen 0 all ≡ fault_behind (draft_seen d) count rest

pub line_read : (all : List (List ℕ)) (count : ℕ) (rest : List (List ℕ)) (line stripped : List ℕ) (more : List (List ℕ)) (d next : PlainDraft) → HasReadLines all count rest d
    → rest ≡ line ∷ more → stripped ≡ without_return line → next ≡ draft_after d (fields stripped) → fault_of_words (draft_seen d) (fields stripped) ≡ None
    → HasReadLines all (count + 1) more next
line_read all count rest line stripped more d next h cut e is none =
    let fine : fault_of_words (draft_seen d) (words line) ≡ None = ap (λ s. fault_of_words (draft_seen d) (fields s)) (sym e) ∙ none in
    let read = line_is_read d line more fine in
    subst (HasReadLines all (count + 1) more) (sym (is ∙ ap (λ s. draft_after d (fields s)) e))
    (record {
      each = h.each ∙ ap (λ l. map Some (draft_tokens d) ++ spelled_by l) cut ∙ read.tokens;
      fault = h.fault ∙ ap (fault_behind (draft_seen d) count) cut ∙ fault-passed (draft_seen d) _ count line more fine read.seen;
    })

-- a line that is refused for a fault
pub line_refused : (all : List (List ℕ)) (count : ℕ) (rest : List (List ℕ)) (line stripped : List ℕ) (more : List (List ℕ)) (d : PlainDraft) (refusal : Refusal) (kind shown : ScriptKind)
    → HasReadLines all count rest d → rest ≡ line ∷ more → stripped ≡ without_return line → IsRefusal (fault_of_words (draft_seen d) (fields stripped)) refusal
    → refusal ≡ Bad kind → shown ≡ kind → fault_behind nothing_seen 0 all ≡ Some (record { kind = shown; line = count + 1 })
line_refused all count rest line stripped more d refusal kind shown h cut e fault bad same =
    let words_fault : fault_of_words (draft_seen d) (fields stripped) ≡ Some kind = subst (IsRefusal (fault_of_words (draft_seen d) (fields stripped))) bad fault in
    let here : fault_of_words (draft_seen d) (words line) ≡ Some shown = ap (λ s. fault_of_words (draft_seen d) (fields s)) (sym e) ∙ words_fault ∙ ap (λ k. Some k) (sym same) in
    h.fault ∙ ap (fault_behind (draft_seen d) count) cut ∙ fault-named (draft_seen d) count line more shown here

-- no line is left, and a group is open
pub group_left : (bytes rest : List ℕ) (count : ℕ) (d : PlainDraft) → HasReadLines (lines bytes) count (lines rest) d → (length rest == 0) ≡ true → is_some d.1 ≡ true
    → first_fault bytes ≡ Some (record { kind = OpenGroup; line = count + 1 })
group_left bytes rest count d h empty inside =
    h.fault ∙ ap (fault_behind (draft_seen d) count) (no_lines rest empty) ∙ fault-nil (draft_seen d) count ∙ ap (λ b. then_some b (fault_at OpenGroup (count + 1))) inside

-- no line is left, and no group is open
pub all_lines_read : (bytes rest : List ℕ) (count : ℕ) (d : PlainDraft) → HasReadLines (lines bytes) count (lines rest) d → (length rest == 0) ≡ true → is_some d.1 ≡ false → IsDraft d
    → SpellsScript bytes d.0
all_lines_read bytes rest count (items, None) h empty outside is = record {
  each =
      h.each ∙ ap (λ l. map Some (draft_tokens (items, None)) ++ spelled_by l) (no_lines rest empty) ∙ append-nil (map Some (draft_tokens (items, None)))
      ∙ ap (map Some) (append-nil (flat_map tokens_of items));
  few = let few = is.few in omega arith;
}
all_lines_read bytes rest count (items, Some edits) h empty outside is = absurd (cc)
