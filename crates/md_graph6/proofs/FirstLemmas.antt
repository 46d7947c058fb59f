-- How many vertices the graph of a line has, and how that shows in its first byte.
use Rattle.std.proofs.Common.{◌≡◌, ◌≢◌, ◌⊎◌, ℕ, zero, suc, ◌+◌, ◌-◌, ◌*◌, ◌/◌, ◌%◌, ◌<◌, ◌≤◌, ◌==◌, Bool, true, false, List, [], ◌∷◌, ◌++◌, length, get_or, slice_index, map, take, drop, None, Some, if◌then◌else◌, nat_lt, ap, subst, inl, inr, refl, sym, ◌∙◌, arith, ltb-true}
use Rattle.std.specs.List.{All, AllPass, onto_first}
use Rattle.std.proofs.lemmas.List.{take-append-drop, append-nil, append_assoc}
use Rattle.std.proofs.lemmas.List.Sums.{AllPass-from_list_all}
use Rattle.std.proofs.lemmas.Bool.{lt-ltb, ne_eqb, cases_lt}
use Rattle.std.proofs.lemmas.Bool.Decides.{eqb_tells}
use Rattle.md_graph.specs.declared.TheConstants.{NAMES}
use Rattle.std.specs.FinSet as set
use Rattle.md_graph.specs.Sets.{NameSet}
use Rattle.md_graph.specs.NameSet.{AllBelow}
use Rattle.md_graph.specs.PlainGraph.{PlainGraph, IsGraph}
use Rattle.md_text.specs.Lines.{lines, without_return}
use Rattle.md_text.specs.Spelling.{first_fault_behind}
use Rattle.md_text.proofs.LineLemmas.{lines-nil, lines-feed, lines-other}
use Rattle.md_graph6.specs.File.{HasNoFault, fault_after, stripped_lines, graphs_of_lines, graphs_in}
use Rattle.md_graph6.specs.First.{FirstBelow, IsFirstBound, BeginsWithSize}
use Rattle.md_graph6.specs.Line.{is_group, graph6_fault, graph_of_graph6, graph_of_sized}
use Rattle.md_graph6.specs.FileLine.{line_fault, graph_of_line, from_size}
use Rattle.md_graph6.specs.Size.{size_text, size_of, eighteen_bits, most_in_four_bytes}
use Rattle.md_graph6.proofs.LineLemmas.{IsSoundBody}
use Rattle.md_graph6.proofs.SizeLemmas.{is_group-range, size_text-one, size_text-four, size_text-groups, size_text-some}
use Rattle.md_graph6.proofs.SpellLemmas.{sound_line-body, sound_line-groups}
use Rattle.md_graph6.proofs.FileLineLemmas.{HasNumbers, line_fault-dense, spells-sized, sound-spells}
use Rattle.md_graph6.proofs.DecodeLemmas.{decoded_is_body}
use Rattle.md_graph6.proofs.ReadLemmas.{stripped_lines-cut, graphs-cut_skip, fault_or-none, HasNoFault-cut}
use Rattle.md_graph6.proofs.FileLemmas.{sound_graphs}

-- the numbers below n are below a number where n is at most that
pub few_numbers : (n : ℕ) (s : NameSet) (m : ℕ) → ((v : ℕ) → set.contains s v ≡ nat_lt v n) → n ≤ m → AllBelow s m
few_numbers n s m has few v member = omega (arith, few, ltb-true v n (sym (has v) ∙ member))

pub numbers_below : (n : ℕ) (s : NameSet) (m : ℕ) → ((v : ℕ) → set.contains s v ≡ nat_lt v n) → AllBelow s m → n ≤ m
numbers_below zero s m has below = omega arith
numbers_below (suc k) s m has below =
    let last : k < m = below k (has k ∙ lt-ltb k (suc k) (omega arith)) in omega (arith, last)

-- the number of vertices bounds the graph of a line
line_bound : {graphs more : List PlainGraph} (line : List ℕ) (n : ℕ) → graphs ≡ graph_of_line line ∷ more → HasNumbers n (graph_of_line line) → n ≤ NAMES → IsFirstBound n graphs
line_bound line n e has few = rw e (record {
  below = few_numbers n (graph_of_line line).vertices n has (omega arith);
  least = λ m below. numbers_below n (graph_of_line line).vertices m has below;
  few = few;
})

-- no graph has a vertex
pub none_bound : {graphs : List PlainGraph} → graphs ≡ [] → IsFirstBound 0 graphs
none_bound e = rw e (record { below = tt; least = λ m below. omega arith; few = omega arith })

-- a greater number is above them too
pub first_below : (graphs : List PlainGraph) (n m : ℕ) → n ≤ m → FirstBelow n graphs → FirstBelow m graphs
first_below [] n m more below = tt
first_below (g ∷ graphs) n m more below = λ v member. omega (arith, more, below v member)

-- a size has room where the vertices have
pub size_fits : (line : List ℕ) (taken n m : ℕ) → 0 < length line → graph6_fault NAMES line ≡ None → size_of line ≡ Some (taken, n)
    → AllBelow (graph_of_graph6 line).vertices m → n ≤ m
unfolding graph_of_sized
size_fits line taken n m some sound sized below =
    let body : IsSoundBody NAMES line taken n = sound_line-body line taken n some sound sized in
    numbers_below n (graph_of_graph6 line).vertices m (rw sized (decoded_is_body (drop taken line) n body.few).vertices) below

-- the graphs of lines without fault have names as vertices
graphs_fit : (graphs : List PlainGraph) → All IsGraph graphs → FirstBelow NAMES graphs
graphs_fit [] all = tt
graphs_fit (g ∷ more) all = (all 0 g (omega arith)).names

pub lines_fit : (text : List ℕ) → HasNoFault (stripped_lines text) → FirstBelow NAMES (graphs_in text)
lines_fit text sound = graphs_fit (graphs_in text) (sound_graphs (stripped_lines text) sound)

-- ---- the first line that isn't empty

-- a line that begins with another byte than 13, and keeps it
stripped_begins : (byte : ℕ) (line : List ℕ) → (byte ≢ 13) ⊎ (0 < length line) → (kept : List ℕ) × (without_return (byte ∷ line) ≡ byte ∷ kept)
stripped_begins byte [] (inl other) = ([], rw (ne_eqb byte 13 other) refl)
stripped_begins byte [] (inr some) = absurd (omega (arith, some))
stripped_begins byte (next ∷ line) why =
    by_last (slice_index (byte ∷ next ∷ line) (length (byte ∷ next ∷ line) - 1) == 13) (length (byte ∷ next ∷ line) - 1) (omega arith)
  where
    by_last : (last : Bool) (n : ℕ) → 0 < n
        → (kept : List ℕ) × ((if last then take n (byte ∷ next ∷ line) else byte ∷ next ∷ line) ≡ byte ∷ kept)
    by_last true zero some = absurd (omega (arith, some))
    by_last true (suc n) some = (take n (next ∷ line), refl)
    by_last false n some = (next ∷ line, refl)

-- a byte in front of a text whose first line has bytes
begins_more : (byte next : ℕ) (all : List (List ℕ))
    → (line : List ℕ) × (more : List (List ℕ)) × (map without_return (onto_first byte (onto_first next all)) ≡ (byte ∷ line) ∷ more)
begins_more byte next [] =
    let kept = stripped_begins byte (next ∷ []) (inr (omega arith)) in
    (kept.0, [], λ i. kept.1 i ∷ [])
begins_more byte next (line ∷ more) =
    let kept = stripped_begins byte (next ∷ line) (inr (omega arith)) in
    (kept.0, map without_return more, λ i. kept.1 i ∷ map without_return more)

-- the first of lines without fault has none
first_sound : (line : List ℕ) (more : List (List ℕ)) → HasNoFault (line ∷ more) → line_fault NAMES line ≡ None
unfolding first_fault_behind
first_sound line more sound = (fault_or-none (line_fault NAMES line) 1 (fault_after NAMES 1 more) sound).0

-- the first line is the front of the text
first_front : (text line : List ℕ) (more : List (List ℕ)) → lines text ≡ line ∷ more → (behind : List ℕ) × (text ≡ line ++ behind)
first_front [] line more is = let none = lines-nil in cc
first_front (byte ∷ text) line more is =
    elim (eqb_tells byte 10) [
      | inl (_, feed) ↦
          let at_feed : lines (byte ∷ text) ≡ [] ∷ lines text = rw feed (lines-feed text) in
          let none : line ≡ [] = head_of (sym is ∙ at_feed) in
          (byte ∷ text, rw none refl)
      | inr (_, other) ↦ by_lines (lines text) (first_front text) refl (sym (lines-other byte text other) ∙ is)
    ]
  where
    head_of : {a b : List ℕ} {x y : List (List ℕ)} → a ∷ x ≡ b ∷ y → a ≡ b
    head_of e = cc

    by_lines : (all : List (List ℕ)) → ((line : List ℕ) (more : List (List ℕ)) → lines text ≡ line ∷ more → (behind : List ℕ) × (text ≡ line ++ behind))
        → lines text ≡ all → onto_first byte all ≡ line ∷ more → (behind : List ℕ) × (byte ∷ text ≡ line ++ behind)
    by_lines [] front has is = (text, rw (sym (head_of is)) refl)
    by_lines (first ∷ others) front has is =
        let rest = front first others has in
        (rest.0, ap (λ l. byte ∷ l) rest.1 ∙ ap (λ l. l ++ rest.0) (head_of is))

-- a line without its last byte is a front of it
kept_front : (line : List ℕ) → (tail : List ℕ) × (line ≡ without_return line ++ tail)
kept_front line = by_last (slice_index line (length line - 1) == 13)
  where
    by_last : (last : Bool) → (tail : List ℕ) × (line ≡ (if last then take (length line - 1) line else line) ++ tail)
    by_last true = (drop (length line - 1) line, sym (take-append-drop (length line - 1) line))
    by_last false = ([], sym (append-nil line))

-- how a text begins that begins with no end of a line
record Begins (text : List ℕ) (byte : ℕ) : Type 0 where
  kept : List ℕ
  behind : List ℕ
  more : List (List ℕ)
  cut : stripped_lines text ≡ (byte ∷ kept) ∷ more
  whole : text ≡ (byte ∷ kept) ++ behind

begins_with : (byte : ℕ) (rest : List ℕ) → byte ≢ 10 → byte ≢ 13 → Begins (byte ∷ rest) byte
begins_with byte rest no_feed no_return = by_lines (lines rest) refl
  where
    cut_at : (line : List ℕ) (more : List (List ℕ)) → lines (byte ∷ rest) ≡ (byte ∷ line) ∷ more → Begins (byte ∷ rest) byte
    cut_at line more cut =
        let kept = stripped_begins byte line (inl no_return) in
        let tail = kept_front (byte ∷ line) in
        let front = first_front (byte ∷ rest) (byte ∷ line) more cut in
        record {
          kept = kept.0;
          behind = tail.0 ++ front.0;
          more = map without_return more;
          cut = ap (map without_return) cut ∙ ap (λ l. l ∷ map without_return more) kept.1;
          whole = front.1 ∙ ap (λ l. l ++ front.0) (tail.1 ∙ ap (λ l. l ++ tail.0) kept.1) ∙ append_assoc (byte ∷ kept.0) tail.0 front.0;
        }

    by_lines : (all : List (List ℕ)) → lines rest ≡ all → Begins (byte ∷ rest) byte
    by_lines [] has = cut_at [] [] (lines-other byte rest no_feed ∙ ap (onto_first byte) has)
    by_lines (line ∷ more) has = cut_at line more (lines-other byte rest no_feed ∙ ap (onto_first byte) has)

-- a text with more bytes behind it
more_behind : {n : ℕ} (text behind : List ℕ) → BeginsWithSize n text → BeginsWithSize n (text ++ behind)
more_behind {n} text behind size = record {
  behind = size.behind ++ behind;
  whole = ap (λ l. l ++ behind) size.whole ∙ append_assoc (size_text n) size.behind behind;
  small = size.small;
}

-- what the first line of such a text spells, and where it is
record Leads (text : List ℕ) : Type 0 where
  n : ℕ
  size : BeginsWithSize n (from_size text)
  bound : IsFirstBound n (graphs_in text)

leads : (byte : ℕ) (rest : List ℕ) → byte ≢ 10 → byte ≢ 13 → HasNoFault (stripped_lines (byte ∷ rest)) → Leads (byte ∷ rest)
unfolding graphs_of_lines
leads byte rest no_feed no_return sound =
    let b = begins_with byte rest no_feed no_return in
    let none = first_sound (byte ∷ b.kept) b.more (subst HasNoFault b.cut sound) in
    let s = spells-sized (byte ∷ b.kept) (graph_of_line (byte ∷ b.kept)) (sound-spells {limit = NAMES} (byte ∷ b.kept) (omega arith) (omega arith) none) in
    record {
      n = s.n;
      size = subst (λ t. BeginsWithSize s.n (from_size t)) (sym b.whole) (size_before byte b.kept b.behind s.size);
      bound = line_bound (byte ∷ b.kept) s.n (ap (graphs_of_lines graph_of_line) b.cut) s.vertices s.few;
    }
  where
    -- bytes behind the line leave its size
    size_before : {n : ℕ} (byte : ℕ) (line behind : List ℕ) → BeginsWithSize n (from_size (byte ∷ line))
        → BeginsWithSize n (from_size ((byte ∷ line) ++ behind))
    size_before {n} byte line behind size = elim (eqb_tells byte 58) [
      | inl (test, _) ↦ rw test (more_behind line behind (rw test at size))
      | inr (test, _) ↦ rw test (more_behind (byte ∷ line) behind (rw test at size))
    ]

-- the first byte tells how many bytes the size has
begins_small : (n : ℕ) (body : List ℕ) → n ≤ 62 → get_or (size_text n ++ body) 0 0 ≡ n + 63
begins_small n body small = rw (size_text-one n small) refl

begins_large : (n : ℕ) (body : List ℕ) → 63 ≤ n → n ≤ most_in_four_bytes → get_or (size_text n ++ body) 0 0 ≡ 126
begins_large n body large small = rw (size_text-four n large small) refl

-- a text that isn't empty begins with the size of its first graph
pub first_leads : (text : List ℕ) → 0 < length text → get_or text 0 0 ≢ 10 → get_or text 0 0 ≢ 13 → HasNoFault (stripped_lines text)
    → (n : ℕ) × BeginsWithSize n (from_size text) × IsFirstBound n (graphs_in text)
first_leads [] some no_feed no_return sound = absurd (omega (arith, some))
first_leads (byte ∷ rest) some no_feed no_return sound =
    let l = leads byte rest no_feed no_return sound in (l.n, l.size, l.bound)

-- a size has a byte
pub size_some : {n : ℕ} (text : List ℕ) → BeginsWithSize n text → 0 < length text
size_some {n} text size = rw size.whole (size_text-some n size.behind size.small)

-- one byte spells the size
pub size_one : (n : ℕ) (text : List ℕ) → BeginsWithSize n text → get_or text 0 0 ≢ 126 → (63 ≤ get_or text 0 0) × (get_or text 0 0 - 63 ≡ n)
size_one n text size other =
    let begins : get_or text 0 0 ≡ get_or (size_text n ++ size.behind) 0 0 = ap (λ t. get_or t 0 0) size.whole in
    elim (cases_lt n 63) [
      | inl small ↦
          let e : get_or text 0 0 ≡ n + 63 = begins ∙ begins_small n size.behind (omega (arith, small)) in
          (omega (arith, e), omega (arith, e))
      | inr large ↦ absurd (other (begins ∙ begins_large n size.behind (omega (arith, large)) size.small))
    ]

-- a text that begins with the byte of a size
pub small_bound : (text : List ℕ) → 0 < length text → 63 ≤ get_or text 0 0 → get_or text 0 0 < 126 → HasNoFault (stripped_lines text)
    → IsFirstBound (get_or text 0 0 - 63) (graphs_in text)
small_bound text some low high sound =
    let l = first_leads text some (λ feed. absurd (omega (arith, low, feed))) (λ returned. absurd (omega (arith, low, returned))) sound in
    let size : BeginsWithSize l.0 text = rw (ne_eqb (get_or text 0 0) 58 (λ colon. absurd (omega (arith, low, colon)))) at l.1 in
    subst (λ n. IsFirstBound n (graphs_in text)) (sym (size_one l.0 text size (λ long. absurd (omega (arith, high, long)))).1) l.2

-- four bytes spell the size
pub record HasFour (n : ℕ) (text : List ℕ) : Type 0 where
  pub long : 4 ≤ length text
  pub groups : AllPass is_group (take 4 text)
  pub value : eighteen_bits (take 4 text) 1 ≡ n

four_bytes : (n : ℕ) (text body : List ℕ) → 63 ≤ n → n ≤ most_in_four_bytes → text ≡ size_text n ++ body
    → (4 ≤ length text) × (take 4 text ≡ size_text n) × (eighteen_bits (size_text n) 1 ≡ n)
four_bytes n text body large small is =
    let value : ((n / 64 / 64 % 64 + 63 - 63) * 64 + (n / 64 % 64 + 63 - 63)) * 64 + (n % 64 + 63 - 63) ≡ n = omega (arith, small) in
    rw (is, size_text-four n large small) (omega arith, refl, value)

pub size_four : (n : ℕ) (text : List ℕ) → BeginsWithSize n text → get_or text 0 0 ≡ 126 → HasFour n text
size_four n text size long =
    let begins : get_or text 0 0 ≡ get_or (size_text n ++ size.behind) 0 0 = ap (λ t. get_or t 0 0) size.whole in
    elim (cases_lt n 63) [
      | inl small ↦
          let e : get_or text 0 0 ≡ n + 63 = begins ∙ begins_small n size.behind (omega (arith, small)) in
          absurd (omega (arith, e, long, small))
      | inr large ↦
          let four = four_bytes n text size.behind (omega (arith, large)) size.small size.whole in
          record {
            long = four.0;
            groups = subst (AllPass is_group) (sym four.1) (AllPass-from_list_all is_group (size_text n) (size_text-groups n size.small));
            value = ap (λ t. eighteen_bits t 1) four.1 ∙ four.2;
          }
    ]

-- a text that is cut behind an empty line
abbrev Skips : List ℕ → List ℕ → Type 0
Skips text rest = HasNoFault (stripped_lines rest) × (graphs_in rest ≡ graphs_in text)

skipped_feed : (rest : List ℕ) → HasNoFault (stripped_lines (10 ∷ rest)) → Skips (10 ∷ rest) rest
skipped_feed rest sound =
    ((HasNoFault-cut (10 ∷ rest) [] rest (lines-feed rest) sound).1, sym (graphs-cut_skip graph_of_line (10 ∷ rest) [] rest (lines-feed rest) refl))

-- the byte 13 stands before a line's end, or at that of the text
skipped_return : (rest : List ℕ) → HasNoFault (stripped_lines (13 ∷ rest)) → Skips (13 ∷ rest) rest
skipped_return [] sound =
    let cut : lines (13 ∷ []) ≡ (13 ∷ []) ∷ lines [] = lines-other 13 [] (λ same. absurd (omega arith)) ∙ rw lines-nil refl in
    ((HasNoFault-cut (13 ∷ []) (13 ∷ []) [] cut sound).1, sym (graphs-cut_skip graph_of_line (13 ∷ []) (13 ∷ []) [] cut refl))
skipped_return (next ∷ rest) sound =
    elim (eqb_tells next 10) [
      | inl (_, feed) ↦
          let at_feed : lines (next ∷ rest) ≡ [] ∷ lines rest = rw feed (lines-feed rest) in
          let cut : lines (13 ∷ next ∷ rest) ≡ (13 ∷ []) ∷ lines rest =
          lines-other 13 (next ∷ rest) (λ same. absurd (omega arith)) ∙ ap (onto_first 13) at_feed in
          let same : stripped_lines (13 ∷ next ∷ rest) ≡ stripped_lines (next ∷ rest) =
          stripped_lines-cut (13 ∷ next ∷ rest) (13 ∷ []) rest cut ∙ sym (stripped_lines-cut (next ∷ rest) [] rest at_feed) in
          (subst HasNoFault same sound, ap (graphs_of_lines graph_of_line) (sym same))
      | inr (_, other) ↦
          let begins = begins_more 13 next (lines rest) in
          let cut : stripped_lines (13 ∷ next ∷ rest) ≡ (13 ∷ begins.0) ∷ begins.1 =
          ap (map without_return) (lines-other 13 (next ∷ rest) (λ same. absurd (omega arith)) ∙ ap (onto_first 13) (lines-other next rest other)) ∙ begins.2 in
          let none = first_sound (13 ∷ begins.0) begins.1 (subst HasNoFault cut sound) in
          let group : is_group 13 ≡ true = sound_line-groups (13 ∷ begins.0) (sym (line_fault-dense NAMES (13 ∷ begins.0) (omega arith) (λ same. absurd (omega arith))) ∙ none) 0 0 (omega arith) in
          absurd (omega (arith, (is_group-range 13 group).0))
    ]

-- a byte that ends a line is passed over
pub skipped : (text rest : List ℕ) (byte : ℕ) → text ≡ byte ∷ rest → (byte ≡ 10) ⊎ (byte ≡ 13) → HasNoFault (stripped_lines text)
    → HasNoFault (stripped_lines rest) × (graphs_in rest ≡ graphs_in text)
skipped text rest byte is (inl feed) sound =
    let e : text ≡ 10 ∷ rest = is ∙ ap (λ b. b ∷ rest) feed in
    subst (λ t. Skips t rest) (sym e) (skipped_feed rest (subst (λ t. HasNoFault (stripped_lines t)) e sound))
skipped text rest byte is (inr returned) sound =
    let e : text ≡ 13 ∷ rest = is ∙ ap (λ b. b ∷ rest) returned in
    subst (λ t. Skips t rest) (sym e) (skipped_return rest (subst (λ t. HasNoFault (stripped_lines t)) e sound))
