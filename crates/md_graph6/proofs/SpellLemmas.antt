-- What a graph6 line spells: a line without fault spells one graph, and a line that spells one has no fault.
use Rattle.std.proofs.Common.{◌≡◌, ℕ, ◌+◌, ◌-◌, ◌*◌, ◌<◌, ◌≤◌, true, false, List, ◌++◌, length, get_or, take, drop, None, Some, refl, sym, ap, ◌∙◌, arith, length-append, length-drop}
use Rattle.std.specs.List.{list_all, AllPass}
use Rattle.std.proofs.lemmas.Bool.Decides.{nat_tests}
use Rattle.std.proofs.lemmas.List.Sums.{list_all-from_AllPass, AllPass-from_list_all}
use Rattle.std.proofs.Math.Seq.{drop-append_seam}
use Rattle.std.proofs.lemmas.List.{take_rest}
use Rattle.std.proofs.lemmas.List.Elements.{All-drop}
use Rattle.std.proofs.lemmas.List.Folds.{list_all-append}
use Rattle.md_graph.specs.declared.TheConstants.{NAMES}
use Rattle.md_graph.specs.PlainGraph.{PlainGraph}
use Rattle.md_graph6.specs.Bits.{bit, body_length, IsBodyOf}
use Rattle.md_graph6.specs.Size.{size_text, size_of, most_in_four_bytes}
use Rattle.md_graph6.specs.Line.{SpellsGraph6, is_group, begins_other, pair_count, graph6_fault, size_fault, body_fault, graph_of_body, graph_of_sized, graph_of_graph6}
use Rattle.md_graph.proofs.Limits.{NAMES-lt}
use Rattle.md_graph6.proofs.SizeLemmas.{is_group-range, size_text-read, size_text-shortest, size_text-groups, size_text-some, size_text-spelt}
use Rattle.md_graph6.proofs.PaddingLemmas.{padding-none, padding-all}
use Rattle.md_graph6.proofs.DecodeLemmas.{decoded_is_body, IsBodyOf-one}
use Rattle.md_graph6.proofs.LineLemmas.{IsSoundBody, IsSoundLine, graph6_fault-sized, graph6_fault-none, body_fault-none, body_fault-sound}

-- a name's size takes at most four bytes
pub name_size : (n : ℕ) → n ≤ NAMES → n ≤ most_in_four_bytes
name_size n few = let fits = NAMES-lt in omega arith

-- a byte of six bits begins no line of another format
group-begins : (byte : ℕ) → is_group byte ≡ true → begins_other byte ≡ false
group-begins byte group = let range : (63 ≤ byte) × (byte ≤ 126) = is_group-range byte group in grind (arith, nat_tests)

line_begins : (line : List ℕ) → 0 < length line → list_all is_group line ≡ true → begins_other (get_or line 0 0) ≡ false
line_begins line some groups = group-begins (get_or line 0 0) (AllPass-from_list_all is_group line groups 0 0 some)

-- the line of a size and its body has a sound body
text_is_sound : {limit : ℕ} (n : ℕ) (body : List ℕ) → limit ≤ NAMES → n ≤ limit → length body ≡ body_length n
    → ((k : ℕ) → pair_count n ≤ k → k < 6 * body_length n → bit body k ≡ 0)
    → IsSoundBody limit (size_text n ++ body) (length (size_text n)) n
text_is_sound n body most few long blank = record {
  shortest = size_text-shortest n (name_size n (omega (arith, most, few)));
  few = few;
  long = length-append (size_text n) body ∙ ap (λ k. length (size_text n) + k) long;
  padding = rw (drop-append_seam (size_text n) body) (padding-none body (pair_count n) blank);
}

-- a size and group bytes behind it are group bytes
pub text_groups : (n : ℕ) (body : List ℕ) → n ≤ most_in_four_bytes → AllPass is_group body
    → list_all is_group (size_text n ++ body) ≡ true
text_groups n body small groups =
    list_all-append is_group (size_text n) body
    ∙ rw (size_text-groups n small, list_all-from_AllPass is_group body groups) refl

text_fault : (limit n : ℕ) (body : List ℕ) → limit ≤ NAMES → n ≤ limit → length body ≡ body_length n → AllPass is_group body
    → ((k : ℕ) → pair_count n ≤ k → k < 6 * body_length n → bit body k ≡ 0)
    → graph6_fault limit (size_text n ++ body) ≡ None
unfolding size_fault
text_fault limit n body most few long groups blank =
    let named : n ≤ NAMES = omega (arith, most, few) in
    let some : 0 < length (size_text n ++ body) = size_text-some n body (name_size n named) in
    let pass : list_all is_group (size_text n ++ body) ≡ true = text_groups n body (name_size n named) groups in
    graph6_fault-sized limit (size_text n ++ body) (Some (length (size_text n), n))
    (line_begins (size_text n ++ body) some pass) pass (size_text-read n body (name_size n named))
    ∙ body_fault-sound (size_text n ++ body) (length (size_text n)) n (text_is_sound n body most few long blank)

text_graph : (n : ℕ) (body : List ℕ) (g : PlainGraph) → n ≤ NAMES → IsBodyOf body n g
    → graph_of_graph6 (size_text n ++ body) ≡ g
unfolding graph_of_sized
text_graph n body g few bits =
    rw (size_text-read n body (name_size n few), drop-append_seam (size_text n) body)
    (IsBodyOf-one body n (graph_of_body body n) g (decoded_is_body body n few) bits)

-- a line that spells a graph has no fault, and is decoded to that graph
pub graph6_spells-some : {limit : ℕ} (line : List ℕ) (g : PlainGraph) → limit ≤ NAMES → SpellsGraph6 limit line g → 0 < length line
graph6_spells-some line g most s = rw s.text (size_text-some s.n s.body (name_size s.n (omega (arith, most, s.few))))

pub graph6_spells-sound : {limit : ℕ} (line : List ℕ) (g : PlainGraph) → limit ≤ NAMES → SpellsGraph6 limit line g → graph6_fault limit line ≡ None
graph6_spells-sound {limit} line g most s = rw s.text (text_fault limit s.n s.body most s.few s.long s.groups s.padding)

pub graph6_spells-graph : {limit : ℕ} (line : List ℕ) (g : PlainGraph) → limit ≤ NAMES → SpellsGraph6 limit line g → graph_of_graph6 line ≡ g
graph6_spells-graph line g most s = rw s.text (text_graph s.n s.body g (omega (arith, most, s.few)) s.bits)

-- the bytes of a line that spells a graph
pub graph6_spells-groups : {limit : ℕ} (line : List ℕ) (g : PlainGraph) → limit ≤ NAMES → SpellsGraph6 limit line g → AllPass is_group line
graph6_spells-groups line g most s = (graph6_fault-none line (graph6_spells-sound line g most s)).groups

-- a line without fault spells the graph that is decoded
sound_line-spells : {limit : ℕ} (line : List ℕ) (taken n : ℕ) → limit ≤ NAMES → 0 < length line → AllPass is_group line
    → size_of line ≡ Some (taken, n) → IsSoundBody limit line taken n → SpellsGraph6 limit line (graph_of_graph6 line)
unfolding graph_of_sized
sound_line-spells line taken n most some groups sized sound = record {
  n = n;
  body = drop taken line;
  few = sound.few;
  text = size_text-spelt line taken n some groups sized sound.shortest (name_size n (omega (arith, most, sound.few)));
  long = rw (length-drop taken line) (omega (arith, sound.long));
  groups = All-drop (λ byte. is_group byte ≡ true) taken line groups;
  bits = rw sized (decoded_is_body (drop taken line) n (omega (arith, most, sound.few)));
  padding = padding-all (drop taken line) (pair_count n) sound.padding;
}

pub sound-graph6_spells : {limit : ℕ} (line : List ℕ) → limit ≤ NAMES → 0 < length line → graph6_fault limit line ≡ None
    → SpellsGraph6 limit line (graph_of_graph6 line)
sound-graph6_spells {limit} line most some sound =
    let facts : IsSoundLine limit line = graph6_fault-none line sound in
    sound_line-spells line facts.taken facts.n most some facts.groups facts.sized facts.body

-- the size of a line without fault is there, and its body is sound
pub sound_line-sized : (line : List ℕ) → graph6_fault NAMES line ≡ None → size_of line ≡ None → ⊥
sound_line-sized line sound none =
    let facts : IsSoundLine NAMES line = graph6_fault-none line sound in
    cc (facts.sized)

pub sound_line-groups : (line : List ℕ) → graph6_fault NAMES line ≡ None → AllPass is_group line
sound_line-groups line sound = (graph6_fault-none line sound).groups

pub sound_line-body : (line : List ℕ) (taken n : ℕ) → 0 < length line → graph6_fault NAMES line ≡ None
    → size_of line ≡ Some (taken, n) → IsSoundBody NAMES line taken n
unfolding size_fault
sound_line-body line taken n some sound sized =
    let groups : list_all is_group line ≡ true = list_all-from_AllPass is_group line (sound_line-groups line sound) in
    let fault : graph6_fault NAMES line ≡ body_fault NAMES line taken n =
    graph6_fault-sized NAMES line (Some (taken, n)) (line_begins line some groups) groups sized in
    body_fault-none line taken n (sym fault ∙ sound)

-- a graph that is filled from what stands behind the size is the line's
pub filled_is_line : (line : List ℕ) (taken n : ℕ) (g : PlainGraph) → size_of line ≡ Some (taken, n) → n ≤ NAMES
    → IsBodyOf (take (length line - taken) (drop taken line)) n g → g ≡ graph_of_graph6 line
unfolding graph_of_sized
filled_is_line line taken n g sized few bits =
    let behind : IsBodyOf (drop taken line) n g = rw take_rest at bits in
    rw sized (IsBodyOf-one (drop taken line) n g (graph_of_body (drop taken line) n) behind (decoded_is_body (drop taken line) n few))
