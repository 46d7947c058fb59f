-- Each text is of one line at most.
use Rattle.std.proofs.Common.{◌≡◌, ◌≢◌, ℕ, ◌<◌, ◌≤◌, ◌⊎◌, cond, leb, List, [], ◌∷◌, ◌++◌, codes, length, get_or, Option, refl, sym, ◌∙◌, ap, ap₂, subst, inl, inr, arith, append_assoc, append-nil}
use Rattle.std.specs.Prelude.{⊤, ◌==◌}
use Rattle.std.proofs.lemmas.Bool.{le-leb, ne_eqb}
use Rattle.std.proofs.lemmas.List.{append_cancel_left, append_cancel_right}
use Rattle.md_text.specs.Numbers.{decimal}
use Rattle.md_text.proofs.NumberLemmas.{decimal_injective, decimal_is_canonical, decimal_is_digits}
use Rattle.md_forcing.specs.declared.arc.Arc.{Arc}
use Rattle.md_bar_tree.specs.declared.Class.{Class}
use Rattle.md_bar_tree.specs.declared.Class.TheVariants.{Trivial, Threshold}
use Rattle.md_bar_tree.specs.declared.BarKind.{BarKind}
use Rattle.md_bar_tree.specs.declared.BarKind.TheVariants as kinds
use Rattle.md_bar_tree.specs.declared.Bar.{Bar}
use Rattle.md_tree.specs.Trees.{PlainTree}
use Rattle.md_tree.specs.TreeTexts.{text_of}
use Rattle.md_tree.proofs.Spelled.{graph_law}
use Rattle.md_tree.proofs.Texts.{one_text_proof}
use Rattle.md_script.specs.declared.edit.EditReason.{EditReason}
use Rattle.md_script.specs.declared.edit.EditReason.TheVariants.{Same, NoVertex, NameTaken, EdgeThere, EdgeAbsent}
use Rattle.md_report.specs.declared.line.Mode.{Mode}
use Rattle.md_report.specs.declared.line.Mode.TheVariants as modes
use Rattle.md_report.specs.Cuts.{LacksByte}
use Rattle.md_report.specs.Lines.{PlainLine, mode_word, class_word, reason_words, names_text, bar_word, bar_text, arc_text, arcs_text, line_text, head, head_class, tree, applied, applied_quiet, refused, refused_bar, group_refused, group_refused_bar, nothing_to_undo, barred, oriented, forced, orders, forced_in, forced_in_complement, end}
use Rattle.md_report.specs.Laws.{OneLineOneText}
use Rattle.md_report.proofs.Cutting.{one_cut, one_row, lacks_append}
use Rattle.md_report.proofs.Named.{lacks_number, lacks_arc, one_arc}
use Rattle.md_report.proofs.Behind.{lacks_arcs, lacks_names}

-- the variants of lines; those that say yes are one
data Variant : Type 0 where
  a_head : Variant
  a_class : Variant
  a_tree : Variant
  applied_tree : Variant
  an_ok : Variant
  a_bar : Variant
  a_yes : Variant
  an_end : Variant
  a_chain : Variant
  a_same : Variant
  no_vertex : Variant
  a_taken : Variant
  edge_there : Variant
  edge_absent : Variant
  no_bar : Variant
  a_group : Variant
  no_undo : Variant
  a_chain_in : Variant
  chain_in_complement : Variant

-- which line it is, by its variant, but for the two that say yes
abbrev variant : PlainLine → Variant
variant (head mode) = a_head
variant (head_class class) = a_class
variant (tree t) = a_tree
variant (applied t) = applied_tree
variant applied_quiet = an_ok
variant (group_refused number reason) = a_group
variant (group_refused_bar number bar) = a_group
variant nothing_to_undo = no_undo
variant (barred bar) = a_bar
variant (oriented arcs) = a_yes
variant (orders first second) = a_yes
variant end = an_end
variant (forced chain) = a_chain
variant (refused Same) = a_same
variant (refused (NoVertex v)) = no_vertex
variant (refused (NameTaken v)) = a_taken
variant (refused EdgeThere) = edge_there
variant (refused EdgeAbsent) = edge_absent
variant (refused_bar bar) = no_bar
variant (forced_in chain) = a_chain_in
variant (forced_in_complement chain) = chain_in_complement

abbrev IsVariant : Variant → PlainLine → Type 0
IsVariant a_head l = (mode : Mode) × (l ≡ head mode)
IsVariant a_class l = (class : Class) × (l ≡ head_class class)
IsVariant a_tree l = (t : Option PlainTree) × (l ≡ tree t)
IsVariant applied_tree l = (t : Option PlainTree) × (l ≡ applied t)
IsVariant an_ok l = l ≡ applied_quiet
IsVariant a_bar l = (bar : Bar) × (l ≡ barred bar)
IsVariant a_yes l = ((arcs : List Arc) × (l ≡ oriented arcs)) ⊎ ((first : List ℕ) × (second : List ℕ) × (l ≡ orders first second))
IsVariant an_end l = l ≡ end
IsVariant a_chain l = (chain : List Arc) × (l ≡ forced chain)
IsVariant a_same l = l ≡ refused Same
IsVariant no_vertex l = (v : ℕ) × (l ≡ refused (NoVertex v))
IsVariant a_taken l = (v : ℕ) × (l ≡ refused (NameTaken v))
IsVariant edge_there l = l ≡ refused EdgeThere
IsVariant edge_absent l = l ≡ refused EdgeAbsent
IsVariant no_bar l = (bar : Bar) × (l ≡ refused_bar bar)
IsVariant a_group l = ((number : ℕ) × (reason : EditReason) × (l ≡ group_refused number reason)) ⊎ ((number : ℕ) × (bar : Bar) × (l ≡ group_refused_bar number bar))
IsVariant no_undo l = l ≡ nothing_to_undo
IsVariant a_chain_in l = (chain : List Arc) × (l ≡ forced_in chain)
IsVariant chain_in_complement l = (chain : List Arc) × (l ≡ forced_in_complement chain)

is_variant : (l : PlainLine) → IsVariant (variant l) l
is_variant (head mode) = (mode, refl)
is_variant (head_class class) = (class, refl)
is_variant (tree t) = (t, refl)
is_variant (applied t) = (t, refl)
is_variant applied_quiet = refl
is_variant (barred bar) = (bar, refl)
is_variant (oriented arcs) = inl (arcs, refl)
is_variant (orders first second) = inr (first, second, refl)
is_variant end = refl
is_variant (forced chain) = (chain, refl)
is_variant (refused Same) = refl
is_variant (refused (NoVertex v)) = (v, refl)
is_variant (refused (NameTaken v)) = (v, refl)
is_variant (refused EdgeThere) = refl
is_variant (refused EdgeAbsent) = refl
is_variant (refused_bar bar) = (bar, refl)
is_variant (group_refused number reason) = inl (number, reason, refl)
is_variant (group_refused_bar number bar) = inr (number, bar, refl)
is_variant nothing_to_undo = refl
is_variant (forced_in chain) = (chain, refl)
is_variant (forced_in_complement chain) = (chain, refl)

-- the variant of a line that begins with `no`, by four of its bytes
abbrev refused_at : ℕ → ℕ → ℕ → ℕ → Variant
refused_at b e d c =
    cond (leb b 57) (cond (e == 107) no_bar a_chain) (cond (b == 115) a_same (cond (b == 118) no_vertex (cond (b == 116) a_taken (cond (b == 112) no_bar (cond (b == 103) a_chain_in
    (cond (b == 99) (cond (e == 52) no_bar chain_in_complement) (cond (b == 117) no_undo (cond (d == 105) a_group (cond (c == 116) edge_there edge_absent)))))))))

-- the variant of a line that begins with `mdt`, by one of its bytes
abbrev head_at : ℕ → Variant
head_at b = cond (b == 105) a_class (cond (b == 115) a_class a_head)

-- the variant of a line, by its text
abbrev variant_at : List ℕ → Variant
variant_at t =
    cond (get_or t 0 0 == 109) (head_at (get_or t 8 0)) (cond (get_or t 0 0 == 116) a_tree (cond (get_or t 0 0 == 111) (cond (get_or t 2 0 == 32) applied_tree an_ok) (cond (get_or t 0 0 == 112) a_bar
    (cond (get_or t 0 0 == 99) a_bar (cond (get_or t 0 0 == 50) a_bar (cond (get_or t 0 0 == 121) a_yes (cond (get_or t 0 0 == 101) an_end (refused_at (get_or t 3 0) (get_or t 4 0) (get_or t 5 0) (get_or t 8 0)))))))))

-- an arc's text begins with a digit, behind which stands another one or its mark
low_bytes : (digits rest : List ℕ) → 0 < length digits → ((k : ℕ) → k < length digits → get_or digits k 0 ≤ 57) → (get_or (digits ++ 62 ∷ rest) 0 0 ≤ 57) × (get_or (digits ++ 62 ∷ rest) 1 0 ≤ 62)
low_bytes [] rest some low = absurd (omega arith)
low_bytes (x ∷ []) rest some low = (low 0 some, omega arith)
low_bytes (x ∷ y ∷ digits) rest some low = (low 0 some, let second : y ≤ 57 = low 1 (omega arith) in omega arith)

arc_low : (a : Arc) (rest : List ℕ) → (get_or (arc_text a ++ rest) 0 0 ≤ 57) × (get_or (arc_text a ++ rest) 1 0 ≤ 62)
arc_low a rest =
    subst (λ (t : List ℕ). (get_or t 0 0 ≤ 57) × (get_or t 1 0 ≤ 62)) (sym (append_assoc (decimal a.tail) (62 ∷ decimal a.head) rest))
    (low_bytes (decimal a.tail) (decimal a.head ++ rest) (decimal_is_canonical a.tail).0.some_digit (λ k below. (decimal_is_digits a.tail k 0 below).1))

-- a bar's line, by its kind
bar_is : (k : BarKind) (names : List ℕ) → variant_at (bar_word k ++ names) ≡ a_bar
bar_is kinds.P4 names = refl
bar_is kinds.C4 names = refl
bar_is kinds.TwoK2 names = refl

no_bar_is : (k : BarKind) (names : List ℕ) → variant_at (codes "no " ++ (bar_word k ++ names)) ≡ no_bar
no_bar_is kinds.P4 names = refl
no_bar_is kinds.C4 names = refl
no_bar_is kinds.TwoK2 names = refl

chain_at : (b e d c : ℕ) → b ≤ 57 → e ≤ 62 → refused_at b e d c ≡ a_chain
chain_at b e d c low also = rw (le-leb b 57 low, ne_eqb e 107 (λ same. omega arith)) refl

variant_is : (l : PlainLine) → variant_at (line_text l) ≡ variant l
variant_is (head modes.Tree) = refl
variant_is (head modes.Edit) = refl
variant_is (head modes.Cograph) = refl
variant_is (head modes.Compare) = refl
variant_is (head modes.Permute) = refl
variant_is (head modes.Quiet) = refl
variant_is (head_class Trivial) = refl
variant_is (head_class Threshold) = refl
variant_is (tree t) = refl
variant_is (applied t) = refl
variant_is applied_quiet = refl
variant_is (barred bar) = bar_is bar.kind (names_text (bar.a ∷ bar.b ∷ bar.c ∷ bar.d ∷ []))
variant_is (oriented arcs) = refl
variant_is (orders first second) = refl
variant_is end = refl
variant_is (forced []) = refl
variant_is (forced (a ∷ chain)) =
    let text : List ℕ = arc_text a ++ arcs_text chain in
    let low = arc_low a (arcs_text chain) in
    chain_at (get_or text 0 0) (get_or text 1 0) (get_or text 2 0) (get_or text 5 0) low.0 low.1
variant_is (refused Same) = refl
variant_is (refused (NoVertex v)) = refl
variant_is (refused (NameTaken v)) = refl
variant_is (refused EdgeThere) = refl
variant_is (refused EdgeAbsent) = refl
variant_is (refused_bar bar) = no_bar_is bar.kind (names_text (bar.a ∷ bar.b ∷ bar.c ∷ bar.d ∷ []))
variant_is (group_refused number reason) = refl
variant_is (group_refused_bar number bar) = refl
variant_is nothing_to_undo = refl
variant_is (forced_in chain) = refl
variant_is (forced_in_complement []) = refl
variant_is (forced_in_complement (a ∷ chain)) = refl

-- what the texts of names, arcs, bars and orders tell
pub one_names : (xs ys : List ℕ) → names_text xs ≡ names_text ys → xs ≡ ys
one_names xs ys =
    one_row decimal (λ v. ⊤) (λ v fits. lacks_number 32 v (inl (omega arith))) (λ u v fits_u fits_v. decimal_injective u v) xs ys (λ k d below. tt) (λ k d below. tt)

one_arcs : (xs ys : List Arc) → arcs_text xs ≡ arcs_text ys → xs ≡ ys
one_arcs xs ys = one_row arc_text (λ a. ⊤) (λ a fits. lacks_arc 32 a (omega arith)) (λ a b fits_a fits_b. one_arc a b) xs ys (λ k d below. tt) (λ k d below. tt)

abbrev kind_at : ℕ → BarKind
kind_at b = cond (b == 112) kinds.P4 (cond (b == 99) kinds.C4 kinds.TwoK2)

kind_is : (k : BarKind) (names : List ℕ) → kind_at (get_or (bar_word k ++ names) 0 0) ≡ k
kind_is kinds.P4 names = refl
kind_is kinds.C4 names = refl
kind_is kinds.TwoK2 names = refl

-- a text behind the word of a kind is cut there
pub bar_cut : (j k : BarKind) (r s : List ℕ) → bar_word j ++ r ≡ bar_word k ++ s → (j ≡ k) × (r ≡ s)
bar_cut j k r s e =
    let same : j ≡ k = sym (kind_is j r) ∙ ap (λ (t : List ℕ). kind_at (get_or t 0 0)) e ∙ kind_is k s in
    (same, append_cancel_left (bar_word k) r s (ap (λ (w : BarKind). bar_word w ++ r) (sym same) ∙ e))

one_bar : (p q : Bar) → bar_text p ≡ bar_text q → p ≡ q
one_bar p q e =
    let cut = bar_cut p.kind q.kind (names_text (p.a ∷ p.b ∷ p.c ∷ p.d ∷ [])) (names_text (q.a ∷ q.b ∷ q.c ∷ q.d ∷ [])) e in
    let f : p.a ∷ p.b ∷ p.c ∷ p.d ∷ [] ≡ q.a ∷ q.b ∷ q.c ∷ q.d ∷ [] = one_names (p.a ∷ p.b ∷ p.c ∷ p.d ∷ []) (q.a ∷ q.b ∷ q.c ∷ q.d ∷ []) cut.1 in
    let a : p.a ≡ q.a = cc in
    let b : p.b ≡ q.b = cc in
    let c : p.c ≡ q.c = cc in
    let d : p.d ≡ q.d = cc in
    λ i. record { kind = cut.0 i; a = a i; b = b i; c = c i; d = d i }

abbrev mode_at : ℕ → ℕ → Mode
mode_at b c = cond (b == 116) modes.Tree (cond (b == 101) modes.Edit (cond (b == 112) modes.Permute (cond (b == 113) modes.Quiet (cond (c == 103) modes.Cograph modes.Compare))))

mode_is : (m : Mode) → mode_at (get_or (mode_word m) 0 0) (get_or (mode_word m) 2 0) ≡ m
mode_is modes.Tree = refl
mode_is modes.Edit = refl
mode_is modes.Cograph = refl
mode_is modes.Compare = refl
mode_is modes.Permute = refl
mode_is modes.Quiet = refl

one_mode : (m n : Mode) → mode_word m ≡ mode_word n → m ≡ n
one_mode m n e = sym (mode_is m) ∙ ap (λ (t : List ℕ). mode_at (get_or t 0 0) (get_or t 2 0)) e ∙ mode_is n

abbrev class_at : ℕ → Class
class_at b = cond (b == 114) Trivial Threshold

class_is : (c : Class) → class_at (get_or (class_word c) 1 0) ≡ c
class_is Trivial = refl
class_is Threshold = refl

one_class : (c d : Class) → class_word c ≡ class_word d → c ≡ d
one_class c d e = sym (class_is c) ∙ ap (λ (t : List ℕ). class_at (get_or t 1 0)) e ∙ class_is d

-- orders' text is cut at its slash, and arcs' text has none
orders_tell : (p q r s : List ℕ) → names_text p ++ (32 ∷ 47 ∷ names_text q) ≡ names_text r ++ (32 ∷ 47 ∷ names_text s) → (p ≡ r) × (q ≡ s)
orders_tell p q r s e =
    let none : (v : List ℕ) → LacksByte 47 (names_text v ++ 32 ∷ []) = λ v. lacks_append 47 (names_text v) (32 ∷ []) (lacks_names v) ((λ same. omega arith), tt) in
    let i : (names_text p ++ 32 ∷ [] ≡ names_text r ++ 32 ∷ []) × (47 ∷ names_text q ≡ 47 ∷ names_text s) =
    one_cut 47 (names_text p ++ 32 ∷ []) (names_text r ++ 32 ∷ []) (47 ∷ names_text q) (47 ∷ names_text s) (none p) (none r) refl refl
    (append_assoc (names_text p) (32 ∷ []) (47 ∷ names_text q) ∙ e ∙ sym (append_assoc (names_text r) (32 ∷ []) (47 ∷ names_text s))) in
    let f : 47 ∷ names_text q ≡ 47 ∷ names_text s = i.1 in
    (one_names p r (append_cancel_right (names_text p) (names_text r) (32 ∷ []) i.0), one_names q s (cc))

orders_no_arcs : (p q : List ℕ) (arcs : List Arc) → names_text p ++ (32 ∷ 47 ∷ names_text q) ≡ arcs_text arcs → ⊥
orders_no_arcs p q arcs e =
    let i : (names_text p ++ 32 ∷ [] ≡ arcs_text arcs) × (47 ∷ names_text q ≡ []) =
    one_cut 47 (names_text p ++ 32 ∷ []) (arcs_text arcs) (47 ∷ names_text q) []
    (lacks_append 47 (names_text p) (32 ∷ []) (lacks_names p) ((λ same. omega arith), tt)) (lacks_arcs arcs) refl tt
    (append_assoc (names_text p) (32 ∷ []) (47 ∷ names_text q) ∙ e ∙ sym (append-nil (arcs_text arcs))) in
    let f : 47 ∷ names_text q ≡ [] = i.1 in
    cc

-- two lines of one variant and one text, where the first refuses for a reason
same_refused : (r : EditReason) (l : PlainLine) → IsVariant (variant (refused r)) l → line_text (refused r) ≡ line_text l → refused r ≡ l
same_refused Same l is e = sym is
same_refused (NoVertex v) l is e =
    let f : codes "no vertex " ++ decimal v ≡ codes "no vertex " ++ decimal is.0 = e ∙ ap line_text is.1 in
    ap (λ (w : ℕ). refused (NoVertex w)) (decimal_injective v is.0 (cc)) ∙ sym is.1
same_refused (NameTaken v) l is e =
    let f : codes "no taken " ++ decimal v ≡ codes "no taken " ++ decimal is.0 = e ∙ ap line_text is.1 in
    ap (λ (w : ℕ). refused (NameTaken w)) (decimal_injective v is.0 (cc)) ∙ sym is.1
same_refused EdgeThere l is e = sym is
same_refused EdgeAbsent l is e = sym is

one_reason : (r s : EditReason) → reason_words r ≡ reason_words s → r ≡ s
one_reason r s e =
    let f : line_text (refused r) ≡ line_text (refused s) = ap (λ (t : List ℕ). codes "no " ++ t) e in
    let g : refused r ≡ refused s =
    same_refused r (refused s) (subst (λ v. IsVariant v (refused s)) (sym (variant_is (refused s)) ∙ ap variant_at (sym f) ∙ variant_is (refused r)) (is_variant (refused s))) f in
    cc

no_bar_reason : (r : EditReason) → variant (refused r) ≢ no_bar
no_bar_reason Same e = absurd (cc)
no_bar_reason (NoVertex v) e = absurd (cc)
no_bar_reason (NameTaken v) e = absurd (cc)
no_bar_reason EdgeThere e = absurd (cc)
no_bar_reason EdgeAbsent e = absurd (cc)

reason_no_bar : (r : EditReason) (bar : Bar) → reason_words r ≢ bar_text bar
reason_no_bar r bar e =
    let f : line_text (refused r) ≡ line_text (refused_bar bar) = ap (λ (t : List ℕ). codes "no " ++ t) e in
    no_bar_reason r (sym (variant_is (refused r)) ∙ ap variant_at f ∙ variant_is (refused_bar bar))

-- the line of a group is cut behind its number
group_tell : (i j : ℕ) (r s : List ℕ) → codes "no edit " ++ (decimal i ++ 32 ∷ r) ≡ codes "no edit " ++ (decimal j ++ 32 ∷ s) → (i ≡ j) × (r ≡ s)
group_tell i j r s e =
    let f : decimal i ++ 32 ∷ r ≡ decimal j ++ 32 ∷ s = cc in
    let cut : (decimal i ≡ decimal j) × (32 ∷ r ≡ 32 ∷ s) =
    one_cut 32 (decimal i) (decimal j) (32 ∷ r) (32 ∷ s) (lacks_number 32 i (inl (omega arith))) (lacks_number 32 j (inl (omega arith))) refl refl f in
    let g : 32 ∷ r ≡ 32 ∷ s = cut.1 in
    (decimal_injective i j cut.0, cc)

-- two lines of one variant and one text
same_line : (k l : PlainLine) → IsVariant (variant k) l → line_text k ≡ line_text l → k ≡ l
same_line (head m) l is e =
    let f : codes "mdt " ++ mode_word m ≡ codes "mdt " ++ mode_word is.0 = e ∙ ap line_text is.1 in
    ap head (one_mode m is.0 (cc)) ∙ sym is.1
same_line (head_class c) l is e =
    let f : codes "mdt " ++ class_word c ≡ codes "mdt " ++ class_word is.0 = e ∙ ap line_text is.1 in
    ap head_class (one_class c is.0 (cc)) ∙ sym is.1
same_line (tree t) l is e =
    let f : codes "t " ++ text_of t ≡ codes "t " ++ text_of is.0 = e ∙ ap line_text is.1 in
    ap tree (one_text_proof graph_law t is.0 (cc)) ∙ sym is.1
same_line (applied t) l is e =
    let f : codes "ok " ++ text_of t ≡ codes "ok " ++ text_of is.0 = e ∙ ap line_text is.1 in
    ap applied (one_text_proof graph_law t is.0 (cc)) ∙ sym is.1
same_line applied_quiet l is e = sym is
same_line (barred bar) l is e = ap barred (one_bar bar is.0 (e ∙ ap line_text is.1)) ∙ sym is.1
same_line (oriented arcs) l (inl is) e =
    let f : codes "yes" ++ arcs_text arcs ≡ codes "yes" ++ arcs_text is.0 = e ∙ ap line_text is.1 in
    ap oriented (one_arcs arcs is.0 (cc)) ∙ sym is.1
same_line (oriented arcs) l (inr is) e =
    let f : codes "yes" ++ arcs_text arcs ≡ codes "yes" ++ (names_text is.0 ++ (32 ∷ 47 ∷ names_text is.1)) = e ∙ ap line_text is.2 in
    absurd (orders_no_arcs is.0 is.1 arcs (cc))
same_line (orders p q) l (inl is) e =
    let f : codes "yes" ++ (names_text p ++ (32 ∷ 47 ∷ names_text q)) ≡ codes "yes" ++ arcs_text is.0 = e ∙ ap line_text is.1 in
    absurd (orders_no_arcs p q is.0 (cc))
same_line (orders p q) l (inr is) e =
    let f : codes "yes" ++ (names_text p ++ (32 ∷ 47 ∷ names_text q)) ≡ codes "yes" ++ (names_text is.0 ++ (32 ∷ 47 ∷ names_text is.1)) = e ∙ ap line_text is.2 in
    let g = orders_tell p q is.0 is.1 (cc) in
    ap₂ orders g.0 g.1 ∙ sym is.2
same_line end l is e = sym is
same_line (forced chain) l is e =
    let f : codes "no" ++ arcs_text chain ≡ codes "no" ++ arcs_text is.0 = e ∙ ap line_text is.1 in
    ap forced (one_arcs chain is.0 (cc)) ∙ sym is.1
same_line (refused r) l is e = same_refused r l is e
same_line (group_refused number reason) l (inl is) e =
    let i = group_tell number is.0 (reason_words reason) (reason_words is.1) (e ∙ ap line_text is.2) in
    ap₂ group_refused i.0 (one_reason reason is.1 i.1) ∙ sym is.2
same_line (group_refused number reason) l (inr is) e =
    absurd (reason_no_bar reason is.1 (group_tell number is.0 (reason_words reason) (bar_text is.1) (e ∙ ap line_text is.2)).1)
same_line (group_refused_bar number bar) l (inl is) e =
    absurd (reason_no_bar is.1 bar (sym (group_tell number is.0 (bar_text bar) (reason_words is.1) (e ∙ ap line_text is.2)).1))
same_line (group_refused_bar number bar) l (inr is) e =
    let i = group_tell number is.0 (bar_text bar) (bar_text is.1) (e ∙ ap line_text is.2) in
    ap₂ group_refused_bar i.0 (one_bar bar is.1 i.1) ∙ sym is.2
same_line nothing_to_undo l is e = sym is
same_line (refused_bar bar) l is e =
    let f : codes "no " ++ bar_text bar ≡ codes "no " ++ bar_text is.0 = e ∙ ap line_text is.1 in
    ap refused_bar (one_bar bar is.0 (cc)) ∙ sym is.1
same_line (forced_in chain) l is e =
    let f : codes "no g" ++ arcs_text chain ≡ codes "no g" ++ arcs_text is.0 = e ∙ ap line_text is.1 in
    ap forced_in (one_arcs chain is.0 (cc)) ∙ sym is.1
same_line (forced_in_complement chain) l is e =
    let f : codes "no c" ++ arcs_text chain ≡ codes "no c" ++ arcs_text is.0 = e ∙ ap line_text is.1 in
    ap forced_in_complement (one_arcs chain is.0 (cc)) ∙ sym is.1

pub one_line_proof : OneLineOneText
one_line_proof k l e =
    same_line k l (subst (λ v. IsVariant v l) (sym (variant_is l) ∙ ap variant_at (sym e) ∙ variant_is k) (is_variant l)) e
