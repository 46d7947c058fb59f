-- No line's text has a line feed.
use Rattle.std.proofs.Common.{◌≢◌, ℕ, List, [], ◌∷◌, ◌++◌, Option, None, Some, codes, inl, refl, arith}
use Rattle.md_text.specs.Numbers.{decimal}
use Rattle.md_forcing.specs.declared.arc.Arc.{Arc}
use Rattle.md_tree.specs.declared.Kind.{Kind}
use Rattle.md_tree.specs.declared.Kind.TheVariants.{Parallel, Series, Prime}
use Rattle.md_tree.specs.Trees.{PlainTreeOf, PlainTreesOf, PlainTree, leaf, node, no_tree, one_more}
use Rattle.md_tree.specs.Spellings.{Spelling, letter, graph_spelling}
use Rattle.md_tree.specs.TreeTexts.{pairs_text_by, tree_text_by, row_text_by, text_of_by, text_of}
use Rattle.md_script.specs.declared.edit.EditReason.{EditReason}
use Rattle.md_script.specs.declared.edit.EditReason.TheVariants.{Same, NoVertex, NameTaken, EdgeThere, EdgeAbsent}
use Rattle.md_bar_tree.specs.declared.Class.{Class}
use Rattle.md_bar_tree.specs.declared.Class.TheVariants.{Trivial, Threshold}
use Rattle.md_bar_tree.specs.declared.BarKind.{BarKind}
use Rattle.md_bar_tree.specs.declared.BarKind.TheVariants as kinds
use Rattle.md_bar_tree.specs.declared.Bar.{Bar}
use Rattle.md_report.specs.declared.line.Mode.{Mode}
use Rattle.md_report.specs.declared.line.Mode.TheVariants as modes
use Rattle.md_report.specs.Cuts.{LacksByte}
use Rattle.md_report.specs.Lines.{PlainLine, mode_word, reason_words, names_text, class_word, bar_word, bar_text, arc_text, arcs_text, line_text, head, head_class, tree, applied, applied_quiet, refused, refused_bar, group_refused, group_refused_bar, nothing_to_undo, barred, oriented, forced, orders, forced_in, forced_in_complement, end}
use Rattle.md_report.specs.Protocols.{IsLineSpelling}
use Rattle.md_report.proofs.Cutting.{lacks_when, lacks_append}
use Rattle.md_report.proofs.Named.{lacks_number, lacks_arc}
use Rattle.md_report.proofs.OneLine.{one_line_proof}

no_feed : (v : ℕ) → LacksByte 10 (decimal v)
no_feed v = lacks_number 10 v (inl (omega arith))

module _ {K P : Type 0} (sp : Spelling K P) (other_letter : (k : K) → sp.kinds.letter k ≢ 10) (other_mark : sp.pairs.between ≢ 10) where
  lacks_pairs : (mark : ℕ) (ps : List P) → mark ≢ 10 → LacksByte 10 (pairs_text_by sp.pairs mark ps)
  lacks_pairs mark [] other = tt
  lacks_pairs mark (p ∷ ps) other =
      let rest : LacksByte 10 (pairs_text_by sp.pairs 44 ps) = lacks_pairs 44 ps (λ e. omega arith) in (
        other,
        lacks_append 10 (decimal (sp.pairs.first p)) (sp.pairs.between ∷ (decimal (sp.pairs.second p) ++ pairs_text_by sp.pairs 44 ps)) (no_feed (sp.pairs.first p))
            (other_mark, lacks_append 10 (decimal (sp.pairs.second p)) (pairs_text_by sp.pairs 44 ps) (no_feed (sp.pairs.second p)) rest),
      )

  mutual
    lacks_tree : (t : PlainTreeOf K P) → LacksByte 10 (tree_text_by sp t)
    lacks_tree (leaf v) = no_feed v
    lacks_tree (node k cs ps) = (
      other_letter k,
      lacks_append 10 (row_text_by sp 40 cs) (pairs_text_by sp.pairs 59 ps ++ 41 ∷ []) (lacks_row 40 cs (λ e. omega arith))
          (lacks_append 10 (pairs_text_by sp.pairs 59 ps) (41 ∷ []) (lacks_pairs 59 ps (λ e. omega arith)) ((λ e. omega arith), tt)),
    )

    lacks_row : (mark : ℕ) (ts : PlainTreesOf K P) → mark ≢ 10 → LacksByte 10 (row_text_by sp mark ts)
    lacks_row mark no_tree other = tt
    lacks_row mark (one_more t ts) other = (other, lacks_append 10 (tree_text_by sp t) (row_text_by sp 44 ts) (lacks_tree t) (lacks_row 44 ts (λ e. omega arith)))

  -- no text of a tree has a line feed, where no letter and no mark is one
  pub lacks_option_by : (o : Option (PlainTreeOf K P)) → LacksByte 10 (text_of_by sp o)
  lacks_option_by None = lacks_when 10 (codes "empty") refl
  lacks_option_by (Some t) = lacks_tree t

other_letter : (k : Kind) → letter k ≢ 10
other_letter Parallel e = omega arith
other_letter Series e = omega arith
other_letter Prime e = omega arith

lacks_option : (o : Option PlainTree) → LacksByte 10 (text_of o)
lacks_option = lacks_option_by graph_spelling other_letter (λ e. omega arith)

lacks_mode : (m : Mode) → LacksByte 10 (mode_word m)
lacks_mode modes.Tree = lacks_when 10 (codes "tree") refl
lacks_mode modes.Edit = lacks_when 10 (codes "edit") refl
lacks_mode modes.Cograph = lacks_when 10 (codes "cograph") refl
lacks_mode modes.Quiet = lacks_when 10 (codes "quiet") refl
lacks_mode modes.Compare = lacks_when 10 (codes "compare") refl
lacks_mode modes.Permute = lacks_when 10 (codes "permute") refl

lacks_reason : (r : EditReason) → LacksByte 10 (reason_words r)
lacks_reason Same = lacks_when 10 (codes "same") refl
lacks_reason (NoVertex v) = lacks_append 10 (codes "vertex ") (decimal v) (lacks_when 10 (codes "vertex ") refl) (no_feed v)
lacks_reason (NameTaken v) = lacks_append 10 (codes "taken ") (decimal v) (lacks_when 10 (codes "taken ") refl) (no_feed v)
lacks_reason EdgeThere = lacks_when 10 (codes "edge-there") refl
lacks_reason EdgeAbsent = lacks_when 10 (codes "edge-absent") refl

lacks_arcs : (arcs : List Arc) → LacksByte 10 (arcs_text arcs)
lacks_arcs [] = tt
lacks_arcs (a ∷ arcs) = ((λ e. omega arith), lacks_append 10 (arc_text a) (arcs_text arcs) (lacks_arc 10 a (omega arith)) (lacks_arcs arcs))

lacks_names : (names : List ℕ) → LacksByte 10 (names_text names)
lacks_names [] = tt
lacks_names (v ∷ names) = ((λ e. omega arith), lacks_append 10 (decimal v) (names_text names) (no_feed v) (lacks_names names))

lacks_class : (c : Class) → LacksByte 10 (class_word c)
lacks_class Trivial = lacks_when 10 (codes "trivial") refl
lacks_class Threshold = lacks_when 10 (codes "threshold") refl

lacks_kind : (k : BarKind) → LacksByte 10 (bar_word k)
lacks_kind kinds.P4 = lacks_when 10 (codes "p4") refl
lacks_kind kinds.C4 = lacks_when 10 (codes "c4") refl
lacks_kind kinds.TwoK2 = lacks_when 10 (codes "2k2") refl

lacks_bar : (bar : Bar) → LacksByte 10 (bar_text bar)
lacks_bar bar =
    lacks_append 10 (bar_word bar.kind) (names_text (bar.a ∷ bar.b ∷ bar.c ∷ bar.d ∷ [])) (lacks_kind bar.kind) (lacks_names (bar.a ∷ bar.b ∷ bar.c ∷ bar.d ∷ []))

lacks_line : (line : PlainLine) → LacksByte 10 (line_text line)
lacks_line (head m) = lacks_append 10 (codes "mdt ") (mode_word m) (lacks_when 10 (codes "mdt ") refl) (lacks_mode m)
lacks_line (head_class c) = lacks_append 10 (codes "mdt ") (class_word c) (lacks_when 10 (codes "mdt ") refl) (lacks_class c)
lacks_line (tree t) = lacks_append 10 (codes "t ") (text_of t) (lacks_when 10 (codes "t ") refl) (lacks_option t)
lacks_line applied_quiet = lacks_when 10 (codes "ok") refl
lacks_line (applied t) = lacks_append 10 (codes "ok ") (text_of t) (lacks_when 10 (codes "ok ") refl) (lacks_option t)
lacks_line (refused r) = lacks_append 10 (codes "no ") (reason_words r) (lacks_when 10 (codes "no ") refl) (lacks_reason r)
lacks_line (refused_bar bar) = lacks_append 10 (codes "no ") (bar_text bar) (lacks_when 10 (codes "no ") refl) (lacks_bar bar)
lacks_line (group_refused number r) =
    lacks_append 10 (codes "no edit ") (decimal number ++ (codes " " ++ reason_words r)) (lacks_when 10 (codes "no edit ") refl)
    (lacks_append 10 (decimal number) (codes " " ++ reason_words r) (no_feed number) ((λ same. omega arith), lacks_reason r))
lacks_line (group_refused_bar number bar) =
    lacks_append 10 (codes "no edit ") (decimal number ++ (codes " " ++ bar_text bar)) (lacks_when 10 (codes "no edit ") refl)
    (lacks_append 10 (decimal number) (codes " " ++ bar_text bar) (no_feed number) ((λ same. omega arith), lacks_bar bar))
lacks_line nothing_to_undo = lacks_when 10 (codes "no undo") refl
lacks_line (barred bar) = lacks_bar bar
lacks_line (oriented arcs) = lacks_append 10 (codes "yes") (arcs_text arcs) (lacks_when 10 (codes "yes") refl) (lacks_arcs arcs)
lacks_line (forced chain) = lacks_append 10 (codes "no") (arcs_text chain) (lacks_when 10 (codes "no") refl) (lacks_arcs chain)
lacks_line (orders first second) =
    lacks_append 10 (codes "yes") (names_text first ++ (codes " /" ++ names_text second)) (lacks_when 10 (codes "yes") refl)
    (lacks_append 10 (names_text first) (codes " /" ++ names_text second) (lacks_names first)
    (lacks_append 10 (codes " /") (names_text second) (lacks_when 10 (codes " /") refl) (lacks_names second)))
lacks_line (forced_in chain) = lacks_append 10 (codes "no g") (arcs_text chain) (lacks_when 10 (codes "no g") refl) (lacks_arcs chain)
lacks_line (forced_in_complement chain) = lacks_append 10 (codes "no c") (arcs_text chain) (lacks_when 10 (codes "no c") refl) (lacks_arcs chain)
lacks_line end = lacks_when 10 (codes "end") refl

-- the texts of lines spell them
pub line_spelling : IsLineSpelling line_text
line_spelling = record { lacks = lacks_line; one = one_line_proof }
