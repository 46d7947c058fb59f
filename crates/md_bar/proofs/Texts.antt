-- The texts of lines of sessions on a class, cut where they are read.
use Rattle.std.proofs.Common.{◌≡◌, ◌≢◌, ℕ, List, [], ◌∷◌, ◌++◌, Option, Some, None, refl, sym, ◌∙◌, ap, ap₂, subst}
use Rattle.std.specs.Prelude.{MatchOption}
use Rattle.std.specs.List.{All}
use Rattle.md_text.specs.Numbers.{decimal}
use Rattle.md_bar_tree.specs.declared.BarKind.{BarKind}
use Rattle.md_bar_tree.specs.declared.Bar.{Bar}
use Rattle.md_report.specs.Cuts.{IsItem}
use Rattle.md_report.specs.Lines.{PlainLine, names_text, bar_word, bar_text, line_text}
use Rattle.md_report.specs.WellFormedLines.{IsVertexName, IsEditNumber, IsBarOrder, IsNamedBar, IsWellFormedLine}
use Rattle.md_report.proofs.Named.{one_edit}
use Rattle.md_report.proofs.OneLine.{one_line_proof, one_names, bar_cut}
use Rattle.md_bar.specs.ClassLines.{IsShared}
use Rattle.md_bar.specs.Reading.{IsOrderedBar}

-- the bar of the names that a text spells behind the word of a kind
module _ (text behind : List ℕ) (kind : BarKind) (at : text ≡ bar_word kind ++ behind) where
  kind_cut : (bar : Bar) → text ≡ bar_text bar → (kind ≡ bar.kind) × (behind ≡ names_text (bar.a ∷ bar.b ∷ bar.c ∷ bar.d ∷ []))
  kind_cut bar e = bar_cut kind bar.kind behind (names_text (bar.a ∷ bar.b ∷ bar.c ∷ bar.d ∷ [])) (sym at ∙ e)

  pub no_names : ((list : List ℕ) → All IsVertexName list → behind ≢ names_text list) → (bar : Bar) → IsNamedBar bar → text ≢ bar_text bar
  no_names none bar is e = none (bar.a ∷ bar.b ∷ bar.c ∷ bar.d ∷ []) is.names (kind_cut bar e).1

  pub bar_spelled : (items names : List ℕ) (o : Option Bar) → names ≡ items → All IsVertexName items → behind ≡ names_text items →
      MatchOption o ((a b c d : ℕ) → IsOrderedBar kind a b c d → names ≢ a ∷ b ∷ c ∷ d ∷ []) (λ bar. (bar.kind ≡ kind) × IsOrderedBar kind bar.a bar.b bar.c bar.d × (names ≡ bar.a ∷ bar.b ∷ bar.c ∷ bar.d ∷ [])) →
      MatchOption o ((bar : Bar) → IsNamedBar bar → text ≢ bar_text bar) (λ bar. IsNamedBar bar × (text ≡ bar_text bar))
  bar_spelled items names None same all spelled none = λ bar is e.
      let cut = kind_cut bar e in
      none bar.a bar.b bar.c bar.d (subst (λ k. IsOrderedBar k bar.a bar.b bar.c bar.d) (sym cut.0) (is.different, is.order))
      (same ∙ one_names items (bar.a ∷ bar.b ∷ bar.c ∷ bar.d ∷ []) (sym spelled ∙ cut.1))
  bar_spelled items names (Some bar) same all spelled found =
      let four : items ≡ bar.a ∷ bar.b ∷ bar.c ∷ bar.d ∷ [] = sym same ∙ found.2 in (
        record {
          names = subst (All IsVertexName) four all;
          different = found.1.0;
          order = subst (λ k. IsBarOrder k bar.a bar.b bar.c bar.d) (sym found.0) found.1.1;
        },
        at ∙ ap₂ (λ (k : BarKind) (t : List ℕ). bar_word k ++ t) (sym found.0) (spelled ∙ ap names_text four),
      )

-- what stands behind the number of an edit
module _ (text tail : List ℕ) (number : ℕ) (item : IsItem decimal IsEditNumber text number tail) where
  number_cut : (other : ℕ) (bar : Bar) → IsEditNumber other → text ≡ 32 ∷ (decimal other ++ 32 ∷ bar_text bar) → tail ≡ 32 ∷ bar_text bar
  number_cut other bar is e = one_edit number other tail (32 ∷ bar_text bar) item.fits is item.opens refl (sym item.whole ∙ e)

  pub no_space : ((rest : List ℕ) → tail ≢ 32 ∷ rest) → (other : ℕ) (bar : Bar) → IsEditNumber other → IsNamedBar bar → text ≢ 32 ∷ (decimal other ++ 32 ∷ bar_text bar)
  no_space none other bar is named e = none (bar_text bar) (number_cut other bar is e)

  pub no_bar_behind : (behind : List ℕ) → tail ≡ 32 ∷ behind → ((bar : Bar) → IsNamedBar bar → behind ≢ bar_text bar) → (other : ℕ) (bar : Bar) → IsEditNumber other → IsNamedBar bar → text ≢ 32 ∷ (decimal other ++ 32 ∷ bar_text bar)
  no_bar_behind behind at none other bar is named e =
      let f : 32 ∷ behind ≡ 32 ∷ bar_text bar = sym at ∙ number_cut other bar is e in
      none bar named (cc)

-- a line that was read, and isn't one of those that stand in all sessions
pub not_shared : (bytes : List ℕ) (line : PlainLine) → bytes ≡ line_text line → (IsShared line → ⊥) → (other : PlainLine) → IsShared other → IsWellFormedLine other → bytes ≢ line_text other
not_shared bytes line at none other shared is e = none (subst IsShared (sym (one_line_proof line other (sym at ∙ e))) shared)
