-- What a target refuses of more bytes.
use Rattle.std.specs.Prelude.{◌≡◌, ◌≢◌, ℕ, List, ◌++◌, take, drop}
use Rattle.std.proofs.Common.{append_assoc, sym, ◌∙◌, ap}
use Rattle.std.proofs.lemmas.List.{append_cancel_left, take-append-drop}
use Rattle.md_blocks.specs.Refusals.{RefusesFront}

-- what is put behind a front that a target refuses, which began before, is refused too
module _ {S E : Type 0} {bytes text : S → List ℕ} {may_refuse : S → List ℕ → E → Type 0} where
  pub refuses_longer : {begin first : S} {whole : List ℕ} {reason : E} → RefusesFront bytes text may_refuse begin whole reason → (tail total : List ℕ) → whole ++ tail ≡ total → text begin ≡ text first →
      RefusesFront bytes text may_refuse first total reason
  refuses_longer r tail total is same = record {
    target = r.target;
    chunk = r.chunk;
    rest = r.rest ++ tail;
    front = sym (append_assoc (bytes r.target ++ r.chunk) r.rest tail) ∙ ap (λ l. l ++ tail) r.front ∙ is;
    same_text = r.same_text ∙ same;
    refused = r.refused;
  }

-- a text that doesn't go on with a front of the whole doesn't begin with the whole
pub no_beginning : {S E : Type 0} (same : S → ℕ) (text : S → List ℕ) {begin : S} {whole : List ℕ} {reason : E} →
    RefusesFront (λ s. take (same s) (text s)) text (λ s chunk e. (rest : List ℕ) → drop (same s) (text s) ≢ chunk ++ rest) begin whole reason → (tail : List ℕ) → text begin ≢ whole ++ tail
no_beginning same text {begin} {whole} r tail is =
    let front = take (same r.target) (text r.target) in
    let behind = drop (same r.target) (text r.target) in
    r.refused (r.rest ++ tail) (append_cancel_left front behind (r.chunk ++ (r.rest ++ tail)) (
    take-append-drop (same r.target) (text r.target) ∙ r.same_text ∙ is ∙ ap (λ l. l ++ tail) (sym r.front)
    ∙ append_assoc (front ++ r.chunk) r.rest tail ∙ append_assoc front r.chunk (r.rest ++ tail)
    ))
