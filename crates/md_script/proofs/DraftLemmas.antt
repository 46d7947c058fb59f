-- Drafts of scripts: one more token.
use Rattle.std.specs.Prelude.{◌≡◌, ℕ, ◌+◌, Bool, true, false, List, [], ◌∷◌, ◌++◌, map, Some, None, refl}
use Rattle.std.specs.List.{flat_map, sum_by}
use Rattle.std.proofs.Common.{ap, ap₂, sym, ◌∙◌, arith, append_assoc, length-append}
use Rattle.std.proofs.lemmas.List.{append-nil, map-append}
use Rattle.std.proofs.lemmas.List.Elements.{All-nil, All-push}
use Rattle.std.proofs.lemmas.List.Sums.{sum_by_push}
use Rattle.std.proofs.lemmas.Grind.{flat_map-append}
use Rattle.md_graph.specs.declared.TheConstants.{NAMES}
use Rattle.md_script.specs.declared.item.Item.{Item}
use Rattle.md_script.specs.declared.item.Item.TheVariants as item
use Rattle.md_script.specs.declared.token.Token.{Token}
use Rattle.md_script.specs.declared.token.Token.TheVariants.{Edit, Undo, Begin, Commit}
use Rattle.md_script.specs.Edit.{HasNames}
use Rattle.md_script.specs.Items.{IsScriptItem, item_size}
use Rattle.md_script.specs.Tokens.{tokens_of, Seen}
use Rattle.md_script.specs.Drafts.{PlainDraft, draft_tokens, draft_seen, with_token, IsDraft, HasTokenNames, MayStand}
use Rattle.md_script.proofs.TokenLemmas.{seen_behind}

-- what a token makes of a draft
pub record IsNext (d : PlainDraft) (token : Token) (next : PlainDraft) : Type 0 where
  pub tokens : draft_tokens next ≡ draft_tokens d ++ token ∷ []
  pub seen : draft_seen next ≡ seen_behind (draft_seen d) token

tokens-push : (items : List Item) (item : Item) → flat_map tokens_of (items ++ item ∷ []) ≡ flat_map tokens_of items ++ tokens_of item
tokens-push items item = flat_map-append tokens_of items (item ∷ []) ∙ ap (λ l. flat_map tokens_of items ++ l) (append-nil (tokens_of item))

abbrev seen_of : ℕ → Bool → Seen
seen_of counted inside = record { counted = counted; inside = inside }

seen_alike : {n m : ℕ} (inside : Bool) → n ≡ m → seen_of n inside ≡ seen_of m inside
seen_alike inside e = ap (λ k. seen_of k inside) e

-- an item behind a draft without an open group
item_next : (items : List Item) (item : Item) (token : Token) → tokens_of item ≡ token ∷ [] → item_size item ≡ 1
    → (draft_tokens (items ++ item ∷ [], None) ≡ draft_tokens (items, None) ++ token ∷ []) × (sum_by item_size (items ++ item ∷ []) + 0 ≡ sum_by item_size items + 0 + 1)
item_next items item token is size =
    let pushed = sum_by_push item_size items item in (
      append-nil (flat_map tokens_of (items ++ item ∷ [])) ∙ tokens-push items item ∙ ap₂ (λ (x y : List Token). x ++ y) (sym (append-nil (flat_map tokens_of items))) is,
      omega arith,
    )

pub next_draft : (d : PlainDraft) (token : Token) → MayStand (draft_seen d) token → IsNext d token (with_token d token)
next_draft (items, None) (Edit edit) stands =
    let next = item_next items (item.One edit) (Edit edit) refl refl in
    record { tokens = next.0; seen = seen_alike false next.1 }
next_draft (items, Some edits) (Edit edit) stands = record {
  tokens =
      ap (λ l. flat_map tokens_of items ++ Begin ∷ l) (map-append Edit edits (edit ∷ []))
      ∙ sym (append_assoc (flat_map tokens_of items) (Begin ∷ map Edit edits) (Edit edit ∷ []));
  seen = seen_alike true (let e = length-append edits (edit ∷ []) in omega arith);
}
next_draft (items, None) Undo stands =
    let next = item_next items item.Undo Undo refl refl in
    record { tokens = next.0; seen = seen_alike false next.1 }
next_draft (items, Some edits) Undo stands = absurd (let inside = stands.0 in cc)
next_draft (items, None) Begin stands = record {
  tokens = ap (λ l. l ++ Begin ∷ []) (sym (append-nil (flat_map tokens_of items)));
  seen = seen_alike true (omega arith);
}
next_draft (items, Some edits) Begin stands = absurd (let inside = stands.0 in cc)
next_draft (items, None) Commit stands = absurd (cc)
next_draft (items, Some edits) Commit stands = record {
  tokens =
      append-nil (flat_map tokens_of (items ++ item.Group edits ∷ [])) ∙ tokens-push items (item.Group edits)
      ∙ sym (append_assoc (flat_map tokens_of items) (Begin ∷ map Edit edits) (Commit ∷ []));
  seen = seen_alike false (let pushed = sum_by_push item_size items (item.Group edits) in omega arith);
}

-- its names stay names, and its lines few
pub next_is_draft : (d : PlainDraft) (token : Token) → IsDraft d → HasTokenNames token → MayStand (draft_seen d) token → IsDraft (with_token d token)
next_is_draft (items, None) (Edit edit) is names stands = record {
  items = All-push (IsScriptItem NAMES) items (item.One edit) is.items (record { names = names; small = omega arith });
  edits = tt;
  few = let pushed = sum_by_push item_size items (item.One edit) in omega arith;
}
next_is_draft (items, Some edits) (Edit edit) is names stands = record {
  items = is.items;
  edits = All-push HasNames edits edit is.edits names;
  few = let e = length-append edits (edit ∷ []) in omega arith;
}
next_is_draft (items, None) Undo is names stands = record {
  items = All-push (IsScriptItem NAMES) items item.Undo is.items (record { names = tt; small = omega arith });
  edits = tt;
  few = let pushed = sum_by_push item_size items item.Undo in let room = stands.1 in omega arith;
}
next_is_draft (items, Some edits) Undo is names stands = absurd (let inside = stands.0 in cc)
next_is_draft (items, None) Begin is names stands = record { items = is.items; edits = All-nil HasNames; few = let room = stands.1 in omega arith }
next_is_draft (items, Some edits) Begin is names stands = absurd (let inside = stands.0 in cc)
next_is_draft (items, None) Commit is names stands = absurd (cc)
next_is_draft (items, Some edits) Commit is names stands = record {
  items = All-push (IsScriptItem NAMES) items (item.Group edits) is.items (record { names = is.edits; small = let few = is.few in omega arith });
  edits = tt;
  few = let few = is.few in let pushed = sum_by_push item_size items (item.Group edits) in omega arith;
}

-- no line is read yet
pub no_draft : IsDraft ([], None)
no_draft = record { items = All-nil (IsScriptItem NAMES); edits = tt; few = omega arith }
