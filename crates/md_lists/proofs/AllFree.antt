-- Store of which all places are free.
use Rattle.std.proofs.Common.{◌≡◌, ℕ, zero, suc, ◌+◌, min, cond, List, [], length, get_or, replicate, Option, None, is_none, refl, sym, ◌∙◌, ap, subst, arith}
use Rattle.std.proofs.lemmas.List.{length-replicate}
use Rattle.std.proofs.lemmas.List.Sums.{sum_by-cons}
use Rattle.std.specs.List.{count_by}
use Rattle.md_lists.specs.declared.kinds.PlaceKind.{PlaceKind}
use Rattle.md_lists.specs.declared.TheConstants.{PLACES}
use Rattle.md_lists.specs.Words.{holds_once}
use Rattle.md_graph.specs.Linked.{Follow, times}
use Rattle.md_lists.specs.Spans.{span_of, Precede}
use Rattle.md_lists.specs.Links.{all_free}
use Rattle.md_lists.specs.Store.{Store, filled_up, Shows}
use Rattle.md_lists.proofs.FilledUp.{get_or-all, filled_up-none}

abbrev all_none : ℕ → List (Option PlaceKind)
all_none n = replicate n None

none_marked : (t n : ℕ) → t ≡ 0 → n ≡ 0 → 0 ≡ min 1 (t + n)
none_marked t n a b = omega arith

count-all : (n : ℕ) → count_by is_none (all_none n) ≡ n
count-all zero = refl
count-all (suc n) = sum_by-cons (λ (o : Option PlaceKind). cond (is_none o) 1 0) None (all_none n) ∙ one_more (count-all n)
  where
    one_more : {c : ℕ} → c ≡ n → 1 + c ≡ suc n
    one_more e = omega arith

pub starts : (f : Store) → f.made ≡ 0 → f.kinds ≡ [] → f.parents ≡ [] → f.spans ≡ [] → f.nexts ≡ [] → f.previous ≡ [] → f.tallies ≡ [] → f.notes ≡ [] → f.marks ≡ span_of [] → f.mark_nexts ≡ [] → f.free ≡ [] → Shows f all_free
unfolding all_free
starts f made kinds parents spans nexts previous tallies notes marks mark_nexts free =
    record {
      links = record {
        kinds_len = length-replicate {A = Option PlaceKind} PLACES None;
        parents_len = length-replicate {A = Option ℕ} PLACES None;
        children_len = length-replicate {A = List ℕ} PLACES [];
        tallies_len = length-replicate {A = ℕ} PLACES 0;
        notes_len = length-replicate {A = ℕ} PLACES 0;
        agree = λ p c. ap (times c) (get_or-all PLACES p []) ∙ sym (ap (λ o. holds_once o p) (get_or-all PLACES c None));
        marks = λ p. none_marked _ _ (get_or-all PLACES p 0) (get_or-all PLACES p 0);
        bare = λ p free. record {
          no_parent = get_or-all PLACES p None;
          no_children = get_or-all PLACES p [];
          no_tally = get_or-all PLACES p 0;
          no_note = get_or-all PLACES p 0;
        };
      };
      kinds_len = ap length kinds ∙ sym made;
      parents_len = ap length parents ∙ sym made;
      tallies_len = ap length tallies ∙ sym made;
      notes_len = ap length notes ∙ sym made;
      kinds = ap (λ z. filled_up z None PLACES) kinds ∙ filled_up-none None PLACES;
      parents = ap (λ z. filled_up z None PLACES) parents ∙ filled_up-none None PLACES;
      tallies = ap (λ z. filled_up z 0 PLACES) tallies ∙ filled_up-none 0 PLACES;
      notes = ap (λ z. filled_up z 0 PLACES) notes ∙ filled_up-none 0 PLACES;
      children = record {
        spans_len = ap length spans ∙ sym made;
        nexts_len = ap length nexts ∙ sym made;
        previous_len = ap length previous ∙ sym made;
        spans = λ p. ap (λ z. get_or z p (span_of [])) spans ∙ ap span_of (sym (get_or-all PLACES p []));
        forward = λ p. subst (λ z. Follow f.nexts z None) (sym (get_or-all PLACES p [])) tt;
        back = λ p. subst (λ z. Precede f.previous None z) (sym (get_or-all PLACES p [])) tt;
        loose = λ c none. ap (λ z. get_or z c None) nexts;
      };
      marked = record {
        mark_nexts_len = ap length mark_nexts ∙ sym made;
        marks = marks;
        mark_forward = tt;
      };
      spare = record {
        made_few = let e = made in omega arith;
        free_once = λ p low. absurd (let e = made in omega arith);
        free_within = λ p high. ap (times p) free;
        free_count = let e = ap length free in let m = made in let all = count-all PLACES in omega arith;
      };
    }
