-- Rows of trees that have the same marks but for the order of trees.
use Rattle.std.proofs.Common.{◌≡◌, ℕ, ◌+◌, ◌-◌, ◌*◌, min, Bool, cond, ◌==◌, List, [], ◌∷◌, refl, sym, ◌∙◌, ap, arith}
use Rattle.md_lists.specs.Links.{Links}
use Rattle.md_cotree.specs.PlaceTrees.{PlaceTree, inner, PlaceTrees, no_more, then, place_of}
use Rattle.md_cotree_edit.specs.Contexts.{Frame, fill, plug}
use Rattle.md_cotree_edit.specs.Marks.{hits_in, hits_row, full_in, full_row, full_count, full_nodes, full_nodes_row, mixed_in, mixed_count, walked_count, tally_in, tally_row, note_in, note_row, TellMarks}
use Rattle.md_cotree_edit.proofs.Trees.SameRows.{SameRow, plus_none, same_refl, same_trans, same_swap, same_rest, same_first, same_inner}

pub record SameMarks (m w : ℕ → ℕ) (ts us : PlaceTrees) : Type 0 where
  pub hits : hits_row m us ≡ hits_row m ts
  pub full : full_row m us ≡ full_row m ts
  pub counted : full_count m us ≡ full_count m ts
  pub nodes : full_nodes_row m us ≡ full_nodes_row m ts
  pub mixed : mixed_count m us ≡ mixed_count m ts
  pub walked : walked_count m w us ≡ walked_count m w ts
  pub tallies : (p : ℕ) → tally_row m p us ≡ tally_row m p ts
  pub notes : (p : ℕ) → note_row m w p us ≡ note_row m w p ts

pub marks_refl : (m w : ℕ → ℕ) (ts : PlaceTrees) → SameMarks m w ts ts
marks_refl m w ts = record {
  hits = refl;
  full = refl;
  counted = refl;
  nodes = refl;
  mixed = refl;
  walked = refl;
  tallies = λ p. refl;
  notes = λ p. refl;
}

pub marks_back : (m w : ℕ → ℕ) (ts us : PlaceTrees) → SameMarks m w ts us → SameMarks m w us ts
marks_back m w ts us a = record {
  hits = sym a.hits;
  full = sym a.full;
  counted = sym a.counted;
  nodes = sym a.nodes;
  mixed = sym a.mixed;
  walked = sym a.walked;
  tallies = λ p. sym (a.tallies p);
  notes = λ p. sym (a.notes p);
}

pub marks_trans : (m w : ℕ → ℕ) (ts us vs : PlaceTrees) → SameMarks m w ts us → SameMarks m w us vs → SameMarks m w ts vs
marks_trans m w ts us vs a b = record {
  hits = b.hits ∙ a.hits;
  full = b.full ∙ a.full;
  counted = b.counted ∙ a.counted;
  nodes = b.nodes ∙ a.nodes;
  mixed = b.mixed ∙ a.mixed;
  walked = b.walked ∙ a.walked;
  tallies = λ p. b.tallies p ∙ a.tallies p;
  notes = λ p. b.notes p ∙ a.notes p;
}

swap_sum : (a b c : ℕ) → b + (a + c) ≡ a + (b + c)
swap_sum a b c = omega arith

swap_product : (a b c : ℕ) → b * (a * c) ≡ a * (b * c)
swap_product a b c = omega arith

pub marks_swap : (m w : ℕ → ℕ) (t s : PlaceTree) (ts : PlaceTrees) → SameMarks m w (then t (then s ts)) (then s (then t ts))
marks_swap m w t s ts = record {
  hits = swap_sum (hits_in m t) (hits_in m s) (hits_row m ts);
  full = swap_product (full_in m t) (full_in m s) (full_row m ts);
  counted = swap_sum (full_in m t) (full_in m s) (full_count m ts);
  nodes = swap_sum (full_nodes m t) (full_nodes m s) (full_nodes_row m ts);
  mixed = swap_sum (mixed_in m t) (mixed_in m s) (mixed_count m ts);
  walked = swap_sum ((1 - full_in m t) * w (place_of t)) ((1 - full_in m s) * w (place_of s)) (walked_count m w ts);
  tallies = λ p. swap_sum (tally_in m p t) (tally_in m p s) (tally_row m p ts);
  notes = λ p. swap_sum (note_in m w p t) (note_in m w p s) (note_row m w p ts);
}

pub marks_rest : (m w : ℕ → ℕ) (t : PlaceTree) (ts us : PlaceTrees) → SameMarks m w ts us → SameMarks m w (then t ts) (then t us)
marks_rest m w t ts us a = record {
  hits = ap (λ n. hits_in m t + n) a.hits;
  full = ap (λ n. full_in m t * n) a.full;
  counted = ap (λ n. full_in m t + n) a.counted;
  nodes = ap (λ n. full_nodes m t + n) a.nodes;
  mixed = ap (λ n. mixed_in m t + n) a.mixed;
  walked = ap (λ n. (1 - full_in m t) * w (place_of t) + n) a.walked;
  tallies = λ p. ap (λ n. tally_in m p t + n) (a.tallies p);
  notes = λ p. ap (λ n. note_in m w p t + n) (a.notes p);
}

-- what one tree in place of another has
pub tree_full : (m w : ℕ → ℕ) (t s : PlaceTree) → SameMarks m w (then t no_more) (then s no_more) → full_in m s ≡ full_in m t
tree_full m w t s a = plus_none (full_in m s) (full_in m t) a.counted

pub tree_hits : (m w : ℕ → ℕ) (t s : PlaceTree) → SameMarks m w (then t no_more) (then s no_more) → hits_in m s ≡ hits_in m t
tree_hits m w t s a = plus_none (hits_in m s) (hits_in m t) a.hits

pub tree_nodes : (m w : ℕ → ℕ) (t s : PlaceTree) → SameMarks m w (then t no_more) (then s no_more) → full_nodes m s ≡ full_nodes m t
tree_nodes m w t s a = plus_none (full_nodes m s) (full_nodes m t) a.nodes

pub tree_tally : (m w : ℕ → ℕ) (t s : PlaceTree) → SameMarks m w (then t no_more) (then s no_more) → (p : ℕ) → tally_in m p s ≡ tally_in m p t
tree_tally m w t s a p = plus_none (tally_in m p s) (tally_in m p t) (a.tallies p)

pub tree_note : (m w : ℕ → ℕ) (t s : PlaceTree) → SameMarks m w (then t no_more) (then s no_more) → (p : ℕ) → note_in m w p s ≡ note_in m w p t
tree_note m w t s a p = plus_none (note_in m w p s) (note_in m w p t) (a.notes p)

pub marks_first : (m w : ℕ → ℕ) (t s : PlaceTree) (ts : PlaceTrees) → SameMarks m w (then t no_more) (then s no_more) → SameMarks m w (then t ts) (then s ts)
marks_first m w t s ts a = record {
  hits = ap (λ n. n + hits_row m ts) (tree_hits m w t s a);
  full = ap (λ n. n * full_row m ts) (tree_full m w t s a);
  counted = ap (λ n. n + full_count m ts) (tree_full m w t s a);
  nodes = ap (λ n. n + full_nodes_row m ts) (tree_nodes m w t s a);
  mixed = ap (λ n. n + mixed_count m ts) (plus_none (mixed_in m s) (mixed_in m t) a.mixed);
  walked = ap (λ n. n + walked_count m w ts) (plus_none ((1 - full_in m s) * w (place_of s)) ((1 - full_in m t) * w (place_of t)) a.walked);
  tallies = λ p. ap (λ n. n + tally_row m p ts) (tree_tally m w t s a p);
  notes = λ p. ap (λ n. n + note_row m w p ts) (tree_note m w t s a p);
}

pub marks_inner : (m w : ℕ → ℕ) (q : ℕ) (k : Bool) (ts us : PlaceTrees) → SameMarks m w ts us → SameMarks m w (then (inner q k ts) no_more) (then (inner q k us) no_more)
marks_inner m w q k ts us a = record {
  hits = ap (λ n. n + 0) a.hits;
  full = ap (λ n. n * 1) a.full;
  counted = ap (λ n. n + 0) a.full;
  nodes = λ i. (a.full i + a.nodes i) + 0;
  mixed = λ i. (1 - a.full i) * min 1 (a.hits i) + 0;
  walked = λ i. (1 - a.full i) * w q + 0;
  tallies = λ p. λ i. (cond (q == p) (a.counted i) 0 + a.tallies p i) + 0;
  notes = λ p. λ i. (cond (q == p) (a.full i + 2 * a.walked i) 0 + a.notes p i) + 0;
}

pub marks_plug : (m w : ℕ → ℕ) (fs : List Frame) (t s : PlaceTree) → SameMarks m w (then t no_more) (then s no_more) → SameMarks m w (then (plug fs t) no_more) (then (plug fs s) no_more)
marks_plug m w [] t s a = a
marks_plug m w (f ∷ fs) t s a = marks_plug m w fs (fill f t) (fill f s) (marks_inner m w f.place f.series (then t f.others) (then s f.others) (marks_first m w t s f.others a))

pub told_same : (l : Links) (m w : ℕ → ℕ) (t s : PlaceTree) → TellMarks l m w t → SameMarks m w (then t no_more) (then s no_more) → TellMarks l m w s
told_same l m w t s told a = record {
  tallies = λ p. told.tallies p ∙ sym (tree_tally m w t s a p);
  notes = λ p. told.notes p ∙ sym (tree_note m w t s a p);
}

-- ---- rows that are the same, with their marks

pub record AreAlike (ts us : PlaceTrees) : Type 0 where
  pub same : SameRow ts us
  pub marks : (m w : ℕ → ℕ) → SameMarks m w ts us

-- one tree in place of another
abbrev pub AlikeTree : PlaceTree → PlaceTree → Type 0
AlikeTree t s = AreAlike (then t no_more) (then s no_more)

pub alike_refl : (ts : PlaceTrees) → AreAlike ts ts
alike_refl ts = record { same = same_refl ts; marks = λ m w. marks_refl m w ts }

pub alike_trans : (ts us vs : PlaceTrees) → AreAlike ts us → AreAlike us vs → AreAlike ts vs
alike_trans ts us vs a b = record { same = same_trans ts us vs a.same b.same; marks = λ m w. marks_trans m w ts us vs (a.marks m w) (b.marks m w) }

pub alike_swap : (t s : PlaceTree) (ts : PlaceTrees) → AreAlike (then t (then s ts)) (then s (then t ts))
alike_swap t s ts = record { same = same_swap t s ts; marks = λ m w. marks_swap m w t s ts }

pub alike_rest : (t : PlaceTree) (ts us : PlaceTrees) → AreAlike ts us → AreAlike (then t ts) (then t us)
alike_rest t ts us a = record { same = same_rest t ts us a.same; marks = λ m w. marks_rest m w t ts us (a.marks m w) }

pub alike_first : (t s : PlaceTree) (ts : PlaceTrees) → AlikeTree t s → AreAlike (then t ts) (then s ts)
alike_first t s ts a = record { same = same_first t s ts a.same; marks = λ m w. marks_first m w t s ts (a.marks m w) }

pub alike_inner : (p : ℕ) (k : Bool) (ts us : PlaceTrees) → AreAlike ts us → AlikeTree (inner p k ts) (inner p k us)
alike_inner p k ts us a = record { same = same_inner p k ts us a.same; marks = λ m w. marks_inner m w p k ts us (a.marks m w) }

-- a tree of a row, in front of the others
pub record IsAhead (ts : PlaceTrees) (t : PlaceTree) : Type 0 where
  pub others : PlaceTrees
  pub alike : AreAlike ts (then t others)

pub ahead_more : (u t : PlaceTree) (us : PlaceTrees) → IsAhead us t → IsAhead (then u us) t
ahead_more u t us f = record {
  others = then u f.others;
  alike = alike_trans (then u us) (then u (then t f.others)) (then t (then u f.others)) (alike_rest u us (then t f.others) f.alike) (alike_swap u t f.others);
}
