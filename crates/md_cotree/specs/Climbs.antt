-- Ways up from a place, from each place to its parent.
-- Source: ancestors in rooted trees, as in any textbook of graph theory.
use Rattle.std.specs.Prelude.{◌≡◌, ◌≢◌, ◌<◌, ◌+◌, ℕ, zero, suc, Bool, Some, None}
use Rattle.md_lists.specs.declared.TheConstants.{PLACES}
use Rattle.md_lists.specs.Links.{Links, kind_at, parent_at}
use Rattle.md_cotree.specs.PlaceTrees.{place_kind}

-- n steps up from p lead to a
abbrev pub Climbs : Links → ℕ → ℕ → ℕ → Type 0
Climbs l zero p a = p ≡ a
Climbs l (suc n) p a = (q : ℕ) × (parent_at l p ≡ Some q) × Climbs l n q a

-- m steps up from p and n from q lead to different children of one place, which is series or not
pub record Meet (l : Links) (p q m n : ℕ) (series : Bool) : Type 0 where
  pub left : ℕ
  pub right : ℕ
  pub top : ℕ
  pub from_left : Climbs l m p left
  pub from_right : Climbs l n q right
  pub differ : left ≢ right
  pub left_top : parent_at l left ≡ Some top
  pub right_top : parent_at l right ≡ Some top
  pub kind : kind_at l top ≡ Some (place_kind series)

-- ways up from p and from q meet so, and lead on to one place, in fewer steps than n
pub record MeetBelow (l : Links) (root p q n : ℕ) (series : Bool) : Type 0 where
  pub left_steps : ℕ
  pub right_steps : ℕ
  pub steps_on : ℕ
  pub meet : Meet l p q left_steps right_steps series
  pub on : Climbs l steps_on meet.top root
  pub left_few : suc (left_steps + steps_on) < n
  pub right_few : suc (right_steps + steps_on) < n

-- the place that they lead to has no parent, and the steps are fewer than the places
pub record Meets (l : Links) (p q : ℕ) (series : Bool) : Type 0 where
  pub root : ℕ
  pub no_parent : parent_at l root ≡ None
  pub below : MeetBelow l root p q PLACES series
  pub open below use *
