-- Short lines, read and written column by column: bits on the way between bytes and columns, and the graph on the way.
use Rattle.std.specs.Prelude.{◌≡◌, ℕ, ◌+◌, ◌-◌, ◌*◌, ◌<◌, ◌≤◌, ◌==◌, ◌&&◌, ◌||◌, nat_lt, List, if◌then◌else◌}
use Rattle.std.specs.Int.{bit_at}
use Rattle.std.specs.FinSet as set
use Rattle.md_graph.specs.PlainGraph.{PlainGraph, IsGraph, adjacent}
use Rattle.md_graph6.specs.declared.body.Unread.{Unread}
use Rattle.md_graph6.specs.Bits.{bit, pair_number}
use Rattle.md_graph6.specs.Window.{AreGroups, IsWindow}

-- a word holds the bits of a body from `place` on, `held` of them; byte `at` stands behind them
pub record IsUnread (body : List ℕ) (place word held at : ℕ) : Type 0 where
  pub window : IsWindow body place held word
  pub next : 6 * at ≡ place + held

-- the place of the first of some unread bits
abbrev pub unread_place : Unread → ℕ
unread_place unread = 6 * unread.at - unread.held

-- g with an edge between j and each number below it whose bit is 1
pub record IsWithColumn (g : PlainGraph) (j word : ℕ) (new : PlainGraph) : Type 0 where
  pub vertices : new.vertices ≡ g.vertices
  pub graph : IsGraph new
  pub pairs : (a b : ℕ) → a < b
      → adjacent new a b ≡ (adjacent g a b || (((b == j) && nat_lt a j) && (bit_at word a == 1)))

-- a graph on the numbers below n that has the edges of the columns below j
pub record IsFilledTo (body : List ℕ) (n j : ℕ) (g : PlainGraph) : Type 0 where
  pub vertices : (v : ℕ) → set.contains g.vertices v ≡ nat_lt v n
  pub graph : IsGraph g
  pub pairs : (a b : ℕ) → a < b → adjacent g a b ≡ (nat_lt b j && (bit body (pair_number a b) == 1))

-- bit k of a body whose bits from byte `at` on stand in a word
abbrev pub put_bit : List ℕ → ℕ → ℕ → ℕ → ℕ
put_bit body word at k = if nat_lt k (6 * at) then bit body k else bit_at word (k - 6 * at)

-- a word holds `held` bits that belong into a body from byte `at` on, where the body has none yet
pub record IsUnput (body : List ℕ) (word held at : ℕ) : Type 0 where
  pub groups : AreGroups body
  pub above : (k : ℕ) → held ≤ k → bit_at word k ≡ 0
  pub blank : (k : ℕ) → 6 * at ≤ k → bit body k ≡ 0
