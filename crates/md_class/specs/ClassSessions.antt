-- A session on a class of graphs: the graph that is kept, and the class that it stays in.
-- Source: Golumbic, Trivially perfect graphs (1978), and Chvatal and Hammer, Aggregation of inequalities in integer programming (1977); the
-- sessions are this project's.
use Rattle.std.specs.Prelude.{◌≡◌, Bool, true, false, refl}
use Rattle.std.specs.Coded.{Coded, code_by, coded_bool, coded×}
use Rattle.md_graph.specs.PlainGraph.{PlainGraph, graph_code}
use Rattle.md_bar_tree.specs.declared.Class.{Class}
use Rattle.md_bar_tree.specs.declared.Class.TheVariants.{Trivial, Threshold}

-- the graph of a session, and its class
pub record PlainClassSession : Type 0 where
  pub graph : PlainGraph
  pub class : Class

-- a class is stored as one of two values, and a session as its two parts
abbrev pub is_threshold : Class → Bool
is_threshold Trivial = false
is_threshold Threshold = true

abbrev pub class_of_test : Bool → Class
class_of_test false = Trivial
class_of_test true = Threshold

pub class_back : (class : Class) → class_of_test (is_threshold class) ≡ class
class_back Trivial = refl
class_back Threshold = refl

abbrev pub session_code : Coded PlainClassSession
session_code =
    code_by (PlainGraph × Class) (coded× graph_code (code_by Bool coded_bool is_threshold class_of_test class_back)) (λ s. (s.graph, s.class))
    (λ p. record { graph = p.0; class = p.1 }) (λ _. refl)
