-- Whether a set has an induced path is decided.
use Rattle.std.proofs.Common.{◌≡◌, ℕ, ◌<◌, Bool, true, false, sym, ◌∙◌}
use Rattle.md_graph.specs.Sets.{NameSet, Has}
use Rattle.md_graph.proofs.Search.{Decided, decide_test, decide_both, decide_three, decide_below, decide_like, decide_some}
use Rattle.md_graph.specs.Adjacency.{IsAdjacency}
use Rattle.md_modules.specs.InducedPaths.{IsInducedPath, HasInducedPath, HasPathEdges}
use Rattle.md_modules.specs.Laws.{InducedPathsAreDecided}
use Rattle.md_modules.proofs.Paths.{different_if_adjacent}
use Rattle.md_modules.proofs.PathSearch.{told_apart}

module _ {e : ℕ → ℕ → Bool} (is : IsAdjacency e) (s : NameSet) where
  path_in : (a b c d : ℕ) → Has s a → Has s b → Has s c → Has s d → HasPathEdges e a b c d → a < d → IsInducedPath e s a b c d
  path_in a b c d ha hb hc hd path up = record {
    inside = (ha, hb, hc, hd);
    different = (
      different_if_adjacent is a b path.edges.0,
      (λ same. told_apart e c a d path.edges.2 path.apart.1 (sym same)),
      different_if_adjacent is b c path.edges.1,
      told_apart e b d a (is.symmetric b a ∙ path.edges.0) (is.symmetric d a ∙ path.apart.1),
      different_if_adjacent is c d path.edges.2,
    );
    edges = path.edges;
    apart = path.apart;
    ascending = up;
  }

  decide_edges : (a b c d : ℕ) → Decided (HasPathEdges e a b c d)
  decide_edges a b c d =
      decide_like {P = ((e a b ≡ true) × (e b c ≡ true) × (e c d ≡ true)) × ((e a c ≡ false) × (e a d ≡ false) × (e b d ≡ false))}
      (λ p. record { edges = p.0; apart = p.1 }) (λ p. (p.edges, p.apart))
      (decide_both (decide_three (decide_test (e a b) true) (decide_test (e b c) true) (decide_test (e c d) true))
      (decide_three (decide_test (e a c) false) (decide_test (e a d) false) (decide_test (e b d) false)))

  abbrev IsUp : ℕ → ℕ → ℕ → ℕ → Type 0
  IsUp a b c d = HasPathEdges e a b c d × (a < d)

  abbrev With3 : ℕ → ℕ → ℕ → Type 0
  With3 a b c = (d : ℕ) × Has s d × IsUp a b c d

  abbrev With2 : ℕ → ℕ → Type 0
  With2 a b = (c : ℕ) × Has s c × With3 a b c

  abbrev With1 : ℕ → Type 0
  With1 a = (b : ℕ) × Has s b × With2 a b

  pub decide_path : Decided (HasInducedPath e s)
  decide_path =
      decide_like {P = (a : ℕ) × Has s a × With1 a}
      (λ w.
      let x = w.2 in
      let y = x.2 in
      let z = y.2 in
      (w.0, x.0, y.0, z.0, path_in w.0 x.0 y.0 z.0 w.1 x.1 y.1 z.1 z.2.0 z.2.1))
      (λ w.
      let p = w.4 in
      (w.0, p.inside.0, (w.1, p.inside.1, (w.2, p.inside.2, (w.3, p.inside.3, (record { edges = p.edges; apart = p.apart }, p.ascending))))))
      (decide_some s With1 (λ a _. decide_some s (With2 a) (λ b _. decide_some s (With3 a b) (λ c _. decide_some s (IsUp a b c) (λ d _. decide_both (decide_edges a b c d) (decide_below a d))))))

pub induced_paths_are_decided : InducedPathsAreDecided
induced_paths_are_decided e is s = decide_path is s
