-- The complement: the same modules, with parallel and series the other way round.
use Rattle.std.proofs.Common.{◌≡◌, ℕ, Bool, true, false, not, ◌&&◌, nat_eq, ◌≢◌, refl, sym, ◌∙◌, ap, subst, eqb-true, eq-eqb}
use Rattle.md_graph.specs.Sets.{NameSet, Has, Lacks}
use Rattle.md_graph.specs.Adjacency.{IsAdjacency, co}
use Rattle.md_modules.specs.Modules.{IsModule, IsStrong}
use Rattle.md_modules.specs.Kinds.{IsSplit}
use Rattle.md_modules.specs.Laws.{ComplementTurns, ComplementTurnsKinds}
use Rattle.std.proofs.lemmas.Bool.{false_from_ne_true}
use Rattle.std.proofs.Math.Bool.{not-not}
use Rattle.md_graph.proofs.SetLemmas.{clash, same_turned}

-- at two different names the complement says the other value
pub co_value : (e : ℕ → ℕ → Bool) (a b : ℕ) → a ≢ b → co e a b ≡ not (e a b)
co_value e a b differ = ap (λ t. not t && not (e a b)) (false_from_ne_true (nat_eq a b) (λ h. differ (eqb-true a b h)))

back_value : (a b : Bool) → not a ≡ not b → a ≡ b
back_value a b p = sym (not-not a) ∙ ap not p ∙ not-not b

pub co_adjacency : (e : ℕ → ℕ → Bool) → IsAdjacency e → IsAdjacency (co e)
co_adjacency e adj = record {
  symmetric = λ a b i. not (same_turned a b i) && not (adj.symmetric a b i);
  irreflexive = λ a. ap (λ t. not t && not (e a a)) (eq-eqb a a refl);
}

outside_differs : (m : NameSet) (x a : ℕ) → Has m a → Lacks m x → x ≢ a
outside_differs m x a h l same = clash h (subst (Lacks m) same l)

module _ (e : ℕ → ℕ → Bool) (s : NameSet) where
  pub co_module : (m : NameSet) → IsModule e s m → IsModule (co e) s m
  co_module m is = record {
    some = is.some;
    inside = is.inside;
    alike = λ a b x ha hb hx l.
        co_value e x a (outside_differs m x a ha l) ∙ ap not (is.alike a b x ha hb hx l) ∙ sym (co_value e x b (outside_differs m x b hb l));
  }

  pub module_of_co : (m : NameSet) → IsModule (co e) s m → IsModule e s m
  module_of_co m is = record {
    some = is.some;
    inside = is.inside;
    alike = λ a b x ha hb hx l. back_value (e x a) (e x b)
        (sym (co_value e x a (outside_differs m x a ha l)) ∙ is.alike a b x ha hb hx l ∙ co_value e x b (outside_differs m x b hb l));
  }

  pub co_strong : (m : NameSet) → IsStrong e s m → IsStrong (co e) s m
  co_strong m is = record { is_module = co_module m is.is_module; free = λ n module_is. is.free n (module_of_co n module_is) }

  pub strong_of_co : (m : NameSet) → IsStrong (co e) s m → IsStrong e s m
  strong_of_co m is = record { is_module = module_of_co m is.is_module; free = λ n module_is. is.free n (co_module n module_is) }

  pub co_split : (part : NameSet) (v : Bool) → IsSplit e s part v → IsSplit (co e) s part (not v)
  co_split part v is = record {
    some = is.some;
    inside = is.inside;
    rest = is.rest;
    across = λ a b ha hb l. co_value e a b (λ same. outside_differs part b a ha l (sym same)) ∙ ap not (is.across a b ha hb l);
  }

  pub split_of_co : (part : NameSet) (v : Bool) → IsSplit (co e) s part (not v) → IsSplit e s part v
  split_of_co part v is = record {
    some = is.some;
    inside = is.inside;
    rest = is.rest;
    across = λ a b ha hb l. back_value (e a b) v (sym (co_value e a b (λ same. outside_differs part b a ha l (sym same))) ∙ is.across a b ha hb l);
  }

  pub complement_turns : IsAdjacency e → ComplementTurns e s
  complement_turns adj = record {
    adjacency = co_adjacency e adj;
    modules = λ m. (co_module m, module_of_co m);
    strong = λ m. (co_strong m, strong_of_co m);
    parallel = ((λ w. (w.0, co_split w.0 false w.1)), (λ w. (w.0, split_of_co w.0 false w.1)));
    series = ((λ w. (w.0, co_split w.0 true w.1)), (λ w. (w.0, split_of_co w.0 true w.1)));
    prime = (
      (λ is. record {
        two = is.two;
        connected = λ w. is.co_connected (w.0, split_of_co w.0 true w.1);
        co_connected = λ w. is.connected (w.0, split_of_co w.0 false w.1);
      }),
      (λ is. record {
        two = is.two;
        connected = λ w. is.co_connected (w.0, co_split w.0 false w.1);
        co_connected = λ w. is.connected (w.0, co_split w.0 true w.1);
      }),
    );
  }

pub complement_proof : ComplementTurnsKinds
complement_proof e adj s = complement_turns e s adj
