-- A cotree without vertices.
use Rattle.std.proofs.Common.{◌≡◌, ℕ, cond, [], get_or, Option, None, is_some, refl, sym, ◌∙◌, ap}
use Rattle.md_graph.specs.PlainGraph.{empty_graph}
use Rattle.md_lists.specs.declared.kinds.PlaceKind.{PlaceKind}
use Rattle.md_lists.specs.declared.TheConstants.{PLACES}
use Rattle.md_lists.specs.Words.{holds_once}
use Rattle.md_lists.specs.Links.{Links, alive, all_free}
use Rattle.md_lists.proofs.FilledUp.{get_or-all}
use Rattle.md_cotree.specs.declared.cotree.Cotree.{Cotree}
use Rattle.md_cotree.specs.Cotrees.{AreEntries, Denotes}

none_alive : (p : ℕ) → 0 ≡ alive all_free p
unfolding all_free
none_alive p = sym (ap (λ (o : Option PlaceKind). cond (is_some o) 1 0) (get_or-all PLACES p None))

pub starts_empty : (c : Cotree) → c.lists ≡ all_free → AreEntries c.places → c.places.items ≡ [] → c.root ≡ None → c.leaves ≡ 0 → Denotes c empty_graph
unfolding all_free
starts_empty c lists entries places root leaves = (
  None,
  record {
    fits = record { stand = tt; each = λ p. none_alive p ∙ ap (λ l. alive l p) (sym lists) };
    root = root;
    entries = entries;
    names = λ v p. sym (ap (λ xs. holds_once (get_or xs v None) p) places);
    leaves = leaves;
    alternates = tt;
    unmarked = ap (λ (l : Links). l.marked) lists;
  },
  refl,
)
