use Rattle.std.proofs.Common.{◌*◌, [], ◌∷◌, ◌++◌, map, inl, inr, sym, refl, ◌∙◌, ap, subst}
use Rattle.md_tree.specs.declared.TreeOf.{Leaf}
use Rattle.md_tree.specs.Trees.{leaf}
use Rattle.md_tree.specs.Plain.{plain}
use Rattle.md_tree.specs.Held.{AreKept, IsBehind}
use Rattle.md_tree.specs.Spellings.{spelling}
use Rattle.md_tree.proofs.Spelled.{is_spelling}
use Rattle.md_tree.proofs.Plain.{plain_is_leaf}
use Rattle.md_tree.proofs.Stacking.{map_one_more}
use Rattle.md_tree.proofs.Holding.{kept_name}
use Rattle.md_tree.proofs.Coming.{due_name, useless_name}
use Rattle.md_text.proofs.FrontLemmas.{number_shorter}
use Rattle.md_tree.proofs.builder.take_name.Goals as goal

pub returns-then-name : goal.returns-then-name
returns-then-name g c bytes h =
    let law = is_spelling g.met.K.Lettered.laws g.met.P.Paired.laws in
    useless_name law bytes _ _ _ _ _ c.args.name _ h.kept h.comes c.requires (inl c.if-name.true)

pub returns-then-has : goal.returns-then-has
returns-then-has g c bytes h =
    let law = is_spelling g.met.K.Lettered.laws g.met.P.Paired.laws in
    useless_name law bytes _ _ _ _ _ c.args.name _ h.kept h.comes c.requires (inr (sym c.has.ensures.value ∙ c.if-has.true))

pub returns : goal.returns
returns g c bytes h =
    let sp = spelling g.K.Lettered.rules g.P.Paired.rules in let law = is_spelling g.met.K.Lettered.laws g.met.P.Paired.laws in
    let v = c.args.name in
    let held = c.args.held.now in
    let ts = map plain held.trees.items in
    let trees = map_one_more plain c.append-2.new.list.items held.trees.items (Leaf v) c.in_ok-append-2.ensures ∙ ap (λ t. ts ++ t ∷ []) (plain_is_leaf (Leaf v) v refl) in (
      record {
        kept = subst (λ us. AreKept sp (64 * g.row.W) us c.append.new.list.items c.insert.new.self) (sym trees)
            (subst (λ ms. AreKept sp (64 * g.row.W) (ts ++ leaf v ∷ []) ms c.insert.new.self) (sym c.in_ok-append.ensures)
            (subst (AreKept sp (64 * g.row.W) (ts ++ leaf v ∷ []) (held.least.items ++ v ∷ [])) (sym c.insert.ensures.changed)
            (kept_name law ts held.least.items held.seen v h.kept c.if-name.false (sym c.has.ensures.value ∙ c.if-has.false))));
        comes = subst (IsBehind sp bytes c.args.tail.now held.opens.items) (sym trees) (due_name law bytes _ _ ts v _ h.comes c.requires);
      },
      number_shorter _ _ v c.requires,
    )
