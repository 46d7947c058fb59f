use Rattle.std.proofs.Common.{[], ◌∷◌, ◌++◌, length, ◌∙◌, ap, Vec, Global}
use Rattle.md_tree.specs.declared.Pair.{Pair}
use Rattle.md_tree.specs.declared.PairsOf.{PairsOf}
use Rattle.md_tree.specs.declared.parts.PartOf.TheVariants.{Leaf as LeafPart}
use Rattle.md_tree.specs.Plain.{trees_of}
use Rattle.md_local.proofs.Parts.{leaf_parted, node_parted}
use Rattle.md_local.proofs.Placing.{leaf_appended, node_appended}
use Rattle.md_local.proofs.part.take_apart.Goals as goal

pub returns-in-Leaf-clause-part : goal.returns-in-Leaf-clause-part
returns-in-Leaf-clause-part c = leaf_parted c.args.tree c.in-Leaf.name _ _ c.in-Leaf.is (c.in_ok-push-in-Leaf.ensures.items ∙ ap (λ x. c.args.parts.now.items ++ LeafPart x ∷ []) c.in-Leaf.name-is)

pub returns-in-Leaf-clause-waiting : goal.returns-in-Leaf-clause-waiting
returns-in-Leaf-clause-waiting c = leaf_appended c.args.tree c.in-Leaf.name c.args.waiting.now.items c.in-Leaf.is

pub returns-in-Node-clause-part : goal.returns-in-Node-clause-part
returns-in-Node-clause-part c =
    node_parted c.args.tree c.in-Node.kind _ c.in-Node.children c.in-Node.edges _ _ _ _ c.in-Node.is c.in_ok-push-in-Node.ensures.items c.in-Node.kind-is
    (c.len.ensures.value ∙ ap (λ x. length (trees_of x)) c.in-Node.children-is) (ap (λ (x : Vec Pair Global). x.items) c.replace-list.ensures.value ∙ ap (λ (x : PairsOf Pair). x.list.items) c.in-Node.edges-is)

pub returns-in-Node-clause-waiting : goal.returns-in-Node-clause-waiting
returns-in-Node-clause-waiting c =
    node_appended c.args.tree c.in-Node.kind c.in-Node.children c.in-Node.edges c.args.waiting.now.items c.append.new.self.items c.in-Node.is
    (c.in_ok-append-in-Node.ensures.items ∙ ap (λ x. c.args.waiting.now.items ++ trees_of x) c.in-Node.children-is)
