use Rattle.std.proofs.Common.{Some, sym, ◌∙◌, subst}
use Rattle.std.proofs.lemmas.List.{same_from_push}
use Rattle.md_tree.proofs.Leaving.{no_snoc}
use Rattle.md_decompose.specs.Turns.{HasFront, IsFirstOpen}
use Rattle.md_decompose.proofs.Opened.{opened_names, opened_below, opened_front}
use Rattle.md_decompose.proofs.outline.push_first.Goals as goal

pub returns : goal.returns
returns g c =
    let next = c.open_set.result in
    let is = c.open_set.ensures in (
      λ d cs whole. (
        next,
        c.in_ok-push.ensures.items,
        subst (λ s. IsFirstOpen c.args.kind s c.args.chain.now next) (sym (same_from_push cs c.pop.new.self.items d c.in-Some.first (sym whole ∙ c.in-Some.ensures.items)).1)
            (record {
              is = opened_names c.in-Some.first (Some c.args.kind) c.in_ok-chain.chain next is;
              below = opened_below c.in-Some.first (Some c.args.kind) c.in_ok-chain.chain next is;
              front = subst (λ m. HasFront c.args.chain.now m next) c.count.ensures.value (opened_front c.in-Some.first (Some c.args.kind) c.in_ok-chain.chain c.args.chain.now c.count.result next c.in_ok-chain.ensures is);
            }),
      ),
      λ none. absurd (no_snoc c.pop.new.self.items c.in-Some.first (sym none ∙ c.in-Some.ensures.items)),
    )
