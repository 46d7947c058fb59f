use Rattle.std.proofs.lemmas.Bool.{false≢true}
use Rattle.std.proofs.Common.{◌≡◌, ℕ, ◌+◌, ◌<◌, Bool, true, false, ◌&&◌, List, [], ◌∷◌, ◌++◌, length, AllPairs, refl, sym, ◌∙◌, ap, subst, arith, append_assoc, append-nil, length-append}
use Rattle.std.specs.List.{filter}
use Rattle.std.proofs.lemmas.List.Elements.{filter-append}
use Rattle.md_refine.specs.Partitions.{is_in, is_outside}
use Rattle.md_refine.proofs.Lists.{in_filter, less_before}
use Rattle.md_refine.proofs.partition.Partition.touch_outside.Goals as goal

-- the names that were met are less than the next member
above : (f : ℕ → Bool) (all done left rest ts : List ℕ) (v : ℕ) → AllPairs (λ x y. x < y) all → done ++ left ≡ all → left ≡ v ∷ rest → ts ≡ filter f done → (w : ℕ) → is_in ts w ≡ true → w < v
above f all done left rest ts v ascends list steps touched w m =
    let order : AllPairs (λ x y. x < y) (done ++ v ∷ rest) = subst (AllPairs (λ x y. x < y)) (sym list ∙ ap (λ l. done ++ l) steps) ascends in
    less_before done rest v w order (member (f w) (is_in done w) (sym (in_filter f done w) ∙ sym (ap (λ l. is_in l w) touched) ∙ m))
  where
    member : (a b : Bool) → (a && b) ≡ true → b ≡ true
    member true b h = h
    member false b h = absurd (false≢true h)

pub touch_name-requires : goal.touch_name-requires
touch_name-requires g c = record {
  above = above (is_outside c.args.p c.args.self.now.classes) c.args.members c.loop-v.yielded c.loop-v.v-iterator c.next.new.self c.loop-v.self.touched c.in-Some.v c.requires.order c.loop-v.invariant.list c.in-Some.ensures.steps c.loop-v.invariant.touched;
}

pub loop-v-init : goal.loop-v-init
loop-v-init g c = record {
  list = c.into_iter-v-iterator.ensures.into_iter_gives;
  classes = refl;
  touched = c.requires.untouched;
  partition = c.class_count-count.ensures.partition;
  steps = omega arith;
}

pub loop-v-preserved : goal.loop-v-preserved
loop-v-preserved g c =
    let i = c.loop-v.invariant in
    let h = c.touch_name.ensures in
    let v = c.in-Some.v in
    let done = c.loop-v.yielded in
    let f = is_outside c.args.p c.args.self.now.classes in
    let same : filter (is_outside c.args.p c.loop-v.self.classes) (v ∷ []) ≡ filter f (v ∷ []) = ap (λ cs. filter (is_outside c.args.p cs) (v ∷ [])) i.classes in
    let more : filter f done ++ filter f (v ∷ []) ≡ filter f (done ++ v ∷ []) = sym (filter-append f done (v ∷ [])) in
    let long = ap length more in
    let sum = length-append (filter f done) (filter f (v ∷ [])) in
    let one = ap length same in
    let before = i.steps in
    let after = h.steps in
    record {
      list = append_assoc done (v ∷ []) c.next.new.self ∙ ap (λ l. done ++ l) (sym c.in-Some.ensures.steps) ∙ i.list;
      classes = h.classes ∙ i.classes;
      touched = h.touched ∙ (λ j. i.touched j ++ same j) ∙ more;
      partition = h.partition;
      steps = omega arith;
    }

pub returns : goal.returns
returns g c =
    let i = c.loop-v.invariant in
    let all : c.loop-v.yielded ≡ c.args.members = sym (append-nil c.loop-v.yielded) ∙ ap (λ l. c.loop-v.yielded ++ l) (sym c.in-None.ensures.steps.0) ∙ i.list in
    record {
      classes = i.classes;
      touched = i.touched ∙ ap (filter (is_outside c.args.p c.args.self.now.classes)) all;
      partition = i.partition;
      steps = i.steps ∙ ap (λ l. c.args.steps.now + length (filter (is_outside c.args.p c.args.self.now.classes) l)) all;
    }
