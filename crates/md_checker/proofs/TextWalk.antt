-- The steps of a comparison of a tree's text with a graph.
use Rattle.std.proofs.Common.{◌≡◌, ◌≢◌, ℕ, zero, suc, ◌+◌, ◌-◌, ◌<◌, ◌≤◌, Bool, true, false, cond, List, [], ◌∷◌, ◌++◌, Contains, length, get_or, take, drop, map, Option, Some, None, sym, ◌∙◌, ap, subst, inl, inr, refl, length-drop, length-append, arith, ◌⊎◌, true≢false, append-nil}
use Rattle.std.proofs.lemmas.Bool.{cases_Bool, cases_lt}
use Rattle.std.proofs.lemmas.List.{length-map, map-append, take-map, drop-map, get_or-drop, get_or-take, take-append-drop, length-take-le, same_from_push}
use Rattle.std.proofs.Math.ListN.{get_or-append}
use Rattle.std.proofs.Math.Seq.{get_or-append_seam}
use Rattle.std.specs.Prelude.{◌↔◌, is_some}
use Rattle.std.specs.FinSet.{contains, insert, empty, difference, from_list}
use Rattle.md_graph.specs.declared.TheConstants.{NAMES}
use Rattle.md_graph.specs.Sets.{NameSet, Has, Lacks, Within}
use Rattle.md_graph.proofs.SetLemmas.{clash, empty_lacks, of_insert, insert_new, insert_old, of_minus, lacks_within, Has-along, same_members, same_name, insert_lacks, only_has}
use Rattle.md_modules.specs.Modules.{IsModule}
use Rattle.md_text.proofs.Lists.{In, to_contains, of_contains}
use Rattle.md_text.specs.Fronts.{IsNumberSplit, LacksFirst, LacksNumber}
use Rattle.md_tree.specs.declared.builder.Opened.{Opened}
use Rattle.md_tree.specs.Heads.{head_at}
use Rattle.md_tree.specs.Held.{AreKept, IsDue, AreLeast, AscendsIf, IsMinimum, MayHave, HasOthersIf, MayListIf, AreUseless, befores}
use Rattle.md_tree.specs.Residual.{closed, Due}
use Rattle.md_tree.specs.Spellings.{KindRules, PairRules, spelling, IsSpelling}
use Rattle.md_tree.specs.TreeGraph.{position_of}
use Rattle.md_tree.specs.TreeTexts.{pairs_text_by, row_text_by, tree_text_by}
use Rattle.md_tree.specs.Trees.{PlainTreeOf, PlainTreesOf, leaf, node, no_tree, one_more, names, names_below, names_at, count, row, EachNode, EachNodeBelow}
use Rattle.md_tree.specs.WellFormed.{IsCanonicalNodeBy, IsOfKind, NoneOfKind}
use Rattle.md_tree.proofs.Fitted.{child_modules}
use Rattle.md_tree.proofs.Folding.{count_row, each_join, each_parts}
use Rattle.md_tree.proofs.Heads.{heads_in}
use Rattle.md_tree.proofs.Holding.{lacks_if, kept_none, kept_name, kept_closed, least_drop, least_length, names_right, names_to_one, names_of_one, shape_has, of_order_if, shape_lists}
use Rattle.md_tree.proofs.Coming.{part_names, due_start, due_name, due_node, behind_comma, behind_inside, behind_end, inside_end, inside_first, few_held, useless_name, useless_number, useless_deep, useless_letter, useless_over, useless_open}
use Rattle.md_tree.proofs.Nodes.{IsChild, at_apart, at_inside, at_position, child_at, position_below}
use Rattle.md_tree.proofs.Residuals.{tree_step, each_follows}
use Rattle.md_tree.proofs.Texts.{same_text, row_spelled}
use Rattle.md_outline.specs.HeadPairs.{head_pairs}
use Rattle.md_checker.specs.FitTests.{AreAlike, AreJoinedBy}
use Rattle.md_checker.specs.TextFits.{LacksKindIf, MayHaveKinds, AreLive, HasOthers, IsReadBy, IsReadInsideBy, AreNoTreesText}
use Rattle.md_checker.specs.TextViews.{View, root_kind, IsView, StandForChildren, IsFitView, FitsView, AdmitsNode, IsTextOfTree, listed_pairs}
use Rattle.md_checker.proofs.NamedNodes.{least_here, named_fit, fit_named}
use Rattle.md_checker.proofs.Twins.{rest_others}

-- ---- the kinds of children

module _ {K P : Type 0} where
  none_of_kinds : (k : K) (ts : List (PlainTreeOf K P)) → (Contains (map root_kind ts) (Some k) → ⊥) → NoneOfKind (row ts) k
  none_of_kinds k ts lacks = each ts (λ i. lacks (to_contains (map root_kind ts) (Some k) i))
    where
      first : (t : PlainTreeOf K P) (others : List (Option K)) → (In (root_kind t ∷ others) (Some k) → ⊥) → IsOfKind t k → ⊥
      first (leaf v) others lacks is = is
      first (node l cs ps) others lacks is = lacks (inl (ap (λ (w : K). Some w) (sym is)))

      each : (ts : List (PlainTreeOf K P)) → (In (map root_kind ts) (Some k) → ⊥) → NoneOfKind (row ts) k
      each [] lacks = tt
      each (t ∷ ts) lacks = (first t (map root_kind ts) lacks, each ts (λ i. lacks (inr i)))

  others_if : (lists : Bool) (k : K) (ts : List (PlainTreeOf K P)) → LacksKindIf lists k (map root_kind ts) → HasOthersIf lists k (row ts)
  others_if true k ts lacks = tt
  others_if false k ts lacks = none_of_kinds k ts lacks

  has_of_kinds : (r : KindRules K) (k : K) (ts : List (PlainTreeOf K P)) → MayHaveKinds r k (map root_kind ts) → MayHave r k (row ts)
  has_of_kinds r k ts h = (subst (λ n. r.least_count k ≤ n) (length-map ts root_kind ∙ sym (count_row ts)) h.0, others_if (r.lists k) k ts h.1)

  -- and back
  kind_there : (k : K) (t : PlainTreeOf K P) → (IsOfKind t k → ⊥) → Some k ≡ root_kind t → ⊥
  kind_there k (leaf v) other is = true≢false (ap is_some is)
  kind_there k (node l cs ps) other is = let same : k ≡ l = cc in other (sym same)

  kinds_none : (k : K) (ts : List (PlainTreeOf K P)) → NoneOfKind (row ts) k → In (map root_kind ts) (Some k) → ⊥
  kinds_none k [] none i = absurd i
  kinds_none k (t ∷ ts) none (inl is) = kind_there k t none.0 is
  kinds_none k (t ∷ ts) none (inr i) = kinds_none k ts none.1 i

  lacks_kinds_if : (lists : Bool) (k : K) (ts : List (PlainTreeOf K P)) → HasOthersIf lists k (row ts) → LacksKindIf lists k (map root_kind ts)
  lacks_kinds_if true k ts none = tt
  lacks_kinds_if false k ts none = λ c. kinds_none k ts none (of_contains (map root_kind ts) (Some k) c)

  kinds_of_has : (r : KindRules K) (k : K) (ts : List (PlainTreeOf K P)) → MayHave r k (row ts) → MayHaveKinds r k (map root_kind ts)
  kinds_of_has r k ts h = (subst (λ n. r.least_count k ≤ n) (count_row ts ∙ sym (length-map ts root_kind)) h.0, lacks_kinds_if (r.lists k) k ts h.1)

-- the pairs of a node that fits are those that the graph demands
pub pairs_only : {K P : Type 0} {kinds : KindRules K} {pairs : PairRules P} {v : View K P} → IsView kinds pairs v → (k : K) (list : List ℕ) → StandForChildren v.vertices (kinds.sorts k) list → (ps : List P) → MayListIf pairs (kinds.lists k) (length list) ps →
    AreJoinedBy (v.puts k ps) v.colours list → ps ≡ listed_pairs kinds pairs v k list
pairs_only {kinds = kinds} {pairs = pairs} {v = v} is_view k list stand ps may joined = elim (cases_Bool (kinds.lists k)) [
  | inl some ↦
      is_view.only k some list (subst (λ b. StandForChildren v.vertices b list) (is_view.sorts k some) stand) ps (subst (λ b. MayListIf pairs b (length list) ps) some may) joined
      ∙ ap (λ b. cond b (head_pairs pairs v.lists list) []) (sym some)
  | inr none ↦ subst (λ b. MayListIf pairs b (length list) ps) none may ∙ ap (λ b. cond b (head_pairs pairs v.lists list) []) (sym none)
]

-- a tree at a position behind a place
at_drop : {K P : Type 0} (ts : List (PlainTreeOf K P)) (n i j : ℕ) → j ≡ n + i → names_at (row (drop n ts)) i ≡ names_at (row ts) j
at_drop ts zero i j is = let same : i ≡ j = omega arith in ap (names_at (row ts)) same
at_drop [] (suc n) i j is = refl
at_drop (t ∷ ts) (suc n) i zero is = absurd (omega arith)
at_drop (t ∷ ts) (suc n) i (suc j) is = at_drop ts n i j (omega arith)

-- one more name
live_push : (list longer : List ℕ) (n : ℕ) (live : NameSet) → longer ≡ list ++ n ∷ [] → AreLive list live → Has live n → AreLive longer live
live_push list longer n live put each here i below = elim (cases_lt i (length list)) [
  | inl less ↦ subst (Has live) (sym (ap (λ l. get_or l i 0) put ∙ get_or-append list (n ∷ []) 0 i less)) (each i less)
  | inr over ↦
      let size : length longer ≡ length list + 1 = ap length put ∙ length-append list (n ∷ []) in
      let same : i ≡ length list = omega arith in
      subst (Has live) (sym (ap (λ l. get_or l i 0) put ∙ ap (λ k. get_or (list ++ n ∷ []) k 0) same ∙ get_or-append_seam list n [] 0)) here
]

-- the new name and the others are those of the longer list
of_push : (list longer : List ℕ) (n : ℕ) → longer ≡ list ++ n ∷ [] → (x : ℕ) → (x ≡ n) ⊎ ((i : ℕ) × (i < length list) × (x ≡ get_or list i 0)) → (i : ℕ) × (i < length longer) × (x ≡ get_or longer i 0)
of_push list longer n put x (inl same) =
    let size : length longer ≡ length list + 1 = ap length put ∙ length-append list (n ∷ []) in
    let below : length list < length longer = omega arith in
    (length list, below, same ∙ sym (ap (λ l. get_or l (length list) 0) put ∙ get_or-append_seam list n [] 0))
of_push list longer n put x (inr i) =
    let size : length longer ≡ length list + 1 = ap length put ∙ length-append list (n ∷ []) in
    let b : i.0 < length list = i.1 in
    let below : i.0 < length longer = omega arith in
    (i.0, below, i.2 ∙ sym (ap (λ l. get_or l i.0 0) put ∙ get_or-append list (n ∷ []) 0 i.0 i.1))

none_or_some : {A : Type 0} (xs : List A) → (xs ≡ []) ⊎ (0 < length xs)
none_or_some [] = inl refl
none_or_some (x ∷ xs) = let some : 0 < suc (length xs) = omega arith in inr some

module _ {K P : Type 0} {kinds : KindRules K} {pairs : PairRules P} (law : IsSpelling (spelling kinds pairs)) (v : View K P) where
  -- ---- the beginning

  pub read_start : (bytes : List ℕ) (list : List ℕ) (roots : List (Option K)) (opens : List (Opened K)) (seen live : NameSet) →
      list ≡ [] → roots ≡ [] → opens ≡ [] → seen ≡ empty → live ≡ v.vertices → IsReadBy kinds pairs v bytes bytes false list roots opens seen live
  read_start bytes list roots opens seen live no_list no_roots no_opens no_names all = record {
    trees = [];
    walked = record {
      kept = subst (λ l. AreKept (spelling kinds pairs) NAMES [] l seen) (sym no_list) (subst (AreKept (spelling kinds pairs) NAMES [] []) (sym no_names) (kept_none law));
      roots_are = no_roots;
      fit = tt;
      admitted = tt;
      within = λ x h. clash (subst (λ s. Has s x) no_names h) (empty_lacks x);
      unseen = λ x h lacks. subst (λ s. Has s x) (sym all) h;
      least = λ i below. let b : i < 0 = subst (λ l. i < length l) no_list below in absurd (omega arith);
      only_live = λ x h. inl (subst (λ s. Has s x) all h, subst (λ s. Lacks s x) (sym no_names) (empty_lacks x));
    };
    comes = subst (λ o. IsDue (spelling kinds pairs) bytes bytes o []) (sym no_opens) (due_start law bytes);
  }

  -- ---- a name

  pub read_name : (bytes text tail : List ℕ) (list longer : List ℕ) (roots roots_more : List (Option K)) (opens : List (Opened K)) (seen new live : NameSet) (n : ℕ) →
      IsReadBy kinds pairs v bytes text false list roots opens seen live → IsNumberSplit text n tail → Has v.vertices n → n < NAMES → Lacks seen n → longer ≡ list ++ n ∷ [] →
      roots_more ≡ roots ++ None ∷ [] → new ≡ insert seen n → IsReadBy kinds pairs v bytes tail true longer roots_more opens new live
  read_name bytes text tail list longer roots roots_more opens seen new live n r split vertex below lacks put kind made =
      let ts = r.trees in
      record {
        trees = ts ++ leaf n ∷ [];
        walked = record {
          kept = subst (λ l. AreKept (spelling kinds pairs) NAMES (ts ++ leaf n ∷ []) l new) (sym put)
              (subst (AreKept (spelling kinds pairs) NAMES (ts ++ leaf n ∷ []) (list ++ n ∷ [])) (sym made) (kept_name law ts list seen n r.walked.kept below lacks));
          roots_are = kind ∙ ap (λ l. l ++ None ∷ []) r.walked.roots_are ∙ sym (map-append root_kind ts (leaf n ∷ []));
          fit = each_join (FitsView v) ts (leaf n ∷ []) r.walked.fit (tt, tt);
          admitted = each_join (AdmitsNode v) ts (leaf n ∷ []) r.walked.admitted (tt, tt);
          within = λ x h. elim (of_insert seen n x (subst (λ s. Has s x) made h)) [ inl e ↦ subst (Has v.vertices) (sym e) vertex | inr i ↦ r.walked.within x i ];
          unseen = λ x h out. r.walked.unseen x h (lacks_within seen new (λ y i. subst (λ s. Has s y) (sym made) (insert_old seen n y i)) x out);
          least = live_push list longer n live put r.walked.least (r.walked.unseen n vertex lacks);
          only_live = λ x h. elim (r.walked.only_live x h) [
            | inl two ↦ elim (same_name x n) [
              | inl same ↦ inr (of_push list longer n put x (inl same))
              | inr other ↦ inl (two.0, subst (λ s. Lacks s x) (sym made) (insert_lacks seen n x other two.1))
            ]
            | inr i ↦ inr (of_push list longer n put x (inr i))
          ];
        };
        comes = due_name law bytes text opens ts n tail r.comes split;
      }

  -- ---- a letter and a bracket

  pub read_letter : (bytes text tail : List ℕ) (list : List ℕ) (roots : List (Option K)) (opens more : List (Opened K)) (seen live : NameSet) (k : K) (first : ℕ) →
      IsReadBy kinds pairs v bytes text false list roots opens seen live → text ≡ kinds.letter k ∷ 40 ∷ tail → first ≡ length list → more ≡ opens ++ record { kind = k; first = first } ∷ [] →
      IsReadBy kinds pairs v bytes tail false list roots more seen live
  read_letter bytes text tail list roots opens more seen live k first r is size push =
      let same : first ≡ length r.trees = size ∙ sym (least_length r.trees list r.walked.kept.least) in
      record {
        trees = r.trees;
        walked = r.walked;
        comes = subst (λ o. IsDue (spelling kinds pairs) bytes tail o r.trees) (sym (push ∙ ap (λ n. opens ++ record { kind = k; first = n } ∷ []) same)) (due_node law bytes text opens r.trees k tail r.comes is);
      }

  -- ---- a comma

  pub read_comma : (bytes text tail : List ℕ) (list : List ℕ) (roots : List (Option K)) (opens : List (Opened K)) (seen live : NameSet) →
      IsReadBy kinds pairs v bytes text true list roots opens seen live → 0 < length opens → text ≡ 44 ∷ tail → IsReadBy kinds pairs v bytes tail false list roots opens seen live
  read_comma bytes text tail list roots opens seen live r some is = record {
    trees = r.trees;
    walked = r.walked;
    comes = behind_comma law bytes text opens r.trees tail r.comes some is;
  }

  -- ---- the end of a node

  pub read_inside : (bytes text : List ℕ) (list : List ℕ) (roots : List (Option K)) (opens others : List (Opened K)) (seen live : NameSet) (last : Opened K) →
      IsReadBy kinds pairs v bytes text true list roots opens seen live → opens ≡ others ++ last ∷ [] → IsReadInsideBy kinds pairs v bytes text last list roots others seen live
  read_inside bytes text list roots opens others seen live last r is = record {
    trees = r.trees;
    walked = r.walked;
    comes = behind_inside law bytes text opens others last r.trees r.comes is;
  }

  -- ---- the end of the text

  pub read_whole : (bytes rest : List ℕ) (list : List ℕ) (roots : List (Option K)) (opens : List (Opened K)) (seen live : NameSet) →
      IsReadBy kinds pairs v bytes rest true list roots opens seen live → rest ≡ [] → opens ≡ [] → seen ≡ v.vertices → (t : PlainTreeOf K P) × IsTextOfTree kinds pairs v bytes t
  read_whole bytes rest list roots opens seen live r none closed all =
      let b = behind_end law bytes rest opens r.trees list seen r.walked.kept r.comes closed none in
      let t = b.tree in
      let fit : EachNodeBelow (FitsView v) (row (t ∷ [])) = subst (λ us. EachNodeBelow (FitsView v) (row us)) b.only r.walked.fit in
      let asked : EachNodeBelow (AdmitsNode v) (row (t ∷ [])) = subst (λ us. EachNodeBelow (AdmitsNode v) (row us)) b.only r.walked.admitted in
      let same : (x : ℕ) → Has seen x ↔ Has (names_below (row (t ∷ []))) x = subst (λ us. (x : ℕ) → Has seen x ↔ Has (names_below (row us)) x) b.only r.walked.kept.same in (
        t,
        record {
          canonical = b.good.1;
          names_are = same_members (names t) v.vertices (λ x h. subst (λ s. Has s x) all ((same x).1 (names_to_one t x h))) (λ x h. names_of_one t x ((same x).0 (subst (λ s. Has s x) (sym all) h)));
          fits = fit.0;
          admitted = asked.0;
          spelled = b.text;
        },
      )

  -- ---- where no tree has the text

  module _ (is_view : IsView kinds pairs v) where
    no_text : (bytes : List ℕ) → AreUseless (spelling kinds pairs) NAMES bytes → AreNoTreesText kinds pairs v bytes
    no_text bytes useless t is = useless t ((λ x h. is_view.names x (subst (λ s. Has s x) is.names_are h)), is.canonical) is.spelled

    module _ (bytes text : List ℕ) (list : List ℕ) (roots : List (Option K)) (opens : List (Opened K)) (seen live : NameSet) where
      -- the name is no vertex, or isn't new
      pub other_name : (tail : List ℕ) (n : ℕ) → IsReadBy kinds pairs v bytes text false list roots opens seen live → IsNumberSplit text n tail → Lacks v.vertices n → AreNoTreesText kinds pairs v bytes
      other_name tail n r split lacks t is =
          let d = r.comes in
          let f = (tree_step law d.nodes (leaf n) tail t split.1).0 (subst (λ y. Due (spelling kinds pairs) d.nodes y t) split.0 ((d.means t).0 is.spelled)) in
          clash (subst (λ s. Has s n) is.names_are (part_names law d.nodes (leaf n) tail t f n (only_has n))) lacks

      pub known_name : (tail : List ℕ) (n : ℕ) → IsReadBy kinds pairs v bytes text false list roots opens seen live → IsNumberSplit text n tail → Has seen n → AreNoTreesText kinds pairs v bytes
      known_name tail n r split known = no_text bytes (useless_name law bytes text opens r.trees list seen n tail r.walked.kept r.comes split (inr known))

      -- no name and no letter stands there
      pub no_beginning : IsReadBy kinds pairs v bytes text false list roots opens seen live → ((k : K) → LacksFirst (kinds.letter k) text) → LacksNumber text → AreNoTreesText kinds pairs v bytes
      no_beginning r letters number = let few : NAMES ≤ NAMES = omega arith in no_text bytes (useless_number law few bytes text opens r.trees r.comes letters number)

      -- behind the letter no node begins
      pub no_node : (tail : List ℕ) (k : K) → IsReadBy kinds pairs v bytes text false list roots opens seen live → text ≡ kinds.letter k ∷ tail → (NAMES ≤ length opens) ⊎ LacksFirst 40 tail → AreNoTreesText kinds pairs v bytes
      no_node tail k r is (inl deep) = no_text bytes (useless_deep law bytes text opens r.trees r.comes deep)
      no_node tail k r is (inr lacks) = no_text bytes (useless_letter law bytes text opens r.trees k tail r.comes is lacks)

      -- more text stands behind a whole tree
      pub no_more : IsReadBy kinds pairs v bytes text true list roots opens seen live → opens ≡ [] → 0 < length text → AreNoTreesText kinds pairs v bytes
      no_more r closed some = no_text bytes (useless_over law bytes text opens r.trees r.comes closed some)

      -- the text ends within a node, or vertices are missing
      pub not_whole : IsReadBy kinds pairs v bytes text true list roots opens seen live → text ≡ [] → ((opens ≡ []) × (seen ≡ v.vertices) → ⊥) → AreNoTreesText kinds pairs v bytes
      not_whole r none other t is = elim (none_or_some opens) [
        | inl closed ↦ other (closed, all closed)
        | inr some ↦ no_text bytes (useless_open law bytes text opens r.trees r.comes some none) t is
      ] where
        all : opens ≡ [] → seen ≡ v.vertices
        all closed =
            let b = behind_end law bytes text opens r.trees list seen r.walked.kept r.comes closed none in
            let one = same_text law b.tree t [] [] tt tt (append-nil _ ∙ sym b.text ∙ is.spelled ∙ sym (append-nil _)) in
            let same : (x : ℕ) → Has seen x ↔ Has (names_below (row (b.tree ∷ []))) x = subst (λ us. (x : ℕ) → Has seen x ↔ Has (names_below (row us)) x) b.only r.walked.kept.same in
            same_members seen (names b.tree) (λ x h. names_of_one b.tree x ((same x).0 h)) (λ x h. (same x).1 (names_to_one b.tree x h)) ∙ ap names one.0 ∙ is.names_are

module _ {K P : Type 0} {kinds : KindRules K} {pairs : PairRules P} (law : IsSpelling (spelling kinds pairs)) {v : View K P} {bytes text : List ℕ} {inner : Opened K} {list : List ℕ} {roots : List (Option K)}
    {opens : List (Opened K)} {seen live : NameSet} (r : IsReadInsideBy kinds pairs v bytes text inner list roots opens seen live) where
  abbrev ts : List (PlainTreeOf K P)
  ts = r.trees

  abbrev first : ℕ
  first = inner.first

  abbrev children : List (PlainTreeOf K P)
  children = drop first ts

  inside : first < length ts
  inside = inside_first law bytes text inner opens ts r.comes

  same_least : length ts ≡ length list
  same_least = least_length ts list r.walked.kept.least

  pub few_heads : length list ≤ NAMES
  few_heads = let a = few_held law ts list seen r.walked.kept in let b = same_least in omega arith

  pub first_within : first < length list
  first_within = let a = inside in let b = same_least in omega arith

  below_seen : (x : ℕ) → Has (names_below (row ts)) x → Has v.vertices x
  below_seen x h = r.walked.within x ((r.walked.kept.same x).1 h)

  -- the kinds of the roots of the children
  pub inside_roots : (sub : List (Option K)) → sub ≡ drop first roots → sub ≡ map root_kind children
  inside_roots sub is = is ∙ ap (drop first) r.walked.roots_are ∙ drop-map root_kind first ts

  -- ---- the children

  abbrev Canonical : K → PlainTreesOf K P → List P → Type 0
  Canonical = IsCanonicalNodeBy (spelling kinds pairs)

  enough : (k : K) (cs : PlainTreesOf K P) (qs : List P) → Canonical k cs qs → kinds.least_count k ≤ count cs
  enough k cs qs canon = (shape_has law k cs qs canon.shape).0

  some_child : (k : K) (cs : PlainTreesOf K P) (qs : List P) → Canonical k cs qs → 1 ≤ count cs
  some_child k cs qs canon = let a = enough k cs qs canon in let b = law.kinds.two k in omega arith

  -- what holds of each node of the trees holds of those of the children
  parted : (N : K → PlainTreesOf K P → List P → Type 0) → EachNodeBelow N (row ts) → EachNodeBelow N (row (take first ts)) × EachNodeBelow N (row children)
  parted N each = each_parts N (take first ts) children (subst (λ us. EachNodeBelow N (row us)) (sym (take-append-drop first ts)) each)

  fits : EachNodeBelow (FitsView v) (row (take first ts)) × EachNodeBelow (FitsView v) (row children)
  fits = parted (FitsView v) r.walked.fit

  own_heads : (i : ℕ) → i < count (row children) → Has (names_at (row children) i) (head_at (row children) i)
  own_heads = heads_in Canonical some_child (row children) (parted Canonical r.walked.kept.canonical).1

  three : IsView kinds pairs v → kinds.least_count inner.kind ≤ count (row children) → inner.kind ≡ v.prime → 3 ≤ count (row children)
  three is_view many is =
      let a = is_view.many in
      let c : kinds.least_count inner.kind ≡ kinds.least_count v.prime = ap kinds.least_count is in
      omega arith

  -- the end of the node in the text of a tree, and what then holds of the node
  record Ending : Type 0 where
    ps : List P
    tail : List ℕ
    text_is : text ≡ pairs_text_by pairs 59 ps ++ 41 ∷ tail
    canonical : Canonical inner.kind (row children) ps
    fits : FitsView v inner.kind (row children) ps
    admitted : v.Admits inner.kind (row children)

  ends : (others : PlainTreesOf K P) (rest : List ℕ) → LacksFirst 44 text → text ≡ row_text_by (spelling kinds pairs) 44 others ++ rest → text ≡ rest
  ends no_tree rest lacks is = is
  ends (one_more u us) rest lacks is = absurd (lacks (tree_text_by (spelling kinds pairs) u ++ (row_text_by (spelling kinds pairs) 44 us ++ rest)) (is ∙ row_spelled law 44 u us rest))

  ending : LacksFirst 44 text → (t : PlainTreeOf K P) → IsTextOfTree kinds pairs v bytes t → Ending
  ending lacks t is =
      let f = (r.comes.means t).0 is.spelled in
      let over = ends f.others (pairs_text_by pairs 59 f.pairs ++ 41 ∷ f.behind) lacks f.text in
      let b = inside_end law bytes text inner opens ts r.comes f.pairs f.behind over in
      let same = (same_from_push (take first ts) (befores b.nodes) (node inner.kind (row children) f.pairs) b.tree b.trees_are).1 in
      let each : (N : K → PlainTreesOf K P → List P → Type 0) → EachNode N t → N inner.kind (row children) f.pairs =
      λ N all. (subst (EachNode N) (sym same) (each_follows law N b.nodes b.tree f.behind t ((b.means t).0 is.spelled) all)).0 in
      record { ps = f.pairs; tail = f.behind; text_is = over; canonical = each Canonical is.canonical; fits = each (FitsView v) is.fits; admitted = each (AdmitsNode v) is.admitted }

  -- the least names of the children
  module _ (sub : List ℕ) (is_sub : sub ≡ drop first list) where
    sub_length : length sub ≡ length list - first
    sub_length = ap length is_sub ∙ length-drop first list

    at_sub : (i : ℕ) → get_or sub i 0 ≡ get_or list (first + i) 0
    at_sub i = ap (λ l. get_or l i 0) is_sub ∙ get_or-drop first list i 0

    pub inside_live : AreLive sub live
    inside_live i below = let size = sub_length in subst (Has live) (sym (at_sub i)) (r.walked.least (first + i) (omega arith))

    pub inside_heads : (sorts : Bool) → AscendsIf sorts sub → StandForChildren v.vertices sorts sub
    inside_heads sorts up =
        let size = sub_length in
        let f = first_within in
        let own : (i : ℕ) → i < length sub → Has (names_at (row ts) (first + i)) (get_or list (first + i) 0) = λ i l. (least_here ts list r.walked.kept.least (first + i) (omega arith)).member in
        record {
          some = omega arith;
          members = λ i l. subst (Has v.vertices) (sym (at_sub i)) (below_seen (get_or list (first + i) 0) (at_inside (row ts) (first + i) (get_or list (first + i) 0) (own i l)));
          differ = λ i j less l same.
              let b : i < length sub = omega arith in
              clash (own j l)
              (at_apart (row ts) r.walked.kept.apart (first + i) (first + j) (omega arith) (names_at (row ts) (first + i)) (names_at (row ts) (first + j)) refl refl (get_or list (first + j) 0)
              (subst (Has (names_at (row ts) (first + i))) (sym (at_sub i) ∙ same ∙ at_sub j) (own i b)));
          order = up;
        }

    children_least : AreLeast children sub
    children_least =
        let size : length (take first ts) ≡ first = (let a = inside in length-take-le first ts (omega arith)) in
        subst (AreLeast children) (ap (λ n. drop n list) size ∙ sym is_sub)
        (least_drop (take first ts) children list (subst (λ us. AreLeast us list) (sym (take-append-drop first ts)) r.walked.kept.least))

    -- names outside of the children
    away : (x : ℕ) → Lacks (names_below (row children)) x → (i : ℕ) → i < length sub → x ≢ get_or sub i 0
    away x lacks i below same =
        clash (subst (Has (names_below (row children))) (sym same) (at_inside (row children) i (get_or sub i 0) (least_here children sub children_least i below).member)) lacks

    before_apart : (i x : ℕ) → i < first → Has (names_at (row ts) i) x → Lacks (names_below (row children)) x
    before_apart i x less here = lacks_if (names_below (row children)) x (λ h.
        let j : ℕ = position_of (row children) x in
        let there : Has (names_at (row ts) (first + j)) x = Has-along (names_at (row children) j) (names_at (row ts) (first + j)) (at_drop ts first j (first + j) refl) x (at_position (row children) x h) in
        clash there (at_apart (row ts) r.walked.kept.apart i (first + j) (omega arith) (names_at (row ts) i) (names_at (row ts) (first + j)) refl refl x here))

    -- what is live besides the least names of the children
    other_live : (others : NameSet) → HasOthers live sub others → (x : ℕ) → Has others x → (Has v.vertices x × Lacks seen x) ⊎ ((i : ℕ) × (i < first) × (x ≡ get_or list i 0))
    other_live others left x h =
        let two = (left x).0 h in
        elim (r.walked.only_live x two.0) [
          | inl unread ↦ inl unread
          | inr i ↦ elim (cases_lt i.0 first) [
            | inl less ↦ inr (i.0, less, i.2)
            | inr over ↦
                let b : i.0 < length list = i.1 in
                let size = sub_length in
                let f = first_within in
                let sum : first + (i.0 - first) ≡ i.0 = omega arith in
                absurd (two.1 (i.0 - first) (omega arith) (i.2 ∙ sym (at_sub (i.0 - first) ∙ ap (λ n. get_or list n 0) sum)))
          ]
        ]

    children_seen : Within (names_below (row children)) seen
    children_seen x h = (r.walked.kept.same x).1 (subst (λ us. Has (names_below (row us)) x) (take-append-drop first ts) (names_right (take first ts) children x h))

    others_outside : (others : NameSet) → HasOthers live sub others → (y : ℕ) → Has others y → Has v.vertices y × Lacks (names_below (row children)) y
    others_outside others left y h = elim (other_live others left y h) [
      | inl unread ↦ (unread.0, lacks_within (names_below (row children)) seen children_seen y unread.1)
      | inr i ↦
          let b : i.0 < first = i.1 in
          let f = first_within in
          let own : Has (names_at (row ts) i.0) y = subst (Has (names_at (row ts) i.0)) (sym i.2) (least_here ts list r.walked.kept.least i.0 (omega arith)).member in
          (below_seen y (at_inside (row ts) i.0 y own), before_apart i.0 y b own)
    ]

    children_within : Within (names_below (row children)) v.vertices
    children_within x h = r.walked.within x (children_seen x h)

    mods : (c : PlainTreeOf K P) → IsChild (row children) c → IsModule v.colours v.vertices (names c)
    mods = child_modules v.vertices (FitsView v) (λ k cs ps f. f.is_module) (row children) fits.1 children_within

    -- the colour of a name of another tree is that of its least name, which is among the others
    module _ (others : NameSet) (left : HasOthers live sub others) (alike : AreAlike v.colours others sub) where
      modules : (c : PlainTreeOf K P) → IsChild (row ts) c → IsModule v.colours v.vertices (names c)
      modules = child_modules v.vertices (FitsView v) (λ k cs ps f. f.is_module) (row ts) r.walked.fit below_seen

      alike_read : (y : ℕ) → Has seen y → Lacks (names_below (row children)) y → (k : ℕ) → k < length sub → v.colours (get_or sub 0 0) y ≡ v.colours (get_or sub k 0) y
      alike_read y read lacks k below =
          let i : ℕ = position_of (row ts) y in
          let here : Has (names_at (row ts) i) y = at_position (row ts) y ((r.walked.kept.same y).0 read) in
          let size : count (row ts) ≡ length ts = count_row ts in
          let same = same_least in
          let some : i < count (row ts) = position_below (row ts) i y here in
          let bound : i < length list = omega arith in
          let m : ℕ = get_or list i 0 in
          let own : Has (names_at (row ts) i) m = (least_here ts list r.walked.kept.least i bound).member in
          let less : i < first = before y i here lacks in
          let free : Has others m = (left m).1 (r.walked.least i bound, away m (before_apart i m less own)) in
          let c : (c : PlainTreeOf K P) × IsChild (row ts) c × (names_at (row ts) i ≡ names c) = child_at (row ts) i y here in
          let to_least : (j : ℕ) → j < length sub → v.colours (get_or sub j 0) y ≡ v.colours (get_or sub j 0) m = λ j l.
          (modules c.0 c.1).alike y m (get_or sub j 0) (Has-along (names_at (row ts) i) (names c.0) c.2 y here) (Has-along (names_at (row ts) i) (names c.0) c.2 m own)
          (below_seen (get_or sub j 0) (sub_below j l))
          (lacks_if (names c.0) (get_or sub j 0) (λ h. clash (sub_child j l) (before_apart i (get_or sub j 0) less (Has-along (names c.0) (names_at (row ts) i) (sym c.2) (get_or sub j 0) h)))) in
          to_least 0 (omega arith) ∙ alike k m below free ∙ sym (to_least k below)
        where
          sub_child : (j : ℕ) → j < length sub → Has (names_below (row children)) (get_or sub j 0)
          sub_child j l = at_inside (row children) j (get_or sub j 0) (least_here children sub children_least j l).member

          sub_below : (j : ℕ) → j < length sub → Has (names_below (row ts)) (get_or sub j 0)
          sub_below j l = (r.walked.kept.same (get_or sub j 0)).0 (children_seen (get_or sub j 0) (sub_child j l))

          before : (x i : ℕ) → Has (names_at (row ts) i) x → Lacks (names_below (row children)) x → i < first
          before x i here lacks = elim (cases_lt i first) [
            | inl less ↦ less
            | inr over ↦ clash (at_inside (row children) (i - first) x (Has-along (names_at (row ts) i) (names_at (row children) (i - first)) (sym (at_drop ts first (i - first) i (omega arith))) x here)) lacks
          ]

      alike_outside : AreAlike v.colours (difference v.vertices (names_below (row children))) sub
      alike_outside k y below h =
          let two = of_minus v.vertices (names_below (row children)) y h in
          elim (cases_Bool (contains seen y)) [
            | inl read ↦ alike_read y read two.1 k below
            | inr unread ↦ alike k y below ((left y).1 (r.walked.unseen y two.0 unread, away y two.1))
          ]

      -- what is live when the node takes the place of its children
      live_then : (low : ℕ) (longer : List ℕ) (new : NameSet) → longer ≡ take first list ++ low ∷ [] → new ≡ insert others low →
          ((x : ℕ) → Has v.vertices x → Lacks seen x → Has new x) × (AreLive longer new × ((x : ℕ) → Has new x → (Has v.vertices x × Lacks seen x) ⊎ ((i : ℕ) × (i < length longer) × (x ≡ get_or longer i 0))))
      live_then low longer new put made = (
        λ x h lacks. grown x ((left x).1 (r.walked.unseen x h lacks, away x (lacks_within (names_below (row children)) seen children_seen x lacks))),
        (live_push (take first list) longer low new put front (subst (λ s. Has s low) (sym made) (insert_new others low)), only),
      ) where
        only : (x : ℕ) → Has new x → (Has v.vertices x × Lacks seen x) ⊎ ((i : ℕ) × (i < length longer) × (x ≡ get_or longer i 0))
        only x h = elim (of_insert others low x (subst (λ s. Has s x) made h)) [
          | inl same ↦ inr (of_push (take first list) longer low put x (inl same))
          | inr old ↦ elim (other_live others left x old) [
            | inl unread ↦ inl unread
            | inr i ↦
                let f = first_within in
                let size : length (take first list) ≡ first = length-take-le first list (omega arith) in
                let b : i.0 < first = i.1 in
                let below : i.0 < length (take first list) = omega arith in
                inr (of_push (take first list) longer low put x (inr (i.0, below, i.2 ∙ sym (get_or-take first list i.0 0 b))))
          ]
        ]

        grown : (x : ℕ) → Has others x → Has new x
        grown x h = subst (λ s. Has s x) (sym made) (insert_old others low x h)

        front : AreLive (take first list) new
        front i below =
            let f = first_within in
            let size : length (take first list) ≡ first = length-take-le first list (omega arith) in
            let less : i < first = omega arith in
            let bound : i < length list = omega arith in
            let own : Has (names_at (row ts) i) (get_or list i 0) = (least_here ts list r.walked.kept.least i bound).member in
            grown (get_or (take first list) i 0)
            (subst (Has others) (sym (get_or-take first list i 0 less)) ((left (get_or list i 0)).1 (r.walked.least i bound, away (get_or list i 0) (before_apart i (get_or list i 0) less own))))

    -- ---- where no tree has the text

    module _ (lacks : LacksFirst 44 text) where
      pub no_children : (sub_roots : List (Option K)) → sub_roots ≡ drop first roots → (MayHaveKinds kinds inner.kind sub_roots → ⊥) → AreNoTreesText kinds pairs v bytes
      no_children sub_roots are other t is =
          let e = ending lacks t is in
          other (subst (MayHaveKinds kinds inner.kind) (sym (inside_roots sub_roots are)) (kinds_of_has kinds inner.kind children (shape_has law inner.kind (row children) e.ps e.canonical.shape)))

      pub not_admitted : (v.Admits inner.kind (row children) → ⊥) → AreNoTreesText kinds pairs v bytes
      not_admitted other t is = other (ending lacks t is).admitted

      pub no_order : (AscendsIf (kinds.sorts inner.kind) sub → ⊥) → AreNoTreesText kinds pairs v bytes
      no_order other t is = let e = ending lacks t is in other (of_order_if (kinds.sorts inner.kind) children sub children_least e.canonical.order)

      pub no_end : IsView kinds pairs v → ((ps : List P) (tail : List ℕ) (others : NameSet) → MayListIf pairs (kinds.lists inner.kind) (length sub) ps → HasOthers live sub others → IsFitView v others inner.kind ps sub → text ≢ pairs_text_by pairs 59 ps ++ 41 ∷ tail) →
          AreNoTreesText kinds pairs v bytes
      no_end is_view other t is =
          let e = ending lacks t is in
          let others : NameSet = difference live (from_list sub) in
          let left : HasOthers live sub others = rest_others live (from_list sub) others sub refl refl in
          let may = shape_lists law inner.kind (row children) e.ps e.canonical.shape in
          let size : count (row children) ≡ length sub = count_row children ∙ least_length children sub children_least in
          other e.ps e.tail others (subst (λ n. MayListIf pairs (kinds.lists inner.kind) n e.ps) size may) left
          (fit_named is_view.turns is_view.told v.puts v.prime v.vertices inner.kind children e.ps sub children_least (some_child inner.kind (row children) e.ps e.canonical) (three is_view (enough inner.kind (row children) e.ps e.canonical)) e.canonical.apart own_heads
          children_within mods others (others_outside others left) e.fits) e.text_is

  module _ (is_view : IsView kinds pairs v) (ps : List P) (sub : List ℕ) (is_sub : sub ≡ drop first list) (up : AscendsIf (kinds.sorts inner.kind) sub) (sub_roots : List (Option K)) (are_roots : sub_roots ≡ drop first roots)
      (has : MayHaveKinds kinds inner.kind sub_roots) (asked : v.Admits inner.kind (row (drop inner.first r.trees))) (low : ℕ) (is_low : IsMinimum sub low) (lists : MayListIf pairs (kinds.lists inner.kind) (length sub) ps) (others : NameSet) (left : HasOthers live sub others)
      (fit : IsFitView v others inner.kind ps sub) where
    abbrev made : PlainTreeOf K P
    made = node inner.kind (row children) ps

    may_have : MayHave kinds inner.kind (row children)
    may_have = has_of_kinds kinds inner.kind children (subst (MayHaveKinds kinds inner.kind) (inside_roots sub_roots are_roots) has)

    sub_size : length sub ≡ length ts - first
    sub_size = sub_length sub is_sub ∙ ap (λ n. n - first) (sym same_least)

    kept : AreKept (spelling kinds pairs) NAMES (take first ts ++ made ∷ []) (take first list ++ low ∷ []) seen
    kept =
        kept_closed law ts list seen first inner.kind ps low inside r.walked.kept may_have (subst (λ n. MayListIf pairs (kinds.lists inner.kind) n ps) sub_size lists) (subst (AscendsIf (kinds.sorts inner.kind)) is_sub up)
        (subst (λ l. IsMinimum l low) is_sub is_low)

    canonical : Canonical inner.kind (row children) ps
    canonical = (each_parts Canonical (take first ts) (made ∷ []) kept.canonical).1.0.0

    admitted : EachNodeBelow (AdmitsNode v) (row (take first ts)) × EachNodeBelow (AdmitsNode v) (row children)
    admitted = parted (AdmitsNode v) r.walked.admitted

    made_fits : FitsView v inner.kind (row children) ps
    made_fits =
        named_fit is_view.turns is_view.told v.puts v.prime v.vertices inner.kind children ps sub (children_least sub is_sub) (some_child inner.kind (row children) ps canonical) (three is_view may_have.0) canonical.apart own_heads
        (children_within sub is_sub) (mods sub is_sub)
        (record { alike = alike_outside sub is_sub others left fit.alike; joined = fit.joined; trivial = fit.trivial })

    pub read_end : (tail : List ℕ) (longer : List ℕ) (roots_more : List (Option K)) (new : NameSet) → text ≡ pairs_text_by pairs 59 ps ++ 41 ∷ tail → longer ≡ take first list ++ low ∷ [] →
        roots_more ≡ take first roots ++ Some inner.kind ∷ [] → new ≡ insert others low → IsReadBy kinds pairs v bytes tail true longer roots_more opens seen new
    read_end tail longer roots_more new is put kind grows =
        let lives = live_then sub is_sub others left fit.alike low longer new put grows in
        record {
          trees = take first ts ++ made ∷ [];
          walked = record {
            kept = subst (λ l. AreKept (spelling kinds pairs) NAMES (take first ts ++ made ∷ []) l seen) (sym put) kept;
            roots_are = kind ∙ ap (λ l. l ++ Some inner.kind ∷ []) (ap (take first) r.walked.roots_are ∙ take-map root_kind first ts) ∙ sym (map-append root_kind (take first ts) (made ∷ []));
            fit = each_join (FitsView v) (take first ts) (made ∷ []) fits.0 ((made_fits, fits.1), tt);
            admitted = each_join (AdmitsNode v) (take first ts) (made ∷ []) admitted.0 ((asked, admitted.1), tt);
            within = r.walked.within;
            unseen = lives.0;
            least = lives.1.0;
            only_live = lives.1.1;
          };
          comes = inside_end law bytes text inner opens ts r.comes ps tail is;
        }
