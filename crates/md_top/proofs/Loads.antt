-- Loads of the files of some names behind those of others.
use Rattle.std.proofs.Common.{◌≡◌, ◌⊎◌, ℕ, ◌<◌, ◌≤◌, ◌-◌, ◌^◌, length, IsTrue, List, [], ◌∷◌, ◌++◌, Vec, Result, Ok, Err, IsErrOf, IsErrAnd, IfErr, refl, sym, ◌∙◌, ap, subst, inl, inr, append-nil, append_assoc, length-append, arith}
use Rattle.std.specs.Global.{Global}
use Rattle.md_io.specs.declared.Files as files
use Rattle.md_io.specs.declared.LoadFault.{LoadFault}
use Rattle.md_io.specs.declared.LoadFault.TheVariants as loads
use Rattle.md_io.specs.declared.TheConstants.{LIMIT}
use Rattle.md_io.specs.Count.{Rose}
use Rattle.md_io.specs.Told.{Told, IsToldAs, IsToldFile, IsToldLonger}
use Rattle.md_top.specs.declared.stop.Stop.{Stop}
use Rattle.md_top.specs.Input.{FilesRun, files_run, AreToldAs, AreFiles, AllToldFiles, AsksInOrder}
use Rattle.md_top.specs.Loading.{Loads, StopsLoading}
use Rattle.md_top.specs.Status.{stop_of_load}

-- a count that rose behind another moment
pub rose_behind : (old now new : ℕ) → old ≤ now → Rose now new → Rose old new
rose_behind old now new below rose = omega (arith, rose)

module _ (holds : List ℕ → Told) where
  told_behind : (names contents more others : List (List ℕ)) → AreToldAs holds names contents → AreToldAs holds more others → AreToldAs holds (names ++ more) (contents ++ others)
  told_behind [] [] more others told behind = behind
  told_behind [] (bytes ∷ contents) more others told behind = absurd told
  told_behind (name ∷ names) [] more others told behind = absurd told
  told_behind (name ∷ names) (bytes ∷ contents) more others told behind =
      (told.0, told.1, told_behind names contents more others told.2 behind)

  all_before : (names more : List (List ℕ)) → AllToldFiles holds (names ++ more) → AllToldFiles holds names
  all_before [] more all = tt
  all_before (name ∷ names) more all = (all.0, all_before names more all.1)

  all_behind : (names more : List (List ℕ)) → AllToldFiles holds (names ++ more) → AllToldFiles holds more
  all_behind [] more all = all
  all_behind (name ∷ names) more all = all_behind names more all.1

  files_before : (names more contents : List (List ℕ)) → AreFiles holds (names ++ more) contents → (front : List (List ℕ)) × AreFiles holds names front
  files_before [] more contents files = ([], tt)
  files_before (name ∷ names) more [] files = absurd files
  files_before (name ∷ names) more (bytes ∷ contents) files =
      let rest = files_before names more contents files.2 in (bytes ∷ rest.0, (files.0, files.1, rest.1))

  files_behind : (names more contents : List (List ℕ)) → AreFiles holds (names ++ more) contents → (back : List (List ℕ)) × AreFiles holds more back
  files_behind [] more contents files = (contents, files)
  files_behind (name ∷ names) more [] files = absurd files
  files_behind (name ∷ names) more (bytes ∷ contents) files = files_behind names more contents files.2

  -- the files of names that were loaded can be had, and of others behind them those that can be had
  had_behind : (names contents part : List (List ℕ)) → AreToldAs holds names contents
      → ((front : List (List ℕ)) (last : List ℕ) → part ≡ front ++ last ∷ [] → (some : List (List ℕ)) × AreToldAs holds front some)
      → (front : List (List ℕ)) (last : List ℕ) → names ++ part ≡ front ++ last ∷ [] → (some : List (List ℕ)) × AreToldAs holds front some
  had_behind [] contents part told had front last same = had front last same
  had_behind (first ∷ names) contents part told had [] last same = ([], tt)
  had_behind (first ∷ names) [] part told had (name ∷ front) last same = absurd told
  had_behind (first ∷ names) (bytes ∷ contents) part told had (name ∷ front) last same =
      let behind : names ++ part ≡ front ++ last ∷ [] = cc in
      let one : first ≡ name = cc in
      let rest = had_behind names contents part told.2 had front last behind in
      (bytes ∷ rest.0, (subst (λ (n : List ℕ). IsToldAs (holds n) bytes) one told.0, told.1, rest.1))

  -- before the last of one name at most stands none
  pub none_had : (part : List (List ℕ)) → length part ≤ 1 → (front : List (List ℕ)) (last : List ℕ) → part ≡ front ++ last ∷ [] → (some : List (List ℕ)) × AreToldAs holds front some
  none_had part few [] last same = ([], tt)
  none_had part few (name ∷ front) last same =
      absurd (omega (arith, few, ap length same, length-append {A = List ℕ} front (last ∷ [])))

  -- where nothing is loaded, nothing is asked for
  pub none_asked : (asked : List (List ℕ)) → AsksInOrder holds asked asked []
  none_asked asked = record { part = []; rest = []; whole = refl; grown = sym (append-nil asked); had = none_had [] (omega arith) }

  pub asks_before : (old new names more : List (List ℕ)) → AsksInOrder holds old new names → AsksInOrder holds old new (names ++ more)
  asks_before old new names more asks = record {
    part = asks.part;
    rest = asks.rest ++ more;
    whole = ap (λ l. l ++ more) asks.whole ∙ append_assoc asks.part asks.rest more;
    grown = asks.grown;
    had = asks.had;
  }

  asks_behind : (old mid new names contents more : List (List ℕ)) → AreToldAs holds names contents → mid ≡ old ++ names → AsksInOrder holds mid new more → AsksInOrder holds old new (names ++ more)
  asks_behind old mid new names contents more told is asks = record {
    part = names ++ asks.part;
    rest = asks.rest;
    whole = ap (λ l. names ++ l) asks.whole ∙ sym (append_assoc names asks.part asks.rest);
    grown = asks.grown ∙ ap (λ l. l ++ asks.part) is ∙ append_assoc old names asks.part;
    had = had_behind names contents asks.part told asks.had;
  }

-- all names are asked for, where their files are loaded
pub all_asked : (f : FilesRun) (names contents : List (List ℕ)) → Loads f names contents → AsksInOrder f.holds f.asked_old f.asked_new names
all_asked f names contents loaded = record {
  part = names;
  rest = [];
  whole = sym (append-nil names);
  grown = loaded.asked;
  had = λ front last same. had_behind f.holds names contents [] loaded.told (none_had f.holds [] (omega arith)) front last (append-nil names ∙ same);
}

-- no file is loaded
pub no_loads : {F : Type 0} (g : files.Ghosts F) (old : F) → Loads (files_run g old old) [] []
no_loads g old = record { told = tt; asked = sym (append-nil (g.asked old)); sure = λ s all. (refl, s); faults = refl; overs = omega arith }

-- the load of one file
module _ {F : Type 0} (g : files.Ghosts F) (old new : F) (name : List ℕ) (result : Result (Vec ℕ Global) LoadFault)
    (noted : (g.asked new ≡ g.asked old ++ name ∷ [])
    ⊎ (IsErrOf result loads.Memory × (g.asked new ≡ g.asked old) × (g.faults new ≡ g.faults old) × (g.taken new ≡ g.taken old) × (g.overs new ≡ g.overs old)))
    (faults_only : ¬ IsErrOf result loads.Failed → g.faults new ≡ g.faults old)
    (sure_faults : IsTrue (g.sure old) → IsToldFile (g.holds old name) → g.faults new ≡ g.faults old)
    (sure_stays : IsTrue (g.sure old) → IsToldFile (g.holds old name) → IsTrue (g.sure new)) where
  pub one_load : (file : Vec ℕ Global) → result ≡ Ok file → IsToldAs (g.holds old name) file.items → length file.items ≤ LIMIT → g.overs old ≤ g.overs new
      → Loads (files_run g old new) (name ∷ []) (file.items ∷ [])
  one_load file is told within overs = record {
    told = (told, within, tt);
    asked = elim noted [ inl more ↦ more | inr kept ↦ absurd (no_err loads.Memory kept.0) ];
    sure = λ s all. (sure_faults s all.0, sure_stays s all.0);
    faults = faults_only (no_err loads.Failed);
    overs = overs;
  }
    where
      no_err : (fault : LoadFault) → ¬ IsErrOf result fault
      no_err fault err = cc

  pub one_stop : (fault : LoadFault) → result ≡ Err fault → (stop : Stop) → stop ≡ stop_of_load fault
      → (IsErrOf result loads.Failed → Rose (g.faults old) (g.faults new)) → (IsErrOf result loads.TooLong → Rose (g.overs old) (g.overs new))
      → (IsErrOf result loads.TooLong → IsToldLonger (g.holds old name) LIMIT) → (IsTrue (g.sure old) → g.faults old < 2 ^ 64 - 1)
      → StopsLoading (files_run g old new) (name ∷ []) stop
  one_stop fault is stop named failed over longer below = record {
    fault = fault;
    is = named;
    asked = elim noted [
      | inl more ↦ record { part = name ∷ []; rest = []; whole = refl; grown = more; had = none_had (g.holds old) (name ∷ []) (omega arith) }
      | inr kept ↦ record { part = []; rest = name ∷ []; whole = refl; grown = kept.1 ∙ sym (append-nil (g.asked old)); had = none_had (g.holds old) [] (omega arith) }
    ];
    failed = λ at. failed (err_is loads.Failed at);
    too_long = λ at. (over (err_is loads.TooLong at), none_within (longer (err_is loads.TooLong at)));
    sure = λ s all. (sure_faults s all.0, sure_stays s all.0, λ at. no_rise (sure_faults s all.0) (below s) (failed (err_is loads.Failed at)));
    faults_only = λ other. faults_only (λ err. other (cc));
  }
    where
      err_is : (named : LoadFault) → fault ≡ named → IsErrOf result named
      err_is named at = is ∙ ap Err at

      no_rise : g.faults new ≡ g.faults old → g.faults old < 2 ^ 64 - 1 → Rose (g.faults old) (g.faults new) → ⊥
      no_rise same low rose = omega (arith, same, low, rose)

      none_within : IsToldLonger (g.holds old name) LIMIT → (contents : List (List ℕ)) → ¬ AreFiles (g.holds old) (name ∷ []) contents
      none_within longer [] files = files
      none_within longer (bytes ∷ contents) files =
          let past : LIMIT < length bytes = subst (λ t. IsToldLonger t LIMIT) files.0 longer in omega (arith, past, files.1)

-- loading stopped at some of the names
pub stops_before : (f : FilesRun) (names more : List (List ℕ)) (stop : Stop) → StopsLoading f names stop → StopsLoading f (names ++ more) stop
stops_before f names more stop stops = record {
  fault = stops.fault;
  is = stops.is;
  asked = asks_before f.holds f.asked_old f.asked_new names more stops.asked;
  failed = stops.failed;
  too_long = λ is.
      ((stops.too_long is).0, λ contents files. let front = files_before f.holds names more contents files in (stops.too_long is).1 front.0 front.1);
  sure = λ s all. stops.sure s (all_before f.holds names more all);
  faults_only = stops.faults_only;
}

-- files are loaded, and behind that others
module _ {F : Type 0} (g : files.Ghosts F) (old mid new : F) (same : g.holds mid ≡ g.holds old) (names contents more : List (List ℕ)) (loaded : Loads (files_run g old mid) names contents) where
  pub loads_behind : (others : List (List ℕ)) → Loads (files_run g mid new) more others → Loads (files_run g old new) (names ++ more) (contents ++ others)
  loads_behind others behind = record {
    told = told_behind (g.holds old) names contents more others loaded.told (subst (λ (h : List ℕ → Told). AreToldAs h more others) same behind.told);
    asked = behind.asked ∙ ap (λ l. l ++ more) loaded.asked ∙ append_assoc (g.asked old) names more;
    sure = λ s all.
        let so_far = loaded.sure s (all_before (g.holds old) names more all) in
        let last = behind.sure so_far.1 (subst (λ (h : List ℕ → Told). AllToldFiles h more) (sym same) (all_behind (g.holds old) names more all)) in
        (last.0 ∙ so_far.0, last.1);
    faults = behind.faults ∙ loaded.faults;
    overs = omega (arith, loaded.overs, behind.overs);
  }

  pub stops_behind : (stop : Stop) → StopsLoading (files_run g mid new) more stop → StopsLoading (files_run g old new) (names ++ more) stop
  stops_behind stop stops = record {
    fault = stops.fault;
    is = stops.is;
    asked = asks_behind (g.holds old) (g.asked old) (g.asked mid) (g.asked new) names contents more loaded.told loaded.asked
        (subst (λ (h : List ℕ → Told). AsksInOrder h (g.asked mid) (g.asked new) more) same stops.asked);
    failed = λ is. rose_behind (g.faults old) (g.faults mid) (g.faults new) (omega (arith, loaded.faults)) (stops.failed is);
    too_long = λ is. (
      rose_behind (g.overs old) (g.overs mid) (g.overs new) loaded.overs (stops.too_long is).0,
      λ contents files.
          let back = files_behind (g.holds old) names more contents files in
          (stops.too_long is).1 back.0 (subst (λ (h : List ℕ → Told). AreFiles h more back.0) (sym same) back.1),
    );
    sure = λ s all.
        let so_far = loaded.sure s (all_before (g.holds old) names more all) in
        let last = stops.sure so_far.1 (subst (λ (h : List ℕ → Told). AllToldFiles h more) (sym same) (all_behind (g.holds old) names more all)) in
        (last.0 ∙ so_far.0, last.1, last.2);
    faults_only = λ other. stops.faults_only other ∙ loaded.faults;
  }

-- a stop is handed on
pub stop_handed : {A : Type 0} (f : FilesRun) (names : List (List ℕ)) (stop : Stop) (result : Result A Stop) → IsErrAnd result (λ named. named ≡ stop) → StopsLoading f names stop → IfErr result (StopsLoading f names)
stop_handed f names stop (Ok a) is stops = tt
stop_handed f names stop (Err named) is stops = subst (StopsLoading f names) (sym is) stops
