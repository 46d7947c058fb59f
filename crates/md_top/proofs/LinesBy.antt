-- Reports put line by line: what is put so far leads from place to place, whatever the places and the lines are.
use Rattle.std.proofs.Common.{◌≡◌, ℕ, List, [], ◌∷◌, ◌++◌, Option, Result, Ok, Err, IsErrAnd, ◌≤◌, refl, sym, ap, subst, ◌∙◌, inl, inr, arith, append_assoc, append-nil}
use Rattle.std.proofs.KnownBytes.{Appends-nil, Appends-trans}
use Rattle.std.specs.List.{flat_map}
use Rattle.std.proofs.lemmas.Grind.{flat_map-append}
use Rattle.std.specs.Io.KnownBytes.{Appends}
use Rattle.md_io.specs.Front.{AppendsFront}
use Rattle.md_report.proofs.Protocols.{lead_append}
use Rattle.md_top.specs.declared.stop.PutStop.{PutStop}
use Rattle.md_top.specs.Sinks.{sink, PutsWhole, AppendsLinesBy, AppendsFrontFromBy, PutsLinesBy}
use Rattle.md_top.proofs.Pieces.{stops_on}

module _ {P L : Type 0} (MayCome : P → L → Type 0) (next : P → L → P) (fed : L → List ℕ) where
  -- the beginning of a line that may come
  begun_line : (p : P) (line : L) (old new : Option (List ℕ)) → MayCome p line → AppendsFront old new (fed line) → AppendsFrontFromBy MayCome next fed p old new
  begun_line p line old new may front = record {
    bytes = front.part;
    front = record { lines = []; place = p; leads = refl; begun = front.part; begins = inr (line, may, front.rest, front.whole); text = refl };
    put = front.appended;
  }

  -- a line that may come is put whole, or the call stopped within it
  pub one_line_by : (p : P) (line : L) (result : Result (Unit {0}) PutStop) (old new : Option (List ℕ)) (faults_old faults_new : ℕ) → MayCome p line → PutsWhole (fed line) result (sink old new faults_old faults_new) → PutsLinesBy MayCome next fed p (next p line) result (sink old new faults_old faults_new)
  one_line_by p line (Ok done) old new faults_old faults_new may put =
      record { lines = line ∷ []; leads = (may, refl); put = subst (Appends old new) (sym (append-nil (fed line))) put }
  one_line_by p line (Err stop) old new faults_old faults_new may put =
      stops_on (begun_line p line old new may) stop faults_old faults_old faults_new (omega arith) put

  -- stopped before the first byte
  pub stopped_before_by : (p : P) (old : Option (List ℕ)) → AppendsFrontFromBy MayCome next fed p old old
  stopped_before_by p old = record {
    bytes = [];
    front = record { lines = []; place = p; leads = refl; begun = []; begins = inl refl; text = refl };
    put = Appends-nil old;
  }

  -- no line, which leads nowhere else
  pub no_lines_by : (p : P) (old : Option (List ℕ)) → AppendsLinesBy MayCome next fed p p old old
  no_lines_by p old = record { lines = []; leads = refl; put = Appends-nil old }

  -- a front behind lines
  front_behind : (p q : P) (old now new : Option (List ℕ)) → AppendsLinesBy MayCome next fed p q old now → AppendsFrontFromBy MayCome next fed q now new → AppendsFrontFromBy MayCome next fed p old new
  front_behind p q old now new so_far more = record {
    bytes = flat_map fed so_far.lines ++ more.bytes;
    front = record {
      lines = so_far.lines ++ more.front.lines;
      place = more.front.place;
      leads = lead_append MayCome next p q more.front.place so_far.lines more.front.lines so_far.leads more.front.leads;
      begun = more.front.begun;
      begins = more.front.begins;
      text = ap (λ b. flat_map fed so_far.lines ++ b) more.front.text ∙ sym (append_assoc (flat_map fed so_far.lines) (flat_map fed more.front.lines) more.front.begun)
          ∙ ap (λ b. b ++ more.front.begun) (sym (flat_map-append fed so_far.lines more.front.lines));
    };
    put = Appends-trans old now new (flat_map fed so_far.lines) more.bytes so_far.put more.put;
  }

  -- lines behind lines
  pub lines_behind_by : (p q r : P) (old now new : Option (List ℕ)) → AppendsLinesBy MayCome next fed p q old now → AppendsLinesBy MayCome next fed q r now new → AppendsLinesBy MayCome next fed p r old new
  lines_behind_by p q r old now new so_far more = record {
    lines = so_far.lines ++ more.lines;
    leads = lead_append MayCome next p q r so_far.lines more.lines so_far.leads more.leads;
    put = subst (Appends old new) (sym (flat_map-append fed so_far.lines more.lines)) (Appends-trans old now new (flat_map fed so_far.lines) (flat_map fed more.lines) so_far.put more.put);
  }

  -- lines behind lines, or stopped within those
  pub puts_behind_by : (p q r : P) (result : Result (Unit {0}) PutStop) (old now new : Option (List ℕ)) (faults_old faults_now faults_new : ℕ) → AppendsLinesBy MayCome next fed p q old now → faults_old ≤ faults_now → PutsLinesBy MayCome next fed q r result (sink now new faults_now faults_new) → PutsLinesBy MayCome next fed p r result (sink old new faults_old faults_new)
  puts_behind_by p q r (Ok done) old now new faults_old faults_now faults_new so_far below more = lines_behind_by p q r old now new so_far more
  puts_behind_by p q r (Err stop) old now new faults_old faults_now faults_new so_far below more =
      stops_on (front_behind p q old now new so_far) stop faults_old faults_now faults_new below more

  -- the same, where the call that stopped hands its stop on
  pub stopped_behind_by : (p q r : P) (result : Result (Unit {0}) PutStop) (stop : PutStop) (old now new : Option (List ℕ)) (faults_old faults_now faults_new : ℕ) → IsErrAnd result (λ named. named ≡ stop) → AppendsLinesBy MayCome next fed p q old now → faults_old ≤ faults_now → PutsLinesBy MayCome next fed q r (Err stop) (sink now new faults_now faults_new) → PutsLinesBy MayCome next fed p r result (sink old new faults_old faults_new)
  stopped_behind_by p q r (Ok done) stop old now new faults_old faults_now faults_new is so_far below stopped = absurd is
  stopped_behind_by p q r (Err named) stop old now new faults_old faults_now faults_new is so_far below stopped =
      subst (λ (s : PutStop). PutsLinesBy MayCome next fed p r (Err s) (sink old new faults_old faults_new)) (sym is)
      (stops_on (front_behind p q old now new so_far) stop faults_old faults_now faults_new below stopped)
