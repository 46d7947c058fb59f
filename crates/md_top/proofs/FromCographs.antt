-- In mode quiet a cograph has no line of its own: what comes at the items comes behind the head.
use Rattle.std.proofs.Common.{◌≡◌, ℕ, Bool, true, false, List, [], ◌∷◌, ◌++◌, Option, Result, Ok, Err, refl, sym, subst, inl, inr, arith}
use Rattle.md_graph.specs.PlainGraph.{PlainGraph}
use Rattle.md_script.specs.declared.item.Item.{Item}
use Rattle.md_modules.specs.declared.induced_paths.P4.{P4}
use Rattle.md_report.specs.declared.line.SessionMode.TheVariants.{Quiet}
use Rattle.md_report.specs.Lines.{PlainLine, lines_text, not_cograph, end}
use Rattle.md_report.specs.Laws.{KeepsCographs}
use Rattle.md_report.specs.Cographs.{IsCograph, IsP4Of}
use Rattle.md_report.specs.Sessions.{first_state}
use Rattle.md_report.specs.Places.{Place, at_state, at_items, after_end, MayCome, next_place, Lead}
use Rattle.md_report.specs.Reports.{IsBegun, IsFront}
use Rattle.md_report.proofs.Places.{first_place, from_cograph}
use Rattle.md_top.specs.declared.stop.PutStop.{PutStop}
use Rattle.md_top.specs.CographModes.{cograph_mode}
use Rattle.md_top.specs.Sinks.{sink, AppendsFrontFrom, PutsLines}
use Rattle.md_top.proofs.Pieces.{stops_on}

begun_from : (g : PlainGraph) (items : List Item) (begun : List ℕ) → IsCograph g → IsBegun (at_items Quiet (first_state g) items) begun → IsBegun (at_state Quiet g items) begun
begun_from g items begun none (inl nothing) = inl nothing
begun_from g items begun none (inr line) = inr (line.0, inr (none, line.1), line.2, line.3)

-- the front of a report from the items on is one from the first state on
front_from : (g : PlainGraph) (items : List Item) (bytes : List ℕ) → IsCograph g → IsFront (at_items Quiet (first_state g) items) bytes → IsFront (at_state Quiet g items) bytes
front_from g items bytes none front = by_lines front.lines front.place front.leads front.begins front.text where
  by_lines : (lines : List PlainLine) (place : Place) → Lead (at_items Quiet (first_state g) items) lines place → IsBegun place front.begun → bytes ≡ lines_text lines ++ front.begun → IsFront (at_state Quiet g items) bytes
  by_lines [] place leads begins text = record {
    lines = [];
    place = at_state Quiet g items;
    leads = refl;
    begun = front.begun;
    begins = begun_from g items front.begun none (subst (λ (p : Place). IsBegun p front.begun) (sym leads) begins);
    text = text;
  }
  by_lines (line ∷ lines) place leads begins text = record {
    lines = line ∷ lines;
    place = place;
    leads = (inr (none, leads.0), subst (λ (p : Place). Lead p lines place) (sym (first_place g items line leads.0)) leads.1);
    begun = front.begun;
    begins = begins;
    text = text;
  }

-- the same of what is put
pub puts_from : (g h : PlainGraph) (items : List Item) (result : Result (Unit {0}) PutStop) (old new : Option (List ℕ)) (faults_old faults_new : ℕ) → h ≡ g → IsCograph g →
    PutsLines (at_items Quiet (first_state h) items) after_end result (sink old new faults_old faults_new) → PutsLines (at_state Quiet g items) after_end result (sink old new faults_old faults_new)
puts_from g h items result old new faults_old faults_new same none puts =
    by_result result (subst (λ (s : PlainGraph). PutsLines (at_items Quiet (first_state s) items) after_end result (sink old new faults_old faults_new)) same puts)
  where
    by_result : (r : Result (Unit {0}) PutStop) → PutsLines (at_items Quiet (first_state g) items) after_end r (sink old new faults_old faults_new) → PutsLines (at_state Quiet g items) after_end r (sink old new faults_old faults_new)
    by_result (Ok done) put = record { lines = put.lines; leads = from_cograph g items put.lines none put.leads; put = put.put }
    by_result (Err stop) put =
        stops_on (λ (front : AppendsFrontFrom (at_items Quiet (first_state g) items) old new). record { bytes = front.bytes; front = front_from g items front.bytes none front.front; put = front.put }) stop faults_old faults_old faults_new (omega arith) put

-- ---- an induced P4 of the first graph

pub stopped_may : (told : Bool) (g : PlainGraph) (items : List Item) (p : P4) → IsP4Of g p → MayCome (at_state (cograph_mode told) g items) (not_cograph p)
stopped_may true g items p path = inl (p, path, refl)
stopped_may false g items p path = inl (p, path, refl)

-- the end comes behind it
pub stopped_end : (told : Bool) (g : PlainGraph) (items : List Item) (p : P4) → MayCome (next_place (at_state (cograph_mode told) g items) (not_cograph p)) end
stopped_end true g items p = refl
stopped_end false g items p = refl

pub stopped_place : (told : Bool) (g : PlainGraph) (items : List Item) (p : P4) → next_place (next_place (at_state (cograph_mode told) g items) (not_cograph p)) end ≡ after_end
stopped_place true g items p = refl
stopped_place false g items p = refl

-- ---- modes

pub cograph_kept : (told : Bool) → KeepsCographs (cograph_mode told)
cograph_kept true = tt
cograph_kept false = tt
