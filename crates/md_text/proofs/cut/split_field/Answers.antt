use Rattle.std.proofs.Common.{◌<◌, ◌-◌, length, take, drop, arith}
use Rattle.md_text.proofs.FieldLemmas.{IsFirstField, begins_at, fields-blanks, field_cut, field_is_word}
use Rattle.md_text.proofs.cut.split_field.Goals as goal

pub returns-then-start-line-clause-none : goal.returns-then-start-line-clause-none
returns-then-start-line-clause-none c =
    fields-blanks c.args.line.now (λ k below. c.first_other-start.ensures.before k (omega arith))

-- what the two searches found
first_field : (c : goal.After-split_at) → let line = c.args.line.now in let start = c.first_other-start.result in IsFirstField line (take (length line - start) (drop start line)) start c.first_blank-end.result
first_field c =
    let line = c.args.line.now in
    let start = c.first_other-start.result in
    let known = c.first_other-start.ensures in
    let more = c.first_blank-end.ensures in
    let left : start < length line = omega arith in
    record {
      front = begins_at line start left known.before (known.found left);
      within = more.within;
      others = more.before;
      found = more.found;
    }

pub returns-clause-field : goal.returns-clause-field
returns-clause-field c =
    let cut = field_cut _ _ _ _ (first_field c) in
    let front = c.split_at.ensures.front in
    let back = c.split_at.ensures.back in
    cc

pub returns-clause-word : goal.returns-clause-word
returns-clause-word c = rw c.split_at.ensures.front (field_is_word _ _ _ _ (first_field c))
