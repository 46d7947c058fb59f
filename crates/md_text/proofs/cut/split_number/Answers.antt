use Rattle.std.proofs.Common.{◌<◌, ◌-◌, length, take, drop, arith}
use Rattle.std.proofs.lemmas.List.{take_rest}
use Rattle.md_text.proofs.FieldLemmas.{begins_at, fields-blanks}
use Rattle.md_text.proofs.NumberLemmas.{number_begins, field_begins}
use Rattle.md_text.proofs.cut.split_number.Goals as goal

pub returns-then-start-line-clause-none : goal.returns-then-start-line-clause-none
returns-then-start-line-clause-none c =
    fields-blanks c.args.line.now (λ k below. c.first_other-start.ensures.before k (omega arith))

pub returns-then-is_end-clause-number : goal.returns-then-is_end-clause-number
returns-then-is_end-clause-number c =
    let line = c.args.line.now in
    let start = c.first_other-start.result in
    let left : start < length line = omega arith in
    let known = c.leading_digits-count.ensures in
    let rest = take (length line - start) (drop start line) in
    number_begins line rest _ start c.leading_digits-count.result.0 c.leading_digits-count.result.1 (record {
      front = begins_at line start left c.first_other-start.ensures.before (c.first_other-start.ensures.found left);
      some = c.if-count-gt0.true;
      within = known.within;
      at_most = known.at_most;
      digits = known.digits;
      found = c.is_end.ensures c.if-is_end.true;
    }) known.value (take_rest rest c.leading_digits-count.result.0)

pub returns-clause-number : goal.returns-clause-number
returns-clause-number c =
    let line = c.args.line.now in
    let start = c.first_other-start.result in
    let left : start < length line = omega arith in
    let rest = take (length line - start) (drop start line) in
    field_begins line rest _ _ start c.first_blank.result c.number.result (record {
      front = begins_at line start left c.first_other-start.ensures.before (c.first_other-start.ensures.found left);
      within = c.first_blank.ensures.within;
      others = c.first_blank.ensures.before;
      found = c.first_blank.ensures.found;
    }) c.split_at.ensures.front c.split_at.ensures.back c.number.ensures.value
