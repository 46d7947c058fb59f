use Rattle.md_checker.proofs.item_answers.is_led_line.Goals as goal

pub returns-in-Edit : goal.returns-in-Edit
returns-in-Edit g c =
    let is = c.in-Edit.is in
    let told = c.is_applied_state.ensures in
    rw is (rw is at told)

pub returns-in-Cograph : goal.returns-in-Cograph
returns-in-Cograph g c =
    let is = c.in-Cograph.is in
    let told = c.is_applied_state-in-Cograph.ensures in
    rw is (rw is at told)

pub returns-in-Of : goal.returns-in-Of
returns-in-Of g c =
    let is = c.in-Of.is in
    let told = c.is_applied_state-in-Of.ensures in
    rw is (rw is at told)
