use Rattle.std.proofs.Common.{◌≡◌, ◌<◌, ◌≤◌, length, Ok, Err, sym, ap, ◌∙◌, subst, arith}
use Rattle.std.proofs.lemmas.Bool.{leb-true, leb-false}
use Rattle.cnf.specs.Scans.{judged}
use Rattle.sheet.specs.Sheets.{is_none, added_all, due_of, finished}
use Rattle.sheet.specs.Texts.{sheet_text}
use Rattle.sheet.proofs.Judgements.{said_none}
use Rattle.sheet.proofs.Whole.{series_leaves_text, printed_short, series_prints, printed_tells}
use Rattle.sheet.proofs.print.print.Goals as goal
use Rattle.sheet.proofs.print.print.Goals.{After-is_none-satisfied}

told : (c : After-is_none-satisfied) → judged c.args.variables c.args.words.now c.args.assignment.now ≡ Ok c.in_ok-check.field-0
told c = sym c.check.ensures.value ∙ c.in_ok-check.was

says : (c : After-is_none-satisfied) → c.is_none-satisfied.result ≡ is_none c.in_ok-check.field-0
says c = said_none c.in_ok-check.field-0 c.is_none-satisfied.result c.is_none-satisfied.ensures

-- the text that was tested for room is the one to print
same : (c : After-is_none-satisfied) → length (sheet_text c.args.effort.steps c.args.effort.dives c.is_none-satisfied.result c.args.assignment.now) ≡ length (sheet_text c.args.effort.steps c.args.effort.dives (is_none c.in_ok-check.field-0) c.args.assignment.now)
same c = ap (λ b. length (sheet_text c.args.effort.steps c.args.effort.dives b c.args.assignment.now)) (says c)

pub returns-then-not-fits : goal.returns-then-not-fits
returns-then-not-fits c =
    let k = (goal.at.returns-then-not-fits c).After-is_none-satisfied in
    let long = subst (λ n. length c.args.out.now < n) (same k) (leb-false _ _ (sym c.if-not-fits.ensures)) in
    record {
      text = ap (λ r. (Err r, c.args.out.now)) c.at.ensures ∙ printed_short c.args.effort.steps c.args.effort.dives c.args.variables c.args.words.now c.args.assignment.now c.args.out.now c.in_ok-check.field-0 (told k) long;
      tells = tt;
      series = series_leaves_text c.args.effort.steps c.args.effort.dives c.args.variables c.args.words.now c.args.assignment.now c.args.out.now (omega arith) (omega arith) c.check.ensures.names;
    }

pub returns : goal.returns
returns c =
    let k = (goal.at.returns c).After-is_none-satisfied in
    let room = subst (λ n. n ≤ length c.args.out.now) (same k) (leb-true _ _ (sym c.if-not-fits.ensures)) in
    let values = c.due.ensures ∙ ap (λ b. due_of b c.args.assignment.now) (says k) in
    let text =
    c.fill.ensures
    ∙ ap (λ bs. finished (added_all c.in_ok-sheet.sheet bs c.begin.new.out)) values
    ∙ series_prints c.args.effort.steps c.args.effort.dives c.args.variables c.args.words.now c.args.assignment.now c.args.out.now c.in_ok-check.field-0 (told k) room c.begin.result c.in_ok-sheet.sheet c.begin.new.out c.begin.ensures c.in_ok-sheet.was in
    record {
      text = text;
      tells = printed_tells c.args.effort.steps c.args.effort.dives c.args.variables c.args.words.now c.args.assignment.now c.args.out.now c.fill.result c.fill.new.out text (omega arith) (omega arith) c.check.ensures.names;
      series = series_leaves_text c.args.effort.steps c.args.effort.dives c.args.variables c.args.words.now c.args.assignment.now c.args.out.now (omega arith) (omega arith) c.check.ensures.names;
    }
