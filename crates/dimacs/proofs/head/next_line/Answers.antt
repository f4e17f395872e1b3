use Rattle.std.proofs.Common.{◌+◌, ◌<◌, ◌≤◌, false, length, get_or, drop, sym, ap, ◌∙◌, arith}
use Rattle.dimacs.specs.Heads.{head_from, line_end}
use Rattle.dimacs.proofs.Heads.{comment_moves, comment_last, comment_more}
use Rattle.dimacs.proofs.head.next_line.Goals as goal

pub returns-then-end-text : goal.returns-then-end-text
returns-then-end-text c =
    let bs = c.args.text.now in
    let e = c.line_end-end.ensures.value in
    let m = comment_moves bs c.args.from c.requires.0 c.requires.1 in
    let l : line_end bs c.args.from < length bs = omega arith in
    let z = ap (λ n. get_or bs n 0) (sym e) ∙ c.line_end-end.ensures.stops (omega arith) in
    record { beyond = omega arith; within = omega arith; head = ap (λ n. head_from false (n + 1) (drop (n + 1) bs)) e ∙ comment_more bs c.args.from c.requires.0 c.requires.1 l z }

pub returns-else-end-text : goal.returns-else-end-text
returns-else-end-text c =
    let bs = c.args.text.now in
    let e = c.line_end-end.ensures.value in
    let m = comment_moves bs c.args.from c.requires.0 c.requires.1 in
    let l : length bs ≤ line_end bs c.args.from = omega arith in
    record { beyond = omega arith; within = c.line_end-end.ensures.within; head = ap (λ n. head_from false n (drop n bs)) e ∙ comment_last bs c.args.from c.requires.0 c.requires.1 l }
