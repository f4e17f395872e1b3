use Rattle.std.proofs.Common.{◌≡◌, ◌+◌, length, Ok, Err, sym, ap, ◌∙◌, arith}
use Rattle.std.proofs.lemmas.Bool.{cond-true, cond-false, leb-true, leb-false, le-leb, lt-leb}
use Rattle.lay.specs.Laid.{laid}
use Rattle.lay.proofs.Laying.{laid-laid}
use Rattle.cnf.specs.declared.refusal.Check.TheVariants.{BytesRoom}
use Rattle.cnf.specs.Refusals.{refused}
use Rattle.cnf.specs.Tables.{clauses_of}
use Rattle.dimacs.specs.Writes.{head_line, table_text, words_text, written, bytes_after}
use Rattle.dimacs.proofs.Writing.{text_is, text_length, few_words, written_is, laid_front}
use Rattle.dimacs.proofs.RoundTrip.{reads_back}
use Rattle.dimacs.proofs.write.write.Goals as goal

pub words_width-width-requires : goal.words_width-width-requires
words_width-width-requires c = few_words c.args.variables c.args.words.now c.in_ok-clauses.clauses (sym c.in_ok-clauses.ensures.value)

pub returns-then-not-fit : goal.returns-then-not-fit
returns-then-not-fit c =
    let v = c.args.variables in
    let ws = c.args.words.now in
    let n = c.in_ok-clauses.clauses in
    let e = sym c.in_ok-clauses.ensures.value in
    let h = ap length c.head_line-head.ensures in
    let l = text_length v ws n e in
    let x = leb-false _ _ (sym c.if-not-fit.ensures) in
    let r : written v ws (length c.args.out.now) ≡ Err (refused BytesRoom 0) = written_is v ws n e (length c.args.out.now) ∙ cond-false _ _ _ (lt-leb (length (table_text v (clauses_of ws))) (length c.args.out.now) (omega (arith, c.words_width-width.ensures))) in
    record { answer = ap Err c.at.ensures ∙ sym r; bytes = sym (ap (λ y. bytes_after y (table_text v (clauses_of ws)) c.args.out.now) r); back = reads_back v ws }

pub returns : goal.returns
returns c =
    let v = c.args.variables in
    let ws = c.args.words.now in
    let out = c.args.out.now in
    let n = c.in_ok-clauses.clauses in
    let e = sym c.in_ok-clauses.ensures.value in
    let h = c.head_line-head.ensures in
    let hl = ap length h in
    let l = text_length v ws n e in
    let x = leb-true _ _ (sym c.if-not-fit.ensures) in
    let at : c.lay_line-at.result ≡ 0 + length (head_line v n) = omega (arith, c.lay_line-at.ensures.end) in
    let r : written v ws (length out) ≡ Ok (length (table_text v (clauses_of ws))) = written_is v ws n e (length out) ∙ cond-true _ _ _ (le-leb (length (table_text v (clauses_of ws))) (length out) (omega (arith, c.words_width-width.ensures))) in
    let front : c.lay_line-at.new.out ≡ laid out 0 (head_line v n) = c.lay_line-at.ensures.bytes ∙ ap (laid out 0) h in
    record {
      answer = ap Ok (omega (arith, c.lay_words.ensures.end)) ∙ sym r;
      bytes =
          c.lay_words.ensures.bytes
          ∙ ap (λ o. laid o c.lay_line-at.result (words_text ws)) front
          ∙ ap (λ k. laid (laid out 0 (head_line v n)) k (words_text ws)) at
          ∙ laid-laid out (head_line v n) (words_text ws) 0 (omega arith)
          ∙ ap (laid out 0) (text_is v ws n e)
          ∙ laid_front out (table_text v (clauses_of ws))
          ∙ sym (ap (λ y. bytes_after y (table_text v (clauses_of ws)) out) r);
      back = reads_back v ws;
    }
