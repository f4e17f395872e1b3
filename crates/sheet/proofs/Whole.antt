-- A whole sheet: its series of calls, and all at once.
use Rattle.std.proofs.Common.{◌≡◌, ℕ, ◌+◌, ◌^◌, ◌<◌, ◌≤◌, Bool, true, false, cond, leb, List, [], ◌∷◌, ◌++◌, length, drop, ℤ, IfOk, Some, None, Ok, Err, Option, Result, sym, refl, ap, ◌∙◌, subst, append_assoc, append-nil, zero-add, arith, length-append}
use Rattle.std.proofs.lemmas.Bool.{cond-false, leb-true, lt-leb}
use Rattle.cnf.specs.declared.refusal.Refusal.{Refusal}
use Rattle.cnf.specs.Promises.{NamesFirstBroken}
use Rattle.cnf.specs.Scans.{judged}
use Rattle.cnf.specs.Tables.{clauses_of, values_of, first_unsatisfied}
use Rattle.lay.proofs.Laying.{length-laid}
use Rattle.lay.specs.Laid.{laid, put}
use Rattle.sheet.specs.declared.sheet.Sheet.{Sheet}
use Rattle.sheet.specs.Promises.{all_hold, Tells, Left, SeriesLeavesText}
use Rattle.sheet.specs.Sheets.{no_room, sheet_of, is_none, begun_with, begun_by, begun, added_all, closed, due_of, fitted, printed_by, printed, ended, finished}
use Rattle.sheet.specs.Texts.{head_text, value_part, sheet_text}
use Rattle.sheet.proofs.Judgements.{Bits, err≢ok, accepted}
use Rattle.sheet.proofs.Series.{put_fits, add_texts, all_fit, all_only, tail_of, close_fits, close_only, line_of_values}
use Rattle.sheet.proofs.Verdicts.{head_tells}

-- the head, what the additions write and what the closing writes
abbrev whole_text : List ℕ → List ℕ → ℕ → List ℕ
whole_text head bs n = (head ++ add_texts 0 bs) ++ tail_of n

whole_fits : (head bs out : List ℕ) (n : ℕ) → length bs ≡ n → Bits bs → length (whole_text head bs n) ≤ length out → finished (added_all (sheet_of (length head) n 0) bs (laid out 0 head)) ≡ (Ok (length (whole_text head bs n)), laid out 0 (whole_text head bs n))
whole_fits head bs out n e bits h =
    let parts = length-append (head ++ add_texts 0 bs) (tail_of n) in
    ap finished (all_fit bs out head n 0 (omega arith) bits (omega arith)) ∙ ap ended (close_fits out (head ++ add_texts 0 bs) n (0 + length bs) (omega arith) h)

record Ended (head bs out : List ℕ) (n m : ℕ) (last : List ℕ) : Type 0 where
  values : length bs ≡ n
  number : m ≡ length (whole_text head bs n)
  bytes : last ≡ laid out 0 (whole_text head bs n)

whole_only : (head bs out : List ℕ) (n : ℕ) (t : Sheet) (u : Unit) (second : List ℕ) (m : ℕ) (last : List ℕ) → length head ≤ length out → added_all (sheet_of (length head) n 0) bs (laid out 0 head) ≡ ((t, Ok u), second) → closed t second ≡ (Ok m, last) → Ended head bs out n m last
whole_only head bs out n t u second m last h e c =
    let text = head ++ add_texts 0 bs in
    let f = all_only bs out head n 0 t u second (omega arith) h e in
    let s = sym (all_fit bs out head n 0 f.due f.bits f.room) ∙ e in
    let d : closed (sheet_of (length text) n (0 + length bs)) (laid out 0 text) ≡ (Ok m, last) = ap (λ (x : (Sheet × Result Unit Refusal) × List ℕ). closed x.0.0 x.1) s ∙ c in
    let k = close_only (sheet_of (length text) n (0 + length bs)) m (laid out 0 text) last d in
    let same : length (laid out 0 text) ≡ length out = length-laid out text 0 (omega (arith, f.room)) in
    let w = sym (close_fits out text n (0 + length bs) k.0 (omega (arith, length-append text (tail_of n), k.1))) ∙ d in
    let o = ap (λ (x : Result ℕ (Sheet × Refusal) × List ℕ). x.0) w in
    record { values = omega (arith, f.due, k.0); number = cc; bytes = sym (ap (λ (x : Result ℕ (Sheet × Refusal) × List ℕ). x.1) w) }

-- that is the text of the sheet
text_is : (steps dives v : ℕ) (sat : Bool) (bs : List ℕ) → 1 ≤ v → length bs ≡ cond sat v 0 → whole_text (head_text steps dives sat) bs (cond sat v 0) ≡ sheet_text steps dives sat bs
text_is steps dives v true bs h e = append_assoc (head_text steps dives true) (add_texts 0 bs) (tail_of v) ∙ ap (λ x. head_text steps dives true ++ x) (line_of_values bs v (omega arith) e)
text_is steps dives v false [] h e = append-nil (head_text steps dives false ++ [])
text_is steps dives v false (b ∷ bs) h e = absurd (omega arith)

module _ (steps dives v : ℕ) (ws : List ℤ) (a out : List ℕ) where
  abbrev Begun : Type 0
  Begun = Result Sheet Refusal × List ℕ

  abbrev head_of : Option ℕ → List ℕ
  head_of r = head_text steps dives (is_none r)

  abbrev values_on : Option ℕ → ℕ
  values_on r = cond (is_none r) v 0

  begun_fits : (r : Option ℕ) → judged v ws a ≡ Ok r → length (head_of r) ≤ length out → begun steps dives v ws a out ≡ (Ok (sheet_of (length (head_of r)) (values_on r) 0), laid out 0 (head_of r))
  begun_fits r e h =
      ap (begun_by steps dives v out) e
      ∙ ap (begun_with (values_on r)) (put_fits out 0 (head_of r) (omega arith) ∙ ap (λ n. (Some n, laid out 0 (head_of r))) (zero-add (length (head_of r))))

  judged_by : (q : Result (Option ℕ) Refusal) (s : Sheet) (o : List ℕ) → judged v ws a ≡ q → begun_by steps dives v out q ≡ (Ok s, o) → (r : Option ℕ) × (judged v ws a ≡ Ok r)
  judged_by (Ok r) s o e h = (r, e)
  judged_by (Err f) s o e h = absurd (err≢ok f s (ap (λ (x : Begun). x.0) h))

  room_by : (z : Bool) (n w : ℕ) (l : List ℕ) (s : Sheet) (o : List ℕ) → begun_with n (cond z (Some w, l) (None, out)) ≡ (Ok s, o) → z ≡ true
  room_by true n w l s o h = refl
  room_by false n w l s o h = absurd (err≢ok no_room s (ap (λ (x : Begun). x.0) h))

  begun_room : (r : Option ℕ) (s : Sheet) (o : List ℕ) → judged v ws a ≡ Ok r → begun steps dives v ws a out ≡ (Ok s, o) → length (head_of r) ≤ length out
  begun_room r s o e h =
      let z = room_by (leb (0 + length (head_of r)) (length out)) (values_on r) _ _ s o (sym (ap (begun_by steps dives v out) e) ∙ h) in
      omega (arith, leb-true (0 + length (head_of r)) (length out) z)

  left_tells : (rest : List ℕ) → steps < 2 ^ 64 → dives < 2 ^ 64 → NamesFirstBroken (values_of a) (clauses_of ws) → Tells ws a (sheet_text steps dives (all_hold ws a) a ++ rest)
  left_tells rest hs hd names = subst (Tells ws a) (sym (append_assoc (head_text steps dives (all_hold ws a)) (value_part (all_hold ws a) a) rest)) (head_tells steps dives ws a (value_part (all_hold ws a) a ++ rest) hs hd names)

  series_by : (r : Option ℕ) → r ≡ first_unsatisfied (values_of a) 1 (clauses_of ws) → judged v ws a ≡ Ok r → steps < 2 ^ 64 → dives < 2 ^ 64 → NamesFirstBroken (values_of a) (clauses_of ws) → (bs : List ℕ) (s t : Sheet) (first second last : List ℕ) (n : ℕ) → begun steps dives v ws a out ≡ (Ok s, first) → added_all s bs first ≡ ((t, Ok tt), second) → closed t second ≡ (Ok n, last) → Left steps dives v ws a bs out n last
  series_by r i e hs hd names bs s t first second last n eb ea ec =
      let sat = all_hold ws a in
      let head = head_text steps dives sat in
      let q : judged v ws a ≡ Ok (first_unsatisfied (values_of a) 1 (clauses_of ws)) = e ∙ ap Ok i in
      let acc = accepted v ws a r e in
      let room = begun_room (first_unsatisfied (values_of a) 1 (clauses_of ws)) s first q eb in
      let same = sym eb ∙ begun_fits (first_unsatisfied (values_of a) 1 (clauses_of ws)) q room in
      let sheet = ap (λ (x : Begun). x.0) same in
      let p : s ≡ sheet_of (length head) (cond sat v 0) 0 = cc in
      let g : first ≡ laid out 0 head = ap (λ (x : Begun). x.1) same in
      let all = ap (λ x. added_all x bs (laid out 0 head)) (sym p) ∙ ap (added_all s bs) (sym g) ∙ ea in
      let w = whole_only head bs out (cond sat v 0) t tt second n last room all ec in
      let x = text_is steps dives v sat bs acc.variables.0 w.values in
      let bytes = w.bytes ∙ ap (laid out 0) x in
      record {
        text = bytes;
        number = w.number ∙ ap length x;
        values = w.values;
        tells = subst (Tells ws a) (sym (bytes ∙ append_assoc head (value_part sat bs) (drop (0 + length (sheet_text steps dives sat bs)) out))) (head_tells steps dives ws a (value_part sat bs ++ drop (0 + length (sheet_text steps dives sat bs)) out) hs hd names);
      }

  pub series_leaves_text : steps < 2 ^ 64 → dives < 2 ^ 64 → NamesFirstBroken (values_of a) (clauses_of ws) → SeriesLeavesText steps dives v ws a out
  series_leaves_text hs hd names bs s t first second last n eb ea ec =
      let j = judged_by (judged v ws a) s first refl eb in
      series_by j.0 (accepted v ws a j.0 j.1).named j.1 hs hd names bs s t first second last n eb ea ec

  abbrev text_of : Option ℕ → List ℕ
  text_of r = sheet_text steps dives (is_none r) a

  due_is : (sat : Bool) → length a ≡ v → Bits a → (length (due_of sat a) ≡ cond sat v 0) × Bits (due_of sat a) × (sheet_text steps dives sat (due_of sat a) ≡ sheet_text steps dives sat a)
  due_is true e b = (e, b, refl)
  due_is false e b = (refl, tt, refl)

  head_room : (r : Option ℕ) → length (text_of r) ≤ length out → length (head_of r) ≤ length out
  head_room r h = omega (arith, length-append (head_of r) (value_part (is_none r) a))

  pub printed_short : (r : Option ℕ) → judged v ws a ≡ Ok r → length out < length (text_of r) → (Err no_room, out) ≡ printed steps dives v ws a out
  printed_short r e h = sym (ap (printed_by steps dives a out) e ∙ ap fitted (cond-false _ _ _ (lt-leb (0 + length (text_of r)) (length out) (omega arith))))

  printed_fits : (r : Option ℕ) → judged v ws a ≡ Ok r → length (text_of r) ≤ length out → printed steps dives v ws a out ≡ (Ok (length (text_of r)), laid out 0 (text_of r))
  printed_fits r e h = ap (printed_by steps dives a out) e ∙ ap fitted (put_fits out 0 (text_of r) (omega arith) ∙ ap (λ n. (Some n, laid out 0 (text_of r))) (zero-add (length (text_of r))))

  pub series_prints : (r : Option ℕ) → judged v ws a ≡ Ok r → length (text_of r) ≤ length out → (b : Result Sheet Refusal) (s : Sheet) (first : List ℕ) → (b, first) ≡ begun steps dives v ws a out → b ≡ Ok s → finished (added_all s (due_of (is_none r) a) first) ≡ printed steps dives v ws a out
  series_prints r e h b s first eb es =
      let acc = accepted v ws a r e in
      let d = due_is (is_none r) acc.long acc.bits in
      let same = eb ∙ begun_fits r e (head_room r h) in
      let sheet = sym es ∙ ap (λ (x : Begun). x.0) same in
      let p : s ≡ sheet_of (length (head_of r)) (values_on r) 0 = cc in
      let g : first ≡ laid out 0 (head_of r) = ap (λ (x : Begun). x.1) same in
      let x = text_is steps dives v (is_none r) (due_of (is_none r) a) acc.variables.0 d.0 ∙ d.2 in
      let start : finished (added_all s (due_of (is_none r) a) first) ≡ finished (added_all (sheet_of (length (head_of r)) (values_on r) 0) (due_of (is_none r) a) (laid out 0 (head_of r))) = ap (λ y. finished (added_all y (due_of (is_none r) a) first)) p ∙ ap (λ y. finished (added_all (sheet_of (length (head_of r)) (values_on r) 0) (due_of (is_none r) a) y)) g in
      let end : finished (added_all (sheet_of (length (head_of r)) (values_on r) 0) (due_of (is_none r) a) (laid out 0 (head_of r))) ≡ (Ok (length (text_of r)), laid out 0 (text_of r)) = whole_fits (head_of r) (due_of (is_none r) a) out (values_on r) d.0 d.1 (omega (arith, ap length x)) ∙ ap (λ y. (Ok (length y), laid out 0 y)) x in
      start
      ∙ end
      ∙ sym (printed_fits r e h)

  abbrev Printed : Type 0
  Printed = Result ℕ Refusal × List ℕ

  abbrev Told : Printed → Type 0
  Told x = IfOk x.0 (λ _. Tells ws a x.1)

  told-put : (z : Bool) (n : ℕ) (rest : List ℕ) → Tells ws a (sheet_text steps dives (all_hold ws a) a ++ rest) → Told (fitted (cond z (Some n, sheet_text steps dives (all_hold ws a) a ++ rest) (None, out)))
  told-put true n rest t = t
  told-put false n rest t = tt

  told_by : (q : Result (Option ℕ) Refusal) → judged v ws a ≡ q → steps < 2 ^ 64 → dives < 2 ^ 64 → NamesFirstBroken (values_of a) (clauses_of ws) → Told (printed_by steps dives a out q)
  told_by (Ok r) e hs hd names =
      let rest = drop (0 + length (sheet_text steps dives (all_hold ws a) a)) out in
      let t = told-put (leb (0 + length (sheet_text steps dives (all_hold ws a) a)) (length out)) (0 + length (sheet_text steps dives (all_hold ws a) a)) rest (left_tells rest hs hd names) in
      subst (λ (o : Option ℕ). Told (fitted (put out 0 (sheet_text steps dives (is_none o) a)))) (sym (accepted v ws a r e).named) t
  told_by (Err f) e hs hd names = tt

  pub printed_tells : (r : Result ℕ Refusal) (o : List ℕ) → (r, o) ≡ printed steps dives v ws a out → steps < 2 ^ 64 → dives < 2 ^ 64 → NamesFirstBroken (values_of a) (clauses_of ws) → IfOk r (λ _. Tells ws a o)
  printed_tells r o e hs hd names = subst Told (sym e) (told_by (judged v ws a) refl hs hd names)
