-- A sheet begun, values added and a closing leave the text of the sheet.
use Rattle.std.proofs.Common.{◌≡◌, ℕ, ◌+◌, ◌<◌, ◌≤◌, Bool, true, false, cond, eqb, ltb, leb, List, [], ◌∷◌, ◌++◌, length, Some, None, Ok, Err, decimal, Result, sym, refl, ap, ◌∙◌, append_assoc, append-nil, add-zero, zero-add, arith, length-append}
use Rattle.std.proofs.lemmas.Bool.{cond-true, cond-false, leb-true, leb-false, ltb-false, le-leb, lt-leb, le-ltb, ne_eqb}
use Rattle.cnf.specs.declared.refusal.Refusal.{Refusal}
use Rattle.lay.proofs.Laying.{laid-laid, length-laid}
use Rattle.lay.specs.Laid.{laid, put}
use Rattle.sheet.specs.declared.sheet.Sheet.{Sheet}
use Rattle.sheet.specs.Sheets.{sheet_of, added, added_with, onward, added_all, closed, closed_with}
use Rattle.sheet.specs.Texts.{lead_of, value_text, values_from, ending, value_line}
use Rattle.sheet.proofs.Judgements.{Bits, err≢ok}

pub put_fits : (out : List ℕ) (at : ℕ) (bs : List ℕ) → at + length bs ≤ length out → put out at bs ≡ (Some (at + length bs), laid out at bs)
put_fits out at bs h = cond-true _ _ _ (le-leb _ _ h)

-- bytes put behind a text at the front
put-onto : (out text more : List ℕ) → length (text ++ more) ≤ length out → put (laid out 0 text) (length text) more ≡ (Some (length (text ++ more)), laid out 0 (text ++ more))
put-onto out text more h =
    let l = length-append text more in
    let k : length (laid out 0 text) ≡ length out = length-laid out text 0 (omega arith) in
    put_fits (laid out 0 text) (length text) more (omega arith)
    ∙ ap (λ n. (Some n, laid (laid out 0 text) (length text) more)) (sym l)
    ∙ ap (λ o. (Some (length (text ++ more)), o)) (ap (λ n. laid (laid out 0 text) n more) (sym (zero-add (length text))) ∙ laid-laid out text more 0 (omega arith))

-- what the addition of the value b writes where k values are added already
abbrev pub add_text : ℕ → ℕ → List ℕ
add_text k b = lead_of (eqb k 0) b ++ decimal (k + 1)

abbrev pub add_texts : ℕ → List ℕ → List ℕ
add_texts k [] = []
add_texts k (b ∷ bs) = add_text k b ++ add_texts (k + 1) bs

-- a sheet and its bytes, with this text at their front
abbrev Stand : Type 0
Stand = (Sheet × Result Unit Refusal) × List ℕ

abbrev stand : List ℕ → List ℕ → ℕ → ℕ → Stand
stand out text n k = ((sheet_of (length text) n k, Ok tt), laid out 0 text)

add_fits : (out text : List ℕ) (n k b : ℕ) → k < n → b ≤ 1 → length (text ++ add_text k b) ≤ length out → added (sheet_of (length text) n k) b (laid out 0 text) ≡ stand out (text ++ add_text k b) n (k + 1)
add_fits out text n k b hk hb h = cond-false _ _ _ (lt-leb n k hk) ∙ cond-false _ _ _ (le-ltb 1 b hb) ∙ ap (added_with (sheet_of (length text) n k)) (put-onto out text (add_text k b) h)

refused≢taken : (s t : Sheet) (e : Refusal) (u : Unit) (o p : List ℕ) → ◌≡◌ {A = Stand} ((s, Err e), o) ((t, Ok u), p) → ⊥
refused≢taken s t e u o p h = err≢ok e u (ap (λ (x : Stand). x.0.1) h)

taken_by : (x y z : Bool) (s t : Sheet) (e f : Refusal) (u : Unit) (w : ℕ) (o l p : List ℕ) → cond x ((s, Err e), o) (cond y ((s, Err f), o) (added_with s (cond z (Some w, l) (None, o)))) ≡ ((t, Ok u), p) → (x ≡ false) × (y ≡ false) × (z ≡ true)
taken_by true y z s t e f u w o l p h = absurd (refused≢taken s t e u o p h)
taken_by false true z s t e f u w o l p h = absurd (refused≢taken s t f u o p h)
taken_by false false false s t e f u w o l p h = absurd (refused≢taken s t _ u o p h)
taken_by false false true s t e f u w o l p h = (refl, refl, refl)

add_only : (s t : Sheet) (b : ℕ) (u : Unit) (o p : List ℕ) → added s b o ≡ ((t, Ok u), p) → (s.added < s.values) × (b ≤ 1) × (s.written + length (add_text s.added b) ≤ length o)
add_only s t b u o p h =
    let k = taken_by (leb s.values s.added) (ltb 1 b) (leb (s.written + length (add_text s.added b)) (length o)) s t _ _ u _ o _ p h in
    (leb-false _ _ k.0, ltb-false _ _ k.1, leb-true _ _ k.2)

-- all values are added where they are due and fit
pub all_fit : (bs out text : List ℕ) (n k : ℕ) → k + length bs ≤ n → Bits bs → length (text ++ add_texts k bs) ≤ length out → added_all (sheet_of (length text) n k) bs (laid out 0 text) ≡ stand out (text ++ add_texts k bs) n (k + length bs)
all_fit [] out text n k hk hb h = ap (λ x. stand out x n k) (sym (append-nil text)) ∙ ap (λ j. stand out (text ++ []) n j) (sym (add-zero k))
all_fit (b ∷ bs) out text n k hk hb h =
    let join : (text ++ add_text k b) ++ add_texts (k + 1) bs ≡ text ++ (add_text k b ++ add_texts (k + 1) bs) = append_assoc text (add_text k b) (add_texts (k + 1) bs) in
    let long = ap length join in
    let parts = length-append (text ++ add_text k b) (add_texts (k + 1) bs) in
    ap (λ r. onward r (λ t o. added_all t bs o)) (add_fits out text n k b (omega arith) hb.0 (omega arith))
    ∙ all_fit bs out (text ++ add_text k b) n (k + 1) (omega arith) hb.1 (omega arith)
    ∙ ap (λ x. stand out x n (k + 1 + length bs)) join
    ∙ ap (λ j. stand out (text ++ (add_text k b ++ add_texts (k + 1) bs)) n j) (omega arith)

first_taken : (r : Stand) (f : Sheet → List ℕ → Stand) (t : Sheet) (u : Unit) (p : List ℕ) → onward r f ≡ ((t, Ok u), p) → (s : Sheet) × (w : Unit) × (o : List ℕ) × (r ≡ ((s, Ok w), o))
first_taken ((s, Ok w), o) f t u p h = (s, w, o, refl)
first_taken ((s, Err e), o) f t u p h = absurd (refused≢taken s t e u o p h)

pub record Fit (out text : List ℕ) (n k : ℕ) (bs : List ℕ) : Type 0 where
  pub due : k + length bs ≤ n
  pub bits : Bits bs
  pub room : length (text ++ add_texts k bs) ≤ length out

-- and only there
pub all_only : (bs out text : List ℕ) (n k : ℕ) (t : Sheet) (u : Unit) (p : List ℕ) → k ≤ n → length text ≤ length out → added_all (sheet_of (length text) n k) bs (laid out 0 text) ≡ ((t, Ok u), p) → Fit out text n k bs
all_only [] out text n k t u p hk h e = record { due = omega arith; bits = tt; room = omega (arith, ap length (append-nil text)) }
all_only (b ∷ bs) out text n k t u p hk h e =
    let f = first_taken (added (sheet_of (length text) n k) b (laid out 0 text)) (λ s o. added_all s bs o) t u p e in
    let a = add_only (sheet_of (length text) n k) f.0 b f.1 (laid out 0 text) f.2 f.3 in
    let same : length (laid out 0 text) ≡ length out = length-laid out text 0 (omega arith) in
    let room : length (text ++ add_text k b) ≤ length out = omega (arith, length-append text (add_text k b), a.2) in
    let next = add_fits out text n k b a.0 a.1 room in
    let rest = all_only bs out (text ++ add_text k b) n (k + 1) t u p (omega (arith, a.0)) room (sym (ap (λ r. onward r (λ s o. added_all s bs o)) next) ∙ e) in
    let join = ap length (append_assoc text (add_text k b) (add_texts (k + 1) bs)) in
    record { due = omega (arith, rest.due); bits = (a.1, rest.bits); room = omega (arith, rest.room) }

-- what a closing writes
abbrev pub tail_of : ℕ → List ℕ
tail_of n = cond (eqb n 0) [] ending

pub close_fits : (out text : List ℕ) (n k : ℕ) → n ≤ k → length (text ++ tail_of n) ≤ length out → closed (sheet_of (length text) n k) (laid out 0 text) ≡ (Ok (length (text ++ tail_of n)), laid out 0 (text ++ tail_of n))
close_fits out text n k hk h = cond-false _ _ _ (le-ltb k n hk) ∙ ap (closed_with (sheet_of (length text) n k)) (put-onto out text (tail_of n) h)

abbrev Close : Type 0
Close = Result ℕ (Sheet × Refusal) × List ℕ

closed_by : (x z : Bool) (s : Sheet) (e : Refusal) (w m : ℕ) (o l p : List ℕ) → ◌≡◌ {A = Close} (cond x (Err (s, e), o) (closed_with s (cond z (Some w, l) (None, o)))) (Ok m, p) → (x ≡ false) × (z ≡ true)
closed_by true z s e w m o l p h = absurd (err≢ok (s, e) m (ap (λ (c : Close). c.0) h))
closed_by false false s e w m o l p h = absurd (err≢ok _ m (ap (λ (c : Close). c.0) h))
closed_by false true s e w m o l p h = (refl, refl)

pub close_only : (s : Sheet) (m : ℕ) (o p : List ℕ) → closed s o ≡ (Ok m, p) → (s.values ≤ s.added) × (s.written + length (tail_of s.values) ≤ length o)
close_only s m o p h =
    let k = closed_by (ltb s.added s.values) (leb (s.written + length (tail_of s.values)) (length o)) s _ _ m o _ p h in
    (ltb-false _ _ k.0, leb-true _ _ k.1)

-- the values after the first, with their spaces
later_values : (k : ℕ) (bs : List ℕ) → 0 < k → add_texts k bs ≡ values_from (k + 1) bs
later_values k [] h = refl
later_values k (b ∷ bs) h =
    ap (λ f. (lead_of f b ++ decimal (k + 1)) ++ add_texts (k + 1) bs) (ne_eqb k 0 (λ e. omega arith)) ∙ ap (λ x. value_text (k + 1) b ++ x) (later_values (k + 1) bs (omega arith))

-- the texts of all additions and of the closing are the line of the values
pub line_of_values : (bs : List ℕ) (n : ℕ) → 0 < n → length bs ≡ n → add_texts 0 bs ++ tail_of n ≡ value_line bs
line_of_values [] n h e = absurd (omega arith)
line_of_values (b ∷ bs) n h e = ap (λ f. add_texts 0 (b ∷ bs) ++ cond f [] ending) (ne_eqb n 0 (λ z. omega arith)) ∙ ap (λ x. (add_text 0 b ++ x) ++ ending) (later_values 1 bs (omega arith))
