-- The fault that the reader gives is the first in reading order.
use Rattle.std.proofs.Common.{◌≡◌, ℕ, ◌+◌, Bool, true, false, cond, leb, List, [], ◌∷◌, length, Ok, Err, Result, sym, refl, ap, ◌∙◌, subst}
use Rattle.std.proofs.lemmas.Bool.{leb-false}
use Rattle.cnf.specs.declared.tally.Tally.{Tally}
use Rattle.cnf.specs.declared.refusal.Check.TheVariants.{WordsRoom}
use Rattle.cnf.specs.Refusals.{refused}
use Rattle.cnf.specs.Scans.{and_then, no_words}
use Rattle.words.specs.declared.faults.ClauseFault.{ClauseFault}
use Rattle.words.specs.declared.faults.HeadFault.{HeadFault}
use Rattle.words.specs.declared.faults.HeadFault.TheVariants as head
use Rattle.words.specs.Words.{Token}
use Rattle.dimacs.specs.declared.head.Head.{Head}
use Rattle.dimacs.specs.declared.read.Problem.{Problem}
use Rattle.dimacs.specs.Heads.{head_read}
use Rattle.dimacs.specs.Reads.{token_taken, clauses_from, as_head, body_tokens, body_tally, found}
use Rattle.dimacs.specs.FirstFaults.{nothing, after_it, FirstFault, Refused, in_head, in_clauses, no_room, RefusesTheFirst}
use Rattle.dimacs.proofs.Accepted.{ok≢err}

first_by : (v c n : ℕ) (t : Tally) (k : Token) (ks : List Token) (f : ClauseFault) → ((u : Tally) → clauses_from v c n u ks ≡ Err f → FirstFault v c n u ks f) → (r : Result Tally ClauseFault) → token_taken v c t k ≡ r → and_then r (λ u. clauses_from v c n u ks) ≡ Err f → FirstFault v c n t (k ∷ ks) f
first_by v c n t k ks f later (Err g) q e = record { before = []; rest = k ∷ ks; split = refl; tally = t; faultless = nothing; fault = q ∙ e }
first_by v c n t k ks f later (Ok u) q e =
    let w = later u e in
    record { before = k ∷ w.before; rest = w.rest; split = ap (λ l. k ∷ l) w.split; tally = w.tally; faultless = after_it k q w.faultless; fault = w.fault }

first : (v c n : ℕ) (t : Tally) (ks : List Token) (f : ClauseFault) → clauses_from v c n t ks ≡ Err f → FirstFault v c n t ks f
first v c n t [] f e = record { before = []; rest = []; split = refl; tally = t; faultless = nothing; fault = e }
first v c n t (k ∷ ks) f e = first_by v c n t k ks f (λ u. first v c n u ks f) (token_taken v c t k) refl e

abbrev fault_or : {A : Type 0} → HeadFault → Result A HeadFault → HeadFault
fault_or d (Ok x) = d
fault_or d (Err f) = f

module _ (bs : List ℕ) (room : ℕ) (f : HeadFault) where
  by_room : (h : Head) (t : Tally) → head_read bs ≡ Ok h → body_tally bs h ≡ Ok t → (b : Bool) (p : Problem) → leb (t.literals + t.ended) room ≡ b → cond b (Ok p) (Err (head.Head (refused WordsRoom 0))) ≡ Err f → Refused bs room f
  by_room h t q w true p l e = absurd (ok≢err p f (sym e))
  by_room h t q w false p l e = subst (Refused bs room) (ap (fault_or {A = Problem} f) e) (no_room h t q w (leb-false (t.literals + t.ended) room l))

  by_body : (h : Head) → head_read bs ≡ Ok h → (r : Result Tally ClauseFault) → clauses_from h.variables h.clauses (length bs) no_words (body_tokens bs h) ≡ r → and_then (as_head r) (found room h) ≡ Err f → Refused bs room f
  by_body h q (Err g) w e = subst (Refused bs room) (ap (fault_or {A = Problem} f) e) (in_clauses h g q (first h.variables h.clauses (length bs) no_words (body_tokens bs h) g w))
  by_body h q (Ok t) w e = by_room h t q (ap as_head w) (leb (t.literals + t.ended) room) (record { variables = h.variables; clauses = h.clauses; words = t.literals + t.ended }) refl e

  by_head : (r : Result Head HeadFault) → head_read bs ≡ r → and_then r (λ h. and_then (body_tally bs h) (found room h)) ≡ Err f → Refused bs room f
  by_head (Err g) q e = in_head (q ∙ ap (λ x. Err (fault_or {A = Problem} f x)) e)
  by_head (Ok h) q e = by_body h q (clauses_from h.variables h.clauses (length bs) no_words (body_tokens bs h)) refl e

pub refuses_the_first : (bs : List ℕ) (room : ℕ) → RefusesTheFirst bs room
refuses_the_first bs room f e = by_head bs room f (head_read bs) refl e
