-- A table is judged word by word, and the first check that gives a no decides.
use Rattle.std.specs.Prelude.{ℕ, ◌+◌, Bool, true, false, cond, ◌&&◌, List, [], ◌∷◌, length, ℤ, Ok, Err, Option, Result, ◌==◌, nat_le, nat_lt, unsigned_abs}
use Rattle.cnf.specs.declared.refusal.Check.{Check}
use Rattle.cnf.specs.declared.refusal.Check.TheVariants.{Limits, ClauseCount, VariableRange, EmptyClause, LiteralCount, StartValues}
use Rattle.cnf.specs.declared.refusal.Refusal.{Refusal}
use Rattle.cnf.specs.declared.tally.Tally.{Tally}
use Rattle.cnf.specs.Refusals.{refused}
use Rattle.cnf.specs.Tables.{is_zero, clauses_of, values_of, first_unsatisfied}

-- the first refusal of two, or the second result
abbrev pub and_then : {A B E : Type 0} → Result A E → (A → Result B E) → Result B E
and_then (Ok x) f = f x
and_then (Err e) f = Err e

-- a check that gave a no, at its place
abbrev pub placed : {A : Type 0} → Result A Check → ℕ → Result A Refusal
placed (Ok x) p = Ok x
placed (Err c) p = Err (refused c p)

abbrev pub no_words : Tally
no_words = record { ended = 0; literals = 0; begun = false }

-- the tally with one literal more, and with one clause more ended
abbrev pub with_literal : Tally → Tally
with_literal t = record { ended = t.ended; literals = t.literals + 1; begun = true }

abbrev pub with_end : Tally → Tally
with_end t = record { ended = t.ended + 1; literals = t.literals; begun = false }

-- the tally after a 0 that ends a clause, or the check that it fails
abbrev pub tallied_end : Tally → Result Tally Check
tallied_end t = cond t.begun (cond (nat_le 1024 t.ended) (Err Limits) (Ok (with_end t))) (Err EmptyClause)

-- the tally after a literal of a table over v variables, or the check that it fails
abbrev pub tallied_literal : ℕ → Tally → ℤ → Result Tally Check
tallied_literal v t w = cond (nat_lt v (unsigned_abs w)) (Err VariableRange) (cond (nat_le 4096 t.literals) (Err LiteralCount) (Ok (with_literal t)))

abbrev pub tallied : ℕ → Tally → ℤ → Result Tally Check
tallied v t w = cond (is_zero w) (tallied_end t) (tallied_literal v t w)

-- the tally after the words, the first of them at the place i
abbrev pub tallied_from : ℕ → Tally → ℕ → List ℤ → Result Tally Refusal
tallied_from v t i [] = Ok t
tallied_from v t i (w ∷ ws) = and_then (placed (tallied v t w) i) (λ u. tallied_from v u (i + 1) ws)

-- the number of clauses of a table whose n words have this tally
abbrev pub closed : ℕ → Tally → Result ℕ Refusal
closed n t = cond t.begun (Err (refused ClauseCount n)) (cond (t.ended == 0) (Err (refused Limits 0)) (Ok t.ended))

abbrev pub within : ℕ → ℕ → ℕ → Bool
within a b x = nat_le a x && nat_le x b

-- the number of clauses, or the first check of a table that gives a no
abbrev pub table_checked : ℕ → List ℤ → Result ℕ Refusal
table_checked v ws = cond (within 1 256 v) (and_then (tallied_from v no_words 0 ws) (closed (length ws))) (Err (refused Limits 0))

-- the first byte that is neither 0 nor 1, the first of them at the place i
abbrev pub bytes_from : ℕ → List ℕ → Result Unit Refusal
bytes_from i [] = Ok tt
bytes_from i (b ∷ bs) = cond (nat_le b 1) (bytes_from (i + 1) bs) (Err (refused StartValues i))

-- a start has a byte for each of v variables, and each is 0 or 1
abbrev pub start_checked : ℕ → List ℕ → Result Unit Refusal
start_checked v bs = cond (length bs == v) (bytes_from 0 bs) (Err (refused StartValues (length bs)))

-- the first clause that the start leaves unsatisfied, or none
abbrev pub judged : ℕ → List ℤ → List ℕ → Result (Option ℕ) Refusal
judged v ws bs = and_then (table_checked v ws) (λ _. and_then (start_checked v bs) (λ _. Ok (first_unsatisfied (values_of bs) 1 (clauses_of ws))))
