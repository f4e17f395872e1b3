-- The text of a table: its problem line, then a line for each clause.
use Rattle.std.specs.Prelude.{ℕ, cond, List, [], ◌∷◌, ◌++◌, length, drop, ℤ, Ok, Err, codes, Result, nat_le}
use Rattle.std.specs.List.{flat_map}
use Rattle.std.specs.Fmt.{signed_decimal}
use Rattle.cnf.specs.declared.refusal.Check.TheVariants.{BytesRoom}
use Rattle.cnf.specs.declared.refusal.Refusal.{Refusal}
use Rattle.cnf.specs.Refusals.{refused}
use Rattle.cnf.specs.Tables.{is_zero, clauses_of}
use Rattle.cnf.specs.Scans.{and_then, table_checked}
use Rattle.lay.specs.Lines.{line_text}

-- the literals, each with a space behind it, then `0` and a line end
abbrev pub clause_line : List ℤ → List ℕ
clause_line [] = 48 ∷ 10 ∷ []
clause_line (w ∷ ws) = signed_decimal w ++ (32 ∷ clause_line ws)

abbrev pub head_line : ℕ → ℕ → List ℕ
head_line v c = line_text (codes "p cnf ") v (codes " ") c (10 ∷ [])

abbrev pub table_text : ℕ → List (List ℤ) → List ℕ
table_text v cs = head_line v (length cs) ++ flat_map clause_line cs

-- the number of bytes written, where n are lent, or the refusal
abbrev pub written : ℕ → List ℤ → ℕ → Result ℕ Refusal
written v ws n = and_then (table_checked v ws) (λ _. cond (nat_le (length (table_text v (clauses_of ws))) n) (Ok (length (table_text v (clauses_of ws)))) (Err (refused BytesRoom 0)))

-- the lent bytes with the text at their front, unless the table was refused
abbrev pub bytes_after : Result ℕ Refusal → List ℕ → List ℕ → List ℕ
bytes_after (Ok n) text old = text ++ drop (length text) old
bytes_after (Err f) text old = old

-- one word with the byte behind it: a line end after a 0, else a space
abbrev pub piece : ℤ → List ℕ
piece w = signed_decimal w ++ (cond (is_zero w) 10 32 ∷ [])

abbrev pub words_text : List ℤ → List ℕ
words_text ws = flat_map piece ws
