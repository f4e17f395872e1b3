-- A table written out and read back is that table.
use Rattle.std.specs.Prelude.{◌≡◌, ℕ, ◌≤◌, List, length, ℤ, Ok}
use Rattle.cnf.specs.Tables.{clauses_of}
use Rattle.cnf.specs.Scans.{table_checked}
use Rattle.dimacs.specs.declared.read.Problem.{Problem}
use Rattle.dimacs.specs.Reads.{read_answer, text_words}
use Rattle.dimacs.specs.Grammar.{problem}
use Rattle.dimacs.specs.Writes.{table_text}

-- what is written of an accepted table is never too long for the reader, and reads to that table
pub record ReadsBack (v : ℕ) (ws : List ℤ) : Type 0 where
  pub short : (c : ℕ) → table_checked v ws ≡ Ok c → length (table_text v (clauses_of ws)) ≤ 22543
  pub same : (c room : ℕ) → table_checked v ws ≡ Ok c → length ws ≤ room → (read_answer (table_text v (clauses_of ws)) room ≡ Ok (problem v c (length ws))) × (text_words (table_text v (clauses_of ws)) ≡ ws)

-- what was read is a table that the writer accepts, and what it writes of it reads to the same table
pub record WritesBack (bs : List ℕ) (room : ℕ) : Type 0 where
  pub accepted : (p : Problem) → read_answer bs room ≡ Ok p → table_checked p.variables (text_words bs) ≡ Ok p.clauses
  pub same : (p : Problem) → read_answer bs room ≡ Ok p → (read_answer (table_text p.variables (clauses_of (text_words bs))) room ≡ Ok p) × (text_words (table_text p.variables (clauses_of (text_words bs))) ≡ text_words bs)
