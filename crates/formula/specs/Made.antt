-- When spans and entries are the clauses of a formula.
use Rattle.std.specs.Prelude.{ℕ, ◌<◌, ◌≤◌, true, false, ◌||◌, List, [], ◌∷◌, length}
use Rattle.std.specs.Coded.{Coded-set, coded_bool, ×_prop, Π_prop, Unit-prop, le_prop}
use Rattle.formula.specs.declared.entry.Entry.{Entry}
use Rattle.formula.specs.declared.span.Span.{Span}
use Rattle.formula.specs.Clauses.{sum_to}
use Rattle.formula.specs.Entries.{named_in, Distinct, Signed}
use Rattle.formula.specs.Spans.{part_of, span_in, Inside}

-- the entries of the clause i
abbrev pub entries_in : List Span → List Entry → ℕ → List Entry
entries_in ss es i = part_of (span_in ss i) es

-- the spans mark clauses over v variables
pub record Made (v : ℕ) (ss : List Span) (es : List Entry) : Type 0 where
  pub few_variables : v ≤ 256
  pub few_clauses : length ss ≤ 1024
  pub few_entries : length es ≤ 4096
  pub all_entries : sum_to (length ss) (λ i. length (entries_in ss es i)) ≤ length es
  pub inside : Inside ss (length es)
  pub signed : (i : ℕ) → i < length ss → Signed v (entries_in ss es i)
  pub distinct : (i : ℕ) → i < length ss → Distinct (entries_in ss es i)

-- this is a fact: it can hold in one way only
signed_prop : (v : ℕ) (es : List Entry) → IsProp (Signed v es)
signed_prop v [] = Unit-prop
signed_prop v (e ∷ es) = ×_prop (×_prop le_prop (Coded-set coded_bool (e.plain || e.negated) true)) (signed_prop v es)

distinct_prop : (es : List Entry) → IsProp (Distinct es)
distinct_prop [] = Unit-prop
distinct_prop (e ∷ es) = ×_prop (Coded-set coded_bool (named_in es e.variable) false) (distinct_prop es)

pub made_prop : (v : ℕ) (ss : List Span) (es : List Entry) → IsProp (Made v ss es)
made_prop v ss es p q =
    λ i.
    record {
      few_variables = le_prop p.few_variables q.few_variables i;
      few_clauses = le_prop p.few_clauses q.few_clauses i;
      few_entries = le_prop p.few_entries q.few_entries i;
      all_entries = le_prop p.all_entries q.all_entries i;
      inside = Π_prop (λ k. Π_prop (λ (_ : k < length ss). ×_prop le_prop le_prop)) p.inside q.inside i;
      signed = Π_prop (λ k. Π_prop (λ (_ : k < length ss). signed_prop v (entries_in ss es k))) p.signed q.signed i;
      distinct = Π_prop (λ k. Π_prop (λ (_ : k < length ss). distinct_prop (entries_in ss es k))) p.distinct q.distinct i;
    }
