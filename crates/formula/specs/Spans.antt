-- Parts of a list, each marked by a span.
use Rattle.std.specs.Prelude.{ℕ, ◌-◌, ◌<◌, ◌≤◌, List, length, take, drop, slice_index_or}
use Rattle.formula.specs.declared.span.Span.{Span}

abbrev pub span0 : Span
span0 = record { start = 0; end = 0 }

-- the part of a list that a span marks
abbrev pub part_of : {A : Type 0} → Span → List A → List A
part_of s xs = take (s.end - s.start) (drop s.start xs)

abbrev pub span_in : List Span → ℕ → Span
span_in ss i = slice_index_or ss i span0

-- every span marks a part of a list of the length n
abbrev pub Inside : List Span → ℕ → Type 0
Inside ss n = (i : ℕ) → i < length ss → ((span_in ss i).start ≤ (span_in ss i).end) × ((span_in ss i).end ≤ n)
