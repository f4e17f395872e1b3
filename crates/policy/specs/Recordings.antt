-- The recorded source.
use Rattle.std.specs.Prelude.{◌≡◌, ℕ, ◌+◌, ◌≤◌, Bool, cond, length, take, nat_lt, slice_index}
use Rattle.std.proofs.Common.{ap, ltb-false}
use Rattle.std.proofs.lemmas.List.{get_or_past}
use Rattle.policy.specs.declared.recorded.Recorded.{Recorded}
use Rattle.policy.specs.Sources.{Meaning, LawfulSource, drawn}

-- Whether words remain.
abbrev pub remains : Recorded → Bool
remains s = nat_lt s.at (length s.words.now)

-- A word further, if one remains.
abbrev pub moved : Recorded → Bool → Recorded
moved s b = record { words = s.words; at = cond b (s.at + 1) s.at }

-- The words in order.
abbrev pub recorded : Meaning Recorded
recorded = record { ready = remains; number = λ s. slice_index s.words.now s.at; after = λ s. moved s (remains s) }

pub recorded_lawful : LawfulSource recorded
recorded_lawful = record {
  number_dry = λ s e. get_or_past s.words.now s.at 0 (ltb-false _ _ e);
  after_dry = λ s e. ap (moved s) e;
}

-- A source that has given nothing: its first n numbers, up to all words, are the first n words.
abbrev pub WordsInOrder : Type 0
WordsInOrder = (s : Recorded) (n : ℕ) → s.at ≡ 0 → n ≤ length s.words.now → drawn recorded n s ≡ take n s.words.now
