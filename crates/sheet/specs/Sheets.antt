-- What a call makes of a sheet and of the bytes that are lent to it. A refusal leaves both as they were.
use Rattle.std.specs.Prelude.{ℕ, ◌+◌, Bool, true, false, cond, List, [], ◌∷◌, ◌++◌, ℤ, Some, None, Ok, Err, decimal, Option, Result, ◌==◌, nat_le, nat_lt}
use Rattle.cnf.specs.declared.refusal.Check.TheVariants.{StartValues, BytesRoom, ValueDue}
use Rattle.cnf.specs.declared.refusal.Refusal.{Refusal}
use Rattle.cnf.specs.Refusals.{refused}
use Rattle.cnf.specs.Scans.{judged}
use Rattle.lay.specs.Laid.{put}
use Rattle.sheet.specs.declared.sheet.Sheet.{Sheet}
use Rattle.sheet.specs.Texts.{head_text, lead_of, ending, sheet_text}

abbrev pub no_room : Refusal
no_room = refused BytesRoom 0

-- a sheet with so many bytes written, values in all, and values added
abbrev pub sheet_of : ℕ → ℕ → ℕ → Sheet
sheet_of w n k = record { written = w; values = n; added = k; spent = false }

abbrev pub is_none : {A : Type 0} → Option A → Bool
is_none None = true
is_none (Some x) = false

-- the sheet begun with the head that was put, with so many values to come
abbrev pub begun_with : ℕ → (Option ℕ × List ℕ) → (Result Sheet Refusal × List ℕ)
begun_with n (Some w, out) = (Ok (sheet_of w n 0), out)
begun_with n (None, out) = (Err no_room, out)

-- the same where the check of the assignment gave r
abbrev pub begun_by : ℕ → ℕ → ℕ → List ℕ → Result (Option ℕ) Refusal → (Result Sheet Refusal × List ℕ)
begun_by steps dives v out (Err e) = (Err e, out)
begun_by steps dives v out (Ok o) = begun_with (cond (is_none o) v 0) (put out 0 (head_text steps dives (is_none o)))

abbrev pub begun : ℕ → ℕ → ℕ → List ℤ → List ℕ → List ℕ → (Result Sheet Refusal × List ℕ)
begun steps dives v ws a out = begun_by steps dives v out (judged v ws a)

abbrev pub added_with : Sheet → (Option ℕ × List ℕ) → ((Sheet × Result Unit Refusal) × List ℕ)
added_with s (Some w, out) = ((record { written = w; values = s.values; added = s.added + 1; spent = s.spent }, Ok tt), out)
added_with s (None, out) = ((s, Err no_room), out)

abbrev pub added : Sheet → ℕ → List ℕ → ((Sheet × Result Unit Refusal) × List ℕ)
added s b out =
    cond (nat_le s.values s.added) ((s, Err (refused ValueDue 0)), out)
    (cond (nat_lt 1 b) ((s, Err (refused StartValues 0)), out)
    (added_with s (put out s.written (lead_of (s.added == 0) b ++ decimal (s.added + 1)))))

abbrev pub closed_with : Sheet → (Option ℕ × List ℕ) → (Result ℕ (Sheet × Refusal) × List ℕ)
closed_with s (Some w, out) = (Ok w, out)
closed_with s (None, out) = (Err (s, no_room), out)

abbrev pub closed : Sheet → List ℕ → (Result ℕ (Sheet × Refusal) × List ℕ)
closed s out = cond (nat_lt s.added s.values) (Err (s, refused ValueDue 0), out) (closed_with s (put out s.written (cond (s.values == 0) [] ending)))

-- values added one after another, up to the first that is refused
abbrev pub onward : ((Sheet × Result Unit Refusal) × List ℕ) → (Sheet → List ℕ → ((Sheet × Result Unit Refusal) × List ℕ)) → ((Sheet × Result Unit Refusal) × List ℕ)
onward ((s, Ok u), out) f = f s out
onward ((s, Err e), out) f = ((s, Err e), out)

abbrev pub added_all : Sheet → List ℕ → List ℕ → ((Sheet × Result Unit Refusal) × List ℕ)
added_all s [] out = ((s, Ok tt), out)
added_all s (b ∷ bs) out = onward (added s b out) (λ t o. added_all t bs o)

-- the values that a sheet takes
abbrev pub due_of : Bool → List ℕ → List ℕ
due_of true a = a
due_of false a = []

-- the number of bytes that were put, or the refusal that they do not fit
abbrev pub fitted : (Option ℕ × List ℕ) → (Result ℕ Refusal × List ℕ)
fitted (Some n, out) = (Ok n, out)
fitted (None, out) = (Err no_room, out)

-- the whole sheet where the check of the assignment gave r
abbrev pub printed_by : ℕ → ℕ → List ℕ → List ℕ → Result (Option ℕ) Refusal → (Result ℕ Refusal × List ℕ)
printed_by steps dives a out (Err e) = (Err e, out)
printed_by steps dives a out (Ok o) = fitted (put out 0 (sheet_text steps dives (is_none o) a))

abbrev pub printed : ℕ → ℕ → ℕ → List ℤ → List ℕ → List ℕ → (Result ℕ Refusal × List ℕ)
printed steps dives v ws a out = printed_by steps dives a out (judged v ws a)

-- the outcome of a closing, or of additions and a closing, where the sheet is torn at a refusal
abbrev pub ended : (Result ℕ (Sheet × Refusal) × List ℕ) → (Result ℕ Refusal × List ℕ)
ended (Ok n, out) = (Ok n, out)
ended (Err (s, e), out) = (Err e, out)

abbrev pub finished : ((Sheet × Result Unit Refusal) × List ℕ) → (Result ℕ Refusal × List ℕ)
finished ((s, Ok u), out) = ended (closed s out)
finished ((s, Err e), out) = (Err e, out)
