-- A flip goes over the clauses that name its variable.
use Rattle.std.proofs.Common.{◌≡◌, ℕ, zero, suc, ◌+◌, ◌-◌, ◌<◌, ◌≤◌, false, List, [], ◌∷◌, subst, arith}
use Rattle.formula.specs.declared.formula.Formula.{Formula}
use Rattle.formula.specs.Entries.{named_in}
use Rattle.formula.specs.Formulas.{clause_count, entries_of}
use Rattle.table.specs.declared.table.Table.{Table}
use Rattle.table.specs.Sound.{Sound, Midway, Revised, Since}
use Rattle.formula.specs.Occurrences.{passing, names_at}
use Rattle.formula.proofs.Lists.{Lists, lists_passing}
use Rattle.table.proofs.Step.{step_off, revised_off}
use Rattle.table.proofs.Whole.{since_more, since_start, midway_start}

abbrev pub Both : Formula → ℕ → Table → Table → ℕ → Type 0
Both f x t u i = Midway f u x i × Since f x i t u

skip : (f : Formula) (x : ℕ) (t u : Table) (i d : ℕ) → i + d ≤ clause_count f → ((j : ℕ) → i ≤ j → j < i + d → named_in (entries_of f j) x ≡ false) → Both f x t u i → Both f x t u (i + d)
skip f x t u i zero l h b = let e : i ≡ i + 0 = omega arith in subst (Both f x t u) e b
skip f x t u i (suc d) l h b =
    let r = skip f x t u i d (omega arith) (λ j p q. h j p (omega arith)) b in
    let n = h (i + d) (omega arith) (omega arith) in
    let m : i + d < clause_count f = omega arith in
    let e : i + d + 1 ≡ i + suc d = omega arith in
    subst (Both f x t u) e (
      step_off f u x (i + d) m r.0 n,
      since_more f x (i + d) t u u r.1 (revised_off f u x (i + d) m r.0 n),
    )

-- clauses that do not name x are passed over
skip_to : (f : Formula) (x : ℕ) (t u : Table) (i j : ℕ) → i ≤ j → j ≤ clause_count f → ((k : ℕ) → i ≤ k → k < j → named_in (entries_of f k) x ≡ false) → Both f x t u i → Both f x t u j
skip_to f x t u i j p q h b =
    let e : i + (j - i) ≡ j = omega arith in
    subst (Both f x t u) e (skip f x t u i (j - i) (omega arith) (λ k m n. h k m (omega arith)) b)

-- the clauses before some number are revised, and xs are those that are left
abbrev pub Left : Formula → ℕ → List ℕ → Table → Table → Type 0
Left f x xs t u = (i : ℕ) × (Both f x t u i × Lists (names_at f x) i xs (clause_count f))

-- the clause in front of those that are left comes next
pub left-next : (f : Formula) (x k : ℕ) (xs : List ℕ) (t u : Table) → Left f x (k ∷ xs) t u → (k < clause_count f) × Both f x t u k × Lists (names_at f x) (k + 1) xs (clause_count f)
left-next f x k xs t u h =
    let ls = h.1.1 in
    (ls.0.1, skip_to f x t u h.0 k ls.0.0 (omega (arith, ls.0.1)) ls.1 h.1.0, ls.2)

pub left_more : (f : Formula) (x k : ℕ) (xs : List ℕ) (t u w : Table) → Left f x (k ∷ xs) t u → Midway f w x (k + 1) → Revised (entries_of f k) x u w → Left f x xs t w
left_more f x k xs t u w h m r =
    let n = left-next f x k xs t u h in
    (k + 1, ((m, since_more f x k t u w n.1.1 r), n.2))

pub left_none : (f : Formula) (x : ℕ) (t u : Table) → Left f x [] t u → Both f x t u (clause_count f)
left_none f x t u h = skip_to f x t u h.0 (clause_count f) h.1.1.0 (omega arith) h.1.1.1 h.1.0

pub left_start : (f : Formula) (x : ℕ) (t : Table) → Sound f t → Left f x (passing (names_at f x) (clause_count f)) t t
left_start f x t s = (0, ((midway_start f t x s, since_start f t x), lists_passing (names_at f x) (clause_count f)))
