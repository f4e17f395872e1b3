-- One candidate more.
use Rattle.std.proofs.Common.{◌≡◌, ℕ, zero, suc, ◌<◌, Bool, true, false, cond, List, [], ◌∷◌, ◌++◌, Some, None, fold, Option, refl, ap, subst, append-nil}
use Rattle.std.specs.List.{AllByRecursion}
use Rattle.std.proofs.ByRecursion.{All-append}
use Rattle.std.proofs.lemmas.Bool.{cond_both, ltb-true}
use Rattle.std.proofs.lemmas.List.Sums.{fold_push}
use Rattle.formula.specs.Occurrences.{passing}
use Rattle.policy.specs.Levels.{Levels}
use Rattle.state.specs.Model.{Model}
use Rattle.engine.specs.Picks.{level_of, admits, goes_before, challenged, best_of, pick}

pub passed_by : (before : ℕ → ℕ → Bool) (xs : List ℕ) (x : ℕ) (b : Bool) → best_of before (xs ++ cond b (x ∷ []) []) ≡ cond b (challenged before (best_of before xs) x) (best_of before xs)
passed_by before xs x true = fold_push (challenged before) None xs x
passed_by before xs x false = ap (best_of before) (append-nil xs)

abbrev pub Every : (ℕ → Type 0) → Option ℕ → Type 0
Every P None = Unit {0}
Every P (Some x) = P x

challenged_every : (P : ℕ → Type 0) (before : ℕ → ℕ → Bool) (o : Option ℕ) (x : ℕ) → Every P o → P x → Every P (challenged before o x)
challenged_every P before None x h p = p
challenged_every P before (Some b) x h p = cond_both (before x b) x b P (λ _. p) (λ _. h)

folded_every : (P : ℕ → Type 0) (before : ℕ → ℕ → Bool) (o : Option ℕ) (xs : List ℕ) → Every P o → AllByRecursion P xs → Every P (fold (challenged before) o xs)
folded_every P before o [] h a = h
folded_every P before o (x ∷ xs) h a = folded_every P before (challenged before o x) xs (challenged_every P before o x h a.0) a.1

-- what is picked has what every candidate has
pub best_every : (P : ℕ → Type 0) (before : ℕ → ℕ → Bool) (xs : List ℕ) (x : ℕ) → AllByRecursion P xs → best_of before xs ≡ Some x → P x
best_every P before xs x a e = subst (Every P) e (folded_every P before None xs tt a)

last_passes : (p : ℕ → Bool) (n : ℕ) (b : Bool) → p n ≡ b → AllByRecursion (λ x. p x ≡ true) (cond b (n ∷ []) [])
last_passes p n true e = (e, tt)
last_passes p n false e = tt

pub passing_passes : (p : ℕ → Bool) (n : ℕ) → AllByRecursion (λ x. p x ≡ true) (passing p n)
passing_passes p zero = tt
passing_passes p (suc n) = All-append (λ x. p x ≡ true) (passing p n) _ (passing_passes p n) (last_passes p n (p n) refl)

pub pick-admitted : (f : Levels) (m : Model) (x : ℕ) → pick f m ≡ Some x → 0 < level_of f m x
pick-admitted f m x e = ltb-true 0 (level_of f m x) (best_every (λ x. admits f m x ≡ true) (goes_before f m) (passing (admits f m) m.variables) x (passing_passes (admits f m) m.variables) e)
