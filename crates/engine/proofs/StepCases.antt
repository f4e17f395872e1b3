-- What a step does, by cases.
use Rattle.std.proofs.Common.{◌≡◌, ℕ, ◌<◌, Bool, true, false, cond, length, Some, Ok, Err, Option, refl, ap, ◌∙◌, subst, arith}
use Rattle.std.specs.Option.{ForSome}
use Rattle.std.proofs.lemmas.Bool.{cond-false, ne_eqb}
use Rattle.cnf.specs.declared.refusal.Refusal.{Refusal}
use Rattle.policy.specs.Levels.{Levels}
use Rattle.policy.specs.Sources.{Meaning}
use Rattle.state.specs.Model.{Model, Paced, unsatisfied}
use Rattle.state.specs.Theorems.{Filled}
use Rattle.state.proofs.Facts.{keeps}
use Rattle.state.proofs.Truths.{filled}
use Rattle.state.specs.declared.search.Search.{Search}
use Rattle.state.specs.Searches.{model}
use Rattle.engine.specs.declared.answers.Stepped.TheVariants as step
use Rattle.engine.specs.Picks.{level_of, pick}
use Rattle.engine.specs.Steps.{moved, flip_by, greedy_or, stepped, left}

pub greedy_step : (f : Levels) (o : Option ℕ) (m : Model) (x : ℕ) → (length (unsatisfied m) ≡ 0 → ⊥) → pick f m ≡ Some x → stepped f o m ≡ flip_by (level_of f m x) x m
greedy_step f o m x ne e = cond-false _ _ _ (ne_eqb (length (unsatisfied m)) 0 ne) ∙ ap (λ p. greedy_or f o p m) e

-- a greedy step leaves the source as it is
pub greedy_left : {Σ : Type 0} (u : Meaning Σ) (mode x : ℕ) (m : Model) (s : Σ) → 0 < mode → left u (step.Moved (moved mode x m)) s ≡ s
greedy_left u mode x m s h = cond-false _ _ _ (ne_eqb mode 0 (λ e. omega arith))

pub filled_search : (s : Search) → Filled (model s)
filled_search s = filled s.given s.formula s.occurrences s.table (keeps s)

-- what an engine that holds a search keeps true
pub kept : (s : Search) → Paced (model s) → ForSome (Some s) (λ t. Paced (model t))
kept s p t e = let q : s ≡ t = cc in subst (λ t. Paced (model t)) q p

-- what follows a check that was passed
pub passed : {A : Type 0} (b : Bool) (x : Unit {0}) (f : Refusal) (p q : A) → Ok x ≡ cond b (Ok tt) (Err f) → cond b p q ≡ p
passed true x f p q e = refl
passed false x f p q e = let z : ◌≡◌ {A = ℕ} 0 1 = cc in absurd (omega arith)
