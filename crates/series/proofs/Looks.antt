-- What stands at a place of a list.
use Rattle.std.proofs.Common.{◌≡◌, ℕ, zero, suc, ◌<◌, ◌≤◌, ◌⊎◌, List, [], ◌∷◌, length, get_or, Some, None, Option, sym, refl, ap, ◌∙◌, ⊎_elim, arith}
use Rattle.cnf.specs.declared.refusal.Check.TheVariants.{InRange}
use Rattle.policy.specs.Levels.{Levels}
use Rattle.policy.specs.Sources.{Meaning}
use Rattle.state.specs.Model.{Model}
use Rattle.engine.specs.declared.answers.Move.{Move}
use Rattle.engine.specs.Calls.{refusing}
use Rattle.series.specs.Series.{look, idle, step_with, run_with}

pub look_past : {A : Type 0} (xs : List A) (i : ℕ) → length xs ≤ i → look xs i ≡ None
look_past [] i h = refl
look_past (x ∷ xs) zero h = absurd (omega arith)
look_past (x ∷ xs) (suc i) h = look_past xs i (omega arith)

pub look_at : {A : Type 0} (xs : List A) (i : ℕ) (d : A) → i < length xs → look xs i ≡ Some (get_or xs i d)
look_at [] i d h = absurd (omega arith)
look_at (x ∷ xs) zero d h = refl
look_at (x ∷ xs) (suc i) d h = look_at xs i d (omega arith)

pub look_read : {A : Type 0} (xs : List A) (i : ℕ) (x : A) → i < length xs → x ≡ get_or xs i x → look xs i ≡ Some x
look_read xs i x h e = look_at xs i x h ∙ ap Some (sym e)

module _ {Π Σ : Type 0} (lv : Π → Levels) (u : Meaning Σ) (ps : List Π) (i j : ℕ) (o : Option Model) (ss : List Σ) (trail : List Move) where
  step_none : (p : Option Π) → step_with lv u p None j o ss trail ≡ idle (refusing InRange) o ss trail
  step_none None = refl
  step_none (Some p) = refl

  run_none : (b : ℕ) (p : Option Π) → run_with lv u p None j b o ss trail ≡ idle (refusing InRange) o ss trail
  run_none b None = refl
  run_none b (Some p) = refl

  pub step_outside : (length ps ≤ i) ⊎ ((i < length ps) × (length ss ≤ j)) → step_with lv u (look ps i) (look ss j) j o ss trail ≡ idle (refusing InRange) o ss trail
  step_outside h = ⊎_elim (λ l. ap (λ p. step_with lv u p (look ss j) j o ss trail) (look_past ps i l)) (λ l. ap (λ s. step_with lv u (look ps i) s j o ss trail) (look_past ss j l.1) ∙ step_none (look ps i)) h

  pub run_outside : (b : ℕ) → (length ps ≤ i) ⊎ ((i < length ps) × (length ss ≤ j)) → run_with lv u (look ps i) (look ss j) j b o ss trail ≡ idle (refusing InRange) o ss trail
  run_outside b h = ⊎_elim (λ l. ap (λ p. run_with lv u p (look ss j) j b o ss trail) (look_past ps i l)) (λ l. ap (λ s. run_with lv u (look ps i) s j b o ss trail) (look_past ss j l.1) ∙ run_none b (look ps i)) h

  pub step_inside : (p : Π) (s : Σ) → look ps i ≡ Some p → look ss j ≡ Some s → step_with lv u (look ps i) (look ss j) j o ss trail ≡ step_with lv u (Some p) (Some s) j o ss trail
  step_inside p s e d = ap (λ x. step_with lv u x (look ss j) j o ss trail) e ∙ ap (λ x. step_with lv u (Some p) x j o ss trail) d

  pub run_inside : (b : ℕ) (p : Π) (s : Σ) → look ps i ≡ Some p → look ss j ≡ Some s → run_with lv u (look ps i) (look ss j) j b o ss trail ≡ run_with lv u (Some p) (Some s) j b o ss trail
  run_inside b p s e d = ap (λ x. run_with lv u x (look ss j) j b o ss trail) e ∙ ap (λ x. run_with lv u (Some p) x j b o ss trail) d
