-- What a source of numbers means, and what every source keeps to.
use Rattle.std.specs.Prelude.{◌≡◌, ℕ, zero, suc, Bool, false, List, [], ◌∷◌}

-- Of what a source holds: whether a number is ready, which one a draw gives, and what the source holds after it.
pub record Meaning (Σ : Type 0) : Type 0 where
  pub ready : Σ → Bool
  pub number : Σ → ℕ
  pub after : Σ → Σ

-- The laws of a source: a draw with none ready gives 0 and changes nothing.
pub record LawfulSource {Σ : Type 0} (u : Meaning Σ) : Type 0 where
  pub number_dry : (s : Σ) → u.ready s ≡ false → u.number s ≡ 0
  pub after_dry : (s : Σ) → u.ready s ≡ false → u.after s ≡ s

-- The numbers that n draws give.
abbrev pub drawn : {Σ : Type 0} → Meaning Σ → ℕ → Σ → List ℕ
drawn u zero s = []
drawn u (suc n) s = u.number s ∷ drawn u n (u.after s)

-- What the source holds after n draws.
abbrev pub after_draws : {Σ : Type 0} → Meaning Σ → ℕ → Σ → Σ
after_draws u zero s = s
after_draws u (suc n) s = after_draws u n (u.after s)
