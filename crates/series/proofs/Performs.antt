-- What the parts of a series' call do not depend on.
use Rattle.std.proofs.Common.{◌≡◌, ℕ, List, [], ℤ, Some, None, Option, refl}
use Rattle.policy.specs.Levels.{Levels}
use Rattle.policy.specs.Sources.{Meaning}
use Rattle.state.specs.Model.{Model}
use Rattle.engine.specs.declared.answers.Move.{Move}
use Rattle.series.specs.Series.{Performed, load_with, restart_with, step_with}

-- the same answer and model, and nothing else altered
pub record Alike {Σ : Type 0} (q : Performed ℕ) (p : Performed Σ) (ss : List Σ) (trail : List Move) : Type 0 where
  pub reply : q.reply ≡ p.reply
  pub model : q.model ≡ p.model
  pub sources : ss ≡ p.sources
  pub records : trail ≡ p.trail

module _ {Σ : Type 0} (o : Option Model) (ss : List Σ) (trail : List Move) where
  pub load_alike : (v : ℕ) (ws : Option (List ℤ)) (start : Option (List ℕ)) → Alike (load_with v ws start o [] []) (load_with v ws start o ss trail) ss trail
  load_alike v None start = record { reply = refl; model = refl; sources = refl; records = refl }
  load_alike v (Some ws) None = record { reply = refl; model = refl; sources = refl; records = refl }
  load_alike v (Some ws) (Some start) = record { reply = refl; model = refl; sources = refl; records = refl }

  pub restart_alike : (start : Option (List ℕ)) → Alike (restart_with start o [] []) (restart_with start o ss trail) ss trail
  restart_alike None = record { reply = refl; model = refl; sources = refl; records = refl }
  restart_alike (Some start) = record { reply = refl; model = refl; sources = refl; records = refl }

-- a step leaves every trail as it is
pub record Untrailed {Σ : Type 0} (q p : Performed Σ) (trail : List Move) : Type 0 where
  pub reply : q.reply ≡ p.reply
  pub model : q.model ≡ p.model
  pub sources : q.sources ≡ p.sources
  pub records : trail ≡ p.trail

pub step_untrailed : {Π Σ : Type 0} (lv : Π → Levels) (u : Meaning Σ) (p : Option Π) (s : Option Σ) (j : ℕ) (o : Option Model) (ss : List Σ) (trail : List Move) → Untrailed (step_with lv u p s j o ss []) (step_with lv u p s j o ss trail) trail
step_untrailed lv u None s j o ss trail = record { reply = refl; model = refl; sources = refl; records = refl }
step_untrailed lv u (Some p) None j o ss trail = record { reply = refl; model = refl; sources = refl; records = refl }
step_untrailed lv u (Some p) (Some s) j o ss trail = record { reply = refl; model = refl; sources = refl; records = refl }
