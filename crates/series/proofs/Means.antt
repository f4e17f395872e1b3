-- What steps and runs say.
use Rattle.std.proofs.Common.{◌≡◌, ℕ, zero, suc, ◌+◌, ◌<◌, Bool, true, false, cond, List, [], ◌∷◌, length, get_or, ℤ, pos, ◌≤ℤ◌, Some, None, Option, sym, refl, ap, ◌∙◌, true≢false, arith}
use Rattle.std.proofs.lemmas.Int.{by_lt_z}
use Rattle.std.proofs.lemmas.Bool.{cond-true, eqb-true, eq-eqb}
use Rattle.cnf.specs.Tables.{Assignment, satisfied}
use Rattle.cnf.specs.Promises.{AllSatisfied}
use Rattle.policy.specs.Levels.{Levels, LawfulLevels}
use Rattle.policy.specs.Sources.{Meaning}
use Rattle.state.specs.Model.{Model, assignment, score, changed, total, unsatisfied, unsatisfied_from}
use Rattle.engine.specs.declared.answers.Move.{Move}
use Rattle.engine.specs.declared.answers.Stepped.{Stepped}
use Rattle.engine.specs.declared.answers.Stepped.TheVariants as step
use Rattle.engine.specs.declared.answers.Outcome.{Outcome}
use Rattle.engine.specs.declared.answers.Outcome.TheVariants as outcome
use Rattle.engine.specs.Picks.{level_of, pick}
use Rattle.engine.specs.Steps.{none_left, After, after, moved, flip_by, dive, dive_or_dry, greedy_or, stepped, offer, left, Run, run, ended, continued}
use Rattle.series.specs.Laws.{NoneAdmitted, AllHold, StepMeans, RunMeans}
use Rattle.series.proofs.Firsts.{picks_the_first}

-- none is unsatisfied exactly when all are satisfied
all_by : (a : Assignment) (n : ℕ) (c : List ℤ) (cs : List (List ℤ)) (b : Bool) → satisfied a c ≡ b → (length (unsatisfied_from a (n + 1) cs) ≡ 0 → AllSatisfied a cs) → length (cond b (unsatisfied_from a (n + 1) cs) (n ∷ unsatisfied_from a (n + 1) cs)) ≡ 0 → AllSatisfied a (c ∷ cs)
all_by a n c cs true e ih h = onto
  where
    onto : (j : ℕ) → j < suc (length cs) → satisfied a (get_or (c ∷ cs) j []) ≡ true
    onto zero l = e
    onto (suc j) l = ih h j (omega arith)
all_by a n c cs false e ih h = absurd (omega arith)

all_from : (a : Assignment) (n : ℕ) (cs : List (List ℤ)) → length (unsatisfied_from a n cs) ≡ 0 → AllSatisfied a cs
all_from a n [] h = λ j l. absurd (omega arith)
all_from a n (c ∷ cs) h = all_by a n c cs (satisfied a c) refl (all_from a (n + 1) cs) h

none_from : (a : Assignment) (n : ℕ) (cs : List (List ℤ)) → AllSatisfied a cs → length (unsatisfied_from a n cs) ≡ 0
none_from a n [] h = refl
none_from a n (c ∷ cs) h = ap length (cond-true _ _ _ (h 0 (omega arith))) ∙ none_from a (n + 1) cs (λ j l. h (suc j) (omega arith))

pub holds-left : (m : Model) → none_left m ≡ true → AllHold m
holds-left m e = all_from (assignment m) 0 m.clauses (eqb-true (length (unsatisfied m)) 0 e)

pub left-holds : (m : Model) → AllHold m → none_left m ≡ true
left-holds m h = eq-eqb (length (unsatisfied m)) 0 (none_from (assignment m) 0 m.clauses h)

pub some_left : (m : Model) → none_left m ≡ false → AllHold m → ⊥
some_left m e h = true≢false (sym (left-holds m h) ∙ e)

-- the four ways of a step
pub data View (f : Levels) (o : Option ℕ) (m : Model) : After → Type 0 where
  found : none_left m ≡ true → View f o m (after step.Found m)
  greedy : (x : ℕ) → none_left m ≡ false → pick f m ≡ Some x → View f o m (flip_by (level_of f m x) x m)
  dives : (d : ℕ) → none_left m ≡ false → pick f m ≡ None → o ≡ Some d → View f o m (dive d m)
  dries : none_left m ≡ false → pick f m ≡ None → o ≡ None → View f o m (after step.Dry m)

view_dive : (f : Levels) (o : Option ℕ) (m : Model) (q : Option ℕ) → o ≡ q → none_left m ≡ false → pick f m ≡ None → View f o m (dive_or_dry q m)
view_dive f o m (Some d) e n p = dives d n p e
view_dive f o m None e n p = dries n p e

view_pick : (f : Levels) (o : Option ℕ) (m : Model) (p : Option ℕ) → pick f m ≡ p → none_left m ≡ false → View f o m (greedy_or f o p m)
view_pick f o m (Some x) e n = greedy x n e
view_pick f o m None e n = view_dive f o m o refl n e

view_by : (f : Levels) (o : Option ℕ) (m : Model) (b : Bool) → none_left m ≡ b → View f o m (cond b (after step.Found m) (greedy_or f o (pick f m) m))
view_by f o m true e = found e
view_by f o m false e = view_pick f o m (pick f m) refl e

pub view : (f : Levels) (o : Option ℕ) (m : Model) → View f o m (stepped f o m)
view f o m = view_by f o m (none_left m) refl

quiet_by : (f : Levels) (m : Model) → NoneAdmitted f m → LawfulLevels f → (x : ℕ) → x < m.variables → changed m x ≡ true → score m x ≤ℤ pos 0
quiet_by f m h l x b c =
    by_lt_z (pos 0) (score m x)
    (λ g. absurd (let a = l.admitted (score m x) (total m) (length m.clauses) g in let z = sym (ap (λ t. f (score m x) t (total m) (length m.clauses)) c) ∙ h x b in omega arith))
    (λ g. g)

distinct_found : (v : Move) → ◌≡◌ {A = Stepped} step.Found (step.Moved v) → ⊥
distinct_found v e = let z : ◌≡◌ {A = ℕ} 0 1 = cc in omega arith

distinct_dry : (v : Move) → ◌≡◌ {A = Stepped} step.Dry (step.Moved v) → ⊥
distinct_dry v e = let z : ◌≡◌ {A = ℕ} 0 1 = cc in omega arith

found_dry : ◌≡◌ {A = Stepped} step.Found step.Dry → ⊥
found_dry e = let z : ◌≡◌ {A = ℕ} 0 1 = cc in omega arith

some_none : (d : ℕ) → ◌≡◌ {A = Option ℕ} (Some d) None → ⊥
some_none d e = let z : ◌≡◌ {A = ℕ} 0 1 = cc in omega arith

means_by : (f : Levels) (o : Option ℕ) (m : Model) (a : After) → View f o m a → StepMeans f o m a
means_by f o m a (found e) =
    let h = holds-left m e in
    record {
      found_only = λ _. h;
      found_every = λ _. refl;
      due_only = λ d. absurd d;
      due_every = λ n _. absurd (n h);
      quiet = λ _ d. absurd d;
      dry_only = λ q. absurd (found_dry q);
      dry_every = λ d. absurd d;
      number = λ v q. absurd (distinct_found v q);
    }
means_by f o m a (greedy x e p) =
    let k = (picks_the_first m f).some_only x p in
    record {
      found_only = λ q. absurd (distinct_found _ (sym q));
      found_every = λ h. absurd (some_left m e h);
      due_only = λ d. absurd (omega (arith, k.admitted));
      due_every = λ _ h. h x k.below;
      quiet = λ _ d. absurd (omega (arith, k.admitted));
      dry_only = λ q. absurd (distinct_dry _ (sym q));
      dry_every = λ d. absurd (omega (arith, k.admitted));
      number = λ v q z. absurd (let w : moved (level_of f m x) x m ≡ v = cc in omega (arith, ap (λ r. r.mode) w, k.admitted));
    }
means_by f o m a (dives d e p q) =
    let n = (picks_the_first m f).none_only p in
    record {
      found_only = λ r. absurd (distinct_found _ (sym r));
      found_every = λ h. absurd (some_left m e h);
      due_only = λ _. n;
      due_every = λ _ _. refl;
      quiet = λ l _. quiet_by f m n l;
      dry_only = λ r. absurd (distinct_dry _ (sym r));
      dry_every = λ _ r. absurd (some_none d (sym q ∙ r));
      number = λ v r z. (d, q, refl);
    }
means_by f o m a (dries e p q) =
    let n = (picks_the_first m f).none_only p in
    record {
      found_only = λ r. absurd (found_dry (sym r));
      found_every = λ h. absurd (some_left m e h);
      due_only = λ _. n;
      due_every = λ _ _. tt;
      quiet = λ l _. quiet_by f m n l;
      dry_only = λ _. q;
      dry_every = λ _ _. refl;
      number = λ v r. absurd (distinct_dry v r);
    }

pub step_means : (f : Levels) (o : Option ℕ) (m : Model) → StepMeans f o m (stepped f o m)
step_means f o m = means_by f o m (stepped f o m) (view f o m)

-- how a run ends
record Ends {Σ : Type 0} (b : ℕ) (r : Run Σ) : Type 0 where
  found_only : r.outcome ≡ outcome.Found → AllHold r.model
  found_every : AllHold r.model → r.outcome ≡ outcome.Found
  unknown : r.outcome ≡ outcome.Unknown → length r.moves ≡ b

found_unknown : ◌≡◌ {A = Outcome} outcome.Found outcome.Unknown → ⊥
found_unknown e = let z : ◌≡◌ {A = ℕ} 0 1 = cc in omega arith

found_dried : ◌≡◌ {A = Outcome} outcome.Dry outcome.Found → ⊥
found_dried e = let z : ◌≡◌ {A = ℕ} 0 1 = cc in omega arith

dry_unknown : ◌≡◌ {A = Outcome} outcome.Dry outcome.Unknown → ⊥
dry_unknown e = let z : ◌≡◌ {A = ℕ} 0 1 = cc in omega arith

last_by : {Σ : Type 0} (m : Model) (s : Σ) (t : Bool) → none_left m ≡ t → Ends 0 (ended (cond t outcome.Found outcome.Unknown) m s)
last_by m s true e = record { found_only = λ _. holds-left m e; found_every = λ _. refl; unknown = λ q. absurd (found_unknown q) }
last_by m s false e = record { found_only = λ q. absurd (found_unknown (sym q)); found_every = λ h. absurd (some_left m e h); unknown = λ _. refl }

ends_by : {Σ : Type 0} (f : Levels) (o : Option ℕ) (b : ℕ) (m : Model) (s : Σ) (a : After) (r : Run Σ) → StepMeans f o m a → Ends b r → (c : Stepped) → a.answer ≡ c → Ends (suc b) (continued c r m s)
ends_by f o b m s a r k h step.Found e = record { found_only = λ _. k.found_only e; found_every = λ _. refl; unknown = λ q. absurd (found_unknown q) }
ends_by f o b m s a r k h step.Dry e = record { found_only = λ q. absurd (found_dried q); found_every = λ g. absurd (found_dry (sym (k.found_every g) ∙ e)); unknown = λ q. absurd (dry_unknown q) }
ends_by f o b m s a r k h (step.Moved v) e = record { found_only = h.found_only; found_every = h.found_every; unknown = λ q. ap suc (h.unknown q) }

run_ends : {Σ : Type 0} (f : Levels) (u : Meaning Σ) (b : ℕ) (m : Model) (s : Σ) → Ends b (run f u b m s)
run_ends f u zero m s = last_by m s (none_left m) refl
run_ends f u (suc b) m s =
    let a = stepped f (offer u s) m in
    ends_by f (offer u s) b m s a (run f u b a.model (left u a.answer s)) (step_means f (offer u s) m) (run_ends f u b a.model (left u a.answer s)) a.answer refl

pub run_means : {Σ : Type 0} (f : Levels) (u : Meaning Σ) (b : ℕ) (m : Model) (s : Σ) → RunMeans f u b m s
run_means f u b m s = let e = run_ends f u b m s in record { found_only = e.found_only; found_every = e.found_every; unknown = e.unknown }
