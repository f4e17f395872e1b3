-- What holds of every history.
use Rattle.std.proofs.Common.{◌≡◌, ℕ, ◌+◌, ◌<◌, ◌≤◌, false, List, [], ◌∷◌, ◌++◌, length, get_or, pos, ◌+ℤ◌, ◌-ℤ◌, ◌<ℤ◌, Some, None, Option, sym, refl, ap, ◌∙◌, subst, arith}
use Rattle.std.specs.List.{AllByRecursion}
use Rattle.std.proofs.ByRecursion.{All-weaker}
use Rattle.std.proofs.lemmas.Int.{ints}
use Rattle.policy.specs.Levels.{Levels, LawfulLevels}
use Rattle.state.specs.Model.{Model, cost, cost_at, score, changed, total, flipped, weighed}
use Rattle.state.specs.Theorems.{Filled}
use Rattle.state.proofs.Truths.{filling, pays}
use Rattle.engine.specs.declared.answers.Move.{Move}
use Rattle.engine.specs.Picks.{level_of}
use Rattle.engine.specs.Steps.{After, stepped}
use Rattle.series.specs.Laws.{Event, begins, flips, weighs, steps, happened, holding, LawfulEvent, Greedy, Stretch, moves_at, moves_in, models_at, models_in, last_of, scores_of, Apart, FilledIn, HistoriesHold}
use Rattle.series.proofs.Firsts.{picks_the_first}
use Rattle.engine.proofs.Going.{step_filled}
use Rattle.series.proofs.Means.{View, found, greedy, dives, dries, view, step_means}

-- the same formula and weights, and no more cost
record Lower (m n : Model) : Type 0 where
  clauses : n.clauses ≡ m.clauses
  weights : n.weights ≡ m.weights
  cost_le : cost n ≤ cost m

-- from m down to n, with these records, over these models
record Descent (m n : Model) (vs : List Move) (ms : List Model) : Type 0 where
  paid : pos (cost m) ≡ pos (cost n) +ℤ scores_of vs
  above : AllByRecursion (λ v. pos 0 <ℤ v.score) vs
  apart : Apart (m ∷ ms)
  few : length vs ≤ cost m
  lower : AllByRecursion (Lower m) ms

-- equal assignments cost the same under the same weights
same_cost : (m n : Model) → n.clauses ≡ m.clauses → n.weights ≡ m.weights → m.values ≡ n.values → cost m ≡ cost n
same_cost m n c w e =
    ap (λ vs. cost_at (λ x. get_or vs x false) m.clauses m.weights) e
    ∙ ap (λ cs. cost_at (λ x. get_or n.values x false) cs m.weights) (sym c)
    ∙ ap (λ ws. cost_at (λ x. get_or n.values x false) n.clauses ws) (sym w)

-- a cheaper model under the same weights has another assignment
cheaper : (m n k : Model) → n.clauses ≡ m.clauses → n.weights ≡ m.weights → cost n < cost m → Lower n k → m.values ≡ k.values → ⊥
cheaper m n k c w l h e = let s = same_cost m k (h.clauses ∙ c) (h.weights ∙ w) e in omega (arith, h.cost_le)

lower_itself : (n : Model) → Lower n n
lower_itself n = record { clauses = refl; weights = refl; cost_le = omega arith }

flip_descent : (f : Levels) (m : Model) (x : ℕ) (n : Model) (vs : List Move) (ms : List Model) → Filled m → x < m.variables → pos 0 <ℤ score m x → Descent (flipped x m) n vs ms → Descent m n (record { mode = level_of f m x; variable = x + 1; score = score m x; cost = cost (flipped x m) } ∷ vs) (flipped x m ∷ ms)
flip_descent f m x n vs ms h l a d =
    let p : pos (cost (flipped x m)) ≡ pos (cost m) -ℤ score m x = pays m x h l in
    let less : cost (flipped x m) < cost m = omega (arith, ints, p, a) in
    record {
      paid = omega (arith, ints, p, d.paid);
      above = (a, d.above);
      apart = ((cheaper m (flipped x m) (flipped x m) refl refl less (lower_itself (flipped x m)), All-weaker (Lower (flipped x m)) (λ k. m.values ≡ k.values → ⊥) (λ k. cheaper m (flipped x m) k refl refl less) ms d.lower), d.apart);
      few = omega (arith, d.few);
      lower = (record { clauses = refl; weights = refl; cost_le = omega arith }, All-weaker (Lower (flipped x m)) (Lower m) (λ k q. record { clauses = q.clauses; weights = q.weights; cost_le = omega (arith, q.cost_le) }) ms d.lower);
    }

step_descent : (f : Levels) (o : Option ℕ) (m : Model) (a : After) (n : Model) (vs : List Move) (ms : List Model) → View f o m a → LawfulLevels f → Filled m → Greedy a.answer → Descent a.model n vs ms → Descent m n (moves_at a.answer vs) (models_at a.answer a.model ms)
step_descent f o m a n vs ms (found e) l h g d = d
step_descent f o m a n vs ms (greedy x e p) l h g d =
    let k = (picks_the_first m f).some_only x p in
    flip_descent f m x n vs ms h k.below (l.above_zero (score m x) (changed m x) (total m) (length m.clauses) k.admitted) d
step_descent f o m a n vs ms (dives x e p q) l h g d = absurd (omega arith)
step_descent f o m a n vs ms (dries e p q) l h g d = d

descent : (m : Model) (es : List Event) → Filled m → AllByRecursion LawfulEvent es → Stretch m es → Descent m (last_of m es) (moves_in m es) (models_in m es)
descent m [] h l s = record { paid = omega (arith, ints); above = tt; apart = (tt, tt); few = omega arith; lower = tt }
descent m (begins v cs start ∷ es) h l s = absurd s
descent m (flips x ∷ es) h l s = absurd s
descent m (weighs ∷ es) h l s = absurd s
descent m (steps f o ∷ es) h l s =
    step_descent f o m (stepped f o m) _ _ _ (view f o m) l.0 h s.0 (descent (stepped f o m).model es (step_filled f o m h) l.1 s.1)

-- a front of a history that is lawful is lawful, and so is what follows it
all_front : {X : Type 0} (P : X → Type 0) (xs ys : List X) → AllByRecursion P (xs ++ ys) → AllByRecursion P xs
all_front P [] ys a = tt
all_front P (x ∷ xs) ys a = (a.0, all_front P xs ys a.1)

all_behind : {X : Type 0} (P : X → Type 0) (xs ys : List X) → AllByRecursion P (xs ++ ys) → AllByRecursion P ys
all_behind P [] ys a = a
all_behind P (x ∷ xs) ys a = all_behind P xs ys a.1

happened-filled : (e : Event) (o : Option Model) → LawfulEvent e → FilledIn o → FilledIn (happened e o)
happened-filled (begins v cs start) o l h = filling.start v cs start l
happened-filled (flips x) None l h = tt
happened-filled (flips x) (Some m) l h = filling.flip m x h
happened-filled weighs None l h = tt
happened-filled weighs (Some m) l h = filling.tick (weighed m) (filling.weighing m h)
happened-filled (steps f o) None l h = tt
happened-filled (steps f o) (Some m) l h = step_filled f o m h

pub holding-filled : (es : List Event) (o : Option Model) → AllByRecursion LawfulEvent es → FilledIn o → FilledIn (holding es o)
holding-filled [] o l h = h
holding-filled (e ∷ es) o l h = holding-filled es (happened e o) l.1 (happened-filled e o l.0 h)

pub histories_hold : HistoriesHold
histories_hold es l = record {
  whole = λ before rest e. holding-filled before None (all_front LawfulEvent before rest (subst (AllByRecursion LawfulEvent) e l)) tt;
  means = λ before rest f o m e q. step_means f o m;
  stretches = λ before stretch rest m e q s. (let a = subst (AllByRecursion LawfulEvent) e l in let h = subst FilledIn q (holding-filled before None (all_front LawfulEvent before (stretch ++ rest) a) tt) in let d = descent m stretch h (all_front LawfulEvent stretch rest (all_behind LawfulEvent before (stretch ++ rest) a)) s in record { paid = d.paid; above = d.above; apart = d.apart; few = d.few });
}
