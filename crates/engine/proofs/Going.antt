-- A run that is on its way: what is left of it ends as the whole.
use Rattle.std.proofs.Common.{◌≡◌, ℕ, zero, suc, ◌+◌, ◌-◌, ◌<◌, ◌≤◌, Bool, true, false, cond, List, [], ◌∷◌, ◌++◌, length, take, drop, set, Some, None, Option, unwrap_or, sym, refl, ap, ◌∙◌, append_assoc, append-nil, arith}
use Rattle.std.proofs.lemmas.List.{take_more_set, drop-set-lt, drop-drop, drop-append-le, length-take, take-append-drop}
use Rattle.std.proofs.lemmas.List.Sums.{sum_by-cons}
use Rattle.std.proofs.lemmas.Bool.{cond_both}
use Rattle.policy.specs.Levels.{Levels}
use Rattle.policy.specs.Sources.{Meaning}
use Rattle.state.specs.Model.{Model, Paced, weighed}
use Rattle.state.specs.Theorems.{Filled}
use Rattle.state.proofs.Truths.{pace, filling}
use Rattle.engine.specs.declared.answers.Move.{Move}
use Rattle.engine.specs.declared.answers.Stepped.{Stepped}
use Rattle.engine.specs.declared.answers.Stepped.TheVariants as step
use Rattle.engine.specs.declared.answers.Outcome.{Outcome}
use Rattle.engine.specs.declared.answers.Outcome.TheVariants as outcome
use Rattle.engine.specs.Picks.{pick, dive_pick}
use Rattle.engine.specs.Steps.{none_left, drawn, After, stepped, greedy_or, offer, left, Run, run, ended, continued, ran_to, is_dive, dives_in, counts, trailed}

-- what a step does to the numbers that calls rely on
pub record Sound (m : Model) (a : After) : Type 0 where
  pub variables : a.model.variables ≡ m.variables
  pub clauses : a.model.clauses ≡ m.clauses
  pub paced : Paced a.model
  pub ticks : a.model.tick ≤ m.tick + 1

greedy_sound : (f : Levels) (o p : Option ℕ) (m : Model) → Filled m → Paced m → Sound m (greedy_or f o p m)
greedy_sound f o (Some x) m h q = record { variables = refl; clauses = refl; paced = pace.flip m x q; ticks = omega arith }
greedy_sound f (Some d) None m h q = record { variables = refl; clauses = refl; paced = pace.dive m (unwrap_or (dive_pick (weighed m) (drawn d m)) 0) h q; ticks = omega arith }
greedy_sound f None None m h q = record { variables = refl; clauses = refl; paced = q; ticks = omega arith }

sound_by : (b : Bool) (f : Levels) (o : Option ℕ) (m : Model) → Filled m → Paced m → Sound m (cond b (record { answer = step.Found; model = m }) (greedy_or f o (pick f m) m))
sound_by true f o m h q = record { variables = refl; clauses = refl; paced = q; ticks = omega arith }
sound_by false f o m h q = greedy_sound f o (pick f m) m h q

pub step_sound : (f : Levels) (o : Option ℕ) (m : Model) → Filled m → Paced m → Sound m (stepped f o m)
step_sound f o m h q = sound_by (none_left m) f o m h q

-- i of b steps are made
pub record Going {Σ : Type 0} (f : Levels) (u : Meaning Σ) (b : ℕ) (m₀ : Model) (s₀ : Σ) (old : List Move) (i : ℕ) (m : Model) (s : Σ) (trail : List Move) (dives : ℕ) : Type 0 where
  pub outcome : (run f u (b - i) m s).outcome ≡ (run f u b m₀ s₀).outcome
  pub model : (run f u (b - i) m s).model ≡ (run f u b m₀ s₀).model
  pub source : (run f u (b - i) m s).source ≡ (run f u b m₀ s₀).source
  pub moves : take i trail ++ (run f u (b - i) m s).moves ≡ (run f u b m₀ s₀).moves
  pub steps : i + length (run f u (b - i) m s).moves ≡ length (run f u b m₀ s₀).moves
  pub dived : dives + dives_in (run f u (b - i) m s).moves ≡ dives_in (run f u b m₀ s₀).moves
  pub few : dives ≤ i
  pub rest : drop i trail ≡ drop i old

module _ {Σ : Type 0} (f : Levels) (u : Meaning Σ) (b : ℕ) (m₀ : Model) (s₀ : Σ) (old : List Move) where
  pub going_none : Going f u b m₀ s₀ old 0 m₀ s₀ old 0
  going_none =
      let e : b - 0 ≡ b = omega arith in
      let r : run f u (b - 0) m₀ s₀ ≡ run f u b m₀ s₀ = ap (λ n. run f u n m₀ s₀) e in
      record {
        outcome = ap (λ x. x.outcome) r;
        model = ap (λ x. x.model) r;
        source = ap (λ x. x.source) r;
        moves = ap (λ x. x.moves) r;
        steps = omega (arith, ap (λ x. length x.moves) r);
        dived = omega (arith, ap (λ x. dives_in x.moves) r);
        few = omega arith;
        rest = refl;
      }

  -- what is left, one step on
  turn : (i : ℕ) (m : Model) (s : Σ) → i < b → run f u (b - i) m s ≡ continued (stepped f (offer u s) m).answer (run f u (b - (i + 1)) (stepped f (offer u s) m).model (left u (stepped f (offer u s) m).answer s)) m s
  turn i m s h = let e : b - i ≡ suc (b - (i + 1)) = omega arith in ap (λ n. run f u n m s) e

  module _ (i : ℕ) (m : Model) (s : Σ) (trail : List Move) (dives : ℕ) (h : i < b) (g : Going f u b m₀ s₀ old i m s trail dives) where
    pub going_more : (v : Move) (n : Model) (t : Σ) → i < length trail → (stepped f (offer u s) m).answer ≡ step.Moved v → (stepped f (offer u s) m).model ≡ n → left u (step.Moved v) s ≡ t → (d : ℕ) → d ≡ dives + cond (is_dive v) 1 0 → Going f u b m₀ s₀ old (i + 1) n t (set trail i v) d
    going_more v n t l ea em es d ed =
        let next : Run Σ = run f u (b - (i + 1)) n t in
        let r : run f u (b - i) m s ≡ record { outcome = next.outcome; moves = v ∷ next.moves; model = next.model; source = next.source } =
        turn i m s h
        ∙ ap (λ a. continued a (run f u (b - (i + 1)) (stepped f (offer u s) m).model (left u a s)) m s) ea
        ∙ ap (λ x. continued (step.Moved v) (run f u (b - (i + 1)) x (left u (step.Moved v) s)) m s) em
        ∙ ap (λ x. continued (step.Moved v) (run f u (b - (i + 1)) n x) m s) es in
        let c = cond_both {A = ℕ} (is_dive v) 1 0 (λ k. k ≤ 1) (λ _. omega arith) (λ _. omega arith) in
        let w = sum_by-cons (λ x. cond (is_dive x) 1 0) v next.moves in
        record {
          outcome = sym (ap (λ x. x.outcome) r) ∙ g.outcome;
          model = sym (ap (λ x. x.model) r) ∙ g.model;
          source = sym (ap (λ x. x.source) r) ∙ g.source;
          moves = ap (λ k. k ++ next.moves) (take_more_set trail i v l) ∙ append_assoc (take i trail) (v ∷ []) next.moves ∙ sym (ap (λ x. take i trail ++ x.moves) r) ∙ g.moves;
          steps = omega (arith, ap (λ x. length x.moves) r, g.steps);
          dived = omega (arith, ap (λ x. dives_in x.moves) r, g.dived);
          few = omega (arith, g.few);
          rest = drop-set-lt (i + 1) trail i v (omega arith) ∙ sym (drop-drop 1 i trail) ∙ ap (drop 1) g.rest ∙ drop-drop 1 i old;
        }

-- a run that ends here has answered this
pub record Stops {Σ : Type 0} (r : Run Σ) (old : List Move) (o : Outcome) (i dives : ℕ) (m : Model) (s : Σ) (trail : List Move) : Type 0 where
  pub answer : (o, i, dives) ≡ counts r
  pub ends : m ≡ r.model
  pub source : s ≡ r.source
  pub records : trail ≡ trailed r.moves old

pub stops : {Σ : Type 0} (f : Levels) (u : Meaning Σ) (b : ℕ) (m₀ : Model) (s₀ : Σ) (old : List Move) (i : ℕ) (m : Model) (s : Σ) (trail : List Move) (dives : ℕ) (o : Outcome) → Going f u b m₀ s₀ old i m s trail dives → run f u (b - i) m s ≡ ended o m s → Stops (run f u b m₀ s₀) old o i dives m s trail
stops f u b m₀ s₀ old i m s trail dives o g e =
    let none = ap (λ x. x.moves) e in
    let front : take i trail ≡ (run f u b m₀ s₀).moves = sym (append-nil (take i trail)) ∙ sym (ap (λ k. take i trail ++ k) none) ∙ g.moves in
    let n : i ≡ length (run f u b m₀ s₀).moves = omega (arith, ap length none, g.steps) in
    let d : dives ≡ dives_in (run f u b m₀ s₀).moves = omega (arith, ap dives_in none, g.dived) in
    record {
      answer = ap (λ x. (x, i, dives)) (sym (ap (λ x. x.outcome) e) ∙ g.outcome) ∙ ap (λ x. ((run f u b m₀ s₀).outcome, x, dives)) n ∙ ap (λ x. ((run f u b m₀ s₀).outcome, length (run f u b m₀ s₀).moves, x)) d;
      ends = sym (ap (λ x. x.model) e) ∙ g.model;
      source = sym (ap (λ x. x.source) e) ∙ g.source;
      records = sym (take-append-drop i trail) ∙ ap (λ k. k ++ drop i trail) front ∙ ap (λ k. (run f u b m₀ s₀).moves ++ k) (g.rest ∙ ap (λ k. drop k old) n);
    }

-- a trail whose front holds the records, where the rest of it is as before
pub whole_trail : (vs xs old : List Move) (b : ℕ) → length vs ≤ b → b ≤ length old → xs ≡ trailed vs (take b old) → xs ++ drop b old ≡ trailed vs old
whole_trail vs xs old b h l e =
    ap (λ k. k ++ drop b old) e
    ∙ append_assoc vs (drop (length vs) (take b old)) (drop b old)
    ∙ ap (λ k. vs ++ k) (sym (drop-append-le (length vs) (take b old) (drop b old) (omega (arith, length-take b old))) ∙ ap (drop (length vs)) (take-append-drop b old))

pub stops_at_end : {Σ : Type 0} (f : Levels) (u : Meaning Σ) (b : ℕ) (m₀ : Model) (s₀ : Σ) (old : List Move) (i : ℕ) (m : Model) (s : Σ) (trail : List Move) (dives : ℕ) → b ≤ i → Going f u b m₀ s₀ old i m s trail dives → Stops (run f u b m₀ s₀) old (ran_to m) i dives m s trail
stops_at_end f u b m₀ s₀ old i m s trail dives h g =
    let e : b - i ≡ 0 = omega arith in
    stops f u b m₀ s₀ old i m s trail dives (ran_to m) g (ap (λ n. run f u n m s) e)

-- a step that did not move
abbrev pub outcome_of : Stepped → Outcome
outcome_of step.Found = outcome.Found
outcome_of step.Dry = outcome.Dry
outcome_of (step.Moved v) = outcome.Unknown

abbrev pub Still : Stepped → Type 0
Still step.Found = Unit {0}
Still step.Dry = Unit {0}
Still (step.Moved v) = ⊥

still_by : (f : Levels) (o p : Option ℕ) (m : Model) → Still (greedy_or f o p m).answer → (greedy_or f o p m).model ≡ m
still_by f o (Some x) m h = absurd h
still_by f (Some d) None m h = absurd h
still_by f None None m h = refl

still_cond : (b : Bool) (f : Levels) (o : Option ℕ) (m : Model) → Still (cond b (record { answer = step.Found; model = m }) (greedy_or f o (pick f m) m)).answer → (cond b (record { answer = step.Found; model = m }) (greedy_or f o (pick f m) m)).model ≡ m
still_cond true f o m h = refl
still_cond false f o m h = still_by f o (pick f m) m h

-- a step that did not move alters nothing
pub still : (f : Levels) (o : Option ℕ) (m : Model) → Still (stepped f o m).answer → (stepped f o m).model ≡ m
still f o m h = still_cond (none_left m) f o m h

continued_still : {Σ : Type 0} (a : Stepped) (r : Run Σ) (m : Model) (s : Σ) → Still a → continued a r m s ≡ ended (outcome_of a) m s
continued_still step.Found r m s h = refl
continued_still step.Dry r m s h = refl
continued_still (step.Moved v) r m s h = absurd h

pub stops_still : {Σ : Type 0} (f : Levels) (u : Meaning Σ) (b : ℕ) (m₀ : Model) (s₀ : Σ) (old : List Move) (i : ℕ) (m : Model) (s : Σ) (trail : List Move) (dives : ℕ) (a : Stepped) → i < b → Going f u b m₀ s₀ old i m s trail dives → (stepped f (offer u s) m).answer ≡ a → Still a → Stops (run f u b m₀ s₀) old (outcome_of a) i dives m s trail
stops_still f u b m₀ s₀ old i m s trail dives a h g e q =
    stops f u b m₀ s₀ old i m s trail dives (outcome_of a) g (turn f u b m₀ s₀ old i m s h ∙ ap (λ x. continued x (run f u (b - (i + 1)) (stepped f (offer u s) m).model (left u x s)) m s) e ∙ continued_still a _ m s q)

greedy_filled : (f : Levels) (o p : Option ℕ) (m : Model) → Filled m → Filled (greedy_or f o p m).model
greedy_filled f o (Some x) m h = filling.flip m x h
greedy_filled f (Some d) None m h = filling.flip (weighed m) (unwrap_or (dive_pick (weighed m) (drawn d m)) 0) (filling.weighing m h)
greedy_filled f None None m h = h

filled_by : (b : Bool) (f : Levels) (o : Option ℕ) (m : Model) → Filled m → Filled (cond b (record { answer = step.Found; model = m }) (greedy_or f o (pick f m) m)).model
filled_by true f o m h = h
filled_by false f o m h = greedy_filled f o (pick f m) m h

pub step_filled : (f : Levels) (o : Option ℕ) (m : Model) → Filled m → Filled (stepped f o m).model
step_filled f o m h = filled_by (none_left m) f o m h

-- what a run does to them
pub record Ran (m n : Model) : Type 0 where
  pub variables : n.variables ≡ m.variables
  pub filled : Filled n
  pub paced : Paced n

ran_by : {Σ : Type 0} (a : Stepped) (r : Run Σ) (m : Model) (s : Σ) → Ran m m → Ran m r.model → Ran m (continued a r m s).model
ran_by step.Found r m s p q = p
ran_by step.Dry r m s p q = p
ran_by (step.Moved v) r m s p q = q

pub run_sound : {Σ : Type 0} (f : Levels) (u : Meaning Σ) (b : ℕ) (m : Model) (s : Σ) → Filled m → Paced m → Ran m (run f u b m s).model
run_sound f u zero m s h q = record { variables = refl; filled = h; paced = q }
run_sound f u (suc b) m s h q =
    let a = stepped f (offer u s) m in
    let p = step_sound f (offer u s) m h q in
    let r = run_sound f u b a.model (left u a.answer s) (step_filled f (offer u s) m h) p.paced in
    ran_by a.answer (run f u b a.model (left u a.answer s)) m s (record { variables = refl; filled = h; paced = q }) (record { variables = r.variables ∙ p.variables; filled = r.filled; paced = r.paced })
