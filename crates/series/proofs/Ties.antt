-- The history that calls make leads to what they leave, and is lawful.
use Rattle.std.proofs.Common.{◌≡◌, ℕ, zero, suc, ◌+◌, ◌-◌, Bool, true, false, cond, eqb, leb, List, [], ◌∷◌, ◌++◌, length, ℤ, Some, None, Ok, Err, Option, Result, sym, refl, ap, ◌∙◌, subst, arith}
use Rattle.std.specs.List.{AllByRecursion}
use Rattle.std.proofs.ByRecursion.{All-append}
use Rattle.std.proofs.lemmas.Bool.{eqb-true}
use Rattle.cnf.specs.declared.refusal.Check.TheVariants.{StartValues}
use Rattle.cnf.specs.declared.refusal.Refusal.{Refusal}
use Rattle.cnf.specs.Refusals.{refused}
use Rattle.cnf.specs.Tables.{clauses_of}
use Rattle.cnf.specs.Scans.{and_then, table_checked, start_checked, bytes_from}
use Rattle.policy.specs.Levels.{Levels, LawfulLevels}
use Rattle.policy.specs.Sources.{Meaning}
use Rattle.state.specs.Model.{Model, flipped, weighed, ticked, loaded, restarted}
use Rattle.engine.specs.declared.answers.Move.{Move}
use Rattle.engine.specs.declared.answers.Stepped.{Stepped}
use Rattle.engine.specs.declared.answers.Stepped.TheVariants as step
use Rattle.series.specs.declared.call.Call.{Call}
use Rattle.series.specs.declared.call.Call.TheVariants as call
use Rattle.engine.specs.Steps.{stepped, offer, left, Run, run, continued}
use Rattle.engine.specs.Calls.{replied, in_range, ticks_left, run_checked, flip_reply, weigh_reply, step_reply, run_reply, run_with as ran_with}
use Rattle.series.specs.Laws.{Event, begins, flips, weighs, steps, happened, holding, LawfulEvent}
use Rattle.series.specs.Series.{lent, look, accepted, load_with, restart_with, step_events, onwards, run_events, run_events_of, step_with, run_with, perform, went}
use Rattle.engine.proofs.Going.{Still, still}

pub holding_append : (es fs : List Event) (o : Option Model) → holding (es ++ fs) o ≡ holding fs (holding es o)
holding_append [] fs o = refl
holding_append (e ∷ es) fs o = holding_append es fs (happened e o)

-- a call that was accepted made its events, and one that was refused none
told_tie : (r : Result Unit Refusal) (new old : Option Model) (es : List Event) → holding es old ≡ new → holding (accepted (replied r new old).answer es) old ≡ (replied r new old).model
told_tie (Ok x) new old es e = e
told_tie (Err f) new old es e = refl

load_tie : {Σ : Type 0} (v : ℕ) (ws : Option (List ℤ)) (start : Option (List ℕ)) (o : Option Model) (ss : List Σ) (trail : List Move) → holding (load_with v ws start o ss trail).events o ≡ (load_with v ws start o ss trail).model
load_tie v None start o ss trail = refl
load_tie v (Some ws) None o ss trail = refl
load_tie v (Some ws) (Some start) o ss trail = told_tie (and_then (table_checked v ws) (λ _. start_checked v start)) (Some (loaded v ws start)) o (begins v (clauses_of ws) start ∷ []) refl

restart_tie : {Σ : Type 0} (start : Option (List ℕ)) (o : Option Model) (ss : List Σ) (trail : List Move) → holding (restart_with start o ss trail).events o ≡ (restart_with start o ss trail).model
restart_tie None o ss trail = refl
restart_tie (Some start) None ss trail = refl
restart_tie (Some start) (Some m) ss trail = told_tie (start_checked m.variables start) (Some (restarted m start)) (Some m) (begins m.variables m.clauses start ∷ []) refl

flip_tie : (x : ℕ) (o : Option Model) → holding (accepted (flip_reply x o).answer (flips (x - 1) ∷ [])) o ≡ (flip_reply x o).model
flip_tie x None = refl
flip_tie x (Some m) = told_tie (and_then (in_range m.variables x) (λ _. ticks_left 1 m)) (Some (flipped (x - 1) m)) (Some m) (flips (x - 1) ∷ []) refl

weigh_tie : (o : Option Model) → holding (accepted (weigh_reply o).answer (weighs ∷ [])) o ≡ (weigh_reply o).model
weigh_tie None = refl
weigh_tie (Some m) = told_tie (ticks_left 1 m) (Some (ticked (weighed m))) (Some m) (weighs ∷ []) refl

module _ {Σ : Type 0} (f : Levels) (u : Meaning Σ) where
  step_tie_by : (b : Bool) (m : Model) (s : Σ) → leb (m.tick + 1) 1000000 ≡ b → holding (accepted (step_reply f u (Some m) s).answer (step_events f u s)) (Some m) ≡ (step_reply f u (Some m) s).model
  unfolding step_reply
  step_tie_by true m s e = rw e
  step_tie_by false m s e = rw e

  step_tie : (o : Option Model) (s : Σ) → holding (accepted (step_reply f u o s).answer (step_events f u s)) o ≡ (step_reply f u o s).model
  unfolding step_reply
  step_tie None s = refl
  step_tie (Some m) s = step_tie_by (leb (m.tick + 1) 1000000) m s refl

  onwards_tie : (m : Model) (s : Σ) (a : Stepped) (es : List Event) (r : Run Σ) → (stepped f (offer u s) m).answer ≡ a → holding es (Some (stepped f (offer u s) m).model) ≡ Some r.model → holding (onwards a (steps f (offer u s)) es) (Some m) ≡ Some (continued a r m s).model
  onwards_tie m s step.Found es r e h = refl
  onwards_tie m s step.Dry es r e h = ap Some (still f (offer u s) m (subst Still (sym e) tt))
  onwards_tie m s (step.Moved v) es r e h = h

  run_tie : (b : ℕ) (m : Model) (s : Σ) → holding (run_events f u b m s) (Some m) ≡ Some (run f u b m s).model
  run_tie zero m s = refl
  run_tie (suc b) m s =
      let a = stepped f (offer u s) m in
      onwards_tie m s a.answer (run_events f u b a.model (left u a.answer s)) (run f u b a.model (left u a.answer s)) refl (run_tie b a.model (left u a.answer s))

  ran_tie : (r : Result Unit Refusal) (b : ℕ) (m : Model) (s : Σ) → holding (accepted (ran_with r f u b m s).answer (run_events f u b m s)) (Some m) ≡ (ran_with r f u b m s).model
  ran_tie (Ok x) b m s = run_tie b m s
  ran_tie (Err e) b m s = refl

  run_reply_tie : (b : ℕ) (o : Option Model) (s : Σ) (trail : List Move) → holding (accepted (run_reply f u b o s trail).answer (run_events_of f u b o s)) o ≡ (run_reply f u b o s trail).model
  unfolding run_reply
  run_reply_tie b None s trail = refl
  run_reply_tie b (Some m) s trail = ran_tie (run_checked b trail m) b m s

module _ {Π Σ : Type 0} (lv : Π → Levels) (u : Meaning Σ) where
  step_with_tie : (p : Option Π) (s : Option Σ) (j : ℕ) (o : Option Model) (ss : List Σ) (trail : List Move) → holding (step_with lv u p s j o ss trail).events o ≡ (step_with lv u p s j o ss trail).model
  step_with_tie None s j o ss trail = refl
  step_with_tie (Some p) None j o ss trail = refl
  step_with_tie (Some p) (Some s) j o ss trail = step_tie (lv p) u o s

  run_with_tie : (p : Option Π) (s : Option Σ) (j b : ℕ) (o : Option Model) (ss : List Σ) (trail : List Move) → holding (run_with lv u p s j b o ss trail).events o ≡ (run_with lv u p s j b o ss trail).model
  run_with_tie None s j b o ss trail = refl
  run_with_tie (Some p) None j b o ss trail = refl
  run_with_tie (Some p) (Some s) j b o ss trail = run_reply_tie (lv p) u b o s trail

  module _ (ws : List ℤ) (starts : List ℕ) (ps : List Π) where
    perform_tie : (k : Call) (o : Option Model) (ss : List Σ) (trail : List Move) → holding (perform lv u ws starts ps k o ss trail).events o ≡ (perform lv u ws starts ps k o ss trail).model
    unfolding perform
    perform_tie (call.Load v p q) o ss trail = load_tie v (lent ws p) (lent starts q) o ss trail
    perform_tie (call.Restart q) o ss trail = restart_tie (lent starts q) o ss trail
    perform_tie (call.Flip x) o ss trail = flip_tie x o
    perform_tie call.Weigh o ss trail = weigh_tie o
    perform_tie (call.Step i j) o ss trail = step_with_tie (look ps i) (look ss j) j o ss trail
    perform_tie (call.Run i j b) o ss trail = run_with_tie (look ps i) (look ss j) j b o ss trail
    perform_tie (call.Ask q) o ss trail = refl

    pub went_tie : (ks : List Call) (o : Option Model) (ss : List Σ) (trail : List Move) → holding (went lv u ws starts ps ks o ss trail).history o ≡ (went lv u ws starts ps ks o ss trail).model
    went_tie [] o ss trail = refl
    went_tie (k ∷ ks) o ss trail =
        let p = perform lv u ws starts ps k o ss trail in
        let w = went lv u ws starts ps ks p.model p.sources p.trail in
        holding_append p.events w.history o ∙ ap (holding w.history) (perform_tie k o ss trail) ∙ went_tie ks p.model p.sources p.trail

-- a start that was accepted has a value for each variable
sized_by : (v : ℕ) (start : List ℕ) (b : Bool) → eqb (length start) v ≡ b → (x : Unit) → cond b (bytes_from 0 start) (Err (refused StartValues (length start))) ≡ Ok x → length start ≡ v
sized_by v start true e x h = eqb-true (length start) v e
sized_by v start false e x h = let z : ◌≡◌ {A = ℕ} 0 1 = cc in absurd (omega arith)

sized : (v : ℕ) (start : List ℕ) (x : Unit) → start_checked v start ≡ Ok x → length start ≡ v
sized v start x h = sized_by v start (eqb (length start) v) refl x h

begun_lawful : (r : Result Unit Refusal) (new old : Option Model) (v : ℕ) (cs : List (List ℤ)) (start : List ℕ) → ((x : Unit) → r ≡ Ok x → length start ≡ v) → AllByRecursion LawfulEvent (accepted (replied r new old).answer (begins v cs start ∷ []))
begun_lawful (Ok x) new old v cs start h = (h x refl, tt)
begun_lawful (Err f) new old v cs start h = tt

checked_both : {A : Type 0} (t : Result A Refusal) (v : ℕ) (start : List ℕ) (x : Unit) → and_then t (λ _. start_checked v start) ≡ Ok x → length start ≡ v
checked_both (Ok a) v start x h = sized v start x h
checked_both (Err f) v start x h = let z : ◌≡◌ {A = ℕ} 0 1 = cc in absurd (omega arith)

load_lawful : {Σ : Type 0} (v : ℕ) (ws : Option (List ℤ)) (start : Option (List ℕ)) (o : Option Model) (ss : List Σ) (trail : List Move) → AllByRecursion LawfulEvent (load_with v ws start o ss trail).events
load_lawful v None start o ss trail = tt
load_lawful v (Some ws) None o ss trail = tt
load_lawful v (Some ws) (Some start) o ss trail = begun_lawful (and_then (table_checked v ws) (λ _. start_checked v start)) (Some (loaded v ws start)) o v (clauses_of ws) start (checked_both (table_checked v ws) v start)

restart_lawful : {Σ : Type 0} (start : Option (List ℕ)) (o : Option Model) (ss : List Σ) (trail : List Move) → AllByRecursion LawfulEvent (restart_with start o ss trail).events
restart_lawful None o ss trail = tt
restart_lawful (Some start) None ss trail = tt
restart_lawful (Some start) (Some m) ss trail = begun_lawful (start_checked m.variables start) (Some (restarted m start)) (Some m) m.variables m.clauses start (sized m.variables start)

accepted_lawful : {A : Type 0} (r : Result A Refusal) (es : List Event) → AllByRecursion LawfulEvent es → AllByRecursion LawfulEvent (accepted r es)
accepted_lawful (Ok x) es h = h
accepted_lawful (Err f) es h = tt

module _ {Σ : Type 0} (f : Levels) (u : Meaning Σ) (l : LawfulLevels f) where
  onwards_lawful : (a : Stepped) (o : Option ℕ) (es : List Event) → AllByRecursion LawfulEvent es → AllByRecursion LawfulEvent (onwards a (steps f o) es)
  onwards_lawful step.Found o es h = tt
  onwards_lawful step.Dry o es h = (l, tt)
  onwards_lawful (step.Moved v) o es h = (l, h)

  run_lawful : (b : ℕ) (m : Model) (s : Σ) → AllByRecursion LawfulEvent (run_events f u b m s)
  run_lawful zero m s = tt
  run_lawful (suc b) m s = onwards_lawful (stepped f (offer u s) m).answer (offer u s) _ (run_lawful b (stepped f (offer u s) m).model (left u (stepped f (offer u s) m).answer s))

  run_of_lawful : (b : ℕ) (o : Option Model) (s : Σ) → AllByRecursion LawfulEvent (run_events_of f u b o s)
  run_of_lawful b None s = tt
  run_of_lawful b (Some m) s = run_lawful b m s

module _ {Π Σ : Type 0} (lv : Π → Levels) (l : (p : Π) → LawfulLevels (lv p)) (u : Meaning Σ) where
  step_with_lawful : (p : Option Π) (s : Option Σ) (j : ℕ) (o : Option Model) (ss : List Σ) (trail : List Move) → AllByRecursion LawfulEvent (step_with lv u p s j o ss trail).events
  step_with_lawful None s j o ss trail = tt
  step_with_lawful (Some p) None j o ss trail = tt
  step_with_lawful (Some p) (Some s) j o ss trail = accepted_lawful (step_reply (lv p) u o s).answer (step_events (lv p) u s) (l p, tt)

  run_with_lawful : (p : Option Π) (s : Option Σ) (j b : ℕ) (o : Option Model) (ss : List Σ) (trail : List Move) → AllByRecursion LawfulEvent (run_with lv u p s j b o ss trail).events
  run_with_lawful None s j b o ss trail = tt
  run_with_lawful (Some p) None j b o ss trail = tt
  run_with_lawful (Some p) (Some s) j b o ss trail = accepted_lawful (run_reply (lv p) u b o s trail).answer (run_events_of (lv p) u b o s) (run_of_lawful (lv p) u (l p) b o s)

  module _ (ws : List ℤ) (starts : List ℕ) (ps : List Π) where
    perform_lawful : (k : Call) (o : Option Model) (ss : List Σ) (trail : List Move) → AllByRecursion LawfulEvent (perform lv u ws starts ps k o ss trail).events
    unfolding perform
    perform_lawful (call.Load v p q) o ss trail = load_lawful v (lent ws p) (lent starts q) o ss trail
    perform_lawful (call.Restart q) o ss trail = restart_lawful (lent starts q) o ss trail
    perform_lawful (call.Flip x) o ss trail = accepted_lawful (flip_reply x o).answer (flips (x - 1) ∷ []) (tt, tt)
    perform_lawful call.Weigh o ss trail = accepted_lawful (weigh_reply o).answer (weighs ∷ []) (tt, tt)
    perform_lawful (call.Step i j) o ss trail = step_with_lawful (look ps i) (look ss j) j o ss trail
    perform_lawful (call.Run i j b) o ss trail = run_with_lawful (look ps i) (look ss j) j b o ss trail
    perform_lawful (call.Ask q) o ss trail = tt

    pub went_lawful : (ks : List Call) (o : Option Model) (ss : List Σ) (trail : List Move) → AllByRecursion LawfulEvent (went lv u ws starts ps ks o ss trail).history
    went_lawful [] o ss trail = tt
    went_lawful (k ∷ ks) o ss trail =
        let p = perform lv u ws starts ps k o ss trail in
        All-append LawfulEvent p.events _ (perform_lawful k o ss trail) (went_lawful ks p.model p.sources p.trail)
