-- The load of a legal table and the run on it are accepted, and what they come to.
use Rattle.std.proofs.Common.{◌≡◌, ℕ, zero, suc, ◌+◌, ◌≤◌, List, [], ◌∷◌, length, take, min, replicate, ℤ, Some, None, Ok, refl, ap, ◌∙◌, arith}
use Rattle.std.proofs.lemmas.List.{length-replicate, take_all}
use Rattle.std.proofs.lemmas.List.Sums.{count_by-le-length}
use Rattle.std.proofs.lemmas.Bool.{cond-true, le-leb, and_from, eq-eqb}
use Rattle.cnf.specs.Scans.{and_then, bytes_from, start_checked}
use Rattle.cnf.specs.Tables.{Legal, clauses_of}
use Rattle.cnf.proofs.Legal.{legal_is_accepted}
use Rattle.policy.specs.declared.admission.Cca.{Cca}
use Rattle.policy.specs.declared.generator.Generator.{Generator}
use Rattle.policy.specs.Levels.{Levels}
use Rattle.policy.specs.Policies.{cca}
use Rattle.policy.specs.Generators.{generator, holding}
use Rattle.policy.specs.Sources.{Meaning}
use Rattle.state.specs.Model.{Model}
use Rattle.state.proofs.Truths.{pace, filling}
use Rattle.engine.specs.declared.answers.Move.{Move}
use Rattle.engine.specs.declared.answers.Stepped.{Stepped}
use Rattle.engine.specs.declared.answers.Stepped.TheVariants as step
use Rattle.engine.specs.Steps.{Run, run, stepped, offer, left, continued, is_dive, dives_in, counts}
use Rattle.engine.specs.Calls.{replied, load_reply, run_checked, ticks_left, run_reply, run_with}
use Rattle.engine.proofs.Going.{run_sound}
use Rattle.series.specs.declared.call.Part.{Part}
use Rattle.series.specs.declared.call.Call.{Call}
use Rattle.series.specs.declared.call.Call.TheVariants as call
use Rattle.series.specs.declared.call.Answer.TheVariants as answer
use Rattle.series.specs.Laws.{Event}
use Rattle.series.specs.Laws as laws
use Rattle.series.specs.Series.{lent, given, ran_as, Performed, told, load_with, perform, onto, went}
use Rattle.series.specs.Promises.{series}
use Rattle.rack.specs.Answers.{begins, ran}
use Rattle.rack.specs.Parts.{Holds, effort_of, load_and_run}

abbrev front : ℕ → Part
front n = record { from = 0; to = n }

lent_front : {A : Type 0} (xs : List A) (n : ℕ) → n ≤ length xs → lent xs (front n) ≡ Some (take n xs)
lent_front xs n h = cond-true _ _ _ (and_from _ _ (le-leb 0 n (omega arith)) (le-leb n (length xs) h)) ∙ ap (λ k. Some (take k xs)) (omega arith)

zeros_from : (i n : ℕ) → bytes_from i (replicate n 0) ≡ Ok tt
zeros_from i zero = refl
zeros_from i (suc n) = zeros_from (i + 1) n

zeros_checked : (v : ℕ) → start_checked v (replicate v 0) ≡ Ok tt
zeros_checked v = cond-true _ _ _ (eq-eqb _ _ (length-replicate v 0)) ∙ zeros_from 0 v

load_accepted : (v : ℕ) (ws : List ℤ) → Legal v ws → load_reply v ws (replicate v 0) None ≡ record { answer = Ok tt; model = Some (begins v ws) }
load_accepted v ws l =
    ap (λ r. replied (and_then r (λ _. start_checked v (replicate v 0))) (Some (begins v ws)) None) (legal_is_accepted v ws l)
    ∙ ap (λ r. replied r (Some (begins v ws)) None) (zeros_checked v)

checked : (b : ℕ) (trail : List Move) (m : Model) → b ≤ 65535 → b ≤ length trail → m.tick + b ≤ 1000000 → run_checked b trail m ≡ Ok tt
checked b trail m h k t =
    ap (λ r. and_then r (λ _. ticks_left b m)) (cond-true _ _ _ (and_from _ _ (le-leb b 65535 h) (le-leb b (length trail) k)))
    ∙ cond-true _ _ _ (le-leb (m.tick + b) 1000000 t)

module _ {Π Σ : Type 0} (lv : Π → Levels) (u : Meaning Σ) (ws : List ℤ) (starts : List ℕ) (p : Π) (s : Σ) (trail : List Move) where
  abbrev begin : ℕ → Event
  begin v = laws.begins v (clauses_of ws) (replicate v 0)

  -- what the load leaves
  abbrev after_load : ℕ → Performed Σ
  after_load v = told (record { answer = Ok tt; model = Some (begins v ws) }) (begin v ∷ []) (s ∷ []) trail

  loads : (v : ℕ) → Legal v ws → v ≤ length starts → take v starts ≡ replicate v 0 → perform lv u ws starts (p ∷ []) (call.Load v (front (length ws)) (front v)) None (s ∷ []) trail ≡ after_load v
  unfolding perform
  loads v l h z =
      ap (λ x. load_with v x (lent starts (front v)) None (s ∷ []) trail) (lent_front ws (length ws) (omega arith) ∙ ap Some (take_all (length ws) ws (omega arith)))
      ∙ ap (λ x. load_with v (Some ws) x None (s ∷ []) trail) (lent_front starts v h ∙ ap Some z)
      ∙ ap (λ r. told r (begin v ∷ []) (s ∷ []) trail) (load_accepted v ws l)

  module _ (b : ℕ) (m : Model) (h : b ≤ 65535) (k : b ≤ length trail) (t : m.tick + b ≤ 1000000) where
    reply_runs : run_reply (lv p) u b (Some m) s trail ≡ record { answer = Ok (counts (run (lv p) u b m s)); model = Some (run (lv p) u b m s).model; source = (run (lv p) u b m s).source }
    unfolding run_reply
    reply_runs = ap (λ r. run_with r (lv p) u b m s) (checked b trail m h k t)

    run_replies : (perform lv u ws starts (p ∷ []) (call.Run 0 0 b) (Some m) (s ∷ []) trail).reply ≡ Ok (ran_as (counts (run (lv p) u b m s)))
    unfolding perform
    run_replies = ap (λ d. given ran_as d.answer) reply_runs

    run_holds : (perform lv u ws starts (p ∷ []) (call.Run 0 0 b) (Some m) (s ∷ []) trail).model ≡ Some (run (lv p) u b m s).model
    unfolding perform
    run_holds = ap (λ d. d.model) reply_runs

  module _ (v b : ℕ) (l : Legal v ws) (n : v ≤ length starts) (z : take v starts ≡ replicate v 0) (h : b ≤ 65535) (k : b ≤ length trail) where
    -- the series with what the load leaves
    loaded-first : series lv u ws starts (p ∷ []) (load_and_run v (length ws) b) (s ∷ []) trail 2 ≡ onto (after_load v) (went lv u ws starts (p ∷ []) (call.Run 0 0 b ∷ []) (Some (begins v ws)) (s ∷ []) trail)
    loaded-first = ap (λ q. onto q (went lv u ws starts (p ∷ []) (call.Run 0 0 b ∷ []) q.model q.sources q.trail)) (loads v l n z)

    pub series-holds : (series lv u ws starts (p ∷ []) (load_and_run v (length ws) b) (s ∷ []) trail 2).model ≡ Some (run (lv p) u b (begins v ws) s).model
    series-holds = ap (λ w. w.model) loaded-first ∙ run_holds b (begins v ws) h k (omega arith)

    pub series_replies : (series lv u ws starts (p ∷ []) (load_and_run v (length ws) b) (s ∷ []) trail 2).replies ≡ Ok answer.Done ∷ Ok (ran_as (counts (run (lv p) u b (begins v ws) s))) ∷ []
    series_replies = ap (λ w. w.replies) loaded-first ∙ ap (λ r. Ok answer.Done ∷ r ∷ []) (run_replies b (begins v ws) h k (omega arith))

few_by : {Σ : Type 0} (a : Stepped) (r : Run Σ) (m : Model) (s : Σ) (b : ℕ) → length r.moves ≤ b → length (continued a r m s).moves ≤ suc b
few_by step.Found r m s b h = omega arith
few_by step.Dry r m s b h = omega arith
few_by (step.Moved v) r m s b h = omega arith

few : {Σ : Type 0} (f : Levels) (u : Meaning Σ) (b : ℕ) (m : Model) (s : Σ) → length (run f u b m s).moves ≤ b
few f u zero m s = omega arith
few f u (suc b) m s =
    let a = stepped f (offer u s) m in
    few_by a.answer (run f u b a.model (left u a.answer s)) m s b (few f u b a.model (left u a.answer s))

-- a run makes at most as many moves as it is given
pub ran_few : (seed b : ℕ) (m : Model) → length (ran seed b m).moves ≤ b
unfolding ran
ran_few seed b m = few cca generator b m (holding seed)

pub ran_dives : (seed b : ℕ) (m : Model) → dives_in (ran seed b m).moves ≤ b
ran_dives seed b m = omega (arith, count_by-le-length is_dive (ran seed b m).moves, ran_few seed b m)

-- 32 bits hold the steps and the dives of a run of so many moves
pub effort_is : (seed b : ℕ) (m : Model) → b ≤ 4294967295 → effort_of (Ok (ran_as (counts (ran seed b m)))) ≡ Ok (record { steps = length (ran seed b m).moves; dives = dives_in (ran seed b m).moves })
effort_is seed b m h =
    let s : min (length (ran seed b m).moves) 4294967295 ≡ length (ran seed b m).moves = omega (arith, ran_few seed b m) in
    let d : min (dives_in (ran seed b m).moves) 4294967295 ≡ dives_in (ran seed b m).moves = omega (arith, ran_dives seed b m) in
    λ i. Ok (record { steps = s i; dives = d i })

-- a run keeps the variables, and a value for each
pub ran-holds : (seed b v : ℕ) (ws : List ℤ) → Holds (Some (ran seed b (begins v ws)).model) v
unfolding ran
ran-holds seed b v ws =
    let r = run_sound cca generator b (begins v ws) (holding seed) (filling.start v (clauses_of ws) (replicate v 0) (length-replicate v 0)) (pace.start v (clauses_of ws) (replicate v 0)) in
    record { model = (run cca generator b (begins v ws) (holding seed)).model; is = refl; variables = r.variables; values = r.filled.values ∙ r.variables }

module _ (seed b v : ℕ) (ws : List ℤ) (starts : List ℕ) (p : Cca) (ks : List Call) (q : ks ≡ load_and_run v (length ws) b) (g : Generator) (e : g ≡ holding seed) (trail : List Move) (l : Legal v ws) (n : v ≤ length starts) (z : take v starts ≡ replicate v 0) (h : b ≤ 65535) (k : b ≤ length trail) where
  -- the engine holds what the run ends with
  pub ends : (series (λ (_ : Cca). cca) generator ws starts (p ∷ []) ks (g ∷ []) trail 2).model ≡ Some (ran seed b (begins v ws)).model
  unfolding ran
  ends =
      ap (λ x. (series (λ (_ : Cca). cca) generator ws starts (p ∷ []) x (g ∷ []) trail 2).model) q
      ∙ series-holds (λ _. cca) generator ws starts p g trail v b l n z h k
      ∙ ap (λ s. Some (run cca generator b (begins v ws) s).model) e

  -- the load is done, and the run has answered its counts
  pub replies : (series (λ (_ : Cca). cca) generator ws starts (p ∷ []) ks (g ∷ []) trail 2).replies ≡ Ok answer.Done ∷ Ok (ran_as (counts (ran seed b (begins v ws)))) ∷ []
  unfolding ran
  replies =
      ap (λ x. (series (λ (_ : Cca). cca) generator ws starts (p ∷ []) x (g ∷ []) trail 2).replies) q
      ∙ series_replies (λ _. cca) generator ws starts p g trail v b l n z h k
      ∙ ap (λ s. Ok answer.Done ∷ Ok (ran_as (counts (run cca generator b (begins v ws) s))) ∷ []) e
