use Rattle.std.proofs.Common.{◌≡◌, ◌≤◌, [], ◌∷◌, ◌++◌, length, get_or, drop, replicate, Some, Ok, sym, ap, ◌∙◌, subst, arith}
use Rattle.std.proofs.lemmas.List.{take-replicate}
use Rattle.policy.specs.Generators.{holding}
use Rattle.engine.specs.Steps.{counts}
use Rattle.engine.specs.Engines.{held}
use Rattle.series.specs.declared.call.Answer.TheVariants.{Done}
use Rattle.series.specs.Series.{ran_as}
use Rattle.rack.specs.Answers.{begins, run_on}
use Rattle.rack.specs.Parts.{bytes_in, effort_of, Holds}
use Rattle.rack.proofs.Runs.{ends, replies, effort_is, ran-holds}
use Rattle.rack.proofs.pick.play.Goals as goal
use Rattle.rack.proofs.pick.play.Goals.{After-replay-engine}

-- the generator is the one with the seed
seeds : (c : After-replay-engine) → c.in_ok-new.field-0 ≡ holding 1
seeds c =
    let e = c.new.ensures.start in
    let w = c.in_ok-new.was in
    cc

model_is : (c : After-replay-engine) → length c.args.trail.now ≡ 1000 → held c.replay-engine.result ≡ Some (run_on c.args.variables c.args.words.now).model
model_is c t =
    let few : c.args.variables ≤ 256 = c.requires.table.variables.1 in
    c.replay-engine.ensures.gives.model ∙ ends 1 1000 c.args.variables c.args.words.now (replicate 256 0) _ c.load_and_run-calls.result c.load_and_run-calls.ensures c.in_ok-new.field-0 (seeds c) c.args.trail.now c.requires.table few (take-replicate c.args.variables 256 0 few) (omega arith) (omega (arith, t))

answer_is : (c : After-replay-engine) → length c.args.trail.now ≡ 1000 → get_or c.replay-engine.new.answers 1 (Ok Done) ≡ Ok (ran_as (counts (run_on c.args.variables c.args.words.now)))
answer_is c t =
    let few : c.args.variables ≤ 256 = c.requires.table.variables.1 in
    let r = replies 1 1000 c.args.variables c.args.words.now (replicate 256 0) _ c.load_and_run-calls.result c.load_and_run-calls.ensures c.in_ok-new.field-0 (seeds c) c.args.trail.now c.requires.table few (take-replicate c.args.variables 256 0 few) (omega arith) (omega (arith, t)) in
    ap (λ l. get_or l 1 (Ok Done)) (c.replay-engine.ensures.gives.replies ∙ ap (λ l. l ++ drop (length l) (Ok Done ∷ Ok Done ∷ [])) r)

pub returns : goal.returns
returns c =
    let k = (goal.at.returns c).After-replay-engine in
    let v = c.args.variables in
    let ws = c.args.words.now in
    record {
      counts = λ t. c.effort.ensures ∙ ap effort_of (answer_is k t) ∙ effort_is 1 1000 (begins v ws) (omega arith);
      values = λ t.
          let e = model_is k t in
          let h = subst (λ o. Holds o (length c.args.values.now)) (sym e) (subst (λ n. Holds (Some (run_on v ws).model) n) (sym c.requires.values) (ran-holds 1 1000 v ws)) in
          c.read_values.ensures h ∙ ap bytes_in e;
    }
