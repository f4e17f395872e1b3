use Rattle.std.proofs.Common.{◌≡◌, Ok, Result, ap, ◌∙◌}
use Rattle.cnf.specs.declared.refusal.Refusal.{Refusal}
use Rattle.policy.specs.declared.generator.Generator.{Generator}
use Rattle.policy.specs.Generators.{generator, holding, seeded}
use Rattle.policy.specs.Sources.{after_draws}
use Rattle.generator_run.proofs.ten_thousandth.Goals as goal

pub returns : goal.returns
returns c =
    let start : ◌≡◌ {A = Result Generator Refusal} (Ok c.in_ok-generator.generator) (seeded 1) = c.in_ok-generator.ensures.start in
    let one : c.in_ok-generator.generator ≡ holding 1 = cc in
    ap Ok (c.number_after.ensures ∙ ap (λ g. generator.number (after_draws generator 9999 g)) one)
