use Rattle.std.proofs.Common.{arith, rules}
use Rattle.policy.proofs.Generators.{run}
use Rattle.policy.proofs.generator.Generator.new.Goals as goal

pub returns : goal.returns
returns c = record { start = search rules; run = run c.args.seed (omega arith) (omega arith) }
