use Rattle.std.proofs.Common.{length-append, rules}
use Rattle.lay.proofs.Laying.{laid-laid}
use Rattle.lay.proofs.put.put_number.Goals as goal

pub returns : goal.returns
returns c = search (rules, laid-laid, length-append)
