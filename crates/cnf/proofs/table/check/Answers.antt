use Rattle.std.proofs.Common.{rules}
use Rattle.cnf.specs.Tables.{values_of, clauses_of}
use Rattle.cnf.proofs.Firsts.{names-first_broken}
use Rattle.cnf.proofs.table.check.Goals as goal

pub returns-in_err-check_table : goal.returns-in_err-check_table
returns-in_err-check_table c = record { value = search rules; names = names-first_broken (values_of c.args.start.now) (clauses_of c.args.words.now) }

pub returns-in_err-check_start : goal.returns-in_err-check_start
returns-in_err-check_start c = record { value = search rules; names = names-first_broken (values_of c.args.start.now) (clauses_of c.args.words.now) }

pub returns : goal.returns
returns c = record { value = search rules; names = names-first_broken (values_of c.args.start.now) (clauses_of c.args.words.now) }
