use Rattle.std.proofs.Common.{◌≡◌, ◌-◌, not, nat_abs, ap, ◌∙◌, w32}
use Rattle.std.proofs.lemmas.Int.{to_z-of_z}
use Rattle.cnf.specs.Tables.{values_of}
use Rattle.cnf.proofs.Clauses.{holds_plain, holds_negated}
use Rattle.cnf.proofs.table.literal_holds.Goals as goal

pub returns-then-word-gt0 : goal.returns-then-word-gt0
returns-then-word-gt0 c =
    let z = to_z-of_z w32 c.args.word c.ranges.word in
    let v : c.unsigned_abs-variable.result ≡ nat_abs c.args.word = c.unsigned_abs-variable.ensures.value ∙ ap nat_abs z in
    c.value_at-value.ensures ∙ ap (λ n. values_of c.args.start.now (n - 1)) v ∙ holds_plain (values_of c.args.start.now) c.args.word (simp z at c.if-word-gt0.true)

pub returns-else-word-gt0 : goal.returns-else-word-gt0
returns-else-word-gt0 c =
    let z = to_z-of_z w32 c.args.word c.ranges.word in
    let v : c.unsigned_abs-variable.result ≡ nat_abs c.args.word = c.unsigned_abs-variable.ensures.value ∙ ap nat_abs z in
    ap not (c.value_at-value.ensures ∙ ap (λ n. values_of c.args.start.now (n - 1)) v) ∙ holds_negated (values_of c.args.start.now) c.args.word (simp v at c.if-variable-eq0.false) (simp z at c.if-word-gt0.false)
