use Rattle.std.proofs.Common.{◌≡◌, ℕ, ◌+◌, length, get_or, ℤ, ◌+ℤ◌, unwrap_or, sym, refl, ◌∙◌, subst, arith}
use Rattle.std.proofs.lemmas.Bool.{and_right}
use Rattle.formula.proofs.Counts.{count_le, named_at}
use Rattle.table.proofs.Inside.{Partly, done, partly_start, partly_as, done_skip, turned, entry_score, entry_before, entry_after, entry_done, apart_if, same_if}
use Rattle.table.proofs.table.Table.revise_entries.Goals as goal
use Rattle.formula.specs.Clauses.{flip_at}
use Rattle.formula.specs.Entries.{count, Distinct, entry0}
use Rattle.table.specs.Rows.{turn, Within, value_at, score_at}
use Rattle.table.proofs.table.Table.revise_entries.Goals.{then-ne, else-ne}

pub loop-e-init : goal.loop-e-init
loop-e-init c = partly_start _ _ _ c.args.self.now (λ y. and_right _ _ refl)

pub loop-e-preserved : goal.loop-e-preserved
loop-e-preserved c =
    let es = c.args.es.now in
    let x = unwrap_or c.args.flipped 256 in
    let t = c.args.self.now in
    let j = c.loop-e.e-index in
    let new : ℕ → ℤ = λ y. score_at t y +ℤ turn c.args.change.before.weight c.args.change.after.weight (value_at t) (flip_at x (value_at t)) es y in
    elim c.if-ne.branch [
      | then-ne w ↦
          subst (Partly c.args.mark (done es x (j + 1)) new t) (sym w.self-is)
          (entry_done es c.args.change.before c.args.change.after x c.args.mark t c.loop-e.self j c.loop-e-test.true c.requires.es_len_bound.1 c.requires.count_value.0 c.requires.count_value.1 (apart_if c.args.flipped _ (omega arith) (sym c.ne.ensures ∙ w.if-ne.true)) c.loop-e.invariant w.revise_entry.new.self (omega arith) w.revise_entry.ensures)
      | else-ne w ↦
          subst (Partly c.args.mark (done es x (j + 1)) new t) (sym w.self-is)
          (partly_as c.args.mark (done es x j) (done es x (j + 1)) new t c.loop-e.self (done_skip es x j c.loop-e-test.true (same_if c.args.flipped _ (sym c.ne.ensures ∙ w.if-ne.false))) c.loop-e.invariant)
    ]

pub returns : goal.returns
returns c =
    let es = c.args.es.now in
    let x = unwrap_or c.args.flipped 256 in
    let t = c.args.self.now in
    let e : c.loop-e.e-index ≡ length es = omega arith in
    turned es c.args.change.before.weight c.args.change.after.weight x c.args.mark t c.loop-e.self
    (subst (λ k. Partly c.args.mark (done es x k) (λ y. score_at t y +ℤ turn c.args.change.before.weight c.args.change.after.weight (value_at t) (flip_at x (value_at t)) es y) t c.loop-e.self) e c.loop-e.invariant)

pub revise_entry-requires : goal.revise_entry-requires
revise_entry-requires c =
    let es = c.args.es.now in
    let x = unwrap_or c.args.flipped 256 in
    let t = c.args.self.now in
    let j = c.loop-e.e-index in
    let ne : (get_or es j entry0).variable ≡ x → ⊥ = apart_if c.args.flipped _ (omega arith) (sym c.ne.ensures ∙ c.if-ne.true) in
    let n = count_le (value_at t) es in
    let m = count_le (flip_at x (value_at t)) es in
    let d : Distinct es = c.requires.es_len_bound.1 in
    let en : c.args.change.before.count ≡ count (value_at t) es = c.requires.count_value.0 in
    let em : c.args.change.after.count ≡ count (flip_at x (value_at t)) es = c.requires.count_value.1 in
    record {
      count_bound = (omega arith, omega arith);
      e_bound = (
        entry_before es c.args.change.before c.args.change.after x c.args.mark t c.loop-e.self j c.loop-e-test.true d en em ne c.loop-e.invariant,
        entry_after es c.args.change.before c.args.change.after x c.args.mark t c.loop-e.self j c.loop-e-test.true d en em ne c.loop-e.invariant,
      );
      within = subst Within (sym (entry_score es c.args.change.before c.args.change.after x c.args.mark t c.loop-e.self j c.loop-e-test.true d en em ne c.loop-e.invariant))
          (c.requires.by_index (get_or es j entry0).variable ne (named_at es j c.loop-e-test.true));
    }
