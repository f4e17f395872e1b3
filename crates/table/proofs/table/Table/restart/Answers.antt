use Rattle.std.proofs.Common.{get_or, refl, ap, ◌∙◌, arith}
use Rattle.table.specs.Rows.{row0, weight_at}
use Rattle.table.proofs.Begins.{no_weight, sound_begin, begun}
use Rattle.table.proofs.table.Table.restart.Goals as goal

pub level-requires-clause-sound : goal.level-requires-clause-sound
level-requires-clause-sound c =
    let h = c.reset_clauses.ensures.counted in
    sound_begin c.args.f.now c.args.start.now _ c.requires (λ k l. ap (λ rs. get_or rs k row0) c.reset_clauses.ensures.rows ∙ c.reset_rows.ensures.rows k l) (record { weights = h.weights; counts = h.counts }) refl refl refl

pub level-requires-clause-light : goal.level-requires-clause-light
level-requires-clause-light c = omega (arith, no_weight c.args.f.now (weight_at c.reset_clauses.new.self) c.reset_clauses.ensures.counted.weights)

pub returns : goal.returns
returns c =
    let h = c.reset_clauses.ensures.counted in
    begun c.args.f.now c.args.start.now _ c.requires (λ k l. ap (λ rs. get_or rs k row0) c.reset_clauses.ensures.rows ∙ c.reset_rows.ensures.rows k l) (record { weights = h.weights; counts = h.counts }) refl refl refl c.level.new.self c.level.ensures
