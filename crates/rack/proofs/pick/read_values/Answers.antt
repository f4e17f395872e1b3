use Rattle.std.proofs.Common.{false, length, sym, ap, ◌∙◌, arith}
use mir.Val.{bool_byte}
use Rattle.std.specs.Result.{result_unwrap_or}
use Rattle.engine.specs.Engines.{held}
use Rattle.rack.specs.Parts.{bytes_in}
use Rattle.rack.proofs.Values.{byte_at, bytes_long, read_more}
use Rattle.rack.proofs.pick.read_values.Goals as goal

pub loop-x-preserved : goal.loop-x-preserved
loop-x-preserved c =
    λ h.
    let o = held c.args.engine.now in
    let n = length c.args.values.now in
    let y = c.from.ensures ∙ ap bool_byte (c.unwrap_or.ensures ∙ ap (λ r. result_unwrap_or r false) c.value.ensures) in
    read_more c.loop-x.values (bytes_in o) c.loop-x.x c.from.result (omega arith) (bytes_long o n h ∙ sym c.loop-x.auto.values) (c.loop-x.invariant h) (y ∙ byte_at o n c.loop-x.x h (omega (arith, c.loop-x-test.true, c.loop-x.auto.values)))
