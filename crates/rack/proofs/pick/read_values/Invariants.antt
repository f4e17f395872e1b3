use Rattle.std.proofs.Common.{◌≡◌, length, take}
use Rattle.engine.specs.Engines.{held}
use Rattle.rack.specs.Parts.{Holds, bytes_in}
use Rattle.rack.proofs.pick.read_values.Given as goal

-- the bytes so far are those of the first values
abbrev pub invariant-loop-x : goal.invariant-loop-x
invariant-loop-x l = Holds (held l.engine) (length l.initial.values) → take l.x l.values ≡ take l.x (bytes_in (held l.engine))
