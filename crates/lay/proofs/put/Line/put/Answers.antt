use Rattle.std.proofs.Common.{◌≡◌, ◌+◌, ◌≤◌, ◌++◌, length, decimal, ap, ◌∙◌, append_assoc, rules}
use Rattle.lay.specs.Laid.{laid}
use Rattle.lay.specs.Lines.{line_of}
use Rattle.lay.proofs.Laying.{Stands, stands_more, stands_put}
use Rattle.lay.proofs.put.Line.put.Goals as goal

pub returns : goal.returns
returns c =
    let out = c.args.out.now in
    let at = c.args.at in
    let l = c.args.self.now in
    let a = l.before.now in
    let m = decimal l.first in
    let b = l.between.now in
    let n = decimal l.second in
    let d = l.after.now in
    let h : at ≤ length out = search rules in
    let room : at + length (line_of l) ≤ length out = search rules in
    let s0 : Stands out at a c.lay_bytes-first.new.out c.lay_bytes-first.result = record { bytes = c.lay_bytes-first.ensures.bytes; end = c.lay_bytes-first.ensures.end } in
    let s1 = stands_more out at a _ _ m _ _ h s0 c.lay_number-between.ensures.bytes c.lay_number-between.ensures.end in
    let s2 = stands_more out at (a ++ m) _ _ b _ _ h s1 c.lay_bytes-second.ensures.bytes c.lay_bytes-second.ensures.end in
    let s3 = stands_more out at ((a ++ m) ++ b) _ _ n _ _ h s2 c.lay_number-after.ensures.bytes c.lay_number-after.ensures.end in
    let s4 = stands_more out at (((a ++ m) ++ b) ++ n) _ _ d _ _ h s3 c.lay_bytes.ensures.bytes c.lay_bytes.ensures.end in
    let whole : (((a ++ m) ++ b) ++ n) ++ d ≡ line_of l = simp append_assoc in
    let s : Stands out at (line_of l) c.lay_bytes.new.out c.lay_bytes.result = record { bytes = s4.bytes ∙ ap (laid out at) whole; end = s4.end ∙ ap (λ x. at + length x) whole } in
    stands_put out at (line_of l) c.lay_bytes.new.out c.lay_bytes.result s room
