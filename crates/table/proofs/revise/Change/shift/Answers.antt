use Rattle.std.proofs.Common.{◌≡◌, ◌^◌, ◌<◌, ◌-ℤ◌, sym, ◌∙◌, subst, ap₂, rules}
use Rattle.table.proofs.Shares.{gain_within, read_sub}
use Rattle.table.specs.Rows.{gain_z, shift_z, Within}
use Rattle.table.proofs.revise.Change.shift.Goals as goal

pub returns : goal.returns
unfolding shift_z
returns c =
    let p = ap₂ (gain_z c.args.self.after.weight c.args.self.after.count) c.true_at-t.ensures c.true_at-f.ensures in
    let q = ap₂ (gain_z c.args.self.before.weight c.args.self.before.count) c.true_at-t.ensures c.true_at-f.ensures in
    let r : c.gain.result -ℤ c.gain-2.result ≡ shift_z c.args.self.before c.args.self.after c.args.value c.args.e =
    ap₂ ◌-ℤ◌ (c.gain.ensures ∙ p) (c.gain-2.ensures ∙ q) in
    let wa : c.args.self.after.weight < 2 ^ 32 = search rules in
    let wb : c.args.self.before.weight < 2 ^ 32 = search rules in
    read_sub c.gain.result c.gain-2.result
    (subst Within (sym c.gain.ensures) (gain_within c.args.self.after.weight c.args.self.after.count c.true_at-t.result c.true_at-f.result wa))
    (subst Within (sym c.gain-2.ensures) (gain_within c.args.self.before.weight c.args.self.before.count c.true_at-t.result c.true_at-f.result wb))
    ∙ r
