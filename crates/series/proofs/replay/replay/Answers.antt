use Rattle.std.proofs.Common.{◌≡◌, ◌<◌, ◌≤◌, length, get_or, take, None, sym, ◌∙◌, arith}
use Rattle.std.proofs.lemmas.List.{length-take, get_or-take}
use Rattle.engine.specs.Engines.{held}
use Rattle.engine.proofs.Exacts.{keeps_exact}
use Rattle.series.specs.Promises.{series}
use Rattle.series.proofs.Rests.{rest_more, rest_all}
use Rattle.series.proofs.Ties.{went_tie, went_lawful}
use Rattle.series.proofs.Histories.{histories_hold}
use Rattle.series.proofs.Means.{run_means}
use Rattle.series.proofs.Firsts.{picks_the_first, dives_to_the_top}
use Rattle.series.proofs.replay.replay.Goals as goal

pub loop-i-preserved : goal.loop-i-preserved
loop-i-preserved g c =
    let lv = g.P.Policy.level in
    let u = g.S.Source.meaning in
    let n = length c.args.answers.now in
    let ks = take n c.args.calls.now in
    let i = c.loop-i.i in
    let k = c.in-Some.call.now in
    let l : i < length c.args.calls.now = c.in-Some.ensures.lookup.3.0 in
    let h : i < n = omega (arith, c.loop-i-test.true, c.loop-i.auto.answers) in
    let e : k ≡ get_or ks i k = c.in-Some.ensures.lookup.1 ∙ sym (get_or-take n c.args.calls.now i k h) in
    rest_more lv u c.args.lent.words.now c.args.lent.starts.now c.args.lent.policies.now ks c.args.answers.now (series lv u c.args.lent.words.now c.args.lent.starts.now c.args.lent.policies.now c.args.calls.now c.args.sources.now c.args.trail.now n) i (held c.loop-i.engine) c.loop-i.sources c.loop-i.trail c.loop-i.answers c.loop-i.invariant k c.perform.result (held c.perform.new.engine) c.perform.new.sources c.perform.new.trail (omega (arith, length-take n c.args.calls.now)) (omega (arith, c.loop-i.auto.answers)) e c.perform.ensures.reply c.perform.ensures.model c.perform.ensures.sources c.perform.ensures.trail

pub returns-after-loop-i : goal.returns-after-loop-i
returns-after-loop-i g c =
    let lv = g.P.Policy.level in
    let u = g.S.Source.meaning in
    let n = length c.args.answers.now in
    let ks = take n c.args.calls.now in
    let w = series lv u c.args.lent.words.now c.args.lent.starts.now c.args.lent.policies.now c.args.calls.now c.args.sources.now c.args.trail.now n in
    let l : length ks ≤ c.loop-i.i = omega (arith, length-take n c.args.calls.now, c.loop-i-test.false, c.loop-i.auto.answers) in
    let r = rest_all lv u c.args.lent.words.now c.args.lent.starts.now c.args.lent.policies.now ks c.args.answers.now w c.loop-i.i (held c.loop-i.engine) c.loop-i.sources c.loop-i.trail c.loop-i.answers c.loop-i.invariant l in
    record {
      gives = r;
      history = record {
        leads = went_tie lv u c.args.lent.words.now c.args.lent.starts.now c.args.lent.policies.now ks None c.args.sources.now c.args.trail.now ∙ sym r.model;
        holds = histories_hold w.history (went_lawful lv g.P.Policy.lawful u c.args.lent.words.now c.args.lent.starts.now c.args.lent.policies.now ks None c.args.sources.now c.args.trail.now);
      };
      exact = keeps_exact;
      laws = record { histories = histories_hold; runs = λ f u b m s. run_means f u b m s; picks = λ f m. picks_the_first m f; dives = λ m i. dives_to_the_top m i };
    }

pub returns-in_default-clause-history : goal.returns-in_default-clause-history
returns-in_default-clause-history g c =
    let lv = g.P.Policy.level in
    let u = g.S.Source.meaning in
    let n = length c.args.answers.now in
    let ks = take n c.args.calls.now in
    let w = series lv u c.args.lent.words.now c.args.lent.starts.now c.args.lent.policies.now c.args.calls.now c.args.sources.now c.args.trail.now n in
    let l : length ks ≤ c.loop-i.i = omega (arith, length-take n c.args.calls.now, c.in_default.ensures.lookup.3) in
    let r = rest_all lv u c.args.lent.words.now c.args.lent.starts.now c.args.lent.policies.now ks c.args.answers.now w c.loop-i.i (held c.loop-i.engine) c.loop-i.sources c.loop-i.trail c.loop-i.answers c.loop-i.invariant l in
    record {
      leads = went_tie lv u c.args.lent.words.now c.args.lent.starts.now c.args.lent.policies.now ks None c.args.sources.now c.args.trail.now ∙ sym r.model;
      holds = histories_hold w.history (went_lawful lv g.P.Policy.lawful u c.args.lent.words.now c.args.lent.starts.now c.args.lent.policies.now ks None c.args.sources.now c.args.trail.now);
    }

pub returns-in_default-clause-exact : goal.returns-in_default-clause-exact
returns-in_default-clause-exact g c = keeps_exact

pub returns-in_default-clause-laws : goal.returns-in_default-clause-laws
returns-in_default-clause-laws g c = record { histories = histories_hold; runs = λ f u b m s. run_means f u b m s; picks = λ f m. picks_the_first m f; dives = λ m i. dives_to_the_top m i }
