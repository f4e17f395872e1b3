use Rattle.std.proofs.Common.{◌≡◌, ℕ, ◌+◌, ◌-◌, ◌*◌, ◌/◌, ◌<◌, ◌≤◌, false, List, length, get_or, take, drop, ap, ◌∙◌, subst, ⊎_elim, arith}
use Rattle.std.proofs.lemmas.Bool.{cases_lt}
use Rattle.std.proofs.lemmas.List.{get_or-take, get_or-drop, length-drop, length-take}
use Rattle.bitset.specs.Bits.{bit_at, has}
use Rattle.bitset.specs.Sets.{LowestAt}
use Rattle.bitset.proofs.Members.{has_in, has_outside}
use Rattle.bitset.proofs.set.BitSet.first_from.Goals as goal

-- the word that a turn meets
met : (ws : List ℕ) (f i : ℕ) → i < 16 - f → get_or (take (16 - f) (drop f ws)) i 0 ≡ get_or ws (f + i) 0
met ws f i l = get_or-take (16 - f) (drop f ws) i 0 l ∙ get_or-drop f ws i 0

-- nothing below the place k of the word w
further : (ws : List ℕ) (from w low k : ℕ) → k ≤ 64 → ((j : ℕ) → from ≤ j → j < w * 64 + low → has ws j ≡ false) → ((j : ℕ) → low ≤ j → j < k → bit_at (get_or ws w 0) j ≡ false) → (j : ℕ) → from ≤ j → j < w * 64 + k → has ws j ≡ false
further ws from w low k l h g j p q =
    ⊎_elim
    (λ (a : j < w * 64 + low). h j p a)
    (λ (a : w * 64 + low ≤ j). has_in ws w j (omega arith) (omega arith) ∙ g (j - w * 64) (omega arith) (omega arith))
    (cases_lt j (w * 64 + low))

pub returns-in-Some : goal.returns-in-Some
returns-in-Some c =
    let ws = c.args.self.now.words in
    let f = c.args.from / 64 in
    let w = f + c.loop-i.i in
    let k = c.in-Some.place in
    let n : length (take (16 - f) (drop f ws)) ≤ 16 - f = omega (arith, length-take (16 - f) (drop f ws)) in
    let i : c.loop-i.i < 16 - f = omega (arith, c.loop-i-test.true) in
    let at : LowestAt (get_or ws w 0) c.loop-i.low k = subst (λ x. LowestAt x c.loop-i.low k) (met ws f c.loop-i.i i) c.in-Some.ensures in
    let z : w * 64 + k - w * 64 ≡ k = omega arith in
    record {
      from = omega (arith, c.loop-i.invariant.0, at.from);
      below = omega (arith, at.below);
      passes = has_in ws w (w * 64 + k) (omega arith) (omega (arith, at.below)) ∙ (ap (bit_at (get_or ws w 0)) z ∙ at.set);
      before = further ws c.args.from w c.loop-i.low k (omega (arith, at.below)) c.loop-i.invariant.2 at.before;
    }

pub loop-i-preserved : goal.loop-i-preserved
loop-i-preserved c =
    let ws = c.args.self.now.words in
    let f = c.args.from / 64 in
    let w = f + c.loop-i.i in
    let n : length (take (16 - f) (drop f ws)) ≤ 16 - f = omega (arith, length-take (16 - f) (drop f ws)) in
    let i : c.loop-i.i < 16 - f = omega (arith, c.loop-i-test.true) in
    let none : (j : ℕ) → c.loop-i.low ≤ j → j < 64 → bit_at (get_or ws w 0) j ≡ false = subst (λ x. (j : ℕ) → c.loop-i.low ≤ j → j < 64 → bit_at x j ≡ false) (met ws f c.loop-i.i i) c.in_default.ensures in
    (omega (arith, c.loop-i.invariant.0, c.loop-i.invariant.1), omega arith, λ j p q. further ws c.args.from w c.loop-i.low 64 (omega arith) c.loop-i.invariant.2 none j p (omega arith))

pub returns : goal.returns
returns c = λ j p.
    let s = c.args.self.now in
    let f = c.args.from / 64 in
    let n : length (take (16 - f) (drop f s.words)) ≡ 16 - f = omega (arith, length-take (16 - f) (drop f s.words), length-drop f s.words, s.size) in
    ⊎_elim
    (λ (a : j < 1024). c.loop-i.invariant.2 j p (omega (arith, c.loop-i-test.false, c.requires)))
    (λ (a : 1024 ≤ j). has_outside s.words j s.size a)
    (cases_lt j 1024)
