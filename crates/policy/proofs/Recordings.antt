-- A recorded source gives its words in order.
use Rattle.std.proofs.Common.{◌≡◌, ℕ, zero, suc, ◌+◌, ◌<◌, ◌≤◌, true, ◌∷◌, length, get_or, take, drop, sym, refl, ap, ◌∙◌, add-one, arith, drop-cons, lt-ltb}
use Rattle.policy.specs.declared.recorded.Recorded.{Recorded}
use Rattle.policy.specs.Sources.{drawn}
use Rattle.policy.specs.Recordings.{recorded, remains, moved, WordsInOrder}

rest_in_order : (n : ℕ) (s : Recorded) → n + s.at ≤ length s.words.now → drawn recorded n s ≡ take n (drop s.at s.words.now)
rest_in_order zero s h = refl
rest_in_order (suc n) s h =
    let ws = s.words.now in
    let lt : s.at < length ws = omega arith in
    let on : remains s ≡ true = lt-ltb s.at (length ws) lt in
    let tail : drawn recorded n (moved s true) ≡ take n (drop (s.at + 1) ws) = rest_in_order n (moved s true) (omega arith) in
    ap (λ b. get_or ws s.at 0 ∷ drawn recorded n (moved s b)) on
    ∙ ap (λ ys. get_or ws s.at 0 ∷ ys) (tail ∙ ap (λ k. take n (drop k ws)) (add-one s.at))
    ∙ ap (take (suc n)) (sym (drop-cons ws s.at 0 lt))

pub words_in_order : WordsInOrder
words_in_order s n e h = rest_in_order n s (omega arith) ∙ ap (λ k. take n (drop k s.words.now)) e
