-- Bytes laid behind bytes that are laid already.
use Rattle.std.proofs.Common.{◌≡◌, ℕ, ◌+◌, ◌<◌, ◌≤◌, List, [], ◌∷◌, ◌++◌, length, take, drop, set, Some, sym, refl, ap, ◌∙◌, append_assoc, add-one, arith, length-append, rules}
use borrow.Rule.Slice.PartMut.{put_mid}
use Rattle.std.proofs.lemmas.List.{set_split, drop-drop}
use Rattle.std.proofs.lemmas.Slice.{overwrites, take-put_mid, drop-put_mid}
use Rattle.std.proofs.lemmas.Bool.{cond-true, le-leb}
use Rattle.lay.specs.Laid.{laid, put}

-- one byte
pub laid_one : (out : List ℕ) (at b : ℕ) → at < length out → set out at b ≡ laid out at (b ∷ [])
laid_one out at b h = rw add-one (set_split out at b h)

laid_is : (out a : List ℕ) (at : ℕ) → laid out at a ≡ put_mid at (length a) out a
laid_is out a at = ap (λ (x : List ℕ). take at out ++ (a ++ x)) (sym (drop-drop (length a) at out))

-- bytes laid right behind others are laid with them
pub laid-laid : (out a b : List ℕ) (at : ℕ) → at ≤ length out → laid (laid out at a) (at + length a) b ≡ laid out at (a ++ b)
laid-laid out a b at h =
    let n : ℕ = at + length a in
    let long : n + length b ≡ at + length (a ++ b) = search (rules, overwrites) in
    ap (λ (x : List ℕ). laid x n b) (laid_is out a at)
    ∙ ap (λ (x : List ℕ). x ++ (b ++ drop (n + length b) (put_mid at (length a) out a))) (take-put_mid at (length a) out a n refl h)
    ∙ ap (λ (x : List ℕ). (take at out ++ a) ++ (b ++ x)) (drop-put_mid at (length a) out a (n + length b) (omega arith) h refl)
    ∙ append_assoc (take at out) a (b ++ drop (n + length b) out)
    ∙ ap (λ (x : List ℕ). take at out ++ x) (sym (append_assoc a b (drop (n + length b) out)) ∙ ap (λ (k : ℕ). (a ++ b) ++ drop k out) long)

pub length-laid : (out a : List ℕ) (at : ℕ) → at + length a ≤ length out → length (laid out at a) ≡ length out
length-laid out a at h = search (rules, overwrites)

-- o is out with the bytes bs laid from at on, and k is the place after them
pub record Stands (out : List ℕ) (at : ℕ) (bs o : List ℕ) (k : ℕ) : Type 0 where
  pub bytes : o ≡ laid out at bs
  pub end : k ≡ at + length bs

-- further bytes laid at that place stand with them
pub stands_more : (out : List ℕ) (at : ℕ) (bs o : List ℕ) (k : ℕ) (more next : List ℕ) (j : ℕ) → at ≤ length out → Stands out at bs o k → next ≡ laid o k more → j ≡ k + length more → Stands out at (bs ++ more) next j
stands_more out at bs o k more next j h s e l =
    let b = s.bytes in
    let d = s.end in
    let together : laid (laid out at bs) (at + length bs) more ≡ laid out at (bs ++ more) = laid-laid out bs more at h in
    record { bytes = cc; end = simp length-append (omega arith) }

-- bytes that stand where they fit are put
pub stands_put : (out : List ℕ) (at : ℕ) (bs o : List ℕ) (k : ℕ) → Stands out at bs o k → at + length bs ≤ length out → (Some k, o) ≡ put out at bs
stands_put out at bs o k s h = ap (λ j. (Some j, o)) s.end ∙ ap (λ x. (Some (at + length bs), x)) s.bytes ∙ sym (cond-true _ _ _ (le-leb _ _ h))
