-- One step of the checks that go over a list, at the place i of it.
use Rattle.std.proofs.Common.{◌≡◌, ℕ, ◌+◌, ◌<◌, ◌≤◌, Bool, true, false, cond, List, [], ◌∷◌, length, get_or, drop, ℤ, pos, Ok, Err, Result, Some, None, Option, sym, refl, ap, ◌∙◌}
use Rattle.std.specs.Prelude.{nat_le, nat_lt}
use Rattle.std.specs.List.{position_from}
use Rattle.std.proofs.lemmas.List.{at_drop_more, at_drop_all}
use Rattle.std.proofs.lemmas.Bool.{cond-true, cond-false, le-leb, lt-leb, ltb-true, ltb-false, eq-eqb, and_from}
use Rattle.cnf.specs.declared.refusal.Check.TheVariants.{StartValues}
use Rattle.cnf.specs.declared.refusal.Refusal.{Refusal}
use Rattle.cnf.specs.declared.tally.Tally.{Tally}
use Rattle.cnf.specs.Refusals.{refused}
use Rattle.cnf.specs.Scans.{and_then, placed, no_words, tallied, tallied_from, closed, within, table_checked, bytes_from, start_checked}

-- what the place of the first byte above 1 says of a start
abbrev pub found_bad : Option ℕ → Result Unit Refusal
found_bad None = Ok tt
found_bad (Some p) = Err (refused StartValues p)

pub bytes_found : (i : ℕ) (bs : List ℕ) → found_bad (position_from (nat_lt 1) i bs) ≡ bytes_from i bs
bytes_found i [] = refl
bytes_found i (b ∷ bs) = by (nat_lt 1 b) (bytes_found (i + 1) bs) refl
  where
    by : (t : Bool) → found_bad (position_from (nat_lt 1) (i + 1) bs) ≡ bytes_from (i + 1) bs → nat_lt 1 b ≡ t → found_bad (cond t (Some i) (position_from (nat_lt 1) (i + 1) bs)) ≡ cond (nat_le b 1) (bytes_from (i + 1) bs) (Err (refused StartValues i))
    by true more e = sym (cond-false _ _ _ (lt-leb b 1 (ltb-true 1 b e)))
    by false more e = more ∙ sym (cond-true _ _ _ (le-leb b 1 (ltb-false 1 b e)))

pub start_sized : (v : ℕ) (bs : List ℕ) → length bs ≡ v → bytes_from 0 bs ≡ start_checked v bs
start_sized v bs e = sym (cond-true _ _ _ (eq-eqb (length bs) v e))

module _ (v : ℕ) (t : Tally) (ws : List ℤ) (i : ℕ) (h : i < length ws) where
  pub tally_more : (u : Tally) → placed (tallied v t (get_or ws i (pos 0))) i ≡ Ok u → tallied_from v u (i + 1) (drop (i + 1) ws) ≡ tallied_from v t i (drop i ws)
  tally_more u e = sym (at_drop_more (tallied_from v t i) ws i (pos 0) h ∙ ap (λ r. and_then r (λ u. tallied_from v u (i + 1) (drop (i + 1) ws))) e)

  pub tally_stops : (r : Refusal) → placed (tallied v t (get_or ws i (pos 0))) i ≡ Err r → tallied_from v t i (drop i ws) ≡ Err r
  tally_stops r e = at_drop_more (tallied_from v t i) ws i (pos 0) h ∙ ap (λ r. and_then r (λ u. tallied_from v u (i + 1) (drop (i + 1) ws))) e

pub tally_none : (v : ℕ) (t : Tally) (ws : List ℤ) (i : ℕ) → length ws ≤ i → tallied_from v t i (drop i ws) ≡ Ok t
tally_none v t ws i h = at_drop_all (tallied_from v t i) ws i h

within-from : (a b x : ℕ) → a ≤ x → x ≤ b → within a b x ≡ true
within-from a b x l u = and_from _ _ (le-leb a x l) (le-leb x b u)

-- what the words give decides the table, once the number of variables is within its limits
pub table_by : (v : ℕ) (ws : List ℤ) → 1 ≤ v → v ≤ 256 → (r : Result Tally Refusal) → tallied_from v no_words 0 ws ≡ r → table_checked v ws ≡ and_then r (closed (length ws))
table_by v ws l u r e = cond-true _ _ _ (within-from 1 256 v l u) ∙ ap (λ s. and_then s (closed (length ws))) e
