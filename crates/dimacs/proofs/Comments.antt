-- Comment lines, and what stands behind them.
use Rattle.std.proofs.Common.{◌≡◌, ℕ, suc, ◌+◌, ◌<◌, Bool, true, false, cond, eqb, List, [], ◌∷◌, ◌++◌, length, take, drop, sym, refl, ap, ◌∙◌, subst, one-add, arith}
use Rattle.std.specs.List.{prefix_len, AllByRecursion}
use Rattle.std.proofs.lemmas.Bool.{not-false, eqb-true}
use Rattle.dimacs.specs.Heads.{head_from, in_line}
use Rattle.dimacs.specs.Grammar.{Commented, no_comment, comment}

-- what stands behind the comment lines
abbrev pub behind : Bool → List ℕ → List ℕ
behind true [] = []
behind true (b ∷ l) = behind (in_line b) l
behind false [] = []
behind false (b ∷ l) = cond (eqb b 99) (behind true l) (b ∷ l)

abbrev Skips : Bool → ℕ → List ℕ → Type 0
Skips t p l = (n : ℕ) × (head_from t p l ≡ p + n) × (drop n l ≡ behind t l)

skips_by : (u : Bool) (p b : ℕ) (l : List ℕ) → eqb b 99 ≡ u → Skips true (p + 1) l → (n : ℕ) × (cond u (head_from true (p + 1) l) p ≡ p + n) × (drop n (b ∷ l) ≡ cond u (behind true l) (b ∷ l))
skips_by true p b l e s = (suc s.0, omega (arith, s.1), s.2)
skips_by false p b l e s = (0, omega arith, refl)

pub skips : (t : Bool) (p : ℕ) (l : List ℕ) → (n : ℕ) × (head_from t p l ≡ p + n) × (drop n l ≡ behind t l)
skips true p [] = (0, omega arith, refl)
skips true p (b ∷ l) = let s = skips (in_line b) (p + 1) l in (suc s.0, omega (arith, s.1), s.2)
skips false p [] = (0, omega arith, refl)
skips false p (b ∷ l) = skips_by (eqb b 99) p b l refl (skips true (p + 1) l)

-- comment lines, the first of them begun or not
abbrev Lines : Bool → List ℕ → List ℕ → Type 0
Lines false l r = Commented l r
Lines true l r = (line : List ℕ) × (bs : List ℕ) × AllByRecursion (λ b. in_line b ≡ true) line × (l ≡ line ++ (10 ∷ bs)) × Commented bs r

by_end : (u : Bool) (b : ℕ) (l r : List ℕ) → in_line b ≡ u → Lines u l r → Lines true (b ∷ l) r
by_end true b l r e p = (b ∷ p.0, p.1, (e, p.2), ap (λ x. b ∷ x) p.3, p.4)
by_end false b l r e p = ([], l, tt, ap (λ x. x ∷ l) (eqb-true b 10 (not-false (eqb b 10) e)), p)

by_c : (u : Bool) (b : ℕ) (l : List ℕ) → eqb b 99 ≡ u → (0 < length (behind true l) → Lines true l (behind true l)) → 0 < length (cond u (behind true l) (b ∷ l)) → Commented (b ∷ l) (cond u (behind true l) (b ∷ l))
by_c true b l e ih h =
    let p = ih h in
    subst (λ x. Commented (x ∷ l) (behind true l)) (sym (eqb-true b 99 e)) (subst (λ x. Commented (99 ∷ x) (behind true l)) (sym p.3) (comment p.0 p.2 p.4))
by_c false b l e ih h = no_comment

commented_by : (t : Bool) (l : List ℕ) → 0 < length (behind t l) → Lines t l (behind t l)
commented_by true [] h = absurd (omega arith)
commented_by true (b ∷ l) h = by_end (in_line b) b l (behind (in_line b) l) refl (commented_by (in_line b) l h)
commented_by false [] h = absurd (omega arith)
commented_by false (b ∷ l) h = by_c (eqb b 99) b l refl (commented_by true l) h

pub commented : (l : List ℕ) → 0 < length (behind false l) → Commented l (behind false l)
commented l h = commented_by false l h

through : (line bs : List ℕ) → AllByRecursion (λ b. in_line b ≡ true) line → behind true (line ++ (10 ∷ bs)) ≡ behind false bs
through [] bs h = refl
through (b ∷ line) bs h = ap (λ x. behind x (line ++ (10 ∷ bs))) h.0 ∙ through line bs h.1

pub behind_comments : {bs rest : List ℕ} (more : List ℕ) → Commented bs rest → rest ≡ 112 ∷ more → behind false bs ≡ rest
behind_comments more no_comment e = ap (behind false) e ∙ sym e
behind_comments more (comment line {bs} {rest} h c) e = through line bs h ∙ behind_comments more c e

-- the longest front that passes, and the byte that stops it
front_by : (u : Bool) (p : ℕ → Bool) (b : ℕ) (l : List ℕ) → p b ≡ u → AllByRecursion (λ x. p x ≡ true) (take (prefix_len p l) l) → AllByRecursion (λ x. p x ≡ true) (take (cond u (1 + prefix_len p l) 0) (b ∷ l))
front_by true p b l e h = subst (λ n. AllByRecursion (λ x. p x ≡ true) (take n (b ∷ l))) (sym (one-add (prefix_len p l))) (e, h)
front_by false p b l e h = tt

pub front_passes : (p : ℕ → Bool) (l : List ℕ) → AllByRecursion (λ b. p b ≡ true) (take (prefix_len p l) l)
front_passes p [] = tt
front_passes p (b ∷ l) = front_by (p b) p b l refl (front_passes p l)

stop_by : (u : Bool) (b : ℕ) (l : List ℕ) → in_line b ≡ u → (0 < length (drop (prefix_len in_line l) l) → (body : List ℕ) × (drop (prefix_len in_line l) l ≡ 10 ∷ body)) → 0 < length (drop (cond u (1 + prefix_len in_line l) 0) (b ∷ l)) → (body : List ℕ) × (drop (cond u (1 + prefix_len in_line l) 0) (b ∷ l) ≡ 10 ∷ body)
stop_by true b l e ih h =
    let q = one-add (prefix_len in_line l) in
    let r = ih (subst (λ n. 0 < length (drop n (b ∷ l))) q h) in
    (r.0, ap (λ n. drop n (b ∷ l)) q ∙ r.1)
stop_by false b l e ih h = (l, ap (λ x. x ∷ l) (eqb-true b 10 (not-false (eqb b 10) e)))

pub line_stop : (l : List ℕ) → 0 < length (drop (prefix_len in_line l) l) → (body : List ℕ) × (drop (prefix_len in_line l) l ≡ 10 ∷ body)
line_stop [] h = absurd (omega arith)
line_stop (b ∷ l) h = stop_by (in_line b) b l refl (line_stop l) h
