-- A clause's true count, and the variables that its entries name.
use Rattle.std.proofs.Common.{◌≡◌, ℕ, zero, suc, ◌+◌, ◌*◌, ◌<◌, ◌≤◌, Bool, true, false, cond, not, ◌&&◌, ◌||◌, eqb, List, [], ◌∷◌, ◌++◌, length, get_or, take, ℤ, pos, negsuc, sym, refl, ap, ◌∙◌, subst, ap₂, ⊎_elim, arith}
use Rattle.std.proofs.lemmas.Bool.{eq-eqb, ne_eqb, eqb-true, eqb-false, or_parts, or_from, or_cases, false≢true}
use Rattle.std.proofs.lemmas.List.{take_more}
use Rattle.std.proofs.lemmas.Bool.Decides.{nat_tests}
use Rattle.cnf.specs.Tables.{satisfied}
use Rattle.formula.specs.declared.entry.Entry.{Entry}
use Rattle.formula.specs.Clauses.{flip_at}
use Rattle.formula.specs.Entries.{bit, trues, count, literals, sign_onto, named_in, Distinct, Signed, entry0}

sat_step : (p n u s : Bool) (c : ℕ) → s ≡ not (eqb c 0) → (cond p u false || (cond n (not u) false || s)) ≡ not (eqb ((bit (p && u) + bit (n && not u)) + c) 0)
sat_step true true true s c e = grind (arith, nat_tests)
sat_step true true false s c e = grind (arith, nat_tests)
sat_step true false true s c e = grind (arith, nat_tests)
sat_step true false false s c e = grind (arith, nat_tests)
sat_step false true true s c e = grind (arith, nat_tests)
sat_step false true false s c e = grind (arith, nat_tests)
sat_step false false true s c e = grind (arith, nat_tests)
sat_step false false false s c e = grind (arith, nat_tests)

pub sat_onto : (a : ℕ → Bool) (v : ℕ) (p n : Bool) (ls : List ℤ) → satisfied a (sign_onto p (pos (suc v)) (sign_onto n (negsuc v) ls)) ≡ (cond p (a v) false || (cond n (not (a v)) false || satisfied a ls))
sat_onto a v true true ls = refl
sat_onto a v true false ls = refl
sat_onto a v false true ls = refl
sat_onto a v false false ls = refl

-- a clause is satisfied where its true count is not 0
pub satisfied-count : (a : ℕ → Bool) (es : List Entry) → satisfied a (literals es) ≡ not (eqb (count a es) 0)
satisfied-count a [] = refl
satisfied-count a (e ∷ es) =
    sat_onto a e.variable e.plain e.negated (literals es)
    ∙ sat_step e.plain e.negated (a e.variable) (satisfied a (literals es)) (count a es) (satisfied-count a es)

pub named_at : (es : List Entry) (j : ℕ) → j < length es → named_in es (get_or es j entry0).variable ≡ true
named_at [] j l = absurd (omega arith)
named_at (e ∷ es) zero l = rw (eq-eqb e.variable e.variable refl)
named_at (e ∷ es) (suc j) l = let h = named_at es j (omega arith) in grind (arith, nat_tests)

pub apart : (es : List Entry) (j v : ℕ) → j < length es → named_in es v ≡ false → (v ≡ (get_or es j entry0).variable → ⊥)
apart es j v l h e = let k = named_at es j l in let z : true ≡ false = sym k ∙ (ap (named_in es) (sym e) ∙ h) in grind arith

pub flipped_same : (x : ℕ) (a : ℕ → Bool) → flip_at x a x ≡ not (a x)
flipped_same x a = rw (eq-eqb x x refl)

pub flipped_other : (x : ℕ) (a : ℕ → Bool) (v : ℕ) → (v ≡ x → ⊥) → flip_at x a v ≡ a v
flipped_other x a v ne = rw (ne_eqb v x ne)

pub count_absent : (a : ℕ → Bool) (y : ℕ) (es : List Entry) → named_in es y ≡ false → count (flip_at y a) es ≡ count a es
count_absent a y [] h = refl
count_absent a y (e ∷ es) h =
    let ps = or_parts (eqb e.variable y) (named_in es y) h in
    ap₂ ◌+◌ (ap (λ u. trues u e) (flipped_other y a e.variable (eqb-false _ _ ps.0))) (count_absent a y es ps.1)

pub count_at_lem : (a : ℕ → Bool) (es : List Entry) (j : ℕ) → j < length es → Distinct es → (e : Entry) → e ≡ get_or es j entry0 → count (flip_at e.variable a) es + trues (a e.variable) e ≡ count a es + trues (not (a e.variable)) e
count_at_lem a [] j l d e q = omega arith
count_at_lem a (f ∷ es) zero l d e q =
    let k = count_absent a f.variable es d.0 in
    let m : trues (flip_at f.variable a f.variable) f ≡ trues (not (a f.variable)) f = ap (λ u. trues u f) (flipped_same f.variable a) in
    subst (λ (u : Entry). count (flip_at u.variable a) (f ∷ es) + trues (a u.variable) u ≡ count a (f ∷ es) + trues (not (a u.variable)) u) (sym q) (omega arith)
count_at_lem a (f ∷ es) (suc j) l d e q =
    let k = count_at_lem a es j (omega arith) d.1 e q in
    let ne : f.variable ≡ e.variable → ⊥ = λ r. apart es j f.variable (omega arith) d.0 (r ∙ ap (λ (u : Entry). u.variable) q) in
    let m : trues (flip_at e.variable a f.variable) f ≡ trues (a f.variable) f = ap (λ u. trues u f) (flipped_other e.variable a f.variable ne) in
    omega arith

pub trues_le_count : (a : ℕ → Bool) (es : List Entry) (j : ℕ) → j < length es → (e : Entry) → e ≡ get_or es j entry0 → trues (a e.variable) e ≤ count a es
trues_le_count a [] j l e q = omega arith
trues_le_count a (f ∷ es) zero l e q = rw q (omega arith)
trues_le_count a (f ∷ es) (suc j) l e q = omega (arith, trues_le_count a es j (omega arith) e q)

pub trues_le : (v : Bool) (e : Entry) → trues v e ≤ 2
trues_le v e = go (e.plain && v) (e.negated && not v)
  where
    go : (p n : Bool) → bit p + bit n ≤ 2
    go true true = omega arith
    go true false = omega arith
    go false true = omega arith
    go false false = omega arith

pub count_le : (a : ℕ → Bool) (es : List Entry) → count a es ≤ 2 * length es
count_le a [] = omega arith
count_le a (e ∷ es) = omega (arith, trues_le (a e.variable) e, count_le a es)

pub fresh : (es : List Entry) (j : ℕ) → j < length es → Distinct es → named_in (take j es) (get_or es j entry0).variable ≡ false
fresh [] j l d = absurd (omega arith)
fresh (e ∷ es) zero l d = refl
fresh (e ∷ es) (suc j) l d =
    or_from _ _ (ne_eqb _ _ (apart es j e.variable (omega arith) d.0)) (fresh es j (omega arith) d.1)

pub named_append : (xs ys : List Entry) (v : ℕ) → named_in (xs ++ ys) v ≡ (named_in xs v || named_in ys v)
named_append [] ys v = refl
named_append (x ∷ xs) ys v = let h = named_append xs ys v in grind (arith, nat_tests)

pub named_more : (es : List Entry) (j v : ℕ) → j < length es → named_in (take (j + 1) es) v ≡ (named_in (take j es) v || eqb (get_or es j entry0).variable v)
named_more es j v l =
    ap (λ xs. named_in xs v) (take_more es j entry0 l) ∙ (named_append (take j es) (get_or es j entry0 ∷ []) v ∙ grind (arith, nat_tests))

pub count_push : (a : ℕ → Bool) (es : List Entry) (e : Entry) → count a (es ++ (e ∷ [])) ≡ count a es + trues (a e.variable) e
count_push a [] e = omega arith
count_push a (f ∷ es) e = let h = count_push a es e in omega arith

pub count_more : (a : ℕ → Bool) (es : List Entry) (j : ℕ) → j < length es → count a (take (j + 1) es) ≡ count a (take j es) + trues (a (get_or es j entry0).variable) (get_or es j entry0)
count_more a es j l = ap (count a) (take_more es j entry0 l) ∙ count_push a (take j es) (get_or es j entry0)

pub named_small : (v : ℕ) (es : List Entry) (y : ℕ) → Signed v es → named_in es y ≡ true → y < v
named_small v [] y s h = absurd (false≢true h)
named_small v (e ∷ es) y s h =
    ⊎_elim (λ (q : eqb e.variable y ≡ true). let k = eqb-true _ _ q in omega (arith, s.0.0)) (λ q. named_small v es y s.1 q) (or_cases (eqb e.variable y) (named_in es y) h)

-- only the values of the first v variables count
pub count_agree : (v : ℕ) (a b : ℕ → Bool) (es : List Entry) → ((y : ℕ) → y < v → a y ≡ b y) → Signed v es → count a es ≡ count b es
count_agree v a b [] h s = refl
count_agree v a b (e ∷ es) h s = ap₂ ◌+◌ (ap (λ u. trues u e) (h e.variable s.0.0)) (count_agree v a b es h s.1)
