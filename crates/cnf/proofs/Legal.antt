-- A table is accepted exactly when it is legal.
use Rattle.std.proofs.Common.{◌≡◌, ℕ, zero, suc, ◌+◌, ◌<◌, ◌≤◌, Bool, true, false, cond, eqb, ltb, leb, List, [], ◌∷◌, ◌++◌, length, ℤ, pos, negsuc, nat_abs, Ok, Err, Result, sym, refl, ap, ◌∙◌, subst, ⊎_elim, true≢false, arith}
use Rattle.std.proofs.lemmas.Bool.{cond-true, cond-false, le-leb, lt-leb, leb-true, leb-false, ltb-false, le-ltb, and_from, and_parts, cases_Bool, ne_eqb, eqb-false}
use Rattle.std.specs.List.{AllByRecursion}
use Rattle.cnf.specs.declared.refusal.Check.{Check}
use Rattle.cnf.specs.declared.refusal.Check.TheVariants.{Limits, ClauseCount, VariableRange, EmptyClause, LiteralCount}
use Rattle.cnf.specs.declared.refusal.Refusal.{Refusal}
use Rattle.cnf.specs.declared.tally.Tally.{Tally}
use Rattle.cnf.specs.Refusals.{refused}
use Rattle.cnf.specs.Tables.{is_zero, Literal, Clause, spelled, literals_in, Legal, onto, clauses_of}
use Rattle.cnf.specs.Scans.{and_then, placed, no_words, with_literal, with_end, tallied, tallied_from, closed, within, table_checked}
use Rattle.cnf.specs.Promises.{AcceptsLegalTables}

-- words that end n clauses with k literals, the first of them begun or not
pub data Spells (v : ℕ) : Bool → List ℤ → ℕ → ℕ → Type 0 where
  done : Spells v false [] 0 0
  literal : {b : Bool} {w : ℤ} {ws : List ℤ} {n k : ℕ} → Literal v w → Spells v true ws n k → Spells v b (w ∷ ws) n (suc k)
  stop : {ws : List ℤ} {n k : ℕ} → Spells v false ws n k → Spells v true (pos 0 ∷ ws) (suc n) k

zero_word : (w : ℤ) → is_zero w ≡ true → w ≡ pos 0
zero_word (pos zero) e = refl
zero_word (pos (suc n)) e = absurd (true≢false (sym e))
zero_word (negsuc n) e = absurd (true≢false (sym e))

pub nonzero_word : (w : ℤ) → is_zero w ≡ false → 1 ≤ nat_abs w
nonzero_word (pos zero) e = absurd (true≢false e)
nonzero_word (pos (suc n)) e = omega arith
nonzero_word (negsuc n) e = omega arith

pub literal_word : (w : ℤ) → 1 ≤ nat_abs w → is_zero w ≡ false
literal_word (pos zero) h = absurd (omega arith)
literal_word (pos (suc n)) h = refl
literal_word (negsuc n) h = refl

ok≢err : {A E : Type 0} (x : A) (e : E) → ◌≡◌ {A = Result A E} (Err e) (Ok x) → ⊥
ok≢err x e p = let z : ◌≡◌ {A = ℕ} 0 1 = cc in omega arith

-- what a word that is accepted makes of the tally
pub data Step (v : ℕ) (t : Tally) (w : ℤ) : Tally → Type 0 where
  by_literal : Literal v w → t.literals < 4096 → Step v t w (with_literal t)
  by_end : w ≡ pos 0 → t.begun ≡ true → t.ended < 1024 → Step v t w (with_end t)

step_literal : (v : ℕ) (t : Tally) (w : ℤ) → 1 ≤ nat_abs w → (o f : Bool) → ltb v (nat_abs w) ≡ o → leb 4096 t.literals ≡ f → (u : Tally) → cond o (Err VariableRange) (cond f (Err LiteralCount) (Ok (with_literal t))) ≡ Ok u → Step v t w u
step_literal v t w l true f eo ef u e = absurd (ok≢err u VariableRange e)
step_literal v t w l false true eo ef u e = absurd (ok≢err u LiteralCount e)
step_literal v t w l false false eo ef u e =
    let q : with_literal t ≡ u = cc in
    subst (Step v t w) q (by_literal (l, ltb-false v (nat_abs w) eo) (leb-false 4096 t.literals ef))

step_end : (v : ℕ) (t : Tally) (w : ℤ) → w ≡ pos 0 → (b f : Bool) → t.begun ≡ b → leb 1024 t.ended ≡ f → (u : Tally) → cond b (cond f (Err Limits) (Ok (with_end t))) (Err EmptyClause) ≡ Ok u → Step v t w u
step_end v t w z false f eb ef u e = absurd (ok≢err u EmptyClause e)
step_end v t w z true true eb ef u e = absurd (ok≢err u Limits e)
step_end v t w z true false eb ef u e =
    let q : with_end t ≡ u = cc in
    subst (Step v t w) q (by_end z eb (leb-false 1024 t.ended ef))

pub step : (v : ℕ) (t : Tally) (w : ℤ) (u : Tally) → tallied v t w ≡ Ok u → Step v t w u
step v t w u e =
    ⊎_elim
    (λ z. step_end v t w (zero_word w z) t.begun (leb 1024 t.ended) refl refl u (sym (cond-true _ _ _ z) ∙ e))
    (λ z. step_literal v t w (nonzero_word w z) (ltb v (nat_abs w)) (leb 4096 t.literals) refl refl u (sym (cond-false _ _ _ z) ∙ e))
    (cases_Bool (is_zero w))

-- the words between two tallies, the later one with no clause begun
pub record Between (v : ℕ) (t : Tally) (ws : List ℤ) (u : Tally) : Type 0 where
  pub clauses : ℕ
  pub literals : ℕ
  pub spells : Spells v t.begun ws clauses literals
  pub ended : t.ended + clauses ≡ u.ended
  pub counted : t.literals + literals ≡ u.literals
  pub few_clauses : t.ended ≤ 1024 → u.ended ≤ 1024
  pub few_literals : t.literals ≤ 4096 → u.literals ≤ 4096

none_between : (v : ℕ) (t : Tally) → (b : Bool) → t.begun ≡ b → b ≡ false → Spells v b [] 0 0
none_between v t true e f = absurd (true≢false f)
none_between v t false e f = done

after_step : (v : ℕ) (t : Tally) (w : ℤ) (ws : List ℤ) (s u : Tally) → Step v t w s → Between v s ws u → Between v t (w ∷ ws) u
after_step v t w ws s u (by_literal l h) b =
    record { clauses = b.clauses; literals = suc b.literals; spells = literal l b.spells; ended = b.ended; counted = omega (arith, b.counted); few_clauses = b.few_clauses; few_literals = λ _. b.few_literals (omega arith) }
after_step v t w ws s u (by_end z g h) b =
    record { clauses = suc b.clauses; literals = b.literals; spells = subst (λ x. Spells v x (w ∷ ws) (suc b.clauses) b.literals) (sym g) (subst (λ x. Spells v true (x ∷ ws) (suc b.clauses) b.literals) (sym z) (stop b.spells)); ended = omega (arith, b.ended); counted = b.counted; few_clauses = λ _. b.few_clauses (omega arith); few_literals = b.few_literals }

first_step : (v : ℕ) (t : Tally) (i : ℕ) (w : ℤ) (ws : List ℤ) (u : Tally) → (r : Result Tally Check) → tallied v t w ≡ r → and_then (placed r i) (λ s. tallied_from v s (i + 1) ws) ≡ Ok u → (s : Tally) × (tallied v t w ≡ Ok s) × (tallied_from v s (i + 1) ws ≡ Ok u)
first_step v t i w ws u (Ok s) e h = (s, e, h)
first_step v t i w ws u (Err k) e h = absurd (ok≢err u (refused k i) h)

pub between : (v : ℕ) (t : Tally) (i : ℕ) (ws : List ℤ) (u : Tally) → tallied_from v t i ws ≡ Ok u → u.begun ≡ false → Between v t ws u
between v t i [] u e f =
    let q : t ≡ u = cc in
    let g : t.begun ≡ false = ap (λ x. x.begun) q ∙ f in
    record { clauses = 0; literals = 0; spells = none_between v t t.begun refl g; ended = omega (arith, ap (λ x. x.ended) q); counted = omega (arith, ap (λ x. x.literals) q); few_clauses = λ h. omega (arith, ap (λ x. x.ended) q); few_literals = λ h. omega (arith, ap (λ x. x.literals) q) }
between v t i (w ∷ ws) u e f =
    let p = first_step v t i w ws u (tallied v t w) refl e in
    after_step v t w ws p.0 u (step v t w p.0 p.1) (between v p.0 (i + 1) ws u p.2 f)

abbrev tally : ℕ → ℕ → Bool → Tally
tally e k b = record { ended = e; literals = k; begun = b }

-- words that spell clauses are accepted while they are few enough
pub spelled-tallied : (v : ℕ) (t : Tally) (i : ℕ) {ws : List ℤ} {n k : ℕ} → (b : Bool) → t.begun ≡ b → Spells v b ws n k → t.ended + n ≤ 1024 → t.literals + k ≤ 4096 → tallied_from v t i ws ≡ Ok (tally (t.ended + n) (t.literals + k) false)
spelled-tallied v t i false e done l m =
    let f : t ≡ tally (t.ended + 0) (t.literals + 0) false = ap (tally t.ended t.literals) e ∙ ap (λ x. tally x t.literals false) (omega arith) ∙ ap (λ x. tally (t.ended + 0) x false) (omega arith) in
    ap Ok f
spelled-tallied v t i b e (literal {w} {ws} {n} {k} h s) l m =
    let z : tallied v t w ≡ Ok (with_literal t) = cond-false _ _ _ (literal_word w h.0) ∙ cond-false _ _ _ (le-ltb v (nat_abs w) h.1) ∙ cond-false _ _ _ (lt-leb 4096 t.literals (omega arith)) in
    ap (λ r. and_then (placed r i) (λ u. tallied_from v u (i + 1) ws)) z
    ∙ spelled-tallied v (with_literal t) (i + 1) true refl s (omega arith) (omega arith)
    ∙ ap (λ x. Ok (tally (t.ended + n) x false)) (omega arith)
spelled-tallied v t i true e (stop {ws} {n} {k} s) l m =
    let z : tallied v t (pos 0) ≡ Ok (with_end t) = cond-true _ _ _ e ∙ cond-false _ _ _ (lt-leb 1024 t.ended (omega arith)) in
    ap (λ r. and_then (placed r i) (λ u. tallied_from v u (i + 1) ws)) z
    ∙ spelled-tallied v (with_end t) (i + 1) false refl s (omega arith) (omega arith)
    ∙ ap (λ x. Ok (tally x (t.literals + k) false)) (omega arith)

-- the clauses of such words, the first of them begun or not
abbrev Parts : ℕ → Bool → List ℤ → ℕ → ℕ → Type 0
Parts v false ws n k = (cs : List (List ℤ)) × (ws ≡ spelled cs) × AllByRecursion (Clause v) cs × (length cs ≡ n) × (literals_in cs ≡ k)
Parts v true ws n k = (c : List ℤ) × (cs : List (List ℤ)) × (ws ≡ c ++ (pos 0 ∷ spelled cs)) × AllByRecursion (Literal v) c × AllByRecursion (Clause v) cs × (suc (length cs) ≡ n) × (length c + literals_in cs ≡ k)

literal_onto : (v : ℕ) (b : Bool) (w : ℤ) (ws : List ℤ) (n k : ℕ) → Literal v w → Parts v true ws n k → Parts v b (w ∷ ws) n (suc k)
literal_onto v true w ws n k h p = (w ∷ p.0, p.1, ap (λ l. w ∷ l) p.2, (h, p.3), p.4, p.5, omega (arith, p.6))
literal_onto v false w ws n k h p = ((w ∷ p.0) ∷ p.1, ap (λ l. w ∷ l) p.2, ((omega arith, (h, p.3)), p.4), p.5, omega (arith, p.6))

parts : (v : ℕ) (b : Bool) {ws : List ℤ} {n k : ℕ} → Spells v b ws n k → Parts v b ws n k
parts v false done = ([], refl, tt, refl, refl)
parts v b (literal {w} {ws} {n} {k} h s) = literal_onto v b w ws n k h (parts v true s)
parts v true (stop {ws} {n} {k} s) =
    let p = parts v false s in
    ([], p.0, ap (λ l. pos 0 ∷ l) p.1, tt, p.2, ap suc p.3, omega (arith, p.4))

clause_spells : (v : ℕ) (c ws : List ℤ) (n k : ℕ) → AllByRecursion (Literal v) c → Spells v true ws n k → Spells v true (c ++ ws) n (length c + k)
clause_spells v [] ws n k h s = subst (Spells v true ws n) (omega arith) s
clause_spells v (w ∷ c) ws n k h s = subst (Spells v true (w ∷ (c ++ ws)) n) (omega arith) (literal h.0 (clause_spells v c ws n k h.1 s))

pub clauses_spell : (v : ℕ) (cs : List (List ℤ)) → AllByRecursion (Clause v) cs → Spells v false (spelled cs) (length cs) (literals_in cs)
clauses_spell v [] h = done
clauses_spell v ([] ∷ cs) h = absurd (omega (arith, h.0.0))
clauses_spell v ((w ∷ c) ∷ cs) h =
    let s = clause_spells v c (pos 0 ∷ spelled cs) (suc (length cs)) (literals_in cs) h.0.1.1 (stop (clauses_spell v cs h.1)) in
    subst (Spells v false (w ∷ (c ++ (pos 0 ∷ spelled cs))) (suc (length cs))) (omega arith) (literal h.0.1.0 s)

closed_ok : (m : ℕ) (t : Tally) (n : ℕ) → (b f : Bool) → t.begun ≡ b → eqb t.ended 0 ≡ f → cond b (Err (refused ClauseCount m)) (cond f (Err (refused Limits 0)) (Ok t.ended)) ≡ Ok n → (t.begun ≡ false) × (t.ended ≡ n) × (1 ≤ t.ended)
closed_ok m t n true f eb ef e = absurd (ok≢err n (refused ClauseCount m) e)
closed_ok m t n false true eb ef e = absurd (ok≢err n (refused Limits 0) e)
closed_ok m t n false false eb ef e =
    let ne = eqb-false t.ended 0 ef in
    (eb, cc, omega arith)

closing : (v : ℕ) (ws : List ℤ) (n : ℕ) → (r : Result Tally Refusal) → tallied_from v no_words 0 ws ≡ r → and_then r (closed (length ws)) ≡ Ok n → (t : Tally) × (tallied_from v no_words 0 ws ≡ Ok t) × (closed (length ws) t ≡ Ok n)
closing v ws n (Ok t) e h = (t, e, h)
closing v ws n (Err f) e h = absurd (ok≢err n f h)

limits : (v : ℕ) (ws : List ℤ) (n : ℕ) → (b : Bool) → within 1 256 v ≡ b → cond b (and_then (tallied_from v no_words 0 ws) (closed (length ws))) (Err (refused Limits 0)) ≡ Ok n → (within 1 256 v ≡ true) × (and_then (tallied_from v no_words 0 ws) (closed (length ws)) ≡ Ok n)
limits v ws n true e h = (e, h)
limits v ws n false e h = absurd (ok≢err n (refused Limits 0) h)

pub accepted_is_legal : (v : ℕ) (ws : List ℤ) (n : ℕ) → table_checked v ws ≡ Ok n → (l : Legal v ws) × (length l.clauses ≡ n)
accepted_is_legal v ws n e =
    let a = limits v ws n (within 1 256 v) refl e in
    let c = closing v ws n (tallied_from v no_words 0 ws) refl a.1 in
    let k = closed_ok (length ws) c.0 n c.0.begun (eqb c.0.ended 0) refl refl c.2 in
    let b = between v no_words 0 ws c.0 c.1 k.0 in
    let p = parts v false b.spells in
    let w = and_parts (leb 1 v) (leb v 256) a.0 in
    let few = b.few_clauses (omega arith) in
    let short = b.few_literals (omega arith) in
    let l : Legal v ws = record { variables = (leb-true 1 v w.0, leb-true v 256 w.1); clauses = p.0; words = p.1; each = p.2; number = (omega (arith, p.3, b.ended, k.2), omega (arith, p.3, b.ended)); literals = omega (arith, p.4, b.counted) } in
    (l, omega (arith, p.3, b.ended, k.1))

pub legal_is_accepted : (v : ℕ) (ws : List ℤ) (l : Legal v ws) → table_checked v ws ≡ Ok (length l.clauses)
legal_is_accepted v ws l =
    let s = subst (λ x. Spells v false x (length l.clauses) (literals_in l.clauses)) (sym l.words) (clauses_spell v l.clauses l.each) in
    let t = spelled-tallied v no_words 0 false refl s (omega (arith, l.number.1)) (omega (arith, l.literals)) in
    cond-true _ _ _ (and_from _ _ (le-leb 1 v l.variables.0) (le-leb v 256 l.variables.1))
    ∙ ap (λ r. and_then r (closed (length ws))) t
    ∙ cond-false _ _ _ (ne_eqb (0 + length l.clauses) 0 (λ q. omega (arith, l.number.0)))
    ∙ ap Ok (omega arith)

pub accepts_legal_tables : (v : ℕ) (ws : List ℤ) → AcceptsLegalTables v ws
accepts_legal_tables v ws = record { only = accepted_is_legal v ws; every = legal_is_accepted v ws }

clause_of_lem : (v : ℕ) (c ws : List ℤ) → AllByRecursion (Literal v) c → clauses_of (c ++ (pos 0 ∷ ws)) ≡ c ∷ clauses_of ws
clause_of_lem v [] ws h = refl
clause_of_lem v (w ∷ c) ws h = cond-false _ _ _ (literal_word w h.0.0) ∙ ap (onto w) (clause_of_lem v c ws h.1)

-- clauses come out of their words again
pub clauses_of-spelled : (v : ℕ) (cs : List (List ℤ)) → AllByRecursion (Clause v) cs → clauses_of (spelled cs) ≡ cs
clauses_of-spelled v [] h = refl
clauses_of-spelled v (c ∷ cs) h = clause_of_lem v c (spelled cs) h.0.1 ∙ ap (λ l. c ∷ l) (clauses_of-spelled v cs h.1)

pub legal_clauses : (v : ℕ) (ws : List ℤ) (l : Legal v ws) → clauses_of ws ≡ l.clauses
legal_clauses v ws l = ap clauses_of l.words ∙ clauses_of-spelled v l.clauses l.each
