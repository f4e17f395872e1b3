-- What the parts of an accepted text are.
use Rattle.std.proofs.Common.{◌≡◌, ℕ, ◌+◌, ◌≤◌, Bool, true, false, cond, not, ◌||◌, eqb, ltb, leb, List, [], ◌∷◌, length, ℤ, pos, negsuc, Some, None, Ok, Err, Option, Result, sym, refl, ap, ◌∙◌, subst, arith}
use Rattle.std.proofs.lemmas.Bool.{leb-true, ltb-false, and_parts, or_parts, not-false, eqb-true}
use Rattle.cnf.specs.declared.refusal.Check.TheVariants.{TextLength, ProblemLine, Limits, ClauseCount}
use Rattle.cnf.specs.declared.tally.Tally.{Tally}
use Rattle.cnf.specs.Refusals.{refused}
use Rattle.cnf.specs.Scans.{and_then, placed, no_words, tallied_from}
use Rattle.cnf.proofs.Legal.{Spells, done, literal, stop, between}
use Rattle.words.specs.declared.faults.WordFault.{WordFault}
use Rattle.words.specs.declared.faults.ClauseFault.TheVariants.{Rule}
use Rattle.words.specs.declared.faults.HeadFault.TheVariants as head
use Rattle.words.specs.Faults.{beside_clause, head_from_word}
use Rattle.words.specs.Numbers.{within, numbered}
use Rattle.words.specs.Words.{Token, Said, place_of}
use Rattle.dimacs.specs.declared.head.Head.{Head}
use Rattle.dimacs.specs.Heads.{head_from, line_end, line_tokens, problem_of, head_number, headed, up_to, limited, head_of, head_read}
use Rattle.dimacs.specs.Reads.{in_clause, taken, token_taken, clauses_from, onto_number, numbers_of}
use Rattle.dimacs.proofs.Bodies.{taken_parts}
use Rattle.dimacs.proofs.Heads.{line_end_within, head_start_within}

pub ok≢err : {A E : Type 0} (x : A) (e : E) → ◌≡◌ {A = Result A E} (Err e) (Ok x) → ⊥
ok≢err x e p = let z : ◌≡◌ {A = ℕ} 0 1 = cc in omega arith

-- both parts of what is accepted were accepted
pub both : {A B E : Type 0} (r : Result A E) (f : A → Result B E) (y : B) → and_then r f ≡ Ok y → (x : A) × (r ≡ Ok x) × (f x ≡ Ok y)
both (Ok x) f y e = (x, refl, e)
both (Err k) f y e = absurd (ok≢err y k e)

-- each word is the number beside it
abbrev pub AreNumbers : List Token → List ℤ → Type 0
AreNumbers [] [] = Unit {0}
AreNumbers [] (z ∷ zs) = ⊥
AreNumbers (k ∷ ks) [] = ⊥
AreNumbers (k ∷ ks) (z ∷ zs) = (numbered k.bytes k.place ≡ Ok z) × AreNumbers ks zs

in_clause_ok : {A : Type 0} (r : Result A WordFault) (n : ℕ) (x : A) → in_clause r n ≡ Ok x → r ≡ Ok x
in_clause_ok (Ok y) n x e = let q : y ≡ x = cc in ap Ok q
in_clause_ok (Err f) n x e = absurd (ok≢err x (beside_clause (f, n)) e)

pub record Body (v c : ℕ) (t : Tally) (ks : List Token) (u : Tally) : Type 0 where
  pub numbers : AreNumbers ks (numbers_of ks)
  pub tallies : (i : ℕ) → tallied_from v t i (numbers_of ks) ≡ Ok u
  pub closed : u.begun ≡ false
  pub exact : u.ended ≡ c

finished_ok : (c n : ℕ) (t u : Tally) (b : Bool) → (t.begun || not (eqb t.ended c)) ≡ b → cond b (Err (Rule (refused ClauseCount n) (t.ended + 1))) (Ok t) ≡ Ok u → (t ≡ u) × (t.begun ≡ false) × (t.ended ≡ c)
finished_ok c n t u true e h = absurd (ok≢err u (Rule (refused ClauseCount n) (t.ended + 1)) h)
finished_ok c n t u false e h =
    let p = or_parts t.begun (not (eqb t.ended c)) e in
    (cc, p.0, eqb-true t.ended c (not-false (eqb t.ended c) p.1))

pub body : (v c n : ℕ) (t : Tally) (ks : List Token) (u : Tally) → clauses_from v c n t ks ≡ Ok u → Body v c t ks u
body v c n t [] u e =
    let p = finished_ok c n t u (t.begun || not (eqb t.ended c)) refl e in
    record { numbers = tt; tallies = λ i. ap Ok p.0; closed = ap (λ x. x.begun) (sym p.0) ∙ p.1; exact = ap (λ x. x.ended) (sym p.0) ∙ p.2 }
body v c n t (k ∷ ks) u e =
    let p = both (token_taken v c t k) (λ u. clauses_from v c n u ks) u e in
    let q = both (in_clause (numbered k.bytes k.place) (t.ended + 1)) (taken v c t k.place) p.0 p.1 in
    let a = in_clause_ok (numbered k.bytes k.place) (t.ended + 1) q.0 q.1 in
    let b = taken_parts v c k.place t q.0 p.0 (leb c t.ended) refl q.2 in
    let r = body v c n p.0 ks u p.2 in
    let l : numbers_of (k ∷ ks) ≡ q.0 ∷ numbers_of ks = ap (λ x. onto_number x (numbers_of ks)) a in
    record {
      numbers = subst (AreNumbers (k ∷ ks)) (sym l) (a, r.numbers);
      tallies = λ i. ap (tallied_from v t i) l ∙ ap (λ x. and_then (placed x i) (λ s. tallied_from v s (i + 1) (numbers_of ks))) b.1 ∙ r.tallies (i + 1);
      closed = r.closed;
      exact = r.exact;
    }

pub spells_length : {v : ℕ} {b : Bool} {ws : List ℤ} {n k : ℕ} → Spells v b ws n k → length ws ≡ k + n
spells_length done = refl
spells_length (literal h s) = omega (arith, spells_length s)
spells_length (stop s) = omega (arith, spells_length s)

pub record Counts (ks : List Token) (u : Tally) : Type 0 where
  pub number : length (numbers_of ks) ≡ u.literals + u.ended
  pub few_clauses : u.ended ≤ 1024
  pub few_literals : u.literals ≤ 4096

pub counts : (v c n : ℕ) (ks : List Token) (u : Tally) → clauses_from v c n no_words ks ≡ Ok u → Counts ks u
counts v c n ks u e =
    let b = body v c n no_words ks u e in
    let w = between v no_words 0 (numbers_of ks) u (b.tallies 0) b.closed in
    record { number = omega (arith, spells_length w.spells, w.ended, w.counted); few_clauses = w.few_clauses (omega arith); few_literals = w.few_literals (omega arith) }

headed_ok : {A : Type 0} (r : Result A WordFault) (x : A) → headed r ≡ Ok x → r ≡ Ok x
headed_ok (Ok y) x e = let q : y ≡ x = cc in ap Ok q
headed_ok (Err f) x e = absurd (ok≢err x (head_from_word f) e)

up_to_by : (m p n x : ℕ) (b : Bool) → within 1 m n ≡ b → cond b (Ok n) (Err (head.Head (refused Limits p))) ≡ Ok x → (n ≡ x) × (1 ≤ x) × (x ≤ m)
up_to_by m p n x true e h =
    let w = and_parts (leb 1 n) (leb n m) e in
    let q : n ≡ x = cc in
    (q, omega (arith, leb-true 1 n w.0), omega (arith, leb-true n m w.1))
up_to_by m p n x false e h = absurd (ok≢err x (head.Head (refused Limits p)) h)

up_to_ok : (m p : ℕ) (z : ℤ) (x : ℕ) → up_to m p z ≡ Ok x → (z ≡ pos x) × (1 ≤ x) × (x ≤ m)
up_to_ok m p (pos n) x e = let q = up_to_by m p n x (within 1 m n) refl e in (ap pos q.0, q.1, q.2)
up_to_ok m p (negsuc n) x e = absurd (ok≢err x (head.Head (refused Limits p)) e)

-- a number of the head that is accepted
pub limited_ok : (m : ℕ) (w : Said) (x : ℕ) → limited m w ≡ Ok x → (head_number w ≡ Ok (pos x)) × (1 ≤ x) × (x ≤ m)
limited_ok m w x e =
    let p = both (headed (head_number w)) (up_to m (place_of w)) x e in
    let q = up_to_ok m (place_of w) p.0 x p.2 in
    (headed_ok (head_number w) p.0 p.1 ∙ ap Ok q.0, q.1, q.2)

pub record HeadParts (bs : List ℕ) (h : Head) : Type 0 where
  pub short : length bs ≤ 65535
  pub variables_word : Said
  pub clauses_word : Said
  pub problem : problem_of (head_from false 0 bs) (line_tokens bs (head_from false 0 bs)) ≡ Some (variables_word, clauses_word)
  pub variables_ok : limited 256 variables_word ≡ Ok h.variables
  pub clauses_ok : limited 1024 clauses_word ≡ Ok h.clauses
  pub end_is : line_end bs (head_from false 0 bs) ≡ h.end

head_some : (bs : List ℕ) (h : Head) (o : Option (Said × Said)) → length bs ≤ 65535 → problem_of (head_from false 0 bs) (line_tokens bs (head_from false 0 bs)) ≡ o → head_of (head_from false 0 bs) (line_end bs (head_from false 0 bs)) o ≡ Ok h → HeadParts bs h
head_some bs h None l q e = absurd (ok≢err h (head.Head (refused ProblemLine (head_from false 0 bs))) e)
head_some bs h (Some p) l q e =
    let a = both (limited 256 p.0) (λ v. and_then (limited 1024 p.1) (λ c. Ok (record { variables = v; clauses = c; end = line_end bs (head_from false 0 bs) }))) h e in
    let b = both (limited 1024 p.1) (λ c. Ok (record { variables = a.0; clauses = c; end = line_end bs (head_from false 0 bs) })) h a.2 in
    let made : Head = record { variables = a.0; clauses = b.0; end = line_end bs (head_from false 0 bs) } in
    let s : made ≡ h = cc in
    record {
      short = l;
      variables_word = p.0;
      clauses_word = p.1;
      problem = q;
      variables_ok = a.1 ∙ ap (λ x. Ok x.variables) s;
      clauses_ok = b.1 ∙ ap (λ x. Ok x.clauses) s;
      end_is = ap (λ x. x.end) s;
    }

head_by : (bs : List ℕ) (h : Head) (b : Bool) → ltb 65535 (length bs) ≡ b → cond b (Err (head.Head (refused TextLength 0))) (head_of (head_from false 0 bs) (line_end bs (head_from false 0 bs)) (problem_of (head_from false 0 bs) (line_tokens bs (head_from false 0 bs)))) ≡ Ok h → HeadParts bs h
head_by bs h true e f = absurd (ok≢err h (head.Head (refused TextLength 0)) f)
head_by bs h false e f = head_some bs h (problem_of (head_from false 0 bs) (line_tokens bs (head_from false 0 bs))) (ltb-false 65535 (length bs) e) refl f

pub head_parts : (bs : List ℕ) (h : Head) → head_read bs ≡ Ok h → HeadParts bs h
head_parts bs h e = head_by bs h (ltb 65535 (length bs)) refl e

pub head_within : (bs : List ℕ) (h : Head) → head_read bs ≡ Ok h → (h.end ≤ length bs) × (h.clauses ≤ 1024)
head_within bs h e =
    let p = head_parts bs h e in
    (omega (arith, p.end_is, line_end_within bs (head_from false 0 bs) (head_start_within bs)), (limited_ok 1024 p.clauses_word h.clauses p.clauses_ok).2)
