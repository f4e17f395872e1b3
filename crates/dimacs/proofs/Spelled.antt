-- A text is accepted exactly when the grammar has it.
use Rattle.std.proofs.Common.{◌≡◌, ℕ, zero, suc, ◌+◌, ◌≤◌, Bool, true, false, cond, ◌&&◌, eqb, leb, List, [], ◌∷◌, ℤ, pos, neg_ℤ, nat_abs, Some, None, Ok, Err, Option, sym, refl, ap, ◌∙◌, subst, true≢false, arith}
use Rattle.std.specs.List.{AllByRecursion}
use Rattle.std.proofs.lemmas.Bool.{cond-true, cond-false, le-leb, lt-leb, le-ltb, and_from, and_parts, or_from, not_from_true, eqb-true, eq-eqb}
use Rattle.cnf.specs.declared.tally.Tally.{Tally}
use Rattle.cnf.specs.Scans.{and_then, with_literal, with_end, tallied}
use Rattle.cnf.proofs.Legal.{Spells, done, literal, stop, literal_word}
use Rattle.words.specs.declared.faults.WordFault.TheVariants.{NotANumber, TooLarge}
use Rattle.words.specs.Numbers.{is_number, valued, numbered, value_of, magnitude_of, minus}
use Rattle.words.specs.Words.{Token, tokens, Said, word, said_of}
use Rattle.dimacs.specs.Heads.{in_line, is_p, is_cnf, problem_of, head_number, headed, up_to, limited}
use Rattle.dimacs.specs.Reads.{in_clause, by_rule, taken, clauses_from, onto_number, numbers_of}
use Rattle.dimacs.specs.Grammar.{Worded, Numeral, Numerals, ProblemLine as Problem_line}
use Rattle.dimacs.proofs.Accepted.{ok≢err, AreNumbers}
use Rattle.dimacs.proofs.Worded.{bytes_of, tokens_worded, first_at}

-- a word that is a number
valued_by : (w : List ℕ) (p : ℕ) (z : ℤ) (b : Bool) → leb (magnitude_of w) 99999 ≡ b → cond b (Ok (value_of w)) (Err (TooLarge p)) ≡ Ok z → value_of w ≡ z
valued_by w p z true e h = cc
valued_by w p z false e h = absurd (ok≢err z (TooLarge p) h)

valued_ok : (w : List ℕ) (p : ℕ) (z : ℤ) → valued w p ≡ Ok z → value_of w ≡ z
valued_ok w p z h = valued_by w p z (leb (magnitude_of w) 99999) refl h

numbered_by : (w : List ℕ) (p : ℕ) (z : ℤ) (b : Bool) → is_number w ≡ b → cond b (valued w p) (Err (NotANumber p)) ≡ Ok z → Numeral w z
numbered_by w p z true e h = record { form = e; value = valued_ok w p z h }
numbered_by w p z false e h = absurd (ok≢err z (NotANumber p) h)

numeral : (w : List ℕ) (p : ℕ) (z : ℤ) → numbered w p ≡ Ok z → Numeral w z
numeral w p z h = numbered_by w p z (is_number w) refl h

pub numerals : (ks : List Token) (zs : List ℤ) → AreNumbers ks zs → Numerals (bytes_of ks) zs
numerals [] [] h = tt
numerals [] (z ∷ zs) h = absurd h
numerals (k ∷ ks) [] h = absurd h
numerals (k ∷ ks) (z ∷ zs) h = (numeral k.bytes k.place z h.0, numerals ks zs h.1)

abs_by : (n : ℕ) (b : Bool) → nat_abs (cond b (neg_ℤ (pos n)) (pos n)) ≡ n
abs_by zero true = refl
abs_by (suc n) true = refl
abs_by n false = refl

small_number : (w : List ℕ) (p : ℕ) (z : ℤ) → Numeral w z → nat_abs z ≤ 99999 → numbered w p ≡ Ok z
small_number w p z n l =
    let m : magnitude_of w ≡ nat_abs z = sym (abs_by (magnitude_of w) (minus w)) ∙ ap nat_abs n.value in
    cond-true _ _ _ n.form ∙ cond-true _ _ _ (le-leb (magnitude_of w) 99999 (omega arith)) ∙ ap Ok n.value

pub are_numbers : (ks : List Token) (zs : List ℤ) → Numerals (bytes_of ks) zs → AllByRecursion (λ z. nat_abs z ≤ 99999) zs → AreNumbers ks zs
are_numbers [] [] h l = tt
are_numbers [] (z ∷ zs) h l = absurd h
are_numbers (k ∷ ks) [] h l = absurd h
are_numbers (k ∷ ks) (z ∷ zs) h l = (small_number k.bytes k.place z h.0 l.0, are_numbers ks zs h.1 l.1)

pub numbers_are : (ks : List Token) (zs : List ℤ) → AreNumbers ks zs → numbers_of ks ≡ zs
numbers_are [] [] h = refl
numbers_are [] (z ∷ zs) h = absurd h
numbers_are (k ∷ ks) [] h = absurd h
numbers_are (k ∷ ks) (z ∷ zs) h = ap (λ r. onto_number r (numbers_of ks)) h.0 ∙ ap (λ l. z ∷ l) (numbers_are ks zs h.1)

pub spells_small : {v : ℕ} {b : Bool} {zs : List ℤ} {n k : ℕ} → v ≤ 256 → Spells v b zs n k → AllByRecursion (λ z. nat_abs z ≤ 99999) zs
spells_small l done = tt
spells_small l (literal h s) = (omega (arith, h.1), spells_small l s)
spells_small l (stop s) = (omega arith, spells_small l s)

spells_ends : {v : ℕ} {zs : List ℤ} {n k : ℕ} → Spells v true zs n k → 1 ≤ n
spells_ends (literal l s) = spells_ends s
spells_ends (stop s) = omega arith

abbrev pub tally : ℕ → ℕ → Bool → Tally
tally e k b = record { ended = e; literals = k; begun = b }

-- numbers that spell the clauses still wanted are accepted
pub spelled_clauses : (v c m : ℕ) (t : Tally) (ks : List Token) {zs : List ℤ} {n k : ℕ} (b : Bool) → AreNumbers ks zs → t.begun ≡ b → Spells v b zs n k → t.ended + n ≡ c → c ≤ 1024 → t.literals + k ≤ 4096 → clauses_from v c m t ks ≡ Ok (tally c (t.literals + k) false)
spelled_clauses v c m t [] false a e done x l r =
    let f : t ≡ tally c (t.literals + 0) false = ap (tally t.ended t.literals) e ∙ ap (λ y. tally y t.literals false) (omega arith) ∙ ap (λ y. tally c y false) (omega arith) in
    cond-false _ _ _ (or_from t.begun _ e (not_from_true _ (eq-eqb t.ended c (omega arith)))) ∙ ap Ok f
spelled_clauses v c m t [] b a e (literal h s) x l r = absurd a
spelled_clauses v c m t [] true a e (stop s) x l r = absurd a
spelled_clauses v c m t (k ∷ ks) false a e done x l r = absurd a
spelled_clauses v c m t (k ∷ ks) b a e (literal {w} {ws} {n} {k = i} h s) x l r =
    let g = spells_ends s in
    let z : tallied v t w ≡ Ok (with_literal t) = cond-false _ _ _ (literal_word w h.0) ∙ cond-false _ _ _ (le-ltb v (nat_abs w) h.1) ∙ cond-false _ _ _ (lt-leb 4096 t.literals (omega arith)) in
    ap (λ y. and_then (and_then (in_clause y (t.ended + 1)) (taken v c t k.place)) (λ u. clauses_from v c m u ks)) a.0
    ∙ ap (λ y. and_then y (λ u. clauses_from v c m u ks)) (cond-false _ _ _ (lt-leb c t.ended (omega arith)) ∙ ap (λ y. by_rule y k.place (t.ended + 1)) z)
    ∙ spelled_clauses v c m (with_literal t) ks true a.1 refl s x l (omega arith)
    ∙ ap (λ y. Ok (tally c y false)) (omega arith)
spelled_clauses v c m t (k ∷ ks) true a e (stop {ws} {n} {k = i} s) x l r =
    let z : tallied v t (pos 0) ≡ Ok (with_end t) = cond-true _ _ _ e ∙ cond-false _ _ _ (lt-leb 1024 t.ended (omega arith)) in
    ap (λ y. and_then (and_then (in_clause y (t.ended + 1)) (taken v c t k.place)) (λ u. clauses_from v c m u ks)) a.0
    ∙ ap (λ y. and_then y (λ u. clauses_from v c m u ks)) (cond-false _ _ _ (lt-leb c t.ended (omega arith)) ∙ ap (λ y. by_rule y k.place (t.ended + 1)) z)
    ∙ spelled_clauses v c m (with_end t) ks false a.1 refl s (omega arith) l r

-- the words of a problem line
pub record Four (s : ℕ) (ts : List Token) (x y : Said) : Type 0 where
  pub first : Token
  pub second : Token
  pub third : Token
  pub fourth : Token
  pub words : ts ≡ first ∷ second ∷ third ∷ fourth ∷ []
  pub is_p_lem : is_p first.bytes ≡ true
  pub at_start : first.place ≡ s
  pub is_cnf_lem : is_cnf second.bytes ≡ true
  pub third_is : said_of third ≡ x
  pub fourth_is : said_of fourth ≡ y

some≢none : (x : Said × Said) → ◌≡◌ {A = Option (Said × Said)} None (Some x) → ⊥
some≢none x e = let z : ◌≡◌ {A = ℕ} 0 1 = cc in omega arith

four_by : (s : ℕ) (a b v c : Token) (x y : Said) (t : Bool) → (is_p a.bytes && (eqb a.place s && is_cnf b.bytes)) ≡ t → cond {A = Option (Said × Said)} t (Some (said_of v, said_of c)) None ≡ Some (x, y) → Four s (a ∷ b ∷ v ∷ c ∷ []) x y
four_by s a b v c x y true e h =
    let p = and_parts (is_p a.bytes) _ e in
    let q = and_parts (eqb a.place s) (is_cnf b.bytes) p.1 in
    let said : ◌≡◌ {A = Said × Said} (said_of v, said_of c) (x, y) = cc in
    record { first = a; second = b; third = v; fourth = c; words = refl; is_p_lem = p.0; at_start = eqb-true a.place s q.0; is_cnf_lem = q.1; third_is = ap (λ r. r.0) said; fourth_is = ap (λ r. r.1) said }
four_by s a b v c x y false e h = absurd (some≢none (x, y) h)

pub four : (s : ℕ) (ts : List Token) (x y : Said) → problem_of s ts ≡ Some (x, y) → Four s ts x y
four s [] x y h = absurd (some≢none (x, y) h)
four s (a ∷ []) x y h = absurd (some≢none (x, y) h)
four s (a ∷ b ∷ []) x y h = absurd (some≢none (x, y) h)
four s (a ∷ b ∷ v ∷ []) x y h = absurd (some≢none (x, y) h)
four s (a ∷ b ∷ v ∷ c ∷ []) x y h = four_by s a b v c x y (is_p a.bytes && (eqb a.place s && is_cnf b.bytes)) refl h
four s (a ∷ b ∷ v ∷ c ∷ d ∷ ts) x y h = absurd (some≢none (x, y) h)

p_bytes : (w : List ℕ) → is_p w ≡ true → w ≡ 112 ∷ []
p_bytes [] e = absurd (true≢false (sym e))
p_bytes (a ∷ []) e = ap (λ x. x ∷ []) (eqb-true a 112 e)
p_bytes (a ∷ b ∷ w) e = absurd (true≢false (sym e))

cnf_bytes : (w : List ℕ) → is_cnf w ≡ true → w ≡ 99 ∷ 110 ∷ 102 ∷ []
cnf_bytes [] e = absurd (true≢false (sym e))
cnf_bytes (a ∷ []) e = absurd (true≢false (sym e))
cnf_bytes (a ∷ b ∷ []) e = absurd (true≢false (sym e))
cnf_bytes (a ∷ b ∷ c ∷ []) e =
    let p = and_parts (eqb a 99) _ e in
    let q = and_parts (eqb b 110) (eqb c 102) p.1 in
    ap (λ x. x ∷ b ∷ c ∷ []) (eqb-true a 99 p.0) ∙ ap (λ x. 99 ∷ x ∷ c ∷ []) (eqb-true b 110 q.0) ∙ ap (λ x. 99 ∷ 110 ∷ x ∷ []) (eqb-true c 102 q.1)
cnf_bytes (a ∷ b ∷ c ∷ d ∷ w) e = absurd (true≢false (sym e))

head_numeral_by : (t : Token) (z : ℤ) (b : Bool) → is_number t.bytes ≡ b → head_number (word b t) ≡ Ok z → Numeral t.bytes z
head_numeral_by t z true e h = record { form = e; value = valued_ok t.bytes t.place z h }
head_numeral_by t z false e h = absurd (ok≢err z (NotANumber t.place) h)

-- a number of the head
head_numeral : (t : Token) (w : Said) (z : ℤ) → said_of t ≡ w → head_number w ≡ Ok z → Numeral t.bytes z
head_numeral t w z e h = head_numeral_by t z (is_number t.bytes) refl (ap head_number e ∙ h)

-- the problem line that was accepted
pub problem_line_lem : (s : ℕ) (line : List ℕ) (x y : Said) (v c : ℕ) → AllByRecursion (λ b. in_line b ≡ true) line → Four s (tokens s line) x y → head_number x ≡ Ok (pos v) → head_number y ≡ Ok (pos c) → Problem_line line v c
problem_line_lem s line x y v c a f hv hc =
    let q = first_at s line f.first (f.second ∷ f.third ∷ f.fourth ∷ []) f.words f.at_start in
    let p = p_bytes f.first.bytes f.is_p_lem in
    let e : q.0 ≡ 112 = cc in
    let w : bytes_of (tokens s line) ≡ (112 ∷ []) ∷ (99 ∷ 110 ∷ 102 ∷ []) ∷ f.third.bytes ∷ f.fourth.bytes ∷ [] = ap bytes_of f.words ∙ ap (λ a. a ∷ f.second.bytes ∷ f.third.bytes ∷ f.fourth.bytes ∷ []) p ∙ ap (λ a. (112 ∷ []) ∷ a ∷ f.third.bytes ∷ f.fourth.bytes ∷ []) (cnf_bytes f.second.bytes f.is_cnf_lem) in
    record {
      one_line = a;
      behind = q.1;
      opens = q.3 ∙ ap (λ b. b ∷ q.1) e;
      variables = f.third.bytes;
      clauses = f.fourth.bytes;
      words = subst (Worded line) w (tokens_worded s line);
      variables_are = head_numeral f.third x (pos v) f.third_is hv;
      clauses_are = head_numeral f.fourth y (pos c) f.fourth_is hc;
    }

-- a number within the limits is accepted in the head
pub limited_is : (m : ℕ) (t : Token) (x : ℕ) → Numeral t.bytes (pos x) → 1 ≤ x → x ≤ m → x ≤ 99999 → limited m (said_of t) ≡ Ok x
limited_is m t x n a b l =
    let v : valued t.bytes t.place ≡ Ok (pos x) = sym (cond-true _ _ _ n.form) ∙ small_number t.bytes t.place (pos x) n l in
    ap (λ f. limited m (word f t)) n.form ∙ ap (λ r. and_then (headed r) (up_to m t.place)) v ∙ cond-true _ _ _ (and_from _ _ (le-leb 1 x a) (le-leb x m b))
