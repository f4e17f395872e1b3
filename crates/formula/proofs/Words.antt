-- The entries of a clause mean what its words mean.
use Rattle.std.proofs.Common.{◌≡◌, ℕ, zero, suc, ◌<◌, ◌≤◌, Bool, true, false, cond, not, ◌&&◌, ◌||◌, eqb, List, [], ◌∷◌, ◌++◌, map, ℤ, pos, negsuc, sym, refl, ap, ◌∙◌, ap₂, ⊎_elim, arith}
use Rattle.std.specs.List.{AllByRecursion}
use Rattle.std.proofs.lemmas.Bool.{cases_eq, cases_lt, eq-eqb, ne_eqb, or_from, false≢true}
use Rattle.std.proofs.lemmas.List.{map-append}
use Rattle.std.proofs.lemmas.Bool.Decides.{nat_tests}
use Rattle.cnf.specs.Tables.{Literal, holds, satisfied}
use Rattle.formula.specs.declared.entry.Entry.{Entry}
use Rattle.formula.specs.Clauses.{any_to, variable_of, names}
use Rattle.formula.specs.Entries.{literals, any_of, is_plain, is_negated, entry_of, kept, entries_to, named_in}
use Rattle.formula.specs.Occurrences.{passing}
use Rattle.formula.specs.Meaning.{SameMeaning}
use Rattle.formula.proofs.Sums.{or_none, any_to_same, any_to_none, any_to_gain}
use Rattle.formula.proofs.Counts.{sat_onto, satisfied-count, named_append}
use Rattle.formula.proofs.Normal.{hit, word, normal_below}

sat_append : (a : ℕ → Bool) (xs ys : List Entry) → satisfied a (literals (xs ++ ys)) ≡ (satisfied a (literals xs) || satisfied a (literals ys))
sat_append a [] ys = refl
sat_append a (x ∷ xs) ys =
    sat_onto a x.variable x.plain x.negated (literals (xs ++ ys))
    ∙ (ap (λ b. cond x.plain (a x.variable) false || (cond x.negated (not (a x.variable)) false || b)) (sat_append a xs ys)
    ∙ (shift (cond x.plain (a x.variable) false) (cond x.negated (not (a x.variable)) false) (satisfied a (literals xs)) (satisfied a (literals ys))
    ∙ ap (λ b. b || satisfied a (literals ys)) (sym (sat_onto a x.variable x.plain x.negated (literals xs)))))
  where
    shift : (p q r s : Bool) → (p || (q || (r || s))) ≡ ((p || (q || r)) || s)
    shift true q r s = refl
    shift false true r s = refl
    shift false false r s = refl

-- the words of the variable v alone
on : (a : ℕ → Bool) → List ℤ → ℕ → Bool
on a c v = (any_of (is_plain v) c && a v) || (any_of (is_negated v) c && not (a v))

kept_sat : (a : ℕ → Bool) (e : Entry) → satisfied a (literals (kept e)) ≡ ((e.plain && a e.variable) || (e.negated && not (a e.variable)))
kept_sat a e = go e.variable e.plain e.negated
  where
    tail : (b : Bool) → (b || false) ≡ b
    tail true = refl
    tail false = refl

    go : (v : ℕ) (p n : Bool) → satisfied a (literals (cond (p || n) (record { variable = v; plain = p; negated = n } ∷ []) [])) ≡ ((p && a v) || (n && not (a v)))
    go v true true = ap (λ b. a v || b) (tail (not (a v)))
    go v true false = refl
    go v false true = tail (not (a v))
    go v false false = refl

normal_on : (a : ℕ → Bool) (c : List ℤ) (n : ℕ) → satisfied a (literals (entries_to c n)) ≡ any_to n (on a c)
unfolding on
normal_on a c zero = refl
normal_on a c (suc n) = sat_append a (entries_to c n) (kept (entry_of c n)) ∙ ap₂ ◌||◌ (normal_on a c n) (kept_sat a (entry_of c n))

any_to_or : (n : ℕ) (p q : ℕ → Bool) → any_to n (λ k. p k || q k) ≡ (any_to n p || any_to n q)
any_to_or zero p q = refl
any_to_or (suc n) p q = ap (λ b. b || (p n || q n)) (any_to_or n p q) ∙ swap (any_to n p) (any_to n q) (p n) (q n)
  where
    swap : (a b c d : Bool) → ((a || b) || (c || d)) ≡ ((a || c) || (b || d))
    swap true b c d = refl
    swap false true true d = refl
    swap false true false d = refl
    swap false false c d = refl

one : (a : ℕ → Bool) → ℤ → ℕ → Bool
one a l v = (is_plain v l && a v) || (is_negated v l && not (a v))

on_cons : (a : ℕ → Bool) (l : ℤ) (ls : List ℤ) (v : ℕ) → on a (l ∷ ls) v ≡ (one a l v || on a ls v)
unfolding on one
on_cons a l ls v = go (is_plain v l) (any_of (is_plain v) ls) (is_negated v l) (any_of (is_negated v) ls) (a v)
  where
    go : (p q m n u : Bool) → (((p || q) && u) || ((m || n) && not u)) ≡ (((p && u) || (m && not u)) || ((q && u) || (n && not u)))
    go true q m n true = refl
    go true q true n false = refl
    go true true false n false = refl
    go true false false n false = refl
    go false true true n true = refl
    go false true false n true = refl
    go false false true true true = refl
    go false false true false true = refl
    go false false false true true = refl
    go false false false false true = refl
    go false true true n false = refl
    go false false true n false = refl
    go false true false n false = refl
    go false false false n false = refl

only : (n : ℕ) (q : ℕ → Bool) (i : ℕ) → i < n → ((k : ℕ) → (k ≡ i → ⊥) → q k ≡ false) → any_to n q ≡ q i
only n q i l e = any_to_gain n (λ _. false) q i l (λ k _ ne. e k ne) (λ h. absurd (false≢true h)) ∙ ap (λ b. b || q i) (any_to_none n (λ _. false) (λ _ _. refl))

one_is : (a : ℕ → Bool) (n : ℕ) (w : ℤ) → Literal n w → any_to n (one a w) ≡ holds a w
unfolding one
one_is a n (pos zero) r = absurd (omega (arith, r.0))
one_is a n (pos (suc v)) r =
    only n (one a (pos (suc v))) v (omega (arith, r.1)) (λ k ne. ap (λ b. (b && a k) || false) (ne_eqb (suc v) (suc k) (λ e. ne (omega arith))))
    ∙ (ap (λ b. (b && a v) || false) (eq-eqb (suc v) (suc v) refl) ∙ or_none (a v))
one_is a n (negsuc v) r =
    only n (one a (negsuc v)) v (omega (arith, r.1)) (λ k ne. ap (λ b. b && not (a k)) (ne_eqb v k (λ e. ne (sym e))))
    ∙ ap (λ b. b && not (a v)) (eq-eqb v v refl)

on_all : (a : ℕ → Bool) (n : ℕ) (c : List ℤ) → AllByRecursion (Literal n) c → any_to n (on a c) ≡ satisfied a c
unfolding on
on_all a n [] r = any_to_none n (on a []) (λ k _. refl)
on_all a n (w ∷ ws) r = any_to_same n (on a (w ∷ ws)) (λ v. one a w v || on a ws v) (λ v _. on_cons a w ws v) ∙ (any_to_or n (one a w) (on a ws) ∙ ap₂ ◌||◌ (one_is a n w r.0) (on_all a n ws r.1))

word_names : (v : ℕ) (w : ℤ) (x : ℕ) → Literal v w → eqb (variable_of w) x ≡ word x w
word_names v (pos zero) x r = absurd (omega (arith, r.0))
word_names v (pos (suc m)) x r = grind (arith, nat_tests)
word_names v (negsuc m) x r = refl

hit_names : (v : ℕ) (c : List ℤ) (x : ℕ) → AllByRecursion (Literal v) c → names c x ≡ hit x c
hit_names v [] x r = refl
hit_names v (w ∷ ws) x r =
    ap₂ ◌||◌ (word_names v w x r.0) (hit_names v ws x r.1)
    ∙ swap (is_plain x w) (is_negated x w) (any_of (is_plain x) ws) (any_of (is_negated x) ws)
  where
    swap : (a b c d : Bool) → ((a || b) || (c || d)) ≡ ((a || c) || (b || d))
    swap true b c d = refl
    swap false true true d = refl
    swap false true false d = refl
    swap false false c d = refl

kept_named : (c : List ℤ) (n x : ℕ) → named_in (kept (entry_of c n)) x ≡ (hit n c && eqb n x)
kept_named c n x = go (hit n c) (eqb n x)
  where
    go : (h e : Bool) → named_in (cond h (entry_of c n ∷ []) []) x ≡ (h && eqb n x)
    go true e = or_none (eqb n x)
    go false e = refl

named_normal : (c : List ℤ) (n x : ℕ) → x < n → named_in (entries_to c n) x ≡ hit x c
named_normal c zero x l = absurd (omega arith)
named_normal c (suc n) x l =
    named_append (entries_to c n) (kept (entry_of c n)) x
    ∙ ⊎_elim
    (λ (q : n ≡ x). ap₂ ◌||◌ (normal_below c n x (omega arith)) (kept_named c n x ∙ (ap (λ b. hit n c && b) (eq-eqb n x q) ∙ (and_true (hit n c) ∙ ap (λ y. hit y c) q))))
    (λ (q : n ≡ x → ⊥). ap₂ ◌||◌ (named_normal c n x (omega arith)) (kept_named c n x ∙ (ap (λ b. hit n c && b) (ne_eqb n x q) ∙ and_false (hit n c))) ∙ or_none (hit x c))
    (cases_eq n x)
  where
    and_true : (b : Bool) → (b && true) ≡ b
    and_true true = refl
    and_true false = refl

    and_false : (b : Bool) → (b && false) ≡ false
    and_false true = refl
    and_false false = refl

names_small : (v : ℕ) (c : List ℤ) (x : ℕ) → AllByRecursion (Literal v) c → v ≤ x → names c x ≡ false
names_small v [] x r l = refl
names_small v (w ∷ ws) x r l = or_from _ _ (ne_eqb (variable_of w) x (λ e. omega (arith, small w r.0))) (names_small v ws x r.1 l)
  where
    small : (w : ℤ) → Literal v w → variable_of w < v
    small (pos zero) q = absurd (omega (arith, q.0))
    small (pos (suc m)) q = omega (arith, q.1)
    small (negsuc m) q = omega (arith, q.1)

pub passing_same : (p q : ℕ → Bool) (n : ℕ) → ((k : ℕ) → k < n → p k ≡ q k) → passing p n ≡ passing q n
passing_same p q zero e = refl
passing_same p q (suc n) e = ap₂ (λ xs b. xs ++ cond b (n ∷ []) []) (passing_same p q n (λ k l. e k (omega arith))) (e n (omega arith))

variables_hit : (c : List ℤ) (n : ℕ) → map (λ (e : Entry). e.variable) (entries_to c n) ≡ passing (λ x. hit x c) n
variables_hit c zero = refl
variables_hit c (suc n) = map-append (λ (e : Entry). e.variable) (entries_to c n) (kept (entry_of c n)) ∙ ap₂ ◌++◌ (variables_hit c n) (go (hit n c))
  where
    go : (b : Bool) → map (λ (e : Entry). e.variable) (cond b (entry_of c n ∷ []) []) ≡ cond b (n ∷ []) []
    go true = refl
    go false = refl

pub same_meaning : SameMeaning
same_meaning v c r =
    record {
      satisfies = λ a. sym (normal_on a c v ∙ on_all a v c r) ∙ satisfied-count a (entries_to c v);
      named = λ x. ⊎_elim
          (λ (l : x < v). named_normal c v x l ∙ sym (hit_names v c x r))
          (λ (l : v ≤ x). normal_below c v x l ∙ sym (names_small v c x r l))
          (cases_lt x v);
      variables = variables_hit c v ∙ passing_same (λ x. hit x c) (names c) v (λ x _. sym (hit_names v c x r));
    }
