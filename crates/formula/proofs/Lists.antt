-- The lists of the clauses that name each variable.
use Rattle.std.proofs.Common.{◌≡◌, ℕ, zero, suc, ◌+◌, ◌<◌, ◌≤◌, Bool, true, false, cond, ◌||◌, eqb, List, [], ◌∷◌, ◌++◌, length, set, replicate, sym, refl, ap, ◌∙◌, subst, ap₂, ⊎_elim, mul-zero, add-one, arith}
use Rattle.std.proofs.lemmas.Bool.{cases_eq, ne_eqb}
use Rattle.std.proofs.lemmas.List.{length-append, length-set, length-replicate, get_or-set_same, get_or-set_other, get_or-replicate, append_assoc, append-nil}
use Rattle.formula.specs.declared.entry.Entry.{Entry}
use Rattle.formula.specs.declared.formula.Formula.{Formula}
use Rattle.formula.specs.declared.occurrences.Occurrences.{Occurrences}
use Rattle.formula.specs.declared.span.Span.{Span}
use Rattle.formula.specs.Clauses.{sum_to}
use Rattle.formula.specs.Entries.{bit, named_in}
use Rattle.formula.specs.Spans.{span0, part_of, span_in, Inside}
use Rattle.formula.specs.Formulas.{clause_count, entries_of}
use Rattle.formula.specs.Occurrences.{OccursTo, passing, names_at, listed, occurring_in}
use Rattle.formula.proofs.Sums.{at_all, bit_le, sum_to_same, sum_to_le, sum_to_one, sum_to_add, sum_to_const, sum_to_swap}
use Rattle.formula.proofs.Adding.{part_front, part_back}

pub length-passing : (p : ℕ → Bool) (n : ℕ) → length (passing p n) ≡ sum_to n (λ i. bit (p i))
length-passing p zero = refl
length-passing p (suc n) = length-append (passing p n) (cond (p n) (n ∷ []) []) ∙ ap₂ ◌+◌ (length-passing p n) (go (p n))
  where
    go : (b : Bool) → length (cond b (n ∷ []) []) ≡ bit b
    go true = refl
    go false = refl

pub sum_to_grows : (m n : ℕ) (g : ℕ → ℕ) → m ≤ n → sum_to m g ≤ sum_to n g
sum_to_grows m zero g l = let e : 0 ≡ m = omega arith in subst (λ k. sum_to k g ≤ 0) e (omega arith)
sum_to_grows m (suc n) g l =
    ⊎_elim (λ (q : m ≡ suc n). subst (λ k. sum_to m g ≤ sum_to k g) q (omega arith)) (λ (q : m ≡ suc n → ⊥). omega (arith, sum_to_grows m n g (omega arith))) (cases_eq m (suc n))

-- a number more that passes has room
pub passing_room : (p : ℕ → Bool) (i n : ℕ) → i < n → p i ≡ true → length (passing p i) < length (passing p n)
passing_room p i n l h =
    let b : bit (p i) ≡ 1 = ap bit h in
    omega (arith, length-passing p i, length-passing p n, sum_to_grows (suc i) n (λ j. bit (p j)) l)

one_hit : (n v : ℕ) → sum_to n (λ x. bit (eqb v x)) ≤ 1
one_hit n v = sum_to_one n (λ x. bit (eqb v x)) v (bit_le (eqb v v)) (λ k ne. ap bit (ne_eqb v k (λ e. ne (sym e))))

bit_or : (p q : Bool) → bit (p || q) ≤ bit p + bit q
bit_or true q = omega arith
bit_or false q = omega arith

-- a clause names at most as many variables as it has entries
pub named_bits : (n : ℕ) (es : List Entry) → sum_to n (λ x. bit (named_in es x)) ≤ length es
named_bits n [] = omega (arith, sum_to_const n 0, mul-zero n)
named_bits n (e ∷ es) =
    omega (arith, sum_to_le n (λ x. bit (eqb e.variable x || named_in es x)) (λ x. bit (eqb e.variable x) + bit (named_in es x)) (λ x _. bit_or (eqb e.variable x) (named_in es x)), sum_to_add n (λ x. bit (eqb e.variable x)) (λ x. bit (named_in es x)), one_hit n e.variable, named_bits n es)

-- the lists of all variables have room
pub lists_room : (f : Formula) (v : ℕ) → v ≤ f.variables → sum_to v (λ x. length (passing (names_at f x) (clause_count f))) ≤ 4096
lists_room f v l =
    let n = clause_count f in
    let V = f.variables in
    let a = sum_to_same V (λ x. length (passing (names_at f x) n)) (λ x. sum_to n (λ i. bit (names_at f x i))) (λ x _. length-passing (names_at f x) n) in
    let b = sum_to_swap V n (λ x i. bit (names_at f x i)) in
    let c = sum_to_le n (λ i. sum_to V (λ x. bit (names_at f x i))) (λ i. length (entries_of f i)) (λ i _. named_bits V (entries_of f i)) in
    omega (arith, sum_to_grows v V (λ x. length (passing (names_at f x) n)) l, f.made.all_entries, f.made.few_entries)

-- no variable has a list yet
pub inside_none : (m n : ℕ) → Inside (replicate m span0) n
inside_none m n i l =
    subst (λ (s : Span). (s.start ≤ s.end) × (s.end ≤ n)) (sym (get_or-replicate m i span0 span0 (omega (arith, length-replicate {A = Span} m span0)))) (omega arith, omega arith)

-- spans that mark parts of a list mark parts of a longer one too
pub inside_longer : (ss : List Span) (m n : ℕ) → m ≤ n → Inside ss m → Inside ss n
inside_longer ss m n l h i k = ((h i k).0, omega (arith, (h i k).1))

pub inside_set : (ss : List Span) (x n : ℕ) (s : Span) → x < length ss → s.start ≤ s.end → s.end ≤ n → Inside ss n → Inside (set ss x s) n
inside_set ss x n s l p q h =
    at_all (λ i. i < length (set ss x s) → ((span_in (set ss x s) i).start ≤ (span_in (set ss x s) i).end) × ((span_in (set ss x s) i).end ≤ n)) x
    (λ _. subst (λ (t : Span). (t.start ≤ t.end) × (t.end ≤ n)) (sym (get_or-set_same ss x s span0 l)) (p, q))
    (λ i ne k. subst (λ (t : Span). (t.start ≤ t.end) × (t.end ≤ n)) (sym (get_or-set_other ss x i s span0 ne)) (h i (omega (arith, length-set ss x s))))

-- the numbers xs are put behind those of o
pub record Listing (xs : List ℕ) (o p : Occurrences) : Type 0 where
  pub same_spans : p.spans ≡ o.spans
  pub items : p.clauses.items ≡ o.clauses.items ++ xs

module _ (q : ℕ → Bool) (i n : ℕ) (o : Occurrences) (l : i < n) (few : listed o + length (passing q n) ≤ 4096) (cs : List ℕ) (h : cs ≡ o.clauses.items ++ passing q i) where
  pub listing_room : q i ≡ true → length cs < 4096
  listing_room e = omega (arith, ap length h, length-append o.clauses.items (passing q i), passing_room q i n l e)

  pub listing_more : (ds : List ℕ) → ds ≡ cs ++ cond (q i) (i ∷ []) [] → ds ≡ o.clauses.items ++ passing q (i + 1)
  listing_more ds e =
      e
      ∙ (ap (λ xs. xs ++ cond (q i) (i ∷ []) []) h
      ∙ (append_assoc o.clauses.items (passing q i) (cond (q i) (i ∷ []) [])
      ∙ ap (λ k. o.clauses.items ++ passing q k) (sym (add-one i))))

-- the list of one variable more
module _ (f : Formula) (v : ℕ) (o : Occurrences) (small : v < 256) (was : OccursTo f v o) (cs : List ℕ) (s : Span) (h : cs ≡ o.clauses.items ++ passing (names_at f v) (clause_count f)) (from : s.start ≡ listed o) (to : s.end ≡ length cs) where
  long : length cs ≡ listed o + length (passing (names_at f v) (clause_count f))
  long = ap length h ∙ length-append o.clauses.items (passing (names_at f v) (clause_count f))

  pub occurs_more : (p : Occurrences) → p.spans ≡ set o.spans v s → p.clauses.items ≡ cs → OccursTo f (v + 1) p
  occurs_more p es ec =
      let at : (x : ℕ) → occurring_in p x ≡ part_of (span_in (set o.spans v s) x) (o.clauses.items ++ passing (names_at f v) (clause_count f)) = λ x. ap₂ (λ ss xs. part_of (span_in ss x) xs) es (ec ∙ h) in
      record {
        lists = at_all (λ x. x < v + 1 → occurring_in p x ≡ passing (names_at f x) (clause_count f)) v
            (λ _. at v ∙ (ap (λ (t : Span). part_of t (o.clauses.items ++ passing (names_at f v) (clause_count f))) (get_or-set_same o.spans v s span0 (omega (arith, o.rows))) ∙ part_back s o.clauses.items (passing (names_at f v) (clause_count f)) from (to ∙ ap length h)))
            (λ x ne m.
            let k : x < v = omega arith in
            let in' = o.inside x (omega (arith, o.rows)) in
            at x
            ∙ (ap (λ (t : Span). part_of t (o.clauses.items ++ passing (names_at f v) (clause_count f))) (get_or-set_other o.spans v x s span0 ne)
            ∙ (part_front (span_in o.spans x) o.clauses.items (passing (names_at f v) (clause_count f)) in'.0 in'.1
            ∙ was.lists x k)));
      }

-- a list of the numbers from i on and below n that pass, rising
abbrev pub Lists : (ℕ → Bool) → ℕ → List ℕ → ℕ → Type 0
Lists p i [] n = (i ≤ n) × ((j : ℕ) → i ≤ j → j < n → p j ≡ false)
Lists p i (k ∷ ks) n = ((i ≤ k) × (k < n)) × ((j : ℕ) → i ≤ j → j < k → p j ≡ false) × Lists p (k + 1) ks n

lists_skip : (p : ℕ → Bool) (i : ℕ) (xs : List ℕ) (n : ℕ) → p n ≡ false → Lists p i xs n → Lists p i xs (n + 1)
lists_skip p i [] n e h = (omega (arith, h.0), at_all (λ j. i ≤ j → j < n + 1 → p j ≡ false) n (λ _ _. e) (λ j ne a b. h.1 j a (omega arith)))
lists_skip p i (k ∷ ks) n e h = ((h.0.0, omega (arith, h.0.1)), h.1, lists_skip p (k + 1) ks n e h.2)

lists_push : (p : ℕ → Bool) (i : ℕ) (xs : List ℕ) (n : ℕ) → Lists p i xs n → Lists p i (xs ++ (n ∷ [])) (n + 1)
lists_push p i [] n h = ((h.0, omega arith), h.1, (omega arith, λ j a b. absurd (omega arith)))
lists_push p i (k ∷ ks) n h = ((h.0.0, omega (arith, h.0.1)), h.1, lists_push p (k + 1) ks n h.2)

pub lists_passing : (p : ℕ → Bool) (n : ℕ) → Lists p 0 (passing p n) n
lists_passing p zero = (omega arith, λ j _ l. absurd (omega arith))
lists_passing p (suc n) = subst (Lists p 0 (passing p (suc n))) (add-one n) (lists_kept (lists_passing p n) (p n) refl)
  where
    lists_kept : Lists p 0 (passing p n) n → (b : Bool) → p n ≡ b → Lists p 0 (passing p n ++ cond b (n ∷ []) []) (n + 1)
    lists_kept h true e = lists_push p 0 (passing p n) n h
    lists_kept h false e = subst (λ xs. Lists p 0 xs (n + 1)) (sym (append-nil (passing p n))) (lists_skip p 0 (passing p n) n e h)
