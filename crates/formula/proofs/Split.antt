-- Splitting the words of a table into its clauses.
use Rattle.std.proofs.Common.{◌≡◌, ℕ, zero, suc, ◌+◌, ◌<◌, ◌≤◌, false, cond, List, [], ◌∷◌, ◌++◌, length, get_or, drop, ℤ, pos, negsuc, sym, refl, ap, ◌∙◌, subst, ap₂, ⊎_elim, arith}
use Rattle.std.specs.List.{AllByRecursion}
use Rattle.std.proofs.lemmas.Bool.{cases_lt}
use Rattle.std.proofs.lemmas.List.{drop_more, drop_all, length-append}
use Rattle.cnf.specs.Tables.{is_zero, Literal, Clause, spelled, literals_in, Legal, Parted, onto, clauses_of}
use Rattle.formula.specs.declared.formula.Formula.{Formula}
use Rattle.formula.specs.Entries.{entries_to}
use Rattle.formula.specs.Formulas.{Added, Holds, clause_count, entry_count, entries_of}
use Rattle.formula.proofs.Sums.{at_all}

-- a literal is no 0
pub literal_nonzero : (v : ℕ) (w : ℤ) → Literal v w → is_zero w ≡ false
literal_nonzero v (pos zero) h = absurd (omega (arith, h.0))
literal_nonzero v (pos (suc n)) h = refl
literal_nonzero v (negsuc n) h = refl

-- a clause in front
clause_front : (v : ℕ) (c ws : List ℤ) → AllByRecursion (Literal v) c → clauses_of (c ++ (pos 0 ∷ ws)) ≡ c ∷ clauses_of ws
clause_front v [] ws h = refl
clause_front v (w ∷ c) ws h =
    ap (λ b. cond b ([] ∷ clauses_of (c ++ (pos 0 ∷ ws))) (onto w (clauses_of (c ++ (pos 0 ∷ ws))))) (literal_nonzero v w h.0)
    ∙ ap (onto w) (clause_front v c ws h.1)

-- the clauses that spelled clauses spell are these
pub clauses_spelled : (v : ℕ) (cs : List (List ℤ)) → AllByRecursion (Clause v) cs → clauses_of (spelled cs) ≡ cs
clauses_spelled v [] h = refl
clauses_spelled v (c ∷ cs) h = clause_front v c (spelled cs) h.0.1 ∙ ap (λ ds. c ∷ ds) (clauses_spelled v cs h.1)

pub clauses_legal : (v : ℕ) (ws : List ℤ) (legal : Legal v ws) → clauses_of ws ≡ legal.clauses
clauses_legal v ws legal = ap clauses_of legal.words ∙ clauses_spelled v legal.clauses legal.each

length-spelled : (cs : List (List ℤ)) → length (spelled cs) ≡ literals_in cs + length cs
length-spelled [] = refl
length-spelled (c ∷ cs) = let h = length-spelled cs in omega (arith, length-append c (pos 0 ∷ spelled cs))

-- a table has at most 5,120 words
pub legal_words : (v : ℕ) (ws : List ℤ) → Legal v ws → length ws ≤ 5120
legal_words v ws legal = omega (arith, ap length legal.words, length-spelled legal.clauses, legal.number, legal.literals)

pub literals-drop : (n : ℕ) (cs : List (List ℤ)) → n < length cs → literals_in (drop n cs) ≡ length (get_or cs n []) + literals_in (drop (n + 1) cs)
literals-drop n cs l = ap literals_in (drop_more cs n [] l)

-- the words ws are still to be read, and the formula has the clauses before
pub record Loading (v : ℕ) (all ws : List ℤ) (f : Formula) : Type 0 where
  pub legal : Legal v all
  pub variables : f.variables ≡ v
  pub few : clause_count f ≤ length legal.clauses
  pub rest : clauses_of ws ≡ drop (clause_count f) legal.clauses
  pub entries : (i : ℕ) → i < clause_count f → entries_of f i ≡ entries_to (get_or legal.clauses i []) v
  pub room : entry_count f + literals_in (drop (clause_count f) legal.clauses) ≤ 4096

pub loading_start : (v : ℕ) (ws : List ℤ) (f : Formula) → Legal v ws → f.variables ≡ v → f.spans.items ≡ [] → f.entries.items ≡ [] → Loading v ws ws f
loading_start v ws f legal ev es ee =
    let none : clause_count f ≡ 0 = ap length es in
    record {
      legal = legal;
      variables = ev;
      few = omega arith;
      rest = clauses_legal v ws legal ∙ ap (λ n. drop n legal.clauses) (sym none);
      entries = λ i l. absurd (omega arith);
      room = subst (λ n. entry_count f + literals_in (drop n legal.clauses) ≤ 4096) (sym none) (omega (arith, ap length ee, legal.literals));
    }

module _ (v : ℕ) (all ws : List ℤ) (f : Formula) (h : Loading v all ws f) where
  abbrev cs : List (List ℤ)
  cs = h.legal.clauses

  abbrev n : ℕ
  n = clause_count f

  -- another clause comes next
  module _ (c ds : List ℤ) (p : Parted ws c ds) where
    left : drop n cs ≡ c ∷ clauses_of ds
    left = sym h.rest ∙ p.clauses

    more : n < length cs
    more =
        ⊎_elim (λ q. q)
        (λ (q : length cs ≤ n). absurd (omega (arith, ap length (sym (drop_all n cs q) ∙ left))))
        (cases_lt n (length cs))

    both : get_or cs n [] ∷ drop (n + 1) cs ≡ c ∷ clauses_of ds
    both = sym (drop_more cs n [] more) ∙ left

    clause_is : get_or cs n [] ≡ c
    clause_is = ap (λ xs. get_or xs 0 []) both

    pub loading_room : entry_count f + length c ≤ 4096
    loading_room = omega (arith, h.room, literals-drop n cs more, ap length clause_is)

    pub loading_few : clause_count f < 1024
    loading_few = omega (arith, more, h.legal.number)

    pub loading_more : (g : Formula) → Added c f g → Loading v all ds g
    loading_more g a =
        let e = a.one_more in
        record {
          legal = h.legal;
          variables = a.same_variables ∙ h.variables;
          few = omega (arith, more);
          rest = sym (ap (drop 1) both) ∙ ap (λ m. drop m cs) (sym e);
          entries = at_all (λ i. i < clause_count g → entries_of g i ≡ entries_to (get_or cs i []) v) n
              (λ _. a.new_entries ∙ ap₂ entries_to (sym clause_is) h.variables)
              (λ i ne m. a.same_entries i (omega arith) ∙ h.entries i (omega arith));
          room = omega (arith, h.room, a.room, literals-drop n cs more, ap length clause_is, ap (λ m. literals_in (drop m cs)) e);
        }

  -- no clause is left
  pub loading_end : clauses_of ws ≡ [] → Holds v (clauses_of all) f
  loading_end z =
      let last : length cs ≤ n =
      ⊎_elim
      (λ (q : n < length cs). absurd (omega (arith, ap length (sym (drop_more cs n [] q) ∙ sym h.rest ∙ z))))
      (λ q. q)
      (cases_lt n (length cs)) in
      subst (λ ds. Holds v ds f) (sym (clauses_legal v all h.legal))
      (record { variables = h.variables; clauses = omega (arith, h.few); entries = λ i s. h.entries i (omega arith); each = h.legal.each })
