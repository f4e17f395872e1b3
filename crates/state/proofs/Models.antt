-- What the rows say of the model.
use Rattle.std.proofs.Common.{◌≡◌, ℕ, zero, suc, ◌+◌, ◌<◌, ◌≤◌, Bool, true, false, cond, not, ◌&&◌, ◌||◌, eqb, ltb, List, [], ◌∷◌, ◌++◌, map, length, get_or, take, ℤ, pos, ◌-ℤ◌, sum, sym, refl, ap, ◌∙◌, ap₂, add-one, arith}
use Rattle.std.proofs.lemmas.List.{get_or-map, get_or-take, length-map, length-take-le, take_all, take_more}
use Rattle.std.proofs.ByRecursion.{All-get_or}
use Rattle.std.proofs.lemmas.List.Sums.{sum_by_more}
use Rattle.cnf.specs.Tables.{Assignment, Clause, satisfied, clauses_of}
use Rattle.formula.specs.declared.entry.Entry.{Entry}
use Rattle.formula.specs.declared.formula.Formula.{Formula}
use Rattle.formula.specs.declared.given.Given.{Given}
use Rattle.formula.specs.declared.occurrences.Occurrences.{Occurrences}
use Rattle.formula.specs.Clauses.{names, flip_at, sum_to, any_to}
use Rattle.formula.specs.Entries.{count, named_in, entries_to}
use Rattle.formula.specs.Formulas.{clause_count, entries_of, words_of}
use Rattle.formula.specs.Occurrences.{passing}
use Rattle.formula.specs.Meaning.{Same}
use Rattle.formula.proofs.Sums.{or_none, or_assoc, sum_to_same, any_to_same}
use Rattle.formula.proofs.Counts.{count_agree}
use Rattle.formula.proofs.Words.{same_meaning, passing_same}
use Rattle.table.specs.declared.table.Row.{Row}
use Rattle.table.specs.declared.table.ClauseRow.{ClauseRow}
use Rattle.table.specs.declared.table.Table.{Table}
use Rattle.state.specs.Model.{Model, assignment, stamp_of, weight_of, cost_at, cost, score, total, together, neighbours, changed, unsatisfied_from, unsatisfied, variables_in}
use Rattle.table.specs.Rows.{cost_in, near_in, rules_of, row0, clause0, row_at, value_at, stamp_at, weight_at, count_at}
use Rattle.state.specs.Standing.{model_in, Kept}

sum_to_front : (n : ℕ) (g : ℕ → ℕ) → sum_to (suc n) g ≡ g 0 + sum_to n (λ k. g (suc k))
sum_to_front zero g = omega arith
sum_to_front (suc n) g = let h = sum_to_front n g in omega arith

any_to_front : (n : ℕ) (p : ℕ → Bool) → any_to (suc n) p ≡ (p 0 || any_to n (λ k. p (suc k)))
any_to_front zero p = sym (or_none (p 0))
any_to_front (suc n) p = ap (λ b. b || p (suc n)) (any_to_front n p) ∙ or_assoc (p 0) (any_to n (λ k. p (suc k))) (p (suc n))

cost-sum : (a : Assignment) (cs : List (List ℤ)) (ws : List ℕ) → length ws ≡ length cs → cost_at a cs ws ≡ sum_to (length cs) (λ i. cond (satisfied a (get_or cs i [])) 0 (get_or ws i 0))
cost-sum a [] ws e = refl
cost-sum a (c ∷ cs) [] e = absurd (omega arith)
cost-sum a (c ∷ cs) (w ∷ ws) e =
    ap (λ n. cond (satisfied a c) 0 w + n) (cost-sum a cs ws (omega arith))
    ∙ sym (sum_to_front (length cs) (λ i. cond (satisfied a (get_or (c ∷ cs) i [])) 0 (get_or (w ∷ ws) i 0)))

together_any : (cs : List (List ℤ)) (x y : ℕ) → together cs x y ≡ any_to (length cs) (λ i. names (get_or cs i []) x && names (get_or cs i []) y)
together_any [] x y = refl
together_any (c ∷ cs) x y =
    ap (λ b. (names c x && names c y) || b) (together_any cs x y)
    ∙ sym (any_to_front (length cs) (λ i. names (get_or (c ∷ cs) i []) x && names (get_or (c ∷ cs) i []) y))

sum_upto : (ws : List ℕ) (i : ℕ) → i ≤ length ws → sum (take i ws) ≡ sum_to i (λ k. get_or ws k 0)
sum_upto ws zero l = refl
sum_upto ws (suc i) l =
    ap (λ n. sum (take n ws)) (sym (add-one i))
    ∙ (sum_by_more (λ x. x) ws i 0 (omega arith) ∙ ap (λ n. n + get_or ws i 0) (sum_upto ws i (omega arith)))

pub sum_all : (ws : List ℕ) → sum ws ≡ sum_to (length ws) (λ k. get_or ws k 0)
sum_all ws = ap sum (sym (take_all (length ws) ws (omega arith))) ∙ sum_upto ws (length ws) (omega arith)

unsat_push : (a : Assignment) (n : ℕ) (cs : List (List ℤ)) (c : List ℤ) → unsatisfied_from a n (cs ++ (c ∷ [])) ≡ unsatisfied_from a n cs ++ cond (satisfied a c) [] ((n + length cs) ∷ [])
unsat_push a n [] c = let e : n ≡ n + 0 = omega arith in ap (λ k. cond (satisfied a c) [] (k ∷ [])) e
unsat_push a n (d ∷ cs) c =
    let e : n + 1 + length cs ≡ n + suc (length cs) = omega arith in
    go (satisfied a d) (unsatisfied_from a (n + 1) (cs ++ (c ∷ []))) (unsatisfied_from a (n + 1) cs) (cond (satisfied a c) [] ((n + suc (length cs)) ∷ []))
    (unsat_push a (n + 1) cs c ∙ ap (λ k. unsatisfied_from a (n + 1) cs ++ cond (satisfied a c) [] (k ∷ [])) e)
  where
    go : (b : Bool) (us vs ws : List ℕ) → us ≡ vs ++ ws → cond b us (n ∷ us) ≡ cond b vs (n ∷ vs) ++ ws
    go true us vs ws e = e
    go false us vs ws e = ap (λ xs. n ∷ xs) e

unsat_upto : (a : Assignment) (cs : List (List ℤ)) (i : ℕ) → i ≤ length cs → unsatisfied_from a 0 (take i cs) ≡ passing (λ k. not (satisfied a (get_or cs k []))) i
unsat_upto a cs zero l = refl
unsat_upto a cs (suc i) l =
    let n : 0 + length (take i cs) ≡ i = omega (arith, length-take-le i cs (omega arith)) in
    ap (λ k. unsatisfied_from a 0 (take k cs)) (sym (add-one i))
    ∙ (ap (unsatisfied_from a 0) (take_more cs i [] (omega arith))
    ∙ (unsat_push a 0 (take i cs) (get_or cs i [])
    ∙ (ap₂ (λ xs k. xs ++ cond (satisfied a (get_or cs i [])) [] (k ∷ [])) (unsat_upto a cs i (omega arith)) n
    ∙ ap (λ xs. passing (λ k. not (satisfied a (get_or cs k []))) i ++ xs) (turn (satisfied a (get_or cs i []))))))
  where
    turn : (b : Bool) → cond b [] (i ∷ []) ≡ cond (not b) (i ∷ []) []
    turn true = refl
    turn false = refl

-- one field of the first rows, as a list
pub column : {X Y : Type 0} (g : X → Y) (xs : List X) (n k : ℕ) (d : X) (e : Y) → n ≤ length xs → k < n → get_or (map g (take n xs)) k e ≡ g (get_or xs k d)
column g xs n k d e l m =
    get_or-map g (take n xs) k d e (omega (arith, length-take-le n xs l)) ∙ ap g (get_or-take n xs k d m)

pub column_length : {X Y : Type 0} (g : X → Y) (xs : List X) (n : ℕ) → n ≤ length xs → length (map g (take n xs)) ≡ n
column_length g xs n l = length-map (take n xs) g ∙ length-take-le n xs l

flip_agree : (v x : ℕ) (a b : Assignment) → ((y : ℕ) → y < v → a y ≡ b y) → (y : ℕ) → y < v → flip_at x a y ≡ flip_at x b y
flip_agree v x a b h y l = ap (λ u. cond (eqb y x) (not u) u) (h y l)

module _ (g : Given) (f : Formula) (o : Occurrences) (t : Table) (kept : Kept g f o t) where
  abbrev m : Model
  m = model_in g f t

  abbrev cs : List (List ℤ)
  cs = clauses_of (words_of g)

  pub rows_enough : f.variables ≤ length t.rows
  rows_enough = omega (arith, f.made.few_variables, t.size)

  pub clauses_enough : (clause_count f) ≤ length t.clauses
  clauses_enough = omega (arith, f.made.few_clauses, t.clause_size)

  pub value_is : (y : ℕ) → y < f.variables → assignment m y ≡ value_at t y
  value_is y l = column (λ (r : Row). r.value) t.rows f.variables y row0 false rows_enough l

  pub stamp_is : (y : ℕ) → y < f.variables → stamp_of m y ≡ stamp_at t y
  stamp_is y l = column (λ (r : Row). r.stamp) t.rows f.variables y row0 0 rows_enough l

  pub weight_is : (i : ℕ) → i < (clause_count f) → weight_of m i ≡ weight_at t i
  weight_is i l = column (λ (r : ClauseRow). r.weight) t.clauses (clause_count f) i clause0 0 clauses_enough l

  pub weights_length : length m.weights ≡ (clause_count f)
  weights_length = column_length (λ (r : ClauseRow). r.weight) t.clauses (clause_count f) clauses_enough

  pub clauses_length : (clause_count f) ≡ length cs
  clauses_length = kept.holds.clauses

  clause_same : (i : ℕ) → i < (clause_count f) → Same f.variables (get_or cs i [])
  clause_same i l = same_meaning f.variables (get_or cs i []) (All-get_or (Clause f.variables) cs i [] (omega (arith, clauses_length)) kept.holds.each).1

  entries_are : (i : ℕ) → i < (clause_count f) → entries_to (get_or cs i []) f.variables ≡ entries_of f i
  entries_are i l = sym (kept.holds.entries i (omega (arith, clauses_length)))

  pub satisfied_is : (a b : Assignment) → ((y : ℕ) → y < f.variables → a y ≡ b y) → (i : ℕ) → i < (clause_count f) → satisfied a (get_or cs i []) ≡ not (eqb (count b (entries_of f i)) 0)
  satisfied_is a b h i l =
      (clause_same i l).satisfies a
      ∙ ap (λ n. not (eqb n 0)) (ap (count a) (entries_are i l) ∙ count_agree f.variables a b (entries_of f i) h (f.made.signed i l))

  pub names_is : (i : ℕ) → i < (clause_count f) → (x : ℕ) → names (get_or cs i []) x ≡ named_in (entries_of f i) x
  names_is i l x = sym ((clause_same i l).named x) ∙ ap (λ es. named_in es x) (entries_are i l)

  pub cost_at_lem : (a b : Assignment) → ((y : ℕ) → y < f.variables → a y ≡ b y) → cost_at a cs m.weights ≡ cost_in (rules_of f t) b
  cost_at_lem a b h =
      cost-sum a cs m.weights (weights_length ∙ clauses_length)
      ∙ (ap (λ n. sum_to n (λ i. cond (satisfied a (get_or cs i [])) 0 (get_or m.weights i 0))) (sym clauses_length)
      ∙ sum_to_same (clause_count f) _ _ (λ i l. ap₂ (λ s w. cond s 0 w) (satisfied_is a b h i l) (weight_is i l) ∙ cond-not (eqb (count b (entries_of f i)) 0) (weight_at t i)))
    where
      cond-not : (s : Bool) (w : ℕ) → cond (not s) 0 w ≡ cond s w 0
      cond-not true w = refl
      cond-not false w = refl

  pub cost_is : t.cost ≡ cost m
  cost_is = kept.sound.costs ∙ sym (cost_at_lem (assignment m) (value_at t) value_is)

  pub score_is : (x : ℕ) → x < f.variables → (row_at t x).score ≡ score m x
  score_is x l =
      kept.sound.scores x l
      ∙ sym (ap₂ (λ c d. pos c -ℤ pos d) (cost_at_lem (assignment m) (value_at t) value_is) (cost_at_lem (flip_at x (assignment m)) (flip_at x (value_at t)) (flip_agree f.variables x (assignment m) (value_at t) value_is)))

  pub total_is : t.total ≡ total m
  total_is =
      kept.sound.totals
      ∙ sym (sum_all m.weights ∙ (ap (λ n. sum_to n (λ k. get_or m.weights k 0)) weights_length ∙ sum_to_same (clause_count f) _ _ weight_is))

  pub near_is : (x y : ℕ) → neighbours m x y ≡ near_in (rules_of f t) x y
  near_is x y =
      ap (λ b. not (eqb x y) && b)
      (together_any cs x y
      ∙ (ap (λ n. any_to n (λ i. names (get_or cs i []) x && names (get_or cs i []) y)) (sym clauses_length)
      ∙ any_to_same (clause_count f) _ _ (λ i l. ap₂ ◌&&◌ (names_is i l x) (names_is i l y))))

  pub changed_is : (x : ℕ) → x < f.variables → (row_at t x).changed ≡ changed m x
  changed_is x l =
      kept.sound.marks x l
      ∙ sym (ap₂ ◌||◌ (ap (λ s. eqb s 0) (stamp_is x l))
      (any_to_same f.variables _ _ (λ y k. ap₂ ◌&&◌ (near_is x y) (ap₂ ltb (stamp_is x l) (stamp_is y k)))))

  -- a clause is unsatisfied where its true count is 0
  pub unsatisfied_is : unsatisfied m ≡ passing (λ k. eqb (count_at t k) 0) (clause_count f)
  unsatisfied_is =
      ap (unsatisfied_from (assignment m) 0) (sym (take_all (length cs) cs (omega arith)))
      ∙ (unsat_upto (assignment m) cs (length cs) (omega arith)
      ∙ (ap (passing (λ k. not (satisfied (assignment m) (get_or cs k [])))) (sym clauses_length)
      ∙ passing_same _ _ (clause_count f) (λ k l.
      ap not (satisfied_is (assignment m) (value_at t) value_is k l)
      ∙ (not-not (eqb (count (value_at t) (entries_of f k)) 0)
      ∙ ap (λ n. eqb n 0) (sym (kept.sound.counts k l))))))
    where
      not-not : (b : Bool) → not (not b) ≡ b
      not-not true = refl
      not-not false = refl

  pub variables_are : (i : ℕ) → i < (clause_count f) → variables_in m i ≡ map (λ (e : Entry). e.variable) (entries_of f i)
  variables_are i l = sym (clause_same i l).variables ∙ ap (map (λ (e : Entry). e.variable)) (entries_are i l)
