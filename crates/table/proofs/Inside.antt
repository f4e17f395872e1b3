-- The loop over a clause's entries.
use Rattle.std.specs.Option.{option_eq}
use Rattle.std.proofs.Common.{◌≡◌, ℕ, Option, Some, None, unwrap_or, ◌+◌, ◌<◌, ◌≤◌, Bool, true, false, cond, not, ◌&&◌, ◌||◌, eqb, List, length, get_or, take, ℤ, pos, ◌+ℤ◌, sym, refl, ap, ◌∙◌, ap₂, arith}
use Rattle.std.proofs.lemmas.Int.{ints}
use Rattle.std.proofs.lemmas.Bool.{eq-eqb, ne_eqb, eqb-true, false≢true, and_left, not_from_true, cond-true, cond-false}
use Rattle.std.proofs.lemmas.List.{take_all, get_or-set_same, get_or-set_other}
use Rattle.std.proofs.lemmas.Bool.Decides.{nat_tests}
use Rattle.formula.specs.declared.entry.Entry.{Entry}
use Rattle.formula.specs.Clauses.{flip_at}
use Rattle.formula.specs.Entries.{trues, count, named_in, Distinct, entry0}
use Rattle.formula.proofs.Sums.{at_all}
use Rattle.formula.proofs.Counts.{flipped_other, trues_le_count, fresh, named_more}
use Rattle.table.specs.declared.table.Row.{Row}
use Rattle.table.specs.declared.table.ClauseRow.{ClauseRow}
use Rattle.table.specs.declared.table.Table.{Table}
use Rattle.table.specs.Rows.{shift_z, turn, row0, row_at, value_at, score_at, stamp_at, changed_at, Bumped}
use Rattle.table.specs.Sound.{Turned}
use Rattle.table.proofs.Shares.{turn_absent, shift_at}

-- the rows of the variables in `done` are new
pub record Partly (mark : Bool) (done : ℕ → Bool) (new : ℕ → ℤ) (t u : Table) : Type 0 where
  pub same_clauses : u.clauses ≡ t.clauses
  pub same_cost : u.cost ≡ t.cost
  pub same_total : u.total ≡ t.total
  pub same_tick : u.tick ≡ t.tick
  pub values : (y : ℕ) → value_at u y ≡ value_at t y
  pub stamps : (y : ℕ) → stamp_at u y ≡ stamp_at t y
  pub scores : (y : ℕ) → score_at u y ≡ cond (done y) (new y) (score_at t y)
  pub marks : (y : ℕ) → changed_at u y ≡ (changed_at t y || (done y && mark))
  pub kept : (y : ℕ) → done y ≡ false → row_at u y ≡ row_at t y

abbrev pub done : List Entry → ℕ → ℕ → ℕ → Bool
done es x j y = not (eqb y x) && named_in (take j es) y

pub partly_start : (m : Bool) (p : ℕ → Bool) (new : ℕ → ℤ) (t : Table) → ((y : ℕ) → p y ≡ false) → Partly m p new t t
partly_start m p new t h =
    record {
      same_clauses = refl;
      same_cost = refl;
      same_total = refl;
      same_tick = refl;
      values = λ y. refl;
      stamps = λ y. refl;
      scores = λ y. sym (cond-false (p y) (new y) (score_at t y) (h y));
      marks = λ y. let k = h y in grind (arith, nat_tests);
      kept = λ y _. refl;
    }

-- another name for what is done
pub partly_as : (m : Bool) (p q : ℕ → Bool) (new : ℕ → ℤ) (t u : Table) → ((y : ℕ) → q y ≡ p y) → Partly m p new t u → Partly m q new t u
partly_as m p q new t u e h =
    record {
      same_clauses = h.same_clauses;
      same_cost = h.same_cost;
      same_total = h.same_total;
      same_tick = h.same_tick;
      values = h.values;
      stamps = h.stamps;
      scores = λ y. h.scores y ∙ ap (λ b. cond b (new y) (score_at t y)) (sym (e y));
      marks = λ y. h.marks y ∙ ap (λ b. changed_at t y || (b && m)) (sym (e y));
      kept = λ y k. h.kept y (sym (e y) ∙ k);
    }

or_false : (a m : Bool) → ((a || false) || m) ≡ (a || m)
or_false true m = refl
or_false false m = refl

-- one row more
pub partly_row : (m : Bool) (p q : ℕ → Bool) (new : ℕ → ℤ) (t u w : Table) (v : ℕ) (d : ℤ) → v < 256 → p v ≡ false → q v ≡ true → ((y : ℕ) → (y ≡ v → ⊥) → q y ≡ p y) → new v ≡ score_at t v +ℤ d → Partly m p new t u → Bumped v d m u w → Partly m q new t w
partly_row m p q new t u w v d l before after others is h b =
    let r : Row = record { value = (row_at u v).value; score = (row_at u v).score +ℤ d; stamp = (row_at u v).stamp; changed = (row_at u v).changed || m } in
    let n : v < length u.rows = omega (arith, u.size) in
    let same : row_at w v ≡ r = ap (λ rs. get_or rs v row0) b.rows ∙ get_or-set_same u.rows v r row0 n in
    let other : (y : ℕ) → (y ≡ v → ⊥) → row_at w y ≡ row_at u y = λ y ne. ap (λ rs. get_or rs y row0) b.rows ∙ get_or-set_other u.rows v y r row0 ne in
    let old : score_at u v ≡ score_at t v = h.scores v ∙ cond-false _ _ _ before in
    record {
      same_clauses = b.clauses ∙ h.same_clauses;
      same_cost = b.cost ∙ h.same_cost;
      same_total = b.total ∙ h.same_total;
      same_tick = b.tick ∙ h.same_tick;
      values = at_all (λ y. value_at w y ≡ value_at t y) v (ap (λ (z : Row). z.value) same ∙ h.values v) (λ y ne. ap (λ (z : Row). z.value) (other y ne) ∙ h.values y);
      stamps = at_all (λ y. stamp_at w y ≡ stamp_at t y) v (ap (λ (z : Row). z.stamp) same ∙ h.stamps v) (λ y ne. ap (λ (z : Row). z.stamp) (other y ne) ∙ h.stamps y);
      scores =
          at_all (λ y. score_at w y ≡ cond (q y) (new y) (score_at t y)) v
          (ap (λ (z : Row). z.score) same ∙ (ap (λ z. z +ℤ d) old ∙ (sym is ∙ sym (cond-true _ _ _ after))))
          (λ y ne. ap (λ (z : Row). z.score) (other y ne) ∙ (h.scores y ∙ ap (λ b. cond b (new y) (score_at t y)) (sym (others y ne))));
      marks =
          at_all (λ y. changed_at w y ≡ (changed_at t y || (q y && m))) v
          (ap (λ (z : Row). z.changed) same ∙ (ap (λ b. b || m) (h.marks v ∙ ap (λ b. changed_at t v || (b && m)) before) ∙ (or_false (changed_at t v) m ∙ ap (λ b. changed_at t v || (b && m)) (sym after))))
          (λ y ne. ap (λ (z : Row). z.changed) (other y ne) ∙ (h.marks y ∙ ap (λ b. changed_at t y || (b && m)) (sym (others y ne))));
      kept =
          at_all (λ y. q y ≡ false → row_at w y ≡ row_at t y) v
          (λ k. absurd (false≢true (sym k ∙ after)))
          (λ y ne k. other y ne ∙ h.kept y (sym (others y ne) ∙ k));
    }

-- the entry at j is of x: nothing more is done
pub done_skip : (es : List Entry) (x j : ℕ) → j < length es → (get_or es j entry0).variable ≡ x → (y : ℕ) → done es x (j + 1) y ≡ done es x j y
done_skip es x j l e y = let m = named_more es j y l in grind (arith, nat_tests)

pub done_before : (es : List Entry) (x j : ℕ) → j < length es → Distinct es → done es x j (get_or es j entry0).variable ≡ false
done_before es x j l d = let f = fresh es j l d in grind (arith, nat_tests)

pub done_after : (es : List Entry) (x j : ℕ) → j < length es → ((get_or es j entry0).variable ≡ x → ⊥) → done es x (j + 1) (get_or es j entry0).variable ≡ true
done_after es x j l ne = let m = named_more es j (get_or es j entry0).variable l in grind (arith, nat_tests)

pub done_other : (es : List Entry) (x j : ℕ) → j < length es → (y : ℕ) → (y ≡ (get_or es j entry0).variable → ⊥) → done es x (j + 1) y ≡ done es x j y
done_other es x j l y ne = let m = named_more es j y l in grind (arith, nat_tests)

-- all entries are gone through
pub turned : (es : List Entry) (w v x : ℕ) (mark : Bool) (t u : Table) → Partly mark (done es x (length es)) (λ y. score_at t y +ℤ turn w v (value_at t) (flip_at x (value_at t)) es y) t u → Turned es w v x mark t u
turned es w v x mark t u h =
    let all : take (length es) es ≡ es = take_all (length es) es (omega arith) in
    let own : done es x (length es) x ≡ false = and_left _ _ (not_from_true _ (eq-eqb x x refl)) in
    let rest : (y : ℕ) → (y ≡ x → ⊥) → done es x (length es) y ≡ named_in es y = λ y ne. let n = ne_eqb y x ne in ap (λ b. not b && named_in (take (length es) es) y) n ∙ ap (λ xs. named_in xs y) all in
    record {
      same_clauses = h.same_clauses;
      same_cost = h.same_cost;
      same_total = h.same_total;
      same_tick = h.same_tick;
      values = h.values;
      stamps = h.stamps;
      own = h.scores x ∙ cond-false _ _ _ own;
      scores = λ y ne. h.scores y ∙ (ap (λ b. cond b (score_at t y +ℤ turn w v (value_at t) (flip_at x (value_at t)) es y) (score_at t y)) (rest y ne) ∙ settle (named_in es y) (score_at t y) (turn w v (value_at t) (flip_at x (value_at t)) es y) (λ k. turn_absent w v (value_at t) (flip_at x (value_at t)) es y k));
      marks = λ y. h.marks y ∙ ap (λ xs. changed_at t y || ((not (eqb y x) && named_in xs y) && mark)) all;
      kept = λ y k. h.kept y (ap (λ xs. not (eqb y x) && named_in xs y) all ∙ k);
    }
  where
    settle : (b : Bool) (s d : ℤ) → (b ≡ false → d ≡ pos 0) → cond b (s +ℤ d) s ≡ s +ℤ d
    settle true s d k = refl
    settle false s d k = let e = k refl in omega (arith, ints)

-- the turn at the entry at j, which is not of x
module _ (es : List Entry) (c d : ClauseRow) (x : ℕ) (mark : Bool) (t u : Table) (j : ℕ) (l : j < length es) (dis : Distinct es) (ec : c.count ≡ count (value_at t) es) (ed : d.count ≡ count (flip_at x (value_at t)) es) (ne : (get_or es j entry0).variable ≡ x → ⊥) (h : Partly mark (done es x j) (λ y. score_at t y +ℤ turn c.weight d.weight (value_at t) (flip_at x (value_at t)) es y) t u) where
  abbrev e : Entry
  e = get_or es j entry0

  abbrev v : ℕ
  v = (get_or es j entry0).variable

  shift_is : shift_z c d (value_at u v) e ≡ turn c.weight d.weight (value_at t) (flip_at x (value_at t)) es v
  shift_is = ap (λ b. shift_z c d b e) (h.values v) ∙ shift_at c d (value_at t) x es j l dis e refl ne ec ed

  pub entry_score : score_at u v +ℤ shift_z c d (value_at u v) e ≡ score_at t v +ℤ turn c.weight d.weight (value_at t) (flip_at x (value_at t)) es v
  entry_score = ap₂ ◌+ℤ◌ (h.scores v ∙ cond-false _ _ _ (done_before es x j l dis)) shift_is

  pub entry_before : trues (value_at u v) e ≤ c.count
  entry_before =
      let k = trues_le_count (value_at t) es j l e refl in
      let s : trues (value_at u v) e ≡ trues (value_at t v) e = ap (λ b. trues b e) (h.values v) in
      omega arith

  pub entry_after : trues (value_at u v) e ≤ d.count
  entry_after =
      let k = trues_le_count (flip_at x (value_at t)) es j l e refl in
      let s : trues (value_at u v) e ≡ trues (flip_at x (value_at t) v) e = ap (λ b. trues b e) (h.values v ∙ sym (flipped_other x (value_at t) v ne)) in
      omega arith

  pub entry_done : (w : Table) → v < 256 → Bumped v (shift_z c d (value_at u v) e) mark u w → Partly mark (done es x (j + 1)) (λ y. score_at t y +ℤ turn c.weight d.weight (value_at t) (flip_at x (value_at t)) es y) t w
  entry_done w small b =
      partly_row mark (done es x j) (done es x (j + 1)) (λ y. score_at t y +ℤ turn c.weight d.weight (value_at t) (flip_at x (value_at t)) es y) t u w v (shift_z c d (value_at u v) e) small (done_before es x j l dis) (done_after es x j l ne) (done_other es x j l) (ap (λ z. score_at t v +ℤ z) (sym shift_is)) h b

-- the variable v, and the one that is flipped, if there is one
pub apart_if : (o : Option ℕ) (v : ℕ) → v < 256 → not (option_eq eqb o (Some v)) ≡ true → v ≡ unwrap_or o 256 → ⊥
apart_if None v l h e = omega arith
apart_if (Some x) v l h e = false≢true (sym (not_from_true (eqb x v) (eq-eqb x v (sym e))) ∙ h)

pub same_if : (o : Option ℕ) (v : ℕ) → not (option_eq eqb o (Some v)) ≡ false → v ≡ unwrap_or o 256
same_if None v h = absurd (false≢true (sym h))
same_if (Some x) v h = sym (eqb-true x v (turned_back (eqb x v) h))
  where
    turned_back : (b : Bool) → not b ≡ false → b ≡ true
    turned_back true h = refl
    turned_back false h = absurd (false≢true (sym h))
