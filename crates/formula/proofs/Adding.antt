-- One clause more.
use Rattle.std.proofs.Common.{◌≡◌, ℕ, suc, ◌+◌, ◌-◌, ◌<◌, ◌≤◌, true, cond, List, [], ◌∷◌, ◌++◌, length, take, drop, ℤ, sym, refl, ap, ◌∙◌, subst, arith}
use Rattle.std.proofs.lemmas.List.{take_all, drop_at, take-append-le, drop-append-le, length-append, length-drop, get_or_append_left, get_or_at}
use Rattle.formula.specs.declared.entry.Entry.{Entry}
use Rattle.formula.specs.declared.formula.Formula.{Formula}
use Rattle.formula.specs.declared.span.Span.{Span}
use Rattle.formula.specs.Clauses.{sum_to}
use Rattle.formula.specs.Entries.{entry_of, kept, entries_to, Distinct, Signed}
use Rattle.formula.specs.Spans.{part_of, span0, span_in}
use Rattle.formula.specs.Made.{Made, entries_in}
use Rattle.formula.specs.Formulas.{Added, clause_count, entry_count, entries_of}
use Rattle.formula.proofs.Sums.{at_all, sum_to_same}
use Rattle.formula.proofs.Normal.{hit, normal_short, normal_distinct, normal_signed}

-- a part of a list is one of the longer list too
pub part_front : {A : Type 0} (s : Span) (xs ys : List A) → s.start ≤ s.end → s.end ≤ length xs → part_of s (xs ++ ys) ≡ part_of s xs
part_front s xs ys p q =
    ap (take (s.end - s.start)) (drop-append-le s.start xs ys (omega arith))
    ∙ take-append-le (s.end - s.start) (drop s.start xs) ys (omega (arith, length-drop s.start xs))

-- what is put behind a list is a part of the longer one
pub part_back : {A : Type 0} (s : Span) (xs ys : List A) → s.start ≡ length xs → s.end ≡ length (xs ++ ys) → part_of s (xs ++ ys) ≡ ys
part_back s xs ys p q =
    ap (take (s.end - s.start)) (drop_at xs ys s.start (sym p))
    ∙ take_all (s.end - s.start) ys (omega (arith, length-append xs ys))

-- the spans ss are followed by one more
pub span_old : (ss : List Span) (s : Span) (i : ℕ) → i < length ss → span_in (ss ++ s ∷ []) i ≡ span_in ss i
span_old ss s i l = get_or_append_left ss (s ∷ []) span0 i l

pub span_new : (ss : List Span) (s : Span) → span_in (ss ++ s ∷ []) (length ss) ≡ s
span_new ss s = get_or_at ss s [] span0 (length ss) refl

-- entries behind the others, and no span more
module _ (v : ℕ) (ss : List Span) (es xs : List Entry) (made : Made v ss es) where
  entries_still : (i : ℕ) → i < length ss → entries_in ss (es ++ xs) i ≡ entries_in ss es i
  entries_still i l = part_front (span_in ss i) es xs (made.inside i l).0 (made.inside i l).1

  pub made_entries : length (es ++ xs) ≤ 4096 → Made v ss (es ++ xs)
  made_entries few =
      record {
        few_variables = made.few_variables;
        few_clauses = made.few_clauses;
        few_entries = few;
        all_entries = omega (arith, made.all_entries, length-append es xs, sum_to_same (length ss) (λ i. length (entries_in ss (es ++ xs) i)) (λ i. length (entries_in ss es i)) (λ i l. ap length (entries_still i l)));
        inside = λ i l. ((made.inside i l).0, omega (arith, (made.inside i l).1, length-append es xs));
        signed = λ i l. subst (Signed v) (sym (entries_still i l)) (made.signed i l);
        distinct = λ i l. subst Distinct (sym (entries_still i l)) (made.distinct i l);
      }

  -- a span more, which marks them
  module _ (s : Span) (from : s.start ≡ length es) (to : s.end ≡ length (es ++ xs)) where
    pub clause_old : (i : ℕ) → i < length ss → entries_in (ss ++ s ∷ []) (es ++ xs) i ≡ entries_in ss es i
    clause_old i l = ap (λ (t : Span). part_of t (es ++ xs)) (span_old ss s i l) ∙ entries_still i l

    pub clause_new : entries_in (ss ++ s ∷ []) (es ++ xs) (length ss) ≡ xs
    clause_new = ap (λ (t : Span). part_of t (es ++ xs)) (span_new ss s) ∙ part_back s es xs from to

    more : length (ss ++ s ∷ []) ≡ suc (length ss)
    more = length-append ss (s ∷ []) ∙ omega arith

    -- what holds of the clauses before and of the new one
    each : (P : ℕ → Type 0) → ((i : ℕ) → i < length ss → P i) → P (length ss) → (i : ℕ) → i < length (ss ++ s ∷ []) → P i
    each P old new = at_all (λ i. i < length (ss ++ s ∷ []) → P i) (length ss) (λ _. new) (λ i ne l. old i (omega (arith, more)))

    sums : sum_to (length (ss ++ s ∷ [])) (λ i. length (entries_in (ss ++ s ∷ []) (es ++ xs) i)) ≤ length (es ++ xs)
    sums =
        let same = sum_to_same (length ss) (λ i. length (entries_in (ss ++ s ∷ []) (es ++ xs) i)) (λ i. length (entries_in ss es i)) (λ i l. ap length (clause_old i l)) in
        let new = ap length clause_new in
        subst (λ n. sum_to n (λ i. length (entries_in (ss ++ s ∷ []) (es ++ xs) i)) ≤ length (es ++ xs)) (sym more) (omega (arith, made.all_entries, length-append es xs))

    pub made_clause : length ss < 1024 → length (es ++ xs) ≤ 4096 → Signed v xs → Distinct xs → Made v (ss ++ s ∷ []) (es ++ xs)
    made_clause free few signs apart =
        record {
          few_variables = made.few_variables;
          few_clauses = omega (arith, more);
          few_entries = few;
          all_entries = sums;
          inside = each (λ i. ((span_in (ss ++ s ∷ []) i).start ≤ (span_in (ss ++ s ∷ []) i).end) × ((span_in (ss ++ s ∷ []) i).end ≤ length (es ++ xs)))
              (λ i l. subst (λ (t : Span). (t.start ≤ t.end) × (t.end ≤ length (es ++ xs))) (sym (span_old ss s i l)) ((made.inside i l).0, omega (arith, (made.inside i l).1, length-append es xs)))
              (subst (λ (t : Span). (t.start ≤ t.end) × (t.end ≤ length (es ++ xs))) (sym (span_new ss s)) (omega (arith, length-append es xs), omega arith));
          signed = each (λ i. Signed v (entries_in (ss ++ s ∷ []) (es ++ xs) i)) (λ i l. subst (Signed v) (sym (clause_old i l)) (made.signed i l)) (subst (Signed v) (sym clause_new) signs);
          distinct = each (λ i. Distinct (entries_in (ss ++ s ∷ []) (es ++ xs) i)) (λ i l. subst Distinct (sym (clause_old i l)) (made.distinct i l)) (subst Distinct (sym clause_new) apart);
        }

-- the entries xs are put in
pub record Adding (xs : List Entry) (f g : Formula) : Type 0 where
  pub same_variables : g.variables ≡ f.variables
  pub same_spans : g.spans ≡ f.spans
  pub entries : g.entries.items ≡ f.entries.items ++ xs

module _ (c : List ℤ) (v : ℕ) (f : Formula) (l : entry_count f + length c ≤ 4096) where
  -- the next entry has room
  pub adding_room : (es : List Entry) → es ≡ f.entries.items ++ entries_to c v → hit v c ≡ true → length es < 4096
  adding_room es e q =
      let n = normal_short c (suc v) in
      let k : length (entries_to c (suc v)) ≡ length (entries_to c v) + 1 = length-append (entries_to c v) (kept (entry_of c v)) ∙ ap (λ b. length (entries_to c v) + length (cond b (entry_of c v ∷ []) [])) q in
      omega (arith, ap length e, length-append f.entries.items (entries_to c v))

module _ (c : List ℤ) (f : Formula) (free : clause_count f < 1024) (l : entry_count f + length c ≤ 4096) (ss : List Span) (es : List Entry) (s : Span) (e : es ≡ f.entries.items ++ entries_to c f.variables) (from : s.start ≡ entry_count f) (to : s.end ≡ length es) where
  short : length es ≤ entry_count f + length c
  short = omega (arith, ap length e, length-append f.entries.items (entries_to c f.variables), normal_short c f.variables)

  pub made_more : Made f.variables (f.spans.items ++ s ∷ []) es
  made_more =
      subst (Made f.variables (f.spans.items ++ s ∷ [])) (sym e)
      (made_clause f.variables f.spans.items f.entries.items (entries_to c f.variables) f.made s from (to ∙ ap length e) free (omega (arith, short, ap length e)) (normal_signed f.variables c f.variables (omega arith)) (normal_distinct c f.variables))

  pub added : (g : Formula) → g.variables ≡ f.variables → g.spans.items ≡ f.spans.items ++ s ∷ [] → g.entries.items ≡ es → Added c f g
  added g ev es' ee =
      let at : (i : ℕ) → entries_of g i ≡ entries_in (f.spans.items ++ s ∷ []) (f.entries.items ++ entries_to c f.variables) i = λ i. ap (λ ss. entries_in ss g.entries.items i) es' ∙ ap (λ xs. entries_in (f.spans.items ++ s ∷ []) xs i) (ee ∙ e) in
      record {
        same_variables = ev;
        one_more = ap length es' ∙ length-append f.spans.items (s ∷ []);
        same_entries = λ i m. at i ∙ clause_old f.variables f.spans.items f.entries.items (entries_to c f.variables) f.made s from (to ∙ ap length e) i m;
        new_entries = at (clause_count f) ∙ clause_new f.variables f.spans.items f.entries.items (entries_to c f.variables) f.made s from (to ∙ ap length e);
        room = omega (arith, short, ap length ee);
      }
