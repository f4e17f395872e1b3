use Rattle.std.proofs.Common.{◌≡◌, cond, [], ◌∷◌, ◌++◌, set, sym, refl, ap, ◌∙◌, subst, append-nil, arith, lit<}
use Rattle.formula.specs.declared.occurrences.Occurrences.{Occurrences}
use Rattle.formula.specs.declared.span.Span.{Span}
use Rattle.formula.specs.Entries.{named_in}
use Rattle.formula.specs.Formulas.{clause_count}
use Rattle.formula.specs.Occurrences.{passing, names_at}
use Rattle.formula.proofs.Lists.{listing_room, listing_more, occurs_more}
use Rattle.formula.proofs.occurrences.Occurrences.add_variable.Goals as goal
use Rattle.formula.proofs.occurrences.Occurrences.add_variable.Goals.{then-names, else-names}

pub push-requires : goal.push-requires
push-requires c =
    let f = c.args.f.now in
    let named = ap (λ es. named_in es c.args.variable) (sym c.entries_of.ensures) ∙ (sym c.names.ensures ∙ c.if-names.true) in
    (lit< tt, listing_room (names_at f c.args.variable) c.loop-i.i (clause_count f) c.args.self.now (omega (arith, c.loop-i-test.true, c.clauses-i-end.ensures)) c.requires.clauses_bound c.loop-i.self.clauses.items c.loop-i.invariant.items named)

pub loop-i-preserved : goal.loop-i-preserved
loop-i-preserved c =
    let f = c.args.f.now in
    let p = names_at f c.args.variable in
    let i = c.loop-i.i in
    let cs = c.loop-i.self.clauses.items in
    let named : p i ≡ c.names.result = ap (λ es. named_in es c.args.variable) (sym c.entries_of.ensures) ∙ sym c.names.ensures in
    record {
      same_spans = elim c.if-names.branch [
        | then-names w ↦ ap (λ (o : Occurrences). o.spans) w.self-is ∙ c.loop-i.invariant.same_spans
        | else-names w ↦ ap (λ (o : Occurrences). o.spans) w.self-is ∙ c.loop-i.invariant.same_spans
      ];
      items = listing_more p i (clause_count f) c.args.self.now (omega (arith, c.loop-i-test.true, c.clauses-i-end.ensures)) c.requires.clauses_bound cs c.loop-i.invariant.items c.if-names.self.clauses.items
          (elim c.if-names.branch [
            | then-names w ↦ ap (λ (o : Occurrences). o.clauses.items) w.self-is ∙ (w.push.ensures.items ∙ ap (λ b. cs ++ cond b (i ∷ []) []) (sym (named ∙ w.if-names.true)))
            | else-names w ↦ ap (λ (o : Occurrences). o.clauses.items) w.self-is ∙ (sym (append-nil cs) ∙ ap (λ b. cs ++ cond b (i ∷ []) []) (sym (named ∙ w.if-names.false)))
          ]);
    }

pub returns-clause-occurs : goal.returns-clause-occurs
returns-clause-occurs c =
    let f = c.args.f.now in
    let o = c.args.self.now in
    let v = c.args.variable in
    let cs = c.loop-i.self.clauses.items in
    let s : Span = record { start = c.len-start.result; end = c.len-end.result } in
    let i : c.loop-i.i ≡ clause_count f = omega arith in
    let h = subst (λ n. cs ≡ o.clauses.items ++ passing (names_at f v) n) i c.loop-i.invariant.items in
    occurs_more f v o (omega (arith, f.made.few_variables, c.requires.next.0)) c.requires.next.1 cs s h c.len-start.ensures.value c.len-end.ensures.value _ (ap (λ ss. set ss v s) c.loop-i.invariant.same_spans) refl
