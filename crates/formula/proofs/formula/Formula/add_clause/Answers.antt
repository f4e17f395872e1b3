use Rattle.std.proofs.Common.{◌≡◌, ◌<◌, ◌||◌, [], ◌∷◌, ◌++◌, length, sym, refl, ap, ◌∙◌, subst, arith, lit<}
use Rattle.std.proofs.lemmas.List.{length-append}
use Rattle.formula.specs.declared.entry.Entry.{Entry}
use Rattle.formula.specs.declared.span.Span.{Span}
use Rattle.formula.specs.Entries.{entries_to}
use Rattle.formula.specs.Made.{Made}
use Rattle.formula.proofs.Adding.{adding_room, made_entries, made_more, added}
use Rattle.formula.proofs.formula.Formula.add_clause.Goals as goal

pub push-requires : goal.push-requires
push-requires c =
    let q = sym (ap (λ (e : Entry). e.plain || e.negated) c.entry_of-e.ensures) ∙ (sym c.is_named.ensures ∙ c.if-is_named.true) in
    (lit< tt, adding_room c.args.clause.now c.loop-v.v c.args.self.now c.requires.room c.loop-v.self.entries.items c.loop-v.invariant.entries q)

pub invariant_of-self : goal.invariant_of-self
invariant_of-self c =
    let g = c.loop-v.self in
    let q = sym (ap (λ (e : Entry). e.plain || e.negated) c.entry_of-e.ensures) ∙ (sym c.is_named.ensures ∙ c.if-is_named.true) in
    let room : length g.entries.items < 4096 = adding_room c.args.clause.now c.loop-v.v c.args.self.now c.requires.room g.entries.items c.loop-v.invariant.entries q in
    record { made = subst (Made g.variables g.spans.items) (sym c.push.ensures.items) (made_entries g.variables g.spans.items g.entries.items (c.entry_of-e.result ∷ []) g.made (omega (arith, length-append g.entries.items (c.entry_of-e.result ∷ [])))) }

pub invariant_of-self-2 : goal.invariant_of-self-2
invariant_of-self-2 c =
    let f = c.args.self.now in
    let g = c.loop-v.self in
    let s : Span = record { start = c.len-start.result; end = c.len-end.result } in
    let v : c.loop-v.v ≡ f.variables = omega arith in
    let e = subst (λ n. g.entries.items ≡ f.entries.items ++ entries_to c.args.clause.now n) v c.loop-v.invariant.entries in
    let spans : c.push-2.new.self.items ≡ f.spans.items ++ s ∷ [] = c.push-2.ensures.items ∙ ap (λ (ss : _). ss.items ++ s ∷ []) c.loop-v.invariant.same_spans in
    record {
      made = subst (λ ss. Made g.variables ss g.entries.items) (sym spans)
          (subst (λ n. Made n (f.spans.items ++ s ∷ []) g.entries.items) (sym c.loop-v.invariant.same_variables)
          (made_more c.args.clause.now f c.requires.few c.requires.room g.spans.items g.entries.items s e c.len-start.ensures.value c.len-end.ensures.value));
    }

pub returns : goal.returns
returns c =
    let f = c.args.self.now in
    let g = c.loop-v.self in
    let s : Span = record { start = c.len-start.result; end = c.len-end.result } in
    let v : c.loop-v.v ≡ f.variables = omega arith in
    let e = subst (λ n. g.entries.items ≡ f.entries.items ++ entries_to c.args.clause.now n) v c.loop-v.invariant.entries in
    let spans : c.push-2.new.self.items ≡ f.spans.items ++ s ∷ [] = c.push-2.ensures.items ∙ ap (λ (ss : _). ss.items ++ s ∷ []) c.loop-v.invariant.same_spans in
    added c.args.clause.now f c.requires.few c.requires.room g.spans.items g.entries.items s e c.len-start.ensures.value c.len-end.ensures.value _ c.loop-v.invariant.same_variables spans refl
