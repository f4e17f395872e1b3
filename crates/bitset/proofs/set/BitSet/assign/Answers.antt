use Rattle.std.proofs.Common.{◌≡◌, ◌/◌, not, sym, ap, ◌∙◌, arith, rules}
use Rattle.std.proofs.lemmas.List.{length-set}
use Rattle.formula.specs.Entries.{bit}
use Rattle.formula.proofs.Lists.{passing_room}
use Rattle.bitset.specs.Bits.{has}
use Rattle.formula.proofs.Passing.{passing_le}
use Rattle.bitset.proofs.Members.{differs, turned_members, turned_number}
use Rattle.bitset.proofs.set.BitSet.assign.Goals as goal

pub overflow_add-self : goal.overflow_add-self
overflow_add-self c = let l = passing_le (has c.args.self.now.words) 1024 in let n = c.args.self.now.counted in search rules

pub overflow_sub-self : goal.overflow_sub-self
overflow_sub-self c =
    let s = c.args.self.now in
    let e : has s.words c.args.k ≡ not c.args.present = sym c.contains.ensures ∙ differs _ _ c.if-contains-present.true in
    omega (arith, s.counted, passing_room (has s.words) c.args.k 1024 c.requires (e ∙ ap not c.if-present.false))

pub invariant_of-self : goal.invariant_of-self
invariant_of-self c =
    let s = c.args.self.now in
    let b = c.args.present in
    let p : bit b ≡ 1 = ap bit c.if-present.true in
    let q : bit (not b) ≡ 0 = ap (λ x. bit (not x)) c.if-present.true in
    record {
      size = length-set s.words (c.args.k / 64) _ ∙ s.size;
      counted = omega (arith, s.counted, turned_number s.words c.args.k c.requires s.size b (sym c.contains.ensures ∙ differs _ _ c.if-contains-present.true));
    }

pub invariant_of-self-else-present : goal.invariant_of-self-else-present
invariant_of-self-else-present c =
    let s = c.args.self.now in
    let b = c.args.present in
    let p : bit b ≡ 0 = ap bit c.if-present.false in
    let q : bit (not b) ≡ 1 = ap (λ x. bit (not x)) c.if-present.false in
    record {
      size = length-set s.words (c.args.k / 64) _ ∙ s.size;
      counted = omega (arith, s.counted, turned_number s.words c.args.k c.requires s.size b (sym c.contains.ensures ∙ differs _ _ c.if-contains-present.true));
    }

pub returns-then-present : goal.returns-then-present
returns-then-present c = turned_members c.args.self.now.words c.args.k c.requires c.args.self.now.size c.args.present (sym c.contains.ensures ∙ differs _ _ c.if-contains-present.true)

pub returns-else-present : goal.returns-else-present
returns-else-present c = turned_members c.args.self.now.words c.args.k c.requires c.args.self.now.size c.args.present (sym c.contains.ensures ∙ differs _ _ c.if-contains-present.true)
