-- A series that is on its way: what is left of it ends as the whole.
use Rattle.std.proofs.Common.{◌≡◌, ℕ, ◌+◌, ◌<◌, ◌≤◌, List, [], ◌∷◌, ◌++◌, length, get_or, take, drop, set, ℤ, Option, Result, sym, refl, ap, ◌∙◌, append_assoc, append-nil, arith}
use Rattle.std.proofs.lemmas.List.{at_drop_more, drop_all, take_more_set, drop-set-lt, drop-drop, take-append-drop}
use Rattle.cnf.specs.declared.refusal.Refusal.{Refusal}
use Rattle.policy.specs.Levels.{Levels}
use Rattle.policy.specs.Sources.{Meaning}
use Rattle.state.specs.Model.{Model}
use Rattle.engine.specs.declared.answers.Move.{Move}
use Rattle.series.specs.declared.call.Call.{Call}
use Rattle.series.specs.declared.call.Answer.{Answer}
use Rattle.series.specs.Series.{Performed, perform, Went, went, onto}
use Rattle.series.specs.Promises.{GivesWhatTheCallsGive}

-- i of the calls ks are made
pub record Rest {Π Σ : Type 0} (lv : Π → Levels) (u : Meaning Σ) (ws : List ℤ) (starts : List ℕ) (ps : List Π) (ks : List Call) (w : Went Σ) (old : List (Result Answer Refusal)) (i : ℕ) (o : Option Model) (ss : List Σ) (trail : List Move) (ys : List (Result Answer Refusal)) : Type 0 where
  pub model : (went lv u ws starts ps (drop i ks) o ss trail).model ≡ w.model
  pub sources : (went lv u ws starts ps (drop i ks) o ss trail).sources ≡ w.sources
  pub records : (went lv u ws starts ps (drop i ks) o ss trail).trail ≡ w.trail
  pub replies : take i ys ++ (went lv u ws starts ps (drop i ks) o ss trail).replies ≡ w.replies
  pub number : i + length (went lv u ws starts ps (drop i ks) o ss trail).replies ≡ length w.replies
  pub rest : drop i ys ≡ drop i old

module _ {Π Σ : Type 0} (lv : Π → Levels) (u : Meaning Σ) (ws : List ℤ) (starts : List ℕ) (ps : List Π) (ks : List Call) (old : List (Result Answer Refusal)) where
  pub rest_none : (o : Option Model) (ss : List Σ) (trail : List Move) → Rest lv u ws starts ps ks (went lv u ws starts ps ks o ss trail) old 0 o ss trail old
  rest_none o ss trail = record { model = refl; sources = refl; records = refl; replies = refl; number = omega arith; rest = refl }

  module _ (w : Went Σ) (i : ℕ) (o : Option Model) (ss : List Σ) (trail : List Move) (ys : List (Result Answer Refusal)) (z : Rest lv u ws starts ps ks w old i o ss trail ys) where
    pub rest_more : (k : Call) (r : Result Answer Refusal) (n : Option Model) (ts : List Σ) (more : List Move) → i < length ks → i < length ys → k ≡ get_or ks i k → r ≡ (perform lv u ws starts ps k o ss trail).reply → n ≡ (perform lv u ws starts ps k o ss trail).model → ts ≡ (perform lv u ws starts ps k o ss trail).sources → more ≡ (perform lv u ws starts ps k o ss trail).trail → Rest lv u ws starts ps ks w old (i + 1) n ts more (set ys i r)
    rest_more k r n ts more h l e er em es et =
        let next : Went Σ = went lv u ws starts ps (drop (i + 1) ks) n ts more in
        let p : Performed Σ = perform lv u ws starts ps k o ss trail in
        let at : went lv u ws starts ps (drop i ks) o ss trail ≡ onto p (went lv u ws starts ps (drop (i + 1) ks) p.model p.sources p.trail) =
        at_drop_more (λ q. went lv u ws starts ps q o ss trail) ks i k h ∙ ap (λ q. went lv u ws starts ps (q ∷ drop (i + 1) ks) o ss trail) (sym e) in
        let to : onto p (went lv u ws starts ps (drop (i + 1) ks) p.model p.sources p.trail) ≡ onto p next =
        ap (λ x. onto p (went lv u ws starts ps (drop (i + 1) ks) x p.sources p.trail)) (sym em)
        ∙ ap (λ x. onto p (went lv u ws starts ps (drop (i + 1) ks) n x p.trail)) (sym es)
        ∙ ap (λ x. onto p (went lv u ws starts ps (drop (i + 1) ks) n ts x)) (sym et) in
        let all = at ∙ to in
        let rs : (went lv u ws starts ps (drop i ks) o ss trail).replies ≡ r ∷ next.replies = ap (λ q. q.replies) all ∙ ap (λ x. x ∷ next.replies) (sym er) in
        record {
          model = sym (ap (λ q. q.model) all) ∙ z.model;
          sources = sym (ap (λ q. q.sources) all) ∙ z.sources;
          records = sym (ap (λ q. q.trail) all) ∙ z.records;
          replies = ap (λ q. q ++ next.replies) (take_more_set ys i r l) ∙ append_assoc (take i ys) (r ∷ []) next.replies ∙ sym (ap (λ q. take i ys ++ q) rs) ∙ z.replies;
          number = omega (arith, ap length rs, z.number);
          rest = drop-set-lt (i + 1) ys i r (omega arith) ∙ sym (drop-drop 1 i ys) ∙ ap (drop 1) z.rest ∙ drop-drop 1 i old;
        }

    pub rest_all : length ks ≤ i → GivesWhatTheCallsGive w o ss trail old ys
    rest_all h =
        let none : drop i ks ≡ [] = drop_all i ks h in
        let at : went lv u ws starts ps (drop i ks) o ss trail ≡ record { replies = []; model = o; sources = ss; trail = trail; history = [] } = ap (λ q. went lv u ws starts ps q o ss trail) none in
        let rs = ap (λ q. q.replies) at in
        let front : take i ys ≡ w.replies = sym (append-nil (take i ys)) ∙ sym (ap (λ q. take i ys ++ q) rs) ∙ z.replies in
        let n : i ≡ length w.replies = omega (arith, ap length rs, z.number) in
        record {
          model = sym (ap (λ q. q.model) at) ∙ z.model;
          sources = sym (ap (λ q. q.sources) at) ∙ z.sources;
          records = sym (ap (λ q. q.trail) at) ∙ z.records;
          replies = sym (take-append-drop i ys) ∙ ap (λ q. q ++ drop i ys) front ∙ ap (λ q. w.replies ++ q) (z.rest ∙ ap (λ k. drop k old) n);
        }
