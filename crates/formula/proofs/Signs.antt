-- Whether a word is among those of a clause.
use Rattle.std.proofs.Common.{◌≡◌, ℕ, suc, Bool, ◌||◌, List, ℤ, pos, negsuc, sym, refl, ap, subst, int_eq, Decides}
use Rattle.std.specs.List.{list_any}
use Rattle.std.proofs.lemmas.Bool.{eq-eqb, eqb-true, false≢true}
use Rattle.std.proofs.lemmas.Bool.Decides.{Decides-int_eq, same_from_decides}
use Rattle.std.proofs.lemmas.List.Recursion.{same_from_clauses}
use Rattle.formula.specs.Entries.{any_of, is_plain, is_negated}

plain_decides : (x : ℕ) (w : ℤ) → Decides (is_plain x w) (w ≡ pos (suc x))
plain_decides x (pos n) = (λ e. ap pos (eqb-true n (suc x) e), λ q. eq-eqb n (suc x) (cc))
plain_decides x (negsuc n) = (λ e. absurd (false≢true e), λ q. cc)

negated_decides : (x : ℕ) (w : ℤ) → Decides (is_negated x w) (w ≡ negsuc x)
negated_decides x (pos n) = (λ e. absurd (false≢true e), λ q. cc)
negated_decides x (negsuc n) = (λ e. ap negsuc (eqb-true n x e), λ q. eq-eqb n x (cc))

any_as : (z : ℤ) (p : ℤ → Bool) → ((w : ℤ) → Decides (p w) (w ≡ z)) → (ws : List ℤ) → list_any (λ w. int_eq w z) ws ≡ any_of p ws
any_as z p d ws =
    same_from_clauses (list_any (λ w. int_eq w z)) (any_of p) (λ w b. int_eq w z || b) refl (λ _ _. refl) (λ w vs. ap (λ b. b || any_of p vs) (same_from_decides (p w) (int_eq w z) (d w) (Decides-int_eq w z))) ws

pub any_plain : (x : ℕ) (z : ℤ) (ws : List ℤ) → z ≡ pos (suc x) → list_any (λ w. int_eq w z) ws ≡ any_of (is_plain x) ws
any_plain x z ws e = any_as z (is_plain x) (λ w. subst (λ y. Decides (is_plain x w) (w ≡ y)) (sym e) (plain_decides x w)) ws

pub any_negated : (x : ℕ) (z : ℤ) (ws : List ℤ) → z ≡ negsuc x → list_any (λ w. int_eq w z) ws ≡ any_of (is_negated x) ws
any_negated x z ws e = any_as z (is_negated x) (λ w. subst (λ y. Decides (is_negated x w) (w ≡ y)) (sym e) (negated_decides x w)) ws
