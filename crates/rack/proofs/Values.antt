-- The bytes of an engine's values, read one after another.
use Rattle.std.proofs.Common.{◌≡◌, ℕ, ◌+◌, ◌-◌, ◌<◌, ◌≤◌, false, List, [], ◌∷◌, ◌++◌, length, get_or, take, set, Some, Ok, Option, sym, ap, ◌∙◌, subst, arith}
use mir.Val.{bool_byte}
use Rattle.std.proofs.lemmas.List.{length-map, get_or-map, take_more, take_more_set, take_all}
use Rattle.std.proofs.lemmas.Bool.{cond-true, le-leb, and_from}
use Rattle.std.specs.Result.{result_unwrap_or}
use Rattle.cnf.specs.Scans.{and_then}
use Rattle.state.specs.Model.{Model, assignment}
use Rattle.engine.specs.Calls.{of_variable}
use Rattle.rack.specs.Answers.{bytes_of}
use Rattle.rack.specs.Parts.{Holds, bytes_in}

answered : (m : Model) (x : ℕ) → x < m.variables → of_variable assignment (x + 1) (Some m) ≡ Ok (get_or m.values x false)
answered m x h =
    ap (λ r. and_then r (λ _. Ok (assignment m (x + 1 - 1)))) (cond-true _ _ _ (and_from _ _ (le-leb 1 (x + 1) (omega arith)) (le-leb (x + 1) m.variables (omega arith))))
    ∙ ap (λ k. Ok (get_or m.values k false)) (omega arith)

byte_of : (m : Model) (x : ℕ) → x < m.variables → x < length m.values → bool_byte (result_unwrap_or (of_variable assignment (x + 1) (Some m)) false) ≡ get_or (bytes_of m) x 0
byte_of m x h l = ap (λ r. bool_byte (result_unwrap_or r false)) (answered m x h) ∙ sym (get_or-map bool_byte m.values x false 0 l)

pub byte_at : (o : Option Model) (n x : ℕ) → Holds o n → x < n → bool_byte (result_unwrap_or (of_variable assignment (x + 1) o) false) ≡ get_or (bytes_in o) x 0
byte_at o n x h l =
    subst (λ k. bool_byte (result_unwrap_or (of_variable assignment (x + 1) k) false) ≡ get_or (bytes_in k) x 0) (sym h.is) (byte_of h.model x (omega (arith, h.variables)) (omega (arith, h.values)))

pub bytes_long : (o : Option Model) (n : ℕ) → Holds o n → length (bytes_in o) ≡ n
bytes_long o n h = subst (λ k. length (bytes_in k) ≡ n) (sym h.is) (length-map h.model.values bool_byte ∙ h.values)

-- one byte more
pub read_more : (xs ys : List ℕ) (i y : ℕ) → i < length xs → length ys ≡ length xs → take i xs ≡ take i ys → y ≡ get_or ys i 0 → take (i + 1) (set xs i y) ≡ take (i + 1) ys
read_more xs ys i y h e t d =
    take_more_set xs i y h
    ∙ ap (λ k. k ++ (y ∷ [])) t
    ∙ ap (λ k. take i ys ++ (k ∷ [])) d
    ∙ sym (take_more ys i 0 (omega arith))

pub read_all : (xs ys : List ℕ) (i : ℕ) → length xs ≤ i → length ys ≡ length xs → take i xs ≡ take i ys → xs ≡ ys
read_all xs ys i h e t = sym (take_all i xs h) ∙ t ∙ take_all i ys (omega arith)
