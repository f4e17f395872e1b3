-- A clause as entries: one for each different variable, with the signs in which the clause names it.
use Rattle.std.specs.Prelude.{◌≡◌, ℕ, zero, suc, ◌+◌, ◌<◌, Bool, true, false, cond, not, ◌&&◌, ◌||◌, List, [], ◌∷◌, ◌++◌, ℤ, pos, negsuc, ◌==◌}
use Rattle.cnf.specs.Tables.{Assignment}
use Rattle.formula.specs.declared.entry.Entry.{Entry}

abbrev pub bit : Bool → ℕ
bit true = 1
bit false = 0

-- how many of the entry's literals are true where its variable has the value v
abbrev pub trues : Bool → Entry → ℕ
trues v e = bit (e.plain && v) + bit (e.negated && not v)

-- the true count: how many different literals are true
abbrev pub count : Assignment → List Entry → ℕ
count a [] = 0
count a (e ∷ es) = trues (a e.variable) e + count a es

-- some entry is of the variable x
abbrev pub named_in : List Entry → ℕ → Bool
named_in [] x = false
named_in (e ∷ es) x = e.variable == x || named_in es x

-- no variable has two entries
abbrev pub Distinct : List Entry → Type 0
Distinct [] = Unit {0}
Distinct (e ∷ es) = (named_in es e.variable ≡ false) × Distinct es

-- every entry is of one of the first v variables, and has a sign
abbrev pub Signed : ℕ → List Entry → Type 0
Signed v [] = Unit {0}
Signed v (e ∷ es) = ((e.variable < v) × ((e.plain || e.negated) ≡ true)) × Signed v es

abbrev pub entry0 : Entry
entry0 = record { variable = 0; plain = false; negated = false }

abbrev pub sign_onto : Bool → ℤ → List ℤ → List ℤ
sign_onto true w ws = w ∷ ws
sign_onto false w ws = ws

-- the literals that the entries stand for
abbrev pub literals : List Entry → List ℤ
literals [] = []
literals (e ∷ es) = sign_onto e.plain (pos (suc e.variable)) (sign_onto e.negated (negsuc e.variable) (literals es))

abbrev pub is_plain : ℕ → ℤ → Bool
is_plain x (pos n) = n == suc x
is_plain x (negsuc n) = false

abbrev pub is_negated : ℕ → ℤ → Bool
is_negated x (pos n) = false
is_negated x (negsuc n) = n == x

abbrev pub any_of : (ℤ → Bool) → List ℤ → Bool
any_of p [] = false
any_of p (w ∷ ws) = p w || any_of p ws

-- in which signs the clause names the variable x
abbrev pub entry_of : List ℤ → ℕ → Entry
entry_of c x = record { variable = x; plain = any_of (is_plain x) c; negated = any_of (is_negated x) c }

abbrev pub kept : Entry → List Entry
kept e = cond (e.plain || e.negated) (e ∷ []) []

-- the entries of a clause, by rising variable, of those below n
abbrev pub entries_to : List ℤ → ℕ → List Entry
entries_to c zero = []
entries_to c (suc x) = entries_to c x ++ kept (entry_of c x)
