-- The bytes of two numbers with a text before, between and after them.
use Rattle.std.specs.Prelude.{ℕ, List, ◌++◌, decimal}
use Rattle.lay.specs.declared.put.Line.{Line}

abbrev pub line_text : List ℕ → ℕ → List ℕ → ℕ → List ℕ → List ℕ
line_text a m b n c = a ++ (decimal m ++ (b ++ (decimal n ++ c)))

abbrev pub line_of : Line → List ℕ
line_of l = line_text l.before.now l.first l.between.now l.second l.after.now
