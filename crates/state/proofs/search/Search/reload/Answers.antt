use Rattle.formula.proofs.Split.{legal_words}
use Rattle.state.proofs.Moves.{load_model, load_kept}
use Rattle.state.proofs.search.Search.reload.Goals as goal

pub copy-requires : goal.copy-requires
copy-requires c = legal_words c.args.variables c.args.words.now c.requires.table

pub invariant_of-self : goal.invariant_of-self
invariant_of-self c = record { kept = ∣ load_kept c.copy.new.self c.load.new.self c.fill.new.self c.restart.new.self c.args.variables c.args.words.now c.args.start.now c.requires.table c.requires.values c.copy.ensures c.load.ensures c.fill.ensures c.restart.ensures ∣₁ }

pub returns : goal.returns
returns c = load_model c.copy.new.self c.load.new.self c.fill.new.self c.restart.new.self c.args.variables c.args.words.now c.args.start.now c.requires.table c.requires.values c.copy.ensures c.load.ensures c.fill.ensures c.restart.ensures
