-- The model of an engine, and what it keeps beside that.
use Rattle.std.specs.Prelude.{Option}
use Rattle.std.specs.Option.{ForSome, option_map}
use Rattle.state.specs.Model.{Model}
use Rattle.state.specs.Searches.{model, Exact}
use Rattle.engine.specs.declared.engine.Engine.{Engine}

-- the model of its search, and none before the first load
abbrev pub held : Engine → Option Model
held e = option_map model e.search

-- where there is a formula, every number that the engine keeps equals its definition over the model
abbrev pub KeepsExact : Engine → Type 0
KeepsExact e = ForSome e.search Exact
