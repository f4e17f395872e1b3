-- Every engine keeps what it should.
use Rattle.state.proofs.Exacts.{exact}
use Rattle.engine.specs.declared.engine.Engine.{Engine}
use Rattle.engine.specs.Engines.{KeepsExact}

pub keeps_exact : (e : Engine) → KeepsExact e
keeps_exact e s is = exact s
