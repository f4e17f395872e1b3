-- The minimal standard generator.
use Rattle.std.specs.Prelude.{◌≡◌, ℕ, ◌*◌, ◌%◌, ◌^◌, ◌≤◌, true, cond, ◌&&◌, Ok, Err, Result, nat_le}
use Rattle.std.proofs.Common.{true≢false}
use Rattle.cnf.specs.declared.refusal.Check.TheVariants.{SeedRange}
use Rattle.cnf.specs.declared.refusal.Refusal.{Refusal}
use Rattle.cnf.specs.Refusals.{refused}
use Rattle.policy.specs.declared.generator.Generator.{Generator}
use Rattle.policy.specs.Sources.{Meaning, LawfulSource, after_draws}

-- The number after n.
abbrev pub next : ℕ → ℕ
next n = 16807 * n % 2147483647

-- The generator that holds n.
abbrev pub holding : ℕ → Generator
holding n = record { state = n }

-- It is always ready, gives the number after the one that it holds, and then holds that.
abbrev pub generator : Meaning Generator
generator = record { ready = λ g. true; number = λ g. next g.state; after = λ g. holding (next g.state) }

pub generator_lawful : LawfulSource generator
generator_lawful = record { number_dry = λ g e. absurd (true≢false e); after_dry = λ g e. absurd (true≢false e) }

-- The generator that starts at n, where n is 1 to 2,147,483,646, or the refusal.
abbrev pub seeded : ℕ → Result Generator Refusal
seeded n = cond (nat_le 1 n && nat_le n 2147483646) (Ok (holding n)) (Err (refused SeedRange 0))

-- What a generator that started at a seed holds after any number of draws.
pub record Run (seed : ℕ) (g : Generator) : Type 0 where
  -- a power of 16807 times the seed, by the modulus
  pub power : (n : ℕ) → (after_draws generator n g).state ≡ 16807 ^ n * seed % 2147483647
  -- 1 to 2,147,483,646, so it never sticks at 0
  pub low : (n : ℕ) → 1 ≤ (after_draws generator n g).state
  pub high : (n : ℕ) → (after_draws generator n g).state ≤ 2147483646
