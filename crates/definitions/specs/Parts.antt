-- The cells that parts of a definition give. Assumes nothing.
use Rattle.std.specs.Prelude.{◌≡◌, ℕ}
use Rattle.std.proofs.Math.Option.{Option}
use Rattle.meaning.specs.Syntax.{Word, Span, span_or}
use Rattle.layout.specs.Kept.{default_code}

-- A span's place and length.
abbrev pub Spanned : Span → ℕ → ℕ → Type 0
Spanned x p n = (x.place ≡ p) × (x.length ≡ n)

-- A default's place, length and code.
abbrev pub Defaulted : Option Word → ℕ → ℕ → ℕ → Type 0
Defaulted d p n c = ((span_or d).place ≡ p) × ((span_or d).length ≡ n) × (default_code d ≡ c)
