-- The library's version, as one number.
use Rattle.std.specs.Prelude.{ℕ, ◌+◌, ◌*◌}

-- major × 1,000,000 + minor × 1,000 + patch: 0.7.0
abbrev pub library_version : ℕ
library_version = 0 * 1000000 + 7 * 1000 + 0
