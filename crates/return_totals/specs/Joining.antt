-- Two film returns joined: "the return of both, r's scales first, then those of s that r has not, in their order; 20 where that makes a thirty-third
-- scale, then 21 where a total would reach 2^64; either leaves r as it was."
use Rattle.std.specs.Prelude.{ℕ, ◌+◌, ◌≡◌, List, [], ◌∷◌}
use Rattle.return_totals.specs.Returns.{Scale, Return, with_units, limit_refusal, limited, return_of, KeepsRest}
use Rattle.return_totals.specs.declared.FilmReturn.{FilmReturn}
use Rattle.return_totals.specs.declared.Filed.{Filed}

-- numbers added, each to the one at its place
abbrev pub added_each : List ℕ → List ℕ → List ℕ
added_each [] ns = []
added_each (x ∷ xs) [] = x ∷ xs
added_each (x ∷ xs) (n ∷ ns) = (x + n) ∷ added_each xs ns

-- the scales of another return, one after the other: the total of one that is there is added to it, and one that is not goes last
abbrev pub with_scales : List Scale → List Scale → List Scale
with_scales [] l = l
with_scales (x ∷ xs) l = with_scales xs (with_units x.scale x.total l)

-- "the return of both", without a limit: all of s added to r
unfoldable pub with_return : Return → Return → Return
with_return s r =
    record {
      accepted = r.accepted + s.accepted;
      refused = added_each r.refused s.refused;
      tracks = r.tracks + s.tracks;
      samples = r.samples + s.samples;
      bytes = r.bytes + s.bytes;
      scales = with_scales s.scales r.scales;
    }

-- "20 where that makes a thirty-third scale, then 21 where a total would reach 2^64"; 0 where neither is
unfoldable pub joined_refusal : Return → Return → ℕ
joined_refusal r s = limit_refusal (with_return s r)

-- "either leaves r as it was"
unfoldable pub joined_return : Return → Return → Return
joined_return r s = limited r (with_return s r)

-- the promise of `join_returns`, of any two states
pub record Joins (r s : FilmReturn) (f : Filed) : Type 0 where
  pub refusal : f.refusal ≡ joined_refusal (return_of r) (return_of s)
  pub totals : return_of f.totals ≡ joined_return (return_of r) (return_of s)
  pub rest : KeepsRest r f.totals
  pub left : (f.refusal ≡ 0 → ⊥) → f.totals ≡ r
