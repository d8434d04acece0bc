-- A film return as numbers: 83 of them, in the order of its fields.
use Rattle.std.specs.Prelude.{ℕ, ◌%◌, ◌≡◌, List, ◌∷◌, ◌++◌, map, get_or, take, drop}
use Rattle.return_totals.specs.declared.FilmReturn.{FilmReturn}

-- accepted, 14 refused, tracks, samples, bytes, count, 32 scales, 32 units
unfoldable pub return_numbers : FilmReturn → List ℕ
return_numbers r = r.accepted ∷ (r.refused ++ (r.tracks ∷ r.samples ∷ r.bytes ∷ r.count ∷ (r.scales ++ r.units)))

-- a number cut to 32 bits
abbrev pub low : ℕ → ℕ
low n = n % 4294967296

-- the return that numbers are, whatever they are, where there are as many: a field of 32 bits takes the lowest 32
unfoldable pub return_in : List ℕ → FilmReturn
return_in ns =
    record {
      accepted = get_or ns 0 0;
      refused = take 14 (drop 1 ns);
      tracks = get_or ns 15 0;
      samples = get_or ns 16 0;
      bytes = get_or ns 17 0;
      count = get_or ns 18 0;
      scales = map low (take 32 (drop 19 ns));
      units = take 32 (drop 51 ns);
    }

-- the promise of `put_return`: the numbers of r in the first places, the rest as they were, and what is then in the places is r again
pub record PutsReturn (r : FilmReturn) (room after : List ℕ) : Type 0 where
  pub placed : after ≡ return_numbers r ++ drop 83 room
  pub rest : drop 83 after ≡ drop 83 room
  pub again : return_in after ≡ r
