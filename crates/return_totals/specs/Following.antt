-- A return as the code keeps it while the parts of a file, or of another return, are added. These need not be believed: they are between the crates'
-- own functions.
use Rattle.std.specs.Prelude.{ℕ, suc, ◌+◌, ◌≤◌, ◌<◌, ◌≡◌, Bool, true, false, cond, ◌||◌, List, [], ◌∷◌, map, length, get_or, set, leb, eqb}
use Rattle.return_totals.specs.Returns.{Scale, Return, with_units, any_over, totals_in, limit_refusal, limited, scales_in, return_of, KeepsRest}
use Rattle.return_totals.specs.Joining.{added_each, with_scales}
use Rattle.return_totals.specs.declared.FilmReturn.{FilmReturn}
use Rattle.return_totals.specs.declared.Counts.{Counts}
use Rattle.return_totals.specs.declared.Filed.{Filed}

-- the index of the first of some numbers that is k; how many they are where none is
abbrev pub place_of : ℕ → List ℕ → ℕ
place_of k [] = 0
place_of k (x ∷ xs) = cond (eqb x k) 0 (suc (place_of k xs))

-- the scales that were met, and their totals
abbrev pub met_in : List Scale → List ℕ
met_in l = map (λ x. x.scale) l

abbrev pub units_in : List Scale → List ℕ
units_in l = map (λ x. x.total) l

-- a sum that is kept in 64 bits, and whether it would reach 2 ^ 64; where it would, the first number stays
pub record Sums (a b : ℕ) (r : ℕ × Bool) : Type 0 where
  pub over : r.1 ≡ leb 18446744073709551616 (a + b)
  pub sum : r.1 ≡ false → r.0 ≡ a + b
  pub same : r.1 ≡ true → r.0 ≡ a

-- the state t goes on from the state r
pub record Keeps (r t : FilmReturn) : Type 0 where
  pub rest : KeepsRest r t
  pub grows : length (scales_in r) ≤ length (scales_in t)

-- f is r with units more for a scale, as far as the limits allow; all else is as in r
pub record AddsUnits (r : FilmReturn) (k u : ℕ) (f : Filed) : Type 0 where
  pub accepted : f.totals.accepted ≡ r.accepted
  pub refused : f.totals.refused ≡ r.refused
  pub tracks : f.totals.tracks ≡ r.tracks
  pub samples : f.totals.samples ≡ r.samples
  pub bytes : f.totals.bytes ≡ r.bytes
  pub full : f.refusal ≡ 20 → 32 < length (with_units k u (scales_in r))
  pub over : f.refusal ≡ 21 → any_over (units_in (with_units k u (scales_in r))) ≡ true
  pub met : (f.refusal ≡ 20 → ⊥) → met_in (scales_in f.totals) ≡ met_in (with_units k u (scales_in r))
  pub kept : (f.refusal ≡ 20 → ⊥) → (f.refusal ≡ 21 → ⊥) → (f.refusal ≡ 0) × (scales_in f.totals ≡ with_units k u (scales_in r))
  pub keeps : Keeps r f.totals

-- f, which goes on from the state r, is the return s as far as the limits allow: with 20 nothing is kept of it, and with 21 the scales alone
pub record Follows (r : FilmReturn) (s : Return) (f : Filed) : Type 0 where
  pub full : f.refusal ≡ 20 → 32 < length s.scales
  pub over : f.refusal ≡ 21 → any_over (totals_in s) ≡ true
  pub met : (f.refusal ≡ 20 → ⊥) → met_in (scales_in f.totals) ≡ met_in s.scales
  pub kept : (f.refusal ≡ 20 → ⊥) → (f.refusal ≡ 21 → ⊥) → (f.refusal ≡ 0) × (return_of f.totals ≡ s)
  pub keeps : Keeps r f.totals

-- whatever return f is, g is that return with more in it
abbrev pub Adds : (Return → Return) → Filed → Filed → Type 0
Adds more f g = (r : FilmReturn) (s : Return) → Follows r s f → Follows r (more s) g

-- the refusal after some more: 20 stays, and a total that would reach 2^64 makes 21
abbrev pub later_refusal : ℕ → Bool → ℕ
later_refusal q over = cond (eqb q 20) 20 (cond (eqb q 21 || over) 21 0)

-- a state before anything is added to it
abbrev pub unchanged : FilmReturn → Filed
unchanged r = record { refusal = 0; totals = r }

-- ---- what is added

-- scales with their totals
unfoldable pub with_met : List Scale → Return → Return
with_met l r =
    record {
      accepted = r.accepted;
      refused = r.refused;
      tracks = r.tracks;
      samples = r.samples;
      bytes = r.bytes;
      scales = with_scales l r.scales;
    }

unfoldable pub with_counts : Counts → Return → Return
with_counts c r =
    record {
      accepted = r.accepted + c.accepted;
      refused = r.refused;
      tracks = r.tracks + c.tracks;
      samples = r.samples + c.samples;
      bytes = r.bytes + c.bytes;
      scales = r.scales;
    }

-- the same with other numbers of refused files
unfoldable pub with_slots : List ℕ → Return → Return
with_slots l r =
    record {
      accepted = r.accepted;
      refused = l;
      tracks = r.tracks;
      samples = r.samples;
      bytes = r.bytes;
      scales = r.scales;
    }

abbrev pub more_at : List ℕ → ℕ → ℕ → List ℕ
more_at l i n = set l i (get_or l i 0 + n)

abbrev pub with_more_at : ℕ → ℕ → Return → Return
with_more_at i n r = with_slots (more_at r.refused i n) r

abbrev pub with_each : List ℕ → Return → Return
with_each ns r = with_slots (added_each r.refused ns) r

-- r, to which a file was added that makes it s: the answer f is s, or the refusal, which leaves r as it is
pub record Settles (r : FilmReturn) (s : Return) (f : Filed) : Type 0 where
  pub refusal : f.refusal ≡ limit_refusal s
  pub totals : return_of f.totals ≡ limited (return_of r) s
  pub rest : KeepsRest r f.totals
  pub left : (f.refusal ≡ 0 → ⊥) → f.totals ≡ r

abbrev pub SettlesAll : FilmReturn → Filed → Filed → Type 0
SettlesAll r f g = (s : Return) → Follows r s f → Settles r s g
