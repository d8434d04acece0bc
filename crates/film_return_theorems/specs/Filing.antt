-- What holds of a return over many films. Document 02: "From an empty return, each total must equal the sum over the files not refused 20 or 21;
-- where none is, any order of filing gives the same totals but for the scales' order."
use Rattle.std.specs.Prelude.{ℕ, ◌≤◌, ◌≡◌, Bool, true, false, cond, ◌||◌, ◌&&◌, List, [], ◌∷◌, ◌++◌, map, length, get_or, replicate, ltb, eqb}
use Rattle.lists.specs.Lists.{sum}
use Rattle.structure.specs.declared.source.Source.{Source}
use Rattle.structure.specs.Movie.{moov_of, tracks_of}
use Rattle.movie.specs.Refusals.{film_refusal}
use Rattle.words.specs.Words.{listed}
use Rattle.return_totals.specs.Returns.{Scale, Return, empty_return, slot_of, any_over, totals_in, return_of}
use Rattle.return_totals.specs.Joining.{joined_refusal, joined_return, Joins}
use Rattle.return_totals.specs.declared.FilmReturn.{FilmReturn}
use Rattle.return_totals.specs.declared.Filed.{Filed}
use Rattle.return_totals.specs.declared.TrackTotals.{TrackTotals}
use Rattle.return_numbers.specs.Numbers.{return_in}
use Rattle.film_return.specs.Films.{totals_of, filed_refusal, filed_return, Files}

-- a film as it is filed: the bytes lent, and their source
pub record Film : Type 0 where
  pub bytes : List ℕ
  pub source : Source

-- ---- films filed one after the other

-- a film at its turn: its refusal, 20, 21 or 0, and the return after it
abbrev pub turn_refusal : Return → Film → ℕ
turn_refusal r f = filed_refusal r f.bytes f.source

abbrev pub turn_return : Return → Film → Return
turn_return r f = filed_return r f.bytes f.source

abbrev pub filed_all : Return → List Film → Return
filed_all r [] = r
filed_all r (f ∷ fs) = filed_all (turn_return r f) fs

-- those that are not refused 20 or 21 at their turn
abbrev pub kept_of : Return → List Film → List Film
kept_of r [] = []
kept_of r (f ∷ fs) = cond (eqb (turn_refusal r f) 0) (f ∷ kept_of (turn_return r f) fs) (kept_of (turn_return r f) fs)

-- none of them is refused 20 or 21
abbrev pub NoneRefused : Return → List Film → Type 0
NoneRefused r [] = Unit
NoneRefused r (f ∷ fs) = (turn_refusal r f ≡ 0) × NoneRefused (turn_return r f) fs

-- ---- what a film is counted with

abbrev pub refusal_of : Film → ℕ
refusal_of f = film_refusal f.bytes f.source

unfoldable pub accepted_in : Film → ℕ
accepted_in f = cond (eqb (refusal_of f) 0) 1 0

unfoldable pub refused_in : ℕ → Film → ℕ
refused_in n f = cond (eqb (refusal_of f) n) 1 0

-- of a refused film no track is counted
unfoldable pub tracks_in : Film → List TrackTotals
tracks_in f = cond (eqb (refusal_of f) 0) (map totals_of (tracks_of (moov_of f.bytes))) ([])

abbrev pub samples_in : Film → ℕ
samples_in f = sum (map (λ t. t.samples) (tracks_in f))

abbrev pub bytes_in : Film → ℕ
bytes_in f = sum (map (λ t. t.bytes) (tracks_in f))

-- the totals of its tracks of a scale
abbrev pub units_of : ℕ → Film → ℕ
units_of k f = sum (map (λ t. cond (eqb t.scale k) t.total 0) (tracks_in f))

-- ---- the scales of a return

-- all of the lists, one after the other
abbrev pub joined : {A B : Type 0} → (A → List B) → List A → List B
joined f [] = []
joined f (x ∷ xs) = f x ++ joined f xs

-- the numbers of a list that do not stand in `seen`, each once, where it first stands
abbrev pub met_after : List ℕ → List ℕ → List ℕ
met_after seen [] = []
met_after seen (k ∷ ks) = cond (listed k seen) (met_after seen ks) (k ∷ met_after (seen ++ (k ∷ [])) ks)

-- "in order of first meeting": the scales of the tracks of the films, each once
abbrev pub scales_met : List Film → List ℕ
scales_met fs = met_after ([]) (map (λ t. t.scale) (joined tracks_in fs))

-- "for each media time scale met, its tracks' totals added"
abbrev pub scale_totals : List Film → List Scale
scale_totals fs = map (λ k. record { scale = k; total = sum (map (units_of k) fs) }) (scales_met fs)

-- ---- the claims

-- one of the numbers of a refusal, 1 to 13 and 19
abbrev pub is_number : ℕ → Bool
is_number n = eqb n 19 || (ltb 0 n && ltb n 14)

-- each total of the return r is the sum over the films fs
pub record EachTotal (r : Return) (fs : List Film) : Type 0 where
  pub accepted : r.accepted ≡ sum (map accepted_in fs)
  pub slots : length r.refused ≡ 14
  pub refused : (n : ℕ) → is_number n ≡ true → get_or r.refused (slot_of n) 0 ≡ sum (map (refused_in n) fs)
  pub tracks : r.tracks ≡ sum (map (λ f. length (tracks_in f)) fs)
  pub samples : r.samples ≡ sum (map samples_in fs)
  pub bytes : r.bytes ≡ sum (map bytes_in fs)
  pub scales : r.scales ≡ scale_totals fs

-- the same in another order
pub data Reordered {A : Type 0} : List A → List A → Type 0 where
  none : {l : List A} → Reordered l l
  keep : {x : A} {l m : List A} → Reordered l m → Reordered (x ∷ l) (x ∷ m)
  swap : {x y : A} {l : List A} → Reordered (x ∷ (y ∷ l)) (y ∷ (x ∷ l))
  then : {l m n : List A} → Reordered l m → Reordered m n → Reordered l n

-- "the same totals but for the scales' order"
pub record SameTotals (r s : Return) : Type 0 where
  pub accepted : r.accepted ≡ s.accepted
  pub refused : r.refused ≡ s.refused
  pub tracks : r.tracks ≡ s.tracks
  pub samples : r.samples ≡ s.samples
  pub bytes : r.bytes ≡ s.bytes
  pub scales : Reordered r.scales s.scales

-- in both orders none is refused, and the totals are the same
pub record AnyOrder (fs gs : List Film) : Type 0 where
  pub none_refused : NoneRefused empty_return gs
  pub same : SameTotals (filed_all empty_return fs) (filed_all empty_return gs)

-- "Up to 32 scales are held", and no total is 2^64 or more
pub record Limits (r : Return) : Type 0 where
  pub few : length r.scales ≤ 32
  pub none : any_over (totals_in r) ≡ false

-- `add_film` run over films, from the state r to the state q
abbrev pub FiledBy : FilmReturn → List Film → FilmReturn → Type 0
FiledBy r [] q = return_of q ≡ return_of r
FiledBy r (f ∷ fs) q = (x : Filed) × Files r f.bytes f.source x × FiledBy x.totals fs q

-- each film is read by default
abbrev pub ByDefault : List Film → Type 0
ByDefault [] = Unit
ByDefault (f ∷ fs) = (f.source.strict ≡ false) × ByDefault fs

-- films filed one after the other in an empty return
pub record OfMany (fs : List Film) : Type 0 where
  -- "From an empty return, each total must equal the sum over the files not refused 20 or 21"
  pub each_total : EachTotal (filed_all empty_return fs) (kept_of empty_return fs)
  -- "where none is, any order of filing gives the same totals but for the scales' order"
  pub any_order : (gs : List Film) → Reordered fs gs → NoneRefused empty_return fs → AnyOrder fs gs
  pub limits : Limits (filed_all empty_return fs)
  -- "11 stays 0 by Ask 7's default"
  pub eleven : ByDefault fs → get_or (filed_all empty_return fs).refused (slot_of 11) 0 ≡ 0
  -- the same of the states that the code goes through
  pub run : (r q : FilmReturn) → return_of r ≡ empty_return → FiledBy r fs q → return_of q ≡ filed_all empty_return fs

-- 83 zeros are an empty return
pub record ZerosEmpty (rest : List ℕ) : Type 0 where
  pub zeros : return_of (return_in (replicate 83 0 ++ rest)) ≡ empty_return

-- ---- returns of parts of the films, joined

-- the returns of some parts, joined to r in order
abbrev pub parts_return : Return → List (List Film) → Return
parts_return r [] = r
parts_return r (fs ∷ parts) = parts_return (joined_return r (filed_all empty_return fs)) parts

-- none of them is refused
abbrev pub NoneUnjoined : Return → List (List Film) → Type 0
NoneUnjoined r [] = Unit
NoneUnjoined r (fs ∷ parts) = (joined_refusal r (filed_all empty_return fs) ≡ 0) × NoneUnjoined (joined_return r (filed_all empty_return fs)) parts

-- "joining the return of fs with that of gs is the return of fs and then gs, the scales' order too"
pub record TwoJoined (fs gs : List Film) : Type 0 where
  pub refusal : joined_refusal (filed_all empty_return fs) (filed_all empty_return gs) ≡ 0
  pub same : joined_return (filed_all empty_return fs) (filed_all empty_return gs) ≡ filed_all empty_return (fs ++ gs)
  -- the same of the states of the code, joined by `join_returns`
  pub run : (r s : FilmReturn) (x : Filed) → return_of r ≡ filed_all empty_return fs → return_of s ≡ filed_all empty_return gs → Joins r s x
      → (x.refusal ≡ 0) × (return_of x.totals ≡ filed_all empty_return (fs ++ gs))

-- "any cutting of the films into parts, joined in order, gives the same return"
pub record PartsJoined (parts : List (List Film)) : Type 0 where
  pub none_refused : NoneUnjoined empty_return parts
  pub same : parts_return empty_return parts ≡ filed_all empty_return (joined (λ fs. fs) parts)

-- "where no film is refused 20 or 21"
pub record Joinable : Type 0 where
  pub two : (fs gs : List Film) → NoneRefused empty_return (fs ++ gs) → TwoJoined fs gs
  pub parts : (parts : List (List Film)) → NoneRefused empty_return (joined (λ fs. fs) parts) → PartsJoined parts
