-- From an empty return each total is the sum over the films that are not refused 20 or 21: by one law over what a film adds to a number.
-- Assumes nothing.
use Prim.Native.Nat.{ℕ, zero, suc, ◌+◌}
use mathlib.Core.Path.{◌≡◌, refl, sym, ap, ◌∙◌}
use mathlib.Core.Bool.{Bool, true, false}
use mathlib.Core.List.{List, [], ◌∷◌, map}
use native.Mathlib.Omega.{arith}
use lib.ListN.{length, get_or, replicate}
use lib.Dec.{eqb}
use Rattle.lists.specs.Lists.{sum}
use Rattle.return_totals.specs.Returns.{Scale, Return, empty_return, slot_of, limited}
use Rattle.return_totals.specs.Returns.{scales_in, return_of}
use Rattle.return_numbers.specs.Numbers.{return_in}
use Rattle.film_return.specs.Films.{filed_refusal, filed_return}
use Rattle.return_totals.specs.Following.{met_in}
use Rattle.film_return_theorems.specs.Filing.{Film, filed_all, kept_of, accepted_in, refused_in, tracks_in, samples_in, bytes_in, units_of, joined, EachTotal, ZerosEmpty}
use Rattle.film_return_theorems.proofs.Scales.{total_of, with_all, all_total, all_append}
use Rattle.film_return_theorems.proofs.Meeting.{all_met, all_once, by_scales}
use Rattle.film_return_theorems.proofs.Films.{with_it, slot_in, film_adds, slot_number}

-- a film at its turn
pub filed_in : (r : Return) (f : Film) → eqb (filed_refusal r f.bytes f.source) 0 ≡ true → filed_return r f.bytes f.source ≡ with_it f r
unfolding filed_refusal filed_return limited
filed_in r f e = rw e

pub filed_out : (r : Return) (f : Film) → eqb (filed_refusal r f.bytes f.source) 0 ≡ false → filed_return r f.bytes f.source ≡ r
unfolding filed_refusal filed_return limited
filed_out r f e = rw e

-- a number of a return to which each film adds a number of its own, where P holds of the return
module _ (n : Return → ℕ) (a : Film → ℕ) (P : Return → Type 0) (h : (f : Film) (r : Return) → P r → (n (with_it f r) ≡ n r + a f) × P (with_it f r)) where
  each_number : (fs : List Film) (r : Return) → P r → n (filed_all r fs) ≡ n r + sum (map a (kept_of r fs))
  each_number [] r p = omega arith
  each_number (f ∷ fs) r p = go (eqb (filed_refusal r f.bytes f.source) 0) refl (λ s q. each_number fs s q)
    where
      go : (b : Bool) → eqb (filed_refusal r f.bytes f.source) 0 ≡ b → ((s : Return) → P s → n (filed_all s fs) ≡ n s + sum (map a (kept_of s fs)))
          → n (filed_all r (f ∷ fs)) ≡ n r + sum (map a (kept_of r (f ∷ fs)))
      go true e k = let x = h f r p in rw (e, filed_in r f e) (omega (arith, k (with_it f r) x.1, x.0))
      go false e k = rw (e, filed_out r f e) (k r p)

abbrev Any : Return → Type 0
Any r = Unit {0}

abbrev pub Fourteen : Return → Type 0
Fourteen r = length r.refused ≡ 14

all_fourteen : (fs : List Film) (r : Return) → Fourteen r → Fourteen (filed_all r fs)
all_fourteen [] r e = e
all_fourteen (f ∷ fs) r e = go (eqb (filed_refusal r f.bytes f.source) 0) refl (all_fourteen fs)
  where
    go : (b : Bool) → eqb (filed_refusal r f.bytes f.source) 0 ≡ b → ((s : Return) → Fourteen s → Fourteen (filed_all s fs)) → Fourteen (filed_all r (f ∷ fs))
    go true q k = ap (λ s. length (filed_all s fs).refused) (filed_in r f q) ∙ k (with_it f r) ((film_adds f r).long ∙ e)
    go false q k = ap (λ s. length (filed_all s fs).refused) (filed_out r f q) ∙ k r e

sums_same : (a b : Film → ℕ) → ((f : Film) → a f ≡ b f) → (fs : List Film) → sum (map a fs) ≡ sum (map b fs)
sums_same a b h [] = refl
sums_same a b h (f ∷ fs) = omega (arith, h f, sums_same a b h fs)

pub zeros : (n i : ℕ) → ◌≡◌ {A = ℕ} (get_or (replicate n 0) i 0) 0
zeros zero i = refl
zeros (suc n) zero = refl
zeros (suc n) (suc i) = zeros n i

-- ---- the scales

kept-in : (r : Return) (f : Film) (fs : List Film) → eqb (filed_refusal r f.bytes f.source) 0 ≡ true → kept_of r (f ∷ fs) ≡ f ∷ kept_of (with_it f r) fs
kept-in r f fs e = rw (e, filed_in r f e)

kept_out : (r : Return) (f : Film) (fs : List Film) → eqb (filed_refusal r f.bytes f.source) 0 ≡ false → kept_of r (f ∷ fs) ≡ kept_of r fs
kept_out r f fs e = rw (e, filed_out r f e)

abbrev added : List Film → List Scale → List Scale
added fs l = with_all (joined tracks_in fs) l

kept_scales : (fs : List Film) (r : Return) → (filed_all r fs).scales ≡ added (kept_of r fs) r.scales
kept_scales [] r = refl
kept_scales (f ∷ fs) r = go (eqb (filed_refusal r f.bytes f.source) 0) refl (kept_scales fs)
  where
    go : (b : Bool) → eqb (filed_refusal r f.bytes f.source) 0 ≡ b → ((s : Return) → (filed_all s fs).scales ≡ added (kept_of s fs) s.scales)
        → (filed_all r (f ∷ fs)).scales ≡ added (kept_of r (f ∷ fs)) r.scales
    go true e k =
        let s = with_it f r in
        ap (λ q. (filed_all q fs).scales) (filed_in r f e)
        ∙ k s
        ∙ ap (added (kept_of s fs)) (film_adds f r).scales
        ∙ sym (all_append (tracks_in f) (joined tracks_in (kept_of s fs)) r.scales)
        ∙ ap (λ l. added l r.scales) (sym (kept-in r f fs e))
    go false e k = ap (λ q. (filed_all q fs).scales) (filed_out r f e) ∙ k r ∙ ap (λ l. added l r.scales) (sym (kept_out r f fs e))

scale_total : (fs : List Film) (k : ℕ) → total_of k (filed_all empty_return fs).scales ≡ sum (map (units_of k) (kept_of empty_return fs))
scale_total fs k =
    omega (
      arith,
      each_number (λ r. total_of k r.scales) (units_of k) Any (λ f r p. (ap (total_of k) (film_adds f r).scales ∙ all_total (tracks_in f) r.scales k, tt)) fs empty_return tt,
    )

-- ---- the claim

pub each_total : (fs : List Film) → EachTotal (filed_all empty_return fs) (kept_of empty_return fs)
each_total fs = record {
  accepted = omega (arith, each_number (λ r. r.accepted) accepted_in Any (λ f r p. ((film_adds f r).accepted, tt)) fs empty_return tt);
  slots = all_fourteen fs empty_return refl;
  refused = λ n b.
      omega (
        arith,
        each_number (λ r. get_or r.refused (slot_of n) 0) (slot_in (slot_of n)) Fourteen (λ f r p. ((film_adds f r).slot (slot_of n) p, (film_adds f r).long ∙ p)) fs empty_return refl,
        zeros 14 (slot_of n),
        sums_same (slot_in (slot_of n)) (refused_in n) (slot_number n b) (kept_of empty_return fs),
      );
  tracks = omega (arith, each_number (λ r. r.tracks) (λ f. length (tracks_in f)) Any (λ f r p. ((film_adds f r).tracks, tt)) fs empty_return tt);
  samples = omega (arith, each_number (λ r. r.samples) samples_in Any (λ f r p. ((film_adds f r).samples, tt)) fs empty_return tt);
  bytes = omega (arith, each_number (λ r. r.bytes) bytes_in Any (λ f r p. ((film_adds f r).bytes, tt)) fs empty_return tt);
  scales =
      let ts = joined tracks_in (kept_of empty_return fs) in
      let s = kept_scales fs empty_return in
      by_scales (λ k. sum (map (units_of k) (kept_of empty_return fs))) (filed_all empty_return fs).scales (rw s (all_once ts [] tt)) (λ k g. scale_total fs k)
      ∙ ap (map (λ k. record { scale = k; total = sum (map (units_of k) (kept_of empty_return fs)) })) (ap met_in s ∙ all_met ts []);
}

pub zeros_empty : (rest : List ℕ) → ZerosEmpty rest
unfolding return_in return_of scales_in
zeros_empty rest = record { zeros = refl }
