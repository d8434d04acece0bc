-- What a return keeps of the state that it goes on from: the count, and the places past the scales that are held.
-- Assumes nothing.
use Prim.Native.Nat.{ℕ, zero, suc, ◌+◌, ◌-◌, ◌≤◌, ◌<◌, min}
use mathlib.Core.Path.{◌≡◌, refl, sym, ap, ◌∙◌}
use mathlib.Core.Bool.{Bool, true, false, cond}
use mathlib.Core.List.{List, [], ◌∷◌}
use native.Mathlib.Omega.{arith}
use lib.ListN.{length, set, take, drop, length-take, length-set}
use lib.Seq.{drop-drop}
use lib.Dec.{ltb}
use borrow.Author.Tests.{ltb-true, ltb-false, lt-ltb, le-ltb}
use Rattle.return_totals.specs.Returns.{scales_in}
use Rattle.return_totals.specs.Following.{Keeps}
use Rattle.return_totals.specs.declared.FilmReturn.{FilmReturn}
use Rattle.return_totals.proofs.Scales.{from_length, from_most}

drop_more : (a b : ℕ) (x y : List ℕ) → a ≤ b → drop a x ≡ drop a y → drop b x ≡ drop b y
drop_more a b x y h e =
    let k : a + (b - a) ≡ b = omega arith in
    let p = rw k at (drop-drop (b - a) a x) in
    let q = rw k at (drop-drop (b - a) a y) in
    sym p ∙ ap (drop (b - a)) e ∙ q

-- a store before them
drop_set : (n i x : ℕ) (l : List ℕ) → i < n → drop n (set l i x) ≡ drop n l
drop_set zero i x l h = absurd (omega arith)
drop_set (suc n) i x [] h = refl
drop_set (suc n) zero x (y ∷ l) h = refl
drop_set (suc n) (suc i) x (y ∷ l) h = drop_set n i x l (omega arith)

pub held_few : (t : FilmReturn) → length (scales_in t) ≤ 32
unfolding scales_in
held_few t = omega (arith, from_most (take (min t.count 32) t.scales) (take (min t.count 32) t.units), length-take (min t.count 32) t.scales)

module _ (r : FilmReturn) (ls : length r.scales ≡ 32) (lu : length r.units ≡ 32) where
  held_many : length (scales_in r) ≡ min r.count 32
  unfolding scales_in
  held_many =
      let a = length-take (min r.count 32) r.scales in
      let b = length-take (min r.count 32) r.units in
      let c = from_length (take (min r.count 32) r.scales) (take (min r.count 32) r.units) (omega (arith, a, b, ls, lu)) in
      omega (arith, a, c, ls)

  count_same : r.count ≡ cond (ltb 32 r.count) r.count (length (scales_in r))
  count_same = go (ltb 32 r.count) refl
    where
      go : (b : Bool) → ltb 32 r.count ≡ b → r.count ≡ cond b r.count (length (scales_in r))
      go true e = refl
      go false e = omega (arith, ltb-false 32 r.count e, held_many)

  pub keeps_self : Keeps r r
  keeps_self = record { rest = record { count = count_same; scales = refl; units = refl }; grows = omega arith }

-- from the same count on: a total that changed
module _ (r t : FilmReturn) (ls : length r.scales ≡ 32) (lu : length r.units ≡ 32) (i x : ℕ) (ec : t.count ≡ r.count) (es : t.scales ≡ r.scales) (eu : t.units ≡ set r.units i x) where
  as_many : length (scales_in t) ≡ min r.count 32
  as_many = omega (arith, held_many t (ap length es ∙ ls) (ap length eu ∙ length-set r.units i x ∙ lu), ec)

  pub keeps_changed : i < min r.count 32 → Keeps r t
  keeps_changed h = record {
    rest = record {
      count = ec ∙ count_same r ls lu ∙ ap (cond (ltb 32 r.count) r.count) (held_many r ls lu ∙ sym as_many);
      scales = ap (drop (length (scales_in t))) es;
      units = ap (drop (length (scales_in t))) eu ∙ drop_set (length (scales_in t)) i x r.units (omega (arith, as_many));
    };
    grows = omega (arith, as_many, held_many r ls lu);
  }

-- a scale more
module _ (r t : FilmReturn) (ls : length r.scales ≡ 32) (lu : length r.units ≡ 32) (i k x : ℕ) (ec : t.count ≡ i + 1) (es : t.scales ≡ set r.scales i k) (eu : t.units ≡ set r.units i x) where
  one-more : i < 32 → length (scales_in t) ≡ i + 1
  one-more h = omega (arith, held_many t (ap length es ∙ length-set r.scales i k ∙ ls) (ap length eu ∙ length-set r.units i x ∙ lu), ec)

  pub keeps_new : i < 32 → i ≡ min r.count 32 → Keeps r t
  keeps_new h e = record {
    rest = record {
      count = ec ∙ sym (one-more h) ∙ rw (le-ltb 32 r.count (omega arith));
      scales = ap (drop (length (scales_in t))) es ∙ drop_set (length (scales_in t)) i k r.scales (omega (arith, one-more h));
      units = ap (drop (length (scales_in t))) eu ∙ drop_set (length (scales_in t)) i x r.units (omega (arith, one-more h));
    };
    grows = omega (arith, one-more h, held_many r ls lu);
  }

pub keeps_then : (r t u : FilmReturn) → Keeps r t → Keeps t u → Keeps r u
keeps_then r t u a b = record {
  rest = record {
    count = go (ltb 32 r.count) refl a.rest.count;
    scales = b.rest.scales ∙ drop_more (length (scales_in t)) (length (scales_in u)) t.scales r.scales b.grows a.rest.scales;
    units = b.rest.units ∙ drop_more (length (scales_in t)) (length (scales_in u)) t.units r.units b.grows a.rest.units;
  };
  grows = omega (arith, a.grows, b.grows);
}
  where
    go : (c : Bool) → ltb 32 r.count ≡ c → t.count ≡ cond c r.count (length (scales_in t)) → u.count ≡ cond c r.count (length (scales_in u))
    go true e p = b.rest.count ∙ rw (lt-ltb 32 t.count (omega (arith, p, ltb-true 32 r.count e))) p
    go false e p = b.rest.count ∙ rw (le-ltb 32 t.count (omega (arith, p, held_few t)))

-- a state with the same scales
pub keeps_as : (r t u : FilmReturn) → u.count ≡ t.count → u.scales ≡ t.scales → u.units ≡ t.units → Keeps r t → Keeps r u
unfolding scales_in
keeps_as r t u ec es eu k =
    let e : scales_in u ≡ scales_in t = rw (ec, es, eu) in
    record {
      rest = record { count = ec ∙ k.rest.count ∙ rw e; scales = rw (e, es) k.rest.scales; units = rw (e, eu) k.rest.units };
      grows = rw e k.grows;
    }
