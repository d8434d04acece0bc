-- Parts of parts: what a walk over a part keeps of its place.
-- Assumes nothing.
use Prim.Native.Nat.{ℕ, zero, suc, ◌+◌, ◌-◌, ◌≤◌, ◌<◌, ◌^◌}
use mathlib.Core.Path.{◌≡◌, refl, sym, ap, ◌∙◌}
use mathlib.Core.List.{List, [], ◌∷◌}
use native.Mathlib.Omega.{arith}
use native.Mathlib.Decide.{ℕ_discrete, dec_le}
use lib.ListN.{length, take, drop, length-take, length-drop, drop_of_length-le}
use lib.Seq.{drop-drop, take-length, take_all}
use Rattle.lists.proofs.Cuts.{drop_take}
use Rattle.atoms.specs.Atoms.{header_of, body_of}
use Rattle.places.specs.Places.{part_in}
use Rattle.places.specs.declared.Part.{Part}

-- t stands at a place of s: it is what s has there, and ends within s unless it is empty
pub record At (s t : List ℕ) (at : ℕ) : Type 0 where
  pub here : take (length t) (drop at s) ≡ t
  pub ends : 0 < length t → at + length t ≤ length s

take_min : (n : ℕ) (l : List ℕ) → take (length (take n l)) l ≡ take n l
take_min zero l = refl
take_min (suc n) [] = refl
take_min (suc n) (x ∷ l) = ap (λ (r : List ℕ). x ∷ r) (take_min n l)

take-take : (n m : ℕ) (l : List ℕ) → n ≤ m → take n (take m l) ≡ take n l
take-take zero m l h = refl
take-take (suc n) zero l h = absurd (omega arith)
take-take (suc n) (suc m) [] h = refl
take-take (suc n) (suc m) (x ∷ l) h = ap (λ (r : List ℕ). x ∷ r) (take-take n m l (omega arith))

pub part_at : (s : List ℕ) (p : Part) → At s (part_in s p) p.at
unfolding part_in
part_at s p = record {
  here = take_min p.len (drop p.at s);
  ends = λ h. omega (arith, length-take p.len (drop p.at s), length-drop p.at s);
}

pub at_whole : (s : List ℕ) → At s s 0
at_whole s = record { here = take-length s; ends = λ h. omega arith }

-- the first n bytes of what stands there
pub at_front : (s t : List ℕ) (at n : ℕ) → At s t at → n ≤ length t → take n (drop at s) ≡ take n t
at_front s t at n a h = sym (take-take n (length t) (drop at s) h) ∙ ap (take n) a.here

-- what follows them
pub at_next : (s t : List ℕ) (at n : ℕ) → At s t at → n ≤ length t → At s (drop n t) (at + n)
at_next s t at n a h =
    let k : length t ≡ n + (length t - n) = omega arith in
    let l : length (drop n t) ≡ length t - n = length-drop n t in
    record {
      here =
          ap (λ (m : ℕ). take m (drop (at + n) s)) l
          ∙ ap (take (length t - n)) (sym (drop-drop n at s))
          ∙ sym (drop_take n (length t - n) (drop at s))
          ∙ ap (λ (m : ℕ). drop n (take m (drop at s))) (sym k)
          ∙ ap (drop n) a.here;
      ends = λ q. let z : at + length t ≤ length s = a.ends (omega arith) in omega arith;
    }

-- ---- the body of an atom

module _ (s a b : List ℕ) (p : Part) (e : a ≡ part_in s p) (f : b ≡ body_of a) where
  pub body_le : length b ≤ length a
  unfolding body_of
  body_le = omega (arith, ap length f, length-drop (header_of a) a)

  cut : drop (length a - length b) a ≡ b
  unfolding body_of
  cut = elim (dec_le (header_of a) (length a)) [
    | yes h ↦ let z : length a - length b ≡ header_of a = omega (arith, ap length f, length-drop (header_of a) a) in ap (λ (n : ℕ). drop n a) z ∙ sym f
    | no h ↦
        let z : length b ≡ 0 = omega (arith, ap length f, length-drop (header_of a) a) in
        drop_of_length-le a {i = length a - length b} (omega arith) ∙ sym (f ∙ drop_of_length-le a {i = header_of a} (omega arith))
  ]

  pub body_sum : length s < 2 ^ 63 → p.at < 2 ^ 64 → p.at + (length a - length b) < 2 ^ 64
  body_sum h k = elim (ℕ_discrete (length a) 0) [
    | yes z ↦ omega arith
    | no z ↦ let g : p.at + length a ≤ length s = rw e ((part_at s p).ends (omega (arith, ap length e))) in omega arith
  ]

  pub body_is : part_in s (record { at = p.at + (length a - length b); len = length b }) ≡ body_of (part_in s p)
  unfolding part_in
  body_is =
      let q : At s a p.at = rw e (part_at s p) in
      let n = at_next s a p.at (length a - length b) q (omega arith) in
      rw cut at n.here ∙ f ∙ ap body_of e

-- ---- a part of a part

-- all that is lent
pub whole_part : (s : List ℕ) → part_in s (record { at = 0; len = length s }) ≡ s
unfolding part_in
whole_part s = take-length s

module _ (s t : List ℕ) (o p : Part) (e : t ≡ part_in s o) where
  pub within_past : length t ≤ p.at → part_in s (record { at = 0; len = 0 }) ≡ part_in (part_in s o) p
  unfolding part_in
  within_past h =
      let z : drop p.at t ≡ [] = drop_of_length-le t {i = p.at} h in
      let f : ◌≡◌ {A = List ℕ} [] (take p.len (drop p.at t)) = rw z (take_none p.len) in
      f ∙ ap (λ (x : List ℕ). take p.len (drop p.at x)) e
    where
      take_none : (n : ℕ) → ◌≡◌ {A = List ℕ} [] (take n [])
      take_none zero = refl
      take_none (suc n) = refl

  module _ (h : p.at < length t) where
    stands : At s t o.at
    stands = rw e (part_at s o)

    pub within_sum : length s < 2 ^ 63 → o.at + p.at < 2 ^ 64
    within_sum l = let g = stands.ends (omega arith) in omega arith

    within : (n : ℕ) → n ≤ length t - p.at → take n (drop (o.at + p.at) s) ≡ take n (drop p.at t)
    within n l = at_front s (drop p.at t) (o.at + p.at) n (at_next s t o.at p.at stands (omega arith)) (omega (arith, length-drop p.at t))

    pub within_whole : p.len ≤ length t - p.at → part_in s (record { at = o.at + p.at; len = p.len }) ≡ part_in (part_in s o) p
    unfolding part_in
    within_whole l = within p.len l ∙ ap (λ (x : List ℕ). take p.len (drop p.at x)) e

    pub within_cut : length t - p.at < p.len → part_in s (record { at = o.at + p.at; len = length t - p.at }) ≡ part_in (part_in s o) p
    unfolding part_in
    within_cut l =
        within (length t - p.at) (omega arith)
        ∙ take_all (length t - p.at) (drop p.at t) (omega (arith, length-drop p.at t))
        ∙ sym (take_all p.len (drop p.at t) (omega (arith, length-drop p.at t)))
        ∙ ap (λ (x : List ℕ). take p.len (drop p.at x)) e
