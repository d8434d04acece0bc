-- A body whose atoms are written anew, each as long as it was and with its own header, has those atoms.
-- Assumes nothing.
use Prim.Native.Nat.{ℕ, zero, suc, ◌+◌, ◌≤◌, ◌<◌}
use mathlib.Core.Path.{◌≡◌, refl, sym, ap, ◌∙◌}
use mathlib.Core.Logic.{◌⊎◌, inl, inr, ⊎_elim}
use mathlib.Core.List.{List, [], ◌∷◌, ◌++◌, map}
use mathlib.Core.Bool.{Bool, true, false}
use native.Mathlib.Omega.{arith}
use lib.ListN.{length, take, drop, length-append, length-drop, take-append-drop}
use lib.Seq.{take-append-le, take_at, drop_at, take-take, length-take-le}
use lib.Dec.{ltb}
use borrow.Author.Tests.{ltb-true, ltb-false}
use Rattle.atoms.specs.Pieces.{pieces_after}
use Rattle.atoms.specs.Atoms.{header_of, size_in, atoms, filled}
use Rattle.atoms.proofs.Laws.{size_le, atoms_none, atoms_next, fill_stop, fill_next}
use Rattle.byte_writing.specs.Bytes.{joined}
use Rattle.compact_laws.proofs.Sizes.{size_same, header_fits, header_same}

abbrev pub Each : (List ℕ → Type 0) → List (List ℕ) → Type 0
Each P [] = Unit {0}
Each P (a ∷ l) = P a × Each P l

pub differ : ◌≡◌ {A = Bool} true false → ⊥
differ e = let z : ◌≡◌ {A = ℕ} 0 1 = cc in omega arith

-- less than 8, or not
pub few : (z : ℕ) → (z < 8) ⊎ (8 ≤ z)
few z = go (ltb z 8) refl
  where
    go : (b : Bool) → ltb z 8 ≡ b → (z < 8) ⊎ (8 ≤ z)
    go true e = inl (ltb-true z 8 e)
    go false e = inr (ltb-false z 8 e)

-- ---- along the atoms of a body: where none begins, and past the first one

module _ (p : ℕ) (P : List ℕ → Type 0)
    (none : (s : List ℕ) (z : ℕ) → z ≡ size_in p s → z < 8 → P s)
    (next : (s : List ℕ) (z : ℕ) → z ≡ size_in p s → 8 ≤ z → P (drop z s) → P s) where
  along_step : (s : List ℕ) → ((t : List ℕ) → length t < length s → P t) → P s
  along_step s ih =
      let z = size_in p s in
      ⊎_elim (λ h. none s z refl h) (λ h. next s z refl h (ih (drop z s) (omega (arith, length-drop z s, size_le p s, h)))) (few z)

  along_in : (m : ℕ) (s : List ℕ) → length s ≤ m → P s
  along_in zero s b = along_step s (λ t l. absurd (omega arith))
  along_in (suc m) s b = along_step s (λ t l. along_in m t (omega arith))

  pub along : (s : List ℕ) → P s
  along s = along_in (length s) s (omega arith)

pub atoms_joined : (p : ℕ) (s : List ℕ) → filled p s ≡ true → joined (atoms p s) ≡ s
unfolding joined
atoms_joined p = along p (λ s. filled p s ≡ true → joined (atoms p s) ≡ s)
    (λ s z e h f. ap joined (atoms_none p s z e h) ∙ sym (nothing s z e h f))
    (λ s z e h r f. ap joined (atoms_next p s z e h) ∙ ap (λ x. take z s ++ x) (r (sym (fill_next p s z e h) ∙ f)) ∙ take-append-drop z s)
  where
    nothing : (s : List ℕ) (z : ℕ) → z ≡ size_in p s → z < 8 → filled p s ≡ true → s ≡ []
    nothing [] z e h f = refl
    nothing (x ∷ s) z e h f = absurd (differ (sym f ∙ fill_stop p (x ∷ s) z e h (omega arith)))

module _ (p : ℕ) (g : List ℕ → List ℕ) where
  -- g keeps the length and the header
  abbrev pub Keeps : List ℕ → Type 0
  Keeps a = (length (g a) ≡ length a) × (take (header_of a) (g a) ≡ take (header_of a) a)

  unfoldable pub written : List ℕ → List ℕ
  written s = joined (map g (atoms p s))

  pub record Rewrites (s : List ℕ) : Type 0 where
    pub lengths : length (written s) ≡ length s
    pub pieces : atoms p (written s) ≡ map g (atoms p s)

  module _ (s : List ℕ) (z : ℕ) (e : z ≡ size_in p s) (h : 8 ≤ z) where
    written_next : written s ≡ g (take z s) ++ written (drop z s)
    unfolding written joined
    written_next = rw (atoms_next p s z e h)

    rewrites_next : Keeps (take z s) → Rewrites (drop z s) → Rewrites s
    rewrites_next k r =
        let a = take z s in
        let t = written (drop z s) in
        let n : z ≤ length s = omega (arith, size_le p s) in
        let la : length (g a) ≡ z = k.0 ∙ length-take-le z s n in
        let l : length (written s) ≡ length s = omega (arith, ap length written_next, length-append (g a) t, r.lengths, length-drop z s, la) in
        let hf = header_fits p s z e h in
        let hs = header_same s z (omega arith) in
        let q : take (header_of s) (written s) ≡ take (header_of s) s =
        ap (take (header_of s)) written_next ∙ take-append-le (header_of s) (g a) t (omega (arith, la, hf)) ∙ rw hs at k.1 ∙ take-take (header_of s) z s hf in
        let e' : z ≡ size_in p (written s) = e ∙ sym (size_same p (written s) s l q) in
        record {
          lengths = l;
          pieces = atoms_next p (written s) z e' h ∙ rw (written_next, take_at (g a) t z la, drop_at (g a) t z la, r.pieces, atoms_next p s z e h) refl;
        }

  -- no atom begins: nothing is left
  rewrites_none : (s : List ℕ) (z : ℕ) → z ≡ size_in p s → z < 8 → filled p s ≡ true → Rewrites s
  unfolding written joined pieces_after
  rewrites_none [] z e h f = record { lengths = refl; pieces = refl }
  rewrites_none (x ∷ s) z e h f = absurd (differ (sym f ∙ fill_stop p (x ∷ s) z e h (omega arith)))

  pub rewrites : (s : List ℕ) → filled p s ≡ true → Each Keeps (atoms p s) → Rewrites s
  rewrites = along p (λ s. filled p s ≡ true → Each Keeps (atoms p s) → Rewrites s)
      (λ s z e h f k. rewrites_none s z e h f)
      (λ s z e h r f k.
      let w : Each Keeps (take z s ∷ atoms p (drop z s)) = rw (atoms_next p s z e h) at k in
      rewrites_next s z e h w.0 (r (sym (fill_next p s z e h) ∙ f) w.1))
