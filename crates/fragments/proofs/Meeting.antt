-- The walk over a file's top level passes the header of every atom there, so it meets every fragment.
-- Assumes nothing.
use Prim.Native.Nat.{ℕ, zero, suc, ◌+◌, ◌-◌, ◌*◌, ◌/◌, ◌≤◌, ◌<◌}
use mathlib.Core.Path.{◌≡◌, refl, sym, ap, ◌∙◌}
use mathlib.Core.List.{List, [], ◌∷◌}
use mathlib.Core.Bool.{Bool, true, false, cond, ◌||◌}
use lib.ListN.{length, take, drop, length-drop, drop_of_length-le}
use lib.Seq.{drop-drop}
use lib.Dec.{ltb, eqb}
use borrow.Author.Tests.{lt-ltb, eqb-true, eqb-false}
use native.Mathlib.Omega.{arith}
use native.Mathlib.Decide.{dec_lt}
use Rattle.bigendian.specs.BigEndian.{u32_at}
use Rattle.bigendian.proofs.Laws.{be_at_take}
use Rattle.atoms.specs.Kinds.{file}
use Rattle.atoms.specs.Atoms.{size_in, atoms, of_kind, filled, count_in}
use Rattle.atoms.proofs.Laws.{size_le, kinds_none, kinds_here, kinds_next, fill_stop, fill_next}
use Rattle.top_level.specs.declared.Walk.{Walk}
use Rattle.top_level.specs.declared.Next.{Next}
use Rattle.top_level.specs.declared.Next.TheVariants.{Read, Found, Refused}
use Rattle.top_level.specs.Steps.{size_ahead, start, past, ended, stepped}
use Rattle.top_level.specs.TopLevel.{header_at}
use Rattle.places.proofs.Finding.{not_left}
use Rattle.top_level.proofs.Steps.{step_end, step_on}
use Rattle.top_level.proofs.Ahead.{ahead_top}
use Rattle.top_level.proofs.Walking.{past_length, past_place}
use Rattle.fragments.specs.Fragments.{moof}
use Rattle.fragments.specs.Meeting.{passing, kinds_passed, any_fragment, MeetsFragments}

-- at the file's end no header is passed
end_passes : (k : ℕ) (f : Walk → List ℕ) (w : Walk) → passing k f (ended w) ≡ []
unfolding ended passing
end_passes k f w = go (eqb w.moovs 1)
  where
    go : (b : Bool) → passing k f (cond b (Found w.at w.size) (Refused 3)) ≡ []
    go true = refl
    go false = refl

-- one of the types k and ks is a fragment's exactly if the atoms from t on have a fragment, given that of those past the first
first_or_rest : (t ks : List ℕ) (z k : ℕ) → z ≡ size_in file t → 8 ≤ z → k ≡ u32_at t 4
    → any_fragment ks ≡ ltb 0 (count_in file moof (drop z t)) → any_fragment (k ∷ ks) ≡ ltb 0 (count_in file moof t)
unfolding any_fragment
first_or_rest t ks z k e h g rest = go (eqb k moof) refl
  where
    go : (b : Bool) → eqb k moof ≡ b → (b || any_fragment ks) ≡ ltb 0 (count_in file moof t)
    go true q = sym (lt-ltb 0 (count_in file moof t) (omega (arith, ap length (kinds_here file t z e moof h (sym g ∙ eqb-true _ _ q)))))
    go false q = rw (kinds_next file t z e moof h (λ y. eqb-false _ _ q (g ∙ y))) rest

module _ (s : List ℕ) (g : length s ≤ 9223372036854775807) (n : ℕ) where
  -- with n steps the walk from v on meets the fragments from its place on
  abbrev Meets : Type 0
  Meets = (v : Walk) → v.length ≡ length s → v.place ≤ length s → length s - v.place < 8 * n → filled file (drop v.place s) ≡ true
      → any_fragment (kinds_passed n s v) ≡ ltb 0 (count_in file moof (drop v.place s))

  module _ (ih : Meets) (w : Walk) (l : w.length ≡ length s) where
    abbrev t : List ℕ
    t = drop w.place s

    at_end : length s ≤ w.place → any_fragment (kinds_passed (suc n) s w) ≡ ltb 0 (count_in file moof t)
    unfolding kinds_passed any_fragment
    at_end p =
        rw (
          step_end (header_at s w.place) w (rw l g) (rw l p),
          end_passes (u32_at (header_at s w.place) 4) (kinds_passed n s) w,
          drop_of_length-le s {i = w.place} p,
          kinds_none file [] (size_in file []) refl moof (omega (arith, size_le file [])),
        )

    module _ (p : w.place < length s) (b : length s - w.place < 8 * suc n) (f : filled file t ≡ true) where
      ahead : size_in file t ≡ size_ahead (w.length - w.place) (header_at s w.place)
      ahead = sym (ahead_top t) ∙ rw (l, length-drop w.place s)

      goes : 8 ≤ size_in file t → any_fragment (kinds_passed (suc n) s w) ≡ ltb 0 (count_in file moof t)
      unfolding kinds_passed passing
      goes h =
          let z = size_in file t in
          let k = u32_at (header_at s w.place) 4 in
          let q = size_le file t in
          let d = length-drop w.place s in
          let y : w.place + z ≤ length s = omega arith in
          let e = drop-drop z w.place s in
          let full : filled file (drop (past z k w).place s) ≡ true = rw (past_place z k w, ← e, ← fill_next file t z refl h) f in
          let r = ih (past z k w) (past_length z k w ∙ l) (rw (past_place z k w) y) (rw (past_place z k w) (omega arith)) full in
          rw (step_on (header_at s w.place) w (rw l g) z ahead (rw l p) (λ x. omega arith))
          (first_or_rest t (kinds_passed n s (past z k w)) z k refl h (be_at_take 4 16 t 4 (omega arith)) (r ∙ rw (past_place z k w, ← e)))

      inside : any_fragment (kinds_passed (suc n) s w) ≡ ltb 0 (count_in file moof t)
      inside = elim (dec_lt (size_in file t) 8) [
        | yes h ↦ absurd (not_left (sym f ∙ fill_stop file t (size_in file t) refl h (omega (arith, length-drop w.place s))))
        | no h ↦ goes (omega arith)
      ]

meets : (s : List ℕ) (g : length s ≤ 9223372036854775807) (n : ℕ) → Meets s g n
meets s g zero v l p b f = absurd (omega arith)
meets s g (suc n) v l p b f = elim (dec_lt v.place (length s)) [
  | yes h ↦ inside s g n (meets s g n) v l h b f
  | no h ↦ at_end s g n (meets s g n) v l (omega arith)
]

pub meets_fragments : (s : List ℕ) → MeetsFragments s
meets_fragments s = record { met = λ g f. meets s g (length s / 8 + 1) (start (length s)) refl (omega arith) (omega arith) f }
