-- Refusal 3: every body has the atoms that it must have.
-- Assumes nothing.
use Prim.Native.Nat.{ℕ, suc}
use mathlib.Core.Path.{◌≡◌, refl, sym, ap, ◌∙◌}
use mathlib.Core.List.{List}
use mathlib.Core.Bool.{Bool, true, false, cond}
use native.Mathlib.Omega.{arith}
use lib.Dec.{eqb}
use borrow.Author.Tests.{eqb-true}
use Rattle.atoms.specs.Kinds.{file, moov, trak, edts, mdia, minf, dinf, stbl, mvhd, tkhd, mdhd, hdlr, dref, stsd, stts, stsc, stsz, stco, co64, elst, ctts, stss}
use Rattle.atoms.specs.Atoms.{count_in}
use Rattle.atoms.specs.Tree.{everywhere}
use Rattle.presence.specs.Present.{one, at_most_one, one_offsets, tables, present}
use Rattle.compact_tables.specs.Tables.{free}
use Rattle.compact_tree.specs.Tree.{compact_body}
use Rattle.compact_laws.proofs.Bodies.{Sound}
use Rattle.compact_laws.proofs.Children.{count_same}
use Rattle.compact_laws.proofs.Stbl.{count_table}
use Rattle.compact_laws.proofs.Everywhere.{everywhere_kept}

branch : (b : Bool) (x y u v : Bool) → (b ≡ true → x ≡ y) → u ≡ v → cond b x u ≡ cond b y v
branch true x y u v f g = f refl
branch false x y u v f g = g

-- two bodies of the parent p with as many atoms of each kind but free
module _ (wide : Bool) (p : ℕ) (x y : List ℕ) (c : (k : ℕ) → (k ≡ free → ⊥) → count_in p k x ≡ count_in p k y) where
  at : (q k : ℕ) → eqb p q ≡ true → (k ≡ free → ⊥) → count_in q k x ≡ count_in q k y
  at q k e f = ap (λ (i : ℕ). count_in i k x) (sym (eqb-true p q e)) ∙ c k f ∙ ap (λ (i : ℕ). count_in i k y) (eqb-true p q e)

  pub present-by : present wide p x ≡ present wide p y
  unfolding present one at_most_one tables one_offsets
  present-by =
      branch (eqb p file) _ _ _ _ (λ e. rw (at file moov e (λ z. omega arith)) refl)
      (branch (eqb p moov) _ _ _ _ (λ e. rw (at moov mvhd e (λ z. omega arith)) refl)
      (branch (eqb p trak) _ _ _ _ (λ e. rw (at trak tkhd e (λ z. omega arith), at trak mdia e (λ z. omega arith), at trak edts e (λ z. omega arith)) refl)
      (branch (eqb p edts) _ _ _ _ (λ e. rw (at edts elst e (λ z. omega arith)) refl)
      (branch (eqb p mdia) _ _ _ _ (λ e. rw (at mdia mdhd e (λ z. omega arith), at mdia hdlr e (λ z. omega arith), at mdia minf e (λ z. omega arith)) refl)
      (branch (eqb p minf) _ _ _ _ (λ e. rw (at minf stbl e (λ z. omega arith), at minf dinf e (λ z. omega arith)) refl)
      (branch (eqb p stbl) _ _ _ _
      (λ e. rw (
        at stbl stsd e (λ z. omega arith),
        at stbl stts e (λ z. omega arith),
        at stbl stsc e (λ z. omega arith),
        at stbl stsz e (λ z. omega arith),
        at stbl stco e (λ z. omega arith),
        at stbl co64 e (λ z. omega arith),
        at stbl ctts e (λ z. omega arith),
        at stbl stss e (λ z. omega arith),
      ) refl)
      (branch (eqb p dinf) _ _ _ _ (λ e. rw (at dinf dref e (λ z. omega arith)) refl) refl)))))))

counts_kept : (wide : Bool) (n p : ℕ) (s : List ℕ) → Sound wide (suc n) p s → (k : ℕ) → (k ≡ free → ⊥) → count_in p k (compact_body (suc n) p s) ≡ count_in p k s
counts_kept wide n p s d k f = go (eqb p stbl) refl
  where
    go : (b : Bool) → eqb p stbl ≡ b → count_in p k (compact_body (suc n) p s) ≡ count_in p k s
    go true e = let q = eqb-true p stbl e in let d' : Sound wide (suc n) stbl s = rw q at d in rw q (count_table wide n s d' k f)
    go false e = count_same wide n p s d e k

pub present_kept : (wide narrow : Bool) (n p : ℕ) (s : List ℕ) → Sound wide n p s → everywhere (present narrow) n p s ≡ true → everywhere (present narrow) n p (compact_body n p s) ≡ true
present_kept wide narrow n p s d h =
    everywhere_kept wide (present narrow) (λ m q t e k. present-by narrow q (compact_body (suc m) q t) t (counts_kept wide m q t e) ∙ k) n p s d h
