-- Laws of writing. Numbers put one after the other from the beginning of lent bytes leave there the bytes of them all (`Put`, `put_start`, `put_next`),
-- so that a writer may stream them.
-- Assumes nothing.
use mathlib.Core.Path.{◌≡◌, refl, ap, sym, ◌∙◌}
use mathlib.Core.List.{List, [], ◌∷◌, ◌++◌, append_assoc, append-nil}
use Prim.Native.Nat.{ℕ, ◌+◌, ◌*◌, ◌<◌, ◌≤◌}
use native.Mathlib.Omega.{arith}
use native.Mathlib.Nat.{zero-add}
use lib.ListN.{length, length-append}
use lib.Seq.{sets, sets-eq, length-sets}
use borrow.Author.Tests.{le-leb, lt-leb}
use Rattle.std.specs.Prelude.{Some, None}
use Rattle.lists.proofs.Stores.{sets_append}
use Rattle.leb128.specs.Numbers.{groups, writes}
use Rattle.leb128.specs.Writing.{put_at, past_put}
use Rattle.leb128.proofs.Groups.{groups_count}

pub writes_append : (xs ys : List ℕ) → writes (xs ++ ys) ≡ writes xs ++ writes ys
unfolding writes
writes_append [] ys = refl
writes_append (x ∷ xs) ys = ap (λ (l : List ℕ). groups x ++ l) (writes_append xs ys) ∙ sym (append_assoc (groups x) (writes xs) (writes ys))

pub writes_few : (ns : List ℕ) → length (writes ns) ≤ 10 * length ns
unfolding writes
writes_few [] = omega arith
writes_few (n ∷ ns) = omega (arith, writes_few ns, length-append (groups n) (writes ns), groups_count n)

-- bytes that fit are stored, and bytes that do not fit change nothing
module _ (out : List ℕ) (at : ℕ) (bs : List ℕ) where
  pub put_fits : at + length bs ≤ length out → (past_put out at bs ≡ Some (at + length bs)) × (put_at out at bs ≡ sets out at bs)
  unfolding put_at past_put
  put_fits h = (rw (le-leb (at + length bs) (length out) h), rw (le-leb (at + length bs) (length out) h) (sym (sets-eq bs out at h)))

  pub put_not : length out < at + length bs → (past_put out at bs ≡ None) × (put_at out at bs ≡ out)
  unfolding put_at past_put
  put_not h = (rw (lt-leb (at + length bs) (length out) h), rw (lt-leb (at + length bs) (length out) h))

-- what lent bytes are after numbers were put from their beginning on, and the place past them
pub record Put (out₀ ns : List ℕ) (at : ℕ) (out : List ℕ) : Type 0 where
  pub past : at ≡ length (writes ns)
  pub bytes : out ≡ sets out₀ 0 (writes ns)

pub put_start : (out : List ℕ) → Put out [] 0 out
unfolding writes
put_start out = record { past = refl; bytes = refl }

pub put_length : (out₀ ns : List ℕ) (at : ℕ) (out : List ℕ) → Put out₀ ns at out → length out ≡ length out₀
put_length out₀ ns at out p = ap length p.bytes ∙ length-sets out₀ 0 (writes ns)

-- one number more, stored where it fits with those that follow it
pub store_fits : (out₀ ns : List ℕ) (n : ℕ) (more : List ℕ) → length (writes (ns ++ (n ∷ more))) ≤ length out₀ → (at : ℕ) (out : List ℕ) → Put out₀ ns at out → at + length (groups n) ≤ length out
unfolding writes
store_fits out₀ ns n more room at out p =
    omega (arith, put_length out₀ ns at out p, p.past, ap length (writes_append ns (n ∷ more)), length-append (writes ns) (groups n ++ writes more), length-append (groups n) (writes more))

pub store_next : (out₀ ns : List ℕ) (n : ℕ) (at : ℕ) (out : List ℕ) → Put out₀ ns at out → (r : ℕ) (last : List ℕ) → r ≡ at + length (groups n) → last ≡ sets out at (groups n) → Put out₀ (ns ++ (n ∷ [])) r last
unfolding writes
store_next out₀ ns n at out p r last e f = record { past = e ∙ ends; bytes = f ∙ rw (p.bytes, p.past) stored }
  where
    whole : writes (ns ++ (n ∷ [])) ≡ writes ns ++ groups n
    whole = writes_append ns (n ∷ []) ∙ ap (λ (l : List ℕ). writes ns ++ l) (append-nil (groups n))

    ends : at + length (groups n) ≡ length (writes (ns ++ (n ∷ [])))
    ends = rw whole (omega (arith, p.past, length-append (writes ns) (groups n)))

    stored : sets (sets out₀ 0 (writes ns)) (length (writes ns)) (groups n) ≡ sets out₀ 0 (writes (ns ++ (n ∷ [])))
    stored = rw whole (sym (sets_append out₀ 0 (writes ns) (groups n) ∙ rw zero-add))

-- one number more, put where it fits with those that follow it
pub put_next : (out₀ ns : List ℕ) (n : ℕ) (more : List ℕ) → length (writes (ns ++ (n ∷ more))) ≤ length out₀ → (at : ℕ) (out : List ℕ) → Put out₀ ns at out
    → (r : ℕ) (last : List ℕ) → Some r ≡ past_put out at (groups n) → last ≡ put_at out at (groups n) → Put out₀ (ns ++ (n ∷ [])) r last
put_next out₀ ns n more room at out p r last e f =
    let fits = put_fits out at (groups n) (store_fits out₀ ns n more room at out p) in
    let same : Some r ≡ Some (at + length (groups n)) = e ∙ fits.0 in
    let past : r ≡ at + length (groups n) = cc in
    store_next out₀ ns n at out p r last past (f ∙ fits.1)

-- numbers put where they fit: the answer and the bytes of putting them at once
pub put_all : (out₀ ns : List ℕ) (at : ℕ) (out : List ℕ) → length (writes ns) ≤ length out₀ → Put out₀ ns at out → (Some at ≡ past_put out₀ 0 (writes ns)) × (out ≡ put_at out₀ 0 (writes ns))
put_all out₀ ns at out room p =
    let h : 0 + length (writes ns) ≤ length out₀ = omega arith in
    let f = put_fits out₀ 0 (writes ns) h in
    let past : at ≡ 0 + length (writes ns) = omega (arith, p.past) in
    (ap Some past ∙ sym f.0, p.bytes ∙ sym f.1)
