-- Entries of one width, joined: how many bytes they are, and cut into the same entries again.
-- Assumes nothing.
use Prim.Native.Nat.{ℕ, zero, suc, ◌+◌, ◌*◌, ◌/◌, ◌<◌, ◌≤◌}
use mathlib.Core.Path.{◌≡◌, sym, ap, ◌∙◌}
use mathlib.Core.List.{List, [], ◌∷◌, ◌++◌}
use mathlib.Core.Bool.{Bool, true, false, cond}
use native.Mathlib.Omega.{arith}
use native.Mathlib.Nat.{div-mul-le_self, suc-mul, zero-mul}
use lib.ListN.{length, drop, length-append, length-drop}
use lib.Seq.{length-take-le, take_at, drop_at}
use lib.Dec.{eqb}
use Rattle.bigendian.specs.BigEndian.{u32_at}
use Rattle.lists.specs.Entries.{rows, rows_of}
use Rattle.lists.proofs.Rows.{rows_none, rows_next}
use Rattle.byte_writing.specs.Bytes.{be32, joined}
use Rattle.compact_entries.specs.Entries.{with_count, runs_from, compact_runs, same_deal, deals_from, compact_deals}

-- each has w bytes
abbrev pub Wide : ℕ → List (List ℕ) → Type 0
Wide w [] = Unit {0}
Wide w (e ∷ es) = (length e ≡ w) × Wide w es

pub joined_length : (w : ℕ) (es : List (List ℕ)) → Wide w es → length (joined es) ≡ length es * w
unfolding joined
joined_length w [] h = sym (zero-mul w)
joined_length w (e ∷ es) h = omega (arith, length-append e (joined es), h.0, joined_length w es h.1, suc-mul (length es) w)

rows_cut : (w n : ℕ) (t : List ℕ) → n * w ≤ length t → Wide w (rows w n t)
rows_cut w zero t h = tt
rows_cut w (suc n) t h =
    (length-take-le w t (omega (arith, suc-mul n w)), rows_cut w n (drop w t) (omega (arith, length-drop w t, suc-mul n w)))

pub rows_wide : (w : ℕ) (t : List ℕ) → Wide w (rows_of w t)
unfolding rows_of
rows_wide w t = rows_cut w (length t / w) t (div-mul-le_self (length t) w)

-- cut again, they are the same
pub rows_joined : (w : ℕ) → 0 < w → (es : List (List ℕ)) → Wide w es → rows_of w (joined es) ≡ es
unfolding joined
rows_joined w p [] h = rows_none w [] p
rows_joined w p (e ∷ es) h =
    rows_next w (e ++ joined es) p (omega (arith, length-append e (joined es), h.0))
    ∙ rw (take_at e (joined es) w h.0, drop_at e (joined es) w h.0) (ap (λ l. e ∷ l) (rows_joined w p es h.1))

-- ---- the entries that are kept have the width of those given

count_wide : (n : ℕ) (e : List ℕ) → length e ≡ 8 → length (with_count n e) ≡ 8
unfolding with_count be32
count_wide n e h = omega (arith, length-take-le 4 (drop 4 e) (omega (arith, length-drop 4 e)))

runs_from_wide : (n : ℕ) (e : List ℕ) (es : List (List ℕ)) → length e ≡ 8 → Wide 8 es → Wide 8 (runs_from n e es)
unfolding runs_from
runs_from_wide n e [] g h = (count_wide n e g, tt)
runs_from_wide n e (x ∷ xs) g h = go (eqb (u32_at e 4) (u32_at x 4)) (runs_from_wide (n + u32_at x 0) e xs g h.1) (runs_from_wide (u32_at x 0) x xs h.0 h.1)
  where
    go : (b : Bool) → Wide 8 (runs_from (n + u32_at x 0) e xs) → Wide 8 (runs_from (u32_at x 0) x xs) → Wide 8 (cond b (runs_from (n + u32_at x 0) e xs) (with_count n e ∷ runs_from (u32_at x 0) x xs))
    go true a b = a
    go false a b = (count_wide n e g, b)

pub runs_wide : (es : List (List ℕ)) → Wide 8 es → Wide 8 (compact_runs es)
unfolding compact_runs
runs_wide [] h = tt
runs_wide (e ∷ es) h = runs_from_wide (u32_at e 0) e es h.0 h.1

deals_from_wide : (e : List ℕ) (es : List (List ℕ)) → Wide 12 es → Wide 12 (deals_from e es)
unfolding deals_from
deals_from_wide e [] h = tt
deals_from_wide e (x ∷ xs) h = go (same_deal e x) (deals_from_wide e xs h.1) (deals_from_wide x xs h.1)
  where
    go : (b : Bool) → Wide 12 (deals_from e xs) → Wide 12 (deals_from x xs) → Wide 12 (cond b (deals_from e xs) (x ∷ deals_from x xs))
    go true a b = a
    go false a b = (h.0, b)

pub deals_wide : (es : List (List ℕ)) → Wide 12 es → Wide 12 (compact_deals es)
unfolding compact_deals
deals_wide [] h = tt
deals_wide (e ∷ es) h = (h.0, deals_from_wide e es h.1)
