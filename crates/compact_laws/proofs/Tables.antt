-- The body of an stbl: its tables written anew and the free atom are its atoms, and it is as long as it was.
-- Assumes nothing.
use Prim.Native.Nat.{ℕ, suc, ◌+◌, ◌-◌, ◌*◌, ◌≤◌, ◌<◌}
use mathlib.Core.Path.{◌≡◌, refl, sym, ap, ◌∙◌}
use mathlib.Core.Logic.{◌⊎◌, inl, inr, ⊎_elim}
use mathlib.Core.List.{List, [], ◌∷◌, ◌++◌, map, append_assoc, append-nil}
use mathlib.Core.Bool.{Bool, true, false, cond, ◌&&◌}
use native.Mathlib.Omega.{arith}
use native.Mathlib.Nat.{mul-le-mul_right, suc-mul, eq-or-lt_of_le}
use lib.ListN.{length, take, drop, replicate, length-append}
use lib.Seq.{take-append-le, take_at, drop_at, length-take-le}
use lib.Dec.{eqb, ltb, leb}
use borrow.Author.Tests.{eqb-true, eqb-false, ltb-false, le-ltb, le-leb}
use Rattle.bigendian.specs.BigEndian.{be_at, u32_at}
use Rattle.bigendian.proofs.Laws.{be_at_take}
use Rattle.lists.specs.Entries.{entries}
use Rattle.atoms.specs.Kinds.{stbl, stts, stsc}
use Rattle.atoms.specs.Pieces.{fitting, pieces_after}
use Rattle.atoms.specs.Atoms.{kind_of, size_inside, size_in, atoms, filled}
use Rattle.atoms.proofs.Laws.{size_le, atoms_none, atoms_next}
use Rattle.byte_writing.specs.Bytes.{be32, joined}
use Rattle.compact_entries.specs.Entries.{with_count, runs_from, compact_runs, same_deal, deals_from, compact_deals}
use Rattle.compact_tables.specs.Tables.{free, head_bytes, with_entries, free_atom, compact_table, compact_tables}
use Rattle.compact_tables.proofs.Tables.{table_length, free_none, free_some, free_length}
use Rattle.compact_entries.proofs.Widths.{Wide, joined_length, rows_wide, runs_wide, deals_wide}
use Rattle.compact_laws.proofs.Numbers.{read_written}
use Rattle.compact_laws.proofs.Rewritten.{Each, along, atoms_joined}

-- ---- atoms that tell their own length, one after the other

abbrev pub Whole : List ℕ → Type 0
Whole a = (8 ≤ length a) × (u32_at a 0 ≡ length a)

front : (n : ℕ) (a r : List ℕ) → n ≤ length a → be_at n (a ++ r) 0 ≡ be_at n a 0
front n a r h = sym (be_at_take n n (a ++ r) 0 (omega arith)) ∙ ap (λ x. be_at n x 0) (take-append-le n a r h) ∙ be_at_take n n a 0 (omega arith)

whole_size : (a r : List ℕ) → Whole a → length a ≡ size_in stbl (a ++ r)
unfolding size_in size_inside fitting
whole_size a r w =
    let l = length-append a r in
    rw (le-ltb (length (a ++ r)) 8 (omega (arith, w.0)), front 4 a r (omega (arith, w.0)), w.1, le-leb 8 (length a) w.0, le-leb (length a) (length (a ++ r)) (omega arith)) refl

pub whole_atoms : (l : List (List ℕ)) → Each Whole l → atoms stbl (joined l) ≡ l
unfolding joined pieces_after
whole_atoms [] h = refl
whole_atoms (a ∷ l) h =
    atoms_next stbl (a ++ joined l) (length a) (whole_size a (joined l) h.0) h.0.0
    ∙ rw (take_at a (joined l) (length a) refl, drop_at a (joined l) (length a) refl) (ap (λ x. a ∷ x) (whole_atoms l h.1))

-- ---- fewer entries

runs_from_few : (n : ℕ) (e : List ℕ) (es : List (List ℕ)) → length (runs_from n e es) ≤ suc (length es)
unfolding runs_from
runs_from_few n e [] = omega arith
runs_from_few n e (x ∷ xs) = go (eqb (u32_at e 4) (u32_at x 4)) (runs_from_few (n + u32_at x 0) e xs) (runs_from_few (u32_at x 0) x xs)
  where
    go : (b : Bool) → length (runs_from (n + u32_at x 0) e xs) ≤ suc (length xs) → length (runs_from (u32_at x 0) x xs) ≤ suc (length xs)
        → length (cond b (runs_from (n + u32_at x 0) e xs) (with_count n e ∷ runs_from (u32_at x 0) x xs)) ≤ suc (suc (length xs))
    go true f g = omega arith
    go false f g = omega arith

pub runs_few : (es : List (List ℕ)) → length (compact_runs es) ≤ length es
unfolding compact_runs
runs_few [] = omega arith
runs_few (e ∷ es) = runs_from_few (u32_at e 0) e es

deals_from_few : (e : List ℕ) (es : List (List ℕ)) → length (deals_from e es) ≤ length es
unfolding deals_from
deals_from_few e [] = omega arith
deals_from_few e (x ∷ xs) = go (same_deal e x) (deals_from_few e xs) (deals_from_few x xs)
  where
    go : (b : Bool) → length (deals_from e xs) ≤ length xs → length (deals_from x xs) ≤ length xs → length (cond b (deals_from e xs) (x ∷ deals_from x xs)) ≤ suc (length xs)
    go true f g = omega arith
    go false f g = omega arith

pub deals_few : (es : List (List ℕ)) → length (compact_deals es) ≤ length es
unfolding compact_deals
deals_few [] = omega arith
deals_few (e ∷ es) = omega (arith, deals_from_few e es)

-- ---- a table with its size

-- as long, or at least 8 bytes shorter
abbrev pub Gap : List ℕ → List ℕ → Type 0
Gap x y = (length x ≡ length y) ⊎ (8 + length x ≤ length y)

pub gap_short : (x y : List ℕ) → Gap x y → length x ≤ length y
gap_short x y = ⊎_elim (λ e. omega arith) (λ h. omega arith)

-- entries of w bytes, 8 at least, of which some are left out
below : (m n : ℕ) → m ≤ n → (m ≡ n → ⊥) → m < n
below m n h q = ⊎_elim (λ e. absurd (q e)) (λ l. l) (eq-or-lt_of_le h)

times : (w m n : ℕ) → m < n → m * w + w ≤ n * w
times w m n h = omega (arith, mul-le-mul_right w h, suc-mul m w)

entries_gap : (w : ℕ) (a : List ℕ) (es : List (List ℕ)) → 8 ≤ w → 16 ≤ length a → Wide w es → length es ≤ length (entries 16 w a)
    → length a ≡ 16 + length (entries 16 w a) * w → Gap (with_entries a es) a
entries_gap w a es g h k f e =
    let l = table_length a es h in
    let j = joined_length w es k in
    go (eqb (length es) (length (entries 16 w a))) refl l j
  where
    go : (b : Bool) → eqb (length es) (length (entries 16 w a)) ≡ b → length (with_entries a es) ≡ 16 + length (joined es) → length (joined es) ≡ length es * w → Gap (with_entries a es) a
    go true q l j = inl (l ∙ ap (λ (x : ℕ). 16 + x) (j ∙ ap (λ (x : ℕ). x * w) (eqb-true _ _ q)) ∙ sym e)
    go false q l j = inr (omega (arith, l, j, e, times w (length es) (length (entries 16 w a)) (below (length es) (length (entries 16 w a)) f (eqb-false _ _ q))))

-- what refusal 5 leaves of a table
pub record Tight (a : List ℕ) : Type 0 where
  pub low : length a < 4294967296
  pub runs : kind_of a ≡ stts → length a ≡ 16 + length (entries 16 8 a) * 8
  pub deals : kind_of a ≡ stsc → length a ≡ 16 + length (entries 16 12 a) * 12

wide_entries : (w : ℕ) (a : List ℕ) → Wide w (entries 16 w a)
unfolding entries
wide_entries w a = rows_wide w (drop 16 a)

-- a table written anew tells its own length
written_whole : (a : List ℕ) (es : List (List ℕ)) → 16 ≤ length a → length (with_entries a es) < 4294967296 → Whole (with_entries a es)
unfolding with_entries head_bytes
written_whole a es h b =
    let l = table_length a es h in
    let x = take 8 (drop 4 a) ++ be32 (length es) in (
      omega (arith, l),
      ap (λ y. u32_at y 0) (append_assoc (be32 (16 + length (joined es))) x (joined es)) ∙ read_written (16 + length (joined es)) (x ++ joined es) (omega (arith, l, b)) ∙ sym l,
    )

pub table_kept : (a : List ℕ) → Whole a → Tight a → Whole (compact_table a) × Gap (compact_table a) a
unfolding compact_table
table_kept a w t = go (ltb (length a) 16) (eqb (kind_of a) stts) (eqb (kind_of a) stsc) refl refl refl
  where
    made : (es : List (List ℕ)) → 16 ≤ length a → Gap (with_entries a es) a → Whole (with_entries a es) × Gap (with_entries a es) a
    made es h g = (written_whole a es h (omega (arith, gap_short (with_entries a es) a g, t.low)), g)

    go : (b c d : Bool) → ltb (length a) 16 ≡ b → eqb (kind_of a) stts ≡ c → eqb (kind_of a) stsc ≡ d
        → Whole (cond b a (cond c (with_entries a (compact_runs (entries 16 8 a))) (cond d (with_entries a (compact_deals (entries 16 12 a))) a)))
        × Gap (cond b a (cond c (with_entries a (compact_runs (entries 16 8 a))) (cond d (with_entries a (compact_deals (entries 16 12 a))) a))) a
    go true c d p q r = (w, inl refl)
    go false true d p q r =
        let h = ltb-false (length a) 16 p in
        made _ h (entries_gap 8 a _ (omega arith) h (runs_wide _ (wide_entries 8 a)) (runs_few (entries 16 8 a)) (t.runs (eqb-true _ _ q)))
    go false false true p q r =
        let h = ltb-false (length a) 16 p in
        made _ h (entries_gap 12 a _ (omega arith) h (deals_wide _ (wide_entries 12 a)) (deals_few (entries 16 12 a)) (t.deals (eqb-true _ _ r)))
    go false false false p q r = (w, inl refl)

-- ---- all tables of an stbl

pub all_kept : (l : List (List ℕ)) → Each Whole l → Each Tight l → Each Whole (map compact_table l) × Gap (joined (map compact_table l)) (joined l)
unfolding joined
all_kept [] w t = (tt, inl refl)
all_kept (a ∷ l) w t =
    let h = table_kept a w.0 t.0 in
    let r = all_kept l w.1 t.1 in (
      (h.0, r.0),
      ⊎_elim
          (λ e. ⊎_elim
          (λ f. inl (omega (arith, e, f, length-append (compact_table a) (joined (map compact_table l)), length-append a (joined l))))
          (λ f. inr (omega (arith, e, f, length-append (compact_table a) (joined (map compact_table l)), length-append a (joined l))))
          r.1)
          (λ e. inr (omega (arith, e, gap_short (joined (map compact_table l)) (joined l) r.1, length-append (compact_table a) (joined (map compact_table l)), length-append a (joined l))))
          h.1,
    )

-- ---- the atoms of an stbl tell their own length, and joined they are its body

inside_known : (s : List ℕ) (z : ℕ) → z ≡ size_in stbl s → 8 ≤ z → u32_at s 0 ≡ z
unfolding size_in size_inside fitting
inside_known s z e h = go (ltb (length s) 8) (leb 8 (u32_at s 0) && leb (u32_at s 0) (length s)) e
  where
    go : (b c : Bool) → z ≡ cond b 0 (cond c (u32_at s 0) 0) → u32_at s 0 ≡ z
    go true c e = absurd (omega arith)
    go false true e = sym e
    go false false e = absurd (omega arith)

pub atoms_whole : (s : List ℕ) → Each Whole (atoms stbl s)
atoms_whole = along stbl (λ s. Each Whole (atoms stbl s))
    (λ s z e h. rw (atoms_none stbl s z e h) tt)
    (λ s z e h r.
    let n : z ≤ length s = omega (arith, size_le stbl s) in
    let l = length-take-le z s n in
    rw (atoms_next stbl s z e h) ((omega (arith, l), be_at_take 4 z s 0 (omega arith) ∙ inside_known s z e h ∙ sym l), r))

-- what there is in place of the bytes freed
abbrev pub free_atoms : ℕ → List (List ℕ)
free_atoms n = cond (ltb n 8) ([]) (free_atom n ∷ [])

free_joined : (n : ℕ) → joined (free_atoms n) ≡ free_atom n
unfolding joined free_atom
free_joined n = go (ltb n 8)
  where
    go : (b : Bool) → joined (cond b [] (cond b [] (be32 n ++ (be32 free ++ replicate (n - 8) 0)) ∷ [])) ≡ cond b [] (be32 n ++ (be32 free ++ replicate (n - 8) 0))
    go true = refl
    go false = append-nil _

free_whole : (n : ℕ) → n < 4294967296 → Each Whole (free_atoms n)
free_whole n b = go (ltb n 8) refl
  where
    go : (c : Bool) → ltb n 8 ≡ c → Each Whole (cond c ([]) (free_atom n ∷ []))
    go true e = tt
    go false e =
        let h = ltb-false n 8 e in
        let l = free_length n h in
        ((omega (arith, l), ap (λ y. u32_at y 0) (free_some n h) ∙ read_written n (be32 free ++ replicate (n - 8) 0) b ∙ sym l), tt)

joined_append : (l m : List (List ℕ)) → joined (l ++ m) ≡ joined l ++ joined m
unfolding joined
joined_append [] m = refl
joined_append (a ∷ l) m = ap (λ x. a ++ x) (joined_append l m) ∙ sym (append_assoc a (joined l) (joined m))

each_append : (P : List ℕ → Type 0) (l m : List (List ℕ)) → Each P l → Each P m → Each P (l ++ m)
each_append P [] m h k = k
each_append P (a ∷ l) m h k = (h.0, each_append P l m h.1 k)

-- the bytes freed in the body of an stbl
unfoldable pub freed_in : List ℕ → ℕ
freed_in s = length s - length (joined (map compact_table (atoms stbl s)))

module _ (s : List ℕ) (f : filled stbl s ≡ true) (t : Each Tight (atoms stbl s)) (b : length s < 4294967296) where
  kept : Each Whole (map compact_table (atoms stbl s)) × Gap (joined (map compact_table (atoms stbl s))) (joined (atoms stbl s))
  kept = all_kept (atoms stbl s) (atoms_whole s) t

  pub tables_joined : compact_tables s ≡ joined (map compact_table (atoms stbl s) ++ free_atoms (freed_in s))
  unfolding compact_tables freed_in
  tables_joined = sym (joined_append (map compact_table (atoms stbl s)) (free_atoms (freed_in s)) ∙ ap (λ x. joined (map compact_table (atoms stbl s)) ++ x) (free_joined (freed_in s)))

  pub tables_atoms : atoms stbl (compact_tables s) ≡ map compact_table (atoms stbl s) ++ free_atoms (freed_in s)
  unfolding freed_in
  tables_atoms = ap (atoms stbl) tables_joined ∙ whole_atoms _ (each_append Whole (map compact_table (atoms stbl s)) (free_atoms (freed_in s)) kept.0 (free_whole (freed_in s) (omega arith)))

  pub tables_length : length (compact_tables s) ≡ length s
  unfolding compact_tables freed_in
  tables_length =
      let x = joined (map compact_table (atoms stbl s)) in
      let j = ap length (atoms_joined stbl s f) in
      let l = length-append x (free_atom (length s - length x)) in
      ⊎_elim
      (λ e. omega (arith, l, e, j, ap length (free_none (length s - length x) (omega (arith, e, j)))))
      (λ e. omega (arith, l, e, j, free_length (length s - length x) (omega (arith, e, j))))
      kept.1
