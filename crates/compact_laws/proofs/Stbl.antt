-- The tables of an stbl with its tables closed up, kind by kind.
-- Assumes nothing.
use Prim.Native.Nat.{ℕ, suc, ◌+◌, ◌-◌, ◌≤◌, ◌<◌}
use mathlib.Core.Path.{◌≡◌, refl, sym, ap, ◌∙◌}
use mathlib.Core.List.{List, [], ◌∷◌, ◌++◌, map, append_assoc, append-nil}
use mathlib.Core.Bool.{Bool, true, false, cond}
use native.Mathlib.Omega.{arith}
use lib.ListN.{length, take, drop, get_or, replicate, length-map, get_or-map}
use lib.Seq.{take-append-le, drop_at}
use lib.Dec.{eqb, ltb}
use borrow.Author.Tests.{eqb-true, ne_eqb, ltb-false}
use Rattle.bigendian.specs.BigEndian.{be_at}
use Rattle.bigendian.proofs.Laws.{be_at_take, be_at_drop}
use Rattle.lists.specs.Entries.{rows_of, entries}
use Rattle.atoms.specs.Kinds.{stbl, stts, stsc}
use Rattle.atoms.specs.Atoms.{kind_of, atoms, of_kind, count_in, child_in}
use Rattle.byte_writing.specs.Bytes.{be32, joined}
use Rattle.compact_entries.specs.Entries.{compact_runs, compact_deals}
use Rattle.compact_tables.specs.Tables.{free, head_bytes, with_entries, free_atom, compact_table}
use Rattle.compact_tree.specs.Tree.{compact_body}
use Rattle.byte_writing.proofs.Writing.{be32_length}
use Rattle.compact_tables.proofs.Tables.{flags_length, head_length, free_some}
use Rattle.compact_entries.proofs.Widths.{Wide, rows_joined}
use Rattle.compact_laws.proofs.Numbers.{read_written}
use Rattle.compact_laws.proofs.Tables.{free_atoms, freed_in}
use Rattle.compact_laws.proofs.Bodies.{Sound, stbl_atoms}

-- past a number that was written
pub past_number : (w n at : ℕ) (r : List ℕ) → be_at w (be32 n ++ r) (4 + at) ≡ be_at w r at
past_number w n at r = sym (be_at_drop w 4 (be32 n ++ r) at) ∙ ap (λ x. be_at w x at) (drop_at (be32 n) r 4 (be32_length n))

pub front_at : (w at : ℕ) (a r : List ℕ) → at + w ≤ length a → be_at w (a ++ r) at ≡ be_at w a at
front_at w at a r h =
    sym (be_at_take w (at + w) (a ++ r) at (omega arith)) ∙ ap (λ x. be_at w x at) (take-append-le (at + w) a r h) ∙ be_at_take w (at + w) a at (omega arith)

-- ---- a table written anew keeps its type, version and flags

module _ (a : List ℕ) (es : List (List ℕ)) (h : 16 ≤ length a) where
  pub written_flags : (w at : ℕ) → at + w ≤ 8 → be_at w (with_entries a es) (4 + at) ≡ be_at w a (4 + at)
  unfolding with_entries head_bytes
  written_flags w at g =
      let f = take 8 (drop 4 a) in
      let x = f ++ be32 (length es) in
      let l = flags_length a h in
      ap (λ y. be_at w y (4 + at)) (append_assoc (be32 (16 + length (joined es))) x (joined es))
      ∙ past_number w (16 + length (joined es)) at (x ++ joined es)
      ∙ ap (λ y. be_at w y at) (append_assoc f (be32 (length es)) (joined es))
      ∙ front_at w at f (be32 (length es) ++ joined es) (omega (arith, l))
      ∙ be_at_take w 8 (drop 4 a) at g
      ∙ be_at_drop w 4 a at

  -- its entries are those given
  pub written_entries : (w : ℕ) → 0 < w → Wide w es → entries 16 w (with_entries a es) ≡ es
  unfolding with_entries entries
  written_entries w p k = ap (rows_of w) (drop_at (head_bytes a (16 + length (joined es)) (length es)) (joined es) 16 (head_length a (16 + length (joined es)) (length es) h)) ∙ rows_joined w p es k

pub kind_table : (a : List ℕ) → kind_of (compact_table a) ≡ kind_of a
unfolding compact_table
kind_table a = go (ltb (length a) 16) (eqb (kind_of a) stts) (eqb (kind_of a) stsc) refl
  where
    go : (b c d : Bool) → ltb (length a) 16 ≡ b → kind_of (cond b a (cond c (with_entries a (compact_runs (entries 16 8 a))) (cond d (with_entries a (compact_deals (entries 16 12 a))) a))) ≡ kind_of a
    go true c d e = refl
    go false true d e = written_flags a _ (ltb-false _ _ e) 4 0 (omega arith)
    go false false true e = written_flags a _ (ltb-false _ _ e) 4 0 (omega arith)
    go false false false e = refl

-- ---- those of a kind

kinds_tables : (k : ℕ) (l : List (List ℕ)) → of_kind k (map compact_table l) ≡ map compact_table (of_kind k l)
unfolding of_kind
kinds_tables k [] = refl
kinds_tables k (a ∷ l) = rw (kind_table a) (go (eqb (kind_of a) k) (kinds_tables k l))
  where
    go : (b : Bool) → of_kind k (map compact_table l) ≡ map compact_table (of_kind k l)
        → cond b (compact_table a ∷ of_kind k (map compact_table l)) (of_kind k (map compact_table l)) ≡ map compact_table (cond b (a ∷ of_kind k l) (of_kind k l))
    go true ih = ap (λ x. compact_table a ∷ x) ih
    go false ih = ih

kinds_append : (k : ℕ) (l m : List (List ℕ)) → of_kind k (l ++ m) ≡ of_kind k l ++ of_kind k m
unfolding of_kind
kinds_append k [] m = refl
kinds_append k (a ∷ l) m = go (eqb (kind_of a) k) (kinds_append k l m)
  where
    go : (b : Bool) → of_kind k (l ++ m) ≡ of_kind k l ++ of_kind k m → cond b (a ∷ of_kind k (l ++ m)) (of_kind k (l ++ m)) ≡ cond b (a ∷ of_kind k l) (of_kind k l) ++ of_kind k m
    go true ih = ap (λ x. a ∷ x) ih
    go false ih = ih

pub kind_free : (n : ℕ) → 8 ≤ n → kind_of (free_atom n) ≡ free
kind_free n h =
    ap kind_of (free_some n h) ∙ past_number 4 n 0 (be32 free ++ replicate (n - 8) 0) ∙ read_written free (replicate (n - 8) 0) (omega arith)

no_free : (k n : ℕ) → (k ≡ free → ⊥) → of_kind k (free_atoms n) ≡ []
unfolding of_kind
no_free k n q = go (ltb n 8) refl
  where
    go : (b : Bool) → ltb n 8 ≡ b → of_kind k (cond b ([]) (free_atom n ∷ [])) ≡ []
    go true e = refl
    go false e = rw (kind_free n (ltb-false n 8 e), ne_eqb free k (λ r. q (sym r))) refl

-- every kind but the two is copied
pub other_table : (k : ℕ) (a : List ℕ) → kind_of a ≡ k → (k ≡ stts → ⊥) → (k ≡ stsc → ⊥) → compact_table a ≡ a
unfolding compact_table
other_table k a e f g = rw (e, ne_eqb k stts f, ne_eqb k stsc g) (go (ltb (length a) 16))
  where
    go : (b : Bool) → cond b a a ≡ a
    go true = refl
    go false = refl

kinds_other : (k : ℕ) → (k ≡ stts → ⊥) → (k ≡ stsc → ⊥) → (l : List (List ℕ)) → map compact_table (of_kind k l) ≡ of_kind k l
unfolding of_kind
kinds_other k f g [] = refl
kinds_other k f g (a ∷ l) = go (eqb (kind_of a) k) refl (kinds_other k f g l)
  where
    go : (b : Bool) → eqb (kind_of a) k ≡ b → map compact_table (of_kind k l) ≡ of_kind k l → map compact_table (cond b (a ∷ of_kind k l) (of_kind k l)) ≡ cond b (a ∷ of_kind k l) (of_kind k l)
    go true e ih = rw (other_table k a (eqb-true _ _ e) f g, ih) refl
    go false e ih = ih

module _ (wide : Bool) (n : ℕ) (s : List ℕ) (d : Sound wide (suc n) stbl s) where
  tables_kind : (k : ℕ) → (k ≡ free → ⊥) → of_kind k (atoms stbl (compact_body (suc n) stbl s)) ≡ map compact_table (of_kind k (atoms stbl s))
  tables_kind k q =
      ap (of_kind k) (stbl_atoms wide n s d) ∙ kinds_append k (map compact_table (atoms stbl s)) (free_atoms (freed_in s))
      ∙ ap (λ x. of_kind k (map compact_table (atoms stbl s)) ++ x) (no_free k (freed_in s) q) ∙ append-nil _ ∙ kinds_tables k (atoms stbl s)

  pub count_table : (k : ℕ) → (k ≡ free → ⊥) → count_in stbl k (compact_body (suc n) stbl s) ≡ count_in stbl k s
  count_table k q = ap length (tables_kind k q) ∙ length-map (of_kind k (atoms stbl s)) compact_table

  pub table_same : (k i : ℕ) → (k ≡ free → ⊥) → (k ≡ stts → ⊥) → (k ≡ stsc → ⊥) → child_in stbl k i (compact_body (suc n) stbl s) ≡ child_in stbl k i s
  table_same k i q f g = ap (λ l. get_or l i []) (tables_kind k q ∙ kinds_other k f g (atoms stbl s))

  pub table_compact : (k i : ℕ) → (k ≡ free → ⊥) → child_in stbl k i (compact_body (suc n) stbl s) ≡ compact_table (child_in stbl k i s)
  unfolding compact_table
  table_compact k i q =
      ap (λ l. get_or l i []) (tables_kind k q) ∙ get_or-map compact_table (of_kind k (atoms stbl s)) i []
