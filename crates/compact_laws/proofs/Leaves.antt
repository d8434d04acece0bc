-- Refusals 4 and 5: every read leaf has its version and its size.
-- Assumes nothing.
use Prim.Native.Nat.{ℕ, suc, ◌+◌, ◌*◌, ◌≤◌, ◌<◌}
use mathlib.Core.Path.{◌≡◌, refl, sym, ap, ◌∙◌}
use mathlib.Core.Logic.{◌⊎◌, inl, inr, ⊎_elim}
use mathlib.Core.List.{List, [], ◌∷◌, ◌++◌, map, append_assoc}
use mathlib.Core.Bool.{Bool, true, false, cond}
use native.Mathlib.Omega.{arith}
use native.Mathlib.Nat.{mul_comm, mul-one, mul-le-mul_left, zero-add}
use lib.ListN.{length, take, drop, get_or}
use lib.Dec.{eqb, ltb}
use borrow.Author.Tests.{eqb-true, eqb-false, eq-eqb, ltb-true, ltb-false}
use Rattle.bigendian.specs.BigEndian.{be_at, u32_at}
use Rattle.bigendian.proofs.Laws.{be_at_drop}
use lib.Seq.{drop_at}
use Rattle.lists.specs.Entries.{entries}
use Rattle.lists.proofs.Booleans.{and_left, and_right}
use Rattle.atoms.specs.Kinds.{moov, trak, edts, mdia, minf, dinf, stbl, stts, stsc, container}
use Rattle.atoms.specs.Atoms.{kind_of, header_of, atoms}
use Rattle.atoms.specs.Tree.{all, everywhere}
use Rattle.leaves.specs.declared.Form.TheVariants.{Skipped}
use Rattle.leaves.specs.Leaves.{LeafRule}
use Rattle.leaves.specs.Leaves.{Version, Size}
use Rattle.leaves.specs.Leaves.{form_of, skipped, version_ok, size_ok, holds_entries, leaf_ok, atom_ok, leaves_ok}
use Rattle.byte_writing.specs.Bytes.{be32, joined}
use Rattle.compact_entries.specs.Entries.{compact_runs, compact_deals}
use Rattle.compact_tables.specs.Tables.{free, head_bytes, with_entries, free_atom, compact_table}
use Rattle.compact_tree.specs.Tree.{compact_body}
use Rattle.compact_tree.proofs.Putting.{compact_atom}
use Rattle.compact_tables.proofs.Tables.{flags_length, table_length, table_short, table_runs, table_deals, table_other}
use Rattle.compact_entries.proofs.Widths.{Wide, joined_length, rows_wide, runs_wide, deals_wide}
use Rattle.compact_laws.proofs.Numbers.{read_written}
use Rattle.compact_laws.proofs.Rewritten.{Each}
use Rattle.compact_laws.proofs.Tables.{Tight, runs_few, deals_few, free_atoms, freed_in}
use Rattle.compact_laws.proofs.Bodies.{Headed, Sound, atoms_headed, body_atoms, stbl_atoms, tables_tight}
use Rattle.compact_laws.proofs.Children.{kind_kept, leaf_kept}
use Rattle.compact_laws.proofs.Stbl.{written_flags, kind_table, kind_free, past_number}
use Rattle.compact_laws.proofs.Everywhere.{everywhere_kept, both}

-- ---- a container is no read leaf

pick : (b x y : Bool) → cond b x y ≡ true → (b ≡ true) ⊎ (y ≡ true)
pick true x y e = inl refl
pick false x y e = inr e

never : ◌≡◌ {A = Bool} false true → ⊥
never e = let z : ◌≡◌ {A = ℕ} 0 1 = cc in omega arith

module _ (wide : Bool) (p : ℕ) where
  known : (k j : ℕ) → form_of wide p j ≡ Skipped → eqb k j ≡ true → form_of wide p k ≡ Skipped
  known k j f e = ap (form_of wide p) (eqb-true k j e) ∙ f

  pub container_skipped : (k : ℕ) → container p k ≡ true → form_of wide p k ≡ Skipped
  unfolding container form_of
  container_skipped k h =
      ⊎_elim (known k moov refl)
      (λ a. ⊎_elim (known k trak refl)
      (λ b. ⊎_elim (known k edts refl)
      (λ c. ⊎_elim (known k mdia refl)
      (λ d. ⊎_elim (known k minf refl)
      (λ e. ⊎_elim (known k stbl refl)
      (λ f. ⊎_elim (known k dinf refl) (λ g. absurd (never g)) (pick (eqb k dinf) _ _ f)) (pick (eqb k stbl) _ _ e))
      (pick (eqb k minf) _ _ d)) (pick (eqb k mdia) _ _ c)) (pick (eqb k edts) _ _ b)) (pick (eqb k trak) _ _ a)) (pick (eqb k moov) _ _ h)

pub skipped_ok : (rule : LeafRule) (a : List ℕ) → leaf_ok rule Skipped a ≡ true
unfolding leaf_ok version_ok skipped size_ok
skipped_ok Version a = refl
skipped_ok Size a = refl

module _ (rule : LeafRule) (wide : Bool) where
  atom-ok : (n p : ℕ) (a : List ℕ) → header_of a ≤ length a → atom_ok rule wide p a ≡ true → atom_ok rule wide p (compact_atom n p a) ≡ true
  atom-ok n p a h k = go (container p (kind_of a)) refl
    where
      go : (b : Bool) → container p (kind_of a) ≡ b → atom_ok rule wide p (compact_atom n p a) ≡ true
      go true e = ap (λ f. leaf_ok rule f (compact_atom n p a)) (ap (form_of wide p) (kind_kept n p a h) ∙ container_skipped wide p (kind_of a) e) ∙ skipped_ok rule _
      go false e = ap (atom_ok rule wide p) (leaf_kept n p a e) ∙ k

  all_ok : (n p : ℕ) (l : List (List ℕ)) → Each Headed l → all (atom_ok rule wide p) l ≡ true → all (atom_ok rule wide p) (map (compact_atom n p) l) ≡ true
  unfolding all
  all_ok n p [] h k = refl
  all_ok n p (a ∷ l) h k = both _ _ (atom-ok n p a h.0.0 (and_left _ _ k)) (all_ok n p l h.1 (and_right (atom_ok rule wide p a) _ k))

-- ---- a table written anew

-- its count
written_count : (a : List ℕ) (es : List (List ℕ)) → 16 ≤ length a → length es < 4294967296 → u32_at (with_entries a es) 12 ≡ length es
unfolding with_entries head_bytes
written_count a es h b =
    let f = take 8 (drop 4 a) in
    let x = f ++ be32 (length es) in
    ap (λ y. u32_at y 12) (append_assoc (be32 (16 + length (joined es))) x (joined es))
    ∙ past_number 4 (16 + length (joined es)) 8 (x ++ joined es)
    ∙ ap (λ y. u32_at y 8) (append_assoc f (be32 (length es)) (joined es))
    ∙ past_flags f (be32 (length es) ++ joined es) (flags_length a h)
    ∙ read_written (length es) (joined es) b
  where
    past_flags : (f r : List ℕ) → length f ≡ 8 → u32_at (f ++ r) 8 ≡ u32_at r 0
    past_flags f r l = sym (be_at_drop 4 8 (f ++ r) 0) ∙ ap (λ y. u32_at y 0) (drop_at f r 8 l)

-- its size
entries_ok : (w : ℕ) (a : List ℕ) (es : List (List ℕ)) → 16 ≤ length a → length es < 4294967296 → Wide w es → holds_entries 16 w (u32_at (with_entries a es) 12) (with_entries a es) ≡ true
unfolding holds_entries
entries_ok w a es h b k =
    rw (written_count a es h b)
    (eq-eqb _ _ (table_length a es h ∙ ap (λ (x : ℕ). 16 + x) (joined_length w es k ∙ mul_comm (length es) w)))

-- its version
one_byte : (s : List ℕ) → be_at 1 s 8 ≡ get_or s 8 0
unfolding be_at
one_byte s = zero-add (get_or s 8 0)

version_same : (a : List ℕ) (es : List (List ℕ)) → 16 ≤ length a → get_or (with_entries a es) 8 0 ≡ get_or a 8 0
version_same a es h = sym (one_byte (with_entries a es)) ∙ written_flags a es h 1 4 (omega arith) ∙ one_byte a

few_entries : (w : ℕ) (a : List ℕ) (es : List (List ℕ)) → 0 < w → length a < 4294967296 → length a ≡ 16 + length (entries 16 w a) * w → length es ≤ length (entries 16 w a) → length es < 4294967296
few_entries w a es p b e f = omega (arith, mul-le-mul_left (length (entries 16 w a)) p, mul-one (length (entries 16 w a)))

wide_entries : (w : ℕ) (a : List ℕ) → Wide w (entries 16 w a)
unfolding entries
wide_entries w a = rows_wide w (drop 16 a)

table_byte : (a : List ℕ) → get_or (compact_table a) 8 0 ≡ get_or a 8 0
unfolding compact_table
table_byte a = go (ltb (length a) 16) (eqb (kind_of a) stts) (eqb (kind_of a) stsc) refl
  where
    go : (b c d : Bool) → ltb (length a) 16 ≡ b → get_or (cond b a (cond c (with_entries a (compact_runs (entries 16 8 a))) (cond d (with_entries a (compact_deals (entries 16 12 a))) a))) 8 0 ≡ get_or a 8 0
    go true c d e = refl
    go false true d e = version_same a _ (ltb-false _ _ e)
    go false false true e = version_same a _ (ltb-false _ _ e)
    go false false false e = refl

runs_ok : (wide : Bool) (a : List ℕ) → 16 ≤ length a → length a < 4294967296 → length a ≡ 16 + length (entries 16 8 a) * 8 → leaf_ok Size (form_of wide stbl stts) (with_entries a (compact_runs (entries 16 8 a))) ≡ true
unfolding leaf_ok size_ok form_of
runs_ok wide a h b e = entries_ok 8 a _ h (few_entries 8 a (compact_runs (entries 16 8 a)) (omega arith) b e (runs_few (entries 16 8 a))) (runs_wide _ (wide_entries 8 a))

deals_ok : (wide : Bool) (a : List ℕ) → 16 ≤ length a → length a < 4294967296 → length a ≡ 16 + length (entries 16 12 a) * 12 → leaf_ok Size (form_of wide stbl stsc) (with_entries a (compact_deals (entries 16 12 a))) ≡ true
unfolding leaf_ok size_ok form_of
deals_ok wide a h b e = entries_ok 12 a _ h (few_entries 12 a (compact_deals (entries 16 12 a)) (omega arith) b e (deals_few (entries 16 12 a))) (deals_wide _ (wide_entries 12 a))

free_skipped : (rule : LeafRule) (wide : Bool) (a : List ℕ) → leaf_ok rule (form_of wide stbl free) a ≡ true
unfolding form_of
free_skipped rule wide a = skipped_ok rule a

module _ (wide : Bool) (a : List ℕ) (t : Tight a) where
  version-ok : atom_ok Version wide stbl a ≡ true → atom_ok Version wide stbl (compact_table a) ≡ true
  unfolding leaf_ok version_ok
  version-ok k = ap (λ (j : ℕ). cond (skipped (form_of wide stbl j)) true (eqb (get_or (compact_table a) 8 0) 0)) (kind_table a) ∙ ap (λ (x : ℕ). cond (skipped (form_of wide stbl (kind_of a))) true (eqb x 0)) byte ∙ k
    where
      byte : get_or (compact_table a) 8 0 ≡ get_or a 8 0
      byte = table_byte a

  size-ok : atom_ok Size wide stbl a ≡ true → atom_ok Size wide stbl (compact_table a) ≡ true
  size-ok k = ap (λ (j : ℕ). leaf_ok Size (form_of wide stbl j) (compact_table a)) (kind_table a) ∙ go (ltb (length a) 16) (eqb (kind_of a) stts) (eqb (kind_of a) stsc) refl refl refl
    where
      go : (b c d : Bool) → ltb (length a) 16 ≡ b → eqb (kind_of a) stts ≡ c → eqb (kind_of a) stsc ≡ d → leaf_ok Size (form_of wide stbl (kind_of a)) (compact_table a) ≡ true
      go true c d p q r = ap (leaf_ok Size (form_of wide stbl (kind_of a))) (table_short a (ltb-true _ _ p)) ∙ k
      go false true d p q r =
          let h = ltb-false _ _ p in
          let e = eqb-true _ _ q in
          ap (leaf_ok Size (form_of wide stbl (kind_of a))) (table_runs a h (kind_of a) refl e) ∙ ap (λ (j : ℕ). leaf_ok Size (form_of wide stbl j) (with_entries a (compact_runs (entries 16 8 a)))) e
          ∙ runs_ok wide a h t.low (t.runs e)
      go false false true p q r =
          let h = ltb-false _ _ p in
          let e = eqb-true _ _ r in
          ap (leaf_ok Size (form_of wide stbl (kind_of a))) (table_deals a h (kind_of a) refl (eqb-false _ _ q) e) ∙ ap (λ (j : ℕ). leaf_ok Size (form_of wide stbl j) (with_entries a (compact_deals (entries 16 12 a)))) e
          ∙ deals_ok wide a h t.low (t.deals e)
      go false false false p q r = ap (leaf_ok Size (form_of wide stbl (kind_of a))) (table_other a (ltb-false _ _ p) (kind_of a) refl (eqb-false _ _ q) (eqb-false _ _ r)) ∙ k

  table_ok : (rule : LeafRule) → atom_ok rule wide stbl a ≡ true → atom_ok rule wide stbl (compact_table a) ≡ true
  table_ok Version k = version-ok k
  table_ok Size k = size-ok k

tables_ok : (rule : LeafRule) (wide : Bool) (l : List (List ℕ)) → Each Tight l → all (atom_ok rule wide stbl) l ≡ true → all (atom_ok rule wide stbl) (map compact_table l) ≡ true
unfolding all
tables_ok rule wide [] t k = refl
tables_ok rule wide (a ∷ l) t k = both _ _ (table_ok wide a t.0 rule (and_left _ _ k)) (tables_ok rule wide l t.1 (and_right (atom_ok rule wide stbl a) _ k))

free_ok : (rule : LeafRule) (wide : Bool) (n : ℕ) → all (atom_ok rule wide stbl) (free_atoms n) ≡ true
unfolding all
free_ok rule wide n = go (ltb n 8) refl
  where
    go : (b : Bool) → ltb n 8 ≡ b → all (atom_ok rule wide stbl) (cond b ([]) (free_atom n ∷ [])) ≡ true
    go true e = refl
    go false e = both _ true (ap (λ (j : ℕ). leaf_ok rule (form_of wide stbl j) (free_atom n)) (kind_free n (ltb-false n 8 e)) ∙ free_skipped rule wide (free_atom n)) refl

all_append : (f : List ℕ → Bool) (l m : List (List ℕ)) → all f l ≡ true → all f m ≡ true → all f (l ++ m) ≡ true
unfolding all
all_append f [] m h k = k
all_append f (a ∷ l) m h k = both (f a) (all f (l ++ m)) (and_left (f a) (all f l) h) (all_append f l m (and_right (f a) (all f l) h) k)

leaves_here : (rule : LeafRule) (wide : Bool) (n p : ℕ) (s : List ℕ) → Sound wide (suc n) p s → leaves_ok rule wide p s ≡ true → leaves_ok rule wide p (compact_body (suc n) p s) ≡ true
leaves_here rule wide n p s d k = go (eqb p stbl) refl
  where
    go : (b : Bool) → eqb p stbl ≡ b → leaves_ok rule wide p (compact_body (suc n) p s) ≡ true
    go true e =
        let q = eqb-true p stbl e in
        let d' : Sound wide (suc n) stbl s = rw q at d in
        rw q (ap (all (atom_ok rule wide stbl)) (stbl_atoms wide n s d')
        ∙ all_append (atom_ok rule wide stbl) (map compact_table (atoms stbl s)) (free_atoms (freed_in s)) (tables_ok rule wide (atoms stbl s) (tables_tight wide n s d') (rw q at k)) (free_ok rule wide (freed_in s)))
    go false e = ap (all (atom_ok rule wide p)) (body_atoms wide n p s d e) ∙ all_ok rule wide n p (atoms p s) (atoms_headed p s d.low) k

pub leaves_kept : (rule : LeafRule) (wide : Bool) (n p : ℕ) (s : List ℕ) → Sound wide n p s → everywhere (leaves_ok rule wide) n p s ≡ true → everywhere (leaves_ok rule wide) n p (compact_body n p s) ≡ true
leaves_kept rule wide n p s d h = everywhere_kept wide (leaves_ok rule wide) (leaves_here rule wide) n p s d h
