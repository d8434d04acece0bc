-- "closing up twice is closing up once".
-- Assumes nothing.
use Prim.Native.Nat.{ℕ, zero, suc, ◌+◌, ◌-◌, ◌*◌, ◌/◌, ◌%◌, ◌≤◌, ◌<◌}
use mathlib.Core.Path.{◌≡◌, refl, sym, ap, ◌∙◌}
use mathlib.Core.List.{List, [], ◌∷◌, ◌++◌, map, append_assoc, append-nil}
use mathlib.Core.Bool.{Bool, true, false, cond}
use native.Mathlib.Omega.{arith}
use native.Mathlib.Nat.{div-div-eq-div-mul, zero-add}
use lib.ListN.{length, take, drop, length-drop}
use lib.Seq.{take_at, drop_at, take_all, length-take-le}
use lib.Arith.{digits_div, digits_mod}
use lib.Dec.{eqb, ltb}
use borrow.Author.Tests.{eqb-true, eqb-false, ltb-false, ltb-true}
use Rattle.bigendian.specs.BigEndian.{be_at, u32_at}
use Rattle.bigendian.proofs.Laws.{be_at_take, be_at_drop}
use Rattle.lists.specs.Entries.{entries}
use Rattle.lists.proofs.Booleans.{and_left, and_right}
use Rattle.atoms.specs.Kinds.{stbl, stts, stsc, container}
use Rattle.atoms.specs.Atoms.{kind_of, header_of, body_of, atoms, filled}
use Rattle.atoms.specs.Tree.{all, everywhere}
use Rattle.atoms.proofs.Laws.{below}
use Rattle.leaves.specs.Leaves.{Size}
use Rattle.leaves.specs.Leaves.{leaves_ok}
use Rattle.byte_writing.specs.Bytes.{be32, joined}
use Rattle.compact_entries.specs.Entries.{with_count, runs_from, compact_runs, same_deal, deals_from, compact_deals}
use Rattle.compact_tables.specs.Tables.{free, head_bytes, with_entries, free_atom, compact_table, compact_tables}
use Rattle.compact_tree.specs.Tree.{compact_body}
use Rattle.byte_writing.proofs.Writing.{be32_length}
use Rattle.compact_tables.proofs.Tables.{flags_length, table_length, table_short, table_runs, table_deals, table_other, free_none}
use Rattle.compact_tree.proofs.Putting.{compact_atom}
use Rattle.compact_entries.proofs.Widths.{Wide, rows_wide, runs_wide, deals_wide}
use Rattle.compact_laws.proofs.Stbl.{past_number, written_flags, written_entries, kind_free, other_table}
use Rattle.compact_laws.proofs.Rewritten.{Each}
use Rattle.compact_laws.proofs.Tables.{Tight, free_atoms, freed_in, tables_joined, tables_atoms}
use Rattle.compact_laws.proofs.Bodies.{Headed, Sound, atoms_headed, body_atoms, tables_tight}
use Rattle.compact_laws.proofs.Children.{leaf_kept, joined_atom, taken}
use Rattle.compact_laws.proofs.Everywhere.{shorter}

-- ---- a number read from four bytes and written again

four : (a b c d : ℕ) → a < 256 → b < 256 → c < 256 → d < 256 → be32 (((a * 256 + b) * 256 + c) * 256 + d) ≡ a ∷ b ∷ c ∷ d ∷ []
unfolding be32
four a b c d ha hb hc hd =
    let m = ((a * 256 + b) * 256 + c) * 256 + d in
    let e1 : m / 256 ≡ (a * 256 + b) * 256 + c = digits_div ((a * 256 + b) * 256 + c) hd in
    let e2 : m / 65536 ≡ a * 256 + b = sym (div-div-eq-div-mul m 256 256) ∙ ap (λ (x : ℕ). x / 256) e1 ∙ digits_div (a * 256 + b) hc in
    let e3 : m / 16777216 ≡ a = sym (div-div-eq-div-mul m 65536 256) ∙ ap (λ (x : ℕ). x / 256) e2 ∙ digits_div a hb in
    let f0 : m % 256 ≡ d = digits_mod ((a * 256 + b) * 256 + c) hd in
    let f1 : m / 256 % 256 ≡ c = ap (λ (x : ℕ). x % 256) e1 ∙ digits_mod (a * 256 + b) hc in
    let f2 : m / 65536 % 256 ≡ b = ap (λ (x : ℕ). x % 256) e2 ∙ digits_mod a hb in
    let f3 : m / 16777216 % 256 ≡ a = ap (λ (x : ℕ). x % 256) e3 ∙ small a ha in
    rw (f0, f1, f2, f3) refl
  where
    small : (a : ℕ) → a < 256 → a % 256 ≡ a
    small a h = omega arith

reads : (n : ℕ) (r : List ℕ) → u32_at (be32 n ++ r) 0 ≡ ((n / 16777216 % 256 * 256 + n / 65536 % 256) * 256 + n / 256 % 256) * 256 + n % 256
unfolding be32 be_at
reads n r = rw (zero-add) refl

bytes : (n : ℕ) → be32 n ≡ n / 16777216 % 256 ∷ n / 65536 % 256 ∷ n / 256 % 256 ∷ n % 256 ∷ []
unfolding be32
bytes n = refl

low : (x : ℕ) → x % 256 < 256
low x = omega arith

pub again : (n : ℕ) (r : List ℕ) → be32 (u32_at (be32 n ++ r) 0) ≡ be32 n
again n r = ap be32 (reads n r) ∙ four _ _ _ _ (low (n / 16777216)) (low (n / 65536)) (low (n / 256)) (low n) ∙ sym (bytes n)

-- ---- rows of stts

module _ (n : ℕ) (e : List ℕ) (h : length e ≡ 8) where
  value_length : length (take 4 (drop 4 e)) ≡ 4
  value_length = length-take-le 4 (drop 4 e) (omega (arith, length-drop 4 e))

  settled : with_count (u32_at (with_count n e) 0) (with_count n e) ≡ with_count n e
  unfolding with_count
  settled =
      let v = take 4 (drop 4 e) in
      rw (again n v, drop_at (be32 n) v 4 (be32_length n), take_all 4 v (omega (arith, value_length))) refl

  value_same : u32_at (with_count n e) 4 ≡ u32_at e 4
  unfolding with_count
  value_same = past_number 4 n 0 (take 4 (drop 4 e)) ∙ be_at_take 4 4 (drop 4 e) 0 (omega arith) ∙ be_at_drop 4 4 e 0

abbrev Settled : List ℕ → Type 0
Settled e = with_count (u32_at e 0) e ≡ e

-- rows that stay: each settled, and no two neighbours of one duration
abbrev Stay : List ℕ → List (List ℕ) → Type 0
Stay e [] = Settled e
Stay e (x ∷ xs) = Settled e × (eqb (u32_at e 4) (u32_at x 4) ≡ false) × Stay x xs

stay_kept : (e : List ℕ) (es : List (List ℕ)) → Stay e es → runs_from (u32_at e 0) e es ≡ e ∷ es
unfolding runs_from
stay_kept e [] h = ap (λ x. x ∷ []) h
stay_kept e (x ∷ xs) h = rw (h.1, h.0) (ap (λ l. e ∷ l) (stay_kept x xs h.2))

pub record Made (v : ℕ) (l : List (List ℕ)) : Type 0 where
  pub front : List ℕ
  pub rest : List (List ℕ)
  pub is : l ≡ front ∷ rest
  pub value : u32_at front 4 ≡ v
  pub stay : Stay front rest

made : (n : ℕ) (e : List ℕ) (es : List (List ℕ)) → length e ≡ 8 → Wide 8 es → Made (u32_at e 4) (runs_from n e es)
unfolding runs_from
made n e [] h k = record { front = with_count n e; rest = []; is = refl; value = value_same n e h; stay = settled n e h }
made n e (x ∷ xs) h k = go (eqb (u32_at e 4) (u32_at x 4)) refl (made (n + u32_at x 0) e xs h k.1) (made (u32_at x 0) x xs k.0 k.1)
  where
    go : (b : Bool) → eqb (u32_at e 4) (u32_at x 4) ≡ b → Made (u32_at e 4) (runs_from (n + u32_at x 0) e xs) → Made (u32_at x 4) (runs_from (u32_at x 0) x xs)
        → Made (u32_at e 4) (cond b (runs_from (n + u32_at x 0) e xs) (with_count n e ∷ runs_from (u32_at x 0) x xs))
    go true q f g = f
    go false q f g = record {
      front = with_count n e;
      rest = g.front ∷ g.rest;
      is = ap (λ l. with_count n e ∷ l) g.is;
      value = value_same n e h;
      stay = (settled n e h, rw (value_same n e h, g.value) q, g.stay);
    }

pub runs_twice : (es : List (List ℕ)) → Wide 8 es → compact_runs (compact_runs es) ≡ compact_runs es
unfolding compact_runs
runs_twice [] h = refl
runs_twice (e ∷ es) h = let m = made (u32_at e 0) e es h.0 h.1 in ap compact_runs m.is ∙ stay_kept m.front m.rest m.stay ∙ sym m.is

-- ---- rows of stsc

abbrev Unlike : List ℕ → List (List ℕ) → Type 0
Unlike e [] = Unit {0}
Unlike e (x ∷ xs) = (same_deal e x ≡ false) × Unlike x xs

unlike_kept : (e : List ℕ) (es : List (List ℕ)) → Unlike e es → deals_from e es ≡ es
unfolding deals_from
unlike_kept e [] h = refl
unlike_kept e (x ∷ xs) h = rw h.0 (ap (λ l. x ∷ l) (unlike_kept x xs h.1))

unlike_made : (e : List ℕ) (es : List (List ℕ)) → Unlike e (deals_from e es)
unfolding deals_from
unlike_made e [] = tt
unlike_made e (x ∷ xs) = go (same_deal e x) refl (unlike_made e xs) (unlike_made x xs)
  where
    go : (b : Bool) → same_deal e x ≡ b → Unlike e (deals_from e xs) → Unlike x (deals_from x xs) → Unlike e (cond b (deals_from e xs) (x ∷ deals_from x xs))
    go true q f g = f
    go false q f g = (q, g)

pub deals_twice : (es : List (List ℕ)) → compact_deals (compact_deals es) ≡ compact_deals es
unfolding compact_deals
deals_twice [] = refl
deals_twice (e ∷ es) = ap (λ l. e ∷ l) (unlike_kept e (deals_from e es) (unlike_made e es))

-- ---- a table

wide_entries : (w : ℕ) (a : List ℕ) → Wide w (entries 16 w a)
unfolding entries
wide_entries w a = rows_wide w (drop 16 a)

-- written with the same entries again
flags_kept : (a : List ℕ) (es : List (List ℕ)) → 16 ≤ length a → take 8 (drop 4 (with_entries a es)) ≡ take 8 (drop 4 a)
unfolding with_entries head_bytes
flags_kept a es h =
    let f = take 8 (drop 4 a) in
    let x = f ++ be32 (length es) in
    let n = be32 (16 + length (joined es)) in
    ap (λ y. take 8 (drop 4 y)) (append_assoc n x (joined es))
    ∙ ap (take 8) (drop_at n (x ++ joined es) 4 (be32_length (16 + length (joined es))))
    ∙ ap (take 8) (append_assoc f (be32 (length es)) (joined es))
    ∙ take_at f (be32 (length es) ++ joined es) 8 (flags_length a h)

head_by : (a b : List ℕ) (size count : ℕ) → take 8 (drop 4 b) ≡ take 8 (drop 4 a) → head_bytes b size count ≡ head_bytes a size count
unfolding head_bytes
head_by a b size count e = rw e refl

same_entries : (a b : List ℕ) (es : List (List ℕ)) → take 8 (drop 4 b) ≡ take 8 (drop 4 a) → with_entries b es ≡ with_entries a es
unfolding with_entries
same_entries a b es e = ap (λ x. x ++ joined es) (head_by a b (16 + length (joined es)) (length es) e)

module _ (a : List ℕ) (h : 16 ≤ length a) where
  runs_again : kind_of a ≡ stts → compact_table (with_entries a (compact_runs (entries 16 8 a))) ≡ with_entries a (compact_runs (entries 16 8 a))
  runs_again k =
      let es = compact_runs (entries 16 8 a) in
      let x = with_entries a es in
      let l = table_length a es h in
      table_runs x (omega (arith, l)) stts (sym (written_flags a es h 4 0 (omega arith) ∙ k)) refl
      ∙ ap (λ r. with_entries x (compact_runs r)) (written_entries a es h 8 (omega arith) (runs_wide _ (wide_entries 8 a)))
      ∙ ap (with_entries x) (runs_twice (entries 16 8 a) (wide_entries 8 a))
      ∙ same_entries a x es (flags_kept a es h)

  deals_again : kind_of a ≡ stsc → compact_table (with_entries a (compact_deals (entries 16 12 a))) ≡ with_entries a (compact_deals (entries 16 12 a))
  deals_again k =
      let es = compact_deals (entries 16 12 a) in
      let x = with_entries a es in
      let l = table_length a es h in
      table_deals x (omega (arith, l)) stsc (sym (written_flags a es h 4 0 (omega arith) ∙ k)) (λ e. omega arith) refl
      ∙ ap (λ r. with_entries x (compact_deals r)) (written_entries a es h 12 (omega arith) (deals_wide _ (wide_entries 12 a)))
      ∙ ap (with_entries x) (deals_twice (entries 16 12 a))
      ∙ same_entries a x es (flags_kept a es h)

pub table_twice : (a : List ℕ) → compact_table (compact_table a) ≡ compact_table a
table_twice a = go (ltb (length a) 16) (eqb (kind_of a) stts) (eqb (kind_of a) stsc) refl refl refl
  where
    by : (x : List ℕ) → compact_table a ≡ x → compact_table x ≡ x → compact_table (compact_table a) ≡ compact_table a
    by x e f = ap compact_table e ∙ f ∙ sym e

    go : (b c d : Bool) → ltb (length a) 16 ≡ b → eqb (kind_of a) stts ≡ c → eqb (kind_of a) stsc ≡ d → compact_table (compact_table a) ≡ compact_table a
    go true c d p q r = let e = table_short a (ltb-true _ _ p) in by a e e
    go false true d p q r = let h = ltb-false _ _ p in let k = eqb-true _ _ q in by _ (table_runs a h (kind_of a) refl k) (runs_again a h k)
    go false false true p q r = let h = ltb-false _ _ p in let k = eqb-true _ _ r in by _ (table_deals a h (kind_of a) refl (eqb-false _ _ q) k) (deals_again a h k)
    go false false false p q r = let e = table_other a (ltb-false _ _ p) (kind_of a) refl (eqb-false _ _ q) (eqb-false _ _ r) in by a e e

all_twice : (l : List (List ℕ)) → map compact_table (map compact_table l) ≡ map compact_table l
all_twice [] = refl
all_twice (a ∷ l) = rw (table_twice a, all_twice l) refl

-- a free atom is copied
free_twice : (n : ℕ) → map compact_table (free_atoms n) ≡ free_atoms n
free_twice n = go (ltb n 8) refl
  where
    go : (b : Bool) → ltb n 8 ≡ b → map compact_table (cond b ([]) (free_atom n ∷ [])) ≡ cond b ([]) (free_atom n ∷ [])
    go true e = refl
    go false e = ap (λ x. x ∷ []) (other_table free (free_atom n) (kind_free n (ltb-false n 8 e)) (λ z. omega arith) (λ z. omega arith))

map-append : (l m : List (List ℕ)) → map compact_table (l ++ m) ≡ map compact_table l ++ map compact_table m
map-append [] m = refl
map-append (a ∷ l) m = ap (λ x. compact_table a ∷ x) (map-append l m)

opened : (s : List ℕ) → compact_tables s ≡ joined (map compact_table (atoms stbl s)) ++ free_atom (length s - length (joined (map compact_table (atoms stbl s))))
unfolding compact_tables
opened s = refl

opened_stbl : (n : ℕ) (s : List ℕ) → compact_body (suc n) stbl s ≡ compact_tables s
unfolding compact_body
opened_stbl n s = refl

opened_other : (n p : ℕ) (s : List ℕ) → eqb p stbl ≡ false → compact_body (suc n) p s ≡ joined (map (compact_atom n p) (atoms p s))
unfolding compact_body
opened_other n p s e = rw e

-- ---- the body of an stbl

module _ (s : List ℕ) (f : filled stbl s ≡ true) (t : Each Tight (atoms stbl s)) (b : length s < 4294967296) where
  tables_again : joined (map compact_table (atoms stbl (compact_tables s))) ≡ compact_tables s
  tables_again =
      let l = map compact_table (atoms stbl s) in
      let m = free_atoms (freed_in s) in
      ap (λ x. joined (map compact_table x)) (tables_atoms s f t b)
      ∙ ap joined (map-append l m ∙ ap (λ x. x ++ map compact_table m) (all_twice (atoms stbl s)) ∙ ap (λ x. l ++ x) (free_twice (freed_in s)))
      ∙ sym (tables_joined s f t b)

  pub tables_twice : compact_tables (compact_tables s) ≡ compact_tables s
  tables_twice =
      let x = joined (map compact_table (atoms stbl (compact_tables s))) in
      let z : length (compact_tables s) - length x ≡ 0 = omega (arith, ap length tables_again) in
      opened (compact_tables s) ∙ ap (λ (n : ℕ). x ++ free_atom n) z ∙ ap (λ y. x ++ y) (free_none 0 (omega arith)) ∙ append-nil x ∙ tables_again

-- ---- every body

module _ (wide : Bool) where
  abbrev At : ℕ → Type 0
  At n = (p : ℕ) (s : List ℕ) → Sound wide n p s → compact_body n p (compact_body n p s) ≡ compact_body n p s

  atom_twice : (n p : ℕ) → At n → (a : List ℕ) → Headed a → below filled n p a ≡ true → below (leaves_ok Size wide) n p a ≡ true → compact_atom n p (compact_atom n p a) ≡ compact_atom n p a
  atom_twice n p ih a h f z = go (container p (kind_of a)) refl f z
    where
      go : (b : Bool) → container p (kind_of a) ≡ b → cond b (everywhere filled n (kind_of a) (body_of a)) true ≡ true → cond b (everywhere (leaves_ok Size wide) n (kind_of a) (body_of a)) true ≡ true
          → compact_atom n p (compact_atom n p a) ≡ compact_atom n p a
      go false e f z = let q = leaf_kept n p a e in ap (compact_atom n p) q ∙ q ∙ sym q
      go true e f z =
          let x = take (header_of a) a in
          let k = kind_of a in
          let y = compact_body n k (body_of a) in
          let g : compact_atom n p a ≡ x ++ y = taken n p a e in
          let q : At n = ih in
          let d : Sound wide n k (body_of a) = record { fills = f; sizes = z; low = shorter a h.1 } in
          ap (compact_atom n p) g
          ∙ joined_atom n p a y h.0 e
          ∙ ap (λ r. x ++ r) (q k (body_of a) d)
          ∙ sym g

  all_atoms : (n p : ℕ) → At n → (l : List (List ℕ)) → Each Headed l → all (below filled n p) l ≡ true → all (below (leaves_ok Size wide) n p) l ≡ true
      → map (compact_atom n p) (map (compact_atom n p) l) ≡ map (compact_atom n p) l
  unfolding all
  all_atoms n p ih [] h f z = refl
  all_atoms n p ih (a ∷ l) h f z =
      ap (λ x. x ∷ map (compact_atom n p) (map (compact_atom n p) l)) (atom_twice n p ih a h.0 (and_left _ _ f) (and_left _ _ z))
      ∙ ap (λ x. compact_atom n p a ∷ x) (all_atoms n p ih l h.1 (and_right (below filled n p a) _ f) (and_right (below (leaves_ok Size wide) n p a) _ z))

  twice_next : (n : ℕ) → At n → At (suc n)
  unfolding everywhere
  twice_next n ih p s d = go (eqb p stbl) refl
    where
      go : (b : Bool) → eqb p stbl ≡ b → compact_body (suc n) p (compact_body (suc n) p s) ≡ compact_body (suc n) p s
      go true e =
          let q = eqb-true p stbl e in
          let d' : Sound wide (suc n) stbl s = rw q at d in
          rw q (ap (compact_body (suc n) stbl) (opened_stbl n s) ∙ opened_stbl n (compact_tables s) ∙ tables_twice s (and_left _ _ d'.fills) (tables_tight wide n s d') d'.low ∙ sym (opened_stbl n s))
      go false e =
          opened_other n p (compact_body (suc n) p s) e
          ∙ ap (λ l. joined (map (compact_atom n p) l)) (body_atoms wide n p s d e)
          ∙ ap joined (all_atoms n p ih (atoms p s) (atoms_headed p s d.low) (and_right (filled p s) _ d.fills) (and_right (leaves_ok Size wide p s) _ d.sizes))
          ∙ sym (opened_other n p s e)

  pub body_twice : (n : ℕ) → At n
  unfolding compact_body
  body_twice zero p s d = refl
  body_twice (suc n) p s d = twice_next n (body_twice n) p s d
