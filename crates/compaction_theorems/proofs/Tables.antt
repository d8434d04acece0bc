-- The tables of a track in the compact film: no shorter ones say the same, and what is freed is a multiple of four bytes.
-- Assumes nothing.
use Prim.Native.Nat.{ℕ, ◌+◌, ◌-◌, ◌*◌, ◌≤◌}
use mathlib.Core.Path.{◌≡◌, refl, sym, ap, ◌∙◌}
use mathlib.Core.Logic.{◌⊎◌, inl, inr, ⊎_elim}
use mathlib.Core.List.{List, [], ◌∷◌, ◌++◌, map}
use mathlib.Core.Bool.{Bool, true, false, cond, not}
use native.Mathlib.Omega.{arith}
use lib.ListN.{length, drop, length-append}
use lib.Dec.{eqb, ltb}
use borrow.Author.Tests.{eqb-true, eq-eqb, ne_eqb, lt-ltb, le-ltb, ltb-false}
use Rattle.lists.proofs.Booleans.{or_left}
use Rattle.lists.specs.Entries.{entries}
use Rattle.atoms.specs.Kinds.{stbl, stts, stsc}
use Rattle.atoms.specs.Atoms.{kind_of, atoms, filled}
use Rattle.atoms.proofs.Into.{everywhere_here}
use Rattle.structure.specs.Track.{table_of, chunks_of, descriptions_of}
use Rattle.runs.specs.Runs.{runs_of, per_sample}
use Rattle.chunks.specs.Chunks.{Deal, deals, per_chunk, description_ids}
use Rattle.chunks.specs.Computed.{dealing}
use Rattle.chunks.proofs.Clauses.{dealing_cons, agreed, agree_clauses}
use Rattle.track.specs.Refusals.{miscounted}
use Rattle.byte_writing.specs.Bytes.{joined}
use Rattle.compact_entries.specs.Entries.{compact_runs, compact_deals}
use Rattle.compact_entries.proofs.Widths.{joined_length, rows_wide, runs_wide, deals_wide}
use Rattle.compact_tables.specs.Tables.{free_atom, with_entries, compact_table, tables_of}
use Rattle.compact_tables.proofs.Tables.{table_length}
use Rattle.compact_tree.specs.Tree.{compact_body}
use Rattle.compact_laws.proofs.Rewritten.{Each, atoms_joined}
use Rattle.compact_laws.proofs.Tables.{Tight, gap_short, runs_few, deals_few, all_kept, atoms_whole, freed_in}
use Rattle.compact_laws.proofs.Bodies.{Sound, body_length, tables_tight, stbl_atoms}
use Rattle.compact_laws.proofs.Runs.{closed_fewest, none_empty, stts_runs}
use Rattle.compact_laws.proofs.Deals.{stsc_deals}
use Rattle.compact_laws.proofs.Fewest.{Strict, deals_fewest}
use Rattle.compaction_theorems.specs.Compact.{FewestIn, Freed}
use Rattle.compaction_theorems.proofs.Track as track

-- ---- no shorter table says the same

module _ (chunks descriptions : ℕ) where
  agree_strict : (es : List Deal) → dealing chunks descriptions es ≡ true → Strict chunks es
  agree_strict [] h = tt
  agree_strict (e ∷ es) h = let r = dealing_cons chunks descriptions e es h in (r.0.some, agree_strict es r.1)

module _ (wide : Bool) (t : List ℕ) (r : track.Right wide t) where
  pub fewest_in : FewestIn t (track.compact_trak t)
  unfolding per_sample per_chunk description_ids miscounted
  fewest_in =
      let a = table_of stts t in
      let b = table_of stsc t in
      let n = track.counted wide t r in
      let d = track.dealt wide t r in
      let s = agree_strict (chunks_of t) (descriptions_of t) (deals b) (agreed b (chunks_of t) (descriptions_of t) (agree_clauses b (chunks_of t) (descriptions_of t) ∙ ap not d)).1 in
      record {
        same_durations = track.durations_same wide t r;
        same_samples = track.samples_same wide t r;
        same_ids = track.ids_same wide t r;
        runs = λ qs h.
            rw (track.stts_is wide t r, stts_runs a r.runs_head r.runs_kind (track.few_durations wide t r)) (closed_fewest (runs_of a) qs (none_empty (runs_of a) (or_left _ _ n)) h);
        entries = λ qs h k. rw (track.stsc_is wide t r, stsc_deals b r.deals_head r.deals_kind) (deals_fewest (chunks_of t) (deals b) qs s h k);
      }

-- ---- 4 divides what is freed

abbrev Fours : List ℕ → List ℕ → Type 0
Fours x y = (k : ℕ) × (length y ≡ length x + 4 * k)

table_fours : (a : List ℕ) → Tight a → Fours (compact_table a) a
unfolding compact_table entries
table_fours a t = go (ltb (length a) 16) (eqb (kind_of a) stts) (eqb (kind_of a) stsc) refl refl refl
  where
    go : (b c d : Bool) → ltb (length a) 16 ≡ b → eqb (kind_of a) stts ≡ c → eqb (kind_of a) stsc ≡ d
        → Fours (cond b a (cond c (with_entries a (compact_runs (entries 16 8 a))) (cond d (with_entries a (compact_deals (entries 16 12 a))) a))) a
    go true c d p q r = (0, omega arith)
    go false true d p q r =
        let es = entries 16 8 a in
        let cs = compact_runs es in (
          2 * (length es - length cs),
          omega (arith, table_length a cs (ltb-false (length a) 16 p), joined_length 8 cs (runs_wide es (rows_wide 8 (drop 16 a))), runs_few es, t.runs (eqb-true _ _ q)),
        )
    go false false true p q r =
        let es = entries 16 12 a in
        let cs = compact_deals es in (
          3 * (length es - length cs),
          omega (arith, table_length a cs (ltb-false (length a) 16 p), joined_length 12 cs (deals_wide es (rows_wide 12 (drop 16 a))), deals_few es, t.deals (eqb-true _ _ r)),
        )
    go false false false p q r = (0, omega arith)

all_fours : (l : List (List ℕ)) → Each Tight l → Fours (joined (map compact_table l)) (joined l)
unfolding joined
all_fours [] t = (0, omega arith)
all_fours (a ∷ l) t =
    let h = table_fours a t.0 in
    let r = all_fours l t.1 in
    (h.0 + r.0, omega (arith, h.1, r.1, length-append (compact_table a) (joined (map compact_table l)), length-append a (joined l)))

-- ---- the body of an stbl

no_free : (n : ℕ) → (n ≡ 0) ⊎ (8 ≤ n) → ltb n 8 ≡ eqb n 0
no_free n = ⊎_elim
    (λ e. lt-ltb n 8 (omega (arith, e)) ∙ sym (eq-eqb n 0 e))
    (λ h. le-ltb n 8 h ∙ sym (ne_eqb n 0 (λ e. omega (arith, e, h))))

module _ (wide : Bool) (b : List ℕ) (d : Sound wide 1 stbl b) where
  whole : joined (atoms stbl b) ≡ b
  whole = atoms_joined stbl b (everywhere_here filled 0 stbl b d.fills)

  tight : Each Tight (atoms stbl b)
  tight = tables_tight wide 0 b d

  freed_some : (length b - length (tables_of b) ≡ 0) ⊎ (8 ≤ length b - length (tables_of b))
  freed_some = let j = ap length whole in ⊎_elim (λ e. inl (omega (arith, e, j))) (λ h. inr (omega (arith, h, j))) (all_kept (atoms stbl b) (atoms_whole b) tight).1

  pub freed : Freed b (compact_body 1 stbl b)
  unfolding freed_in
  freed =
      let j = ap length whole in
      let f = all_fours (atoms stbl b) tight in
      let n = length b - length (tables_of b) in
      record {
        as_long = body_length wide 1 stbl b d;
        fewer = omega (arith, j, gap_short (tables_of b) (joined (atoms stbl b)) (all_kept (atoms stbl b) (atoms_whole b) tight).1);
        children = stbl_atoms wide 0 b d ∙ ap (λ (c : Bool). map compact_table (atoms stbl b) ++ cond c ([]) (free_atom n ∷ [])) (no_free n freed_some);
        some = freed_some;
        four = (f.0, omega (arith, f.1, j));
      }
