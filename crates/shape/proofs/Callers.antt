-- A film that is not refused is shaped: no row of the table holds, so each condition holds everywhere, down to the leaves of each track.
-- Assumes nothing.
use Prim.Native.Nat.{ℕ, zero, suc, ◌+◌, ◌*◌, ◌^◌, ◌≤◌, ◌<◌}
use mathlib.Core.Path.{◌≡◌, refl, ap, ◌∙◌}
use mathlib.Core.Logic.{◌⊎◌, inl, inr, ⊎_elim}
use mathlib.Core.List.{List, [], ◌∷◌}
use mathlib.Core.Bool.{Bool, true, false, cond, not, ◌&&◌, ◌||◌}
use lib.ListN.{length, length-map, get_or-eq_default}
use lib.Dec.{eqb, ltb, eqb-suc-zero}
use borrow.Author.Tests.{ltb-false, leb-true, eqb-true, eqb-false, not-false, eq-eqb, ne_eqb}
use native.Mathlib.Omega.{arith}
use Rattle.bigendian.specs.BigEndian.{be_at, u32_at}
use Rattle.lists.proofs.Booleans.{or_left, or_right, and_left, and_right}
use Rattle.atoms.specs.Pieces.{pieces_after}
use Rattle.atoms.specs.Kinds.{file, moov, trak, edts, mdia, minf, dinf, stbl, mvhd, tkhd, mdhd, hdlr, dref, elst, stts, ctts, stsc, stsz, stco, co64, stss, stsd, vide, container}
use Rattle.atoms.specs.Atoms.{kind_of, header_of, body_of, body_in, atoms, of_kind, child_in, count_in}
use Rattle.atoms.specs.Tree.{everywhere}
use Rattle.atoms.proofs.Into.{all_kind, everywhere_here, everywhere_into}
use Rattle.leaves.specs.declared.Form.TheVariants.{Entries, Sizes}
use Rattle.leaves.specs.Leaves.{Size}
use Rattle.presence.specs.Present.{one, at_most_one, one_offsets, tables, present}
use Rattle.leaves.specs.Leaves.{form_of, holds_entries, size_ok, leaf_ok, atom_ok, leaves_ok, sized_entries}
use Rattle.structure.specs.Rows.{some}
use Rattle.structure.specs.Track.{mdia_of, minf_of, stbl_of, table_of, offset_table, elst_of, subtype_of, samples_of, chunks_of, edits_of, descriptions_of, dref_of, profile_of}
use Rattle.structure.specs.Movie.{moov_of, tracks_of, track_at, movie_profile}
use Rattle.limits.specs.Limits.{over_limits, too_many}
use Rattle.structure.specs.declared.source.Source.{Source}
use Rattle.structure.specs.Source.{length_of}
use Rattle.structure.proofs.Callers.{Clear, clear, some_none, track-at, none_else, Each}
use Rattle.leaf_checks.specs.LeafChecks.{profile_ok, wrong_size, short_video_description, wrong_track_size}
use Rattle.shape.specs.Refusals.{file_too_long, wrong_atoms, wrong_counts, file_rows}
use Rattle.shape.specs.MovieRows.{movie_rows, movie_refusal, refusal_of}
use Rattle.shape.proofs.Tracks.{file_rows_rise, movie_rows_rise}
use Rattle.shape.proofs.Shaped.{offset_entry, Entered, MayEnter, Shaped, ShapedMovie, ShapedFile}

-- ---- the leaves

leaf : (wide : Bool) (p k i : ℕ) (s : List ℕ) → leaves_ok Size wide p s ≡ true → i < count_in p k s → size_ok (form_of wide p k) (child_in p k i s) ≡ true
unfolding leaf_ok
leaf wide p k i s h g =
    let r = all_kind (atom_ok Size wide p) k (atoms p s) h i g in
    rw r.1 at r.0

once : (p k : ℕ) (s : List ℕ) → one p k s ≡ true → count_in p k s ≡ 1
unfolding one
once p k s h = eqb-true (count_in p k s) 1 h

few : (p k : ℕ) (s : List ℕ) → at_most_one p k s ≡ true → count_in p k s ≤ 1
unfolding at_most_one
few p k s h = leb-true (count_in p k s) 1 h

there : (p k : ℕ) (s : List ℕ) → one p k s ≡ true → 0 < count_in p k s
there p k s h = omega (arith, once p k s h)

entered : (w : ℕ) (a : List ℕ) → size_ok (Entries w) a ≡ true → Entered w a
unfolding size_ok holds_entries
entered w a h = eqb-true (length a) (16 + w * u32_at a 12) h

sizes_whole : (a : List ℕ) → size_ok Sizes a ≡ true → (u32_at a 12 ≡ 0 → length a ≡ 20 + 4 * u32_at a 16) × ((u32_at a 12 ≡ 0 → ⊥) → length a ≡ 20)
unfolding size_ok holds_entries
sizes_whole a h = go (eqb (u32_at a 12) 0) refl h
  where
    go : (b : Bool) → eqb (u32_at a 12) 0 ≡ b → cond b (eqb (length a) (20 + 4 * u32_at a 16)) (eqb (length a) 20) ≡ true
        → (u32_at a 12 ≡ 0 → length a ≡ 20 + 4 * u32_at a 16) × ((u32_at a 12 ≡ 0 → ⊥) → length a ≡ 20)
    go true q z = (λ e. eqb-true (length a) (20 + 4 * u32_at a 16) z, λ n. absurd (n (eqb-true (u32_at a 12) 0 q)))
    go false q z = (λ e. absurd (eqb-false (u32_at a 12) 0 q e), λ n. eqb-true (length a) 20 z)

profile_whole : (a : List ℕ) → profile_ok a ≡ true → MayEnter 16 a
unfolding profile_ok holds_entries
profile_whole [] h = inl refl
profile_whole (x ∷ l) h = inr (eqb-true (length (x ∷ l)) (16 + 16 * u32_at (x ∷ l) 12) (rw (eqb-suc-zero (length l)) at h))

-- the i-th child of a kind that is not there is empty
absent : (p k : ℕ) (s : List ℕ) → count_in p k s ≡ 0 → child_in p k 0 s ≡ []
absent p k s e = get_or-eq_default (of_kind k (atoms p s)) ([]) {n = 0} (omega arith)

may_enter : (wide : Bool) (p k w : ℕ) (s : List ℕ) → form_of wide p k ≡ Entries w → leaves_ok Size wide p s ≡ true → MayEnter w (child_in p k 0 s)
may_enter wide p k w s e z = go (count_in p k s) refl
  where
    go : (n : ℕ) → count_in p k s ≡ n → MayEnter w (child_in p k 0 s)
    go zero q = inl (absent p k s q)
    go (suc n) q = inr (entered w _ (rw e at (leaf wide p k 0 s z (omega arith))))

-- ---- the table of chunk offsets

one_table : (wide : Bool) (s : List ℕ) → one_offsets wide s ≡ true
    → (count_in stbl stco s ≡ 1) ⊎ ((wide ≡ true) × (count_in stbl stco s ≡ 0) × (count_in stbl co64 s ≡ 1))
unfolding one_offsets
one_table false s h = inl (once stbl stco s h)
one_table true s h = go (count_in stbl stco s) refl
  where
    go : (n : ℕ) → count_in stbl stco s ≡ n → (count_in stbl stco s ≡ 1) ⊎ ((true ≡ true) × (count_in stbl stco s ≡ 0) × (count_in stbl co64 s ≡ 1))
    go zero q = inr (refl, q, omega (arith, eqb-true (count_in stbl stco s + count_in stbl co64 s) 1 h))
    go (suc n) q = inl (omega (arith, eqb-true (count_in stbl stco s + count_in stbl co64 s) 1 h))

pub offsets_are_stco : (t : List ℕ) → 0 < length (table_of stco t) → offset_table t ≡ table_of stco t
unfolding offset_table
offsets_are_stco t h = rw (ne_eqb (length (table_of stco t)) 0 (λ e. omega arith))

offsets_are_co64 : (t : List ℕ) → count_in stbl stco (stbl_of t) ≡ 0 → offset_table t ≡ table_of co64 t
unfolding table_of offset_table
offsets_are_co64 t e = rw (absent stbl stco (stbl_of t) e)

-- ---- from a trak's body to its leaves

no_edits : child_in edts elst 0 (body_of ([])) ≡ []
unfolding be_at header_of body_of pieces_after of_kind
no_edits = refl

module _ (wide : Bool) (t : List ℕ) (P : everywhere (present wide) 4 trak t ≡ true) (Z : everywhere (leaves_ok Size wide) 4 trak t ≡ true) where
  trak_has : (one trak tkhd t && one trak mdia t && at_most_one trak edts t) ≡ true
  unfolding present
  trak_has = everywhere_here (present wide) 3 trak t P

  one_mdia : one trak mdia t ≡ true
  one_mdia = and_right (one trak tkhd t) _ (and_left _ _ trak_has)

  into_mdia : (check : ℕ → List ℕ → Bool) → everywhere check 4 trak t ≡ true → everywhere check 3 mdia (mdia_of t) ≡ true
  unfolding container mdia_of
  into_mdia check h = everywhere_into check 3 trak mdia 0 t h refl (there trak mdia t one_mdia)

  mdia_has : (one mdia mdhd (mdia_of t) && one mdia hdlr (mdia_of t) && one mdia minf (mdia_of t)) ≡ true
  unfolding present
  mdia_has = everywhere_here (present wide) 2 mdia (mdia_of t) (into_mdia (present wide) P)

  one_minf : one mdia minf (mdia_of t) ≡ true
  one_minf = and_right (one mdia mdhd (mdia_of t) && one mdia hdlr (mdia_of t)) _ mdia_has

  into_minf : (check : ℕ → List ℕ → Bool) → everywhere check 4 trak t ≡ true → everywhere check 2 minf (minf_of t) ≡ true
  unfolding container minf_of
  into_minf check h = everywhere_into check 2 mdia minf 0 (mdia_of t) (into_mdia check h) refl (there mdia minf (mdia_of t) one_minf)

  minf_has : (one minf stbl (minf_of t) && one minf dinf (minf_of t)) ≡ true
  unfolding present
  minf_has = everywhere_here (present wide) 1 minf (minf_of t) (into_minf (present wide) P)

  one_stbl : one minf stbl (minf_of t) ≡ true
  one_stbl = and_left _ _ minf_has

  one_dinf : one minf dinf (minf_of t) ≡ true
  one_dinf = and_right (one minf stbl (minf_of t)) _ minf_has

  -- a check of the body of the one container of kind k in minf
  in_minf : (k : ℕ) → container minf k ≡ true → one minf k (minf_of t) ≡ true → (check : ℕ → List ℕ → Bool) → everywhere check 4 trak t ≡ true
      → check k (body_in minf k 0 (minf_of t)) ≡ true
  in_minf k e g check h =
      everywhere_here check 0 k _ (everywhere_into check 1 minf k 0 (minf_of t) (into_minf check h) e (there minf k (minf_of t) g))

  in_stbl : (check : ℕ → List ℕ → Bool) → everywhere check 4 trak t ≡ true → check stbl (stbl_of t) ≡ true
  unfolding container stbl_of
  in_stbl = in_minf stbl refl one_stbl

  one_dref : one dinf dref (body_in minf dinf 0 (minf_of t)) ≡ true
  unfolding container present
  one_dref = in_minf dinf refl one_dinf (present wide) P

  dref_sized : sized_entries 12 (dref_of t) ≡ true
  unfolding container form_of size_ok dref_of
  dref_sized = leaf wide dinf dref 0 _ (in_minf dinf refl one_dinf (leaves_ok Size wide) Z) (there dinf dref _ one_dref)

  stbl_has : tables wide (stbl_of t) ≡ true
  unfolding present
  stbl_has = in_stbl (present wide) P

  -- what the table of the leaves says of a sample table that is there
  sized : (k : ℕ) → 0 < count_in stbl k (stbl_of t) → size_ok (form_of wide stbl k) (table_of k t) ≡ true
  unfolding table_of
  sized k h = leaf wide stbl k 0 (stbl_of t) (in_stbl (leaves_ok Size wide) Z) h

  kind_is : (k : ℕ) → 0 < count_in stbl k (stbl_of t) → kind_of (table_of k t) ≡ k
  unfolding table_of
  kind_is k h = (all_kind (atom_ok Size wide stbl) k (atoms stbl (stbl_of t)) (in_stbl (leaves_ok Size wide) Z) 0 h).1

  -- the one table of chunk offsets has its size, by its own type
  offsets_sized : one_offsets wide (stbl_of t) ≡ true → Entered (offset_entry (offset_table t)) (offset_table t)
  unfolding form_of
  offsets_sized h = ⊎_elim short long (one_table wide (stbl_of t) h)
    where
      short : count_in stbl stco (stbl_of t) ≡ 1 → Entered (offset_entry (offset_table t)) (offset_table t)
      short e =
          let z = entered 4 (table_of stco t) (sized stco (omega arith)) in
          rw (offsets_are_stco t (omega arith), kind_is stco (omega arith)) z

      long : (wide ≡ true) × (count_in stbl stco (stbl_of t) ≡ 0) × (count_in stbl co64 (stbl_of t) ≡ 1) → Entered (offset_entry (offset_table t)) (offset_table t)
      long e =
          let z = entered 8 (table_of co64 t) (rw e.0 at (sized co64 (omega (arith, e.2)))) in
          rw (offsets_are_co64 t e.1, kind_is co64 (omega (arith, e.2))) z

  may_be : (k w : ℕ) → form_of wide stbl k ≡ Entries w → MayEnter w (table_of k t)
  unfolding table_of
  may_be k w e = may_enter wide stbl k w (stbl_of t) e (in_stbl (leaves_ok Size wide) Z)

  one_elst : 0 < count_in trak edts t → one edts elst (body_in trak edts 0 t) ≡ true
  unfolding container present
  one_elst h = everywhere_here (present wide) 2 edts _ (everywhere_into (present wide) 3 trak edts 0 t P refl h)

  may_edit : MayEnter 12 (elst_of t)
  unfolding elst_of container form_of
  may_edit = go (count_in trak edts t) refl
    where
      go : (n : ℕ) → count_in trak edts t ≡ n → MayEnter 12 (elst_of t)
      go zero q = inl (ap (λ a. child_in edts elst 0 (body_of a)) (absent trak edts t q) ∙ no_edits)
      go (suc n) q =
          may_enter wide edts elst 12 _ refl (everywhere_here (leaves_ok Size wide) 2 edts _ (everywhere_into (leaves_ok Size wide) 3 trak edts 0 t Z refl (omega arith)))

  shaped_track : wrong_track_size t ≡ false → over_limits t ≡ false → Shaped t
  unfolding tables form_of size_ok short_video_description wrong_track_size over_limits
  shaped_track N L =
      let s = stbl_of t in
      let a₆ = and_left _ _ stbl_has in
      let a₅ = and_left _ _ a₆ in
      let a₄ = and_left _ _ a₅ in
      let a₃ = and_left _ _ a₄ in
      let a₂ = and_left _ _ a₃ in
      let one-stsd = and_left _ _ a₂ in
      let one-stts = and_right (one stbl stsd s) _ a₂ in
      let one-stsc = and_right (one stbl stsd s && one stbl stts s) _ a₃ in
      let one-stsz = and_right (one stbl stsd s && one stbl stts s && one stbl stsc s) _ a₄ in
      let one-offsets = and_right (one stbl stsd s && one stbl stts s && one stbl stsc s && one stbl stsz s) _ a₅ in
      let few-ctts = and_right (one stbl stsd s && one stbl stts s && one stbl stsc s && one stbl stsz s && one_offsets wide s) _ a₆ in
      let few-stss = and_right (one stbl stsd s && one stbl stts s && one stbl stsc s && one stbl stsz s && one_offsets wide s && at_most_one stbl ctts s) _ stbl_has in
      let one-tkhd = and_left _ _ (and_left _ _ trak_has) in
      let one-mdhd = and_left _ _ (and_left _ _ mdia_has) in
      let one-hdlr = and_right (one mdia mdhd (mdia_of t)) _ (and_left _ _ mdia_has) in
      let in-trak = everywhere_here (leaves_ok Size wide) 3 trak t Z in
      let in-mdia = everywhere_here (leaves_ok Size wide) 2 mdia (mdia_of t) (into_mdia (leaves_ok Size wide) Z) in
      let z = sizes_whole (table_of stsz t) (sized stsz (there stbl stsz s one-stsz)) in
      let l₅ = or_left _ _ L in
      let l₄ = or_left _ _ l₅ in
      let l₃ = or_left _ _ l₄ in
      let l₂ = or_left _ _ l₃ in
      record {
        tkhd_once = once trak tkhd t one-tkhd;
        tkhd_size = eqb-true _ _ (leaf wide trak tkhd 0 t in-trak (there trak tkhd t one-tkhd));
        mdia_once = once trak mdia t one_mdia;
        mdhd_once = once mdia mdhd (mdia_of t) one-mdhd;
        mdhd_size = eqb-true _ _ (leaf wide mdia mdhd 0 (mdia_of t) in-mdia (there mdia mdhd (mdia_of t) one-mdhd));
        hdlr_once = once mdia hdlr (mdia_of t) one-hdlr;
        hdlr_size = leb-true _ _ (leaf wide mdia hdlr 0 (mdia_of t) in-mdia (there mdia hdlr (mdia_of t) one-hdlr));
        minf_once = once mdia minf (mdia_of t) one_minf;
        stbl_once = once minf stbl (minf_of t) one_stbl;
        dinf_once = once minf dinf (minf_of t) one_dinf;
        dref_once = once dinf dref _ one_dref;
        dref_size = dref_sized;
        stsd_once = once stbl stsd s one-stsd;
        stsd_size = sized stsd (there stbl stsd s one-stsd);
        stsd_pictures = λ q. not-false _ (rw (eq-eqb (subtype_of t) vide q) at (or_left (eqb (subtype_of t) vide && not (sized_entries 36 (table_of stsd t))) _ N));
        stts_once = once stbl stts s one-stts;
        stts_size = entered 8 (table_of stts t) (sized stts (there stbl stts s one-stts));
        stsc_once = once stbl stsc s one-stsc;
        stsc_size = entered 12 (table_of stsc t) (sized stsc (there stbl stsc s one-stsc));
        stsz_once = once stbl stsz s one-stsz;
        stsz_size = z.0;
        stsz_common = z.1;
        offsets_size = offsets_sized one-offsets;
        ctts_few = few stbl ctts s few-ctts;
        ctts_size = may_be ctts 8 refl;
        stss_few = few stbl stss s few-stss;
        stss_size = may_be stss 4 refl;
        edts_few = few trak edts t (and_right (one trak tkhd t && one trak mdia t) _ trak_has);
        elst_once = λ h. once edts elst _ (one_elst h);
        elst_size = may_edit;
        profile_size = profile_whole (profile_of t) (not-false _ (or_right (eqb (subtype_of t) vide && not (sized_entries 36 (table_of stsd t))) _ N));
        few_samples = ltb-false _ _ (or_left _ _ l₂);
        few_chunks = ltb-false _ _ (or_right (ltb 1048576 (samples_of t)) _ l₂);
        few_edits = ltb-false _ _ (or_right (ltb 1048576 (samples_of t) || ltb 1048576 (chunks_of t)) _ l₃);
        few_descriptions = ltb-false _ _ (or_right (ltb 1048576 (samples_of t) || ltb 1048576 (chunks_of t) || ltb 256 (edits_of t)) _ l₄);
        few_records = ltb-false _ _ (or_right (ltb 1048576 (samples_of t) || ltb 1048576 (chunks_of t) || ltb 256 (edits_of t) || ltb 64 (descriptions_of t)) _ l₅);
        few_references = ltb-false _ _ (or_right (ltb 1048576 (samples_of t) || ltb 1048576 (chunks_of t) || ltb 256 (edits_of t) || ltb 64 (descriptions_of t) || ltb 64 (u32_at (profile_of t) 12)) _ L);
      }

-- ---- from a movie, and from a file

module _ (wide : Bool) (m : List ℕ) (P : everywhere (present wide) 5 moov m ≡ true) (e : movie_refusal wide m ≡ 0) where
  rows_clear : Clear (λ r. r.whole m || some r.track (tracks_of m)) (movie_rows wide)
  unfolding movie_refusal
  rows_clear = clear _ 6 (movie_rows wide) (movie_rows_rise wide) e

  sizes_hold : everywhere (leaves_ok Size wide) 5 moov m ≡ true
  unfolding movie_rows wrong_size
  sizes_hold = not-false _ (or_left _ _ (or_left _ _ rows_clear.1.0))

  track_shaped : (i : ℕ) → i < length (tracks_of m) → Shaped (track_at i m)
  unfolding container movie_rows track_at
  track_shaped i g =
      let h : i < count_in moov trak m = omega (arith, length-map (of_kind trak (atoms moov m)) body_of) in
      let N = some_none wrong_track_size (tracks_of m) i (or_right (wrong_size wide m) _ rows_clear.1.0) g in
      let L = some_none over_limits (tracks_of m) i (or_right (too_many m) _ rows_clear.1.1.0) g in
      shaped_track wide (track_at i m) (everywhere_into (present wide) 4 moov trak i m P refl h) (everywhere_into (leaves_ok Size wide) 4 moov trak i m sizes_hold refl h)
      (rw (track-at m i) at N) (rw (track-at m i) at L)

  pub shaped_movie : ShapedMovie m
  unfolding present movie_rows wrong_size too_many form_of size_ok
  shaped_movie =
      let one-mvhd = everywhere_here (present wide) 4 moov m P in
      let few-all = or_left (too_many m) _ rows_clear.1.1.0 in
      record {
        mvhd_once = once moov mvhd m one-mvhd;
        mvhd_size = eqb-true _ _ (leaf wide moov mvhd 0 m (everywhere_here (leaves_ok Size wide) 4 moov m sizes_hold) (there moov mvhd m one-mvhd));
        profile_size = profile_whole (movie_profile m) (not-false _ (or_right (not (everywhere (leaves_ok Size wide) 5 moov m)) _ (or_left _ _ rows_clear.1.0)));
        few_tracks = ltb-false _ _ (or_left _ _ few-all);
        few_records = ltb-false _ _ (or_right (ltb 16 (length (tracks_of m))) _ few-all);
        tracks = track_shaped;
      }

-- a length that passes row 1
lengths : (w : Source) (s : List ℕ) → file_too_long w s ≡ false → (length s ≤ 2147483647) × (length s ≤ length_of w s) × (length_of w s < 2 ^ 63)
unfolding file_too_long length_of
lengths w s h =
    let a = ltb-false 2147483647 (length s) (or_left _ _ h) in
    let g = go w.alone (or_right (ltb 2147483647 (length s)) _ h) in
    (a, g.0, g.1)
  where
    go : (b : Bool) → (b && (ltb 9223372036854775807 w.length || ltb w.length (length s))) ≡ false
        → (length s ≤ cond b w.length (length s)) × (cond b w.length (length s) < 2 ^ 63)
    go true q =
        let x = ltb-false 9223372036854775807 w.length (or_left _ _ q) in
        let y = ltb-false w.length (length s) (or_right (ltb 9223372036854775807 w.length) _ q) in
        (y, omega arith)
    go false q = let a = ltb-false 2147483647 (length s) (or_left _ _ h) in (omega arith, omega arith)

pub shaped : (s : List ℕ) (w : Source) → refusal_of w s ≡ 0 → ShapedFile s w
unfolding container present moov_of wrong_atoms wrong_counts file_rows refusal_of
shaped s w e =
    let n = none_else _ _ e in
    let r = clear (λ q. q.whole s) 0 (file_rows w) (file_rows_rise w) n.0 in
    let P = not-false _ r.1.1.0 in
    let one-moov = everywhere_here (present w.alone) 5 file s P in
    let l = lengths w s r.0 in
    record {
      short = l.0;
      within = l.1;
      low = l.2;
      tree = not-false _ (or_left _ _ r.1.0);
      moov_once = once file moov s one-moov;
      movie = shaped_movie w.alone (moov_of s) (everywhere_into (present w.alone) 5 file moov 0 s P refl (there file moov s one-moov)) n.1;
    }

pub tracks_each : (m : List ℕ) → ShapedMovie m → Each Shaped (tracks_of m)
tracks_each m h i g = rw (track-at m i) (h.tracks i g)
