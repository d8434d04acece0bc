-- A track whose tables are compact: all its fields and lists are the same, and refusal 9 does not hold of it.
-- Assumes nothing.
use Prim.Native.Nat.{ℕ, zero, suc, ◌≤◌, ◌<◌}
use mathlib.Core.Path.{◌≡◌, refl, sym, ap, ◌∙◌}
use mathlib.Core.Logic.{◌⊎◌, inl, inr}
use mathlib.Core.List.{List, []}
use mathlib.Core.Bool.{Bool, false, not, ◌&&◌, ◌||◌}
use native.Mathlib.Omega.{arith}
use lib.ListN.{length, get_or-eq_default}
use lib.Dec.{eqb}
use Rattle.bigendian.specs.BigEndian.{u32_at}
use Rattle.lists.proofs.Booleans.{or_left, or_right}
use Rattle.atoms.specs.Kinds.{trak, edts, mdia, minf, dinf, stbl, tkhd, mdhd, hdlr, elst, stts, ctts, stsc, stsz, stco, co64, stss, stsd, dref, container}
use Rattle.atoms.specs.Atoms.{kind_of, body_of, atoms, of_kind, count_in, child_in, body_in}
use Rattle.structure.specs.Profile.{first_before, of_version0, profile_in}
use Rattle.structure.specs.Track.{mdia_of, minf_of, stbl_of, table_of, offset_table, elst_of, dref_of, id_of, scale_of, duration_of, subtype_of, profile_of, samples_of, chunks_of, descriptions_of}
use Rattle.lists.specs.Lists.{sum}
use Rattle.words.specs.Words.{syncs_agree}
use Rattle.runs.specs.Runs.{per_sample}
use Rattle.chunks.specs.Chunks.{per_chunk, description_ids, deals_contradict}
use Rattle.track.specs.Refusals.{miscounted, contradicts}
use Rattle.track.specs.Track.{track_of}
use Rattle.compact_laws.proofs.Runs.{stts_counted, stts_durations, stts_right}
use Rattle.compact_laws.proofs.Deals.{stsc_samples, stsc_ids, stsc_right}
use Rattle.compact_tables.specs.Tables.{free, compact_table}
use Rattle.compact_tree.specs.Tree.{compact_body}
use Rattle.compact_laws.proofs.Bodies.{Sound, sound_into, body_atoms, atoms_headed}
use Rattle.compact_laws.proofs.Children.{before_kept, count_same, leaf_same, body_same}
use Rattle.compact_laws.proofs.Stbl.{table_same, table_compact}

-- the trak with the body t, sound to its four levels, with one mdia, minf, stbl and dinf, and one edts or none
pub record Whole (wide : Bool) (t : List ℕ) : Type 0 where
  pub sound : Sound wide 4 trak t
  pub mdias : count_in trak mdia t ≡ 1
  pub minfs : count_in mdia minf (mdia_of t) ≡ 1
  pub stbls : count_in minf stbl (minf_of t) ≡ 1
  pub dinfs : count_in minf dinf (minf_of t) ≡ 1
  pub edits : count_in trak edts t ≤ 1

few_edts : (n : ℕ) → n ≤ 1 → (n ≡ 0) ⊎ (n ≡ 1)
few_edts zero h = inl refl
few_edts (suc zero) h = inr refl
few_edts (suc (suc n)) h = absurd (omega arith)

no_child : (p k : ℕ) (s : List ℕ) → count_in p k s ≡ 0 → child_in p k 0 s ≡ []
no_child p k s e = get_or-eq_default (of_kind k (atoms p s)) [] {n = 0} (omega (arith, e))

unfoldable pub compact_trak : List ℕ → List ℕ
compact_trak t = compact_body 4 trak t

module _ (wide : Bool) (t : List ℕ) (w : Whole wide t) where
  sound_mdia : Sound wide 3 mdia (mdia_of t)
  unfolding mdia_of container
  sound_mdia = sound_into wide 3 trak mdia 0 t w.sound refl (omega (arith, w.mdias))

  sound_minf : Sound wide 2 minf (minf_of t)
  unfolding minf_of container
  sound_minf = sound_into wide 2 mdia minf 0 (mdia_of t) sound_mdia refl (omega (arith, w.minfs))

  pub sound_stbl : Sound wide 1 stbl (stbl_of t)
  unfolding stbl_of container
  sound_stbl = sound_into wide 1 minf stbl 0 (minf_of t) sound_minf refl (omega (arith, w.stbls))

  sound_dinf : Sound wide 1 dinf (body_in minf dinf 0 (minf_of t))
  unfolding container
  sound_dinf = sound_into wide 1 minf dinf 0 (minf_of t) sound_minf refl (omega (arith, w.dinfs))

  -- ---- down the tree

  mdia_compact : mdia_of (compact_trak t) ≡ compact_body 3 mdia (mdia_of t)
  unfolding mdia_of compact_trak container
  mdia_compact = body_same wide 3 trak t w.sound refl mdia 0 refl (omega (arith, w.mdias))

  minf_compact : minf_of (compact_trak t) ≡ compact_body 2 minf (minf_of t)
  unfolding minf_of container
  minf_compact = ap (body_in mdia minf 0) mdia_compact ∙ body_same wide 2 mdia (mdia_of t) sound_mdia refl minf 0 refl (omega (arith, w.minfs))

  pub stbl_compact : stbl_of (compact_trak t) ≡ compact_body 1 stbl (stbl_of t)
  unfolding stbl_of container
  stbl_compact = ap (body_in minf stbl 0) minf_compact ∙ body_same wide 1 minf (minf_of t) sound_minf refl stbl 0 refl (omega (arith, w.stbls))

  -- ---- the fields

  pub id_same : id_of (compact_trak t) ≡ id_of t
  unfolding id_of compact_trak container
  id_same = ap (λ a. u32_at a 20) (leaf_same wide 3 trak t w.sound refl tkhd 0 refl)

  pub scale_same : scale_of (compact_trak t) ≡ scale_of t
  unfolding scale_of container
  scale_same = ap (λ m. u32_at (child_in mdia mdhd 0 m) 20) mdia_compact ∙ ap (λ a. u32_at a 20) (leaf_same wide 2 mdia (mdia_of t) sound_mdia refl mdhd 0 refl)

  pub duration_same : duration_of (compact_trak t) ≡ duration_of t
  unfolding duration_of container
  duration_same = ap (λ m. u32_at (child_in mdia mdhd 0 m) 24) mdia_compact ∙ ap (λ a. u32_at a 24) (leaf_same wide 2 mdia (mdia_of t) sound_mdia refl mdhd 0 refl)

  pub subtype_same : subtype_of (compact_trak t) ≡ subtype_of t
  unfolding subtype_of container
  subtype_same = ap (λ m. u32_at (child_in mdia hdlr 0 m) 16) mdia_compact ∙ ap (λ a. u32_at a 16) (leaf_same wide 2 mdia (mdia_of t) sound_mdia refl hdlr 0 refl)

  pub dref_same : dref_of (compact_trak t) ≡ dref_of t
  unfolding dref_of container
  dref_same =
      ap (λ m. child_in dinf dref 0 (body_in minf dinf 0 m)) minf_compact
      ∙ ap (child_in dinf dref 0) (body_same wide 1 minf (minf_of t) sound_minf refl dinf 0 refl (omega (arith, w.dinfs)))
      ∙ leaf_same wide 0 dinf (body_in minf dinf 0 (minf_of t)) sound_dinf refl dref 0 refl

  pub profile_same : profile_of (compact_trak t) ≡ profile_of t
  unfolding profile_of profile_in compact_trak container
  profile_same =
      ap (λ l. of_version0 (first_before tkhd l)) (body_atoms wide 3 trak t w.sound refl)
      ∙ ap of_version0 (before_kept 3 trak tkhd refl (atoms trak t) (atoms_headed trak t w.sound.low))

  -- an edit list, or none
  pub elst_same : elst_of (compact_trak t) ≡ elst_of t
  unfolding elst_of compact_trak container
  elst_same = go (few_edts (count_in trak edts t) w.edits)
    where
      go : (count_in trak edts t ≡ 0) ⊎ (count_in trak edts t ≡ 1) → child_in edts elst 0 (body_in trak edts 0 (compact_body 4 trak t)) ≡ child_in edts elst 0 (body_in trak edts 0 t)
      go (inl e) = ap (child_in edts elst 0) (ap body_of (no_child trak edts (compact_body 4 trak t) (count_same wide 3 trak t w.sound refl edts ∙ e) ∙ sym (no_child trak edts t e)))
      go (inr e) =
          ap (child_in edts elst 0) (body_same wide 3 trak t w.sound refl edts 0 refl (omega (arith, e)))
          ∙ leaf_same wide 2 edts (body_in trak edts 0 t) (sound_into wide 3 trak edts 0 t w.sound refl (omega (arith, e))) refl elst 0 refl

  -- ---- the tables

  pub other_same : (k : ℕ) → (k ≡ free → ⊥) → (k ≡ stts → ⊥) → (k ≡ stsc → ⊥) → table_of k (compact_trak t) ≡ table_of k t
  unfolding table_of container
  other_same k q f g = ap (child_in stbl k 0) stbl_compact ∙ table_same wide 0 (stbl_of t) sound_stbl k 0 q f g

  pub table_is : (k : ℕ) → (k ≡ free → ⊥) → table_of k (compact_trak t) ≡ compact_table (table_of k t)
  unfolding table_of container
  table_is k q = ap (child_in stbl k 0) stbl_compact ∙ table_compact wide 0 (stbl_of t) sound_stbl k 0 q

  pub offsets_same : offset_table (compact_trak t) ≡ offset_table t
  unfolding offset_table
  offsets_same =
      rw (other_same stco (λ e. omega arith) (λ e. omega arith) (λ e. omega arith), other_same co64 (λ e. omega arith) (λ e. omega arith) (λ e. omega arith))

-- ---- a track that refusal 9 has passed: its lists, and refusal 9 again

pub record Right (wide : Bool) (t : List ℕ) : Type 0 where
  pub whole : Whole wide t
  pub few : samples_of t < 4294967296
  pub agree : contradicts t ≡ false
  pub runs_kind : kind_of (table_of stts t) ≡ stts
  pub runs_head : 16 ≤ length (table_of stts t)
  pub deals_kind : kind_of (table_of stsc t) ≡ stsc
  pub deals_head : 16 ≤ length (table_of stsc t)

module _ (wide : Bool) (t : List ℕ) (r : Right wide t) where
  same : (k : ℕ) → (k ≡ free → ⊥) → (k ≡ stts → ⊥) → (k ≡ stsc → ⊥) → table_of k (compact_trak t) ≡ table_of k t
  same = other_same wide t r.whole

  pub ctts_same : table_of ctts (compact_trak t) ≡ table_of ctts t
  ctts_same = same ctts (λ e. omega arith) (λ e. omega arith) (λ e. omega arith)

  pub stsz_same : table_of stsz (compact_trak t) ≡ table_of stsz t
  stsz_same = same stsz (λ e. omega arith) (λ e. omega arith) (λ e. omega arith)

  pub stss_same : table_of stss (compact_trak t) ≡ table_of stss t
  stss_same = same stss (λ e. omega arith) (λ e. omega arith) (λ e. omega arith)

  pub stsd_same : table_of stsd (compact_trak t) ≡ table_of stsd t
  stsd_same = same stsd (λ e. omega arith) (λ e. omega arith) (λ e. omega arith)

  pub stts_is : table_of stts (compact_trak t) ≡ compact_table (table_of stts t)
  stts_is = table_is wide t r.whole stts (λ e. omega arith)

  pub stsc_is : table_of stsc (compact_trak t) ≡ compact_table (table_of stsc t)
  stsc_is = table_is wide t r.whole stsc (λ e. omega arith)

  offsets : offset_table (compact_trak t) ≡ offset_table t
  offsets = offsets_same wide t r.whole

  pub counted : miscounted (samples_of t) (table_of stts t) ≡ false
  unfolding contradicts
  counted = or_left _ _ r.agree

  pub dealt : deals_contradict (table_of stsc t) (chunks_of t) (descriptions_of t) ≡ false
  unfolding contradicts
  dealt = or_left _ _ (or_right (eqb (chunks_of t) 0 && not (eqb (samples_of t) 0)) _ (or_right (not (eqb (length (table_of ctts t)) 0) && miscounted (samples_of t) (table_of ctts t)) _ (or_right (miscounted (samples_of t) (table_of stts t)) _ r.agree)))

  pub few_durations : length (per_sample (table_of stts t)) < 4294967296
  few_durations = omega (arith, stts_counted (table_of stts t) r.runs_head r.runs_kind (samples_of t) r.few counted, r.few)

  pub durations_same : per_sample (table_of stts (compact_trak t)) ≡ per_sample (table_of stts t)
  durations_same = ap per_sample stts_is ∙ stts_durations (table_of stts t) r.runs_head r.runs_kind (samples_of t) r.few counted

  pub samples_same : per_chunk (table_of stsc (compact_trak t)) (chunks_of t) ≡ per_chunk (table_of stsc t) (chunks_of t)
  samples_same = ap (λ x. per_chunk x (chunks_of t)) stsc_is ∙ stsc_samples (table_of stsc t) r.deals_head r.deals_kind (chunks_of t) (descriptions_of t) dealt

  pub ids_same : description_ids (table_of stsc (compact_trak t)) (chunks_of t) ≡ description_ids (table_of stsc t) (chunks_of t)
  ids_same = ap (λ x. description_ids x (chunks_of t)) stsc_is ∙ stsc_ids (table_of stsc t) r.deals_head r.deals_kind (chunks_of t) (descriptions_of t) dealt

  pub track_same : track_of (compact_trak t) ≡ track_of t
  unfolding track_of
  track_same =
      rw (
        offsets,
        ctts_same,
        stsz_same,
        stss_same,
        stsd_same,
        durations_same,
        samples_same,
        ids_same,
        id_same wide t r.whole,
        subtype_same wide t r.whole,
        scale_same wide t r.whole,
        duration_same wide t r.whole,
        dref_same wide t r.whole,
        elst_same wide t r.whole,
        profile_same wide t r.whole,
      )
      refl

  pub agree_again : contradicts (compact_trak t) ≡ false
  unfolding contradicts
  agree_again =
      rw (
        offsets,
        ctts_same,
        stsz_same,
        stss_same,
        stsd_same,
        samples_same,
        ap (miscounted (samples_of t)) stts_is,
        stts_right (table_of stts t) r.runs_head r.runs_kind (samples_of t) r.few counted,
        ap (λ x. deals_contradict x (chunks_of t) (descriptions_of t)) stsc_is,
        stsc_right (table_of stsc t) r.deals_head r.deals_kind (chunks_of t) (descriptions_of t) dealt,
      )
      rest
    where
      rest : ((not (eqb (length (table_of ctts t)) 0) && miscounted (samples_of t) (table_of ctts t)) || ((eqb (chunks_of t) 0 && not (eqb (samples_of t) 0)) || (not (eqb (sum (per_chunk (table_of stsc t) (chunks_of t))) (samples_of t)) || not (syncs_agree (table_of stss t) (samples_of t))))) ≡ false
      rest = rw (counted, dealt) at r.agree
