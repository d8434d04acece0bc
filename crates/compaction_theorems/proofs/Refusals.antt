-- The rows of refusals 4 to 13 and 19 of the compact film of a film that is not refused: they are what they were.
-- Assumes nothing.
use Prim.Native.Nat.{ℕ, ◌<◌}
use mathlib.Core.Path.{◌≡◌, refl, sym, ap, ◌∙◌}
use mathlib.Core.List.{List, [], map}
use mathlib.Core.Bool.{Bool, false}
use native.Mathlib.Omega.{arith}
use lib.ListN.{get_or, length-map}
use Rattle.bigendian.specs.BigEndian.{u32_at}
use Rattle.atoms.specs.Kinds.{file, moov, trak, mvhd, container}
use Rattle.atoms.specs.Atoms.{body_of, atoms, of_kind, count_in, child_in}
use Rattle.atoms.specs.Tree.{everywhere}
use Rattle.leaves.specs.Leaves.{Version, Size}
use Rattle.leaves.specs.Leaves.{leaves_ok}
use Rattle.structure.specs.declared.source.Source.{Source}
use Rattle.structure.specs.Source.{length_of}
use Rattle.structure.specs.Profile.{first_before, of_version0, profile_in}
use Rattle.structure.specs.Rows.{some, first, never}
use Rattle.structure.specs.Track.{id_of}
use Rattle.structure.specs.Movie.{moov_of, tracks_of, track_at, movie_scale, movie_profile}
use Rattle.structure.proofs.Callers as callers
use Rattle.structure.proofs.Callers.{Each}
use Rattle.track.specs.Refusals.{total_in, contradicts, total_too_large, other_duration, data_elsewhere, chunk_past_end, wrong_edits}
use Rattle.limits.specs.Limits.{over_limits, too_many}
use Rattle.leaf_checks.specs.LeafChecks.{wrong_version, wrong_size, wrong_track_size, short_video_description}
use Rattle.movie.specs.Tracks.{repeats}
use Rattle.movie.specs.Refusals.{same_ids, id_is_zero, movie_scale_is_zero, scale_is_zero, film_refusal}
use Rattle.movie.specs.TableRows.{table_rows, tables_refusal}
use Rattle.movie_times.specs.Header.{movie_duration}
use Rattle.compact_tree.specs.Tree.{compact_body}
use Rattle.compact_laws.proofs.Bodies.{Sound, sound_into, body_atoms, atoms_headed}
use Rattle.compact_laws.proofs.Children.{before_kept, leaf_same}
use Rattle.shape.specs.MovieRows.{movie_rows, movie_refusal}
use Rattle.compact_laws.proofs.Leaves.{leaves_kept}
use Rattle.compaction_theorems.proofs.Track as track
use Rattle.ways.proofs.Answers.{Same, some_same, ids_same}
use Rattle.compact_laws.proofs.Sound.{film, sound_moov, moov_closed, versions_hold, versions_before}
use Rattle.compaction_theorems.proofs.Movie.{same_of, tracks_compact, right}

-- ---- rows 10 to 13 and 19 of a track

module _ (wide : Bool) (t : List ℕ) (r : track.Right wide t) where
  h : track.Whole wide t
  h = r.whole

  total_same : total_in (track.compact_trak t) ≡ total_in t
  unfolding total_in
  total_same = rw (track.durations_same wide t r)

  large_same : total_too_large (track.compact_trak t) ≡ total_too_large t
  unfolding total_too_large
  large_same = rw (total_same, track.elst_same wide t h)

  stored_same : (v : Source) → other_duration v (track.compact_trak t) ≡ other_duration v t
  unfolding other_duration
  stored_same v = rw (total_same, track.duration_same wide t h)

  elsewhere_same : data_elsewhere (track.compact_trak t) ≡ data_elsewhere t
  unfolding data_elsewhere
  elsewhere_same = rw (track.track_same wide t r)

  past_same : (len : ℕ) → chunk_past_end len (track.compact_trak t) ≡ chunk_past_end len t
  unfolding chunk_past_end
  past_same len = rw (track.offsets_same wide t h, track.samples_same wide t r, track.stsz_same wide t r)

  edits_same : (movie : ℕ) → wrong_edits movie (track.compact_trak t) ≡ wrong_edits movie t
  unfolding wrong_edits
  edits_same movie = rw (total_same, track.elst_same wide t h, track.scale_same wide t h)

module _ (s : List ℕ) (w : Source) (e : film_refusal s w ≡ 0) where
  abbrev m : List ℕ
  m = moov_of s

  -- each track is right
  pub rights : Each (track.Right w.alone) (tracks_of m)
  unfolding container track_at
  rights i g =
      let q = callers.track-at m i in
      let n : i < count_in moov trak m = omega (arith, length-map (of_kind trak (atoms moov m)) body_of) in
      let d : Sound w.alone 4 trak (track_at i m) = sound_into w.alone 4 moov trak i m (sound_moov s w e) refl n in
      right w.alone w (movie_scale m) (length_of w s) (get_or (tracks_of m) i []) (rw q d) ((film s w e).movie.tracks i g)

  abbrev become : List ℕ → List ℕ
  become t = compact_body 4 trak t

  pub sames : Same become (tracks_of m)
  unfolding track.compact_trak
  sames i g = same_of w.alone (get_or (tracks_of m) i []) (rights i g)

  of_tracks : (g : List ℕ → Bool) → ((t : List ℕ) → track.Right w.alone t → g (become t) ≡ g t) → some g (tracks_of (moov_of (compact_body 6 file s))) ≡ some g (tracks_of m)
  of_tracks g f = ap (some g) (tracks_compact s w e) ∙ some_same (track.Right w.alone) become g f (tracks_of m) rights

  -- ---- the movie's own fields

  head_same : child_in moov mvhd 0 (moov_of (compact_body 6 file s)) ≡ child_in moov mvhd 0 m
  unfolding container
  head_same = ap (child_in moov mvhd 0) (moov_closed s w e) ∙ leaf_same w.alone 4 moov m (sound_moov s w e) refl mvhd 0 refl

  pub scale_same : movie_scale (moov_of (compact_body 6 file s)) ≡ movie_scale m
  unfolding movie_scale
  scale_same = ap (λ a. u32_at a 20) head_same

  pub movie_duration_same : movie_duration (moov_of (compact_body 6 file s)) ≡ movie_duration m
  unfolding movie_duration
  movie_duration_same = ap (λ a. u32_at a 24) head_same

  pub movie_profile_same : movie_profile (moov_of (compact_body 6 file s)) ≡ movie_profile m
  unfolding movie_profile profile_in container
  movie_profile_same =
      let d = sound_moov s w e in
      ap (λ x. of_version0 (first_before mvhd (atoms moov x))) (moov_closed s w e)
      ∙ ap (λ l. of_version0 (first_before mvhd l)) (body_atoms w.alone 4 moov m d refl)
      ∙ ap of_version0 (before_kept 4 moov mvhd refl (atoms moov m) (atoms_headed moov m d.low))

  -- ---- rows 7 to 13 and 19

  ids_kept : same_ids (moov_of (compact_body 6 file s)) ≡ same_ids m
  unfolding same_ids
  ids_kept = ap repeats (ap (map id_of) (tracks_compact s w e) ∙ ids_same become (tracks_of m) sames)

  pub tables_same : (v : Source) (len : ℕ) → tables_refusal v len (moov_of (compact_body 6 file s)) ≡ tables_refusal v len m
  unfolding tables_refusal table_rows first id_is_zero scale_is_zero movie_scale_is_zero track.compact_trak
  tables_same v len =
      rw (
        scale_same,
        ids_kept,
        of_tracks id_is_zero (λ t r. rw (track.id_same w.alone t r.whole) refl),
        of_tracks scale_is_zero (λ t r. rw (track.scale_same w.alone t r.whole) refl),
        of_tracks contradicts (λ t r. track.agree_again w.alone t r ∙ sym r.agree),
        of_tracks total_too_large (λ t r. large_same w.alone t r),
        of_tracks (other_duration v) (λ t r. stored_same w.alone t r v),
        of_tracks data_elsewhere (λ t r. elsewhere_same w.alone t r),
        of_tracks (chunk_past_end len) (λ t r. past_same w.alone t r len),
        of_tracks (wrong_edits (movie_scale m)) (λ t r. edits_same w.alone t r (movie_scale m)),
      )
      refl

  -- ---- rows 1 to 6 are clear

  limits_same : (t : List ℕ) → track.Right w.alone t → over_limits (become t) ≡ over_limits t
  unfolding over_limits track.compact_trak
  limits_same t r =
      let x = w.alone in
      let h = r.whole in
      rw (track.stsz_same x t r, track.offsets_same x t h, track.elst_same x t h, track.stsd_same x t r, track.profile_same x t h, track.dref_same x t h)

  track_sizes_same : (t : List ℕ) → track.Right w.alone t → wrong_track_size (become t) ≡ wrong_track_size t
  unfolding wrong_track_size short_video_description track.compact_trak
  track_sizes_same t r = let x = w.alone in let h = r.whole in rw (track.subtype_same x t h, track.stsd_same x t r, track.profile_same x t h)

  many_same : too_many (moov_of (compact_body 6 file s)) ≡ too_many m
  unfolding too_many
  many_same = rw (tracks_compact s w e, length-map (tracks_of m) become, movie_profile_same)

  versions_same : wrong_version w.alone (moov_of (compact_body 6 file s)) ≡ false
  unfolding wrong_version
  versions_same = rw (moov_closed s w e, leaves_kept Version w.alone 5 moov m (sound_moov s w e) (versions_hold s w e))

  sizes_same : wrong_size w.alone (moov_of (compact_body 6 file s)) ≡ wrong_size w.alone m
  unfolding wrong_size
  sizes_same =
      let d = sound_moov s w e in
      rw (movie_profile_same, ap (everywhere (leaves_ok Size w.alone) 5 moov) (moov_closed s w e), leaves_kept Size w.alone 5 moov m d d.sizes, d.sizes)

  pub movie_same : movie_refusal w.alone (moov_of (compact_body 6 file s)) ≡ movie_refusal w.alone m
  unfolding movie_refusal movie_rows first
  movie_same =
      rw (versions_same, versions_before s w e, sizes_same, many_same, of_tracks never (λ t r. refl), of_tracks wrong_track_size track_sizes_same, of_tracks over_limits limits_same)
