-- Film W, by computation, as a whole file and as its moov alone: it has 4,096 bytes, it is not refused, its track is the plain lists, and each case of document 01 has the answer that the document gives.
-- Assumes nothing.
use Prim.Native.Nat.{ℕ}
use mathlib.Core.Path.{◌≡◌, refl, ap, ◌∙◌}
use mathlib.Core.List.{List, [], ◌∷◌}
use lib.ListN.{length}
use Rattle.bigendian.specs.BigEndian.{be_at, signed32}
use Rattle.atoms.specs.Kinds.{container, stts}
use Rattle.atoms.specs.Pieces.{pieces_after, total, filled_by, fitting}
use Rattle.atoms.specs.Atoms.{header_of, body_of, size_inside, size_top, size_in, of_kind}
use Rattle.atoms.specs.Tree.{all, everywhere}
use Rattle.presence.specs.Present.{one, at_most_one, one_offsets, tables, present}
use Rattle.leaves.specs.Leaves.{form_of, skipped, version_ok, holds_entries, size_entry, filled_with, sized_entries, size_ok, leaf_ok}
use Rattle.structure.specs.Profile.{first_before, of_version0, profile_in}
use Rattle.structure.specs.declared.source.Source.{Source}
use Rattle.structure.specs.Source.{whole_file, moov_alone, strictly, length_of}
use Rattle.structure.specs.Track.{mdia_of, minf_of, stbl_of, table_of, offset_table, elst_of, dref_of, id_of, scale_of, duration_of, subtype_of, profile_of, samples_of}
use Rattle.structure.specs.Movie.{moov_of, movie_scale, movie_profile}
use Rattle.limits.specs.Limits.{over_limits, too_many}
use Rattle.structure.specs.Rows.{some, first, or_else}
use Rattle.leaf_checks.specs.LeafChecks.{profile_ok, wrong_version, wrong_size, short_video_description, wrong_track_size}
use Rattle.shape.specs.Refusals.{file_too_long, one_moov, wrong_atoms, wrong_counts, file_rows}
use Rattle.lists.specs.Entries.{rows_of, entries}
use Rattle.lists.specs.Lists.{Run}
use Rattle.runs.specs.Runs.{runs_of, per_sample, entry_of, composition_offset}
use Rattle.words.specs.Words.{numbers_in, words_after, sizes, offset_width, chunk_offsets, syncs, syncs_agree, is_sync}
use Rattle.chunks.specs.Chunks.{deals, per_chunk, description_ids, deals_contradict, offset_of}
use Rattle.pairs.specs.Pairs.{pair_of}
use Rattle.edits.specs.Edits.{edits, edit_total, edits_ok}
use Rattle.references.specs.References.{is_this_file, names_this_file, all_in_this_file}
use Rattle.track.specs.Track.{least_size, track_of}
use Rattle.track.specs.Refusals.{miscounted, contradicts, total_in, total_too_large, other_duration, data_elsewhere, chunk_past_end, wrong_edits}
use Rattle.movie.specs.Tracks.{has_track, track_with}
use Rattle.movie.specs.Rooms.{no_room, filled_room, room_after}
use Rattle.movie.specs.Refusals.{same_ids, id_is_zero, movie_scale_is_zero, scale_is_zero, moov_rows, moov_refusal, film_refusal}
use Rattle.leb128.specs.Numbers.{groups_in, groups, writes}
use Rattle.slip_head.specs.Bytes.{any_wide, form_of as slipForm, slip_bytes}
use Rattle.questions.specs.Asked.{ask_refusal, track_asked}
use Rattle.time_questions.specs.Times.{at_refusal, at_number, at_entry}
use Rattle.questions.specs.Samples.{sample_of, sample_refusal}
use Rattle.stretch.specs.Stretches.{first_in, past_in, pairs_in, bytes_in, stretch_pairs, span_refusal, stretch_refusal}
use Rattle.slip_writing.specs.Slips.{slip_head, slip_of_stretch, slip_refusal}
use Rattle.film_w.specs.Bytes.{moov, bytes}
use Rattle.film_w.specs.Plain.{plain}
use Rattle.film_w.specs.Cases.{cases, AllHold}

pub length_w : length bytes ≡ 4096
length_w = refl

-- unfoldable only so that the lines below, by naming it, open all that it opens
unfoldable pub accepted_w : film_refusal bytes whole_file ≡ 0
unfolding be_at container pieces_after total filled_by fitting header_of body_of size_inside size_top size_in of_kind all everywhere one at_most_one one_offsets tables present form_of skipped version_ok holds_entries size_entry filled_with sized_entries size_ok leaf_ok first_before of_version0 profile_in profile_ok mdia_of minf_of stbl_of table_of offset_table elst_of dref_of id_of scale_of duration_of subtype_of profile_of moov_of movie_scale movie_profile over_limits too_many some first or_else wrong_version wrong_size short_video_description wrong_track_size file_too_long one_moov wrong_atoms wrong_counts file_rows rows_of entries runs_of per_sample numbers_in words_after sizes offset_width chunk_offsets syncs syncs_agree deals per_chunk deals_contradict edits edit_total edits_ok miscounted contradicts total_in total_too_large other_duration is_this_file names_this_file all_in_this_file least_size track_of data_elsewhere chunk_past_end wrong_edits same_ids id_is_zero movie_scale_is_zero scale_is_zero moov_rows moov_refusal length_of film_refusal
accepted_w = refl

-- the track with ID 1: that there is one, its samples, total and scale, and its lists
pub asked_w : ask_refusal bytes whole_file 1 ≡ 0
unfolding accepted_w has_track ask_refusal
asked_w = refl

-- as the slip writer asks: its stored duration is the total
pub asked_strictly_w : ask_refusal bytes (strictly whole_file) 1 ≡ 0
unfolding accepted_w has_track ask_refusal
asked_strictly_w = refl

pub samples_w : samples_of (track_asked bytes 1) ≡ 4
unfolding accepted_w track_with track_asked
samples_w = refl

pub total_w : total_in (track_asked bytes 1) ≡ 120
unfolding accepted_w track_with track_asked
total_w = refl

pub scale_w : scale_of (track_asked bytes 1) ≡ 600
unfolding accepted_w track_with track_asked
scale_w = refl

pub track_w : track_of (track_asked bytes 1) ≡ plain
unfolding accepted_w track_with track_asked signed32 composition_offset is_sync description_ids least_size track_of
track_w = refl

pub runs_w : runs_of (table_of stts (track_asked bytes 1)) ≡ record { count = 3; value = 24 } ∷ record { count = 1; value = 48 } ∷ []
unfolding accepted_w track_with track_asked
runs_w = refl

-- the cases hold of each film that has such a track, from these numbers and the lists alone
from_lists : (s : List ℕ) (w : Source) → ask_refusal s w 1 ≡ 0 → ask_refusal s (strictly w) 1 ≡ 0 → samples_of (track_asked s 1) ≡ 4 → total_in (track_asked s 1) ≡ 120 → scale_of (track_asked s 1) ≡ 600
    → track_of (track_asked s 1) ≡ plain → runs_of (table_of stts (track_asked s 1)) ≡ record { count = 3; value = 24 } ∷ record { count = 1; value = 48 } ∷ [] → AllHold s w cases
unfolding offset_of pair_of no_room filled_room room_after or_else groups_in groups writes any_wide slipForm slip_bytes at_refusal at_number at_entry entry_of sample_of sample_refusal first_in past_in pairs_in bytes_in stretch_pairs span_refusal stretch_refusal slip_head slip_of_stretch slip_refusal
from_lists s w asked strict four total scale track runs =
    simp (asked, strict, four, total, scale, track, runs)
    (refl, (refl, (refl, (refl, (refl, (refl, (refl, (refl, (refl, (refl, (refl, ((refl, refl), ((refl, refl), ((refl, refl), ((refl, refl), tt)))))))))))))))

-- "proved as a single theorem over the list of them"
pub film_w : AllHold bytes whole_file cases
film_w = from_lists bytes whole_file asked_w asked_strictly_w samples_w total_w scale_w track_w runs_w

-- ---- its moov alone: document 02, "A second way in takes the moov atom alone in lent bytes .. with the file's length as a number"

same_track : track_asked moov 1 ≡ track_asked bytes 1
unfolding accepted_w track_with track_asked
same_track = refl

asked_moov : ask_refusal moov (moov_alone 4096) 1 ≡ 0
unfolding accepted_w has_track ask_refusal
asked_moov = refl

asked_strictly_moov : ask_refusal moov (strictly (moov_alone 4096)) 1 ≡ 0
unfolding accepted_w has_track ask_refusal
asked_strictly_moov = refl

-- the same cases
pub film_w_moov : AllHold moov (moov_alone 4096) cases
film_w_moov =
    from_lists moov (moov_alone 4096) asked_moov asked_strictly_moov (ap samples_of same_track ∙ samples_w) (ap total_in same_track ∙ total_w) (ap scale_of same_track ∙ scale_w) (ap track_of same_track ∙ track_w)
    (ap (λ t. runs_of (table_of stts t)) same_track ∙ runs_w)
