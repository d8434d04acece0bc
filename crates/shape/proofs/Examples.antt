-- Small films and their refusals, by computation.
-- Assumes nothing.
use Prim.Native.Nat.{ℕ, ◌+◌, ◌*◌, ◌-◌, ◌/◌, ◌%◌}
use mathlib.Core.List.{List, [], ◌∷◌, ◌++◌, map}
use mathlib.Core.Path.{◌≡◌, refl}
use lib.ListN.{length, replicate}
use Rattle.bigendian.specs.BigEndian.{be_at}
use Rattle.atoms.specs.Kinds.{container, moov, trak, edts, mdia, minf, dinf, stbl, mvhd, tkhd, mdhd, hdlr, dref, elst, stts, stsc, stsz, stco, co64, stss, stsd, prfl, vide}
use Rattle.atoms.specs.Pieces.{pieces_after, total, filled_by, fitting}
use Rattle.atoms.specs.Atoms.{header_of, body_of, size_inside, size_top, size_in, of_kind}
use Rattle.atoms.specs.Tree.{all, everywhere}
use Rattle.presence.specs.Present.{one, at_most_one, one_offsets, tables, present}
use Rattle.leaves.specs.Leaves.{form_of, skipped, version_ok, holds_entries, size_entry, filled_with, sized_entries, size_ok, leaf_ok}
use Rattle.structure.specs.Profile.{first_before, of_version0, profile_in}
use Rattle.structure.specs.Source.{whole_file, moov_alone}
use Rattle.structure.specs.Track.{mdia_of, minf_of, stbl_of, table_of, offset_table, elst_of, dref_of, subtype_of, profile_of}
use Rattle.structure.specs.Movie.{moov_of, movie_profile}
use Rattle.limits.specs.Limits.{over_limits, too_many}
use Rattle.structure.specs.Rows.{some, first, or_else}
use Rattle.leaf_checks.specs.LeafChecks.{profile_ok, wrong_version, wrong_size, short_video_description, wrong_track_size}
use Rattle.shape.specs.Refusals.{file_too_long, one_moov, wrong_atoms, wrong_counts, file_rows}
use Rattle.shape.specs.MovieRows.{movie_rows, movie_refusal, refusal_of}

-- ---- how the films are made

abbrev word : ℕ → List ℕ
word n = n / 16777216 % 256 ∷ n / 65536 % 256 ∷ n / 256 % 256 ∷ n % 256 ∷ []

abbrev words : List ℕ → List ℕ
words [] = []
words (n ∷ l) = word n ++ words l

abbrev joined : List (List ℕ) → List ℕ
joined [] = []
joined (a ∷ l) = a ++ joined l

-- an atom of kind k with the body b; with a 64-bit size; with size 0
abbrev atom : ℕ → List ℕ → List ℕ
atom k b = word (8 + length b) ++ (word k ++ b)

abbrev wide_atom : ℕ → List ℕ → List ℕ
wide_atom k b = words (1 ∷ k ∷ 0 ∷ (16 + length b) ∷ []) ++ b

abbrev last_atom : ℕ → List ℕ → List ℕ
last_atom k b = words (0 ∷ k ∷ []) ++ b

abbrev free : ℕ
free = 0x66726565

abbrev soun : ℕ
soun = 0x736f756e

abbrev head : List ℕ
head = atom mvhd (replicate 100 0)

abbrev film : List ℕ → List ℕ
film b = atom moov (head ++ b)

-- a description of n bytes, and an stsd that counts c descriptions
abbrev description : ℕ → List ℕ
description n = word n ++ replicate (n - 4) 0

abbrev descriptions : ℕ → List ℕ → List ℕ
descriptions c d = atom stsd (words (0 ∷ c ∷ []) ++ d)

abbrev good : List ℕ
good = descriptions 1 (description 36)

-- an stsz with that common size and count, and those sizes
abbrev sizes : ℕ → ℕ → List ℕ → List ℕ
sizes z n l = atom stsz (words (0 ∷ z ∷ n ∷ l))

abbrev same : List ℕ
same = sizes 100 4 []

abbrev handler : ℕ → ℕ → List ℕ
handler n k = atom hdlr (words (0 ∷ 0 ∷ k ∷ []) ++ replicate (n - 20) 0)

-- tables of chunk offsets, of 32 and of 64 bits
abbrev short : List ℕ
short = atom stco (words (0 ∷ 1 ∷ 1000 ∷ []))

abbrev long : List ℕ
long = atom co64 (words (0 ∷ 1 ∷ 0 ∷ 1000 ∷ []))

-- the body of an stbl, with its stsd, its stsz, its chunk offsets and what follows
abbrev in_stbl_with : List ℕ → List ℕ → List ℕ → List ℕ → List ℕ
in_stbl_with d z o more =
    joined (d ∷ atom stts (words (0 ∷ 1 ∷ 4 ∷ 30 ∷ [])) ∷ atom stsc (words (0 ∷ 1 ∷ 1 ∷ 4 ∷ 1 ∷ [])) ∷ z ∷ o ∷ more ∷ [])

abbrev in_stbl : List ℕ → List ℕ → List ℕ → List ℕ
in_stbl d z more = in_stbl_with d z short more

-- a data reference of n bytes, and a dinf whose dref counts c references
abbrev reference : ℕ → List ℕ
reference n = word n ++ replicate (n - 4) 1

abbrev references : ℕ → List ℕ → List ℕ
references c r = atom dinf (atom dref (words (0 ∷ c ∷ []) ++ r))

abbrev one12 : List ℕ
one12 = references 1 (reference 12)

-- the media with that handler, dinf and body of stbl
abbrev media_with : List ℕ → List ℕ → List ℕ → List ℕ
media_with h r s = atom mdia (joined (atom mdhd (replicate 24 0) ∷ h ∷ atom minf (r ++ atom stbl s) ∷ []))

abbrev media : List ℕ → List ℕ → List ℕ
media h s = media_with h one12 s

abbrev head92 : List ℕ
head92 = atom tkhd (replicate 84 0)

-- a track with those tables; with that media and what precedes and follows it
abbrev track_of : List ℕ → List ℕ → List ℕ → List ℕ
track_of before m more = atom trak (joined (before ∷ head92 ∷ m ∷ more ∷ []))

abbrev track : List ℕ → List ℕ → List ℕ → List ℕ
track d z more = track_of [] (media (handler 32 vide) (in_stbl d z more)) []

abbrev plain : List ℕ
plain = media (handler 32 vide) (in_stbl good same [])

-- a track with that dinf
abbrev referring : List ℕ → List ℕ
referring r = track_of [] (media_with (handler 32 vide) r (in_stbl good same [])) []

-- a film of one track with those chunk offsets
abbrev placed : List ℕ → List ℕ
placed o = film (track_of [] (media (handler 32 vide) (in_stbl_with good same o [])) [])

-- a prfl of n records
abbrev profile : ℕ → List ℕ
profile n = atom prfl (words (0 ∷ n ∷ []) ++ replicate (16 * n) 0)

-- ---- films and their refusals

abbrev cases : List (List ℕ × ℕ)
cases =
    -- no track; one; a 64-bit moov; a moov to the end; atoms that are skipped, around and in it
    (film [], 0)
    ∷ (film (track good same []), 0)
    ∷ (wide_atom moov (head ++ track good same []), 0)
    ∷ (last_atom moov (head ++ track good same []), 0)
    ∷ (atom free [] ++ (film (atom free (1 ∷ []) ++ track good same (atom free (2 ∷ []))) ++ atom free (3 ∷ [])), 0)
    -- nothing; no mvhd; three bytes that remain
    ∷ ([], 3)
    ∷ (atom moov [], 3)
    ∷ (film [] ++ (0 ∷ 0 ∷ 0 ∷ []), 2)
    -- a second moov; a broken child in it comes first
    ∷ (film [] ++ film [], 3)
    ∷ (film [] ++ atom moov (head ++ (0 ∷ 0 ∷ 0 ∷ [])), 2)
    -- a second mvhd; no mdia; an edts with an edit list and without one; an elst outside edts is skipped
    ∷ (film head, 3)
    ∷ (film (track_of [] [] []), 3)
    ∷ (film (track_of [] plain (atom edts (atom elst (words (0 ∷ 0 ∷ []))))), 0)
    ∷ (film (track_of [] plain (atom edts [])), 3)
    ∷ (film (track_of [] plain (atom elst (1 ∷ []))), 0)
    -- no stsz; a table in the wrong parent is skipped
    ∷ (film (track good [] []), 3)
    ∷ (film (track_of (atom stsz (1 ∷ [])) plain []), 0)
    -- a version byte; an empty body has none; 4 in the second track comes before 5 in the first
    ∷ (film (track good same (atom stss (1 ∷ []))), 4)
    ∷ (film (track good same (atom stss [])), 5)
    ∷ (film (track good same (atom stss []) ++ track good same (atom stss (1 ∷ []))), 4)
    -- an hdlr of 31 bytes; an entry more than is counted
    ∷ (film (track_of [] (media (handler 31 vide) (in_stbl good same [])) []), 5)
    ∷ (film (track good same (atom stss (words (0 ∷ 1 ∷ 1 ∷ 1 ∷ [])))), 5)
    -- stsz: sizes only if the common size is 0
    ∷ (film (track good (sizes 0 2 (7 ∷ 8 ∷ [])) []), 0)
    ∷ (film (track good (sizes 0 2 []) []), 5)
    ∷ (film (track good (sizes 100 2 (7 ∷ 8 ∷ [])) []), 5)
    -- descriptions: none; 36 bytes in a track of pictures and 16 in another; underfull and overfull
    ∷ (film (track (descriptions 0 []) same []), 0)
    ∷ (film (track (descriptions 1 (description 35)) same []), 5)
    ∷ (film (track_of [] (media (handler 32 soun) (in_stbl (descriptions 1 (description 16)) same [])) []), 0)
    ∷ (film (track_of [] (media (handler 32 soun) (in_stbl (descriptions 1 (description 15)) same [])) []), 5)
    ∷ (film (track (descriptions 2 (description 36)) same []), 5)
    ∷ (film (track (descriptions 1 (description 36 ++ description 36)) same []), 5)
    -- dinf: none; two; without dref; a dref in minf is skipped; version 1; an entry of 11 bytes; underfull and overfull; 65 references
    ∷ (film (referring []), 3)
    ∷ (film (referring (one12 ++ one12)), 3)
    ∷ (film (referring (atom dinf [])), 3)
    ∷ (film (referring (atom dref (1 ∷ []) ++ one12)), 0)
    ∷ (film (referring (atom dinf (atom dref (1 ∷ [])))), 4)
    ∷ (film (referring (references 0 [])), 0)
    ∷ (film (referring (references 1 (reference 11))), 5)
    ∷ (film (referring (references 2 (reference 12 ++ reference 30))), 0)
    ∷ (film (referring (references 2 (reference 12))), 5)
    ∷ (film (referring (references 1 (reference 12 ++ reference 12))), 5)
    ∷ (film (referring (references 65 (joined (replicate 65 (reference 12))))), 6)
    -- a profile: an empty body; after mvhd; of another version, also before a broken one; too short; 64 and 65 records
    ∷ (atom moov (atom prfl [] ++ head), 5)
    ∷ (film (atom prfl []), 0)
    ∷ (atom moov (atom prfl (1 ∷ []) ++ (atom prfl [] ++ head)), 0)
    ∷ (atom moov (atom prfl (0 ∷ []) ++ head), 5)
    ∷ (atom moov (profile 64 ++ head), 0)
    ∷ (atom moov (profile 65 ++ head), 6)
    ∷ (film (track_of (atom prfl []) plain []), 5)
    ∷ (film (track_of [] plain (atom prfl [])), 0)
    -- limits: samples, descriptions; 5 in the second track comes before 6 in the first
    ∷ (film (track good (sizes 100 1048577 []) []), 6)
    ∷ (film (track_of [] (media (handler 32 soun) (in_stbl (descriptions 65 (joined (replicate 65 (description 16)))) same [])) []), 6)
    ∷ (film (track good (sizes 100 1048577 []) [] ++ track (descriptions 1 (description 35)) same []), 5)
    -- co64 is not read in a whole file: beside stco it may be anything, and it does not stand for stco
    ∷ (placed (short ++ atom co64 (1 ∷ [])), 0)
    ∷ (placed long, 3)
    ∷ []

results : map (λ e. refusal_of whole_file e.0) cases ≡ map (λ e. e.1) cases
unfolding be_at container pieces_after total filled_by fitting header_of body_of size_inside size_top size_in of_kind all everywhere one at_most_one one_offsets tables present form_of skipped version_ok holds_entries size_entry filled_with sized_entries size_ok leaf_ok first_before of_version0 profile_in profile_ok mdia_of minf_of stbl_of table_of offset_table elst_of dref_of subtype_of profile_of moov_of movie_profile over_limits too_many some first or_else wrong_version wrong_size short_video_description wrong_track_size file_too_long one_moov wrong_atoms wrong_counts file_rows movie_rows movie_refusal refusal_of
results = refl

-- moovs alone, with how much longer than them their file is
abbrev moovs : List (ℕ × List ℕ × ℕ)
moovs =
    -- a moov, with each header; with stco, with co64
    (0, film [], 0)
    ∷ (1000, wide_atom moov head, 0)
    ∷ (1000, last_atom moov head, 0)
    ∷ (1000, placed short, 0)
    ∷ (1000, placed long, 0)
    -- both, neither, two of one
    ∷ (1000, placed (short ++ long), 3)
    ∷ (1000, placed [], 3)
    ∷ (1000, placed (long ++ long), 3)
    -- co64 is a read leaf: its version and its size
    ∷ (1000, placed (atom co64 (1 ∷ [])), 4)
    ∷ (1000, placed (atom co64 (words (0 ∷ 1 ∷ 1000 ∷ []))), 5)
    -- nothing; another atom; something before, after, another moov, bytes that remain; an empty moov
    ∷ (1000, [], 2)
    ∷ (1000, atom free [], 2)
    ∷ (1000, atom free [] ++ film [], 2)
    ∷ (1000, film [] ++ atom free [], 2)
    ∷ (1000, film [] ++ film [], 2)
    ∷ (1000, film [] ++ (0 ∷ 0 ∷ 0 ∷ []), 2)
    ∷ (1000, atom moov [], 3)
    -- a length of 2^63 bytes, and one below: the moov has 116
    ∷ (9223372036854775692, film [], 1)
    ∷ (9223372036854775691, film [], 0)
    ∷ []

of_moovs : map (λ e. refusal_of (moov_alone (length e.1 + e.0)) e.1) moovs ≡ map (λ e. e.2) moovs
unfolding be_at container pieces_after total filled_by fitting header_of body_of size_inside size_top size_in of_kind all everywhere one at_most_one one_offsets tables present form_of skipped version_ok holds_entries size_entry filled_with sized_entries size_ok leaf_ok first_before of_version0 profile_in profile_ok mdia_of minf_of stbl_of table_of offset_table elst_of dref_of subtype_of profile_of moov_of movie_profile over_limits too_many some first or_else wrong_version wrong_size short_video_description wrong_track_size file_too_long one_moov wrong_atoms wrong_counts file_rows movie_rows movie_refusal refusal_of
of_moovs = refl

-- a file said to be a byte shorter than its moov
too_short : refusal_of (moov_alone 115) (film []) ≡ 1
unfolding be_at file_too_long file_rows first or_else refusal_of
too_short = refl
