-- Films whose tracks agree in their lists and fields get the same answers: the definitions of the questions read no more of a film than that.
-- Assumes nothing.
use Prim.Native.Nat.{ℕ, suc}
use mathlib.Core.Path.{◌≡◌, refl, ap, ◌∙◌}
use mathlib.Core.List.{List, [], ◌∷◌, map}
use mathlib.Core.Bool.{Bool, true, false, cond}
use native.Mathlib.Omega.{arith}
use lib.ListN.{length, length-map}
use lib.IntN.{ℤ}
use lib.Dec.{eqb}
use Rattle.atoms.specs.Kinds.{ctts, stsz, vide}
use Rattle.edits.specs.declared.MediaTime.{MediaTime}
use Rattle.edits.specs.declared.MovieTime.{MovieTime}
use Rattle.structure.specs.declared.source.Source.{Source}
use Rattle.structure.specs.Source.{strictly}
use Rattle.structure.specs.Rows.{never, some, first}
use Rattle.structure.specs.Track.{id_of, subtype_of, scale_of, duration_of, table_of, elst_of, profile_of, samples_of, chunks_of, edits_of, descriptions_of}
use Rattle.structure.proofs.Callers.{Each}
use Rattle.structure.specs.Movie.{moov_of, tracks_of, movie_scale, movie_profile}
use Rattle.words.specs.Words.{listed}
use Rattle.pairs.specs.Pairs.{flat}
use Rattle.track.specs.Track.{track_of}
use Rattle.track.specs.Refusals.{total_in}
use Rattle.movie.specs.Rooms.{room_after}
use Rattle.movie.specs.Refusals.{film_refusal}
use Rattle.movie.specs.Tracks.{with_id, has_track, track_with}
use Rattle.track_list.specs.TrackList.{line_of, lines_of, track_lines, list_refusal, list_answer}
use Rattle.questions.specs.Asked.{ask_refusal, track_asked}
use Rattle.questions.specs.Samples.{sample_refusal, sample_answer}
use Rattle.time_questions.specs.Times.{at_refusal, at_number, mapped_in, mapped_of, map_answer}
use Rattle.feature_questions.specs.Feature.{feature_answer, peak_answer}
use Rattle.movie_times.specs.Header.{movie_duration, movie_answer}
use Rattle.movie_times.specs.Entries.{edit_numbers, edits_asked, edits_refusal, edits_answer}
use Rattle.profiles.specs.Profiles.{profile_asked, profile_numbers, profile_refusal, profile_answer}
use Rattle.profile_checks.specs.Checks.{check_answer}
use Rattle.stretch.specs.Stretches.{stretch_pairs, span_refusal, stretch_refusal, stretch_answer}
use Rattle.slip_writing.specs.Slips.{slip_head, slip_of_stretch, slip_refusal, slip_answer}
use Rattle.quay_tracks.specs.Profile.{all_of, other_tracks, many_edits, other_descriptions, has_ctts, few_syncs, zero_size, zero_duration, chunks_disordered, too_many_frames, quay_rules}
use Rattle.quay.specs.Quay.{breaks, first_breaking, broken_rule, breaking_track, quay_verdict, quay_answer}
use Rattle.return_totals.specs.Returns.{Return}
use Rattle.film_return.specs.Films.{totals_of, with_film, filed_refusal, filed_return}
use Rattle.ways.specs.Agree.{SameAnswers}

-- what the questions read of a track
pub record SameTrack (t u : List ℕ) : Type 0 where
  pub lists : track_of u ≡ track_of t
  pub id : id_of u ≡ id_of t
  pub subtype : subtype_of u ≡ subtype_of t
  pub scale : scale_of u ≡ scale_of t
  pub stored : duration_of u ≡ duration_of t
  pub total : total_in u ≡ total_in t
  pub samples : samples_of u ≡ samples_of t
  pub chunks : chunks_of u ≡ chunks_of t
  pub edits : edits_of u ≡ edits_of t
  pub descriptions : descriptions_of u ≡ descriptions_of t
  pub elst : elst_of u ≡ elst_of t
  pub shifts : table_of ctts u ≡ table_of ctts t
  pub sizes : table_of stsz u ≡ table_of stsz t
  pub profile : profile_of u ≡ profile_of t

pub same_refl : (t : List ℕ) → SameTrack t t
same_refl t = record {
  lists = refl;
  id = refl;
  subtype = refl;
  scale = refl;
  stored = refl;
  total = refl;
  samples = refl;
  chunks = refl;
  edits = refl;
  descriptions = refl;
  elst = refl;
  shifts = refl;
  sizes = refl;
  profile = refl;
}

-- ---- lists of tracks, c being what became of one

module _ (P : List ℕ → Type 0) where
  first_of : (t : List ℕ) (ts : List (List ℕ)) → Each P (t ∷ ts) → P t
  first_of t ts h = h 0 (omega arith)

  rest_of : (t : List ℕ) (ts : List (List ℕ)) → Each P (t ∷ ts) → Each P ts
  rest_of t ts h = λ i g. h (suc i) (omega arith)

  -- what is the same of each is the same of some, and in a list
  pub some_same : (c : List ℕ → List ℕ) (f : List ℕ → Bool) → ((t : List ℕ) → P t → f (c t) ≡ f t) → (ts : List (List ℕ)) → Each P ts → some f (map c ts) ≡ some f ts
  unfolding some
  some_same c f g [] h = refl
  some_same c f g (t ∷ ts) h = rw (g t (first_of t ts h), some_same c f g ts (rest_of t ts h))

  map_same : {A : Type 0} (c : List ℕ → List ℕ) (f : List ℕ → A) → ((t : List ℕ) → P t → f (c t) ≡ f t) → (ts : List (List ℕ)) → Each P ts → map f (map c ts) ≡ map f ts
  map_same c f g [] h = refl
  map_same c f g (t ∷ ts) h = rw (g t (first_of t ts h), map_same c f g ts (rest_of t ts h))

module _ (c : List ℕ → List ℕ) where
  abbrev Kept : List ℕ → Type 0
  Kept t = SameTrack t (c t)

  abbrev pub Same : List (List ℕ) → Type 0
  Same ts = Each Kept ts

  pub ids_same : (ts : List (List ℕ)) → Same ts → map id_of (map c ts) ≡ map id_of ts
  ids_same = map_same Kept c id_of (λ t h. h.id)

  totals_same : (ts : List (List ℕ)) → Same ts → map totals_of (map c ts) ≡ map totals_of ts
  unfolding totals_of
  totals_same = map_same Kept c totals_of (λ t h. rw (h.scale, h.total, h.samples, h.sizes))

  -- the track with an ID
  pub with_same : (R : List ℕ → List ℕ → Type 0) → R [] [] → (id : ℕ) (ts : List (List ℕ)) → Each (λ t. (id_of (c t) ≡ id_of t) × R t (c t)) ts
      → R (with_id id ts) (with_id id (map c ts))
  with_same R e id [] h = e
  with_same R e id (t ∷ ts) h =
      rw (h 0 (omega arith)).0 (go (eqb (id_of t) id) (with_same R e id ts (rest_of (λ t. (id_of (c t) ≡ id_of t) × R t (c t)) t ts h)))
    where
      go : (b : Bool) → R (with_id id ts) (with_id id (map c ts)) → R (cond b t (with_id id ts)) (cond b (c t) (with_id id (map c ts)))
      go true r = (h 0 (omega arith)).1
      go false r = r

  lines_same : (ts : List (List ℕ)) → Same ts → lines_of (map c ts) ≡ lines_of ts
  unfolding line_of
  lines_same [] h = refl
  lines_same (t ∷ ts) h = let s = first_of Kept t ts h in rw (s.id, s.subtype, s.scale, s.total, s.samples, s.chunks, s.edits, s.stored, lines_same ts (rest_of Kept t ts h))

  subtypes_same : (k : ℕ) (ts : List (List ℕ)) → Same ts → all_of k (map c ts) ≡ all_of k ts
  subtypes_same k [] h = refl
  subtypes_same k (t ∷ ts) h = rw ((first_of Kept t ts h).subtype, subtypes_same k ts (rest_of Kept t ts h))

  -- the rules of the quay film profile
  breaks_same : (movie k : ℕ) (t : List ℕ) → SameTrack t (c t) → breaks (quay_rules movie) k (c t) ≡ breaks (quay_rules movie) k t
  unfolding breaks quay_rules many_edits other_descriptions has_ctts few_syncs zero_size zero_duration chunks_disordered too_many_frames
  breaks_same movie k t s = rw (s.lists, s.edits, s.descriptions, s.shifts)

  breaking_same : (movie k : ℕ) (ts : List (List ℕ)) → Same ts → first_breaking (quay_rules movie) k (map c ts) ≡ first_breaking (quay_rules movie) k ts
  unfolding first_breaking
  breaking_same movie k [] h = refl
  breaking_same movie k (t ∷ ts) h = rw (breaks_same movie k t (first_of Kept t ts h), (first_of Kept t ts h).id, breaking_same movie k ts (rest_of Kept t ts h))

-- ---- two films: m and v are what became of s and w

pub record SameFilm (s m : List ℕ) (w v : Source) : Type 0 where
  pub refusal : film_refusal m v ≡ film_refusal s w
  pub strict : film_refusal m (strictly v) ≡ film_refusal s (strictly w)
  pub became : List ℕ → List ℕ
  pub tracks : tracks_of (moov_of m) ≡ map became (tracks_of (moov_of s))
  pub each : Same became (tracks_of (moov_of s))
  pub scale : movie_scale (moov_of m) ≡ movie_scale (moov_of s)
  pub profile : movie_profile (moov_of m) ≡ movie_profile (moov_of s)
  pub duration : movie_duration (moov_of m) ≡ movie_duration (moov_of s)

-- read strictly too
pub strict_film : (s m : List ℕ) (w v : Source) → SameFilm s m w v → SameFilm s m (strictly w) (strictly v)
strict_film s m w v f = record {
  refusal = f.strict;
  strict = f.strict;
  became = f.became;
  tracks = f.tracks;
  each = f.each;
  scale = f.scale;
  profile = f.profile;
  duration = f.duration;
}

module _ (s m : List ℕ) (w v : Source) (f : SameFilm s m w v) where
  has_same : (id : ℕ) → has_track id (moov_of m) ≡ has_track id (moov_of s)
  unfolding has_track
  has_same id = ap (listed id) (ap (map id_of) f.tracks ∙ ids_same f.became (tracks_of (moov_of s)) f.each)

  ask : (id : ℕ) → ask_refusal m v id ≡ ask_refusal s w id
  unfolding ask_refusal
  ask id = rw (f.refusal, has_same id)

  ask_strict : (id : ℕ) → ask_refusal m (strictly v) id ≡ ask_refusal s (strictly w) id
  unfolding ask_refusal
  ask_strict id = rw (f.strict, has_same id)

  pub asked : (id : ℕ) → SameTrack (track_asked s id) (track_asked m id)
  unfolding track_asked track_with
  asked id = rw f.tracks (with_same f.became SameTrack (same_refl []) id (tracks_of (moov_of s)) (λ i g. ((f.each i g).id, f.each i g)))

  sample : (id n : ℕ) → sample_answer m v id n ≡ sample_answer s w id n
  unfolding sample_refusal
  sample id n = rw (ask id, (asked id).lists, (asked id).samples)

  -- but for the entries taken in
  sample_at : (id : ℕ) (t : MediaTime) → (at_refusal m v id t ≡ at_refusal s w id t) × (at_number m id t ≡ at_number s id t)
  unfolding at_refusal at_number
  sample_at id t = (rw (ask id, (asked id).total) refl, rw (asked id).lists refl)

  media_time : (id : ℕ) (t : MovieTime) → map_answer m v id t ≡ map_answer s w id t
  unfolding mapped_of mapped_in
  media_time id t = rw (ask id, f.scale, (asked id).scale, (asked id).total, (asked id).elst)

  feature : (id code : ℕ) → feature_answer m v id code ≡ feature_answer s w id code
  feature id code = rw (ask id, f.scale, (asked id).lists)

  peak : (id code : ℕ) → peak_answer m v id code ≡ peak_answer s w id code
  peak id code = rw (ask id, (asked id).lists)

  movie : movie_answer m v ≡ movie_answer s w
  movie = rw (f.refusal, f.scale, f.duration)

  edits-asked : (id : ℕ) → edits_asked m id ≡ edits_asked s id
  unfolding edits_asked
  edits-asked id = ap (λ t. t.edits) (asked id).lists

  edits : (id : ℕ) (room : List ℤ) → (edits_answer m v id room ≡ edits_answer s w id room)
      × (room_after (edits_refusal m v id room) (edit_numbers (edits_asked m id)) room ≡ room_after (edits_refusal s w id room) (edit_numbers (edits_asked s id)) room)
  unfolding edits_refusal
  edits id room = (rw (ask id, edits-asked id) refl, rw (ask id, edits-asked id) refl)

  profile-asked : (id : ℕ) → profile_asked m id ≡ profile_asked s id
  unfolding profile_asked
  profile-asked id = rw (f.profile, (asked id).profile)

  profile : (id : ℕ) (room : List ℕ) → (profile_answer m v id room ≡ profile_answer s w id room)
      × (room_after (profile_refusal m v id room) (profile_numbers m id) room ≡ room_after (profile_refusal s w id room) (profile_numbers s id) room)
  unfolding profile_refusal profile_numbers
  profile id room = (rw (f.refusal, ask id, profile-asked id) refl, rw (f.refusal, ask id, profile-asked id) refl)

  profile_check : (id : ℕ) → check_answer m v id ≡ check_answer s w id
  profile_check id = rw (ask id, f.scale, (asked id).lists)

  stretch : (id : ℕ) (a b : MediaTime) (room : List ℕ) → (stretch_answer m v id a b room ≡ stretch_answer s w id a b room)
      × (room_after (stretch_refusal m v id a b room) (flat (stretch_pairs m id a b)) room ≡ room_after (stretch_refusal s w id a b room) (flat (stretch_pairs s id a b)) room)
  unfolding stretch_refusal span_refusal stretch_pairs
  stretch id a b room = (rw (ask id, (asked id).lists, (asked id).total) refl, rw (ask id, (asked id).lists, (asked id).total) refl)

  slip : (id : ℕ) (a b : MediaTime) (out : List ℕ) → (slip_answer m v id a b out ≡ slip_answer s w id a b out)
      × (room_after (slip_refusal m v id a b out) (slip_of_stretch m id a b) out ≡ room_after (slip_refusal s w id a b out) (slip_of_stretch s id a b) out)
  unfolding slip_refusal span_refusal slip_of_stretch slip_head stretch_pairs
  slip id a b out = (rw (ask_strict id, (asked id).lists, (asked id).total, (asked id).scale) refl, rw (ask_strict id, (asked id).lists, (asked id).total, (asked id).scale) refl)

  lines : track_lines m ≡ track_lines s
  unfolding track_lines
  lines = ap lines_of f.tracks ∙ lines_same f.became (tracks_of (moov_of s)) f.each

  many : length (tracks_of (moov_of m)) ≡ length (tracks_of (moov_of s))
  many = ap length f.tracks ∙ length-map (tracks_of (moov_of s)) f.became

  tracks : (room : List ℕ) → (list_answer m v room ≡ list_answer s w room)
      × (room_after (list_refusal m v room) (track_lines m) room ≡ room_after (list_refusal s w room) (track_lines s) room)
  unfolding list_refusal
  tracks room = (rw (f.refusal, lines, many) refl, rw (f.refusal, lines) refl)

  wholes_same : other_tracks (moov_of m) ≡ other_tracks (moov_of s)
  unfolding other_tracks
  wholes_same = rw (f.tracks, length-map (tracks_of (moov_of s)) f.became, subtypes_same f.became vide (tracks_of (moov_of s)) f.each)

  of_tracks : (g : List ℕ → Bool) → ((t : List ℕ) → SameTrack t (f.became t) → g (f.became t) ≡ g t) → some g (tracks_of (moov_of m)) ≡ some g (tracks_of (moov_of s))
  of_tracks g h = ap (some g) f.tracks ∙ some_same (Kept f.became) f.became g h (tracks_of (moov_of s)) f.each

  rule_same : broken_rule (moov_of m) ≡ broken_rule (moov_of s)
  unfolding broken_rule quay_rules first many_edits other_descriptions has_ctts few_syncs zero_size zero_duration chunks_disordered too_many_frames
  rule_same =
      rw (
        f.scale,
        wholes_same,
        of_tracks never (λ t h. refl),
        of_tracks many_edits (λ t h. rw h.edits refl),
        of_tracks other_descriptions (λ t h. rw h.descriptions refl),
        of_tracks has_ctts (λ t h. rw h.shifts refl),
        of_tracks few_syncs (λ t h. rw h.lists refl),
        of_tracks zero_size (λ t h. rw h.lists refl),
        of_tracks zero_duration (λ t h. rw h.lists refl),
        of_tracks chunks_disordered (λ t h. rw h.lists refl),
        of_tracks (too_many_frames (movie_scale (moov_of s))) (λ t h. rw h.lists refl),
      )

  track_same : breaking_track (moov_of m) ≡ breaking_track (moov_of s)
  unfolding breaking_track
  track_same = rw (f.scale, rule_same, f.tracks) (breaking_same f.became (movie_scale (moov_of s)) (broken_rule (moov_of s)) (tracks_of (moov_of s)) f.each)

  quay : quay_answer m v ≡ quay_answer s w
  unfolding quay_verdict
  quay = rw (f.refusal, rule_same, track_same)

  film_filed : (r : Return) → with_film m v r ≡ with_film s w r
  unfolding with_film
  film_filed r = rw (f.refusal, f.tracks, totals_same f.became (tracks_of (moov_of s)) f.each)

  filed : (r : Return) → (filed_refusal r m v ≡ filed_refusal r s w) × (filed_return r m v ≡ filed_return r s w)
  unfolding filed_refusal filed_return
  filed r = (rw (film_filed r), rw (film_filed r))

  pub same_answers : SameAnswers s w m v
  same_answers = record {
    refusal = f.refusal;
    tracks = tracks;
    quay = quay;
    sample = sample;
    sample_at = sample_at;
    media_time = media_time;
    feature = feature;
    peak = peak;
    movie = movie;
    edits = edits;
    profile = profile;
    profile_check = profile_check;
    stretch = stretch;
    slip = slip;
    filed = filed;
  }
