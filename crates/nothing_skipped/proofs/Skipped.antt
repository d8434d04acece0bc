-- Nothing is skipped: inside an entry the media time shown rises with movie time, by at most one where the media scale is no finer, and so does the sample
-- that holds it.
-- Assumes nothing.
use Prim.Native.Nat.{ℕ, zero, suc, ◌+◌, ◌-◌, ◌≤◌, ◌<◌}
use mathlib.Core.Path.{◌≡◌, refl, sym, ap, ◌∙◌}
use mathlib.Core.Bool.{true}
use mathlib.Core.List.{List}
use native.Mathlib.Omega.{arith}
use native.Mathlib.Decide.{dec_le}
use lib.ListN.{length, get_or, length-map}
use borrow.Author.Tests.{not-false}
use Rattle.lists.specs.Lists.{sum, before, holder, Holds}
use Rattle.lists.proofs.Places.{before_suc, before_le, holder_only, holder_mono, holds_below}
use Rattle.edits.specs.Edits.{edits, durations_of, edit_total, in_media, edits_ok, media_at}
use Rattle.edits.specs.declared.MediaTime.{MediaTime}
use Rattle.edits.specs.declared.Mapped.TheVariants.{Media}
use Rattle.edits.proofs.Turns.{edits_few}
use Rattle.edits.proofs.Sentences.{in_media_mono, in_media_step, media_shown, media_below}
use Rattle.structure.specs.declared.source.Source.{Source}
use Rattle.structure.specs.Track.{scale_of, elst_of}
use Rattle.structure.specs.Movie.{moov_of, movie_scale}
use Rattle.track.specs.Track.{track_of}
use Rattle.track.specs.Refusals.{total_in, wrong_edits}
use Rattle.questions.specs.Asked.{ask_refusal, track_asked}
use Rattle.questions.specs.Samples.{sample_of, sample_answer}
use Rattle.time_questions.specs.Times.{mapped_in, mapped_of, to_answer, at_answer, at_entry, map_answer}
use Rattle.questions.specs.declared.samples.Sample.{Sample}
use Rattle.questions.proofs.Asking.{asked}
use Rattle.theorems.proofs.Answers.{found_known, at_is, at_known}
use Rattle.nothing_skipped.specs.Shown.{no_entry, entries_of, entry_at, start_at, Inside, Met, MetBetween, OfTrack, NothingSkipped}
use Rattle.nothing_skipped.proofs.Rising.{Hits, hits_widths}
use Rattle.std.specs.Prelude.{Option, Some, Result, Ok}
use Rattle.refusals.specs.declared.Refusal.{Refusal}
use Rattle.time_questions.specs.declared.Numbered.{Numbered}

module _ (s : List ℕ) (w : Source) (id : ℕ) (e : ask_refusal s w id ≡ 0) where
  abbrev scale : ℕ
  scale = scale_of (track_asked s id)

  abbrev movie : ℕ
  movie = movie_scale (moov_of s)

  -- the durations of the samples
  abbrev times : List ℕ
  times = (track_of (track_asked s id)).durations

  -- and of the entries
  abbrev lengths : List ℕ
  lengths = durations_of (entries_of s id)

  right : edits_ok scale movie (total_in (track_asked s id)) (elst_of (track_asked s id)) ≡ true
  unfolding wrong_edits
  right = not-false _ (asked s w id e).track.edits

  -- the media time at t, in an entry that starts at `start` and shows media from `first` on
  abbrev place_at : ℕ → ℕ → ℕ → ℕ
  place_at start first t = first + in_media scale movie (t - start)

  rising : (start first t u : ℕ) → t ≤ u → place_at start first t ≤ place_at start first u
  rising start first t u o = omega (arith, in_media_mono scale movie (t - start) (u - start) (omega arith))

  rising_by_one : scale ≤ movie → (start first v : ℕ) → place_at start first (suc v) ≤ suc (place_at start first v)
  rising_by_one o start first v = elim (dec_le start v) [
    | yes l ↦ let q : suc v - start ≡ suc (v - start) = omega arith in omega (arith, ap (in_media scale movie) q, in_media_step scale movie (v - start) o)
    | no l ↦ let q : suc v - start ≡ v - start = omega arith in omega (arith, ap (in_media scale movie) q)
  ]

  module _ (k t : ℕ) (i : Inside s id k t) where
    holds : Holds lengths t k
    holds = record { from = i.from; to = omega (arith, i.to, before_suc lengths k) }

    is_k : k ≡ holder lengths t
    is_k = holder_only lengths t k holds

    some_list : length (elst_of (track_asked s id)) ≡ 0 → ⊥
    some_list z =
        omega (arith, (holds_below lengths t k holds).1, length-map (entries_of s id) (λ x. x.duration), edits_few (elst_of (track_asked s id)) 0 (omega arith))

    in_total : t < edit_total (elst_of (track_asked s id))
    unfolding edit_total
    in_total = (holds_below lengths t k holds).0

    -- the place, as the laws of edits have it
    place_is : i.first + in_media scale movie (t - before lengths (holder lengths t)) ≡ place_at (start_at s id k) i.first t
    place_is = ap (λ (j : ℕ). i.first + in_media scale movie (t - before lengths j)) (sym is_k)

    here : (entry_at s id (holder lengths t)).media ≡ (entry_at s id k).media
    here = ap (λ (j : ℕ). (entry_at s id j).media) (sym is_k)

    below : place_at (start_at s id k) i.first t < sum times
    unfolding total_in track_of
    below =
        omega (arith, place_is, media_below scale movie (total_in (track_asked s id)) (elst_of (track_asked s id)) some_list (record { 0 = t }) no_entry right in_total i.first (here ∙ i.shows))

    shown : map_answer s w id (record { 0 = t }) ≡ Ok (Some (record { 0 = place_at (start_at s id k) i.first t }))
    unfolding mapped_of mapped_in to_answer
    shown =
        rw e
        (ap to_answer (media_shown scale movie (total_in (track_asked s id)) (elst_of (track_asked s id)) some_list (record { 0 = t }) no_entry right in_total i.first (here ∙ i.shows))
        ∙ ap (λ (x : ℕ). Ok (Some (record { 0 = x }))) place_is)

    -- the sample met is the one that holds the place
    met_here : (n : ℕ) → n ≡ suc (holder times (place_at (start_at s id k) i.first t)) → Met s w id t n
    met_here n q = record {
      media = record { 0 = place_at (start_at s id k) i.first t };
      shown = shown;
      entry = at_entry s id (record { 0 = place_at (start_at s id k) i.first t });
      named = at_is s w id e _ below ∙ ap (λ (x : ℕ). Ok (record { sample = x; entry = at_entry s id (record { 0 = place_at (start_at s id k) i.first t }) })) (sym q);
    }

    met_is : (n : ℕ) → Met s w id t n → n ≡ suc (holder times (place_at (start_at s id k) i.first t))
    met_is n m =
        let q = shown in
        let r = m.shown in
        let p : m.media.0 ≡ place_at (start_at s id k) i.first t = cc in
        (at_known s w id e m.media n m.entry m.named).1 ∙ ap (λ (x : ℕ). suc (holder times x)) p

  -- all times of an entry show from the same media time on
  same_first : (k t u : ℕ) (i : Inside s id k t) (j : Inside s id k u) → i.first ≡ j.first
  same_first k t u i j = let p = i.shows in let q = j.shows in cc

  pub nothing_skipped : OfTrack s w id
  unfolding sample_of
  nothing_skipped = record {
    meets = λ k t i. (suc (holder times (place_at (start_at s id k) i.first t)), met_here k t i _ refl);
    rises = λ k t u n p i j o a b.
        let f = same_first k t u i j in
        let r = rising (start_at s id k) i.first t u o in
        let g = ap (λ (x : ℕ). holder times (place_at (start_at s id k) x u)) f in
        omega (arith, met_is k t i n a, met_is k u j p b, holder_mono times (place_at (start_at s id k) i.first t) (place_at (start_at s id k) i.first u) r, g);
    none_passed = λ c k t u n p j x i i₂ o a b l h y z.
        let d = found_known s w id e j x y in
        let f = same_first k t u i i₂ in
        let g = ap (λ (v : ℕ). place_at (start_at s id k) v u) f in
        let v = ap (holder times) g in
        let q : 0 < get_or times d.index 0 = omega (arith, z, ap (λ (m : Sample). m.duration) d.is) in
        let m =
        hits_widths (place_at (start_at s id k) i.first) (rising_by_one c (start_at s id k) i.first) times t u d.index o
        (rising (start_at s id k) i.first t u o)
        (omega (arith, g, below k u i₂))
        (omega (arith, met_is k t i n a, d.number))
        (omega (arith, met_is k u i₂ p b, d.number, v))
        q
        in
        let at_in : Inside s id k m.at = record { from = omega (arith, i.from, m.from); to = omega (arith, i₂.to, m.to); first = i.first; shows = i.shows } in
        record {
          at = m.at;
          from = m.from;
          to = m.to;
          inside = at_in;
          met = met_here k m.at at_in j (d.number ∙ ap suc (sym m.is));
        };
  }

pub skips_nothing : (s : List ℕ) (w : Source) → NothingSkipped s w
skips_nothing s w id e = nothing_skipped s w id e
