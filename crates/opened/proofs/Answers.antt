-- The handle from what the code has of the track, and the answers by a handle from what the tables at its parts say.
-- Assumes nothing.
use Prim.Native.Nat.{ℕ}
use mathlib.Core.Path.{◌≡◌, refl, sym, ap, ◌∙◌}
use mathlib.Core.List.{List}
use Rattle.bigendian.specs.BigEndian.{u32_at}
use Rattle.structure.specs.declared.source.Source.{Source}
use Rattle.structure.specs.Track.{scale_of, elst_of, samples_of, chunks_of}
use Rattle.structure.specs.Movie.{moov_of, movie_scale}
use Rattle.track.specs.Refusals.{total_in}
use Rattle.edits.specs.Edits.{media_at}
use Rattle.edits.specs.declared.MediaTime.{MediaTime}
use Rattle.edits.specs.declared.MovieTime.{MovieTime}
use Rattle.places.specs.Places.{part_in, AreTables}
use Rattle.places.specs.declared.Part.{Part}
use Rattle.places.specs.declared.tables.Tables.{Tables}
use Rattle.questions.specs.Asked.{ask_refusal, track_asked}
use Rattle.questions.specs.Said.{sample_said}
use Rattle.questions.specs.declared.samples.Sample.{Sample}
use Rattle.questions.proofs.Said.{said_samples, said_15, said_few}
use Rattle.time_questions.specs.Said.{number_said}
use Rattle.time_questions.specs.Times.{to_answer}
use Rattle.time_questions.specs.declared.Numbered.{Numbered}
use Rattle.std.specs.Prelude.{Option, Result, Ok, Err}
use Rattle.refusals.specs.Refusals.{number}
use Rattle.refusals.specs.declared.Refusal.{Refusal}
use Rattle.refusals.proofs.Numbers.{err_refused}
use Rattle.movie.proofs.Refused.{not_zero}
use Rattle.time_questions.proofs.Mapping.{number_samples, number_15, number_few, is_mapped, time_15, time_low}
use Rattle.opened.specs.Opened.{OpenAnswers, SampleBy, NumberBy, TimeBy}
use Rattle.opened.specs.declared.Opened.{Opened}

-- ---- opening

pub open_refused : (s : List ℕ) (w : Source) (id : ℕ) (e : Refusal) → ask_refusal s w id ≡ number e → OpenAnswers s w id (Err e)
open_refused s w id e h = record { number = sym h; refused = λ y. rw h (err_refused e); opened = λ y. absurd (not_zero _ e h y) }

pub open_track : (s t z o k m : List ℕ) (w : Source) (id : ℕ) (p : Tables) (l : Part) (samples chunks scale movie total : ℕ) → ask_refusal s w id ≡ 0 → t ≡ track_asked s id
    → AreTables s t p → part_in s l ≡ elst_of t → k ≡ t → z ≡ part_in s p.stsz → o ≡ part_in s p.offsets → m ≡ moov_of s
    → samples ≡ u32_at z 16 → chunks ≡ u32_at o 12 → scale ≡ scale_of k → movie ≡ movie_scale m → total ≡ total_in k
    → OpenAnswers s w id (Ok (record { tables = p; elst = l; samples = samples; chunks = chunks; scale = scale; movie = movie; total = total }))
open_track s t z o k m w id p l samples chunks scale movie total q d a f g b c n h1 h2 h3 h4 h5 =
    record {
      number = sym q;
      refused = λ i. absurd (i q);
      opened = λ i. record {
        handle = record { tables = p; elst = l; samples = samples; chunks = chunks; scale = scale; movie = movie; total = total };
        answer = refl;
        opens = record {
          asked = q;
          tables = rw d at a;
          elst = f ∙ ap elst_of d;
          samples = h1 ∙ ap (λ (x : List ℕ). u32_at x 16) (b ∙ a.stsz) ∙ ap samples_of d;
          chunks = h2 ∙ ap (λ (x : List ℕ). u32_at x 12) (c ∙ a.offsets) ∙ ap chunks_of d;
          scale = h3 ∙ ap scale_of (g ∙ d);
          movie = h4 ∙ ap movie_scale n;
          total = h5 ∙ ap total_in (g ∙ d);
        };
      };
    }

-- ---- by a handle

pub by_sample : (s : List ℕ) (h : Opened) (n : ℕ) (a y c z o k : List ℕ) (r : Result Sample Refusal) → a ≡ part_in s h.tables.stts → y ≡ part_in s h.tables.ctts → c ≡ part_in s h.tables.stsc
    → z ≡ part_in s h.tables.stsz → o ≡ part_in s h.tables.offsets → k ≡ part_in s h.tables.stss → r ≡ sample_said a y c z o k h.samples h.chunks n → SampleBy s h n r
by_sample s h n a y c z o k r ea ey ec ez eo ek e =
    record {
      right = λ w id b.
          let t = b.tables in
          rw (e, ea ∙ t.stts, ey ∙ t.ctts, ec ∙ t.stsc, ez ∙ t.stsz, eo ∙ t.offsets, ek ∙ t.stss, b.samples, b.chunks) (said_samples s w id n b.asked);
      said = e ∙ rw (ea, ey, ec, ez, eo, ek);
      elsewhere = λ i q. said_15 a y c z o k h.samples h.chunks n i (sym e ∙ q);
      few = λ x q. let g = said_few a y c z o k h.samples h.chunks n x (sym e ∙ q) in (g.0, g.1);
      low = λ x q. let g = said_few a y c z o k h.samples h.chunks n x (sym e ∙ q) in (g.2, g.3, g.4);
    }

pub by_number : (s : List ℕ) (h : Opened) (t : MediaTime) (a : List ℕ) (r : Result Numbered Refusal) → a ≡ part_in s h.tables.stts → r ≡ number_said a h.samples t → NumberBy s h t r
by_number s h t a r ea e =
    record {
      right = λ w id b. rw (e, ea ∙ b.tables.stts, b.samples) (number_samples s w id t b.asked);
      said = e ∙ rw ea;
      elsewhere = λ i q. number_15 a h.samples t i (sym e ∙ q);
      few = λ n q. number_few a h.samples t n (sym e ∙ q);
    }

pub by_time : (s : List ℕ) (h : Opened) (t : MovieTime) (l : List ℕ) (r : Result (Option MediaTime) Refusal) → l ≡ part_in s h.elst → r ≡ to_answer (media_at h.scale h.movie h.total l t) → TimeBy s h t r
by_time s h t l r el e =
    record {
      right = λ w id b.
          is_mapped s (moov_of s) (track_asked s id) l w id t h.movie h.scale h.total b.asked refl refl b.movie (el ∙ b.elst) b.scale b.total r e;
      said = e ∙ rw el;
      elsewhere = λ i q. time_15 _ i (sym e ∙ q);
      low = λ m q. time_low h.scale h.movie h.total m l t (sym e ∙ q);
    }
