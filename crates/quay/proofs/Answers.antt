-- The answers of the question, from what the code has of the film's refusal and of its tracks.
-- Assumes nothing.
use Prim.Native.Nat.{ℕ, ◌<◌, ◌^◌}
use mathlib.Core.Path.{◌≡◌, refl, sym, ap, ◌∙◌}
use mathlib.Core.Bool.{true, false, not, ◌&&◌}
use mathlib.Core.List.{List, [], ◌∷◌}
use native.Mathlib.Omega.{arith}
use borrow.Author.Tests.{eq-eqb, ne_eqb, not-false}
use lib.Dec.{eqb}
use lib.ListN.{length, get_or}
use Rattle.lists.specs.Lists.{sum}
use Rattle.lists.proofs.Booleans.{or_right}
use Rattle.atoms.specs.Kinds.{stts, ctts, stsc, stss}
use Rattle.structure.specs.declared.source.Source.{Source}
use Rattle.structure.specs.Source.{length_of}
use Rattle.structure.specs.Track.{table_of, samples_of, chunks_of, descriptions_of}
use Rattle.structure.specs.Movie.{moov_of, movie_scale, tracks_of}
use Rattle.structure.specs.Rows.{first, of_whole}
use Rattle.structure.specs.ByTracks.{of_tracks}
use Rattle.structure.proofs.Rows.{by_tracks, earlier_zero}
use Rattle.structure.proofs.Callers.{track-at}
use Rattle.structure.proofs.Lengths.{track_short}
use Rattle.words.specs.Words.{syncs_agree}
use Rattle.chunks.specs.Chunks.{per_chunk, deals_contradict}
use Rattle.places.specs.Movies.{AreTraks}
use Rattle.places.specs.declared.moov.Traks.{Traks}
use Rattle.track.specs.Refusals.{miscounted, contradicts}
use Rattle.track.proofs.Agreed.{agreed_tables}
use Rattle.movie.specs.Refusals.{film_refusal}
use Rattle.movie.specs.Rooms.{refused_with}
use Rattle.movie.specs.Traks.{FewTraks}
use Rattle.movie.proofs.Traks.{few_traks}
use Rattle.movie.proofs.Accepted.{Accepted, accepted}
use Rattle.movie.proofs.Answers.{gives_err, gives_answer}
use Rattle.feature_questions.proofs.Askable.{accepted_computable, accepted_averaged}
use Rattle.quay_tracks.specs.Profile.{other_tracks, quay_rules}
use Rattle.quay_tracks.specs.Judged.{Judgeable}
use Rattle.quay.specs.Quay.{breaks, first_breaking, broken_rule, breaking_track, quay_verdict, quay_numbers, Checks}
use Rattle.quay.specs.Walk.{AllJudgeable, IsBroken}
use Rattle.quay.specs.declared.Broken.{Broken}
use Rattle.std.specs.Prelude.{Option, Some, None, Ok, Err}
use Rattle.refusals.specs.Refusals.{number}
use Rattle.refusals.specs.declared.Refusal.{Refusal}
use Rattle.quay.specs.declared.Breach.{Breach}
use Rattle.quay.proofs.Lowest.{quay_rise}

-- ---- what an accepted track has

syncs_right : (t : List ℕ) → contradicts t ≡ false → syncs_agree (table_of stss t) (samples_of t) ≡ true
unfolding contradicts
syncs_right t e =
    let n = samples_of t in
    let r₁ = or_right (miscounted n (table_of stts t)) _ e in
    let r₂ = or_right (not (eqb (length (table_of ctts t)) 0) && miscounted n (table_of ctts t)) _ r₁ in
    let r₃ = or_right (eqb (chunks_of t) 0 && not (eqb n 0)) _ r₂ in
    let r₄ = or_right (deals_contradict (table_of stsc t) (chunks_of t) (descriptions_of t)) _ r₃ in
    not-false _ (or_right (not (eqb (sum (per_chunk (table_of stsc t) (chunks_of t))) n)) _ r₄)

accepted_judgeable : (w : Source) (scale len : ℕ) (t : List ℕ) → Accepted w scale len t → length t < 2 ^ 32 → Judgeable scale t
accepted_judgeable w scale len t a l = record {
  syncs = syncs_right t a.agree;
  dealt = omega (arith, (agreed_tables t a.agree).dealt, a.shape.few_samples);
  computable = accepted_computable w scale len t a l;
  averaged = accepted_averaged w scale len t a l;
}

-- ---- the answers

pub refused_film : (s : List ℕ) (w : Source) (e : Refusal) → film_refusal s w ≡ number e → Checks s w (Err e)
unfolding quay_numbers
refused_film s w e h = gives_err quay_numbers (refused_with 2) (λ k. refl) (Ok (quay_verdict s)) (film_refusal s w) e h

-- no track has a condition of the first rule
pub first_of_none : (movie : ℕ) (ts : List (List ℕ)) → first_breaking (quay_rules movie) 1 ts ≡ 0
unfolding first_breaking breaks quay_rules
first_of_none movie [] = refl
first_of_none movie (t ∷ ts) = first_of_none movie ts

pub first_rule : (m : List ℕ) → other_tracks m ≡ true → broken_rule m ≡ 1
unfolding broken_rule first quay_rules
first_rule m e = rw e

pub later_rules : (m : List ℕ) → other_tracks m ≡ false → broken_rule m ≡ of_tracks (quay_rules (movie_scale m)) (tracks_of m)
unfolding broken_rule first quay_rules
later_rules m e = by_tracks 0 (quay_rules (movie_scale m)) m (tracks_of m) (quay_rise (movie_scale m)) ∙ earlier_zero (of_whole (quay_rules (movie_scale m)) m) _ (rw e)

module _ (s : List ℕ) (w : Source) (z : film_refusal s w ≡ 0) where
  answered : (a : Option Breach) → a ≡ quay_verdict s → Checks s w (Ok a)
  unfolding quay_numbers
  answered a q = gives_answer quay_numbers (refused_with 2) (λ k. refl) (Ok (quay_verdict s)) (film_refusal s w) (Ok a) z (ap Ok q)

  pub checked_few : (q : Traks) → AreTraks s (tracks_of (moov_of s)) q → FewTraks s (tracks_of (moov_of s)) q
  checked_few q a = few_traks s (tracks_of (moov_of s)) q a (accepted s w z).movie.shape.few_tracks

  pub all_judgeable : (movie : ℕ) → movie ≡ movie_scale (moov_of s) → AllJudgeable movie (tracks_of (moov_of s))
  all_judgeable movie q i h =
      let f = accepted s w z in
      let l : length (get_or (tracks_of (moov_of s)) i []) < 2 ^ 32 = rw (track-at (moov_of s) i) (omega (arith, track_short i s, f.shape.short)) in
      rw q (accepted_judgeable w (movie_scale (moov_of s)) (length_of w s) (get_or (tracks_of (moov_of s)) i []) (f.movie.tracks i h) l)

  pub breaks_first : other_tracks (moov_of s) ≡ true → Checks s w (Ok (Some (record { rule = 1; track = 0 })))
  unfolding quay_verdict breaking_track
  breaks_first o =
      let f = first_rule (moov_of s) o in
      answered (Some (record { rule = 1; track = 0 })) (rw (f, first_of_none (movie_scale (moov_of s)) (tracks_of (moov_of s))))

  module _ (o : other_tracks (moov_of s) ≡ false) (movie : ℕ) (q : movie ≡ movie_scale (moov_of s)) (b : Broken) (k : IsBroken movie (tracks_of (moov_of s)) b) where
    rule_is : b.rule ≡ broken_rule (moov_of s)
    rule_is = k.rule ∙ ap (λ (n : ℕ). of_tracks (quay_rules n) (tracks_of (moov_of s))) q ∙ sym (later_rules (moov_of s) o)

    track_is : b.id ≡ breaking_track (moov_of s)
    unfolding breaking_track
    track_is =
        k.id
        ∙ ap (λ (n : ℕ). first_breaking (quay_rules n) (of_tracks (quay_rules n) (tracks_of (moov_of s))) (tracks_of (moov_of s))) q
        ∙ ap (λ (n : ℕ). first_breaking (quay_rules (movie_scale (moov_of s))) n (tracks_of (moov_of s))) (sym (later_rules (moov_of s) o))

    pub keeps_all : b.rule ≡ 0 → Checks s w (Ok None)
    unfolding quay_verdict
    keeps_all y = answered None (rw (← rule_is, eq-eqb b.rule 0 y))

    pub breaks_one : (b.rule ≡ 0 → ⊥) → Checks s w (Ok (Some (record { rule = b.rule; track = b.id })))
    unfolding quay_verdict
    breaks_one y = answered (Some (record { rule = b.rule; track = b.id })) (rw (← rule_is, ne_eqb b.rule 0 y, track_is))
