-- What the answer says, as sentences.
-- Assumes nothing.
use Rattle.std.specs.Prelude.{Option, Some, None}
use Prim.Native.Nat.{ℕ, zero, suc, ◌+◌, ◌≤◌, ◌<◌}
use mathlib.Core.Path.{◌≡◌, refl, sym, ap, ◌∙◌}
use mathlib.Core.Logic.{◌⊎◌, inl, inr, ⊎_elim}
use mathlib.Core.Bool.{Bool, true, false, cond, ◌||◌}
use mathlib.Core.List.{List, [], ◌∷◌}
use native.Mathlib.Omega.{arith}
use native.Mathlib.Decide.{ℕ_discrete}
use borrow.Author.Tests.{eq-eqb, ne_eqb}
use lib.ListN.{length, get_or}
use Rattle.lists.proofs.Booleans.{or_left, or_right}
use Rattle.structure.specs.declared.source.Source.{Source}
use Rattle.structure.specs.Track.{id_of}
use Rattle.structure.specs.Movie.{moov_of, movie_scale, tracks_of}
use Rattle.structure.specs.Rows.{Row, some, rank, ranks_rise}
use Rattle.structure.specs.ByTracks.{of_track, of_tracks}
use Rattle.structure.proofs.Callers.{Clear, clear, some_none}
use Rattle.track.specs.Track.{track_of}
use Rattle.movie.specs.Refusals.{film_refusal}
use Rattle.features.specs.Features.{vfps, feature_of}
use Rattle.questions.specs.Asked.{track_asked}
use Rattle.questions.proofs.Own.{own_asked, own_itself}
use Rattle.feature_questions.specs.Feature.{to_value, feature_answer}
use Rattle.quay_rules.specs.Rules.{too_fast}
use Rattle.quay_tracks.specs.Profile.{other_tracks, too_many_frames, quay_rules}
use Rattle.quay.specs.Quay.{breaks, first_breaking, broken_rule, breaking_track, quay_verdict}
use Rattle.quay.specs.Sentences.{KeepsAll, FirstAt, Names, answered_too_fast, AnsweredExactly, QuayExactly}
use Rattle.std.specs.Prelude.{Option, Some, None, Result, Ok}
use Rattle.refusals.specs.declared.Refusal.{Refusal}
use Rattle.quay.specs.declared.Breach.{Breach}
use Rattle.quay.proofs.Lowest.{own_broken, own_lowest, earlier_is, quay_rise}
use Rattle.quay.proofs.Answers.{first_of_none, first_rule, later_rules}

-- ---- no rule is broken

clear_each : (m : List ℕ) (ts : List (List ℕ)) (i k : ℕ) → i < length ts → (rs : List Row) → Clear (λ r. r.whole m || some r.track ts) rs → breaks rs k (get_or ts i []) ≡ false
unfolding breaks
clear_each m ts i k h [] c = refl
clear_each m ts i k h (r ∷ rs) c = elim (ℕ_discrete r.number k) [
  | yes e ↦ rw (eq-eqb r.number k e) (some_none r.track ts i (or_right (r.whole m) _ c.0) h)
  | no e ↦ rw (ne_eqb r.number k e) (clear_each m ts i k h rs c.1)
]

first_clear : (m : List ℕ) (ts : List (List ℕ)) (movie : ℕ) → Clear (λ r. r.whole m || some r.track ts) (quay_rules movie) → other_tracks m ≡ false
unfolding quay_rules
first_clear m ts movie c = or_left (other_tracks m) _ c.0

keeps_if_none : (m : List ℕ) → broken_rule m ≡ 0 → KeepsAll m
unfolding broken_rule
keeps_if_none m e =
    let c = clear (λ r. r.whole m || some r.track (tracks_of m)) 0 (quay_rules (movie_scale m)) (quay_rise (movie_scale m)) e in
    record { movie = first_clear m (tracks_of m) (movie_scale m) c; each = λ i k h. clear_each m (tracks_of m) i k h (quay_rules (movie_scale m)) c }

none_of_tracks : (n : ℕ) (rs : List Row) → ranks_rise n rs ≡ true → (ts : List (List ℕ)) → ((i k : ℕ) → i < length ts → breaks rs k (get_or ts i []) ≡ false) → of_tracks rs ts ≡ 0
unfolding of_tracks
none_of_tracks n rs h [] f = refl
none_of_tracks n rs h (t ∷ ts) f =
    let r = none_of_tracks n rs h ts (λ i k g. f (suc i) k (omega arith)) in
    elim (ℕ_discrete (of_track rs t) 0) [
      | yes e ↦ ⊎_elim (λ w. w.0 ∙ e) (λ w. w.0 ∙ r) (earlier_is (of_track rs t) (of_tracks rs ts))
      | no e ↦ let a = own_broken t n rs h e in let b = f 0 (of_track rs t) (omega arith) in let z : ◌≡◌ {A = ℕ} 0 1 = cc in absurd (omega arith)
    ]

none_if_keeps : (m : List ℕ) → KeepsAll m → broken_rule m ≡ 0
none_if_keeps m k = later_rules m k.movie ∙ none_of_tracks 0 (quay_rules (movie_scale m)) (quay_rise (movie_scale m)) (tracks_of m) k.each

-- a yes
module _ (s : List ℕ) where
  yes_if : KeepsAll (moov_of s) → quay_verdict s ≡ None
  unfolding quay_verdict
  yes_if k = rw (eq-eqb (broken_rule (moov_of s)) 0 (none_if_keeps (moov_of s) k))

  yes_only : quay_verdict s ≡ None → KeepsAll (moov_of s)
  unfolding quay_verdict
  yes_only e = elim (ℕ_discrete (broken_rule (moov_of s)) 0) [
    | yes z ↦ keeps_if_none (moov_of s) z
    | no z ↦
        let y : ◌≡◌ {A = Option Breach} (Some (record { rule = broken_rule (moov_of s); track = breaking_track (moov_of s) })) None = rw (ne_eqb (broken_rule (moov_of s)) 0 z) at e in
        let w : ◌≡◌ {A = ℕ} 0 1 = cc in absurd (omega arith)
  ]

-- ---- a rule is broken

module _ (n : ℕ) (rs : List Row) (h : ranks_rise n rs ≡ true) where
  -- where one of some tracks breaks a rule, the first of them is named
  first_at : (k : ℕ) (ts : List (List ℕ)) (i : ℕ) → i < length ts → breaks rs k (get_or ts i []) ≡ true → (place : ℕ) × FirstAt rs k ts (first_breaking rs k ts) place
  unfolding first_breaking
  first_at k [] i g b = absurd (omega arith)
  first_at k (t ∷ ts) i g b = here (breaks rs k t) refl (λ q. let x = later i g b q in first_at k ts x.0 x.1.0 x.1.1)
    where
      later : (i : ℕ) → i < suc (length ts) → breaks rs k (get_or (t ∷ ts) i []) ≡ true → breaks rs k t ≡ false → (j : ℕ) × ((j < length ts) × (breaks rs k (get_or ts j []) ≡ true))
      later zero g b q = let y : ◌≡◌ {A = ℕ} 0 1 = cc in absurd (omega arith)
      later (suc j) g b q = (j, (omega arith, b))

      before : (place : ℕ) → breaks rs k t ≡ false → ((j : ℕ) → j < place → breaks rs k (get_or ts j []) ≡ false) → (j : ℕ) → j < suc place → breaks rs k (get_or (t ∷ ts) j []) ≡ false
      before place q f zero l = q
      before place q f (suc j) l = f j (omega arith)

      here : (c : Bool) → breaks rs k t ≡ c → (breaks rs k t ≡ false → (place : ℕ) × FirstAt rs k ts (first_breaking rs k ts) place)
          → (place : ℕ) × FirstAt rs k (t ∷ ts) (cond c (id_of t) (first_breaking rs k ts)) place
      here true q f = (0, record { within = omega arith; breaking = q; named = refl; earlier_keep = λ j l. absurd (omega arith) })
      here false q f =
          let r = f q in
          (suc r.0, record { within = omega (arith, r.1.within); breaking = r.1.breaking; named = r.1.named; earlier_keep = before r.0 q r.1.earlier_keep })

  -- the lowest rule of some tracks is broken by one of them
  some_breaks : (ts : List (List ℕ)) (k : ℕ) → of_tracks rs ts ≡ k → (k ≡ 0 → ⊥) → (i : ℕ) × ((i < length ts) × (breaks rs k (get_or ts i []) ≡ true))
  unfolding of_tracks
  some_breaks [] k e z = absurd (z (sym e))
  some_breaks (t ∷ ts) k e z = ⊎_elim
      (λ w. let q : of_track rs t ≡ k = sym w.0 ∙ e in (0, (omega arith, rw q at (own_broken t n rs h (λ y. z (sym q ∙ y))))))
      (λ w. let r = some_breaks ts k (sym w.0 ∙ e) z in (suc r.0, (omega (arith, r.1.0), r.1.1)))
      (earlier_is (of_track rs t) (of_tracks rs ts))

  -- and none of them breaks a lower one
  lowest_of : (ts : List (List ℕ)) (i j : ℕ) → i < length ts → breaks rs j (get_or ts i []) ≡ true → (of_tracks rs ts ≡ 0 → ⊥) × (rank (of_tracks rs ts) ≤ rank j)
  unfolding of_tracks
  lowest_of [] i j g b = absurd (omega arith)
  lowest_of (t ∷ ts) zero j g b =
      let o = own_lowest t n j rs h b in
      ⊎_elim
      (λ w. (λ y. o.0 (sym w.0 ∙ y), omega (arith, ap rank w.0, o.1)))
      (λ w. (λ y. w.1.0 (sym w.0 ∙ y), ⊎_elim (λ y. absurd (o.0 y)) (λ y. omega (arith, ap rank w.0, o.1)) w.1.1))
      (earlier_is (of_track rs t) (of_tracks rs ts))
  lowest_of (t ∷ ts) (suc i) j g b =
      let o = lowest_of ts i j (omega arith) b in
      ⊎_elim
      (λ w. ⊎_elim (λ y. absurd (o.0 y)) (λ y. (λ x. y.0 (sym w.0 ∙ x), omega (arith, ap rank w.0, o.1, y.1))) w.1)
      (λ w. (λ y. o.0 (sym w.0 ∙ y), omega (arith, ap rank w.0, o.1)))
      (earlier_is (of_track rs t) (of_tracks rs ts))

-- by their numbers: no rule is the nineteenth
not_19 : (movie k : ℕ) (t : List ℕ) → breaks (quay_rules movie) k t ≡ true → k ≡ 19 → ⊥
unfolding breaks quay_rules
not_19 movie k t b e = let y : ◌≡◌ {A = Bool} false true = rw e at b in let z : ◌≡◌ {A = ℕ} 0 1 = cc in omega arith

by_number : (j k : ℕ) → (j ≡ 19 → ⊥) → (k ≡ 19 → ⊥) → rank k ≤ rank j → k ≤ j
unfolding rank
by_number j k a b l = let m : k + k ≤ j + j = rw (ne_eqb j 19 a, ne_eqb k 19 b) at l in omega arith

names : (m : List ℕ) → other_tracks m ≡ false → (broken_rule m ≡ 0 → ⊥) → Names m (broken_rule m) (breaking_track m)
unfolding breaking_track
names m o z =
    let rs = quay_rules (movie_scale m) in
    let ts = tracks_of m in
    let e = later_rules m o in
    let x = some_breaks 0 rs (quay_rise (movie_scale m)) ts (broken_rule m) (sym e) z in
    let f = first_at 0 rs (quay_rise (movie_scale m)) (broken_rule m) ts x.0 x.1.0 x.1.1 in
    record {
      movie = o;
      place = f.0;
      first = f.1;
      lowest = λ i j g b.
          by_number j (broken_rule m) (not_19 (movie_scale m) j (get_or ts i []) b) (not_19 (movie_scale m) (broken_rule m) (get_or ts f.0 []) f.1.breaking)
          (omega (arith, ap rank e, (lowest_of 0 rs (quay_rise (movie_scale m)) ts i j g b).1));
    }

-- the first rule, with no track; or a later one, with the first track that breaks it
broken_names : (s : List ℕ) (k id : ℕ) → quay_verdict s ≡ Some (record { rule = k; track = id }) → ((k ≡ 1) × (id ≡ 0) × (other_tracks (moov_of s) ≡ true)) ⊎ Names (moov_of s) k id
unfolding quay_verdict breaking_track
broken_names s k id e = elim (ℕ_discrete (broken_rule (moov_of s)) 0) [
  | yes z ↦
      let y : ◌≡◌ {A = Option Breach} None (Some (record { rule = k; track = id })) = rw (eq-eqb (broken_rule (moov_of s)) 0 z) at e in
      let w : ◌≡◌ {A = ℕ} 0 1 = cc in absurd (omega arith)
  | no z ↦
      let y : ◌≡◌ {A = Option Breach} (Some (record { rule = broken_rule (moov_of s); track = breaking_track (moov_of s) })) (Some (record { rule = k; track = id })) =
      rw (ne_eqb (broken_rule (moov_of s)) 0 z) at e
      in
      let b : ◌≡◌ {A = Breach} (record { rule = broken_rule (moov_of s); track = breaking_track (moov_of s) }) (record { rule = k; track = id }) = cc in
      let p = ap (λ (x : Breach). x.rule) b in
      let q = ap (λ (x : Breach). x.track) b in
      by p q z (other_tracks (moov_of s)) refl
]
  where
    by : broken_rule (moov_of s) ≡ k → breaking_track (moov_of s) ≡ id → (broken_rule (moov_of s) ≡ 0 → ⊥) → (b : Bool) → other_tracks (moov_of s) ≡ b
        → ((k ≡ 1) × (id ≡ 0) × (other_tracks (moov_of s) ≡ true)) ⊎ Names (moov_of s) k id
    by p q z true o =
        let f = first_rule (moov_of s) o in
        inl (sym p ∙ f, sym q ∙ ap (λ (n : ℕ). first_breaking (quay_rules (movie_scale (moov_of s))) n (tracks_of (moov_of s))) f ∙ first_of_none (movie_scale (moov_of s)) (tracks_of (moov_of s)), o)
    by p q z false o = inr (rw (← p, ← q) (names (moov_of s) o z))

-- ---- the ninth rule and the question for vfps

too-fast : (f : Option ℕ) → too_fast f ≡ answered_too_fast (to_value f)
unfolding too_fast answered_too_fast to_value
too-fast (Some v) = refl
too-fast None = refl

ninth_breaks : (movie : ℕ) (t : List ℕ) → breaks (quay_rules movie) 9 t ≡ too_fast (feature_of movie (track_of t) vfps)
unfolding breaks quay_rules too_many_frames
ninth_breaks movie t = refl

-- what is answered is one thing
some_of : (a b : Option Breach) → ◌≡◌ {A = Result (Option Breach) Refusal} (Ok a) (Ok b) → a ≡ b
some_of a b e = cc

pub quay_exactly : (s : List ℕ) (w : Source) → QuayExactly s w
quay_exactly s w e =
    record {
      yes_if = λ k. rw e (ap Ok (yes_if s k));
      yes_only = λ y. yes_only s (some_of _ _ (rw e at y));
      names = λ k id y. broken_names s k id (some_of _ _ (rw e at y));
      ninth = λ i h.
          let t = get_or (tracks_of (moov_of s)) i [] in
          let m = movie_scale (moov_of s) in
          let f : feature_answer s w (id_of t) vfps ≡ to_value (feature_of m (track_of t) vfps) =
          rw (own_asked s w e i h) (ap (λ u. to_value (feature_of m (track_of u) vfps)) (own_itself s w e i h)) in
          ninth_breaks m t ∙ too-fast (feature_of m (track_of t) vfps) ∙ ap answered_too_fast (sym f);
    }
