-- The answers of the two questions of times, from what the code has of the track and of its tables.
-- Assumes nothing.
use Rattle.std.specs.Prelude.{Option, Some, None}
use Prim.Native.Nat.{ℕ, suc, ◌+◌, ◌-◌, ◌≤◌, ◌<◌}
use mathlib.Core.Path.{◌≡◌, refl, sym, ap, ◌∙◌}
use mathlib.Core.List.{List, [], ◌∷◌}
use mathlib.Core.Bool.{Bool, true, false, cond}
use native.Mathlib.Omega.{arith}
use borrow.Author.Tests.{eq-eqb, ne_eqb, lt-ltb, le-ltb, ltb-true}
use lib.Dec.{ltb, eqb}
use lib.ListN.{length}
use Rattle.bigendian.specs.BigEndian.{u32_at}
use Rattle.atoms.specs.Kinds.{stts, stsz}
use Rattle.lists.specs.Lists.{sum, expand, holder}
use Rattle.lists.proofs.Places.{holds_below, holder_holds}
use Rattle.runs.specs.Runs.{runs_of, per_sample, entry_of, hit_of, looked_up}
use Rattle.runs.specs.declared.Hit.{Hit}
use Rattle.runs.proofs.Entries.{looked_known, looked_outside}
use Rattle.edits.specs.Edits.{edits, start_of, in_media, placed, shown_at, map_in, media_at}
use Rattle.edits.specs.declared.Edit.{Edit}
use Rattle.edits.specs.declared.EditStart.{EditStart}
use Rattle.edits.specs.declared.EditStart.TheVariants as start
use Rattle.edits.specs.declared.MediaTime.{MediaTime}
use Rattle.edits.specs.declared.MovieTime.{MovieTime}
use Rattle.edits.specs.declared.Mapped.{Mapped}
use Rattle.edits.specs.declared.Mapped.TheVariants as mapped
use Rattle.structure.specs.declared.source.Source.{Source}
use Rattle.structure.specs.Track.{table_of, scale_of, elst_of, samples_of}
use Rattle.structure.specs.Movie.{moov_of, movie_scale}
use Rattle.structure.specs.Rows.{or_else}
use Rattle.track.specs.Track.{track_of}
use Rattle.track.specs.Refusals.{total_in}
use Rattle.movie.specs.Rooms.{refused_with}
use Rattle.movie.proofs.Answers.{gives_err, gives_answer}
use Rattle.movie.proofs.Refused.{or_err}
use Rattle.track.proofs.Agreed.{agreed_tables}
use Rattle.questions.specs.Asked.{ask_refusal, track_asked}
use Rattle.time_questions.specs.Said.{number_of, number_said}
use Rattle.time_questions.specs.Times.{at_refusal, at_number, at_entry, at_found, number_numbers, SampleAt, mapped_in, mapped_of, to_answer, time_numbers, Maps}
use Rattle.std.specs.Prelude.{Option, Some, None, Result, Ok, Err}
use Rattle.refusals.specs.Refusals.{number}
use Rattle.refusals.specs.declared.Refusal.{Refusal}
use Rattle.refusals.specs.declared.Refusal.TheVariants.{Outside}
use Rattle.time_questions.specs.declared.Numbered.{Numbered}
use Rattle.questions.proofs.Asking.{asked, asked_track, table_fits}

-- ---- where a time falls

pub to_shown : (m : Mapped) (t : MediaTime) → m ≡ mapped.Media t → Ok (Some t) ≡ to_answer m
unfolding to_answer
to_shown m t e = sym (ap to_answer e)

pub to_nothing : (m : Mapped) → m ≡ mapped.Nothing → Ok None ≡ to_answer m
unfolding to_answer
to_nothing m e = sym (ap to_answer e)

pub to_outside : (m : Mapped) → m ≡ mapped.Outside → Err Outside ≡ to_answer m
unfolding to_answer
to_outside m e = sym (ap to_answer e)

-- ---- movie time to media time

pub not_asked : (s : List ℕ) (w : Source) (id : ℕ) (t : MovieTime) (e : Refusal) → ask_refusal s w id ≡ number e → Maps s w id t (Err e)
unfolding time_numbers
not_asked s w id t e h = gives_err time_numbers (refused_with 2) (λ k. refl) (to_answer (mapped_of s id t)) (ask_refusal s w id) e h

module _ (s m k l : List ℕ) (w : Source) (id : ℕ) (t : MovieTime) (movie scale total : ℕ) (z : ask_refusal s w id ≡ 0) (d : k ≡ track_asked s id) (b : m ≡ moov_of s)
    (q : movie ≡ movie_scale m) (o : l ≡ elst_of k) (c : scale ≡ scale_of k) (n : total ≡ total_in k) where
  falls : media_at scale movie total l t ≡ mapped_of s id t
  unfolding mapped_of mapped_in
  falls = rw (o, c, n, q, b, d)

  pub is_mapped : (a : Result (Option MediaTime) Refusal) → a ≡ to_answer (media_at scale movie total l t) → Maps s w id t a
  unfolding time_numbers
  is_mapped a h =
      gives_answer time_numbers (refused_with 2) (λ i. refl) (to_answer (mapped_of s id t)) (ask_refusal s w id) a z (h ∙ ap to_answer falls)

-- ---- the sample at a media time

refused_at : (s : List ℕ) (w : Source) (id : ℕ) (t : MediaTime) (e : Refusal) → at_refusal s w id t ≡ number e → SampleAt s w id t (Err e)
unfolding number_numbers
refused_at s w id t e h = gives_err number_numbers (refused_with 2) (λ k. refl) (at_found s id t) (at_refusal s w id t) e h

pub no_track_at : (s : List ℕ) (w : Source) (id : ℕ) (t : MediaTime) (e : Refusal) → ask_refusal s w id ≡ number e → SampleAt s w id t (Err e)
unfolding at_refusal
no_track_at s w id t e h = refused_at s w id t e (or_err (ask_refusal s w id) _ e h)

module _ (s k x : List ℕ) (w : Source) (id : ℕ) (t : MediaTime) (z : ask_refusal s w id ≡ 0) (d : k ≡ track_asked s id) (g : x ≡ table_of stts k) (f : Option Hit)
    (h : f ≡ looked_up (runs_of x) t.0) where
  same : expand (runs_of x) ≡ (track_of (track_asked s id)).durations
  unfolding track_of per_sample
  same = rw (g, d)

  same_total : sum (expand (runs_of x)) ≡ total_in (track_asked s id)
  unfolding total_in per_sample
  same_total = rw (g, d)

  outside_at : f ≡ None → SampleAt s w id t (Err Outside)
  unfolding at_refusal or_else
  outside_at q =
      let o = looked_outside (runs_of x) t.0 (sym h ∙ q) in
      refused_at s w id t Outside (rw (z, ← same_total, le-ltb t.0 (sum (expand (runs_of x))) o))

  module _ (i : Hit) (q : f ≡ Some i) where
    known : (t.0 < sum (expand (runs_of x))) × (i ≡ hit_of (runs_of x) t.0)
    known = looked_known (runs_of x) t.0 i (sym h ∙ q)

    index : i.index ≡ holder (expand (runs_of x)) t.0
    unfolding hit_of
    index = ap (λ (y : Hit). y.index) known.1

    few_at : i.index < samples_of k
    unfolding per_sample
    few_at =
        let a = asked_track s k w id 0 (sym z) refl d in
        let b = holds_below (expand (runs_of x)) t.0 _ (holder_holds (expand (runs_of x)) t.0 known.0) in
        omega (arith, b.1, index, (agreed_tables k a.agree).counted, ap (λ (l : List ℕ). length (per_sample l)) g)

    found_at : (n : ℕ) → n ≡ i.index + 1 → SampleAt s w id t (Ok (record { sample = n; entry = i.entry }))
    unfolding at_refusal at_number at_entry number_numbers or_else hit_of
    found_at n y =
        let c : at_refusal s w id t ≡ 0 = rw (z, ← same_total, lt-ltb t.0 (sum (expand (runs_of x))) known.0) in
        let u : n ≡ suc (holder (expand (runs_of x)) t.0) = omega (arith, y, index) in
        let p : n ≡ at_number s id t = u ∙ ap (λ l. suc (holder l t.0)) same in
        let o : i.entry ≡ at_entry s id t =
        ap (λ (v : Hit). v.entry) known.1 ∙ (λ j. entry_of (runs_of ((g ∙ ap (table_of stts) d) j)) (holder (same j) t.0))
        in
        gives_answer number_numbers (refused_with 2) (λ k. refl) (at_found s id t) (at_refusal s w id t) (Ok (record { sample = n; entry = i.entry })) c
        (λ j. Ok (record { sample = p j; entry = o j }))

-- by stts of the track that is asked
module _ (s : List ℕ) (w : Source) (id : ℕ) (t : MediaTime) (e : ask_refusal s w id ≡ 0) where
  number_by : (f : Option Hit) → f ≡ looked_up (runs_of (table_of stts (track_asked s id))) t.0 → SampleAt s w id t (number_of (samples_of (track_asked s id)) f)
  unfolding number_of
  number_by (Some i) h =
      let k = track_asked s id in
      rw (lt-ltb i.index (samples_of k) (few_at s k (table_of stts k) w id t e refl refl (Some i) h i refl))
      (found_at s k (table_of stts k) w id t e refl refl (Some i) h i refl (i.index + 1) refl)
  number_by None h =
      outside_at s (track_asked s id) (table_of stts (track_asked s id)) w id t e refl refl None h refl

  pub number_samples : SampleAt s w id t (number_said (table_of stts (track_asked s id)) (samples_of (track_asked s id)) t)
  unfolding number_said
  number_samples =
      let a = asked s w id e in
      let f = table_fits stts (track_asked s id) _ refl (omega (arith, a.short, a.file.shape.short)) in
      rw (lt-ltb (length (table_of stts (track_asked s id))) 4294967296 (omega arith)) (number_by _ refl)

-- the same, from what the code has
pub number_asked : (s k x z : List ℕ) (w : Source) (id : ℕ) (t : MediaTime) (n : ℕ) → ask_refusal s w id ≡ 0 → k ≡ track_asked s id → x ≡ table_of stts k → z ≡ table_of stsz k → n ≡ u32_at z 16
    → (v : Result Numbered Refusal) → v ≡ number_said x n t → SampleAt s w id t v
number_asked s k x z w id t n o d g h m v q = rw (q, m, g, h, d) (number_samples s w id t o)

-- ---- the ways out of `sample_number_in`, of any bytes

module _ (x : List ℕ) (m : ℕ) (t : MediaTime) where
  pub number_long : 4294967295 < length x → Err Outside ≡ number_said x m t
  unfolding number_said
  number_long h = rw (le-ltb (length x) 4294967296 (omega arith))

  module _ (h : length x ≤ 4294967295) (f : Option Hit) (e : f ≡ looked_up (runs_of x) t.0) where
    number_is : number_said x m t ≡ number_of m f
    unfolding number_said
    number_is = rw (lt-ltb (length x) 4294967296 (omega arith), e)

    pub number_outside : f ≡ None → Err Outside ≡ number_said x m t
    unfolding number_of
    number_outside q = sym (number_is ∙ ap (number_of m) q)

    module _ (i : Hit) (q : f ≡ Some i) where
      pub number_past : m ≤ i.index → Err Outside ≡ number_said x m t
      unfolding number_of
      number_past l = let o : number_of m (Some i) ≡ Err Outside = rw (le-ltb i.index m l) in sym (number_is ∙ ap (number_of m) q ∙ o)

      pub number_found : i.index < m → (n : ℕ) → n ≡ i.index + 1 → Ok (record { sample = n; entry = i.entry }) ≡ number_said x m t
      unfolding number_of
      number_found l n u =
          let o : number_of m (Some i) ≡ Ok (record { sample = n; entry = i.entry }) = rw (lt-ltb i.index m l, u) in
          sym (number_is ∙ ap (number_of m) q ∙ o)

  -- the only refusal is 15
  pub number_15 : (r : Refusal) → number_said x m t ≡ Err r → r ≡ Outside
  unfolding number_said number_of
  number_15 r e = go (ltb (length x) 4294967296) (looked_up (runs_of x) t.0) e
    where
      hit : (b : Bool) (n : Numbered) → cond b (Ok n) (Err Outside) ≡ Err r → r ≡ Outside
      hit true n q = let z : ◌≡◌ {A = ℕ} 0 1 = cc in absurd (omega arith)
      hit false n q = cc

      go : (b : Bool) (f : Option Hit) → cond b (number_of m f) (Err Outside) ≡ Err r → r ≡ Outside
      go true (Some i) q = hit (ltb i.index m) (record { sample = i.index + 1; entry = i.entry }) q
      go true None q = cc
      go false f q = cc

  -- the number is one in 1 to m
  pub number_few : (n : Numbered) → number_said x m t ≡ Ok n → (0 < n.sample) × (n.sample ≤ m)
  unfolding number_said number_of
  number_few n e = go (ltb (length x) 4294967296) (looked_up (runs_of x) t.0) e
    where
      none : {A : Type 0} → Err Outside ≡ Ok n → A
      none q = let z : ◌≡◌ {A = ℕ} 0 1 = cc in absurd (omega arith)

      hit : (i : Hit) (b : Bool) → ltb i.index m ≡ b → cond b (Ok (record { sample = i.index + 1; entry = i.entry })) (Err Outside) ≡ Ok n
          → (0 < n.sample) × (n.sample ≤ m)
      hit i true g q =
          let y : record { sample = i.index + 1; entry = i.entry } ≡ n = cc in
          let z : i.index + 1 ≡ n.sample = ap (λ (a : Numbered). a.sample) y in
          let l = ltb-true i.index m g in
          (omega arith, omega arith)
      hit i false g q = none q

      go : (b : Bool) (f : Option Hit) → cond b (number_of m f) (Err Outside) ≡ Ok n → (0 < n.sample) × (n.sample ≤ m)
      go true (Some i) q = hit i (ltb i.index m) refl q
      go true None q = none q
      go false f q = none q

-- ---- where a time falls, of any edit list

-- the only refusal is 15
pub time_15 : (m : Mapped) (r : Refusal) → to_answer m ≡ Err r → r ≡ Outside
unfolding to_answer
time_15 (mapped.Media t) r e = let z : ◌≡◌ {A = ℕ} 0 1 = cc in absurd (omega arith)
time_15 mapped.Nothing r e = let z : ◌≡◌ {A = ℕ} 0 1 = cc in absurd (omega arith)
time_15 mapped.Outside r e = cc

module _ (scale movie total : ℕ) (v : MediaTime) where
  nowhere : {A : Type 0} → mapped.Outside ≡ mapped.Media v → A
  nowhere q = let z : ◌≡◌ {A = ℕ} 0 1 = cc in absurd (omega arith)

  placed_low : (place : ℕ) → placed total place ≡ mapped.Media v → v.0 < total
  placed_low place e = go (ltb place total) refl e
    where
      go : (b : Bool) → ltb place total ≡ b → cond b (mapped.Media (record { 0 = place })) mapped.Outside ≡ mapped.Media v → v.0 < total
      go true g q = let z : record { 0 = place } ≡ v = cc in rw (← z) (ltb-true place total g)
      go false g q = nowhere q

  shown_low : (t : ℕ) (p : EditStart) → shown_at scale movie total t p ≡ mapped.Media v → v.0 < total
  shown_low t (start.From m) e = placed_low (m + in_media scale movie t) e
  shown_low t start.Empty e = let z : ◌≡◌ {A = ℕ} 0 1 = cc in absurd (omega arith)
  shown_low t start.Wrong e = nowhere e

  map_low : (es : List Edit) (t : ℕ) → map_in scale movie total es t ≡ mapped.Media v → v.0 < total
  map_low [] t e = nowhere e
  map_low (d ∷ es) t e = go (ltb t d.duration) e (map_low es (t - d.duration))
    where
      go : (b : Bool) → cond b (shown_at scale movie total t (start_of d.media)) (map_in scale movie total es (t - d.duration)) ≡ mapped.Media v
          → (map_in scale movie total es (t - d.duration) ≡ mapped.Media v → v.0 < total) → v.0 < total
      go true q r = shown_low t (start_of d.media) q
      go false q r = r q

  media_low : (l : List ℕ) (t : MovieTime) → media_at scale movie total l t ≡ mapped.Media v → v.0 < total
  unfolding media_at
  media_low l t e = go (eqb (length l) 0) e
    where
      go : (b : Bool) → cond b (shown_at scale movie total t.0 (start.From 0)) (map_in scale movie total (edits l) t.0) ≡ mapped.Media v → v.0 < total
      go true q = shown_low t.0 (start.From 0) q
      go false q = map_low (edits l) t.0 q

  -- a media time that is shown is below the total
  pub time_low : (l : List ℕ) (t : MovieTime) → to_answer (media_at scale movie total l t) ≡ Ok (Some v) → v.0 < total
  unfolding to_answer
  time_low l t e = go (media_at scale movie total l t) refl e
    where
      go : (m : Mapped) → media_at scale movie total l t ≡ m → to_answer m ≡ Ok (Some v) → v.0 < total
      go (mapped.Media u) g q = let z : u ≡ v = cc in media_low l t (g ∙ ap mapped.Media z)
      go mapped.Nothing g q = let z : ◌≡◌ {A = ℕ} 0 1 = cc in absurd (omega arith)
      go mapped.Outside g q = let z : ◌≡◌ {A = ℕ} 0 1 = cc in absurd (omega arith)
