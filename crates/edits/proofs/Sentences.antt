-- What document 01 says in sentences of the definitions that compute, entry by entry: when an edit list is right, and what a movie time shows.
-- Assumes nothing.
use Prim.Native.Nat.{ℕ, zero, suc, ◌+◌, ◌-◌, ◌*◌, ◌/◌, ◌≤◌, ◌<◌}
use mathlib.Core.Path.{◌≡◌, refl, sym, ap, ◌∙◌}
use mathlib.Core.Bool.{true}
use mathlib.Core.List.{List, [], ◌∷◌}
use native.Mathlib.Omega.{arith}
use native.Mathlib.Nat.{mul-le-mul_right, suc-mul, div-lt_iff_lt-mul, div-zero, div-mul-le_self, le-div_iff_mul-le, le_trans, zero-add}
use native.Mathlib.Decide.{dec_lt, ℕ_discrete}
use lib.Dec.{eqb}
use lib.IntN.{ℤ, pos, negsuc}
use lib.ListN.{length, drop, get_or, length-drop, length-map}
use borrow.Author.Tests.{lt-ltb, le-ltb, eq-eqb, ne_eqb, ltb-true, eqb-true, eqb-false}
use Rattle.lists.specs.Lists.{sum, before, holder}
use Rattle.lists.proofs.Places.{holder_holds, holds_below}
use Rattle.lists.proofs.Booleans.{cond_both, cond_unless}
use Rattle.edits.specs.declared.Edit.{Edit}
use Rattle.edits.specs.declared.Mapped.TheVariants.{Media, Nothing, Outside}
use Rattle.edits.specs.declared.EditStart.TheVariants.{From}
use Rattle.edits.specs.declared.MovieTime.{MovieTime}
use Rattle.edits.specs.Edits.{edits, durations_of, edit_total, start_of, in_media, start_ok, edit_ok, all_ok, list_ok, edits_ok, placed, shown_at, map_in, media_at}
use Rattle.edits.proofs.Turns.{edits-in, edits_none, media_absent, media_listed}
use Rattle.edits.proofs.Signs.{from_pos}

-- ---- refusal 13

-- none of "a duration 0; a rate other than 65536 (1.0); a media time below -1; or an entry with media time m ≥ 0 and duration d where
-- m + floor((d-1) × media scale / movie scale) is not below the sample total"
pub record Right (scale movie total : ℕ) (e : Edit) : Type 0 where
  pub lasts : 0 < e.duration
  pub plain : e.rate ≡ 65536
  pub above : (k : ℕ) → e.media ≡ negsuc (suc k) → ⊥
  pub ends : (m : ℕ) → e.media ≡ pos m → m + in_media scale movie (e.duration - 1) < total

module _ (scale movie total : ℕ) where
  below : (d : ℕ) (z : ℤ) → start_ok scale movie total d (start_of z) ≡ true → (k : ℕ) → z ≡ negsuc (suc k) → ⊥
  below d (pos n) o k e = let x : ◌≡◌ {A = ℕ} 0 1 = cc in omega arith
  below d (negsuc zero) o k e = let x : 0 ≡ suc k = cc in omega arith
  below d (negsuc (suc j)) o k e = let x : ◌≡◌ {A = ℕ} 0 1 = cc in omega arith

  last : (d : ℕ) (z : ℤ) → start_ok scale movie total d (start_of z) ≡ true → (m : ℕ) → z ≡ pos m → m + in_media scale movie (d - 1) < total
  last d (pos n) o m e = let x : n ≡ m = cc in omega (arith, x, ltb-true (n + in_media scale movie (d - 1)) total o)
  last d (negsuc k) o m e = let x : ◌≡◌ {A = ℕ} 0 1 = cc in absurd (omega arith)

  right_place : (d : ℕ) (z : ℤ) → ((k : ℕ) → z ≡ negsuc (suc k) → ⊥) → ((m : ℕ) → z ≡ pos m → m + in_media scale movie (d - 1) < total) →
      start_ok scale movie total d (start_of z) ≡ true
  right_place d (pos m) f g = lt-ltb _ _ (g m refl)
  right_place d (negsuc zero) f g = refl
  right_place d (negsuc (suc k)) f g = absurd (f k refl)

  pub edit_known : (e : Edit) → edit_ok scale movie total e ≡ true → Right scale movie total e
  unfolding edit_ok
  edit_known e o =
      let p = cond_unless (eqb e.duration 0) _ o in
      let q = cond_both (eqb e.rate 65536) (start_ok scale movie total e.duration (start_of e.media)) p.1 in
      let z = eqb-false e.duration 0 p.0 in
      record { lasts = omega arith; plain = eqb-true e.rate 65536 q.0; above = below e.duration e.media q.1; ends = last e.duration e.media q.1 }

  pub edit_only : (e : Edit) → Right scale movie total e → edit_ok scale movie total e ≡ true
  unfolding edit_ok
  edit_only e r =
      rw (ne_eqb e.duration 0 (λ z. omega (arith, r.lasts)), eq-eqb e.rate 65536 r.plain)
      (right_place e.duration e.media r.above r.ends)

  -- e₀ is what `get_or` gives past the end of a list
  module _ (e₀ : Edit) where
    pub all_known : (es : List Edit) → all_ok scale movie total es ≡ true → (i : ℕ) → i < length es → Right scale movie total (get_or es i e₀)
    all_known [] o i h = absurd (omega arith)
    all_known (e ∷ es) o zero h = edit_known e (cond_both (edit_ok scale movie total e) (all_ok scale movie total es) o).0
    all_known (e ∷ es) o (suc i) h = all_known es (cond_both (edit_ok scale movie total e) (all_ok scale movie total es) o).1 i (omega arith)

    all_only : (es : List Edit) → ((i : ℕ) → i < length es → Right scale movie total (get_or es i e₀)) → all_ok scale movie total es ≡ true
    all_only [] f = refl
    all_only (e ∷ es) f = rw (edit_only e (f 0 (omega arith))) (all_only es (λ i h. f (suc i) (omega arith)))

    -- a list has an entry, and each is right
    pub list_known : (es : List Edit) → list_ok scale movie total es ≡ true → (0 < length es) × ((i : ℕ) → i < length es → Right scale movie total (get_or es i e₀))
    list_known [] o = let z : ◌≡◌ {A = ℕ} 0 1 = cc in absurd (omega arith)
    list_known (e ∷ es) o = (omega arith, all_known (e ∷ es) o)

    pub list_only : (es : List Edit) → 0 < length es → ((i : ℕ) → i < length es → Right scale movie total (get_or es i e₀)) → list_ok scale movie total es ≡ true
    list_only [] h f = absurd (omega arith)
    list_only (e ∷ es) h f = all_only (e ∷ es) f

  -- refusal 13 looks at the list where there is one
  pub ok_listed : (s : List ℕ) → (length s ≡ 0 → ⊥) → edits_ok scale movie total s ≡ list_ok scale movie total (edits s)
  unfolding edits_ok
  ok_listed s z = rw (ne_eqb (length s) 0 z)

-- an entry that shows media, where refusal 13 does not apply
pub ok_from : (scale movie total : ℕ) (e : Edit) (m : ℕ) → edit_ok scale movie total e ≡ true → From m ≡ start_of e.media
    → (0 < e.duration) × (m + in_media scale movie (e.duration - 1) < total)
ok_from scale movie total e m o p = let r = edit_known scale movie total e o in (r.lasts, r.ends m (from_pos e.media m p))

-- without a list there is no entry that could be wrong
pub ok_all : (scale movie total : ℕ) (s : List ℕ) → edits_ok scale movie total s ≡ true → all_ok scale movie total (edits s) ≡ true
ok_all scale movie total s o = elim (ℕ_discrete (length s) 0) [
  | yes z ↦ ap (all_ok scale movie total) (sym (edits-in s) ∙ edits_none (drop 16 s) (omega (arith, length-drop 16 s)))
  | no z ↦ of_list (edits s) (sym (ok_listed scale movie total s z) ∙ o)
]
  where
    of_list : (es : List Edit) → list_ok scale movie total es ≡ true → all_ok scale movie total es ≡ true
    of_list [] p = refl
    of_list (e ∷ es) p = p

-- ---- movie time to media time

pub in_media_mono : (scale movie t u : ℕ) → t ≤ u → in_media scale movie t ≤ in_media scale movie u
in_media_mono scale zero t u l = omega (arith, div-zero (t * scale), div-zero (u * scale))
in_media_mono scale (suc k) t u l =
    (le-div_iff_mul-le {k = suc k} {x = in_media scale (suc k) t} {y = u * scale} (omega arith)).1
    (le_trans (div-mul-le_self (t * scale) (suc k)) (mul-le-mul_right scale l))

-- in a media scale no finer than the movie's, a unit of movie time is at most one of media time
pub in_media_step : (scale movie t : ℕ) → scale ≤ movie → in_media scale movie (suc t) ≤ suc (in_media scale movie t)
in_media_step scale zero t l = omega (arith, div-zero (suc t * scale))
in_media_step scale (suc k) t l =
    let q = in_media scale (suc k) t in
    let a : t * scale < suc q * suc k = (div-lt_iff_lt-mul {k = suc k} {x = t * scale} {y = suc q} (omega arith)).0 (omega arith) in
    let b : suc t * scale < suc (suc q) * suc k = omega (arith, a, suc-mul t scale, suc-mul (suc q) (suc k)) in
    let c : suc t * scale / suc k < suc (suc q) = (div-lt_iff_lt-mul {k = suc k} {x = suc t * scale} {y = suc (suc q)} (omega arith)).1 b in
    omega arith

duration_at : (e₀ : Edit) (es : List Edit) (i : ℕ) → i < length es → get_or (durations_of es) i 0 ≡ (get_or es i e₀).duration
duration_at e₀ [] i h = absurd (omega arith)
duration_at e₀ (e ∷ es) zero h = refl
duration_at e₀ (e ∷ es) (suc i) h = duration_at e₀ es i (omega arith)

pub placed_in : (total place : ℕ) → place < total → placed total place ≡ Media (record { 0 = place })
placed_in total place h = rw (lt-ltb place total h)

pub placed_out : (total place : ℕ) → total ≤ place → placed total place ≡ Outside
placed_out total place h = rw (le-ltb place total h)

module _ (scale movie total : ℕ) where
  -- "Without an edit list the media starts at 0", and ends at the media total
  pub unedited_in : (t : MovieTime) → in_media scale movie t.0 < total → media_at scale movie total [] t ≡ Media (record { 0 = in_media scale movie t.0 })
  unedited_in t h = media_absent scale movie total [] t refl ∙ ap (placed total) (zero-add _) ∙ placed_in total _ h

  pub unedited_out : (t : MovieTime) → total ≤ in_media scale movie t.0 → media_at scale movie total [] t ≡ Outside
  unedited_out t h = media_absent scale movie total [] t refl ∙ ap (placed total) (zero-add _) ∙ placed_out total _ h

  -- the entry that holds t, starting at S, shows what stands t - S after its media time
  falls_in : (e₀ : Edit) (es : List Edit) (t : ℕ) → t < sum (durations_of es) →
      map_in scale movie total es t
      ≡ shown_at scale movie total (t - before (durations_of es) (holder (durations_of es) t)) (start_of (get_or es (holder (durations_of es) t) e₀).media)
  falls_in e₀ [] t h = absurd (omega arith)
  falls_in e₀ (e ∷ es) t h = elim (dec_lt t e.duration) [
    | yes l ↦
        let z : t ≡ t - 0 = omega arith in
        rw (lt-ltb t e.duration l) (ap (λ (x : ℕ). shown_at scale movie total x (start_of e.media)) z)
    | no l ↦
        let k : e.duration ≤ t = omega arith in
        let i = holder (durations_of es) (t - e.duration) in
        let z : t - e.duration - before (durations_of es) i ≡ t - (e.duration + before (durations_of es) i) = omega arith in
        rw (le-ltb t e.duration k)
        (falls_in e₀ es (t - e.duration) (omega arith) ∙ ap (λ (x : ℕ). shown_at scale movie total x (start_of (get_or es i e₀).media)) z)
  ]

  falls_outside : (es : List Edit) (t : ℕ) → sum (durations_of es) ≤ t → map_in scale movie total es t ≡ Outside
  falls_outside [] t h = refl
  falls_outside (e ∷ es) t h =
      let k : e.duration ≤ t = omega arith in
      rw (le-ltb t e.duration k) (falls_outside es (t - e.duration) (omega arith))

  module _ (s : List ℕ) (z : length s ≡ 0 → ⊥) (t : MovieTime) where
    -- "at or past the last entry's end"
    pub media_past : edit_total s ≤ t.0 → media_at scale movie total s t ≡ Outside
    unfolding edit_total
    media_past h = sym (media_listed scale movie total s t z) ∙ ap (λ es. map_in scale movie total es t.0) (edits-in s) ∙ falls_outside (edits s) t.0 h

    pub media_in : (e₀ : Edit) → t.0 < edit_total s →
        media_at scale movie total s t
        ≡ shown_at scale movie total (t.0 - before (durations_of (edits s)) (holder (durations_of (edits s)) t.0))
        (start_of (get_or (edits s) (holder (durations_of (edits s)) t.0) e₀).media)
    unfolding edit_total
    media_in e₀ h = sym (media_listed scale movie total s t z) ∙ ap (λ es. map_in scale movie total es t.0) (edits-in s) ∙ falls_in e₀ (edits s) t.0 h

    -- where refusal 13 does not apply: "nothing shown if its media time is -1, else that plus floor((t-S) × media scale / movie scale)"
    module _ (e₀ : Edit) (o : edits_ok scale movie total s ≡ true) (h : t.0 < edit_total s) where
      abbrev ds : List ℕ
      ds = durations_of (edits s)

      abbrev here : Edit
      here = get_or (edits s) (holder ds t.0) e₀

      -- that entry is one of the list, and t is less than its duration after its start
      within : (holder ds t.0 < length (edits s)) × (t.0 - before ds (holder ds t.0) < here.duration)
      unfolding edit_total
      within =
          let q = holder_holds ds t.0 h in
          let f : holder ds t.0 < length (edits s) = omega (arith, (holds_below ds t.0 (holder ds t.0) q).1, length-map (edits s) (λ e. e.duration)) in
          (f, omega (arith, q.from, q.to, duration_at e₀ (edits s) (holder ds t.0) f))

      pub media_nothing : here.media ≡ negsuc 0 → media_at scale movie total s t ≡ Nothing
      media_nothing e = media_in e₀ h ∙ ap (λ y. shown_at scale movie total (t.0 - before ds (holder ds t.0)) (start_of y)) e

      pub media_below : (m : ℕ) → here.media ≡ pos m → m + in_media scale movie (t.0 - before ds (holder ds t.0)) < total
      media_below m e =
          let w = within in
          let r = (list_known scale movie total e₀ (edits s) (sym (ok_listed scale movie total s z) ∙ o)).1 (holder ds t.0) w.0 in
          omega (arith, r.ends m e, in_media_mono scale movie (t.0 - before ds (holder ds t.0)) (here.duration - 1) (omega (arith, w.1)))

      pub media_shown : (m : ℕ) → here.media ≡ pos m →
          media_at scale movie total s t ≡ Media (record { 0 = m + in_media scale movie (t.0 - before ds (holder ds t.0)) })
      media_shown m e =
          media_in e₀ h
          ∙ ap (λ y. shown_at scale movie total (t.0 - before ds (holder ds t.0)) (start_of y)) e
          ∙ placed_in total (m + in_media scale movie (t.0 - before ds (holder ds t.0))) (media_below m e)
