-- A position by the tables' places: from what the code has; of any tables; and of those of an accepted track, where it stands before the sample.
-- Assumes nothing.
use Prim.Native.Nat.{ℕ, ◌-◌, ◌≤◌, ◌<◌}
use mathlib.Core.Path.{◌≡◌, refl, sym, ap, ◌∙◌}
use mathlib.Core.Bool.{Bool, true, false, cond}
use mathlib.Core.List.{List}
use native.Mathlib.Omega.{arith}
use native.Mathlib.Decide.{ℕ_discrete, dec_lt}
use borrow.Author.Tests.{ne_eqb, lt-ltb, le-ltb, le-leb, lt-leb, ltb-true, leb-true}
use lib.Dec.{ltb, leb}
use lib.ListN.{length}
use Rattle.lists.proofs.Booleans.{and_both}
use Rattle.bigendian.specs.BigEndian.{u32_at}
use Rattle.structure.specs.declared.source.Source.{Source}
use Rattle.structure.specs.Track.{samples_of}
use Rattle.structure.specs.Rows.{or_else}
use Rattle.places.specs.Places.{part_in, AreTables}
use Rattle.places.specs.declared.tables.Tables.{Tables}
use Rattle.positions.specs.Moving.{StandsAt}
use Rattle.positions.specs.declared.moving.Moving.{Moving}
use Rattle.position_seeks.specs.Seeks.{sought_moving}
use Rattle.position_seeks.proofs.Sought.{moving_sought}
use Rattle.questions.specs.Asked.{ask_refusal, track_asked}
use Rattle.questions.specs.Said.{is_asked}
use Rattle.questions.specs.Samples.{sample_refusal}
use Rattle.stepping.specs.Parts.{bytes_in, start_said}
use Rattle.stepping.specs.Stepping.{bytes_of, Starts}
use Rattle.stepping.specs.declared.Stepper.{Stepper}
use Rattle.std.specs.Prelude.{Result, Ok, Err}
use Rattle.refusals.specs.Refusals.{number}
use Rattle.refusals.specs.declared.Refusal.{Refusal}
use Rattle.refusals.specs.declared.Refusal.TheVariants.{Outside}
use Rattle.refusals.proofs.Numbers.{err_refused}
use Rattle.movie.proofs.Refused.{not_zero, or_err}
use Rattle.stepping.proofs.Agreeing.{asked_agrees, stsc_short, in_film}

-- ---- the ways out of `start_in`, of any tables

module _ (s : List ℕ) (p : Tables) (samples n : ℕ) where
  pub start_zero : n ≡ 0 → Err Outside ≡ start_said s p samples n
  unfolding start_said
  start_zero e = rw e

  pub start_past : (n ≡ 0 → ⊥) → samples < n → Err Outside ≡ start_said s p samples n
  unfolding start_said
  start_past h g = rw (lt-ltb 0 n (omega arith), lt-leb n samples g)

  module _ (c : List ℕ) (e : c ≡ part_in s p.stsc) (h : n ≡ 0 → ⊥) (g : n ≤ samples) where
    pub start_long : 4294967295 < length c → Err Outside ≡ start_said s p samples n
    unfolding start_said
    start_long l = rw (← e, lt-ltb 0 n (omega arith), le-leb n samples g, le-ltb (length c) 4294967296 (omega arith))

    start_at : length c ≤ 4294967295 → (m : Moving) → m ≡ sought_moving (bytes_in s p) (n - 1) → Ok (record { tables = p; samples = samples; moving = m }) ≡ start_said s p samples n
    unfolding start_said
    start_at l m q =
        let b : ltb (length (part_in s p.stsc)) 4294967296 ≡ true = rw (← e) (lt-ltb (length c) 4294967296 (omega arith)) in
        rw (lt-ltb 0 n (omega arith), le-leb n samples g, b, q)

  -- the same, from the parts' bytes
  pub start_parts : (a b c z o y : List ℕ) → a ≡ part_in s p.stts → b ≡ part_in s p.ctts → c ≡ part_in s p.stsc → z ≡ part_in s p.stsz → o ≡ part_in s p.offsets
      → y ≡ part_in s p.stss → (n ≡ 0 → ⊥) → n ≤ samples → length c ≤ 4294967295 → (m : Moving)
      → m ≡ sought_moving (record { stts = a; ctts = b; stsc = c; stsz = z; offsets = o; stss = y }) (n - 1)
      → Ok (record { tables = p; samples = samples; moving = m }) ≡ start_said s p samples n
  start_parts a b c z o y ea eb ec ez eo ey h g l m e =
      start_at c ec h g l m
      (e ∙ (λ i. sought_moving (record { stts = ea i; ctts = eb i; stsc = ec i; stsz = ez i; offsets = eo i; stss = ey i }) (n - 1)))

  -- the only refusal is 15
  pub start_15 : (k : Refusal) → start_said s p samples n ≡ Err k → k ≡ Outside
  unfolding start_said
  start_15 k e = go (is_asked (part_in s p.stsc) samples n) _ e
    where
      go : (b : Bool) (q : Stepper) → cond b (Ok q) (Err Outside) ≡ Err k → k ≡ Outside
      go true q d = let w : ◌≡◌ {A = ℕ} 0 1 = cc in absurd (omega arith)
      go false q d = cc

  -- a position is of a number in 1 to the samples
  pub start_few : (q : Stepper) → start_said s p samples n ≡ Ok q
      → (0 < n) × (n ≤ samples) × (q ≡ record { tables = p; samples = samples; moving = sought_moving (bytes_in s p) (n - 1) })
  unfolding start_said
  start_few q e = go (is_asked (part_in s p.stsc) samples n) refl e
    where
      go : (b : Bool) → is_asked (part_in s p.stsc) samples n ≡ b → cond b (Ok (record { tables = p; samples = samples; moving = sought_moving (bytes_in s p) (n - 1) })) (Err Outside) ≡ Ok q
          → (0 < n) × (n ≤ samples) × (q ≡ record { tables = p; samples = samples; moving = sought_moving (bytes_in s p) (n - 1) })
      go true f d =
          let t = and_both (ltb 0 n) _ f in
          let v : q ≡ record { tables = p; samples = samples; moving = sought_moving (bytes_in s p) (n - 1) } = cc in
          (ltb-true _ _ t.0, leb-true _ _ (and_both (leb n samples) _ t.1).0, v)
      go false f d = let w : ◌≡◌ {A = ℕ} 0 1 = cc in absurd (omega arith)

-- ---- the promise

refused_start : (s : List ℕ) (w : Source) (id n : ℕ) (e : Refusal) → sample_refusal s w id n ≡ number e → Starts s w id n (Err e)
refused_start s w id n e h = record { number = sym h; refused = λ y. rw h (err_refused e); started = λ y. absurd (not_zero _ e h y) }

pub start_asked : (s : List ℕ) (w : Source) (id n : ℕ) (e : Refusal) → ask_refusal s w id ≡ number e → Starts s w id n (Err e)
unfolding sample_refusal
start_asked s w id n e h = refused_start s w id n e (or_err (ask_refusal s w id) _ e h)

-- by the tables of the track that is asked
module _ (s : List ℕ) (w : Source) (id n : ℕ) (e : ask_refusal s w id ≡ 0) (p : Tables) (a : AreTables s (track_asked s id) p) (c : ℕ) (g : c ≡ samples_of (track_asked s id)) where
  outside : n ≡ 0 → Starts s w id n (Err Outside)
  unfolding sample_refusal or_else
  outside q = refused_start s w id n Outside (rw (e, q))

  past : (n ≡ 0 → ⊥) → c < n → Starts s w id n (Err Outside)
  unfolding sample_refusal or_else
  past k h = refused_start s w id n Outside (rw (e, ← g, lt-ltb 0 n (omega arith), lt-leb n c h))

  bytes : bytes_in s p ≡ bytes_of (track_asked s id)
  bytes = in_film s (track_asked s id) p a

  stands : (n ≡ 0 → ⊥) → n ≤ c → StandsAt (bytes_of (track_asked s id)) (samples_of (track_asked s id)) (n - 1) (sought_moving (bytes_in s p) (n - 1))
  stands k h = rw bytes (moving_sought (bytes_of (track_asked s id)) (n - 1) (samples_of (track_asked s id)) (asked_agrees s w id e) (omega (arith, g)))

  within : (n ≡ 0 → ⊥) → n ≤ c → Starts s w id n (Ok (record { tables = p; samples = c; moving = sought_moving (bytes_in s p) (n - 1) }))
  unfolding sample_refusal or_else
  within k h =
      let y : sample_refusal s w id n ≡ 0 = rw (e, ← g, lt-ltb 0 n (omega arith), le-leb n c h) in
      record {
        number = sym y;
        refused = λ q. absurd (q y);
        started = λ q. record {
          position = record { tables = p; samples = c; moving = sought_moving (bytes_in s p) (n - 1) };
          answer = refl;
          stands = record { asked = e; upto = omega (arith, g); tables = a; samples = g; moving = stands k h };
        };
      }

  pub said_starts : Starts s w id n (start_said s p c n)
  said_starts = elim (ℕ_discrete n 0) [
    | yes z ↦ rw (← start_zero s p c n z) (outside z)
    | no z ↦ elim (dec_lt c n) [
      | yes h ↦ rw (← start_past s p c n z h) (past z h)
      | no h ↦
          let l : length (part_in s p.stsc) ≤ 4294967295 = rw a.stsc (omega (arith, stsc_short s w id e)) in
          rw (← start_at s p c n (part_in s p.stsc) refl z (omega arith) l _ refl) (within z (omega arith))
    ]
  ]

-- the same, from what the code has: t is the track's part, c the number of its samples
pub start-said : (s t x : List ℕ) (w : Source) (id n : ℕ) (p : Tables) (c : ℕ) (v : Result Stepper Refusal) → ask_refusal s w id ≡ 0 → t ≡ track_asked s id → AreTables s t p → x ≡ part_in s p.stsz
    → c ≡ u32_at x 16 → v ≡ start_said s p c n → Starts s w id n v
start-said s t x w id n p c v z d a f g q =
    rw q (said_starts s w id n z p (rw d at a) c (g ∙ ap (λ (l : List ℕ). u32_at l 16) (f ∙ a.stsz) ∙ ap samples_of d))
