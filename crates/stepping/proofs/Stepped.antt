-- The answers of a step, from what the code has of the places.
-- Assumes nothing.
use Prim.Native.Nat.{ℕ, suc, ◌+◌, ◌≤◌, ◌<◌, ◌^◌}
use mathlib.Core.Path.{◌≡◌, refl, sym, ap, ◌∙◌}
use mathlib.Core.Bool.{Bool, true, false, cond}
use mathlib.Core.List.{List, [], ◌∷◌}
use native.Mathlib.Omega.{arith}
use native.Mathlib.Decide.{dec_lt}
use lib.Dec.{eqb}
use lib.IntN.{ℤ, pos, ◌+ℤ◌}
use lib.ListN.{length, get_or}
use Rattle.atoms.specs.Kinds as kinds
use Rattle.lists.specs.Lists.{before, holder}
use Rattle.lists.proofs.Places.{each_at}
use Rattle.runs.specs.Runs.{per_sample, composition_offset}
use Rattle.words.specs.Words.{sizes, is_sync}
use Rattle.structure.specs.declared.source.Source.{Source}
use Rattle.structure.specs.Track.{table_of, samples_of}
use Rattle.track.specs.Track.{track_of}
use Rattle.places.specs.Places.{part_in, AreTables}
use Rattle.positions.specs.Runs.{shift_of}
use Rattle.positions.specs.Syncs.{sync_step}
use Rattle.positions.specs.Moving.{Bytes, StandsAt, Agrees, readied_moving, may_move}
use Rattle.positions.specs.declared.moving.Moving.{Moving}
use Rattle.positions.proofs.Syncs.{sync_is}
use Rattle.positions.proofs.Standing.{may_known, Says, stands_ready, says_ready, stands_past, listed_is}
use Rattle.questions.specs.Asked.{ask_refusal, track_asked}
use Rattle.questions.specs.Samples.{sample_of, sample_values}
use Rattle.questions.specs.declared.samples.Sample.{Sample}
use Rattle.step_moves.specs.Moves.{moved, sample_said, moved_past, moved_on, stepped_on}
use Rattle.step_moves.specs.declared.Stepped.{Stepped}
use Rattle.std.specs.Prelude.{Option, Some, None}
use Rattle.step_moves.proofs.Answers.{moved_ready, stepped_past, stepped_by}
use Rattle.stepping.specs.Parts.{bytes_in}
use Rattle.stepping.specs.Stepping.{bytes_of, Stands, step_numbers, Onward, step_as, step_said, Elsewhere, Steps}
use Rattle.stepping.specs.declared.Stepper.{Stepper}
use Rattle.stepping.specs.declared.Step.{Step}
use Rattle.stepping.specs.declared.Step.TheVariants.{Next, Done}
use Rattle.stepping.proofs.Agreeing.{asked_agrees, in_film}
use Rattle.stepping.proofs.Forward.{moved_forward}

-- ---- the sample

composed : (a b : ℕ) (x y : ℤ) → a ≡ b → x ≡ y → pos a +ℤ x ≡ pos b +ℤ y
composed a b x y e f = λ i. pos (e i) +ℤ f i

-- what the places say of it is what the tables say
said : (t : List ℕ) (k : ℕ) (m : Moving) → k < samples_of t → m.index ≡ k → Says (bytes_of t) k m
    → cond (eqb (length (table_of kinds.stss t)) 0) true (sync_step (table_of kinds.stss t) m.sync (m.index + 1)).listed ≡ is_sync (table_of kinds.stss t) (suc k)
    → sample_said (table_of kinds.stsz t) (table_of kinds.stss t) m ≡ sample_of (track_of t) k
unfolding sample_of track_of
said t k m h e a g =
    let x = each_at (λ i. composition_offset (table_of kinds.ctts t) i) (samples_of t) k (pos 0) h in
    let y = each_at (λ i. is_sync (table_of kinds.stss t) (suc i)) (samples_of t) k false h in
    λ i. record {
      decode = a.decode i;
      duration = a.duration i;
      composition = (composed m.decode (before (per_sample (table_of kinds.stts t)) k) (shift_of m.shifts) (composition_offset (table_of kinds.ctts t) k) a.decode a.shift ∙ ap (λ (z : ℤ). pos (before (per_sample (table_of kinds.stts t)) k) +ℤ z) (sym x)) i;
      sync = (g ∙ sym y) i;
      description = a.description i;
      chunk = a.chunk i;
      offset = a.offset i;
      size = ap (λ (j : ℕ). get_or (sizes (table_of kinds.stsz t)) j 0) e i;
    }

-- ---- a step

-- the sample with index k, and the places past it
record Passes (s : List ℕ) (id k : ℕ) (v : Option Stepped) : Type 0 where
  places : Moving
  answer : v ≡ Some (record { sample = sample_of (track_of (track_asked s id)) k; past = places })
  stands : StandsAt (bytes_of (track_asked s id)) (samples_of (track_asked s id)) (suc k) places

passes : (s : List ℕ) (w : Source) (id k : ℕ) (p : Stepper) → Stands s w id k p → k < samples_of (track_asked s id)
    → Passes s id k (moved_ready (bytes_in s p.tables) p.moving)
unfolding moved_on
passes s w id k p a h =
    let t = track_asked s id in
    let x = bytes_of t in
    let g = asked_agrees s w id a.asked in
    let m = p.moving in
    let b = a.tables in
    let r = readied_moving x.stts x.ctts x.stsc x.offsets m in
    let q = says_ready x (samples_of t) k g h m a.moving in
    let i : m.index + 1 ≡ suc k = omega (arith, a.moving.index) in
    let y = sync_step x.stss m.sync (m.index + 1) in
    let f : y ≡ sync_step x.stss m.sync (suc k) = ap (sync_step x.stss m.sync) i in
    let l = sync_is x.stss (suc k) y.listed (listed_is x (samples_of t) k g h m a.moving y f) in
    let z : get_or (sizes x.stsz) m.index 0 ≡ get_or (sizes x.stsz) k 0 = ap (λ (j : ℕ). get_or (sizes x.stsz) j 0) a.moving.index in
    rw (b.stts, b.ctts, b.stsc, b.stsz, b.offsets, b.stss, q.may) (record {
      places = moved_past x.stsz x.stss r;
      answer = ap (λ (v : Sample). Some (record { sample = v; past = moved_past x.stsz x.stss r })) (said t k r h a.moving.index q l);
      stands = stands_past x (samples_of t) k g h m a.moving _ y z f;
    })

-- ---- the promise

done_next : {x : Sample} {q : Stepper} {A : Type 0} → Done ≡ Next x q → A
done_next e = let z : ◌≡◌ {A = ℕ} 0 1 = cc in absurd (omega arith)

pub done_elsewhere : (s : List ℕ) (p : Stepper) → Done ≡ step_said s p → Elsewhere s p Done
done_elsewhere s p d = record { said = d; moves = λ x q e. done_next e; same = λ x q e. done_next e; forward = λ x q e. done_next e; low = λ x q e. done_next e }

-- past the last sample
pub steps_past : (s : List ℕ) (p : Stepper) → p.samples ≤ p.moving.index → Steps s p Done
unfolding step_said
steps_past s p h = record {
  next = λ w id k a g. absurd (omega (arith, a.samples, a.moving.index));
  done = λ w id a. refl;
  elsewhere = done_elsewhere s p (ap (step_as p) (stepped_past (bytes_in s p.tables) p.samples p.moving h));
}

-- what `step_in` answers of the parts' bytes, it answers of the tables at their places
pub stepped_parts : (s : List ℕ) (p : Stepper) (a b c z o y : List ℕ) (v : Option Stepped) → a ≡ part_in s p.tables.stts → b ≡ part_in s p.tables.ctts → c ≡ part_in s p.tables.stsc
    → z ≡ part_in s p.tables.stsz → o ≡ part_in s p.tables.offsets → y ≡ part_in s p.tables.stss
    → v ≡ stepped_on (record { stts = a; ctts = b; stsc = c; stsz = z; offsets = o; stss = y }) p.samples p.moving
    → v ≡ stepped_on (bytes_in s p.tables) p.samples p.moving
stepped_parts s p a b c z o y v ea eb ec ez eo ey e =
    e ∙ (λ i. stepped_on (record { stts = ea i; ctts = eb i; stsc = ec i; stsz = ez i; offsets = eo i; stss = ey i }) p.samples p.moving)

-- ---- the promise, of what `step_in` answers

module _ (s : List ℕ) (p : Stepper) (v : Option Stepped) (d : v ≡ stepped_on (bytes_in s p.tables) p.samples p.moving) where
  -- the places with the entries read
  abbrev ready : Moving
  ready = readied_moving (part_in s p.tables.stts) (part_in s p.tables.ctts) (part_in s p.tables.stsc) (part_in s p.tables.offsets) p.moving

  module _ (h : p.moving.index < p.samples) where
    moved_is : v ≡ moved_ready (bytes_in s p.tables) p.moving
    moved_is = d ∙ sym (stepped_by (bytes_in s p.tables) p.samples p.moving h)

    -- no more, of a position of another film
    none_next : v ≡ None → Steps s p Done
    unfolding step_said
    none_next u = record {
      next = λ w id k a l.
          let q = passes s w id k p a l in
          let c : ◌≡◌ {A = Option Stepped} None (Some (record { sample = sample_of (track_of (track_asked s id)) k; past = q.places })) = sym u ∙ moved_is ∙ q.answer in
          let n : ◌≡◌ {A = ℕ} 0 1 = cc in
          absurd (omega arith);
      done = λ w id a. refl;
      elsewhere = done_elsewhere s p (ap (step_as p) (sym u ∙ d));
    }

  pub steps_end : v ≡ None → Steps s p Done
  steps_end u = elim (dec_lt p.moving.index p.samples) [
    | yes h ↦ none_next h u
    | no h ↦ steps_past s p (omega arith)
  ]

  module _ (y : Stepped) (u : v ≡ Some y) (l : y.past.dealt.chunk < 2 ^ 32) where
    past_none : {A : Type 0} → p.samples ≤ p.moving.index → A
    past_none h =
        let c : ◌≡◌ {A = Option Stepped} (Some y) None = sym u ∙ d ∙ sym (stepped_past (bytes_in s p.tables) p.samples p.moving h) in
        let z : ◌≡◌ {A = ℕ} 0 1 = cc in
        absurd (omega arith)

    before_last : p.moving.index < p.samples
    before_last = elim (dec_lt p.moving.index p.samples) [
      | yes h ↦ h
      | no h ↦ past_none (omega arith)
    ]

    abbrev x : Sample
    x = y.sample

    abbrev n : Moving
    n = y.past

    -- the places that it passes on are the ones moved
    came : (b : Bool) → may_move ready ≡ b → cond {A = Option Stepped} b (Some (moved (part_in s p.tables.stsz) (part_in s p.tables.stss) ready)) None ≡ Some y
        → (may_move ready ≡ true) × (moved (part_in s p.tables.stsz) (part_in s p.tables.stss) ready ≡ y)
    came true q c = let a : moved (part_in s p.tables.stsz) (part_in s p.tables.stss) ready ≡ y = cc in (q, a)
    came false q c = let a : ◌≡◌ {A = ℕ} 0 1 = cc in absurd (omega arith)

    known : (may_move ready ≡ true) × (sample_said (part_in s p.tables.stsz) (part_in s p.tables.stss) ready ≡ x) × (moved_past (part_in s p.tables.stsz) (part_in s p.tables.stss) ready ≡ n)
    unfolding moved_on
    known =
        let k = came (may_move ready) refl (sym (moved_is before_last) ∙ u) in
        (k.0, ap (λ (v : Stepped). v.sample) k.1, ap (λ (v : Stepped). v.past) k.1)

    pub steps_next : Steps s p (Next y.sample (record { tables = p.tables; samples = p.samples; moving = y.past }))
    unfolding step_numbers step_said
    steps_next = record {
      next = λ w id k a h.
          let q = passes s w id k p a h in
          let c : ◌≡◌ {A = Option Stepped} (Some (record { sample = sample_of (track_of (track_asked s id)) k; past = q.places })) (Some y) = sym q.answer ∙ sym (moved_is before_last) ∙ u in
          let o : ◌≡◌ {A = Stepped} (record { sample = sample_of (track_of (track_asked s id)) k; past = q.places }) y = cc in
          let i : x ≡ sample_of (track_of (track_asked s id)) k = sym (ap (λ (v : Stepped). v.sample) o) in
          let j : q.places ≡ n = ap (λ (v : Stepped). v.past) o in
          record {
            position = record { tables = p.tables; samples = p.samples; moving = n };
            answer = ap (λ (r : Sample). Next r (record { tables = p.tables; samples = p.samples; moving = n })) i;
            numbers = ap (λ (r : Sample). pos 1 ∷ sample_values r) i;
            stands = record {
              asked = a.asked;
              upto = omega arith;
              tables = a.tables;
              samples = a.samples;
              moving = rw (← j) q.stands;
            };
          };
      done = λ w id a. absurd (omega (arith, before_last, a.samples, a.moving.index));
      elsewhere = record {
        said = ap (step_as p) (sym u ∙ d);
        moves = λ r q c.
            let a : q ≡ record { tables = p.tables; samples = p.samples; moving = n } = cc in
            let b : n.index ≡ p.moving.index + 1 = ap (λ o. o.index) (sym known.2) in
            rw a (before_last, omega arith, refl);
        same = λ r q c. let a : q ≡ record { tables = p.tables; samples = p.samples; moving = n } = cc in rw a refl;
        forward = λ r q c.
            let a : q ≡ record { tables = p.tables; samples = p.samples; moving = n } = cc in
            rw (a, ← known.2) (moved_forward (bytes_in s p.tables) p.moving);
        low = λ r q c.
            let a : x ≡ r = cc in
            let b = may_known ready known.0 in
            rw (← a, ← known.1) (b.2, omega (arith, l, ap (λ o. o.dealt.chunk) known.2), b.1);
      };
    }
