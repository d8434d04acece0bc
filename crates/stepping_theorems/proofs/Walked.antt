-- The promises of `Stepper::at` and of `step` alone give the claims, by induction on the steps.
-- Assumes nothing.
use Prim.Native.Nat.{ℕ, zero, suc, ◌+◌, ◌-◌, ◌≤◌, ◌<◌}
use mathlib.Core.Path.{◌≡◌, refl, sym, ap, ◌∙◌}
use mathlib.Core.List.{List, [], ◌∷◌, map}
use native.Mathlib.Omega.{arith}
use native.Mathlib.Decide.{dec_lt}
use borrow.Author.Tests.{lt-ltb, le-leb}
use lib.ListN.{length}
use Rattle.structure.specs.declared.source.Source.{Source}
use Rattle.structure.specs.Track.{samples_of}
use Rattle.structure.specs.Rows.{or_else}
use Rattle.track.specs.Track.{track_of}
use Rattle.questions.specs.Asked.{ask_refusal, track_asked}
use Rattle.questions.specs.Samples.{sample_of, sample_refusal, sample_answer}
use Rattle.questions.specs.declared.samples.Sample.{Sample}
use Rattle.stepping.specs.Stepping.{Stands, Starts, Forward, Steps, Onward, Chain}
use Rattle.stepping.specs.declared.Stepper.{Stepper}
use Rattle.stepping.specs.declared.Step.{Step}
use Rattle.stepping.specs.declared.Step.TheVariants.{Next, Done}
use Rattle.stepping_theorems.specs.Walked.{answers_from, Walks, Keeps, StepsThrough, StepsFromAny, StepsAnywhere}
use Rattle.std.specs.Prelude.{Result, Ok}
use Rattle.refusals.specs.declared.Refusal.{Refusal}

-- the sample question's answer for a sample of the track
answered : (s : List ℕ) (w : Source) (id k : ℕ) → ask_refusal s w id ≡ 0 → k < samples_of (track_asked s id)
    → sample_answer s w id (suc k) ≡ Ok (sample_of (track_of (track_asked s id)) k)
unfolding sample_refusal or_else
answered s w id k e h =
    let z : suc k - 1 ≡ k = omega arith in
    rw (e, lt-ltb 0 (suc k) (omega arith), le-leb (suc k) (samples_of (track_asked s id)) (omega arith), z)

-- a number in 1 to N is not refused
accepted : (s : List ℕ) (w : Source) (id n : ℕ) → ask_refusal s w id ≡ 0 → 1 ≤ n → n ≤ samples_of (track_asked s id) → sample_refusal s w id n ≡ 0
unfolding sample_refusal or_else
accepted s w id n e g h = rw (e, lt-ltb 0 n (omega arith), le-leb n (samples_of (track_asked s id)) h)

-- a step is not done and a sample too
no_sample : {x : Sample} {q : Stepper} {A : Type 0} → Done ≡ Next x q → A
no_sample e = let z : ◌≡◌ {A = ℕ} 0 1 = cc in absurd (omega arith)

module _ (s : List ℕ) (w : Source) (id : ℕ) where
  -- a step to a sample, from before sample k: it is that sample, and the position is before the next
  record Passed (k : ℕ) (x : Sample) (q : Stepper) : Type 0 where
    here : k < samples_of (track_asked s id)
    sample : x ≡ sample_of (track_of (track_asked s id)) k
    stands : Stands s w id (suc k) q

  passed : (k : ℕ) (p : Stepper) (x : Sample) (q : Stepper) → Stands s w id k p → Steps s p (Next x q) → Passed k x q
  passed k p x q a g = elim (dec_lt k (samples_of (track_asked s id))) [
    | yes h ↦
        let o = g.next w id k a h in
        let e : x ≡ sample_of (track_of (track_asked s id)) k = let z = o.answer in cc in
        let d : o.position ≡ q = let z = o.answer in cc in
        record { here = h; sample = e; stands = rw d at o.stands }
    | no h ↦ let z : k ≡ samples_of (track_asked s id) = omega (arith, a.upto) in no_sample (sym (g.done w id (rw z at a)))
  ]

  walks : (k : ℕ) (p : Stepper) (xs : List Sample) (q : Stepper) → Stands s w id k p → Chain s p xs q
      → (map Ok xs ≡ answers_from (sample_answer s w id) (suc k) (length xs)) × Stands s w id (k + length xs) q
  walks k p [] q a c = let z : k ≡ k + 0 = omega arith in (refl, rw (c, z) at a)
  walks k p (x ∷ xs) q a c =
      let o = passed k p x c.0 a c.1 in
      let f = walks (suc k) c.0 xs q o.stands c.2 in
      let z : suc k + length xs ≡ k + suc (length xs) = omega arith in (
        λ i. ((ap Ok o.sample ∙ sym (answered s w id k a.asked o.here)) i) ∷ f.0 i,
        rw z at f.1,
      )

  -- c steps from before sample k to the end
  ends : (f : Stepper → Step) → Keeps s w id f → (c k : ℕ) (p : Stepper) → Stands s w id k p → k + c ≡ samples_of (track_asked s id)
      → (xs : List Sample) × Walks f p xs × (map Ok xs ≡ answers_from (sample_answer s w id) (suc k) c)
  ends f g zero k p a e = let z : k ≡ samples_of (track_asked s id) = omega arith in ([], (g k p a).done w id (rw z at a), refl)
  ends f g (suc c) k p a e =
      let h : k < samples_of (track_asked s id) = omega arith in
      let o = (g k p a).next w id k a h in
      let t = ends f g c (suc k) o.position o.stands (omega arith) in
      let x = sample_of (track_of (track_asked s id)) k in
      (x ∷ t.0, (o.position, o.answer, t.1), λ i. sym (answered s w id k a.asked h) i ∷ t.2 i)

  steps_from : (k : ℕ) (p : Stepper) → Stands s w id k p → StepsThrough s w id (suc k) p
  steps_from k p a =
      let z : suc k - 1 ≡ k = omega arith in
      record {
        to_end = λ f g. ends f g (suc (samples_of (track_asked s id)) - suc k) k p a (omega (arith, a.upto));
        answers = λ xs q c. (walks k p xs q a c).0;
        stands = λ xs q c. rw z (walks k p xs q a c).1;
        done = λ xs q c e r g. let d : k + length xs ≡ samples_of (track_asked s id) = omega (arith, e) in g.done w id (rw d at (walks k p xs q a c).1);
        all = λ xs q c g.
            let f = (walks k p xs q a c).1 in
            elim (dec_lt (k + length xs) (samples_of (track_asked s id))) [
              | yes h ↦ no_sample (g.next w id (k + length xs) f h).answer
              | no h ↦ omega (arith, f.upto)
            ];
      }

  standing : (n : ℕ) → 1 ≤ n → (p : Stepper) → Stands s w id (n - 1) p → StepsThrough s w id n p
  standing n h p a = let z : suc (n - 1) ≡ n = omega arith in rw z at (steps_from (n - 1) p a)

  pub steps_from_any : (n : ℕ) → StepsFromAny s w id n
  steps_from_any n = record {
    started = λ e g h r a. let b = a.started (accepted s w id n e g h) in (b.position, b.answer, standing n g b.position b.stands);
    standing = standing n;
  }

module _ (s : List ℕ) where
  goes : (p : Stepper) (xs : List Sample) (q : Stepper) → Chain s p xs q
      → (q.moving.index ≡ p.moving.index + length xs) × (q.tables ≡ p.tables) × (length xs ≤ p.samples - p.moving.index)
  goes p [] q c = (rw c (omega arith), rw c refl, omega arith)
  goes p (x ∷ xs) q c =
      let m = c.1.elsewhere.moves x c.0 refl in
      let f = goes c.0 xs q c.2 in
      (omega arith, f.1 ∙ c.1.elsewhere.same x c.0 refl, omega arith)

  forwards : (p : Stepper) (xs : List Sample) (q : Stepper) → Chain s p xs q → Forward p.moving q.moving
  forwards p [] q c = rw c (record { stts = omega arith; ctts = omega arith; stsc = omega arith; offsets = omega arith; stss = omega arith })
  forwards p (x ∷ xs) q c =
      let a = c.1.elsewhere.forward x c.0 refl in
      let b = forwards c.0 xs q c.2 in
      record {
        stts = omega (arith, a.stts, b.stts);
        ctts = omega (arith, a.ctts, b.ctts);
        stsc = omega (arith, a.stsc, b.stsc);
        offsets = omega (arith, a.offsets, b.offsets);
        stss = omega (arith, a.stss, b.stss);
      }

  pub steps_anywhere : (p : Stepper) → StepsAnywhere s p
  steps_anywhere p = record {
    moves = λ xs q c. (goes p xs q c).0;
    tables = λ xs q c. (goes p xs q c).1;
    forward = forwards p;
    ends = λ xs q c. (goes p xs q c).2;
  }
