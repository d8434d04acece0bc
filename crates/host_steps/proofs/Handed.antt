-- The promises of stepping for a caller in another language, from what the code has of the position, the steps and the places.
-- Assumes nothing.
use Prim.Native.Nat.{ℕ, suc, ◌+◌, ◌*◌, ◌≤◌, ◌<◌}
use mathlib.Core.Path.{◌≡◌, refl, sym, ap, ◌∙◌}
use mathlib.Core.List.{List, [], ◌∷◌, ◌++◌, append-nil}
use mathlib.Core.Logic.{◌⊎◌, ⊎_elim}
use native.Mathlib.Omega.{arith}
use borrow.Author.Tests.{le-ltb}
use borrow.Rule.Slice.PartMut.{put_mid, same_len_mid, drop_put}
use lib.ListN.{length, take, drop, set, replicate, length-append, length-take, length-drop}
use lib.Seq.{sets-eq, drop-length}
use lib.IntN.{ℤ, pos}
use Rattle.structure.specs.Rows.{or_else}
use Rattle.movie.specs.Rooms.{no_room, filled_room, room_after}
use Rattle.questions.specs.Samples.{sample_values}
use Rattle.questions.specs.declared.samples.Sample.{Sample}
use Rattle.stepping.specs.Stepping.{step_numbers, Steps, Chain}
use Rattle.stepping.specs.declared.Stepper.{Stepper}
use Rattle.stepping.specs.declared.Step.{Step}
use Rattle.stepping.specs.declared.Step.TheVariants.{Next, Done}
use Rattle.steps_into.specs.Into.{flat_samples, StepsInto}
use Rattle.steps_into.proofs.Chained.{flat_length}
use Rattle.steps_into.specs.declared.Reached.{Reached}
use Rattle.hand.specs.Places.{Hands}
use Rattle.position_numbers.specs.Position.{stepper_numbers, stepper_in, HandsPosition}
use Rattle.host_steps.specs.Hands.{Advanced, stepper_after, Stepped, HandsStep, Filled, HandsSteps}

-- values that the places are enough for
module _ {A : Type 0} (values places : List A) (r : ℕ) (after : List A) (h : Hands 0 values places r after) (l : length values ≤ length places) where
  handed_none : r ≡ 0
  unfolding or_else no_room
  handed_none = rw (le-ltb (length places) (length values) l) at h.result

  handed_all : after ≡ filled_room values places
  unfolding no_room room_after
  handed_all = rw (le-ltb (length places) (length values) l) at h.placed

-- ---- a step

pub short_step : (s stepper : List ℕ) (places : List ℤ) → (length stepper < 29) ⊎ (length places < 9) → HandsStep s stepper places 16 stepper places
short_step s stepper places h = record {
  short = λ _. (refl, refl, refl);
  stepped = λ a b. absurd (⊎_elim (λ l. omega arith) (λ l. omega arith) h);
}

-- ---- one step, in room for one sample

module _ (s : List ℕ) (p q : Stepper) where
  none_left : (xs : List Sample) → Chain s p xs q → length xs ≡ 0 → (8 < 8 * suc (length xs)) ⊎ Steps s q Done → Steps s p Done
  none_left [] c e h = ⊎_elim (λ l. absurd (omega arith)) (λ g. rw c g) h
  none_left (x ∷ xs) c e h = absurd (omega arith)

  -- the sample, and its values alone
  pub record One (values : List ℤ) : Type 0 where
    pub sample : Sample
    pub steps : Steps s p (Next sample q)
    pub same : values ≡ sample_values sample

  one : (xs : List Sample) → Chain s p xs q → (length xs ≡ 0 → ⊥) → 8 * length xs ≤ 8 → One (flat_samples xs)
  one [] c n h = absurd (n refl)
  one (x ∷ []) c n h = record { sample = x; steps = rw c.2 at c.1; same = refl }
  one (x ∷ y ∷ zs) c n h = absurd (omega arith)

-- ---- the ways out of `advance`

module _ (s stepper : List ℕ) (room : List ℤ) (least : ℕ) (p : Stepper) (y : Reached) (room' : List ℤ) (d : p ≡ stepper_in stepper) (g : StepsInto s p room y room') where
  pub advanced_none : y.count < least → Advanced s stepper room least y.count stepper room'
  advanced_none h = record {
    position = y.position;
    steps = rw d at g;
    kept = λ _. refl;
    numbers = λ l. absurd (omega arith);
    again = λ l. absurd (omega arith);
  }

  pub advanced_some : (r : ℕ) (after : List ℕ) → 29 ≤ length stepper → least ≤ y.count → HandsPosition y.position stepper r after → Advanced s stepper room least y.count after room'
  unfolding stepper_numbers
  advanced_some r after j h a = record {
    position = y.position;
    steps = rw d at g;
    kept = λ l. absurd (omega arith);
    numbers = λ _. handed_all (stepper_numbers y.position) stepper r after a.handed j;
    again = λ _. a.again j;
  }

-- the room for one sample: the last eight of nine places
part_eight : (places : List ℤ) → 9 ≤ length places → length (take 8 (drop 1 places)) ≡ 8
part_eight places h = simp (length-take, length-drop) (omega arith)

drop_end : (room : List ℤ) → length room ≡ 8 → drop 8 room ≡ []
drop_end room f = rw f at (drop-length room)

nine_places : (places room : List ℤ) → 9 ≤ length places → set (put_mid 1 8 places room) 0 (pos 1) ≡ pos 1 ∷ (room ++ drop 9 places)
nine_places [] room h = absurd (omega arith)
nine_places (x ∷ xs) room h = refl

module _ (s stepper : List ℕ) (places room : List ℤ) (n : ℕ) (after : List ℕ) (a : Advanced s stepper (take 8 (drop 1 places)) 1 n after room) (j : 29 ≤ length stepper) (k : 9 ≤ length places) where
  enough : {A : Type 0} → (length stepper < 29) ⊎ (length places < 9) → A
  enough h = absurd (⊎_elim (λ l. omega arith) (λ l. omega arith) h)

  eight : length (take 8 (drop 1 places)) ≡ 8
  eight = part_eight places k

  room_same : length room ≡ 8
  unfolding filled_room
  room_same =
      ap length a.steps.filled
      ∙ length-append (flat_samples a.steps.samples) _
      ∙ ap (λ (l : ℕ). length (flat_samples a.steps.samples) + l) (length-drop (length (flat_samples a.steps.samples)) (take 8 (drop 1 places)))
      ∙ omega (arith, eight, flat_length a.steps.samples, a.steps.within)

  no_step : n ≡ 0 → Steps s (stepper_in stepper) Done
  no_step e = none_left s (stepper_in stepper) a.position a.steps.samples a.steps.chain (sym a.steps.count ∙ e) (rw eight at a.steps.ends)

  pub step_done : (r : ℕ) (placed : List ℤ) → n ≡ 0 → Hands 0 (replicate 9 (pos 0)) (put_mid 1 8 places room) r placed → HandsStep s stepper places r after placed
  unfolding step_numbers stepper_after filled_room
  step_done r placed e h =
      let l : 9 ≤ length (put_mid 1 8 places room) = omega (arith, same_len_mid 1 8 places room (room_same ∙ sym eight)) in
      let q : drop 9 (put_mid 1 8 places room) ≡ drop 9 places = drop_put 1 9 places room (omega arith) k room_same in
      record {
        short = enough;
        stepped = λ _ _. record {
          step = Done;
          steps = no_step e;
          result = handed_none (replicate 9 (pos 0)) (put_mid 1 8 places room) r placed h l;
          numbers = handed_all (replicate 9 (pos 0)) (put_mid 1 8 places room) r placed h l ∙ ap (λ (t : List ℤ). replicate 9 (pos 0) ++ t) q;
          position = a.kept (omega arith);
          again = λ z v c. let o : ◌≡◌ {A = ℕ} 0 1 = cc in absurd (omega arith);
        };
      }

  one_step : (n ≡ 0 → ⊥) → One s (stepper_in stepper) a.position (flat_samples a.steps.samples)
  one_step e = one s (stepper_in stepper) a.position a.steps.samples a.steps.chain (λ z. e (a.steps.count ∙ z)) (rw eight at a.steps.within)

  pub step_next : (n ≡ 0 → ⊥) → HandsStep s stepper places 0 after (set (put_mid 1 8 places room) 0 (pos 1))
  unfolding step_numbers stepper_after filled_room
  step_next e =
      let o = one_step e in
      let v : room ≡ sample_values o.sample = a.steps.filled ∙ ap (λ (l : List ℤ). l ++ drop (length l) (take 8 (drop 1 places))) o.same ∙ rw (drop_end (take 8 (drop 1 places)) eight) (append-nil (sample_values o.sample)) in
      record {
        short = enough;
        stepped = λ _ _. record {
          step = Next o.sample a.position;
          steps = o.steps;
          result = refl;
          numbers = nine_places places room k ∙ ap (λ (l : List ℤ). pos 1 ∷ (l ++ drop 9 places)) v;
          position = a.numbers (omega arith);
          again = λ z w c. let i : a.position ≡ w = cc in a.again (omega arith) ∙ i;
        };
      }

-- ---- the next samples

pub short_steps : (s stepper : List ℕ) (room : List ℤ) (places : List ℕ) → (length stepper < 29) ⊎ (length places < 1) → HandsSteps s stepper room places 16 stepper room places
short_steps s stepper room places h = record {
  short = λ _. (refl, refl, refl, refl);
  filled = λ a b. absurd (⊎_elim (λ l. omega arith) (λ l. omega arith) h);
}

pub filled_steps : (s stepper : List ℕ) (room : List ℤ) (places : List ℕ) (n : ℕ) (after : List ℕ) (room' : List ℤ) (placed : List ℕ) → Advanced s stepper room 0 n after room'
    → 29 ≤ length stepper → 1 ≤ length places → placed ≡ set places 0 n → HandsSteps s stepper room places 0 after room' placed
unfolding filled_room
filled_steps s stepper room places n after room' placed a j k e = record {
  short = λ h. absurd (⊎_elim (λ l. omega arith) (λ l. omega arith) h);
  filled = λ _ _. record {
    reached = record { count = n; position = a.position };
    steps = a.steps;
    result = refl;
    count = e ∙ sets-eq (n ∷ []) places 0 k;
    numbers = a.numbers (omega arith);
    again = a.again (omega arith);
  };
}
