-- What is handed over, case by case; and that a handle that was handed over is the handle of its film, so that by it the question's own answer is given.
-- Assumes nothing.
use Prim.Native.Nat.{ℕ, ◌≤◌, ◌<◌, ◌^◌}
use mathlib.Core.Path.{◌≡◌, refl, sym, ap, ◌∙◌}
use mathlib.Core.List.{List, ◌++◌}
use mathlib.Core.Bool.{Bool, true, false, cond}
use native.Mathlib.Omega.{arith}
use native.Mathlib.Nat.{mod-lt}
use borrow.Author.Tests.{ltb-false, le-ltb}
use lib.Dec.{ltb}
use lib.ListN.{length, get_or, drop}
use Rattle.structure.specs.declared.source.Source.{Source}
use Rattle.questions.specs.declared.samples.Sample.{Sample}
use Rattle.std.specs.Prelude.{Result, Ok, Err}
use Rattle.refusals.specs.Refusals.{number, code}
use Rattle.refusals.specs.declared.Refusal.{Refusal}
use Rattle.refusals.proofs.Numbers.{ok_one}
use Rattle.movie.proofs.Refused.{not_both}
use Rattle.structure.proofs.Callers.{none_else}
use Rattle.movie.specs.Rooms.{no_room, filled_room, room_after}
use Rattle.hand.specs.Places.{Hands}
use Rattle.opened.specs.Opened.{HandleOf, OpenAnswers, Opens, SampleBy}
use Rattle.opened.specs.declared.Opened.{Opened}
use Rattle.host_opened.specs.Handle.{opened_numbers, opened_in, HandsHandle}
use Rattle.host_opened.specs.Hands.{open_values, HandsOpening, HandsBy, SameByHandle}

-- ---- opening

pub opened_track : (s : List ℕ) (w : Source) (id : ℕ) (places : List ℕ) (r : ℕ) (after : List ℕ) (o : Result Opened Refusal) (h : Opened) → OpenAnswers s w id o → o ≡ Ok h → HandsHandle h places r after
    → HandsOpening s w id places r after
unfolding open_values
opened_track s w id places r after o h a e d = record {
  opening = Ok h;
  opens = rw e at a;
  handed = d.handed;
  again = λ g q l. d.again l ∙ ok_one q;
}

pub opened_refused : (s : List ℕ) (w : Source) (id : ℕ) (places : List ℕ) (r : ℕ) (after : List ℕ) (o : Result Opened Refusal) (k : Refusal) → OpenAnswers s w id o → o ≡ Err k
    → Hands (number k) (open_values (Err k)) places r after → HandsOpening s w id places r after
opened_refused s w id places r after o k a e d = record {
  opening = Err k;
  opens = rw e at a;
  handed = d;
  again = λ g q l. not_both _ k g refl q;
}

-- ---- by a handle

module _ {X Y : Type 0} (handle : List ℕ) (Promise Handed : X → Type 0) (places : List Y) (r : ℕ) (after : List Y) where
  pub handle_short : length handle < 19 → r ≡ 16 → after ≡ places → HandsBy handle Promise Handed places r after
  handle_short h e d = record { short = λ l. (e, d); answered = λ l. absurd (omega arith) }

  pub handle_whole : 19 ≤ length handle → (a : X) → Promise a → Handed a → HandsBy handle Promise Handed places r after
  handle_whole h a p d = record { short = λ l. absurd (omega arith); answered = λ l. record { answer = a; promise = p; handed = d } }

-- the numbers of a sample by a handle are low
pub sample_low : (s ns : List ℕ) (h : Opened) (n : ℕ) (a : Result Sample Refusal) → h ≡ opened_in ns → SampleBy s h n a → (x : Sample) → a ≡ Ok x
    → (x.decode < 2 ^ 63) × (x.chunk < 2 ^ 63) × (x.offset < 2 ^ 63)
unfolding opened_in
sample_low s ns h n a f b x e =
    let l = b.low x e in
    let m = mod-lt (get_or ns 15 0) {m = 4294967296} (omega arith) in
    (omega (arith, l.0), omega (arith, l.1, ap (λ (g : Opened). g.chunks) f, m), l.2)

-- ---- what opening and asking come to

room_enough : (b : Bool) → ◌≡◌ {A = ℕ} (cond b 16 0) 0 → b ≡ false
room_enough true e = absurd (omega arith)
room_enough false e = refl

module _ (s : List ℕ) (w : Source) (id : ℕ) (places : List ℕ) (r : ℕ) (after : List ℕ) (d : HandsOpening s w id places r after) (z : r ≡ 0) where
  judged : (code d.opening ≡ 0) × (no_room (open_values d.opening) places ≡ 0)
  judged = none_else _ _ (sym d.handed.result ∙ z)

  found : HandleOf s w id d.opening
  found = d.opens.opened (sym d.opens.number ∙ judged.0)

  values : open_values d.opening ≡ opened_numbers found.handle
  unfolding open_values
  values = ap open_values found.answer

  enough : 19 ≤ length places
  unfolding no_room opened_numbers
  enough = ltb-false _ _ (room_enough (ltb (length places) 19) (rw values at judged.1))

  pub long : 19 ≤ length after
  unfolding no_room room_after filled_room opened_numbers
  long =
      let e : after ≡ opened_numbers found.handle ++ drop 19 places = rw (values, le-ltb (length places) 19 enough) at d.handed.placed in
      rw e (omega arith)

  -- what then stands in the places is a handle of the film
  pub opening_opens : Opens s w id (opened_in after)
  opening_opens = rw (d.again found.handle found.answer enough) found.opens

  -- so by it each question hands over what it does without one
  pub same_by_handle : SameByHandle s w id after
  same_by_handle = record {
    sample = λ n q k p h. let a = h.answered long in rw (a.promise.right w id opening_opens).answer at a.handed;
    number = λ t q k p h. let a = h.answered long in rw (a.promise.right w id opening_opens).answer at a.handed;
    time = λ t q k p h. let a = h.answered long in rw (a.promise.right w id opening_opens).answer at a.handed;
  }
