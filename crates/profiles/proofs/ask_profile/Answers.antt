-- `profiles::ask_profile` meets its contract: the movie's own profile, or the track's.
-- Assumes nothing.
use Prim.Native.Nat.{ℕ}
use mathlib.Core.Path.{refl, sym, ap, ◌∙◌}
use mathlib.Core.List.{List}
use borrow.Author.Tests.{eq-eqb, ne_eqb}
use Rattle.places.specs.Places.{part_in}
use Rattle.refusals.proofs.Numbers.{passed, ok_one}
use Rattle.movie.proofs.Refused.{code_err, code_ok, not_both}
use Rattle.profiles.proofs.Answers.{own_profile, track_asked_profile}
use Rattle.profiles.proofs.ask_profile.Goals as goal

pub returns-in_err-movie : goal.returns-in_err-movie
returns-in_err-movie c =
    let e = passed c.from_residual.result _ c.from_residual.ensures.1 in
    record { refusal = rw (e, eq-eqb _ _ c.if-id-eq0.true) (sym (code_err _ _ _ c.judge.ensures.refusal c.in_err-movie.was)); profile = λ p h. not_both _ _ p e h }

pub returns-then-id-eq0 : goal.returns-then-id-eq0
returns-then-id-eq0 c =
    let j = c.judge.ensures in
    record {
      refusal = rw (eq-eqb _ _ c.if-id-eq0.true) (sym (code_ok _ _ _ j.refusal c.in_ok-movie.was));
      profile = λ p h. rw (← ok_one h) (own_profile _ _ _ _ c.if-id-eq0.true refl (j.movie _ c.in_ok-movie.was).heads.profile);
    }

pub returns-in_err-asked : goal.returns-in_err-asked
returns-in_err-asked c =
    let e = passed c.from_residual-in_err-asked.result _ c.from_residual-in_err-asked.ensures.1 in
    record { refusal = rw (e, ne_eqb _ _ c.if-id-eq0.false) (sym (code_err _ _ _ c.of.ensures.refusal c.in_err-asked.was)); profile = λ p h. not_both _ _ p e h }

pub returns : goal.returns
returns c =
    let k = c.of.ensures.trak _ c.in_ok-asked.was in
    record {
      refusal = rw (ne_eqb _ _ c.if-id-eq0.false) (sym (code_ok _ _ _ c.of.ensures.refusal c.in_ok-asked.was));
      profile = λ p h. rw (← ok_one h) (track_asked_profile _ _ _ _ c.if-id-eq0.false refl (c.part_within.ensures ∙ ap (λ (t : List ℕ). part_in t c.in_ok-asked.asked.trak.parts.profile) k.body ∙ k.parts.profile));
    }
