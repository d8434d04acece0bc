-- The ways out of the functions: too few numbers, and an answer that is put or refused.
-- Assumes nothing.
use Prim.Native.Nat.{ℕ, ◌≤◌, ◌<◌}
use mathlib.Core.Path.{◌≡◌, refl, sym, ap, ◌∙◌}
use mathlib.Core.Bool.{Bool, true, false, ◌&&◌}
use mathlib.Core.List.{List}
use native.Mathlib.Omega.{arith}
use native.Mathlib.Decide.{ℕ_discrete}
use borrow.Author.Tests.{lt-leb, le-leb, eq-eqb}
use lib.ListN.{length, drop}
use lib.Dec.{leb}
use Rattle.structure.specs.declared.source.Source.{Source}
use Rattle.return_totals.specs.Returns.{Return, limit_refusal, limited, return_of, KeepsRest}
use Rattle.return_totals.specs.Joining.{joined_refusal, joined_return, with_return, Joins}
use Rattle.return_totals.specs.declared.FilmReturn.{FilmReturn}
use Rattle.return_totals.specs.declared.Filed.{Filed}
use Rattle.return_numbers.specs.Numbers.{return_in, PutsReturn}
use Rattle.film_return.specs.Films.{filed_refusal, filed_return, with_film, Files}
use Rattle.host_film_return.specs.Hands.{HandsReturn, FilesNumbers, JoinsNumbers, PutsFiled}

pub refused_left : (f : Filed) (places : List ℕ) → (f.refusal ≡ 0 → ⊥) → PutsFiled f places f.refusal places
refused_left f places n = record { result = refl; put = λ q. absurd (n q); stays = λ q. refl }

pub accepted_put : (f : Filed) (places after : List ℕ) → f.refusal ≡ 0 → PutsReturn f.totals places after → PutsFiled f places 0 after
accepted_put f places after z p = record { result = sym z; put = λ q. p; stays = λ q. absurd (q refl) }

neither : (a : Bool) → (a && false) ≡ false
neither true = refl
neither false = refl

few : (enough : Bool) (whole : Return) (places : List ℕ) → enough ≡ false → HandsReturn enough whole places 16 places
few enough whole places e =
    record { result = rw e; totals = λ q. absurd (omega arith); kept = λ q. absurd (omega arith); placed = λ q. absurd (omega arith); rest = refl; left = λ q. refl }

pub too_few : (s : List ℕ) (w : Source) (places : List ℕ) → length places < 83 → FilesNumbers s w places 16 places
too_few s w places h = few _ _ places (lt-leb 83 (length places) h)

pub joins_too_few : (more places : List ℕ) → length places < 83 → JoinsNumbers more places 16 places
joins_too_few more places h = few _ _ places (rw (lt-leb 83 (length places) h))

pub too_few_more : (more places : List ℕ) → length more < 83 → JoinsNumbers more places 16 places
too_few_more more places h = few _ _ places (rw (lt-leb 83 (length more) h) (neither (leb 83 (length places))))

all_in : (r whole : Return) → limit_refusal whole ≡ 0 → limited r whole ≡ whole
unfolding limited
all_in r whole z = rw (eq-eqb (limit_refusal whole) 0 z)

module _ (enough : Bool) (e : enough ≡ true) (whole : Return) (places : List ℕ) (f : Filed) (refusal : f.refusal ≡ limit_refusal whole)
    (totals : return_of f.totals ≡ limited (return_of (return_in places)) whole) (kept : KeepsRest (return_in places) f.totals) where
  made : (r : ℕ) (after : List ℕ) → PutsFiled f places r after → r ≡ 0 → limit_refusal whole ≡ 0
  made r after p z = sym refusal ∙ sym p.result ∙ z

  handed : (r : ℕ) (after : List ℕ) → PutsFiled f places r after → HandsReturn enough whole places r after
  handed r after p = record {
    result = p.result ∙ refusal ∙ rw e;
    totals = λ z. rw (p.put z).again (totals ∙ all_in (return_of (return_in places)) whole (made r after p z));
    kept = λ z. rw (p.put z).again kept;
    placed = λ z. rw (p.put z).again (p.put z).placed;
    rest = elim (ℕ_discrete r 0) [
      | yes z ↦ (p.put z).rest
      | no n ↦ ap (drop 83) (p.stays n)
    ];
    left = p.stays;
  }

-- a film added to the return b that the places are
pub film_handed : (s : List ℕ) (w : Source) (places : List ℕ) → 83 ≤ length places → (b : FilmReturn) → b ≡ return_in places → (f : Filed) → Files b s w f
    → (r : ℕ) (after : List ℕ) → PutsFiled f places r after → FilesNumbers s w places r after
unfolding filed_refusal filed_return
film_handed s w places h b e f z =
    handed (leb 83 (length places)) (le-leb 83 (length places) h) (with_film s w (return_of (return_in places))) places f (rw (← e) z.refusal) (rw (← e) z.totals) (rw (← e) z.rest)

-- the return q joined to it
pub join_handed : (more places : List ℕ) → 83 ≤ length places → 83 ≤ length more → (b q : FilmReturn) → b ≡ return_in places → q ≡ return_in more → (f : Filed) → Joins b q f
    → (r : ℕ) (after : List ℕ) → PutsFiled f places r after → JoinsNumbers more places r after
unfolding joined_refusal joined_return
join_handed more places h g b q e d f z =
    handed (leb 83 (length places) && leb 83 (length more)) (rw (le-leb 83 (length places) h, le-leb 83 (length more) g)) (with_return (return_of (return_in more)) (return_of (return_in places))) places f
    (rw (← e, ← d) z.refusal) (rw (← e, ← d) z.totals) (rw (← e) z.rest)
