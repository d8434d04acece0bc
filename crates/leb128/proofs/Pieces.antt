-- Where the reader of a number stops is told by the first piece that the bytes from there on are cut into: past a piece that is so written, at the end for one
-- that is cut short, at its first byte for any other.
-- Assumes nothing.
use mathlib.Core.Path.{◌≡◌, refl, sym, ap, ◌∙◌}
use mathlib.Core.Logic.{◌⊎◌, inl, inr}
use mathlib.Core.Bool.{Bool, true, false, cond, not, ◌&&◌}
use mathlib.Core.List.{List, [], ◌∷◌, ◌++◌}
use Prim.Native.Nat.{ℕ, zero, suc, ◌+◌, ◌-◌, ◌*◌, ◌/◌, ◌%◌, ◌<◌, ◌≤◌, ◌^◌}
use native.Mathlib.Omega.{arith}
use lib.Dec.{ltb, leb, eqb}
use lib.ListN.{length, drop, get_or, length-drop}
use lib.Seq.{get_or-drop, drop-drop}
use borrow.Author.Tests.{ltb-true, ltb-false, leb-true, leb-false, lt-ltb, le-ltb, le-leb, lt-leb}
use Rattle.leb128.specs.Numbers.{groups_in, groups, value, onto, cut, same, written, unended, cut_short}
use Rattle.leb128.specs.Reading.{limit, Reading, good, broken, short, after, number, read_of, read_at, found}
use Rattle.std.specs.Prelude.{Err}
use Rattle.leb128.specs.declared.number.NumberFault.TheVariants.{Broken, Short}
use Rattle.leb128.proofs.Readings.{read_good, read_next}
use Rattle.leb128.proofs.Groups.{groups_some, number_written, number_groups}
use Rattle.lists.proofs.Booleans.{and_both, and_false}
use Rattle.leb128.proofs.Cuts.{value_groups, cut_groups, same_true, same_refl, joined, joined_cut, small_ten}

-- ---- cut short: no byte ends the number, and there are too few to tell

abbrev Cut : ℕ → List (List ℕ) → Bool
Cut k [] = true
Cut k (p ∷ ps) = cut_short k p

is_short : Reading → Bool
is_short (good n len) = false
is_short broken = false
is_short short = true

after_short : (b : ℕ) (r : Reading) → is_short (after b r) ≡ is_short r
unfolding after is_short
after_short b (good m len) = go (eqb m 0)
  where
    go : (f : Bool) → is_short (cond f broken (good (b - 128 + 128 * m) (suc len))) ≡ false
    go true = refl
    go false = refl
after_short b broken = refl
after_short b short = refl

ended : (b k : ℕ) → ltb b 128 ≡ true → cut_short (suc k) (b ∷ []) ≡ false
unfolding cut_short unended
ended b k q = rw q

-- a byte with the top bit before pieces
onto_short : (b k : ℕ) (ps : List (List ℕ)) → 128 ≤ b → Cut (suc k) (onto b ps) ≡ Cut k ps
unfolding onto cut_short unended
onto_short b k [] h = rw (le-ltb b 128 h, le-leb 1 (suc k) (omega arith))
onto_short b k ([] ∷ ps) h = rw (le-ltb b 128 h, le-leb 1 (suc k) (omega arith), le-leb 0 k (omega arith))
onto_short b k ((c ∷ p) ∷ ps) h = ap (λ x. unended (c ∷ p) && x) (leb_suc (suc (length p)) k)
  where
    leb_suc : (m n : ℕ) → leb (suc m) (suc n) ≡ leb m n
    leb_suc m n = go (leb m n) refl
      where
        go : (f : Bool) → leb m n ≡ f → leb (suc m) (suc n) ≡ f
        go true e = le-leb (suc m) (suc n) (omega (arith, leb-true m n e))
        go false e = lt-leb (suc m) (suc n) (omega (arith, leb-false m n e))

never : (b : Bool) (x y : Reading) → is_short x ≡ false → is_short y ≡ false → is_short (cond b x y) ≡ false
never true x y e f = e
never false x y e f = f

none_short : (b : ℕ) (ps : List (List ℕ)) → Cut 0 (onto b ps) ≡ false
unfolding onto cut_short
none_short b [] = rw (lt-leb 1 0 (omega arith)) (and_false (unended (b ∷ [])))
none_short b (p ∷ ps) = rw (lt-leb (suc (length p)) 0 (omega arith)) (and_false (unended (b ∷ p)))

short_cut : (k top : ℕ) (bs : List ℕ) → is_short (number k top bs) ≡ Cut k (cut bs)
unfolding number is_short cut cut_short onto
short_cut k top [] = refl
short_cut zero top (b ∷ bs) = never (ltb b top) (good b 1) broken refl refl ∙ sym (go (ltb b 128))
  where
    go : (g : Bool) → Cut zero (cond g ((b ∷ []) ∷ cut bs) (onto b (cut bs))) ≡ false
    go true = none_short b []
    go false = none_short b (cut bs)
short_cut (suc k) top (b ∷ bs) = go (ltb b 128) refl (short_cut k top bs)
  where
    go : (g : Bool) → ltb b 128 ≡ g → is_short (number k top bs) ≡ Cut k (cut bs)
        → is_short (cond g (good b 1) (after b (number k top bs))) ≡ Cut (suc k) (cond g ((b ∷ []) ∷ cut bs) (onto b (cut bs)))
    go true q ih = sym (ended b k q)
    go false q ih = after_short b (number k top bs) ∙ ih ∙ sym (onto_short b k (cut bs) (ltb-false b 128 q))

-- ---- good: the first piece is the writing of the number

good_cut : (k top : ℕ) (bs : List ℕ) (n len : ℕ) → 0 < top → top ≤ 128 → k ≤ 9 → limit k top ≤ 2 ^ 64 → ((i : ℕ) → get_or bs i 0 < 256) → number k top bs ≡ good n len
    → (cut bs ≡ groups n ∷ cut (drop len bs)) × (n < limit k top) × (len ≡ length (groups n))
unfolding groups
good_cut k top bs n len p t nine w are e =
    let r = number_written k top 9 bs n len p t nine are e in
    (ap cut r.bytes ∙ cut_groups 9 n (drop len bs) (small_ten n (omega (arith, r.below))), r.below, r.count)

written_good : (k top : ℕ) (bs p : List ℕ) (ps : List (List ℕ)) → top ≤ 128 → limit k top ≤ 2 ^ 64 → cut bs ≡ p ∷ ps → written (limit k top) p ≡ true → number k top bs ≡ good (value p) (length p)
unfolding written groups joined
written_good k top bs p ps t w e h =
    let u = and_both (ltb (value p) (limit k top)) (same p (groups (value p))) h in
    let l = ltb-true (value p) (limit k top) u.0 in
    let q : p ≡ groups_in 9 (value p) = same_true p (groups (value p)) u.1 in
    let b : bs ≡ p ++ joined ps = sym (joined_cut bs) ∙ ap joined e in
    let c : bs ≡ groups_in 9 (value p) ++ joined ps = b ∙ ap (λ (x : List ℕ). x ++ joined ps) q in
    ap (number k top) c ∙ number_groups k top 9 (value p) (joined ps) t l (small_ten (value p) (omega arith)) ∙ ap (λ (x : List ℕ). good (value p) (length x)) (sym q)

-- ---- cut short: the piece is the last one

pub cut_none : (bs : List ℕ) → cut bs ≡ [] → bs ≡ []
unfolding joined
cut_none bs e = sym (joined_cut bs) ∙ ap joined e

unended_last : (bs p : List ℕ) (ps : List (List ℕ)) → cut bs ≡ p ∷ ps → unended p ≡ true → length p ≡ length bs
unfolding cut onto unended
unended_last [] p ps e u = absurd (let z : ◌≡◌ {A = ℕ} 0 1 = cc in omega arith)
unended_last (b ∷ bs) p ps e u = go (ltb b 128) refl e (unended_last bs)
  where
    IH : Type 0
    IH = (q : List ℕ) (qs : List (List ℕ)) → cut bs ≡ q ∷ qs → unended q ≡ true → length q ≡ length bs

    rest : (q : List ℕ) → unended (b ∷ q) ≡ true → unended q ≡ true
    rest [] v = refl
    rest (c ∷ q) v = v

    more : (l : List (List ℕ)) → cut bs ≡ l → onto b l ≡ p ∷ ps → IH → length p ≡ length (b ∷ bs)
    more [] f e' ih = let q : b ∷ [] ≡ p = cc in omega (arith, ap length q, ap length (cut_none bs f))
    more (q ∷ qs) f e' ih = let r : b ∷ q ≡ p = cc in omega (arith, ap length r, ih q qs f (rest q (ap unended r ∙ u)))

    go : (g : Bool) → ltb b 128 ≡ g → cond g ((b ∷ []) ∷ cut bs) (onto b (cut bs)) ≡ p ∷ ps → IH → length p ≡ length (b ∷ bs)
    go true g e' ih =
        let q : b ∷ [] ≡ p = cc in
        let v : not (ltb b 128) ≡ true = ap unended q ∙ u in
        let w : false ≡ true = rw g at v in
        let z : ◌≡◌ {A = ℕ} 0 1 = cc in absurd (omega arith)
    go false g e' ih = more (cut bs) refl e' ih

-- ---- so written: some byte ends it

unended_rest : (b : ℕ) (q : List ℕ) → 0 < length q → unended (b ∷ q) ≡ unended q
unfolding unended
unended_rest b [] h = absurd (omega arith)
unended_rest b (c ∷ q) h = refl

groups_ended : (j n : ℕ) → n < limit j 128 → unended (groups_in j n) ≡ false
unfolding groups_in limit unended
groups_ended zero n h = rw (lt-ltb n 128 h)
groups_ended (suc j) n h = go (ltb n 128) refl (groups_ended j (n / 128))
  where
    go : (f : Bool) → ltb n 128 ≡ f → (n / 128 < limit j 128 → unended (groups_in j (n / 128)) ≡ false) → unended (cond f (n ∷ []) ((128 + n % 128) ∷ groups_in j (n / 128))) ≡ false
    go true f ih = rw f
    go false f ih = unended_rest (128 + n % 128) (groups_in j (n / 128)) (groups_some j (n / 128)) ∙ ih (omega arith)

pub written_ended : (k bound : ℕ) (p : List ℕ) → bound ≤ 2 ^ 64 → written bound p ≡ true → cut_short k p ≡ false
unfolding written groups cut_short
written_ended k bound p w h =
    let u = and_both (ltb (value p) bound) (same p (groups (value p))) h in
    let l = ltb-true (value p) bound u.0 in
    let e : unended p ≡ false = ap unended (same_true p (groups (value p)) u.1) ∙ groups_ended 9 (value p) (small_ten (value p) (omega arith)) in
    rw e

-- ---- what is read at a place

-- a piece that is the number n, so written
pub record IsNumber (k bound : ℕ) (p : List ℕ) (n : ℕ) : Type 0 where
  pub ended : cut_short k p ≡ false
  pub right : written bound p ≡ true
  pub count : value p ≡ n

module _ (k top : ℕ) (pos : 0 < top) (t : top ≤ 128) (nine : k ≤ 9) (w : limit k top ≤ 2 ^ 64) (bs : List ℕ) (are : (i : ℕ) → get_or bs i 0 < 256) (at : ℕ) where
  bytes : (i : ℕ) → get_or (drop at bs) i 0 < 256
  bytes i = omega (arith, get_or-drop at bs i 0, are (at + i))

  by : (r : Reading) → number k top (drop at bs) ≡ r → read_at k top bs at ≡ read_of (length bs) at r
  unfolding read_at
  by r e = ap (read_of (length bs) at) e

  -- a good one: past its piece
  pub piece_good : (n next : ℕ) → read_at k top bs at ≡ found n next
      → (p : List ℕ) × (cut (drop at bs) ≡ p ∷ cut (drop next bs)) × IsNumber k (limit k top) p n × (next ≡ at + length p) × (next ≤ length bs)
  unfolding written groups is_short
  piece_good n next e =
      let r = read_good top bs at k n next e in
      let c = good_cut k top (drop at bs) n r.0 pos t nine w bytes r.1 in
      let v = value_groups 9 n (small_ten n (omega (arith, c.1))) in
      let past : drop r.0 (drop at bs) ≡ drop next bs = drop-drop r.0 at bs ∙ ap (λ (x : ℕ). drop x bs) (sym r.2) in
      let here : cut (drop at bs) ≡ groups n ∷ cut (drop next bs) = c.0 ∙ ap (λ (x : List ℕ). groups n ∷ cut x) past in
      let short : is_short (number k top (drop at bs)) ≡ Cut k (cut (drop at bs)) = short_cut k top (drop at bs) in (
        groups n,
        here,
        record { ended = sym (sym (ap is_short r.1) ∙ short ∙ ap (Cut k) here); right = rw (v, lt-ltb n (limit k top) c.1, same_refl (groups_in 9 n)); count = v },
        omega (arith, r.2, c.2),
        omega (arith, read_next top bs at k n next pos t are e),
      )

  -- a broken one: its piece is none so written, and none that is cut short
  pub piece_broken : (q : ℕ) → read_at k top bs at ≡ Err (Broken q)
      → (p : List ℕ) × (ps : List (List ℕ)) × (cut (drop at bs) ≡ p ∷ ps) × (cut_short k p ≡ false) × (written (limit k top) p ≡ false) × (q ≡ at)
  unfolding read_of is_short
  piece_broken q e = go (number k top (drop at bs)) refl
    where
      Goal : Type 0
      Goal = (p : List ℕ) × (ps : List (List ℕ)) × (cut (drop at bs) ≡ p ∷ ps) × (cut_short k p ≡ false) × (written (limit k top) p ≡ false) × (q ≡ at)

      wrong : (p : List ℕ) (ps : List (List ℕ)) → cut (drop at bs) ≡ p ∷ ps → number k top (drop at bs) ≡ broken → (b : Bool) → written (limit k top) p ≡ b → written (limit k top) p ≡ false
      wrong p ps c f true g = absurd (let r = written_good k top (drop at bs) p ps t w c g in let z : ◌≡◌ {A = ℕ} 0 1 = cc in omega arith)
      wrong p ps c f false g = g

      first : (l : List (List ℕ)) → cut (drop at bs) ≡ l → number k top (drop at bs) ≡ broken → q ≡ at → Goal
      first l c f g = pick l c (sym (ap is_short f) ∙ short_cut k top (drop at bs) ∙ ap (Cut k) c) f g
        where
          pick : (m : List (List ℕ)) → cut (drop at bs) ≡ m → false ≡ Cut k m → number k top (drop at bs) ≡ broken → q ≡ at → Goal
          pick [] c' s f' g' = let z : ◌≡◌ {A = ℕ} 0 1 = cc in absurd (omega arith)
          pick (p ∷ ps) c' s f' g' = (p, ps, c', sym s, wrong p ps c' f' (written (limit k top) p) refl, g')

      go : (r : Reading) → number k top (drop at bs) ≡ r → Goal
      go (good n len) f = let u = sym (by (good n len) f) ∙ e in let z : ◌≡◌ {A = ℕ} 0 1 = cc in absurd (omega arith)
      go broken f = let u = sym (by broken f) ∙ e in let g : at ≡ q = cc in first (cut (drop at bs)) refl f (sym g)
      go short f = let u = sym (by short f) ∙ e in let z : ◌≡◌ {A = ℕ} 0 1 = cc in absurd (omega arith)

  -- one that is cut short: there is no piece, or it is the last
  pub piece_short : (q : ℕ) → read_at k top bs at ≡ Err (Short q) → at ≤ length bs
      → (q ≡ length bs)
      × (((cut (drop at bs) ≡ []) × (at ≡ length bs)) ⊎ ((p : List ℕ) × (ps : List (List ℕ)) × (cut (drop at bs) ≡ p ∷ ps) × (cut_short k p ≡ true) × (at + length p ≡ length bs)))
  unfolding read_of is_short cut_short
  piece_short q e l = go (number k top (drop at bs)) refl
    where
      Goal : Type 0
      Goal = (q ≡ length bs)
          × (((cut (drop at bs) ≡ []) × (at ≡ length bs)) ⊎ ((p : List ℕ) × (ps : List (List ℕ)) × (cut (drop at bs) ≡ p ∷ ps) × (cut_short k p ≡ true) × (at + length p ≡ length bs)))

      pick : (m : List (List ℕ)) → cut (drop at bs) ≡ m → true ≡ Cut k m → q ≡ length bs → Goal
      pick [] c s g = (g, inl (c, omega (arith, ap length (cut_none (drop at bs) c), length-drop at bs)))
      pick (p ∷ ps) c s g =
          let u = unended_last (drop at bs) p ps c (and_both (unended p) (leb (length p) k) (sym s)).0 in
          (g, inr (p, ps, c, sym s, omega (arith, u, length-drop at bs)))

      go : (r : Reading) → number k top (drop at bs) ≡ r → Goal
      go (good n len) f = let u = sym (by (good n len) f) ∙ e in let z : ◌≡◌ {A = ℕ} 0 1 = cc in absurd (omega arith)
      go broken f = let u = sym (by broken f) ∙ e in let z : ◌≡◌ {A = ℕ} 0 1 = cc in absurd (omega arith)
      go short f =
          let u = sym (by short f) ∙ e in
          let g : length bs ≡ q = cc in
          pick (cut (drop at bs)) refl (sym (ap is_short f) ∙ short_cut k top (drop at bs)) (sym g)
