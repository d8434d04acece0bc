-- Numbers added by their indices, each the step from one value to the next, come to the way from the first value to the last: so the sizes of some samples come to
-- the bytes from the first to the last of them, and the parts of all samples in a stretch to its length. A sum cut at a start adds up.
-- Assumes nothing.
use Prim.Native.Nat.{ℕ, zero, suc, ◌+◌, ◌-◌, ◌≤◌, ◌<◌}
use mathlib.Core.Path.{◌≡◌, refl, sym, ap, ◌∙◌}
use mathlib.Core.List.{List, [], ◌∷◌, map, map-append}
use native.Mathlib.Nat.{zero-add}
use native.Mathlib.Omega.{arith}
use native.Mathlib.Decide.{ℕ_discrete}
use lib.ListN.{length, get_or}
use Rattle.lists.specs.Lists.{sum, before, between, up_to, holder, part, parts}
use Rattle.lists.proofs.Laws.{sum_append}
use Rattle.lists.proofs.Places.{before_suc, before_all, holder_only, holder_mono, between_split, between_one, parts_sum}
use Rattle.chunks.proofs.Dealt.{between_none}

steps : (f g : ℕ → ℕ) (n : ℕ) → ((i : ℕ) → i < n → f i + g i ≡ g (suc i)) → sum (map f (up_to n)) + g 0 ≡ g n
steps f g zero h = zero-add (g 0)
steps f g (suc n) h =
    let e : sum (map f (up_to (suc n))) ≡ sum (map f (up_to n)) + (f n + 0) = ap sum (map-append f (up_to n) (n ∷ [])) ∙ sum_append (map f (up_to n)) (f n ∷ []) in
    omega (arith, e, steps f g n (λ i l. h i (omega arith)), h n (omega arith))

-- ---- numbers by their index

pub same_sums : (f g : ℕ → ℕ) (n : ℕ) → ((k : ℕ) → k < n → f k ≡ g k) → sum (map f (up_to n)) ≡ sum (map g (up_to n))
same_sums f g zero h = refl
same_sums f g (suc n) h = omega (arith, last f, last g, same_sums f g n (λ k l. h k (omega arith)), h n (omega arith))
  where
    last : (e : ℕ → ℕ) → sum (map e (up_to (suc n))) ≡ sum (map e (up_to n)) + (e n + 0)
    last e = ap sum (map-append e (up_to n) (n ∷ [])) ∙ sum_append (map e (up_to n)) (e n ∷ [])

-- the first k numbers of a list
pub before_up : (xs : List ℕ) (k : ℕ) → sum (map (λ j. get_or xs j 0) (up_to k)) ≡ before xs k
before_up xs k = omega (arith, steps (λ j. get_or xs j 0) (before xs) k (λ j h. omega (arith, before_suc xs j)))

-- ---- sizes

-- f takes the numbers of zs from index i on
pub sizes_added : (zs : List ℕ) (f : ℕ → ℕ) (i n : ℕ) → ((j : ℕ) → j < n → f j ≡ get_or zs (i + j) 0) → sum (map f (up_to n)) ≡ between zs i (i + n)
sizes_added zs f i n h =
    let g : ℕ → ℕ = λ j. between zs i (i + j) in
    let z : i + 0 ≡ i = omega arith in
    let first : g 0 ≡ 0 = ap (between zs i) z ∙ between_none zs i in
    let all = steps f g n (λ j l.
    let e : i + suc j ≡ suc (i + j) = omega arith in
    omega (arith, h j l, ap (between zs i) e, between_split zs i (i + j) (suc (i + j)) (omega arith) (omega arith), between_one zs (i + j))) in
    omega (arith, all, first)

-- ---- parts of a stretch

part_at : (a b s : ℕ) (ds : List ℕ) (j : ℕ) → get_or (parts a b s ds) j 0 ≡ part a b (s + before ds j) (get_or ds j 0)
part_at a b s [] zero = refl
part_at a b s [] (suc j) = refl
part_at a b s (d ∷ ds) zero = let e : s ≡ s + 0 = omega arith in ap (λ (x : ℕ). part a b x d) e
part_at a b s (d ∷ ds) (suc j) =
    let e : s + d + before ds j ≡ s + (d + before ds j) = omega arith in
    part_at a b (s + d) ds j ∙ ap (λ (x : ℕ). part a b x (get_or ds j 0)) e

parts_length : (a b s : ℕ) (ds : List ℕ) → length (parts a b s ds) ≡ length ds
parts_length a b s [] = refl
parts_length a b s (d ∷ ds) = ap suc (parts_length a b (s + d) ds)

-- f takes the part of each of the widths ds
pub parts_added : (ds : List ℕ) (f : ℕ → ℕ) (a b n : ℕ) → a ≤ b → b ≤ sum ds → length ds ≡ n → ((j : ℕ) → j < n → f j ≡ part a b (before ds j) (get_or ds j 0))
    → sum (map f (up_to n)) ≡ b - a
parts_added ds f a b n o w c h =
    let ps = parts a b 0 ds in
    same_sums f (λ j. get_or ps j 0) n (λ j l. let e : 0 + before ds j ≡ before ds j = omega arith in h j l ∙ sym (part_at a b 0 ds j ∙ ap (λ (x : ℕ). part a b x (get_or ds j 0)) e))
    ∙ before_up ps n
    ∙ ap (before ps) (sym (parts_length a b 0 ds ∙ c))
    ∙ before_all ps (length ps) (omega arith)
    ∙ parts_sum a b ds o w

-- ---- a stretch cut at the start of the sample with index i, where no sample of zero duration stands

pub cut_at : (ds zs : List ℕ) (a b i : ℕ) → ((k : ℕ) → k < length ds → before ds k ≡ before ds i → 0 < get_or ds k 0) → i < length ds → a < before ds i → before ds i < b
    → between zs (holder ds a) (suc (holder ds (b - 1)))
    ≡ between zs (holder ds a) (suc (holder ds (before ds i - 1))) + between zs (holder ds (before ds i)) (suc (holder ds (b - 1)))
cut_at ds zs a b zero pos few l k = absurd (omega arith)
cut_at ds zs a b (suc i) pos few l k =
    let c = before ds (suc i) in
    let width : 0 < get_or ds i 0 = elim (ℕ_discrete (get_or ds i 0) 0) [
      | yes e ↦ pos i (omega arith) (omega (arith, before_suc ds i))
      | no e ↦ omega arith
    ] in
    let here : suc i ≡ holder ds c = holder_only ds c (suc i) (record { from = omega arith; to = omega (arith, pos (suc i) few refl) }) in
    let last : i ≡ holder ds (c - 1) = holder_only ds (c - 1) i (record { from = omega (arith, before_suc ds i, width); to = omega (arith, before_suc ds i) }) in
    let e : suc (holder ds (c - 1)) ≡ holder ds c = omega arith in
    rw e (between_split zs (holder ds a) (holder ds c) (suc (holder ds (b - 1))) (holder_mono ds a c (omega arith)) (omega (arith, holder_mono ds c (b - 1) (omega arith))))
