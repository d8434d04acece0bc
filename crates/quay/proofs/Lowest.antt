-- The lowest rule over the tracks and the first track that breaks it, in one walk: a track breaks the lowest rule of all exactly if it is its own lowest.
-- Assumes nothing.
use Prim.Native.Nat.{ℕ, ◌+◌, ◌≤◌, ◌<◌}
use mathlib.Core.Path.{◌≡◌, refl, sym, ap, ◌∙◌}
use mathlib.Core.Logic.{◌⊎◌, inl, inr, ⊎_elim}
use mathlib.Core.Bool.{Bool, true, false, cond}
use mathlib.Core.List.{List, [], ◌∷◌}
use native.Mathlib.Omega.{arith}
use native.Mathlib.Decide.{ℕ_discrete, dec_le}
use borrow.Author.Tests.{eq-eqb, ne_eqb, le-leb, lt-leb, ltb-true}
use lib.Dec.{ltb, eqb}
use lib.ListN.{length, get_or, drop}
use Rattle.lists.proofs.Booleans.{and_left, and_right}
use Rattle.structure.specs.Track.{id_of}
use Rattle.structure.specs.Rows.{Row, first, rank, ranks_rise}
use Rattle.structure.specs.ByTracks.{of_track, of_tracks, earlier_of}
use Rattle.structure.proofs.Rows.{rank_pos, earlier_zero}
use Rattle.movie.proofs.Traks.{from_here, found_more, found_past}
use Rattle.quay_tracks.specs.Profile.{quay_rules}
use Rattle.quay.specs.Quay.{breaks, first_breaking}
use Rattle.quay.specs.Walk.{IsBroken}

not_both : (b : Bool) → b ≡ true → b ≡ false → ⊥
not_both b p q = let z : ◌≡◌ {A = ℕ} 0 1 = cc in omega arith

-- ---- the rules that a track breaks, of rows in the order of judging

module _ (t : List ℕ) where
  -- each is judged past the place from which the rows rise
  breaks_above : (n k : ℕ) (rs : List Row) → ranks_rise n rs ≡ true → breaks rs k t ≡ true → n < rank k
  unfolding breaks ranks_rise
  breaks_above n k [] h e = absurd (not_both false e refl)
  breaks_above n k (r ∷ rs) h e =
      let l = ltb-true n (rank r.number) (and_left _ _ h) in
      let i = and_right (ltb n (rank r.number)) _ h in
      elim (ℕ_discrete r.number k) [
        | yes q ↦ omega (arith, ap rank q)
        | no q ↦ omega (arith, breaks_above (rank r.number) k rs i (rw (ne_eqb r.number k q) at e))
      ]

  -- the track's own lowest rule is one that it breaks
  pub own_broken : (n : ℕ) (rs : List Row) → ranks_rise n rs ≡ true → (of_track rs t ≡ 0 → ⊥) → breaks rs (of_track rs t) t ≡ true
  unfolding breaks ranks_rise first
  own_broken n [] h z = absurd (z refl)
  own_broken n (r ∷ rs) h z =
      let i = and_right (ltb n (rank r.number)) _ h in
      go (r.track t) refl z i (λ y. own_broken (rank r.number) rs i y)
    where
      go : (b : Bool) → r.track t ≡ b → (cond b r.number (of_track rs t) ≡ 0 → ⊥) → ranks_rise (rank r.number) rs ≡ true
          → ((of_track rs t ≡ 0 → ⊥) → breaks rs (of_track rs t) t ≡ true) → breaks (r ∷ rs) (cond b r.number (of_track rs t)) t ≡ true
      go true q z i f = rw (eq-eqb r.number r.number refl) q
      go false q z i f =
          let e = f z in
          let l = breaks_above (rank r.number) (of_track rs t) rs i e in
          rw (ne_eqb r.number (of_track rs t) (λ y. let w = ap rank y in omega arith)) e

  -- and none that it breaks is lower
  pub own_lowest : (n k : ℕ) (rs : List Row) → ranks_rise n rs ≡ true → breaks rs k t ≡ true → (of_track rs t ≡ 0 → ⊥) × (rank (of_track rs t) ≤ rank k)
  unfolding breaks ranks_rise first
  own_lowest n k [] h e = absurd (not_both false e refl)
  own_lowest n k (r ∷ rs) h e =
      let l = ltb-true n (rank r.number) (and_left _ _ h) in
      let i = and_right (ltb n (rank r.number)) _ h in
      go (r.track t) refl (rank_pos r.number n l) (breaks_above n k (r ∷ rs) h e) i (λ y. own_lowest (rank r.number) k rs i y)
    where
      go : (b : Bool) → r.track t ≡ b → 0 < r.number → n < rank k → ranks_rise (rank r.number) rs ≡ true
          → (breaks rs k t ≡ true → (of_track rs t ≡ 0 → ⊥) × (rank (of_track rs t) ≤ rank k))
          → (cond b r.number (of_track rs t) ≡ 0 → ⊥) × (rank (cond b r.number (of_track rs t)) ≤ rank k)
      go true q p a i f = elim (ℕ_discrete r.number k) [
        | yes w ↦ (λ y. omega arith, omega (arith, ap rank w))
        | no w ↦ (λ y. omega arith, omega (arith, breaks_above (rank r.number) k rs i (rw (ne_eqb r.number k w) at e)))
      ]
      go false q p a i f = elim (ℕ_discrete r.number k) [
        | yes w ↦ absurd (not_both (r.track t) (rw (eq-eqb r.number k w) at e) q)
        | no w ↦ f (rw (ne_eqb r.number k w) at e)
      ]

-- ---- the earlier of two rules: the first, or the second

abbrev pub Kept : ℕ → ℕ → Type 0
Kept a b = (earlier_of a b ≡ a) × ((b ≡ 0) ⊎ ((a ≡ 0 → ⊥) × (rank a ≤ rank b)))

abbrev pub Taken : ℕ → ℕ → Type 0
Taken a b = (earlier_of a b ≡ b) × ((b ≡ 0 → ⊥) × ((a ≡ 0) ⊎ (rank b < rank a)))

pub earlier_is : (a b : ℕ) → Kept a b ⊎ Taken a b
unfolding earlier_of
earlier_is a b = elim (ℕ_discrete b 0) [
  | yes z ↦ elim (ℕ_discrete a 0) [
    | yes y ↦ inl (rw (eq-eqb a 0 y) (z ∙ sym y), inl z)
    | no y ↦ inl (rw (ne_eqb a 0 y, eq-eqb b 0 z), inl z)
  ]
  | no z ↦ elim (ℕ_discrete a 0) [
    | yes y ↦ inr (rw (eq-eqb a 0 y), (z, inl y))
    | no y ↦ elim (dec_le (rank a) (rank b)) [
      | yes l ↦ inl (rw (ne_eqb a 0 y, ne_eqb b 0 z, le-leb (rank a) (rank b) l), inr (y, l))
      | no l ↦ inr (rw (ne_eqb a 0 y, ne_eqb b 0 z, lt-leb (rank a) (rank b) (omega arith)), (z, inr (omega arith)))
    ]
  ]
]

-- ---- a turn: a track t with its own lowest rule, before the rest, whose lowest is `rest`; `final` is the lowest of all

module _ (n : ℕ) (rs : List Row) (h : ranks_rise n rs ≡ true) (t : List ℕ) (ts : List (List ℕ)) (rule rest next lower final : ℕ) (d : next ≡ of_track rs t)
    (e : lower ≡ earlier_of rule next) (f : final ≡ earlier_of lower rest) where
  -- where the track breaks the lowest rule of all, that is no lower than its own
  own_not_above : breaks rs final t ≡ true → (next ≡ 0 → ⊥) × (rank next ≤ rank final)
  own_not_above b = rw d (own_lowest t n final rs h b)

  not_broken : ((next ≡ 0 → ⊥) × (rank next ≤ rank final) → ⊥) → breaks rs final t ≡ false
  not_broken a = go (breaks rs final t) refl
    where
      go : (b : Bool) → breaks rs final t ≡ b → b ≡ false
      go true q = absurd (a (own_not_above q))
      go false q = refl

  -- the rule stays
  module _ (k : lower ≡ rule) where
    -- it is the lowest so far
    stays_low : (next ≡ 0 → ⊥) → (rule ≡ 0 → ⊥) × (rank rule ≤ rank next)
    stays_low z = ⊎_elim
        (λ w. ⊎_elim (λ y. absurd (z y)) (λ y. y) w.1)
        (λ w. let q : rule ≡ next = sym k ∙ e ∙ w.0 in (λ y. z (sym q ∙ y), omega (arith, ap rank q)))
        (earlier_is rule next)

    stays_not_broken : (final ≡ rule → ⊥) → breaks rs final t ≡ false
    stays_not_broken g = not_broken (λ a.
        let l = stays_low a.0 in
        ⊎_elim
        (λ w. g (f ∙ w.0 ∙ k))
        (λ w. ⊎_elim (λ y. l.0 (sym k ∙ y)) (λ y. let q = ap rank (f ∙ w.0) in let p = ap rank k in omega (arith, a.1, l.1)) w.1.1)
        (earlier_is lower rest))

    stays : (id own : ℕ) → cond (eqb final lower) (cond (eqb lower rule) id own) (first_breaking rs final ts) ≡ cond (eqb final rule) id (cond (breaks rs final t) own (first_breaking rs final ts))
    stays id own = elim (ℕ_discrete final rule) [
      | yes q ↦ rw (k, eq-eqb final rule q, eq-eqb rule rule refl)
      | no q ↦ rw (k, ne_eqb final rule q, stays_not_broken q)
    ]

  -- the track's own is lower
  module _ (k : lower ≡ rule → ⊥) where
    goes : Taken rule next
    goes = ⊎_elim (λ w. absurd (k (e ∙ w.0))) (λ w. w) (earlier_is rule next)

    is_next : lower ≡ next
    is_next = e ∙ goes.0

    low : (final ≡ 0 → ⊥) × (rank final ≤ rank next)
    low = ⊎_elim
        (λ w. let q = f ∙ w.0 ∙ is_next in (λ y. goes.1.0 (sym q ∙ y), omega (arith, ap rank q)))
        (λ w. let q = f ∙ w.0 in (λ y. w.1.0 (sym q ∙ y), ⊎_elim (λ y. absurd (goes.1.0 (sym is_next ∙ y))) (λ y. omega (arith, ap rank q, ap rank is_next)) w.1.1))
        (earlier_is lower rest)

    not_rule : final ≡ rule → ⊥
    not_rule q = ⊎_elim (λ y. low.0 (q ∙ y)) (λ y. let p = ap rank q in omega (arith, low.1)) goes.1.1

    lower_not_broken : (final ≡ next → ⊥) → breaks rs final t ≡ false
    lower_not_broken g = not_broken (λ a. ⊎_elim
        (λ w. g (f ∙ w.0 ∙ is_next))
        (λ w. ⊎_elim (λ y. goes.1.0 (sym is_next ∙ y)) (λ y. let q = ap rank (f ∙ w.0) in let p = ap rank is_next in omega (arith, a.1)) w.1.1)
        (earlier_is lower rest))

    here_broken : final ≡ next → breaks rs final t ≡ true
    here_broken q = rw (q ∙ d) (own_broken t n rs h (λ y. goes.1.0 (d ∙ y)))

    replaced : (id own : ℕ) → cond (eqb final lower) (cond (eqb lower rule) id own) (first_breaking rs final ts) ≡ cond (eqb final rule) id (cond (breaks rs final t) own (first_breaking rs final ts))
    replaced id own = elim (ℕ_discrete final next) [
      | yes q ↦ rw (ne_eqb final rule not_rule, here_broken q, eq-eqb final lower (q ∙ sym is_next), ne_eqb lower rule k)
      | no q ↦ rw (ne_eqb final rule not_rule, lower_not_broken q, ne_eqb final lower (λ y. q (y ∙ is_next)))
    ]

  turn_is : (id own : ℕ) → cond (eqb final lower) (cond (eqb lower rule) id own) (first_breaking rs final ts) ≡ cond (eqb final rule) id (cond (breaks rs final t) own (first_breaking rs final ts))
  turn_is id own = elim (ℕ_discrete lower rule) [
    | yes k ↦ stays k id own
    | no k ↦ replaced k id own
  ]

-- ---- the walk: what the tracks from i on say beside what was found

pub record Lowering (rs : List Row) (ts : List (List ℕ)) (rule id i : ℕ) : Type 0 where
  pub same : earlier_of rule (of_tracks rs (drop i ts)) ≡ of_tracks rs ts
  pub named : cond (eqb (of_tracks rs ts) rule) id (first_breaking rs (of_tracks rs ts) (drop i ts)) ≡ first_breaking rs (of_tracks rs ts) ts

-- no track breaks a rule 0
none_zero : (n : ℕ) (rs : List Row) → ranks_rise n rs ≡ true → (k : ℕ) → k ≡ 0 → (ts : List (List ℕ)) → first_breaking rs k ts ≡ 0
unfolding first_breaking rank
none_zero n rs h k z [] = refl
none_zero n rs h k z (t ∷ ts) = go (breaks rs k t) refl (none_zero n rs h k z ts)
  where
    go : (b : Bool) → breaks rs k t ≡ b → first_breaking rs k ts ≡ 0 → cond b (id_of t) (first_breaking rs k ts) ≡ 0
    go true q e = let l = breaks_above t n k rs h q in let y = ap rank z in absurd (omega arith)
    go false q e = e

module _ (n : ℕ) (rs : List Row) (h : ranks_rise n rs ≡ true) (ts : List (List ℕ)) where
  pub lowering_start : Lowering rs ts 0 0 0
  lowering_start = record {
    same = earlier_zero 0 (of_tracks rs ts) refl;
    named = elim (ℕ_discrete (of_tracks rs ts) 0) [
      | yes z ↦ rw (eq-eqb (of_tracks rs ts) 0 z) (sym (none_zero n rs h (of_tracks rs ts) z ts))
      | no z ↦ rw (ne_eqb (of_tracks rs ts) 0 z)
    ];
  }

  module _ (rule id i : ℕ) (w : Lowering rs ts rule id i) where
    -- past the last track
    pub lowering_end : length ts ≤ i → (rule ≡ of_tracks rs ts) × (id ≡ first_breaking rs (of_tracks rs ts) ts)
    lowering_end l =
        let e : rule ≡ of_tracks rs ts = sym (found_past ts i rs rule l) ∙ w.same in
        (e, rw (eq-eqb (of_tracks rs ts) rule (sym e)) at w.named)

    -- the track at i
    pub lowering_next : i < length ts → (next lower own new : ℕ) → next ≡ of_track rs (get_or ts i []) → lower ≡ earlier_of rule next
        → own ≡ id_of (get_or ts i []) → new ≡ cond (eqb lower rule) id own → Lowering rs ts lower new (i + 1)
    unfolding first_breaking
    lowering_next l next lower own new d e f g =
        let s = found_more ts i l rs rule next lower d e ∙ w.same in
        let r = turn_is n rs h (get_or ts i []) (drop (i + 1) ts) rule (of_tracks rs (drop (i + 1) ts)) next lower (of_tracks rs ts) d e (sym s) id (id_of (get_or ts i [])) in
        let y : cond (eqb (of_tracks rs ts) rule) id (cond (breaks rs (of_tracks rs ts) (get_or ts i [])) (id_of (get_or ts i [])) (first_breaking rs (of_tracks rs ts) (drop (i + 1) ts))) ≡ first_breaking rs (of_tracks rs ts) ts =
        rw (from_here ts i l) at w.named in
        record { same = s; named = rw (g, f) (r ∙ y) }

pub quay_rise : (movie : ℕ) → ranks_rise 0 (quay_rules movie) ≡ true
unfolding rank ranks_rise quay_rules
quay_rise movie = refl

-- what is found past the last track
pub is_broken : (movie : ℕ) (ts : List (List ℕ)) (rule id i : ℕ) → Lowering (quay_rules movie) ts rule id i → length ts ≤ i → IsBroken movie ts (record { rule = rule; id = id })
is_broken movie ts rule id i w l = let e = lowering_end 0 (quay_rules movie) (quay_rise movie) ts rule id i w l in record { rule = e.0; id = e.1 }
