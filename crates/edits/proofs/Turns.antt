-- One turn of a loop over edits, for the total, the rule of each entry and the time that is mapped: the first entry of a part is what its first twelve bytes say,
-- and the others are those of the rest.
-- Assumes nothing.
use Prim.Native.Nat.{ℕ, ◌+◌, ◌-◌, ◌*◌, ◌≤◌, ◌<◌}
use mathlib.Core.Path.{◌≡◌, refl, sym, ap, ◌∙◌}
use mathlib.Core.Bool.{true, false}
use mathlib.Core.List.{List, [], ◌∷◌, map}
use native.Mathlib.Nat.{div-mul-le_self}
use native.Mathlib.Omega.{arith}
use lib.Dec.{lit<, lit≤}
use lib.ListN.{length, drop, length-drop, length-map}
use borrow.Author.Tests.{eq-eqb, ne_eqb, lt-ltb, le-ltb}
use Rattle.bigendian.specs.BigEndian.{u32_at, signed32}
use Rattle.bigendian.proofs.Laws.{be_at_take}
use Rattle.bigendian.proofs.Entries.{Comes, entry_u32}
use Rattle.std.specs.Slice.Iter.{chunks_exact_rest}
use Rattle.std.specs.declared.slice.ChunksExact.{ChunksExact}
use Rattle.lists.specs.Lists.{sum}
use Rattle.lists.specs.Entries.{rows_of, entries}
use Rattle.lists.proofs.Rows.{rows_none, rows_next, length_rows}
use Rattle.edits.specs.declared.Edit.{Edit}
use Rattle.edits.specs.declared.Mapped.TheVariants.{Outside}
use Rattle.edits.specs.declared.MovieTime.{MovieTime}
use Rattle.edits.specs.declared.EditStart.{EditStart}
use Rattle.edits.specs.declared.EditStart.TheVariants.{From}
use Rattle.edits.specs.Edits.{edit_of, edits_in, edits, durations_of, edit_total, start_of, start_ok, edit_ok, all_ok, edits_ok, shown_at, map_in, media_at}

-- a list's entries are those of what follows its head
pub edits-in : (s : List ℕ) → edits_in (drop 16 s) ≡ edits s
unfolding edits edits_in entries
edits-in s = refl

pub edits_none : (t : List ℕ) → length t < 12 → edits_in t ≡ []
unfolding edits_in
edits_none t h = ap (map edit_of) (rows_none 12 t h)

pub edits_next : (t : List ℕ) {e : Edit} → 12 ≤ length t → e ≡ edit_of t → edits_in t ≡ e ∷ edits_in (drop 12 t)
unfolding edits_in
edits_next t h p =
    ap (map edit_of) (rows_next 12 t (lit< tt) h)
    ∙ (λ i. record {
      duration = be_at_take 4 12 t 0 (lit≤ tt) i;
      media = signed32 (be_at_take 4 12 t 4 (lit≤ tt) i);
      rate = be_at_take 4 12 t 8 (lit≤ tt) i;
    } ∷ edits_in (drop 12 t))
    ∙ ap (λ x. x ∷ edits_in (drop 12 t)) (sym p)

-- the entry that comes in a loop
pub entry_edit : {s t : ChunksExact ℕ} {x : List ℕ} → Comes 12 s t x → edit_of x ≡ edit_of (chunks_exact_rest s)
entry_edit e = λ i. record { duration = entry_u32 e 0 (lit≤ tt) i; media = signed32 (entry_u32 e 4 (lit≤ tt) i); rate = entry_u32 e 8 (lit≤ tt) i }

-- a list as long as n entries has no more
pub edits_few : (s : List ℕ) (n : ℕ) → length s ≤ 16 + 12 * n → length (edits s) ≤ n
unfolding edits entries
edits_few s n h =
    let r = rows_of 12 (drop 16 s) in
    omega (arith, length-map r edit_of, length_rows 12 (drop 16 s), length-drop 16 s, div-mul-le_self (length (drop 16 s)) 12)

-- ---- the total

pub total_start : (s : List ℕ) → sum (durations_of (edits_in (drop 16 s))) ≡ edit_total s
unfolding edit_total
total_start s = ap (λ l. sum (durations_of l)) (edits-in s)

pub total_next : (t : List ℕ) (total all : ℕ) {d : ℕ} → 12 ≤ length t → d ≡ u32_at t 0 → total + sum (durations_of (edits_in t)) ≡ all →
    total + d + sum (durations_of (edits_in (drop 12 t))) ≡ all
total_next t total all h p a = omega (arith, ap (λ l. sum (durations_of l)) (edits_next t h refl), p)

pub total_end : (t : List ℕ) (total all : ℕ) → length t < 12 → total + sum (durations_of (edits_in t)) ≡ all → total ≡ all
total_end t total all h a = omega (arith, ap (λ l. sum (durations_of l)) (edits_none t h))

module _ (scale movie total : ℕ) where
  -- ---- one entry

  module _ (e : Edit) where
    pub ok_zero : e.duration ≡ 0 → edit_ok scale movie total e ≡ false
    unfolding edit_ok
    ok_zero z = rw (eq-eqb e.duration 0 z)

    pub ok_rate : (e.duration ≡ 0 → ⊥) → (e.rate ≡ 65536 → ⊥) → edit_ok scale movie total e ≡ false
    unfolding edit_ok
    ok_rate z r = rw (ne_eqb e.duration 0 z, ne_eqb e.rate 65536 r)

    pub ok_start : {p : EditStart} → (e.duration ≡ 0 → ⊥) → e.rate ≡ 65536 → p ≡ start_of e.media → edit_ok scale movie total e ≡ start_ok scale movie total e.duration p
    unfolding edit_ok
    ok_start z r q = rw (ne_eqb e.duration 0 z, eq-eqb e.rate 65536 r, q)

  -- ---- all entries

  module _ (t : List ℕ) {e : Edit} (h : 12 ≤ length t) (p : e ≡ edit_of t) where
    pub all_wrong : edit_ok scale movie total e ≡ false → all_ok scale movie total (edits_in t) ≡ false
    all_wrong k = ap (all_ok scale movie total) (edits_next t h p) ∙ rw k

    pub all_right : edit_ok scale movie total e ≡ true → all_ok scale movie total (edits_in t) ≡ all_ok scale movie total (edits_in (drop 12 t))
    all_right k = ap (all_ok scale movie total) (edits_next t h p) ∙ rw k

  pub all_end : (t : List ℕ) → length t < 12 → all_ok scale movie total (edits_in t) ≡ true
  all_end t h = ap (all_ok scale movie total) (edits_none t h)

  -- ---- a list, or none

  pub ok_absent : (s : List ℕ) → length s ≡ 0 → edits_ok scale movie total s ≡ true
  unfolding edits_ok
  ok_absent s z = rw (eq-eqb (length s) 0 z)

  pub ok_empty : (s : List ℕ) → (length s ≡ 0 → ⊥) → length (drop 16 s) < 12 → edits_ok scale movie total s ≡ false
  unfolding edits_ok
  ok_empty s z h = rw (ne_eqb (length s) 0 z, ← edits-in s, edits_none (drop 16 s) h)

  pub ok_each : (s : List ℕ) → (length s ≡ 0 → ⊥) → 12 ≤ length (drop 16 s) → all_ok scale movie total (edits_in (drop 16 s)) ≡ edits_ok scale movie total s
  unfolding edits_ok
  ok_each s z h = rw (ne_eqb (length s) 0 z, ← edits-in s, edits_next (drop 16 s) h refl)

  -- ---- where a time falls

  module _ (t : List ℕ) (x : ℕ) {e : Edit} (h : 12 ≤ length t) (p : e ≡ edit_of t) where
    pub map_here : x < e.duration → map_in scale movie total (edits_in t) x ≡ shown_at scale movie total x (start_of e.media)
    map_here l = ap (λ es. map_in scale movie total es x) (edits_next t h p) ∙ rw (lt-ltb x e.duration l)

    pub map_past : e.duration ≤ x → map_in scale movie total (edits_in t) x ≡ map_in scale movie total (edits_in (drop 12 t)) (x - e.duration)
    map_past l = ap (λ es. map_in scale movie total es x) (edits_next t h p) ∙ rw (le-ltb x e.duration l)

  pub map_end : (t : List ℕ) (x : ℕ) → length t < 12 → map_in scale movie total (edits_in t) x ≡ Outside
  map_end t x h = ap (λ es. map_in scale movie total es x) (edits_none t h)

  pub media_absent : (s : List ℕ) (t : MovieTime) → length s ≡ 0 → media_at scale movie total s t ≡ shown_at scale movie total t.0 (From 0)
  unfolding media_at
  media_absent s t z = rw (eq-eqb (length s) 0 z)

  pub media_listed : (s : List ℕ) (t : MovieTime) → (length s ≡ 0 → ⊥) → map_in scale movie total (edits_in (drop 16 s)) t.0 ≡ media_at scale movie total s t
  unfolding media_at
  media_listed s t z = rw (ne_eqb (length s) 0 z, edits-in s)
