-- Laws of the cursor: to ready it changes nothing that lies ahead, to pass chunks drops them, and one that is ready stands in a run if a chunk is ahead.
-- The cursor before a chunk is the same from whichever cursor behind it the entries are read.
-- Assumes nothing.
use Prim.Native.Nat.{ℕ, zero, suc, ◌+◌, ◌-◌, ◌≤◌, ◌<◌}
use mathlib.Core.Path.{◌≡◌, refl, sym, ap, ◌∙◌}
use mathlib.Core.List.{List, [], ◌∷◌, ◌++◌}
use native.Mathlib.Omega.{arith}
use native.Mathlib.Decide.{ℕ_discrete, dec_lt, dec_le}
use lib.ListN.{length, drop, get_or, replicate, drop_of_length-le}
use lib.Seq.{drop-drop, get_or-drop}
use borrow.Author.Tests.{eq-eqb, ne_eqb, lt-ltb, le-ltb}
use Rattle.bigendian.specs.BigEndian.{u32_at}
use Rattle.lists.proofs.Laws.{length_run, drop_in, replicate_cons}
use Rattle.chunks.specs.Chunks.{Deal, deals_in, deals, first_of, dealt, per_chunk, description_ids}
use Rattle.chunks.specs.Cursors.{ahead, ids_ahead, Valid, Stands, start_cursor, loaded, readied_in, readied, past, cursor_in, cursor_at}
use Rattle.chunks.specs.declared.ChunkCursor.{ChunkCursor}
use Rattle.chunks.proofs.Turns.{deals-in, deals_none, deals_next, samples_in, ids_in}

-- ---- before the first chunk

pub start_samples : (s : List ℕ) (chunks : ℕ) → ahead s chunks start_cursor ≡ per_chunk s chunks
unfolding ahead
start_samples s chunks = samples_in s chunks refl

pub start_valid : (s : List ℕ) (chunks : ℕ) → Valid s chunks 0 start_cursor
unfolding ids_ahead
start_valid s chunks = record { samples = start_samples s chunks; descriptions = ids_in s chunks refl }

-- ---- to ready a cursor: what the loop that reads entries keeps

pub ready_stop : (s : List ℕ) (chunks : ℕ) (r : ChunkCursor) → (r.remaining ≡ 0 → ⊥) → readied s chunks r ≡ r
unfolding readied
ready_stop s chunks r z = go (deals_in (drop r.at s))
  where
    go : (es : List Deal) → readied_in chunks es r ≡ r
    go [] = refl
    go (e ∷ es) = rw (ne_eqb r.remaining 0 z)

module _ (s : List ℕ) (chunks : ℕ) (r : ChunkCursor) {t : List ℕ} (p : t ≡ drop r.at s) where
  pub ready_end : length t < 12 → readied s chunks r ≡ r
  unfolding readied
  ready_end h = ap (λ (l : List ℕ). readied_in chunks (deals_in l) r) (sym p) ∙ ap (λ (es : List Deal). readied_in chunks es r) (deals_none t h)

  pub ready_next : 12 ≤ length t → r.remaining ≡ 0 → {u : List ℕ} → u ≡ drop 12 t → {first next count per id : ℕ} → first ≡ u32_at t 0 → next ≡ first_of chunks (deals_in u) →
      count ≡ next - first → per ≡ u32_at t 4 → id ≡ u32_at t 8 →
      readied s chunks (record { at = r.at + 12; remaining = count; per = per; description = id }) ≡ readied s chunks r
  unfolding readied
  ready_next h z {u} e {first} {next} {count} {per} {id} a b k q d =
      let m : drop (r.at + 12) s ≡ u = sym (drop-drop 12 r.at s) ∙ sym (e ∙ ap (drop 12) p) in
      let o : deals_in (drop r.at s) ≡ record { first = first; per = per; id = id } ∷ deals_in u =
      ap deals_in (sym p) ∙ deals_next t h ∙ (λ i. record { first = sym a i; per = sym q i; id = sym d i } ∷ deals_in (sym e i)) in
      ap (λ (l : List ℕ). readied_in chunks (deals_in l) (record { at = r.at + 12; remaining = count; per = per; description = id })) m
      ∙ rw (o, eq-eqb r.remaining 0 z, k, b)

-- ---- what lies ahead

-- a cursor that stands in a run if a chunk is ahead, where none remains
module _ {s : List ℕ} {c : ChunkCursor} (chunks : ℕ) (w : Stands s c) (z : c.remaining ≡ 0) where
  pub no_samples : ahead s chunks c ≡ []
  unfolding ahead
  no_samples = rw (z, w.all_read z)

  pub no_ids : ids_ahead s chunks c ≡ []
  unfolding ids_ahead
  no_ids = rw (z, w.all_read z)

-- r has the same chunks ahead as c, and stands in a run if there is one
pub record Same (s : List ℕ) (chunks : ℕ) (c r : ChunkCursor) : Type 0 where
  pub samples : ahead s chunks r ≡ ahead s chunks c
  pub ids : ids_ahead s chunks r ≡ ids_ahead s chunks c
  pub stands : Stands s r

module _ (s : List ℕ) (chunks : ℕ) where
  -- the first entry of what a cursor has not read, and the rest
  split : (at : ℕ) (e : Deal) (es : List Deal) → deals_in (drop at s) ≡ e ∷ es → deals_in (drop (at + 12) s) ≡ es
  split at e es q = elim (dec_lt (length (drop at s)) 12) [
    | yes l ↦ let n : deals_in (drop at s) ≡ [] = deals_none (drop at s) l in let z : ◌≡◌ {A = ℕ} 0 1 = cc in absurd (omega arith)
    | no l ↦
        let h : 12 ≤ length (drop at s) = omega arith in
        let n = deals_next (drop at s) h in
        let t : deals_in (drop 12 (drop at s)) ≡ es = cc in
        ap deals_in (sym (drop-drop 12 at s)) ∙ t
  ]

  same_in : (es : List Deal) (c : ChunkCursor) → deals_in (drop c.at s) ≡ es → Same s chunks c (readied_in chunks es c)
  unfolding ahead ids_ahead
  same_in [] c q = record { samples = refl; ids = refl; stands = record { all_read = λ z. q } }
  same_in (e ∷ es) c q = elim (ℕ_discrete c.remaining 0) [
    | yes z ↦
        let m = split c.at e es q in
        let w = same_in es (loaded chunks e es c) m in
        rw (eq-eqb c.remaining 0 z) (record {
          samples = w.samples ∙ rw (m, z, q);
          ids = w.ids ∙ rw (m, z, q);
          stands = w.stands;
        })
    | no z ↦ rw (ne_eqb c.remaining 0 z) (record { samples = refl; ids = refl; stands = record { all_read = λ y. absurd (z y) } })
  ]

  pub ready_same : (c : ChunkCursor) → Same s chunks c (readied s chunks c)
  unfolding readied
  ready_same c = same_in (deals_in (drop c.at s)) c refl

  pub ready_valid : {k : ℕ} {c : ChunkCursor} → Valid s chunks k c → Valid s chunks k (readied s chunks c)
  ready_valid {k} {c} v = let w = ready_same c in record { samples = w.samples ∙ v.samples; descriptions = w.ids ∙ v.descriptions }

-- ---- to pass chunks of the run

module _ (s : List ℕ) (chunks : ℕ) (c : ChunkCursor) (k : ℕ) (h : k ≤ c.remaining) where
  pub past_samples : ahead s chunks (past k c) ≡ drop k (ahead s chunks c)
  unfolding ahead
  past_samples = sym (drop_in c.per (dealt (λ e. e.per) chunks (deals_in (drop c.at s))) c.remaining k h)

  pub past_ids : ids_ahead s chunks (past k c) ≡ drop k (ids_ahead s chunks c)
  unfolding ids_ahead
  past_ids = sym (drop_in c.description (dealt (λ e. e.id) chunks (deals_in (drop c.at s))) c.remaining k h)

  pub past_valid : {j : ℕ} → Valid s chunks j c → Valid s chunks (j + k) (past k c)
  past_valid {j} v = record {
    samples = past_samples ∙ ap (drop k) v.samples ∙ drop-drop k j (per_chunk s chunks);
    descriptions = past_ids ∙ ap (drop k) v.descriptions ∙ drop-drop k j (description_ids s chunks);
  }

-- some chunks of the run at which a cursor stands, and what follows them
replicate_some : (n r v : ℕ) (l : List ℕ) → n ≤ r → replicate r v ++ l ≡ replicate n v ++ (replicate (r - n) v ++ l)
replicate_some zero r v l h = let e : r ≡ r - 0 = omega arith in ap (λ (k : ℕ). replicate k v ++ l) e
replicate_some (suc n) zero v l h = absurd (omega arith)
replicate_some (suc n) (suc r) v l h = let e : suc r - suc n ≡ r - n = omega arith in rw e (ap (λ (q : List ℕ). v ∷ q) (replicate_some n r v l (omega arith)))

pub ahead_some : (s : List ℕ) (chunks : ℕ) (c : ChunkCursor) (n : ℕ) → n ≤ c.remaining → ahead s chunks c ≡ replicate n c.per ++ ahead s chunks (past n c)
unfolding ahead
ahead_some s chunks c n h = replicate_some n c.remaining c.per (dealt (λ e. e.per) chunks (deals_in (drop c.at s))) h

-- ---- the chunk at which a cursor stands

module _ (s : List ℕ) (chunks : ℕ) (c : ChunkCursor) (h : 0 < c.remaining) where
  pub ahead_cons : ahead s chunks c ≡ c.per ∷ ahead s chunks (past 1 c)
  unfolding ahead
  ahead_cons = replicate_cons c.remaining c.per (dealt (λ e. e.per) chunks (deals_in (drop c.at s))) h

  pub ids_cons : ids_ahead s chunks c ≡ c.description ∷ ids_ahead s chunks (past 1 c)
  unfolding ids_ahead
  ids_cons = replicate_cons c.remaining c.description (dealt (λ e. e.id) chunks (deals_in (drop c.at s))) h

  -- it has the samples and the ID that the cursor says
  pub stands_at : {k : ℕ} → Valid s chunks k c → (get_or (per_chunk s chunks) k 0 ≡ c.per) × (get_or (description_ids s chunks) k 0 ≡ c.description)
  stands_at {k} v =
      let e : k ≡ k + 0 = omega arith in (
        ap (λ (j : ℕ). get_or (per_chunk s chunks) j 0) e ∙ sym (get_or-drop k (per_chunk s chunks) 0 0) ∙ ap (λ (l : List ℕ). get_or l 0 0) (sym v.samples ∙ ahead_cons),
        ap (λ (j : ℕ). get_or (description_ids s chunks) j 0) e ∙ sym (get_or-drop k (description_ids s chunks) 0 0) ∙ ap (λ (l : List ℕ). get_or l 0 0) (sym v.descriptions ∙ ids_cons),
      )

-- ---- the cursor before a chunk

-- from the entries of a cursor on
abbrev pub cursor_from : List ℕ → ℕ → ChunkCursor → ℕ → ChunkCursor
cursor_from s chunks c k = cursor_in chunks (deals_in (drop c.at s)) c k

past_none : (c : ChunkCursor) → past 0 c ≡ c
past_none c = let e : c.remaining - 0 ≡ c.remaining = omega arith in λ i. record { at = c.at; remaining = e i; per = c.per; description = c.description }

past_past : (c : ChunkCursor) (j k : ℕ) → past j (past k c) ≡ past (k + j) c
past_past c j k =
    let e : c.remaining - k - j ≡ c.remaining - (k + j) = omega arith in λ i. record { at = c.at; remaining = e i; per = c.per; description = c.description }

module _ (s : List ℕ) (chunks : ℕ) where
  pub from_start : (k : ℕ) → cursor_from s chunks start_cursor k ≡ cursor_at s chunks k
  unfolding cursor_at
  from_start k = rw (deals-in s)

  -- a chunk of the run
  pub from_in : (c : ChunkCursor) (k : ℕ) → k < c.remaining → cursor_from s chunks c k ≡ past k c
  from_in c k h = go (deals_in (drop c.at s))
    where
      go : (es : List Deal) → cursor_in chunks es c k ≡ past k c
      go [] = refl
      go (e ∷ es) = rw (lt-ltb k c.remaining h)

  -- no entry is left to read
  pub from_end : (c : ChunkCursor) → deals_in (drop c.at s) ≡ [] → cursor_from s chunks c 0 ≡ c
  from_end c e = rw e (past_none c)

  -- readied
  from_readied_in : (es : List Deal) (c : ChunkCursor) (k : ℕ) → deals_in (drop c.at s) ≡ es → cursor_from s chunks (readied_in chunks es c) k ≡ cursor_in chunks es c k
  from_readied_in [] c k q = rw q
  from_readied_in (e ∷ es) c k q = elim (ℕ_discrete c.remaining 0) [
    | yes z ↦
        let m = split s chunks c.at e es q in
        let n : k - 0 ≡ k = omega arith in
        rw (eq-eqb c.remaining 0 z, z, le-ltb k 0 (omega arith), n) (from_readied_in es (loaded chunks e es c) k m)
    | no z ↦ rw (ne_eqb c.remaining 0 z, q)
  ]

  pub from_readied : (c : ChunkCursor) (k : ℕ) → cursor_from s chunks (readied s chunks c) k ≡ cursor_from s chunks c k
  unfolding readied
  from_readied c k = from_readied_in (deals_in (drop c.at s)) c k refl

  -- some chunks of the run passed
  pub from_past : (c : ChunkCursor) (k j : ℕ) → k ≤ c.remaining → cursor_from s chunks (past k c) j ≡ cursor_from s chunks c (k + j)
  from_past c k j h = go (deals_in (drop c.at s))
    where
      go : (es : List Deal) → cursor_in chunks es (past k c) j ≡ cursor_in chunks es c (k + j)
      go [] = past_past c j k
      go (e ∷ es) = elim (dec_lt (k + j) c.remaining) [
        | yes l ↦ rw (lt-ltb j (c.remaining - k) (omega arith), lt-ltb (k + j) c.remaining l) (past_past c j k)
        | no l ↦
            let n : j - (c.remaining - k) ≡ k + j - c.remaining = omega arith in
            rw (le-ltb j (c.remaining - k) (omega arith), le-ltb (k + j) c.remaining (omega arith), n)
      ]

-- r has the chunks from the k-th after c on ahead, and stands in a run if there is one
pub record Further (s : List ℕ) (chunks : ℕ) (c : ChunkCursor) (k : ℕ) (r : ChunkCursor) : Type 0 where
  pub samples : ahead s chunks r ≡ drop k (ahead s chunks c)
  pub ids : ids_ahead s chunks r ≡ drop k (ids_ahead s chunks c)
  pub stands : Stands s r

module _ (s : List ℕ) (chunks : ℕ) where
  -- past the last entry
  further_end : (c : ChunkCursor) (k : ℕ) → deals_in (drop c.at s) ≡ [] → Further s chunks c k (past k c)
  unfolding ahead ids_ahead
  further_end c k q = elim (dec_le k c.remaining) [
    | yes l ↦ record { samples = past_samples s chunks c k l; ids = past_ids s chunks c k l; stands = record { all_read = λ z. q } }
    | no l ↦
        let z : c.remaining - k ≡ 0 = omega arith in
        record {
          samples = rw (z, q) (sym (drop_of_length-le _ {i = k} (omega (arith, length_run c.per [] c.remaining))));
          ids = rw (z, q) (sym (drop_of_length-le _ {i = k} (omega (arith, length_run c.description [] c.remaining))));
          stands = record { all_read = λ z. q };
        }
  ]

  further_in : (es : List Deal) (c : ChunkCursor) (k : ℕ) → deals_in (drop c.at s) ≡ es → Further s chunks c k (cursor_in chunks es c k)
  unfolding ahead ids_ahead
  further_in [] c k q = further_end c k q
  further_in (e ∷ es) c k q = elim (dec_lt k c.remaining) [
    | yes l ↦
        rw (lt-ltb k c.remaining l) (record {
          samples = past_samples s chunks c k (omega arith);
          ids = past_ids s chunks c k (omega arith);
          stands = record { all_read = λ z. absurd (omega arith) };
        })
    | no l ↦
        let m = split s chunks c.at e es q in
        let w = further_in es (loaded chunks e es c) (k - c.remaining) m in
        let z : c.remaining - c.remaining ≡ 0 = omega arith in
        let n : c.remaining + (k - c.remaining) ≡ k = omega arith in
        let a : ahead s chunks (loaded chunks e es c) ≡ ahead s chunks (past c.remaining c) = rw (m, z, q) in
        let b : ids_ahead s chunks (loaded chunks e es c) ≡ ids_ahead s chunks (past c.remaining c) = rw (m, z, q) in
        rw (le-ltb k c.remaining (omega arith)) (record {
          samples = w.samples ∙ ap (drop (k - c.remaining)) (a ∙ past_samples s chunks c c.remaining (omega arith)) ∙ drop-drop (k - c.remaining) c.remaining _ ∙ rw n;
          ids = w.ids ∙ ap (drop (k - c.remaining)) (b ∙ past_ids s chunks c c.remaining (omega arith)) ∙ drop-drop (k - c.remaining) c.remaining _ ∙ rw n;
          stands = w.stands;
        })
  ]

  pub cursor_further : (k : ℕ) → Further s chunks start_cursor k (cursor_at s chunks k)
  unfolding cursor_at
  cursor_further k = further_in (deals s) start_cursor k (sym (deals-in s))

  pub cursor_valid : (k : ℕ) → Valid s chunks k (cursor_at s chunks k)
  cursor_valid k =
      let w = cursor_further k in
      let v = start_valid s chunks in
      record { samples = w.samples ∙ ap (drop k) v.samples; descriptions = w.ids ∙ ap (drop k) v.descriptions }
