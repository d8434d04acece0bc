-- The entries of stsc as runs of chunks, from a checkpoint on; and the place of a sample, from its place past a checkpoint.
-- Assumes nothing.
use Rattle.std.proofs.Common.{◌≡◌, ℕ, zero, suc, ◌+◌, ◌-◌, ◌*◌, ◌%◌, ◌^◌, ◌<◌, ◌≤◌, List, [], ◌∷◌, map, length, get_or, take, drop, sym, refl, ap, ◌∙◌, mod-eq_of_lt, arith, lit<, drop-drop, le-ltb, lt-ltb}
use native.Mathlib.Decide.{dec_lt}
use Rattle.bigendian.specs.BigEndian.{u32_at}
use Rattle.lists.specs.Lists.{sum, before, Run, expand, holder}
use Rattle.lists.specs.Entries.{rows_of}
use Rattle.lists.proofs.Laws.{Walk, holder_hit, holder_miss, length_run}
use Rattle.lists.proofs.Cuts.{rows_drop}
use Rattle.chunks.specs.Chunks.{Deal, deal_of, deals_in, deals, first_of, chunk_runs, per_chunk, description_ids}
use Rattle.chunks.specs.Computed.{located_in}
use Rattle.chunks.specs.declared.Located.{Located}
use Rattle.chunks.proofs.Turns.{deals-in, deals_none, deals_next, first_some}
use Rattle.chunks.proofs.Finding.{before_holder}
use Rattle.checkpoints.specs.Points.{with_run, with_runs, point_upto}
use Rattle.checkpoints.specs.declared.Sums.{Sums}
use Rattle.checkpoints.proofs.Adding.{add_run, add_none, map_drop}
use Rattle.checkpoints.proofs.Tails.{value_past, walk_from}
use Rattle.chunk_lookups.specs.From.{deal_runs, located_by, passed_at, located_from}

-- ---- the runs of chunks

runs_drop : (f : Deal → ℕ) (chunks k : ℕ) (es : List Deal) → chunk_runs f chunks (drop k es) ≡ drop k (chunk_runs f chunks es)
runs_drop f chunks zero es = refl
runs_drop f chunks (suc k) [] = refl
runs_drop f chunks (suc k) (e ∷ es) = runs_drop f chunks k es

deals_tail : (s : List ℕ) (k : ℕ) → deals_in (drop (k * 12) s) ≡ drop k (deals_in s)
unfolding deals_in
deals_tail s k = ap (map deal_of) (rows_drop 12 (lit< tt) k s) ∙ map_drop deal_of k (rows_of 12 s)

pub deals_from : (s : List ℕ) (i : ℕ) → deals_in (drop (16 + 768 * i) s) ≡ drop (64 * i) (deals s)
deals_from s i =
    let z : 16 + 768 * i ≡ 16 + 64 * i * 12 = omega arith in
    ap (λ (n : ℕ). deals_in (drop n s)) z ∙ ap deals_in (sym (drop-drop (64 * i * 12) 16 s)) ∙ deals_tail (drop 16 s) (64 * i) ∙ ap (drop (64 * i)) (sym (deals-in s))

pub runs_from : (s : List ℕ) (chunks i : ℕ) → chunk_runs (λ e. e.per) chunks (deals_in (drop (16 + 768 * i) s)) ≡ drop (64 * i) (deal_runs s chunks)
runs_from s chunks i = ap (chunk_runs (λ e. e.per) chunks) (deals_from s i) ∙ runs_drop (λ e. e.per) chunks (64 * i) (deals s)

-- a table from the 64 times ith entry on
deals_past : (s : List ℕ) (i : ℕ) → deals (drop (768 * i) s) ≡ drop (64 * i) (deals s)
deals_past s i =
    let z : 768 * i + 16 ≡ 16 + 768 * i = omega arith in
    deals-in (drop (768 * i) s) ∙ ap deals_in (drop-drop 16 (768 * i) s ∙ ap (λ (n : ℕ). drop n s) z) ∙ deals_from s i

tail_runs : (f : Deal → ℕ) (s : List ℕ) (chunks i : ℕ) → chunk_runs f chunks (deals (drop (768 * i) s)) ≡ drop (64 * i) (chunk_runs f chunks (deals s))
tail_runs f s chunks i = ap (chunk_runs f chunks) (deals_past s i) ∙ runs_drop f chunks (64 * i) (deals s)

-- ---- the first entry of a part, as the code has it

pub add_next : (s u : List ℕ) (chunks i first next count per : ℕ) (a b : Sums) → i < 64 → 12 ≤ length s → u ≡ drop 12 s → first ≡ u32_at s 0 → next ≡ first_of chunks (deals_in u)
    → count ≡ next - first → per ≡ u32_at s 4 → b ≡ with_run (record { count = count; value = per }) a
    → with_runs (take (64 - (i + 1)) (chunk_runs (λ e. e.per) chunks (deals_in (drop 12 s)))) b ≡ with_runs (take (64 - i) (chunk_runs (λ e. e.per) chunks (deals_in s))) a
add_next s u chunks i first next count per a b h l p q n k r e =
    let z : 64 - (i + 1) ≡ 64 - i - 1 = omega arith in
    let o : chunk_runs (λ e. e.per) chunks (deals_in s) ≡ record { count = count; value = per } ∷ chunk_runs (λ e. e.per) chunks (deals_in (drop 12 s)) =
    ap (chunk_runs (λ e. e.per) chunks) (deals_next s l) ∙ rw (k, n, q, r, p)
    in
    rw (z, e, o) (add_run (64 - i) _ (chunk_runs (λ e. e.per) chunks (deals_in (drop 12 s))) a (omega arith))

pub add_end : (s : List ℕ) (chunks n : ℕ) (a : Sums) → length s < 12 → with_runs (take n (chunk_runs (λ e. e.per) chunks (deals_in s))) a ≡ a
add_end s chunks n a h = ap (λ (es : List Deal). with_runs (take n (chunk_runs (λ e. e.per) chunks es)) a) (deals_none s h) ∙ add_none n a

-- ---- the place of a sample

-- the checkpoint that was found is one of them
pub found_in : (i count : ℕ) → 0 < count → (0 < i → i < count) → i < count
found_in zero count h a = h
found_in (suc i) count h a = a (omega arith)

-- as many chunks, whatever is taken from each entry
same_count : (f g : Deal → ℕ) (chunks k : ℕ) (es : List Deal) → length (expand (take k (chunk_runs f chunks es))) ≡ length (expand (take k (chunk_runs g chunks es)))
same_count f g chunks zero es = refl
same_count f g chunks (suc k) [] = refl
same_count f g chunks (suc k) (e ∷ es) =
    omega (
      arith,
      length_run (f e) (expand (take k (chunk_runs f chunks es))) (first_of chunks es - e.first),
      length_run (g e) (expand (take k (chunk_runs g chunks es))) (first_of chunks es - e.first),
      same_count f g chunks k es,
    )

holder_few : (ds : List ℕ) (t : ℕ) → holder ds t ≤ length ds
holder_few [] t = omega arith
holder_few (d ∷ ds) t = elim (dec_lt t d) [
  | yes l ↦ rw (holder_hit d ds t l) (omega arith)
  | no l ↦ let h : d ≤ t = omega arith in rw (holder_miss d ds t h) (omega (arith, holder_few ds (t - d)))
]

module _ (s : List ℕ) (chunks i c v k : ℕ) (q : c ≡ length (expand (take (64 * i) (deal_runs s chunks)))) (w : v ≡ sum (expand (take (64 * i) (deal_runs s chunks)))) (h : v ≤ k)
    (b : length (per_chunk s chunks) < 2 ^ 64) where
  walk : Walk (expand (deal_runs s chunks)) (expand (drop (64 * i) (deal_runs s chunks))) k c (k - v)
  walk = rw (q, w) (walk_from (deal_runs s chunks) (64 * i) k (omega (arith, w)))

  pub located_past : (f : Located) → f ≡ located_in (per_chunk (drop (768 * i) s) chunks) (description_ids (drop (768 * i) s) chunks) (k - v) → (a : ℕ) → a ≡ (c + f.chunk) % 2 ^ 64
      → ◌≡◌ {A = Located} (record { chunk = a; within = f.within; description = f.description }) (located_in (per_chunk s chunks) (description_ids s chunks) k)
  unfolding located_in per_chunk description_ids
  located_past f e a g =
      let ps = expand (deal_runs s chunks) in
      let rest = expand (drop (64 * i) (deal_runs s chunks)) in
      let ids = chunk_runs (λ e. e.id) chunks (deals s) in
      let n = holder rest (k - v) in
      let t : expand (deal_runs (drop (768 * i) s) chunks) ≡ rest = ap expand (tail_runs (λ e. e.per) s chunks i) in
      let u : expand (chunk_runs (λ e. e.id) chunks (deals (drop (768 * i) s))) ≡ expand (drop (64 * i) ids) = ap expand (tail_runs (λ e. e.id) s chunks i) in
      let x : f.chunk ≡ n = ap (λ (l : Located). l.chunk) e ∙ ap (λ (l : List ℕ). holder l (k - v)) t in
      let y : f.within ≡ k - v - before rest n = ap (λ (l : Located). l.within) e ∙ ap (λ (l : List ℕ). k - v - before l (holder l (k - v))) t in
      let z : f.description ≡ get_or (expand (drop (64 * i) ids)) n 0 = ap (λ (l : Located). l.description) e ∙ (λ j. get_or (u j) (holder (t j) (k - v)) 0) in
      let p : c + f.chunk ≡ holder ps k = omega (arith, x, walk.placed) in
      let m : a ≡ holder ps k = g ∙ mod-eq_of_lt (omega (arith, p, holder_few ps k)) ∙ p in
      let o : f.within ≡ k - before ps (holder ps k) = omega (arith, y, walk.begun, before_holder rest (k - v), before_holder ps k) in
      let cc : c ≡ length (expand (take (64 * i) ids)) = q ∙ same_count (λ e. e.per) (λ e. e.id) chunks (64 * i) (deals s) in
      let d : f.description ≡ get_or (expand ids) (holder ps k) 0 =
      z ∙ (let r : holder ps k - c ≡ n = omega (arith, walk.placed) in ap (λ (j : ℕ). get_or (expand (drop (64 * i) ids)) j 0) (sym r)) ∙ sym (value_past ids (64 * i) c (holder ps k) cc (omega (arith, walk.placed))) in
      λ j. record { chunk = m j; within = o j; description = d j }

-- ---- what the code comes to, by any checkpoints: i is the one that it takes

module _ (s points : List ℕ) (count chunks k i v : ℕ) (u : i ≡ point_upto points count 1 k) (q : v ≡ passed_at points i) where
  pub located_early : (r : Located) → r ≡ located_by s chunks k → k < v → r ≡ located_from s points count chunks k
  unfolding located_from
  located_early r e h = rw (← u, lt-ltb k (passed_at points i) (omega arith)) e

  pub located_late : v ≤ k → (c : ℕ) → c ≡ get_or points (2 * i) 0 → (f : Located) → f ≡ located_by (drop (768 * i) s) chunks (k - v) → (a : ℕ) → a ≡ (c + f.chunk) % 2 ^ 64
      → ◌≡◌ {A = Located} (record { chunk = a; within = f.within; description = f.description }) (located_from s points count chunks k)
  unfolding located_from
  located_late h c w f e a g =
      let x : f ≡ located_by (drop (768 * i) s) chunks (k - passed_at points i) = e ∙ ap (λ (n : ℕ). located_by (drop (768 * i) s) chunks (k - n)) q in
      let y : a ≡ (get_or points (2 * i) 0 + (located_by (drop (768 * i) s) chunks (k - passed_at points i)).chunk) % 2 ^ 64 =
      g ∙ ap (λ (n : ℕ). (n + f.chunk) % 2 ^ 64) w ∙ ap (λ (t : Located). (get_or points (2 * i) 0 + t.chunk) % 2 ^ 64) x in
      let z : f.within ≡ (located_by (drop (768 * i) s) chunks (k - passed_at points i)).within = ap (λ (t : Located). t.within) x in
      let d : f.description ≡ (located_by (drop (768 * i) s) chunks (k - passed_at points i)).description = ap (λ (t : Located). t.description) x in
      rw (← u, le-ltb k (passed_at points i) (omega arith)) (λ j. record { chunk = y j; within = z j; description = d j })
