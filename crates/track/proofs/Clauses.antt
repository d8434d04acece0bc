-- What the functions on single tables answer comes to refusal 9 as the paper has it, clause by clause: by cases on the clauses, and by induction over the runs.
-- Assumes nothing.
use Prim.Native.Nat.{ℕ, ◌+◌, ◌-◌, ◌≤◌}
use mathlib.Core.Path.{◌≡◌, refl, sym, ap, ◌∙◌}
use mathlib.Core.Bool.{Bool, true, false, cond, not, ◌&&◌, ◌||◌}
use mathlib.Core.List.{List, [], ◌∷◌}
use native.Mathlib.Omega.{arith}
use lib.ListN.{length}
use lib.Dec.{ltb, eqb}
use borrow.Author.Tests.{ltb-true, ltb-false, eqb-true, eqb-false, eq-eqb, ne_eqb, not-true}
use Rattle.lists.specs.Lists.{sum, Run, expand}
use Rattle.lists.proofs.Laws.{length_run}
use Rattle.lists.proofs.Booleans.{and_false, not_or, or_second, not_not, and_left, and_right}
use Rattle.runs.specs.Runs.{runs_of, per_sample}
use Rattle.runs.specs.Computed.{counting}
use Rattle.words.specs.Words.{syncs_agree}
use Rattle.chunks.specs.Chunks.{Deal, deals, dealt, per_chunk, deals_contradict, is_empty}
use Rattle.chunks.specs.Computed.{deals_agree}
use Rattle.chunks.proofs.Clauses.{agree_clauses}
use Rattle.atoms.specs.Kinds.{stts, ctts, stsc, stsz, stss, stsd}
use Rattle.bigendian.specs.BigEndian.{u32_at}
use Rattle.structure.specs.Track.{table_of, offset_table, samples_of, chunks_of, descriptions_of}
use Rattle.track.specs.Refusals.{any_empty, miscounted, contradicts}

-- ---- a table of runs

eqb_shift : (n c l : ℕ) → c ≤ n → eqb n (c + l) ≡ eqb (n - c) l
eqb_shift n c l h = go (eqb (n - c) l) refl
  where
    go : (f : Bool) → eqb (n - c) l ≡ f → eqb n (c + l) ≡ f
    go true f = let e = eqb-true (n - c) l f in eq-eqb n (c + l) (omega arith)
    go false f = let e = eqb-false (n - c) l f in ne_eqb n (c + l) (λ z. e (omega arith))

counting_runs : (n : ℕ) (rs : List Run) → counting n rs ≡ (not (any_empty rs) && eqb n (length (expand rs)))
counting_runs n [] = refl
counting_runs n (r ∷ rs) = first (eqb r.count 0) refl (counting_runs (n - r.count) rs)
  where
    len : length (expand (r ∷ rs)) ≡ r.count + length (expand rs)
    len = length_run r.value (expand rs) r.count

    second : (g : Bool) → ltb n r.count ≡ g → counting (n - r.count) rs ≡ (not (any_empty rs) && eqb (n - r.count) (length (expand rs)))
        → cond g false (counting (n - r.count) rs) ≡ (not (any_empty rs) && eqb n (length (expand (r ∷ rs))))
    second true g ih = let l = ltb-true n r.count g in rw (len, ne_eqb n (r.count + length (expand rs)) (λ z. omega arith)) (sym (and_false (not (any_empty rs))))
    second false g ih = rw (len, eqb_shift n r.count (length (expand rs)) (ltb-false n r.count g)) ih

    first : (f : Bool) → eqb r.count 0 ≡ f → counting (n - r.count) rs ≡ (not (any_empty rs) && eqb (n - r.count) (length (expand rs)))
        → cond f false (cond (ltb n r.count) false (counting (n - r.count) rs)) ≡ (not (f || any_empty rs) && eqb n (length (expand (r ∷ rs))))
    first true f ih = refl
    first false f ih = second (ltb n r.count) refl ih

pub counts_clauses : (n : ℕ) (s : List ℕ) → counting n (runs_of s) ≡ not (miscounted n s)
unfolding miscounted per_sample
counts_clauses n s = counting_runs n (runs_of s) ∙ sym (not_or (any_empty (runs_of s)) (eqb n (length (expand (runs_of s)))))

-- ---- no chunks and some samples

no_deals : (ds : List Deal) → not (is_empty ds) ≡ false → ds ≡ []
no_deals [] e = refl
no_deals (d ∷ ds) e = absurd (let z : ◌≡◌ {A = ℕ} 0 1 = cc in omega arith)

-- without chunks and with samples, either stsc contradicts or the samples are not dealt
pub none_dealt : (s : List ℕ) (chunks descriptions samples : ℕ) → (eqb chunks 0 && not (eqb samples 0)) ≡ true
    → (deals_contradict s chunks descriptions || not (eqb (sum (per_chunk s chunks)) samples)) ≡ true
unfolding deals_contradict per_chunk
none_dealt s chunks descriptions samples e = go (deals s) refl
  where
    none : eqb chunks 0 ≡ true
    none = and_left (eqb chunks 0) (not (eqb samples 0)) e

    some : eqb samples 0 ≡ false
    some = not-true (eqb samples 0) (and_right (eqb chunks 0) (not (eqb samples 0)) e)

    go : (ds : List Deal) → deals s ≡ ds → (deals_contradict s chunks descriptions || not (eqb (sum (dealt (λ x. x.per) chunks (deals s))) samples)) ≡ true
    go [] q = or_second (deals_contradict s chunks descriptions) (not (eqb (sum (dealt (λ x. x.per) chunks (deals s))) samples)) (rw (q, ne_eqb 0 samples (λ z. eqb-false samples 0 some (sym z))))
    go (d ∷ ds) q = rw (q, none)

-- ---- all clauses

rest_clauses : (q d s y : Bool) → (q ≡ true → (d || s) ≡ true) → not ((not d && not s) && not y) ≡ (q || (d || (s || y)))
rest_clauses true true s y h = refl
rest_clauses true false true y h = refl
rest_clauses true false false y h = absurd (let w = h refl in let z : ◌≡◌ {A = ℕ} 0 1 = cc in omega arith)
rest_clauses false true s y h = refl
rest_clauses false false true y h = refl
rest_clauses false false false true h = refl
rest_clauses false false false false h = refl

-- as the code joins what the tables answer, and as the paper joins its clauses
joined_clauses : (m p n q d s y : Bool) → (q ≡ true → (d || s) ≡ true) → not (((not m && (p || not n)) && (not d && not s)) && not y) ≡ (m || ((not p && n) || (q || (d || (s || y)))))
joined_clauses true p n q d s y h = refl
joined_clauses false false true q d s y h = refl
joined_clauses false true n q d s y h = rest_clauses q d s y h
joined_clauses false false false q d s y h = rest_clauses q d s y h

pub contradicts_is : (t : List ℕ) (a b d y w : Bool) → a ≡ counting (samples_of t) (runs_of (table_of stts t))
    → b ≡ (eqb (length (table_of ctts t)) 0 || counting (samples_of t) (runs_of (table_of ctts t)))
    → d ≡ (deals_agree (table_of stsc t) (chunks_of t) (descriptions_of t) && eqb (sum (per_chunk (table_of stsc t) (chunks_of t))) (samples_of t))
    → y ≡ syncs_agree (table_of stss t) (samples_of t)
    → w ≡ (((a && b) && d) && y) → not w ≡ contradicts t
unfolding contradicts
contradicts_is t a b d y w ea eb ed ey ew =
    let n : ℕ = samples_of t in
    let m₁ = counts_clauses n (table_of stts t) in
    let m₂ = counts_clauses n (table_of ctts t) in
    let g = agree_clauses (table_of stsc t) (chunks_of t) (descriptions_of t) in
    let m : Bool = miscounted n (table_of stts t) in
    let p : Bool = eqb (length (table_of ctts t)) 0 in
    let o : Bool = miscounted n (table_of ctts t) in
    let u : Bool = deals_contradict (table_of stsc t) (chunks_of t) (descriptions_of t) in
    let s : Bool = eqb (sum (per_chunk (table_of stsc t) (chunks_of t))) n in
    let v : Bool = syncs_agree (table_of stss t) n in
    let e : w ≡ (((not m && (p || not o)) && (not u && not (not s))) && not (not v)) = ew ∙ rw (ea, eb, ed, ey, m₁, m₂, g, not_not s, not_not v) in
    ap not e ∙ joined_clauses m p o (eqb (chunks_of t) 0 && not (eqb n 0)) u (not s) (not v) (none_dealt (table_of stsc t) (chunks_of t) (descriptions_of t) n)

-- the same by what the code reads: the tables as parts, and the numbers of samples, chunks and descriptions
pub contradicts_by : (t z o e x s u y : List ℕ) (n k m : ℕ) (a b d v p r w : Bool)
    → z ≡ table_of stsz t → n ≡ u32_at z 16 → o ≡ offset_table t → k ≡ u32_at o 12 → e ≡ table_of stsd t → m ≡ u32_at e 12 → x ≡ table_of stsc t
    → s ≡ table_of stts t → a ≡ counting n (runs_of s) → u ≡ table_of ctts t → b ≡ (eqb (length u) 0 || counting n (runs_of u)) → p ≡ (a && b)
    → d ≡ (deals_agree x k m && eqb (sum (per_chunk x k)) n) → r ≡ (p && d)
    → y ≡ table_of stss t → v ≡ syncs_agree y n → w ≡ (r && v) → not w ≡ contradicts t
contradicts_by t z o e x s u y n k m a b d v p r w ez en eo ek ee em ex es ea eu eb ep ed er ey ev ew =
    let n' : n ≡ samples_of t = en ∙ ap (λ (l : List ℕ). u32_at l 16) ez in
    let k' : k ≡ chunks_of t = ek ∙ ap (λ (l : List ℕ). u32_at l 12) eo in
    let m' : m ≡ descriptions_of t = em ∙ ap (λ (l : List ℕ). u32_at l 12) ee in
    contradicts_is t a b d v w (ea ∙ rw (n', es)) (eb ∙ rw (n', eu)) (ed ∙ rw (n', k', m', ex)) (ev ∙ rw (n', ey)) (ew ∙ rw (er, ep))

-- of stts alone
pub counts_by : (t z s : List ℕ) (n : ℕ) (a : Bool) → z ≡ table_of stsz t → n ≡ u32_at z 16 → s ≡ table_of stts t → a ≡ counting n (runs_of s) → a ≡ counting (samples_of t) (runs_of (table_of stts t))
counts_by t z s n a ez en es ea = let e : n ≡ samples_of t = en ∙ ap (λ (l : List ℕ). u32_at l 16) ez in ea ∙ rw (e, es)
