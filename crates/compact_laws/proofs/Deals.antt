-- Entries of stsc that say what the one before says left out: every chunk is dealt the same, and the entries still agree.
-- Assumes nothing.
use Prim.Native.Nat.{ℕ, zero, suc, ◌+◌, ◌-◌, ◌≤◌}
use mathlib.Core.Path.{◌≡◌, refl, sym, ap, ◌∙◌}
use mathlib.Core.Bool.{Bool, true, false, cond, not, ◌&&◌}
use mathlib.Core.List.{List, [], ◌∷◌, ◌++◌, map}
use native.Mathlib.Omega.{arith}
use lib.ListN.{length, drop, replicate}
use lib.Dec.{eqb}
use borrow.Author.Tests.{eqb-true, eq-eqb, ne_eqb, le-leb, lt-leb, not-true}
use Rattle.bigendian.specs.BigEndian.{u32_at}
use Rattle.lists.specs.Entries.{entries}
use Rattle.lists.proofs.Booleans.{and_left, and_right, cond_both}
use Rattle.chunks.specs.Chunks.{Deal, deal_of, deals, first_of, dealt, per_chunk, description_ids, deals_contradict}
use Rattle.chunks.specs.Computed.{right_entry, dealing, deals_agree}
use Rattle.chunks.proofs.Clauses.{Right, is_right, agreed, agree_clauses}
use Rattle.atoms.specs.Kinds.{stsc}
use Rattle.atoms.specs.Atoms.{kind_of}
use Rattle.compact_entries.specs.Entries.{same_deal, deals_from, compact_deals}
use Rattle.compact_tables.specs.Tables.{compact_table}
use Rattle.compact_tables.proofs.Tables.{table_deals}
use Rattle.compact_entries.proofs.Widths.{Wide, rows_wide, deals_wide}
use Rattle.compact_laws.proofs.Stbl.{written_entries}

abbrev pub alike : Deal → Deal → Bool
alike e x = eqb e.per x.per && eqb e.id x.id

abbrev pub unlike : Deal → List Deal → List Deal
unlike e [] = []
unlike e (x ∷ xs) = cond (alike e x) (unlike e xs) (x ∷ unlike x xs)

abbrev pub closed_deals : List Deal → List Deal
closed_deals [] = []
closed_deals (e ∷ es) = e ∷ unlike e es

-- the entries rise, up to one past the last chunk
abbrev pub Rises : ℕ → List Deal → Type 0
Rises chunks [] = Unit {0}
Rises chunks (e ∷ es) = (e.first ≤ first_of chunks es) × Rises chunks es

replicate_add : (m n v : ℕ) (l : List ℕ) → replicate (m + n) v ++ l ≡ replicate m v ++ (replicate n v ++ l)
replicate_add zero n v l = let e : 0 + n ≡ n = omega arith in ap (λ (k : ℕ). replicate k v ++ l) e
replicate_add (suc m) n v l = let e : suc m + n ≡ suc (m + n) = omega arith in ap (λ (k : ℕ). replicate k v ++ l) e ∙ ap (λ x. v ∷ x) (replicate_add m n v l)

module _ (f : Deal → ℕ) (chunks : ℕ) (r : (e x : Deal) → alike e x ≡ true → f e ≡ f x) where
  unlike_first : (e : Deal) (es : List Deal) → Rises chunks (e ∷ es) → e.first ≤ first_of chunks (unlike e es)
  unlike_first e [] h = h.0
  unlike_first e (x ∷ xs) h = go (alike e x) (unlike_first e xs (omega (arith, h.0, h.1.0), h.1.1))
    where
      go : (b : Bool) → e.first ≤ first_of chunks (unlike e xs) → e.first ≤ first_of chunks (cond b (unlike e xs) (x ∷ unlike x xs))
      go true g = g
      go false g = h.0

  pub deals_same : (e : Deal) (es : List Deal) → Rises chunks (e ∷ es) → dealt f chunks (e ∷ unlike e es) ≡ dealt f chunks (e ∷ es)
  deals_same e [] h = refl
  deals_same e (x ∷ xs) h = go (alike e x) refl (deals_same e xs (omega (arith, h.0, h.1.0), h.1.1)) (deals_same x xs h.1)
    where
      go : (b : Bool) → alike e x ≡ b → dealt f chunks (e ∷ unlike e xs) ≡ dealt f chunks (e ∷ xs) → dealt f chunks (x ∷ unlike x xs) ≡ dealt f chunks (x ∷ xs)
          → dealt f chunks (e ∷ cond b (unlike e xs) (x ∷ unlike x xs)) ≡ dealt f chunks (e ∷ (x ∷ xs))
      go true q g k =
          let n : first_of chunks xs - e.first ≡ (x.first - e.first) + (first_of chunks xs - x.first) = omega (arith, h.0, h.1.0) in
          g
          ∙ ap (λ (m : ℕ). replicate m (f e) ++ dealt f chunks xs) n
          ∙ replicate_add (x.first - e.first) (first_of chunks xs - x.first) (f e) (dealt f chunks xs)
          ∙ ap (λ (v : ℕ). replicate (x.first - e.first) (f e) ++ (replicate (first_of chunks xs - x.first) v ++ dealt f chunks xs)) (r e x q)
      go false q g k = ap (λ l. replicate (x.first - e.first) (f e) ++ l) k

-- ---- the entries of an stsc

from_deals : (e : List ℕ) (es : List (List ℕ)) → map deal_of (deals_from e es) ≡ unlike (deal_of e) (map deal_of es)
unfolding deals_from same_deal
from_deals e [] = refl
from_deals e (x ∷ xs) = go (eqb (u32_at e 4) (u32_at x 4) && eqb (u32_at e 8) (u32_at x 8)) (from_deals e xs) (from_deals x xs)
  where
    go : (b : Bool) → map deal_of (deals_from e xs) ≡ unlike (deal_of e) (map deal_of xs) → map deal_of (deals_from x xs) ≡ unlike (deal_of x) (map deal_of xs)
        → map deal_of (cond b (deals_from e xs) (x ∷ deals_from x xs)) ≡ cond b (unlike (deal_of e) (map deal_of xs)) (deal_of x ∷ unlike (deal_of x) (map deal_of xs))
    go true f g = f
    go false f g = ap (λ l. deal_of x ∷ l) g

pub entries_deals : (es : List (List ℕ)) → map deal_of (compact_deals es) ≡ closed_deals (map deal_of es)
unfolding compact_deals
entries_deals [] = refl
entries_deals (e ∷ es) = ap (λ l. deal_of e ∷ l) (from_deals e es)

module _ (a : List ℕ) (h : 16 ≤ length a) (k : kind_of a ≡ stsc) where
  stsc_wide : Wide 12 (entries 16 12 a)
  unfolding entries
  stsc_wide = rows_wide 12 (drop 16 a)

  pub stsc_deals : deals (compact_table a) ≡ closed_deals (deals a)
  unfolding deals
  stsc_deals =
      ap (λ x. map deal_of (entries 16 12 x)) (table_deals a h stsc (sym k) (λ e. omega arith) refl)
      ∙ ap (map deal_of) (written_entries a (compact_deals (entries 16 12 a)) h 12 (omega arith) (deals_wide (entries 16 12 a) stsc_wide))
      ∙ entries_deals (entries 16 12 a)

-- ---- entries that agree: they rise, and those that are left agree too

module _ (chunks descriptions : ℕ) where
  pub agree_rise : (es : List Deal) → dealing chunks descriptions es ≡ true → Rises chunks es
  agree_rise [] h = tt
  agree_rise (e ∷ es) h =
      let r = cond_both _ _ h in
      let q = is_right e.first (first_of chunks es) e.per e.id descriptions r.0 in
      (omega (arith, q.some), agree_rise es r.1)

  right_is : (first next per id : ℕ) → Right first next per id descriptions → right_entry first next per id descriptions ≡ true
  right_is first next per id r =
      rw (lt-leb next first r.some, ne_eqb per 0 (λ e. omega (arith, r.full)), ne_eqb id 0 (λ e. omega (arith, r.named))) (le-leb id descriptions r.known)

  -- an entry left out: the one before holds for its chunks too
  agree_past : (e x : Deal) (xs : List Deal) → dealing chunks descriptions (e ∷ (x ∷ xs)) ≡ true → dealing chunks descriptions (e ∷ xs) ≡ true
  agree_past e x xs h =
      let r = cond_both _ _ h in
      let s = cond_both _ _ r.1 in
      let p = is_right e.first x.first e.per e.id descriptions r.0 in
      let q = is_right x.first (first_of chunks xs) x.per x.id descriptions s.0 in
      rw (right_is e.first (first_of chunks xs) e.per e.id (record { some = omega (arith, p.some, q.some); full = p.full; named = p.named; known = p.known })) s.1

  pub agree_kept : (e : Deal) (es : List Deal) → dealing chunks descriptions (e ∷ es) ≡ true → dealing chunks descriptions (e ∷ unlike e es) ≡ true
  agree_kept e [] h = h
  agree_kept e (x ∷ xs) h = go (alike e x) (agree_kept e xs (agree_past e x xs h)) (agree_kept x xs (cond_both (right_entry e.first x.first e.per e.id descriptions) (dealing chunks descriptions (x ∷ xs)) h).1)
    where
      go : (b : Bool) → dealing chunks descriptions (e ∷ unlike e xs) ≡ true → dealing chunks descriptions (x ∷ unlike x xs) ≡ true
          → dealing chunks descriptions (e ∷ cond b (unlike e xs) (x ∷ unlike x xs)) ≡ true
      go true f g = f
      go false f g = let q : right_entry e.first x.first e.per e.id descriptions ≡ true = (cond_both _ (dealing chunks descriptions (x ∷ xs)) h).0 in rw q g

  pub agree_closed : (es : List Deal) → dealing chunks descriptions es ≡ true → dealing chunks descriptions (closed_deals es) ≡ true
  agree_closed [] h = h
  agree_closed (e ∷ es) h = agree_kept e es h

  pub first_closed : (es : List Deal) → first_of chunks (closed_deals es) ≡ first_of chunks es
  first_closed [] = refl
  first_closed (e ∷ es) = refl

pub dealt_closed : (f : Deal → ℕ) (chunks : ℕ) → ((e x : Deal) → alike e x ≡ true → f e ≡ f x) → (es : List Deal) → Rises chunks es → dealt f chunks (closed_deals es) ≡ dealt f chunks es
dealt_closed f chunks r [] h = refl
dealt_closed f chunks r (e ∷ es) h = deals_same f chunks r e es h

-- ---- what refusal 9 asks of an stsc closed up, and what it deals

module _ (a : List ℕ) (h : 16 ≤ length a) (k : kind_of a ≡ stsc) (chunks descriptions : ℕ) (g : deals_contradict a chunks descriptions ≡ false) where
  agreed_before : (first_of chunks (deals a) ≡ 1) × (dealing chunks descriptions (deals a) ≡ true)
  agreed_before = agreed a chunks descriptions (agree_clauses a chunks descriptions ∙ ap not g)

  pub stsc_right : deals_contradict (compact_table a) chunks descriptions ≡ false
  unfolding deals_agree
  stsc_right = not-true _ (sym (agree_clauses (compact_table a) chunks descriptions) ∙ after)
    where
      after : deals_agree (compact_table a) chunks descriptions ≡ true
      after =
          rw (stsc_deals a h k, first_closed chunks descriptions (deals a), eq-eqb (first_of chunks (deals a)) 1 agreed_before.0)
          (agree_closed chunks descriptions (deals a) agreed_before.1)

  pub stsc_samples : per_chunk (compact_table a) chunks ≡ per_chunk a chunks
  unfolding per_chunk
  stsc_samples = ap (dealt (λ e. e.per) chunks) (stsc_deals a h k) ∙ dealt_closed (λ e. e.per) chunks (λ e x q. eqb-true _ _ (and_left _ _ q)) (deals a) (agree_rise chunks descriptions (deals a) agreed_before.1)

  pub stsc_ids : description_ids (compact_table a) chunks ≡ description_ids a chunks
  unfolding description_ids
  stsc_ids = ap (dealt (λ e. e.id) chunks) (stsc_deals a h k) ∙ dealt_closed (λ e. e.id) chunks (λ e x q. eqb-true _ _ (and_right (eqb e.per x.per) _ q)) (deals a) (agree_rise chunks descriptions (deals a) agreed_before.1)
