-- A window slid on over sizes: what leaves it and what enters it, turn by turn, over listed sizes and over a common one.
-- Assumes nothing.
use Prim.Native.Nat.{ℕ, zero, suc, ◌+◌, ◌-◌, ◌*◌, ◌≤◌, ◌<◌}
use mathlib.Core.Path.{◌≡◌, refl, sym, ap, ◌∙◌}
use mathlib.Core.List.{List}
use native.Mathlib.Omega.{arith}
use native.Mathlib.Numerals.{add-one}
use native.Mathlib.Nat.{add-mul}
use native.Mathlib.Decide.{dec_lt}
use lib.ListN.{length, get_or, take, drop, replicate, length-drop, length-take, length-replicate}
use lib.Seq.{take-take}
use Rattle.bigendian.specs.BigEndian.{u32_at}
use Rattle.lists.specs.Lists.{sum, before}
use Rattle.lists.proofs.Laws.{sum_replicate, replicate_take}
use Rattle.lists.proofs.Places.{before_suc, before_mono, before_drop}
use Rattle.words.specs.Words.{words_in, sizes}
use Rattle.words.proofs.Turns.{words_next, words_drop, words_take, length_words, sizes_listed, sizes_common}
use Rattle.peaks.specs.declared.Slide.{Slide}
use Rattle.peaks.specs.Slides.{Stays, SlidOver, MaySlide, Slid}
use Rattle.windows.proofs.Sliding.{at_cons}

-- ---- turn by turn over listed sizes

-- after some turns: the parts that are left, and the bytes, as what entered without what left
pub record Over (tails heads : List ℕ) (bytes most : ℕ) (t h : List ℕ) (moved entered left : ℕ) : Type 0 where
  pub tails_left : words_in t ≡ drop moved (words_in tails)
  pub heads_left : words_in h ≡ drop moved (words_in heads)
  pub longer : length h ≤ length t
  pub held : left ≤ entered
  pub few : entered ≤ bytes + moved * 4294967295
  pub so_far : SlidOver (words_in tails) (words_in heads) bytes most (record { moved = moved; bytes = entered - left })

module _ (tails heads : List ℕ) (bytes most : ℕ) (s : Stays (words_in tails) (words_in heads) bytes most) where
  pub over_start : length heads ≤ length tails → Over tails heads bytes most tails heads 0 bytes 0
  over_start l = record {
    tails_left = refl;
    heads_left = refl;
    longer = l;
    held = omega arith;
    few = omega arith;
    so_far = record { within = omega arith; total = rw none_left refl; low = λ k g. at_zero k g; step = omega arith };
  }
    where
      none_left : bytes - 0 ≡ bytes
      none_left = omega arith

      at_zero : (k : ℕ) → k ≤ 0 → bytes + before (words_in heads) k ≤ most + before (words_in tails) k
      at_zero zero g = omega (arith, s.low)
      at_zero (suc k) g = absurd (omega arith)

  module _ (t h : List ℕ) (moved entered left : ℕ) (o : Over tails heads bytes most t h moved entered left) (l : 4 ≤ length h) where
    head_is : (get_or (words_in heads) moved 0 ≡ u32_at h 0) × (drop (suc moved) (words_in heads) ≡ words_in (drop 4 h)) × (moved < length (words_in heads))
    head_is = at_cons (words_in heads) moved (u32_at h 0) (words_in (drop 4 h)) (sym o.heads_left ∙ words_next h l)

    tail_is : (get_or (words_in tails) moved 0 ≡ u32_at t 0) × (drop (suc moved) (words_in tails) ≡ words_in (drop 4 t)) × (moved < length (words_in tails))
    tail_is = at_cons (words_in tails) moved (u32_at t 0) (words_in (drop 4 t)) (sym o.tails_left ∙ words_next t (omega (arith, o.longer)))

    pub leaves : {x : ℕ} → x ≡ u32_at t 0 → left + x ≤ entered
    leaves e = omega (arith, o.held, o.so_far.total, s.held moved head_is.2, before_suc (words_in tails) moved, tail_is.0)

    pub moves : moved < 1048576
    moves = omega (arith, head_is.2, s.few)

    pub over_next : {x y : ℕ} → x ≡ u32_at h 0 → y ≡ u32_at t 0 → x < 4294967296 → entered + x - (left + y) ≤ most
        → Over tails heads bytes most (drop 4 t) (drop 4 h) (moved + 1) (entered + x) (left + y)
    over_next {x} {y} e f b k =
        let p = head_is in
        let q = tail_is in
        let u = before_suc (words_in heads) moved in
        let v = before_suc (words_in tails) moved in
        let z = leaves f in
        rw (add-one moved) (record {
          tails_left = sym q.1;
          heads_left = sym p.1;
          longer = omega (arith, length-drop 4 t, length-drop 4 h, o.longer);
          held = omega arith;
          few = omega (arith, o.few);
          so_far = record {
            within = omega (arith, p.2);
            total = omega (arith, o.held, o.so_far.total, p.0, q.0);
            low = λ i g. elim (dec_lt i (suc moved)) [
              | yes m ↦ o.so_far.low i (omega arith)
              | no m ↦ let w : i ≡ suc moved = omega arith in rw w (omega (arith, o.held, o.so_far.total, p.0, q.0))
            ];
            step = omega (arith, o.few);
          };
        })

-- ---- the sizes of a window

before_take : (l : List ℕ) (n k : ℕ) → k ≤ n → before (take n l) k ≡ before l k
before_take l n k h = ap sum (take-take k n l h)

module _ (zs : List ℕ) (i j n bytes most : ℕ) (m : MaySlide zs i j n bytes most) where
  heads_length : length (take n (drop j zs)) ≡ n
  heads_length = omega (arith, length-take n (drop j zs), length-drop j zs, m.few)

  pub stays : Stays (take n (drop i zs)) (take n (drop j zs)) bytes most
  stays = record {
    held = λ k l.
        let g : k ≤ n = omega (arith, heads_length) in
        let e : i + suc k ≡ suc (i + k) = omega arith in
        omega (arith, before_drop zs i (suc k), before_take (drop i zs) n (suc k) (omega (arith, heads_length)), before_take (drop j zs) n k g, before_drop zs j k, m.sizes, before_mono zs (i + suc k) (j + k) (omega (arith, m.order)));
    low = m.low;
    fits = m.fits;
    few = omega (arith, heads_length, m.small);
  }

  pub slid_listed : (r : Slide) → SlidOver (take n (drop i zs)) (take n (drop j zs)) bytes most r → Slid zs i j n bytes most r
  slid_listed r o =
      let w : r.moved ≤ n = omega (arith, heads_length, o.within) in
      record {
        within = w;
        sizes = omega (arith, o.total, before_drop zs i r.moved, before_take (drop i zs) n r.moved w, before_take (drop j zs) n r.moved w, before_drop zs j r.moved, m.sizes);
        low = λ k g.
            let v : k ≤ n = omega arith in
            omega (arith, o.low k g, before_drop zs i k, before_take (drop i zs) n k v, before_take (drop j zs) n k v, before_drop zs j k, m.sizes);
        step = o.step;
      }

-- a common size
before_common : (n v k : ℕ) → k ≤ n → before (replicate n v) k ≡ k * v
before_common n v k h = ap sum (replicate_take n v k h) ∙ sum_replicate k v

pub slid_common : (s : List ℕ) (i j n bytes most common : ℕ) → common ≡ u32_at s 12 → (common ≡ 0 → ⊥) → MaySlide (sizes s) i j n bytes most
    → Slid (sizes s) i j n bytes most (record { moved = n; bytes = bytes })
slid_common s i j n bytes most common e z m = rw (sizes_common s e z) (go (rw (sizes_common s e z) at m))
  where
    go : MaySlide (replicate (u32_at s 16) common) i j n bytes most → Slid (replicate (u32_at s 16) common) i j n bytes most (record { moved = n; bytes = bytes })
    go w =
        let c = u32_at s 16 in
        let l : j + n ≤ c = omega (arith, w.few, length-replicate c common) in
        let a = before_common c common i (omega (arith, w.order)) in
        let b = before_common c common j (omega arith) in
        record {
          within = omega arith;
          sizes = omega (arith, w.sizes, before_common c common (i + n) (omega (arith, w.order)), before_common c common (j + n) l, add-mul i n common, add-mul j n common);
          low = λ k g. omega (arith, w.sizes, w.low, before_common c common (i + k) (omega (arith, w.order)), before_common c common (j + k) (omega arith), add-mul i k common, add-mul j k common);
          step = omega arith;
        }

-- ---- the parts of stsz at the ends of a window

module _ (s part tails heads : List ℕ) (i j n bytes most : ℕ) (common : ℕ) (e : common ≡ u32_at s 12) (z : common ≡ 0) (p : part ≡ drop 20 s)
    (a : tails ≡ drop (i * 4) part) (b : heads ≡ drop (j * 4) part) (m : MaySlide (sizes s) i j n bytes most) where
  all_words : words_in part ≡ sizes s
  all_words = ap words_in p ∙ sym (sizes_listed s e z)

  enough_bytes : (j + n) * 4 ≤ length part
  enough_bytes = omega (arith, m.few, ap length all_words, length_words part)

  pub heads_enough : n * 4 ≤ length heads
  heads_enough = omega (arith, enough_bytes, ap length b, length-drop (j * 4) part)

  pub tails_enough : n * 4 ≤ length tails
  tails_enough = omega (arith, enough_bytes, ap length a, length-drop (i * 4) part, m.order)

  tails_words : words_in (take (n * 4) tails) ≡ take n (drop i (sizes s))
  tails_words = words_take n tails ∙ ap (take n) (ap words_in a ∙ words_drop i part ∙ ap (drop i) all_words)

  heads_words : words_in (take (n * 4) heads) ≡ take n (drop j (sizes s))
  heads_words = words_take n heads ∙ ap (take n) (ap words_in b ∙ words_drop j part ∙ ap (drop j) all_words)

  pub parts_stay : Stays (words_in (take (n * 4) tails)) (words_in (take (n * 4) heads)) bytes most × (length (take (n * 4) heads) ≤ length (take (n * 4) tails))
  parts_stay = (
    rw (tails_words, heads_words) (stays (sizes s) i j n bytes most m),
    omega (arith, tails_enough, length-take (n * 4) tails, length-take (n * 4) heads),
  )

  pub parts_slid : (r : Slide) → SlidOver (words_in (take (n * 4) tails)) (words_in (take (n * 4) heads)) bytes most r → Slid (sizes s) i j n bytes most r
  parts_slid r o = slid_listed (sizes s) i j n bytes most m r (rw (tails_words, heads_words) at o)
