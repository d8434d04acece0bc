-- The window slid on entry by entry: the sample at its tail leaves it and the one at its head enters it, turn by turn.
-- Assumes nothing.
use Rattle.std.specs.Prelude.{Option, Some}
use Prim.Native.Nat.{ℕ, suc, ◌+◌, ◌-◌, ◌*◌, ◌^◌, ◌≤◌, ◌<◌}
use mathlib.Core.Path.{◌≡◌, refl, sym, ap, ◌∙◌}
use mathlib.Core.List.{List}
use native.Mathlib.Omega.{arith}
use lib.ListN.{length, get_or, drop, length-drop}
use lib.Seq.{drop-drop}
use Rattle.bigendian.specs.BigEndian.{u32_at}
use Rattle.rates.specs.Rates.{rate_of}
use Rattle.runs.specs.Runs.{per_sample}
use Rattle.runs.specs.Cursors.{readied_run, past_run}
use Rattle.runs.specs.declared.cursor.RunCursor.{RunCursor}
use Rattle.runs.proofs.Cursors.{ready_stop, ready_next}
use Rattle.words.specs.Words.{words_in, sizes}
use Rattle.words.proofs.Turns.{words_next, words_drop, sizes_listed}
use Rattle.windows.specs.Windows.{Timed}
use Rattle.windows.specs.declared.Window.{Window}
use Rattle.windows.specs.declared.RatedRun.{RatedRun}
use Rattle.peaks.specs.declared.EntrySlide.{EntrySlide}
use Rattle.windows.specs.Windows.{Slides, rated_run, better, best_from}
use Rattle.peaks.specs.Slides.{Absorbs, Skips}
use Rattle.peaks.specs.EntrySlides.{window_at, HasEntries, MayStand}
use Rattle.windows.proofs.Bests.{better_assoc, better_kept}
use Rattle.lists.proofs.Places.{before_suc, before_le}
use Rattle.windows.proofs.Sliding.{at_cons, before_at, peak_here, slides_grown, slides_shrunk, tail_fits, bytes_fit}
use Rattle.windows.proofs.Rating.{span_fits}

-- ---- a cursor in an entry of one sample, and the next entry, which has one sample too

module _ (s : List ℕ) (c : RunCursor) (n : c.count ≡ 1) {t : List ℕ} (p : t ≡ drop c.at s) (l : 8 ≤ length t) (o : u32_at t 0 ≡ 1) where
  pub next_entry : readied_run s (past_run 1 c) ≡ record { at = c.at + 8; count = 1; each = u32_at t 4 }
  next_entry =
      let z : c.count - 1 ≡ 0 = omega (arith, n) in
      sym (ready_next s (past_run 1 c) p l z (sym o) refl) ∙ ready_stop s (record { at = c.at + 8; count = 1; each = u32_at t 4 }) (λ e. absurd (omega (arith, e)))

-- ---- the size that stands first in what follows some sizes

pub size_first : (z o : List ℕ) (k : ℕ) → u32_at z 12 ≡ 0 → o ≡ drop (k * 4) (drop 20 z) → 4 ≤ length o → (u32_at o 0 ≡ get_or (sizes z) k 0) × (k < length (sizes z))
size_first z o k e p l =
    let w : drop k (sizes z) ≡ words_in o = ap (drop k) (sizes_listed z (sym e) refl) ∙ sym (words_drop k (drop 20 z)) ∙ ap words_in (sym p) in
    let a = at_cons (sizes z) k (u32_at o 0) (words_in (drop 4 o)) (w ∙ words_next o l) in
    (sym a.0, a.2)

-- ---- from window to window

module _ (s : ℕ) (t z : List ℕ) (k : Timed s (per_sample t) (sizes z)) where
  -- one sample leaves, and one enters
  module _ (w : Window) (h : Slides s t z w) (r : s ≤ w.span) (a : w.tail.count ≡ 1) (b : w.head.count ≡ 1) (into out : ℕ)
      (i : into ≡ get_or (sizes z) w.stop 0) (j : out ≡ get_or (sizes z) w.first 0) (f : into < 4294967296) {tt hh : List ℕ}
      (p : tt ≡ drop w.tail.at t) (q : hh ≡ drop w.head.at t) (l : 8 ≤ length tt) (m : 8 ≤ length hh) (u : u32_at tt 0 ≡ 1) (v : u32_at hh 0 ≡ 1)
      (d : w.span - w.tail.each < s) where
    pub slides_next : Slides s t z (record {
      tail = record { at = w.tail.at + 8; count = 1; each = u32_at tt 4 };
      head = record { at = w.head.at + 8; count = 1; each = u32_at hh 4 };
      first = w.first + 1;
      stop = w.stop + 1;
      span = w.span - w.tail.each + w.head.each;
      bytes = w.bytes - out + into;
    })
    slides_next =
        let x = slides_shrunk s t z k.some_scale w h r (past_run 1 w.tail) (record { at = w.tail.at + 8; count = 1; each = u32_at tt 4 }) out refl (sym (next_entry t w.tail a p l u)) j in
        rw (sym (next_entry t w.head b q m v)) (slides_grown s t z k.some_scale _ x into d (omega (arith, b)) i f)

  -- to the window of the next sample, its run being no higher than the best one
  pub skips_next : (x : Option RatedRun) (w u v : Window) → Skips s t z x w u → Slides s t z v → s ≤ v.span → Absorbs s x v → v.first ≡ u.first + 1 → Skips s t z x w v
  skips_next x w u v g h r a f =
      let rest = best_from s (suc u.first) (drop (suc u.first) (per_sample t)) (drop (suc u.first) (sizes z)) in
      let e : suc u.first ≡ v.first = omega (arith, f) in
      record {
        slides = h;
        reaches = r;
        absorbs = a;
        later = omega (arith, g.later);
        kept =
            g.kept
            ∙ ap (better x) (peak_here s (per_sample t) (sizes z) u.first u.stop u.span u.bytes k.some_scale g.slides.run g.reaches)
            ∙ sym (better_assoc x (rated_run s u.first (u.stop - u.first) u.bytes u.span) rest)
            ∙ ap (λ (y : Option RatedRun). better y rest) g.absorbs
            ∙ ap (λ (i : ℕ). better x (best_from s i (drop i (per_sample t)) (drop i (sizes z)))) e;
      }

-- ---- what the loop keeps: the window has skipped to where it stands, and the parts lie ahead of it

pub record Enters (s : ℕ) (t z : List ℕ) (b : RatedRun) (w : Window) (tt hh oo ii : List ℕ) (x : EntrySlide) : Type 0 where
  pub skips : Skips s t z (Some b) w (window_at w x)
  pub tails : tt ≡ drop (w.tail.at + x.moved * 8) t
  pub heads : hh ≡ drop (w.head.at + x.moved * 8) t
  pub outs : oo ≡ drop ((w.first + x.moved) * 4) (drop 20 z)
  pub ins : ii ≡ drop ((w.stop + x.moved) * 4) (drop 20 z)
  pub held : x.left ≤ x.entered
  pub few : x.entered ≤ w.bytes + x.moved * 4294967295
  pub inside : w.head.at + x.moved * 8 ≤ length t

module _ (s : ℕ) (t z : List ℕ) (k : Timed s (per_sample t) (sizes z)) (b : RatedRun) (w : Window) (g : HasEntries t z w) where
  abbrev start : EntrySlide
  start = record { moved = 0; out = w.tail.each; into = w.head.each; span = w.span; entered = w.bytes; left = 0 }

  start_window : window_at w start ≡ w
  start_window =
      let a : w.tail.at + 0 * 8 ≡ w.tail.at = omega arith in
      let c : w.head.at + 0 * 8 ≡ w.head.at = omega arith in
      let e : w.first + 0 ≡ w.first = omega arith in
      let f : w.stop + 0 ≡ w.stop = omega arith in
      let l : w.bytes - 0 ≡ w.bytes = omega arith in
      λ i. record {
        tail = record { at = a i; count = sym g.tail i; each = w.tail.each };
        head = record { at = c i; count = sym g.head i; each = w.head.each };
        first = e i;
        stop = f i;
        span = w.span;
        bytes = l i;
      }

  pub enters_start : (tt hh part oo ii : List ℕ) → Skips s t z (Some b) w w → tt ≡ drop w.tail.at t → hh ≡ drop w.head.at t → part ≡ drop 20 z
      → oo ≡ drop (w.first * 4) part → ii ≡ drop (w.stop * 4) part → Enters s t z b w tt hh oo ii start
  enters_start tt hh part oo ii q a c p d e =
      let f : w.tail.at + 0 * 8 ≡ w.tail.at = omega arith in
      let h : w.head.at + 0 * 8 ≡ w.head.at = omega arith in
      let j : (w.first + 0) * 4 ≡ w.first * 4 = omega arith in
      let l : (w.stop + 0) * 4 ≡ w.stop * 4 = omega arith in
      record {
        skips = rw start_window q;
        tails = rw f a;
        heads = rw h c;
        outs = rw (j, ← p) d;
        ins = rw (l, ← p) e;
        held = omega arith;
        few = omega arith;
        inside = rw h g.inside;
      }

  module _ (tt hh oo ii : List ℕ) (x : EntrySlide) (e : Enters s t z b w tt hh oo ii x) where
    abbrev here : Window
    here = window_at w x

    pub some_entries : 8 ≤ length hh → 8 ≤ length tt
    some_entries l =
        omega (arith, g.order, ap length e.tails, ap length e.heads, length-drop (w.tail.at + x.moved * 8) t, length-drop (w.head.at + x.moved * 8) t)

    pub some_sizes : 4 ≤ length ii → 4 ≤ length oo
    some_sizes l =
        let m : (w.first + x.moved) * 4 ≤ (w.stop + x.moved) * 4 = omega (arith, e.skips.slides.run.order) in
        omega (arith, m, ap length e.outs, ap length e.ins, length-drop ((w.first + x.moved) * 4) (drop 20 z), length-drop ((w.stop + x.moved) * 4) (drop 20 z))

    pub leaves_span : x.out ≤ x.span
    leaves_span = tail_fits s t z k.some_scale here e.skips.slides e.skips.reaches

    pub span_next : x.span + x.into < 4294967296
    span_next =
        let r = e.skips.slides in
        let a = before_at t (w.stop + x.moved) here.head r.head (omega arith) in
        omega (arith, k.total_fits, r.run.times, before_suc (per_sample t) (w.stop + x.moved), before_le (per_sample t) (suc (w.stop + x.moved)), a.0)

    module _ (m : 4 ≤ length ii) where
      size_in : (u32_at ii 0 ≡ get_or (sizes z) (w.stop + x.moved) 0) × (w.stop + x.moved < length (sizes z))
      size_in = size_first z ii (w.stop + x.moved) g.listed e.ins m

      size_out : u32_at oo 0 ≡ get_or (sizes z) (w.first + x.moved) 0
      size_out = (size_first z oo (w.first + x.moved) g.listed e.outs (some_sizes m)).0

      pub moves_on : w.stop + x.moved < 1048576
      moves_on = omega (arith, size_in.1, k.agree, k.few)

      pub leaves_bytes : {out : ℕ} → out ≡ u32_at oo 0 → x.left + out ≤ x.entered
      leaves_bytes {out} q =
          let l = bytes_fit s t z k.some_scale here e.skips.slides e.skips.reaches out (q ∙ size_out) in
          omega (arith, l, e.held)

      module _ (l : 8 ≤ length hh) {into out : ℕ} (q : into ≡ u32_at ii 0) (r : out ≡ u32_at oo 0) (f : into < 4294967296)
          (u : u32_at tt 0 ≡ 1) (v : u32_at hh 0 ≡ 1) (y : x.span - x.out < s) where
        abbrev turned : EntrySlide
        turned = record {
          moved = x.moved + 1;
          out = u32_at tt 4;
          into = u32_at hh 4;
          span = x.span - x.out + x.into;
          entered = x.entered + into;
          left = x.left + out;
        }

        turned_window : window_at w turned ≡ record {
          tail = record { at = here.tail.at + 8; count = 1; each = u32_at tt 4 };
          head = record { at = here.head.at + 8; count = 1; each = u32_at hh 4 };
          first = here.first + 1;
          stop = here.stop + 1;
          span = here.span - here.tail.each + here.head.each;
          bytes = here.bytes - out + into;
        }
        turned_window =
            let a : w.tail.at + (x.moved + 1) * 8 ≡ w.tail.at + x.moved * 8 + 8 = omega arith in
            let c : w.head.at + (x.moved + 1) * 8 ≡ w.head.at + x.moved * 8 + 8 = omega arith in
            let i : w.first + (x.moved + 1) ≡ w.first + x.moved + 1 = omega arith in
            let j : w.stop + (x.moved + 1) ≡ w.stop + x.moved + 1 = omega arith in
            let n : x.entered + into - (x.left + out) ≡ x.entered - x.left - out + into = omega (arith, leaves_bytes r) in
            λ o. record {
              tail = record { at = a o; count = 1; each = u32_at tt 4 };
              head = record { at = c o; count = 1; each = u32_at hh 4 };
              first = i o;
              stop = j o;
              span = x.span - x.out + x.into;
              bytes = n o;
            }

        turned_slides : Slides s t z (window_at w turned)
        turned_slides =
            rw turned_window
            (slides_next s t z k here e.skips.slides e.skips.reaches refl refl into out (q ∙ size_in.0) (r ∙ size_out) f e.tails e.heads (some_entries l) l u v y)

        pub enters_next : rate_of (8 * b.bytes * s) b.span ≡ Some b.rate → s ≤ x.span - x.out + x.into
            → (x.entered + into - (x.left + out)) * b.span ≤ b.bytes * (x.span - x.out + x.into)
            → Enters s t z b w (drop 8 tt) (drop 8 hh) (drop 4 oo) (drop 4 ii) turned
        enters_next a c d =
            let i = w.first + (x.moved + 1) in
            let n : w.first + (x.moved + 1) ≡ w.first + x.moved + 1 = omega arith in
            let tail_at : w.tail.at + x.moved * 8 + 8 ≡ w.tail.at + (x.moved + 1) * 8 = omega arith in
            let head_at : w.head.at + x.moved * 8 + 8 ≡ w.head.at + (x.moved + 1) * 8 = omega arith in
            let out_at : (w.first + x.moved) * 4 + 4 ≡ (w.first + (x.moved + 1)) * 4 = omega arith in
            let in-at : (w.stop + x.moved) * 4 + 4 ≡ (w.stop + (x.moved + 1)) * 4 = omega arith in
            let fits = span_fits s t z k (window_at w turned) turned_slides in
            let kept = better_kept s b i (w.stop + (x.moved + 1) - i) (x.entered + into - (x.left + out)) (x.span - x.out + x.into) a (omega (arith, c, k.some_scale)) fits d in
            record {
              skips = skips_next s t z k (Some b) w here (window_at w turned) e.skips turned_slides c kept n;
              tails = ap (drop 8) e.tails ∙ drop-drop 8 (w.tail.at + x.moved * 8) t ∙ ap (λ (j : ℕ). drop j t) tail_at;
              heads = ap (drop 8) e.heads ∙ drop-drop 8 (w.head.at + x.moved * 8) t ∙ ap (λ (j : ℕ). drop j t) head_at;
              outs = ap (drop 4) e.outs ∙ drop-drop 4 ((w.first + x.moved) * 4) (drop 20 z) ∙ ap (λ (j : ℕ). drop j (drop 20 z)) out_at;
              ins = ap (drop 4) e.ins ∙ drop-drop 4 ((w.stop + x.moved) * 4) (drop 20 z) ∙ ap (λ (j : ℕ). drop j (drop 20 z)) in-at;
              held = omega (arith, leaves_bytes r);
              few = omega (arith, e.few, f);
              inside = omega (arith, l, ap length e.heads, length-drop (w.head.at + x.moved * 8) t);
            }

    pub may_stand : length t < 2 ^ 64 → MayStand w x
    may_stand l = record {
      tail = omega (arith, g.order, e.inside, l);
      head = omega (arith, e.inside, l);
      order = omega (arith, e.skips.slides.run.order);
      stop = omega (arith, e.skips.slides.few, k.few);
      held = e.held;
    }
