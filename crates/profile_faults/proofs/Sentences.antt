-- A profile is accepted exactly if it keeps the rules, and the fault of another is at the first record that breaks one.
-- Assumes nothing.
use Rattle.std.specs.Prelude.{Option, Some, None}
use Prim.Native.Nat.{ℕ, zero, suc, ◌+◌, ◌/◌, ◌%◌, ◌≤◌, ◌<◌}
use mathlib.Core.Path.{◌≡◌, refl, sym, ◌∙◌}
use mathlib.Core.Bool.{Bool, true, false, not, ◌&&◌, ◌||◌}
use mathlib.Core.List.{List, [], ◌∷◌}
use native.Mathlib.Omega.{arith}
use native.Mathlib.Decide.{ℕ_discrete}
use borrow.Author.Tests.{not-false, eq-eqb, ne_eqb, ltb-false, le-ltb}
use lib.Dec.{ltb}
use lib.ListN.{length, get_or}
use Rattle.words.specs.Words.{listed}
use Rattle.lists.proofs.Booleans.{or_left, or_right, or_neither}
use Rattle.descriptions.specs.Descriptions.{format_of}
use Rattle.features.specs.Features.{tvsz, feature_of}
use Rattle.track.specs.Track.{Track}
use Rattle.feature_checks.specs.Records.{record_code, record_value, is_universal}
use Rattle.feature_checks.specs.Features.{feature_codes, too_low, feature_fault}
use Rattle.format_checks.specs.Formats.{names_format, formats, format_values, lacks_one, is_missing, format_fault}
use Rattle.profile_faults.specs.Faults.{at_fault, fault_from, profile_fault}
use Rattle.profile_faults.specs.Sentences.{records, record_at, AtLeast, Obeys, FirstAtFault, TrueExactly}

impossible : {A : Type 0} → ◌≡◌ {A = Bool} true false → A
impossible e = let n : ◌≡◌ {A = ℕ} 0 1 = cc in absurd (omega arith)

-- ---- a value and its feature

high : (code value : ℕ) (f : Option ℕ) → too_low code value f ≡ false → AtLeast code value f
unfolding too_low
high code value None h = impossible h
high code value (Some v) h =
    record {
      feature = v;
      computed = refl;
      enough = λ n. ltb-false value v (rw (ne_eqb code tvsz n) at h);
      halves = λ q.
          let g : (ltb (value / 65536) (v / 65536) || ltb (value % 65536) (v % 65536)) ≡ false = rw (eq-eqb code tvsz q) at h in
          (ltb-false (value / 65536) (v / 65536) (or_left _ _ g), ltb-false (value % 65536) (v % 65536) (or_right (ltb (value / 65536) (v / 65536)) _ g));
    }

not_low : (code value v : ℕ) → ((code ≡ tvsz → ⊥) → v ≤ value) → (code ≡ tvsz → (v / 65536 ≤ value / 65536) × (v % 65536 ≤ value % 65536))
    → too_low code value (Some v) ≡ false
unfolding too_low
not_low code value v a b = elim (ℕ_discrete code tvsz) [
  | yes q ↦ rw (eq-eqb code tvsz q) (or_neither _ _ (le-ltb (value / 65536) (v / 65536) (b q).0) (le-ltb (value % 65536) (v % 65536) (b q).1))
  | no n ↦ rw (ne_eqb code tvsz n) (le-ltb value v (a n))
]

reached : (code value : ℕ) (f : Option ℕ) → AtLeast code value f → too_low code value f ≡ false
reached code value f a = rw a.computed (not_low code value a.feature a.enough a.halves)

-- ---- no format is missing

lacks_none : (vs : List ℕ) (ds : List (List ℕ)) → ((j : ℕ) → j < length ds → listed (format_of (get_or ds j [])) vs ≡ true) → lacks_one vs (formats ds) ≡ false
unfolding lacks_one
lacks_none vs [] h = refl
lacks_none vs (d ∷ ds) h = or_neither (not (listed (format_of d) vs)) (lacks_one vs (formats ds)) (rw (h 0 (omega arith))) (lacks_none vs ds (λ j g. h (suc j) (omega arith)))

lacks_all : (vs : List ℕ) (ds : List (List ℕ)) → lacks_one vs (formats ds) ≡ false → (j : ℕ) → j < length ds → listed (format_of (get_or ds j [])) vs ≡ true
unfolding lacks_one
lacks_all vs [] h j g = absurd (omega arith)
lacks_all vs (d ∷ ds) h zero g = not-false _ (or_left _ _ h)
lacks_all vs (d ∷ ds) h (suc j) g = lacks_all vs ds (or_right (not (listed (format_of d) vs)) _ h) j (omega arith)

module _ (movie : ℕ) (t : Track) where
  -- ---- a record is not at fault exactly if it obeys the rules

  high_feature : (e : List ℕ) → feature_fault movie t e ≡ false → is_universal e ≡ true → listed (record_code e) feature_codes ≡ true
      → AtLeast (record_code e) (record_value e) (feature_of movie t (record_code e))
  unfolding feature_fault
  high_feature e h u l = high _ _ _ (rw (u, l) at h)

  reached_feature : (e : List ℕ)
      → (is_universal e ≡ true → listed (record_code e) feature_codes ≡ true → AtLeast (record_code e) (record_value e) (feature_of movie t (record_code e)))
      → feature_fault movie t e ≡ false
  unfolding feature_fault
  reached_feature e h = by (is_universal e) (listed (record_code e) feature_codes) refl refl
    where
      by : (a b : Bool) → is_universal e ≡ a → listed (record_code e) feature_codes ≡ b
          → (is_universal e && (listed (record_code e) feature_codes && too_low (record_code e) (record_value e) (feature_of movie t (record_code e)))) ≡ false
      by false b p q = rw p
      by true false p q = rw (p, q)
      by true true p q = rw (p, q) (reached _ _ _ (h p q))

  clear_format : (missing : Bool) (e : List ℕ) → at_fault movie t missing e ≡ false → names_format t.subtype e ≡ true
      → (missing || not (listed (record_value e) (formats t.descriptions))) ≡ false
  unfolding at_fault format_fault
  clear_format missing e h f = rw f at (or_right (feature_fault movie t e) _ h)

  clear_feature : (missing : Bool) (e : List ℕ) → at_fault movie t missing e ≡ false → feature_fault movie t e ≡ false
  unfolding at_fault
  clear_feature missing e h = or_left _ _ h

  obeyed_clear : (missing : Bool) (e : List ℕ) → feature_fault movie t e ≡ false
      → (names_format t.subtype e ≡ true → (missing ≡ false) × (listed (record_value e) (formats t.descriptions) ≡ true)) → at_fault movie t missing e ≡ false
  unfolding at_fault format_fault
  obeyed_clear missing e h f = rw h (by (names_format t.subtype e) refl)
    where
      by : (b : Bool) → names_format t.subtype e ≡ b → (names_format t.subtype e && (missing || not (listed (record_value e) (formats t.descriptions)))) ≡ false
      by false q = rw q
      by true q = let g = f q in rw (q, g.0, g.1)

  none_missing : ((j : ℕ) → j < length t.descriptions → listed (format_of (get_or t.descriptions j [])) (format_values t.subtype (records t)) ≡ true)
      → is_missing t ≡ false
  unfolding is_missing
  none_missing h = lacks_none _ t.descriptions h

  all_named : is_missing t ≡ false → (j : ℕ) → j < length t.descriptions
      → listed (format_of (get_or t.descriptions j [])) (format_values t.subtype (records t)) ≡ true
  unfolding is_missing
  all_named h = lacks_all _ t.descriptions h

  clear_obeys : (e : List ℕ) → at_fault movie t (is_missing t) e ≡ false → Obeys movie t e
  clear_obeys e h =
      record {
        enough = high_feature e (clear_feature _ e h);
        named = λ f. not-false _ (or_right (is_missing t) _ (clear_format _ e h f));
        complete = λ f. all_named (or_left _ _ (clear_format _ e h f));
      }

  obeys_clear : (e : List ℕ) → Obeys movie t e → at_fault movie t (is_missing t) e ≡ false
  obeys_clear e o = obeyed_clear _ e (reached_feature e o.enough) (λ f. (none_missing (o.complete f), o.named f))

  -- ---- the walk, and the record at each index

  abbrev Clear : Bool → List (List ℕ) → ℕ → Type 0
  Clear missing es i = at_fault movie t missing (get_or es i []) ≡ false

  clear_next : (missing : Bool) (e : List ℕ) (es : List (List ℕ)) → at_fault movie t missing e ≡ false → (i n : ℕ) → i < suc n
      → ((j : ℕ) → j < n → Clear missing es j) → Clear missing (e ∷ es) i
  clear_next missing e es q zero n g r = q
  clear_next missing e es q (suc j) n g r = r j (omega arith)

  -- no record is at fault
  fault_clear : (missing : Bool) (k : ℕ) (es : List (List ℕ)) → fault_from movie t missing (suc k) es ≡ 0 → (i : ℕ) → i < length es → Clear missing es i
  unfolding fault_from
  fault_clear missing k [] h i g = absurd (omega arith)
  fault_clear missing k (e ∷ es) h i g = by (at_fault movie t missing e) refl (λ l j m. fault_clear missing (suc k) es l j m)
    where
      by : (b : Bool) → at_fault movie t missing e ≡ b → (fault_from movie t missing (suc (suc k)) es ≡ 0 → (j : ℕ) → j < length es → Clear missing es j)
          → Clear missing (e ∷ es) i
      by true q r = let z : suc k ≡ 0 = rw q at h in absurd (omega arith)
      by false q r = clear_next missing e es q i (length es) (omega arith) (λ j m. r (rw q at h) j m)

  clear_fault : (missing : Bool) (k : ℕ) (es : List (List ℕ)) → ((i : ℕ) → i < length es → Clear missing es i) → fault_from movie t missing k es ≡ 0
  unfolding fault_from
  clear_fault missing k [] h = refl
  clear_fault missing k (e ∷ es) h = rw (h 0 (omega arith)) (clear_fault missing (suc k) es (λ j g. h (suc j) (omega arith)))

  -- one is
  record First (missing : Bool) (k p : ℕ) (es : List (List ℕ)) : Type 0 where
    index : ℕ
    place : k + index ≡ p
    within : index < length es
    here : at_fault movie t missing (get_or es index []) ≡ true
    before : (j : ℕ) → j < index → Clear missing es j

  fault_first : (missing : Bool) (k p : ℕ) (es : List (List ℕ)) → fault_from movie t missing k es ≡ p → (p ≡ 0 → ⊥) → First missing k p es
  unfolding fault_from
  fault_first missing k p [] h n = absurd (n (sym h))
  fault_first missing k p (e ∷ es) h n = by (at_fault movie t missing e) refl (λ l. fault_first missing (suc k) p es l n)
    where
      by : (b : Bool) → at_fault movie t missing e ≡ b → (fault_from movie t missing (suc k) es ≡ p → First missing (suc k) p es) → First missing k p (e ∷ es)
      by true q r =
          let z : k ≡ p = rw q at h in
          record { index = 0; place = omega arith; within = omega arith; here = q; before = λ j g. absurd (omega arith) }
      by false q r =
          let f = r (rw q at h) in
          record {
            index = suc f.index;
            place = omega (arith, f.place);
            within = omega (arith, f.within);
            here = f.here;
            before = λ j g. clear_next missing e es q j f.index (omega arith) f.before;
          }

  -- ---- the profile

  first_at_fault : (i : ℕ) → First (is_missing t) 1 (suc i) (records t) → FirstAtFault movie t i
  first_at_fault i f =
      let q : f.index ≡ i = omega (arith, f.place) in
      record {
        within = rw q at f.within;
        breaks = λ o. impossible (sym (rw q at f.here) ∙ obeys_clear (record_at t i) o);
        before = λ j g. clear_obeys (record_at t j) (f.before j (omega arith));
      }

  pub true_exactly : TrueExactly movie t
  unfolding profile_fault
  true_exactly =
      record {
        accepted = λ k. clear_fault (is_missing t) 1 (records t) (λ i g. obeys_clear (record_at t i) (k i g));
        keeps = λ z i g. clear_obeys (record_at t i) (fault_clear (is_missing t) 0 (records t) z i g);
        first = λ i e. first_at_fault i (fault_first (is_missing t) 1 (suc i) (records t) e (λ n. omega arith));
      }
