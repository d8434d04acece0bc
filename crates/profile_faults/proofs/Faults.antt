-- The first record at fault, record after record: what a walk learns at a place s of the profile.
-- Assumes nothing.
use Prim.Native.Nat.{ℕ, ◌+◌, ◌≤◌, ◌<◌}
use mathlib.Core.Path.{◌≡◌, sym, ◌∙◌}
use mathlib.Core.Bool.{Bool, true, false}
use mathlib.Core.List.{List}
use native.Mathlib.Omega.{arith}
use native.Mathlib.Numerals.{add-one}
use lib.Dec.{lit≤}
use lib.ListN.{length, take, drop, length-take, length-drop}
use Rattle.bigendian.specs.BigEndian.{u32_at}
use Rattle.bigendian.proofs.Laws.{be_at_take}
use Rattle.lists.proofs.Booleans.{or_second, or_neither}
use Rattle.structure.specs.Track.{profile_of}
use Rattle.places.specs.Places.{part_in}
use Rattle.places.specs.declared.Part.{Part}
use Rattle.track.specs.Track.{Track, track_of}
use Rattle.profiles.specs.Profiles.{kept_in}
use Rattle.profiles.proofs.Kept.{kept-in, kept_none, kept_here, kept_next}
use Rattle.feature_checks.specs.Records.{is_universal}
use Rattle.feature_checks.specs.Features.{feature_fault}
use Rattle.feature_checks.specs.Bounds.{AreBounds, Judges}
use Rattle.feature_checks.specs.declared.Bounds.{Bounds}
use Rattle.feature_checks.specs.declared.Judged.{Judged}
use Rattle.format_checks.specs.Formats.{is_missing, format_fault}
use Rattle.format_checks.proofs.Formats.{format_taken}
use Rattle.profile_faults.specs.Faults.{at_fault, fault_from, profile_fault}

-- ---- a record

-- by its own bytes
fault_taken : (movie : ℕ) (t : Track) (missing : Bool) (s : List ℕ) → at_fault movie t missing (take 16 s) ≡ at_fault movie t missing s
unfolding at_fault feature_fault format_fault is_universal
fault_taken movie t missing s = rw (format_taken t.subtype s, be_at_take 4 16 s 4 (lit≤ tt), be_at_take 4 16 s 8 (lit≤ tt), be_at_take 4 16 s 12 (lit≤ tt))

module _ (movie : ℕ) (t : Track) (missing : Bool) (e : List ℕ) where
  pub format_at_fault : format_fault t missing e ≡ true → at_fault movie t missing e ≡ true
  unfolding at_fault
  format_at_fault h = or_second (feature_fault movie t e) _ h

  pub feature_at_fault : feature_fault movie t e ≡ true → at_fault movie t missing e ≡ true
  unfolding at_fault
  feature_at_fault h = rw h

  pub not_at_fault : feature_fault movie t e ≡ false → format_fault t missing e ≡ false → at_fault movie t missing e ≡ false
  unfolding at_fault
  not_at_fault h g = or_neither _ _ h g

-- ---- the records from a place s on

module _ (movie : ℕ) (t : Track) (missing : Bool) (k : ℕ) (s : List ℕ) where
  pub fault_none : length s < 16 → fault_from movie t missing k (kept_in s) ≡ 0
  unfolding fault_from
  fault_none h = rw (kept_none s h)

  module _ (c : ℕ) (h : 16 ≤ length s) (e : c ≡ u32_at s 8) where
    pub fault_skip : c ≡ 0 → fault_from movie t missing k (kept_in s) ≡ fault_from movie t missing k (kept_in (drop 16 s))
    fault_skip z = rw (kept_next s c h e z)

    pub fault_here : (c ≡ 0 → ⊥) → at_fault movie t missing s ≡ true → fault_from movie t missing k (kept_in s) ≡ k
    unfolding fault_from
    fault_here n f = rw (kept_here s c h e n, fault_taken movie t missing s, f)

    pub fault_next : (c ≡ 0 → ⊥) → at_fault movie t missing s ≡ false → fault_from movie t missing k (kept_in s) ≡ fault_from movie t missing (k + 1) (kept_in (drop 16 s))
    unfolding fault_from
    fault_next n f =
        let g = fault_taken movie t missing s ∙ f in
        rw (kept_here s c h e n, g, add-one k)

-- ---- the walk

-- the records passed are not at fault, so the rest decides; b is the body of the trak
pub record Passed (movie : ℕ) (b : List ℕ) (missing : Bool) (bounds : Bounds) (s : List ℕ) (place : ℕ) : Type 0 where
  pub known : AreBounds movie (track_of b) bounds
  pub within : place + length s ≤ length b + 1
  pub rest : fault_from movie (track_of b) missing place (kept_in s) ≡ profile_fault movie (track_of b)

part_short : (s : List ℕ) (p : Part) → length (part_in s p) ≤ length s
unfolding part_in
part_short s p = simp (length-take, length-drop) (omega arith)

pub passed_none : (movie : ℕ) (b : List ℕ) (p : Part) (missing : Bool) (bounds : Bounds) (s : List ℕ) → AreBounds movie (track_of b) bounds → missing ≡ is_missing (track_of b)
    → part_in b p ≡ profile_of b → s ≡ drop 16 (part_in b p) → Passed movie b missing bounds s 1
unfolding profile_fault track_of
passed_none movie b p missing bounds s a m q e =
    record {
      known = a;
      within = rw e (omega (arith, length-drop 16 (part_in b p), part_short b p));
      rest = rw (m, e, ← kept-in (part_in b p), q);
    }

module _ (movie : ℕ) (b : List ℕ) (missing : Bool) (bounds : Bounds) (s : List ℕ) (place : ℕ) (p : Passed movie b missing bounds s place) where
  pub passed_all : length s < 16 → 0 ≡ profile_fault movie (track_of b)
  passed_all h = sym (fault_none movie (track_of b) missing place s h) ∙ p.rest

  -- the record at s
  module _ (c : ℕ) (h : 16 ≤ length s) (e : c ≡ u32_at s 8) where
    pub passed_skip : c ≡ 0 → Passed movie b missing bounds (drop 16 s) place
    passed_skip z =
        record { known = p.known; within = omega (arith, p.within, length-drop 16 s); rest = sym (fault_skip movie (track_of b) missing place s c h e z) ∙ p.rest }

    module _ (n : c ≡ 0 → ⊥) where
      pub found_format : format_fault (track_of b) missing s ≡ true → place ≡ profile_fault movie (track_of b)
      found_format f = sym (fault_here movie (track_of b) missing place s c h e n (format_at_fault movie (track_of b) missing s f)) ∙ p.rest

      module _ (j : Judged) (d : Judges movie (track_of b) s j) where
        pub found_feature : j.fault ≡ true → place ≡ profile_fault movie (track_of b)
        found_feature f = sym (fault_here movie (track_of b) missing place s c h e n (feature_at_fault movie (track_of b) missing s (sym d.fault ∙ f))) ∙ p.rest

        pub passed_one : format_fault (track_of b) missing s ≡ false → j.fault ≡ false → Passed movie b missing j.bounds (drop 16 s) (place + 1)
        passed_one f g =
            record {
              known = d.bounds;
              within = omega (arith, p.within, length-drop 16 s);
              rest = sym (fault_next movie (track_of b) missing place s c h e n (not_at_fault movie (track_of b) missing s (sym d.fault ∙ g) f)) ∙ p.rest;
            }
