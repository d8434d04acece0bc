-- `quay::has_other_tracks` meets its contract. The loop's invariant: the subtypes of the tracks from i on say what all say.
-- Assumes nothing.
use native.Mathlib.Omega.{arith}
use Prim.Native.Nat.{◌-◌}
use mathlib.Core.Path.{refl, sym, ap, ◌∙◌}
use Rattle.structure.specs.Track.{subtype_of}
use Rattle.movie.proofs.Traks.{in_tracks, in_room, its_parts, trak_is}
use Rattle.quay.proofs.Others.{no_tracks, many_tracks, another_subtype, next_subtype, all_pictures}
use Rattle.quay.proofs.has_other_tracks.Goals as goal

pub returns-then-count-eq0 : goal.returns-then-count-eq0
returns-then-count-eq0 c = sym (no_tracks _ _ c.requires.count c.if-count-eq0.true)

pub returns-then-count-gt2 : goal.returns-then-count-gt2
returns-then-count-gt2 c = sym (many_tracks _ _ c.requires.count c.if-count-gt2.true)

pub loop-i-init : goal.loop-i-init
loop-i-init c = (omega arith, refl)

pub trak_at-requires : goal.trak_at-requires
trak_at-requires c = in_room _ _ _ c.requires c.loop-i.i c.loop-i-test.true

pub subtype_of-requires : goal.subtype_of-requires
subtype_of-requires c = its_parts _ _ _ c.requires c.loop-i.i c.loop-i-test.true _ c.trak_at.ensures

pub returns-then-subtype_of-ne-VIDE : goal.returns-then-subtype_of-ne-VIDE
returns-then-subtype_of-ne-VIDE c = sym (another_subtype _ _ c.requires.count _ c.loop-i.invariant.1 (in_tracks _ _ _ c.requires c.loop-i.i c.loop-i-test.true) _ (c.subtype_of.ensures ∙ ap subtype_of (trak_is _ _ _ c.requires c.loop-i.i c.loop-i-test.true _ c.trak_at.ensures).body) c.if-subtype_of-ne-VIDE.true)

pub overflow_add-i : goal.overflow_add-i
overflow_add-i c = record { fits = omega (arith, in_room _ _ _ c.requires c.loop-i.i c.loop-i-test.true) }

pub loop-i-smaller : goal.loop-i-smaller
loop-i-smaller c = omega (arith, c.loop-i-test.true)

pub loop-i-preserved : goal.loop-i-preserved
loop-i-preserved c = (omega (arith, c.loop-i-test.true), next_subtype _ _ c.requires.count _ c.loop-i.invariant.1 (in_tracks _ _ _ c.requires c.loop-i.i c.loop-i-test.true) _ (c.subtype_of.ensures ∙ ap subtype_of (trak_is _ _ _ c.requires c.loop-i.i c.loop-i-test.true _ c.trak_at.ensures).body) c.if-subtype_of-ne-VIDE.false)

pub returns : goal.returns
returns c = sym (all_pictures _ _ c.requires.count _ c.loop-i.invariant.1 c.if-count-eq0.false c.if-count-gt2.false c.loop-i-test.false)
