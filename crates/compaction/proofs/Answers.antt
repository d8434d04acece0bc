-- The answers of compaction, from what the code has of the refusal and the moov.
-- Assumes nothing.
use Prim.Native.Nat.{ℕ, ◌+◌, ◌≤◌, ◌<◌}
use mathlib.Core.Path.{◌≡◌, refl, sym, ap, ◌∙◌}
use mathlib.Core.List.{List, ◌++◌}
use native.Mathlib.Omega.{arith}
use native.Mathlib.Nat.{zero-add}
use borrow.Author.Tests.{eq-eqb, ne_eqb, lt-ltb, le-ltb}
use lib.ListN.{length, take, drop, length-append, length-drop}
use lib.Seq.{sets, sets-eq, length-take-le, take-length}
use Rattle.atoms.specs.Kinds.{file, moov}
use Rattle.atoms.specs.Atoms.{header_of, body_of, atoms, child_in}
use Rattle.places.specs.Places.{part_in}
use Rattle.places.specs.declared.Part.{Part}
use Rattle.structure.specs.declared.source.Source.{Source}
use Rattle.structure.specs.Rows.{or_else}
use Rattle.structure.specs.Movie.{moov_of}
use Rattle.movie.specs.Refusals.{film_refusal}
use Rattle.movie.specs.Rooms.{no_room, filled_room, refused_with}
use Rattle.movie.proofs.Answers.{puts_err, puts_answer}
use Rattle.movie.proofs.Refused.{or_err}
use Rattle.compact_tree.specs.Tree.{compact_body}
use Rattle.byte_writing.proofs.Writing.{two_writes}
use Rattle.compact_laws.proofs.Bodies.{atoms_headed, body_length}
use Rattle.compact_laws.proofs.Children.{kind_headed}
use Rattle.compact_laws.proofs.Sound.{film, sound, sound_moov}
use Rattle.compaction.specs.Compaction.{compact_moov, compact_refusal, compact_asked, compact_numbers, Compacts}
use Rattle.std.specs.Prelude.{Ok, Err}
use Rattle.refusals.specs.Refusals.{number}
use Rattle.refusals.specs.declared.Refusal.{Refusal}
use Rattle.refusals.specs.declared.Refusal.TheVariants.{NoRoom}

all_bytes : (x room : List ℕ) → length x ≤ length room → sets room 0 x ≡ x ++ drop (length x) room
all_bytes x room h = rw (zero-add) at (sets-eq x room 0 (omega (arith, h)))

whole_part : (s : List ℕ) (n : ℕ) → n ≡ length s → part_in s (record { at = 0; len = n }) ≡ s
unfolding part_in
whole_part s n l = rw l (take-length s)

-- the moov as a part of the input
pub moov_part : (s a : List ℕ) (n : ℕ) (p : Part) → n ≡ length s → a ≡ part_in s p → part_in s p ≡ child_in file moov 0 (part_in s (record { at = 0; len = n })) → a ≡ child_in file moov 0 s
moov_part s a n p l e f = e ∙ f ∙ ap (child_in file moov 0) (whole_part s n l)

answered : (s : List ℕ) (w : Source) (room : List ℕ) (e : Refusal) → compact_refusal s w room ≡ number e → Compacts s w room (Err e) room
unfolding compact_numbers
answered s w room e h = puts_err compact_numbers (refused_with 1) (λ k. refl) (compact_asked s) (compact_moov s) room (compact_refusal s w room) e h

pub refused_film : (s : List ℕ) (w : Source) (room : List ℕ) (e : Refusal) → film_refusal s w ≡ number e → Compacts s w room (Err e) room
unfolding compact_refusal
refused_film s w room e h = answered s w room e (or_err (film_refusal s w) _ e h)

module _ (s : List ℕ) (w : Source) (room : List ℕ) (clear : film_refusal s w ≡ 0) where
  abbrev atom : List ℕ
  atom = child_in file moov 0 s

  headed : (header_of (child_in file moov 0 s) ≤ length (child_in file moov 0 s)) × (length (child_in file moov 0 s) < 4294967296)
  headed = kind_headed moov (atoms file s) (atoms_headed file s (sound s w clear).low) 0 (omega (arith, (film s w clear).shape.moov_once))

  body_same : length (compact_body 5 moov (body_of (child_in file moov 0 s))) ≡ length (body_of (child_in file moov 0 s))
  unfolding moov_of
  body_same = body_length w.alone 5 moov (moov_of s) (sound_moov s w clear)

  pub body_low : length (body_of (child_in file moov 0 s)) < 4294967296
  unfolding body_of
  body_low = omega (arith, headed.1, length-drop (header_of atom) atom)

  -- "lent room of its own length"
  pub same_length : length (compact_moov s) ≡ length (child_in file moov 0 s)
  unfolding compact_moov body_of
  same_length =
      let l = length-take-le (header_of atom) atom headed.0 in
      omega (arith, length-append (take (header_of atom) atom) (compact_body 5 moov (body_of atom)), l, body_same, length-drop (header_of atom) atom, headed.0)

  then_room : compact_refusal s w room ≡ no_room (compact_moov s) room
  unfolding compact_refusal or_else
  then_room = rw clear

  pub short_room : length room < length (child_in file moov 0 s) → Compacts s w room (Err NoRoom) room
  unfolding no_room
  short_room h = answered s w room NoRoom (then_room ∙ rw (lt-ltb (length room) (length (compact_moov s)) (omega (arith, h, same_length))))

  -- the room holds the header, and then the body
  pub parts_fit : length (child_in file moov 0 s) ≤ length room
      → (length (take (header_of (child_in file moov 0 s)) (child_in file moov 0 s)) ≤ length room)
      × (length (take (header_of (child_in file moov 0 s)) (child_in file moov 0 s)) + length (compact_body 5 moov (body_of (child_in file moov 0 s))) ≤ length room)
  unfolding compact_moov
  parts_fit h =
      let a = length-append (take (header_of atom) atom) (compact_body 5 moov (body_of atom)) in
      (omega (arith, a, same_length, h), omega (arith, a, same_length, h))

  pub written : length (child_in file moov 0 s) ≤ length room → (at end : ℕ) (out after : List ℕ)
      → at ≡ 0 + length (take (header_of (child_in file moov 0 s)) (child_in file moov 0 s)) → out ≡ sets room 0 (take (header_of (child_in file moov 0 s)) (child_in file moov 0 s))
      → end ≡ at + length (compact_body 5 moov (body_of (child_in file moov 0 s))) → after ≡ sets out at (compact_body 5 moov (body_of (child_in file moov 0 s)))
      → Compacts s w room (Ok end) after
  unfolding no_room compact_numbers filled_room compact_moov
  written h at end out after a b c d =
      let q = two_writes (take (header_of atom) atom) (compact_body 5 moov (body_of atom)) room out after 0 at end a b c d in
      let g : length (compact_moov s) ≤ length room = omega (arith, same_length, h) in
      puts_answer compact_numbers (refused_with 1) (λ i. refl) (compact_asked s) (compact_moov s) room (compact_refusal s w room) _ after
      (then_room ∙ rw (le-ltb (length room) (length (compact_moov s)) g))
      (ap Ok (q.0 ∙ zero-add _))
      (q.1 ∙ all_bytes (take (header_of atom) atom ++ compact_body 5 moov (body_of atom)) room g)
