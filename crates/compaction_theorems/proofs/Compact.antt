-- The claims about a compact film.
-- Assumes nothing.
use Prim.Native.Nat.{ℕ, zero, suc, ◌+◌, ◌<◌}
use mathlib.Core.Path.{◌≡◌, refl, sym, ap, ◌∙◌}
use mathlib.Core.List.{List, [], ◌∷◌, ◌++◌, map}
use native.Mathlib.Omega.{arith}
use lib.ListN.{length, take, drop, get_or, length-map, length-take, length-drop}
use Rattle.atoms.specs.Kinds.{file}
use Rattle.atoms.specs.Atoms.{atoms}
use Rattle.structure.specs.declared.source.Source.{Source}
use Rattle.structure.specs.Source.{whole_file, moov_alone, strictly}
use Rattle.structure.specs.Track.{stbl_of}
use Rattle.structure.specs.Movie.{moov_of, tracks_of}
use Rattle.movie.specs.Refusals.{film_refusal}
use Rattle.top_level.specs.declared.Next.TheVariants.{Found}
use Rattle.top_level.specs.TopLevel.{walked, moov_place}
use Rattle.top_level.proofs.Walking.{finds}
use Rattle.questions.specs.Samples.{sample_answer, bytes_start, bytes_length, sample_bytes}
use Rattle.compact_laws.proofs.Sound.{sound}
use Rattle.compact_laws.proofs.Twice.{body_twice}
use Rattle.compaction.specs.Compaction.{compact_film, compact_moov, compact_refusal}
use Rattle.ways.specs.Ways.{moov_atom}
use Rattle.ways.specs.Agree.{SameAnswers}
use Rattle.ways.proofs.Answers.{SameFilm, strict_film, same_answers}
use Rattle.compaction_theorems.specs.Compact.{with_moov, InPlace, ByMoov, SameCompaction, SameAfter, FewestIn, trak_at, Fewest, Twice, Freed, Stbl, Outside}
use Rattle.compaction_theorems.proofs.Track as track
use Rattle.compaction_theorems.proofs.Movie.{tracks_compact}
use Rattle.compaction_theorems.proofs.Refusals.{rights}
use Rattle.compaction_theorems.proofs.Film.{lengths, film_same, alone_atom, same_film}
use Rattle.compaction_theorems.proofs.Place.{moov_written, in_place, alone_written}
use Rattle.compaction_theorems.proofs.Walk.{found, found_at, moov_length, walk_same, part_same, outside_same}
use Rattle.compaction_theorems.proofs.Large.{moov_same, after_long, after_moov, after_walk}
use Rattle.compaction_theorems.proofs.Counts.{count_no_more}
use Rattle.compaction_theorems.proofs.Tables.{fewest_in, freed}
use Rattle.compaction_theorems.proofs.Steps.{same_steps}

-- ---- the moov in its place

module _ (s : List ℕ) (w : Source) (e : film_refusal s w ≡ 0) where
  placed : (at size : ℕ) → walked s ≡ Found at size → compact_film s ≡ take at s ++ (compact_moov s ++ drop (at + size) s)
  unfolding compact_film
  placed at size f = let q = found_at s at size f in rw (q.0, q.1) (in_place s w e)

  written : moov_atom (compact_film s) ≡ compact_moov s
  unfolding compact_film
  written = moov_written s w e

  still : film_refusal (compact_film s) w ≡ 0
  unfolding compact_film
  still = film_same s w e ∙ e

  twice : compact_film (compact_film s) ≡ compact_film s
  unfolding compact_film
  twice = body_twice w.alone 6 file s (sound s w e)

pub in_place_film : (s : List ℕ) (w : Source) → InPlace s w
unfolding compact_film
in_place_film s w = record {
  as_long = moov_length s w;
  found = λ e. (moov_place (atoms file s), found s w e);
  place = λ at size e f. ((found_at s at size f).1, placed s w e at size f);
  alone = λ e a. alone_written s w e (alone_atom s w e a);
  moov = written s w;
}

pub twice_once : (s : List ℕ) (w : Source) → Twice s w
twice_once s w = record {
  film = twice s w;
  moov = λ e. sym (written (compact_film s) w (still s w e)) ∙ ap moov_atom (twice s w e) ∙ written s w e;
}

-- ---- the same answers

film_after : (s : List ℕ) (w : Source) → film_refusal s w ≡ 0 → SameFilm s (compact_film s) w w
unfolding compact_film
film_after s w e = same_film s w e

again_after : (s : List ℕ) (w v : Source) → film_refusal s w ≡ 0 → film_refusal (compact_film s) v ≡ film_refusal s v → SameCompaction s v (compact_film s) v
unfolding compact_refusal
again_after s w v e h room = let m = (twice_once s w).moov e in (rw (h, m) refl, rw (h, m) refl)

module _ (s : List ℕ) (e : film_refusal s whole_file ≡ 0) (id n : ℕ) where
  start : ℕ
  start = bytes_start (sample_answer s whole_file id n)

  bytes_after : sample_bytes (compact_film s) id n ≡ take (bytes_length (sample_answer s whole_file id n)) (drop (bytes_start (sample_answer s whole_file id n)) (compact_film s))
  unfolding sample_bytes
  bytes_after = rw ((same_answers s (compact_film s) whole_file whole_file (film_after s whole_file e)).sample id n)

  many_after : length (sample_bytes (compact_film s) id n) ≡ length (sample_bytes s id n)
  unfolding sample_bytes compact_film
  many_after =
      let a = sample_answer s whole_file id n in
      ap length bytes_after
      ∙ rw (length-take (bytes_length a) (drop (bytes_start a) (compact_film s)), length-take (bytes_length a) (drop (bytes_start a) s), length-drop (bytes_start a) (compact_film s), length-drop (bytes_start a) s, lengths s whole_file e)

  byte_after : (at size i : ℕ) → walked s ≡ Found at size → Outside at size (bytes_start (sample_answer s whole_file id n) + i)
      → get_or (sample_bytes (compact_film s) id n) i 0 ≡ get_or (sample_bytes s id n) i 0
  unfolding sample_bytes
  byte_after at size i f o =
      let a = sample_answer s whole_file id n in
      ap (λ x. get_or x i 0) bytes_after
      ∙ part_same (compact_film s) s (bytes_start a) (bytes_length a) i (λ g.
      rw (placed s whole_file e at size f)
      (outside_same s (compact_moov s) at size ((finds s).inside at size f) (moov_length s whole_file e ∙ sym (found_at s at size f).1) (bytes_start a + i) o))

pub same_after : (s : List ℕ) (w : Source) → SameAfter s w
unfolding compact_film
same_after s w = record {
  default = λ e. same_answers s (compact_film s) w w (film_after s w e);
  strict = λ e. same_answers s (compact_film s) (strictly w) (strictly w) (strict_film s (compact_film s) w w (film_after s w e));
  steps = λ e. same_steps s (compact_film s) w w (film_after s w e);
  strict_steps = λ e. same_steps s (compact_film s) (strictly w) (strictly w) (strict_film s (compact_film s) w w (film_after s w e));
  again = λ e. again_after s w w e (film_after s w e).refusal;
  strict_again = λ e. again_after s w (strictly w) e (film_after s w e).strict;
  count = λ id t e. count_no_more s w e id t;
  walk = walk_same s w;
  many = λ id n e. many_after s e id n;
  bytes = λ at size id n i e f o. byte_after s e id n at size i f o;
}

-- ---- a file of any length, by its moov alone

module _ (s : List ℕ) (at size : ℕ) (f : walked s ≡ Found at size) (e : film_refusal (moov_atom s) (moov_alone (length s)) ≡ 0) where
  moov_after : compact_film (moov_atom s) ≡ moov_atom (with_moov s at size (compact_moov s))
  moov_after = (in_place_film (moov_atom s) (moov_alone (length s))).alone e refl ∙ moov_same s at size f ∙ sym (after_moov s at size f e)

  default_after : SameAnswers (moov_atom s) (moov_alone (length s)) (moov_atom (with_moov s at size (compact_moov s))) (moov_alone (length (with_moov s at size (compact_moov s))))
  default_after = rw (after_long s at size f e) (rw moov_after at ((same_after (moov_atom s) (moov_alone (length s))).default e))

  strict_after : SameAnswers (moov_atom s) (strictly (moov_alone (length s))) (moov_atom (with_moov s at size (compact_moov s))) (strictly (moov_alone (length (with_moov s at size (compact_moov s)))))
  strict_after = rw (after_long s at size f e) (rw moov_after at ((same_after (moov_atom s) (moov_alone (length s))).strict e))

pub by_moov : (s : List ℕ) (at size : ℕ) → ByMoov s at size
by_moov s at size = record {
  same = moov_same s at size;
  long = after_long s at size;
  walk = after_walk s at size;
  moov = after_moov s at size;
  default = default_after s at size;
  strict = strict_after s at size;
}

-- ---- each track

at_map : (f : List ℕ → List ℕ) (l : List (List ℕ)) (i : ℕ) → i < length l → get_or (map f l) i [] ≡ f (get_or l i [])
at_map f [] i h = absurd (omega arith)
at_map f (a ∷ l) zero h = refl
at_map f (a ∷ l) (suc i) h = at_map f l i (omega arith)

module _ (s : List ℕ) (w : Source) (e : film_refusal s w ≡ 0) where
  tracks_after : tracks_of (moov_of (compact_film s)) ≡ map track.compact_trak (tracks_of (moov_of s))
  unfolding compact_film track.compact_trak
  tracks_after = tracks_compact s w e

  module _ (i : ℕ) (g : i < length (tracks_of (moov_of s))) where
    trak_after : trak_at (compact_film s) i ≡ track.compact_trak (trak_at s i)
    trak_after = ap (λ l. get_or l i []) tracks_after ∙ at_map track.compact_trak (tracks_of (moov_of s)) i g

    fewest_here : FewestIn (trak_at s i) (trak_at (compact_film s) i)
    fewest_here = rw trak_after (fewest_in w.alone (trak_at s i) (rights s w e i g))

    freed_here : Freed (stbl_of (trak_at s i)) (stbl_of (trak_at (compact_film s) i))
    freed_here =
        let r = (rights s w e i g).whole in
        rw (trak_after, track.stbl_compact w.alone (trak_at s i) r) (freed w.alone (stbl_of (trak_at s i)) (track.sound_stbl w.alone (trak_at s i) r))

pub fewest : (s : List ℕ) (w : Source) → Fewest s w
fewest s w = record {
  tracks = λ e. ap length (tracks_after s w e) ∙ length-map (tracks_of (moov_of s)) track.compact_trak;
  each = λ i e g. fewest_here s w e i g;
}

pub stbl_freed : (s : List ℕ) (w : Source) → Stbl s w
stbl_freed s w = record { each = λ i e g. freed_here s w e i g }
