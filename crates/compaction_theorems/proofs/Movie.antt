-- The tracks of a film that is not refused: each is sound, and the tracks of the compact film are these, compact.
-- Assumes nothing.
use Prim.Native.Nat.{ℕ}
use mathlib.Core.Path.{◌≡◌, refl, ap, ◌∙◌}
use mathlib.Core.List.{List, [], ◌∷◌, map}
use mathlib.Core.Bool.{Bool, true, false, cond}
use native.Mathlib.Omega.{arith}
use lib.Dec.{eqb}
use borrow.Author.Tests.{eqb-true}
use Rattle.bigendian.specs.BigEndian.{u32_at}
use Rattle.lists.specs.Lists.{sum}
use Rattle.atoms.specs.Kinds.{file, moov, trak, stbl, stts, stsc, container}
use Rattle.atoms.specs.Atoms.{kind_of, body_of, atoms, of_kind, count_in, child_in}
use Rattle.atoms.specs.Tree.{all}
use Rattle.atoms.proofs.Into.{all_kind}
use Rattle.structure.specs.declared.source.Source.{Source}
use Rattle.structure.specs.Track.{stbl_of, table_of}
use Rattle.structure.specs.Movie.{moov_of, tracks_of}
use Rattle.track.specs.Refusals.{total_in}
use Rattle.movie.specs.Refusals.{film_refusal}
use Rattle.movie.proofs.Accepted.{Accepted}
use Rattle.compact_tree.specs.Tree.{compact_body}
use Rattle.compact_tree.proofs.Putting.{compact_atom}
use Rattle.compact_laws.proofs.Rewritten as rewritten
use Rattle.compact_laws.proofs.Bodies.{Headed, Sound, atoms_headed, body_atoms}
use Rattle.compact_laws.proofs.Children.{kind_kept, body_kept}
use Rattle.compact_laws.proofs.Sound.{sound_moov, moov_closed}
use Rattle.compaction_theorems.proofs.Track as track
use Rattle.ways.proofs.Answers.{SameTrack}

-- ---- the tracks

bodies : (n p k : ℕ) → container p k ≡ true → (l : List (List ℕ)) → rewritten.Each Headed l
    → map body_of (of_kind k (map (compact_atom n p) l)) ≡ map (compact_body n k) (map body_of (of_kind k l))
unfolding of_kind
bodies n p k c [] h = refl
bodies n p k c (a ∷ l) h = rw (kind_kept n p a h.0.0) (go (eqb (kind_of a) k) refl (bodies n p k c l h.1))
  where
    go : (b : Bool) → eqb (kind_of a) k ≡ b → map body_of (of_kind k (map (compact_atom n p) l)) ≡ map (compact_body n k) (map body_of (of_kind k l))
        → map body_of (cond b (compact_atom n p a ∷ of_kind k (map (compact_atom n p) l)) (of_kind k (map (compact_atom n p) l))) ≡ map (compact_body n k) (map body_of (cond b (a ∷ of_kind k l) (of_kind k l)))
    go true e ih =
        let q = eqb-true (kind_of a) k e in
        let z : body_of (compact_atom n p a) ≡ compact_body n k (body_of a) = body_kept n p a h.0.0 (ap (container p) q ∙ c) ∙ ap (λ (j : ℕ). compact_body n j (body_of a)) q in
        ap (λ x. x ∷ map body_of (of_kind k (map (compact_atom n p) l))) z ∙ ap (λ l. compact_body n k (body_of a) ∷ l) ih
    go false e ih = ih

all_true : (l : List (List ℕ)) → all (λ a. true) l ≡ true
unfolding all
all_true [] = refl
all_true (a ∷ l) = all_true l

pub kind_is : (p k : ℕ) (s : List ℕ) → count_in p k s ≡ 1 → kind_of (child_in p k 0 s) ≡ k
kind_is p k s e = (all_kind (λ a. true) k (atoms p s) (all_true (atoms p s)) 0 (omega (arith, e))).1

-- a track that is sound and accepted
module _ (wide : Bool) (w : Source) (scale len : ℕ) (t : List ℕ) (d : Sound wide 4 trak t) (a : Accepted w scale len t) where
  pub right : track.Right wide t
  unfolding table_of
  right = let h = a.shape in record {
    whole = record { sound = d; mdias = h.mdia_once; minfs = h.minf_once; stbls = h.stbl_once; dinfs = h.dinf_once; edits = h.edts_few };
    few = omega (arith, h.few_samples);
    agree = a.agree;
    runs_kind = kind_is stbl stts (stbl_of t) h.stts_once;
    runs_head = omega (arith, h.stts_size);
    deals_kind = kind_is stbl stsc (stbl_of t) h.stsc_once;
    deals_head = omega (arith, h.stsc_size);
  }

pub same_of : (wide : Bool) (t : List ℕ) → track.Right wide t → SameTrack t (track.compact_trak t)
unfolding total_in
same_of wide t r =
    let h = r.whole in
    record {
      lists = track.track_same wide t r;
      id = track.id_same wide t h;
      subtype = track.subtype_same wide t h;
      scale = track.scale_same wide t h;
      stored = track.duration_same wide t h;
      total = ap sum (track.durations_same wide t r);
      samples = ap (λ x. u32_at x 16) (track.stsz_same wide t r);
      chunks = ap (λ x. u32_at x 12) (track.offsets_same wide t h);
      edits = ap (λ x. u32_at x 12) (track.elst_same wide t h);
      descriptions = ap (λ x. u32_at x 12) (track.stsd_same wide t r);
      elst = track.elst_same wide t h;
      shifts = track.ctts_same wide t r;
      sizes = track.stsz_same wide t r;
      profile = track.profile_same wide t h;
    }

module _ (s : List ℕ) (w : Source) (e : film_refusal s w ≡ 0) where
  pub tracks_compact : tracks_of (moov_of (compact_body 6 file s)) ≡ map (compact_body 4 trak) (tracks_of (moov_of s))
  unfolding container
  tracks_compact =
      let d = sound_moov s w e in
      ap tracks_of (moov_closed s w e)
      ∙ ap (λ l. map body_of (of_kind trak l)) (body_atoms w.alone 4 moov (moov_of s) d refl)
      ∙ bodies 4 moov trak refl (atoms moov (moov_of s)) (atoms_headed moov (moov_of s) d.low)
