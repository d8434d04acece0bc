-- The rules of the tree as one walk answers them. These need not be believed: they are between the crates' own functions, and each field stands for a
-- definition of the crates atoms, presence and leaves.
use Rattle.std.specs.Prelude.{ℕ, ◌≡◌, List, Bool, true, false, ◌&&◌}
use Rattle.atoms.specs.Kinds.{container}
use Rattle.atoms.specs.Atoms.{filled}
use Rattle.atoms.specs.Tree.{everywhere}
use Rattle.presence.specs.Present.{present}
use Rattle.presence.specs.declared.Counts.{Counts}
use Rattle.presence.specs.Counts.{with_kind}
use Rattle.leaves.specs.declared.Form.TheVariants.{Skipped}
use Rattle.leaves.specs.Leaves.{Version, Size}
use Rattle.leaves.specs.Leaves.{form_of, leaf_ok, leaves_ok}
use Rattle.tree.specs.declared.Checks.{Checks}

abbrev pub all_right : Checks
all_right = record { filled = true; present = true; versions = true; sizes = true }

abbrev pub none_right : Checks
none_right = record { filled = false; present = false; versions = false; sizes = false }

abbrev pub both_checks : Checks → Checks → Checks
both_checks a b =
    record {
      filled = a.filled && b.filled;
      present = a.present && b.present;
      versions = a.versions && b.versions;
      sizes = a.sizes && b.sizes;
    }

-- an atom of kind k in the parent p, as a read leaf
abbrev pub leaf_checks : Bool → ℕ → ℕ → List ℕ → Checks
leaf_checks wide p k a =
    record {
      filled = true;
      present = true;
      versions = leaf_ok Version (form_of wide p k) a;
      sizes = leaf_ok Size (form_of wide p k) a;
    }

-- the body s of the parent p and all below it, with n levels
abbrev pub tree_checks : Bool → ℕ → ℕ → List ℕ → Checks
tree_checks wide n p s =
    record {
      filled = everywhere filled n p s;
      present = everywhere (present wide) n p s;
      versions = everywhere (leaves_ok Version wide) n p s;
      sizes = everywhere (leaves_ok Size wide) n p s;
    }

-- an atom of kind k is not counted, no read leaf and no container
pub record Unruled (k : ℕ) : Type 0 where
  pub uncounted : (c : Counts) → with_kind c k ≡ c
  pub unread : (wide : Bool) (p : ℕ) → form_of wide p k ≡ Skipped
  pub leaf : (p : ℕ) → container p k ≡ false
