-- The profile that is asked for, as a part of what is lent. These need not be believed: they are between the crate's own functions.
use Rattle.std.specs.Prelude.{ℕ, ◌≡◌, List, Result, Ok}
use Rattle.structure.specs.declared.source.Source.{Source}
use Rattle.places.specs.Places.{part_in}
use Rattle.places.specs.declared.Part.{Part}
use Rattle.refusals.specs.Refusals.{code}
use Rattle.refusals.specs.declared.Refusal.{Refusal}
use Rattle.profiles.specs.Profiles.{profile_asked, id_refusal}

pub record AsksProfile (s : List ℕ) (w : Source) (id : ℕ) (r : Result Part Refusal) : Type 0 where
  pub refusal : code r ≡ id_refusal s w id
  pub profile : (p : Part) → r ≡ Ok p → part_in s p ≡ profile_asked s id
