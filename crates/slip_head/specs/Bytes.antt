-- Document 01, "The slip", and document 02, Ask 9: the numbers of a slip, their rules, and the bytes they are written in.
use Rattle.std.specs.Prelude.{◌≡◌, Bool, false, cond, ◌||◌, List, [], ◌∷◌, ℕ, ◌*◌, ◌^◌, ◌<◌, ◌≤◌, leb, length}
use Rattle.leb128.specs.Numbers.{writes, Below}
use Rattle.slip_head.specs.declared.Head.{Head}

-- "In order: 1 (the form), track ID, scale, a, b, number of pairs, pairs." The numbers after the form; a pair is two numbers
abbrev pub after_form : Head → List ℕ → List ℕ
after_form h pairs = h.id ∷ h.scale ∷ h.a ∷ h.b ∷ h.pairs ∷ pairs

-- and the form before them
abbrev pub head_numbers : ℕ → Head → List ℕ → List ℕ
head_numbers form h pairs = form ∷ after_form h pairs

-- whether "some number is 2^32 or more"
unfoldable pub any_wide : List ℕ → Bool
any_wide [] = false
any_wide (n ∷ ns) = leb (2 ^ 32) n || any_wide ns

-- document 02, Ask 9: form 2 "is written only if some number is 2^32 or more"
abbrev pub form_for : Bool → ℕ
form_for wide = cond wide 2 1

unfoldable pub form_of : List ℕ → ℕ
form_of ns = form_for (any_wide ns)

-- the bytes of a slip
unfoldable pub slip_bytes : Head → List ℕ → List ℕ
slip_bytes h pairs = writes (head_numbers (form_of (after_form h pairs)) h pairs)

-- the rules of a slip's numbers, each below the bound
pub record Rules (bound : ℕ) (h : Head) (pairs : List ℕ) : Type 0 where
  pub some_id : 0 < h.id
  pub some_scale : 0 < h.scale
  pub order : h.a < h.b
  pub some_pairs : 0 < h.pairs
  pub few_pairs : h.pairs ≤ 1048576
  pub all_pairs : length pairs ≡ 2 * h.pairs
  pub below : Below bound (h.id ∷ h.scale ∷ h.a ∷ h.b ∷ pairs)
