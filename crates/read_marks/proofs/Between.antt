-- Readers between two bounds, by the place where those above the lower one begin.
use Rattle.read_marks.proofs.Common.{AtMost, IsBetween, IsNonDecreasing, common_steps, get_or_default}
use Rattle.std.proofs.Common.{ℕ, List, Bool, true, false, not, ◌≡◌, ◌<◌, ◌≤◌, ◌-◌, ◌↔◌, length, get_or, arith, Option, None, Some, ◌∙◌, slice_get}
use Rattle.std.proofs.lemmas.Option.{get_or_from_slice_get, slice_get_within}
use Rattle.read_marks.specs.Readers.{SplitsAt, is_kept, is_reader}
use Rattle.read_marks.proofs.Splitting.{from_place, reader_is}

-- the latest, where there is one
module _ (xs : List ℕ) (x : ℕ) (is : slice_get xs (length xs - 1) ≡ Some x) where
  latest_inside : length xs - 1 < length xs
  latest_inside = slice_get_within xs (length xs - 1) x is

  pub none_above_latest : (t : ℕ) (to : Option ℕ) → IsNonDecreasing xs → x ≤ t → IsBetween (is_reader xs) t to → ⊥
  none_above_latest t to up low b =
      let c = (reader_is xs b.reader).0 b.mark in
      omega (arith, c.1, get_or_default xs c.0 x b.reader c.1 ∙ c.2, up c.0 (length xs - 1) x (omega (arith, c.1)) (omega (arith, c.1)), get_or_from_slice_get xs (length xs - 1) x x is, b.higher)

  pub has_latest : (t : ℕ) → t < x → IsBetween (is_reader xs) t None
  has_latest t above = record { reader = x; mark = (reader_is xs x).1 (length xs - 1, latest_inside, get_or_from_slice_get xs (length xs - 1) x x is); higher = above; low = tt }

  pub place_inside : (t at : ℕ) → SplitsAt xs t at → t < x → at < length xs
  place_inside t at p above =
      omega (arith, latest_inside, from_place xs t at (length xs - 1) x p latest_inside (get_or_from_slice_get xs (length xs - 1) x x is) above)

pub has_first : (xs : List ℕ) (t at : ℕ) (to : Option ℕ) (x : ℕ) → SplitsAt xs t at → at < length xs → x ≡ get_or xs at x → AtMost to x → IsBetween (is_reader xs) t to
has_first xs t at to x p lt is up = grind (arith, common_steps)

pub first_up_to : (xs : List ℕ) (t at to x : ℕ) → IsNonDecreasing xs → SplitsAt xs t at → at < length xs → x ≡ get_or xs at x → IsBetween (is_reader xs) t (Some to) → x ≤ to
first_up_to xs t at to x up p lt is b =
    let c = (reader_is xs b.reader).0 b.mark in
    let u : get_or xs at x ≤ get_or xs c.0 x = up at c.0 x (from_place xs t at c.0 b.reader p c.1 c.2 b.higher) c.1 in grind (arith, common_steps)

-- none is kept exactly where none is above what is forgotten
pub none_kept : (xs : List ℕ) (t : ℕ) (b : Bool) → (b ≡ true) ↔ IsBetween (is_reader xs) t None → (not b ≡ true) ↔ ((j : ℕ) → is_kept t xs j ≡ false)
none_kept xs t b is = grind (arith, common_steps)
