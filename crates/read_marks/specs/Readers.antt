-- The readers of one key, as a list.
use Rattle.std.specs.Prelude.{ℕ, List, Bool, true, false, nat_eq, nat_le, nat_lt, ◌&&◌, ◌≡◌}
use Rattle.std.specs.List.Sorted.{IsPartitionPoint}
use Rattle.std.specs.Set.{is_member}
use Rattle.smallvec.specs.SmallVec.{HasRoomFor}
use Rattle.read_marks.specs.declared.readers.Readers.{Readers}

abbrev pub readers_of : Readers → List ℕ
readers_of r = r.list.items

-- one more is noted in place
abbrev pub has_room : Readers → Type 0
has_room r = HasRoomFor r.list 1

-- the number is one of the readers
abbrev pub is_reader : List ℕ → ℕ → Bool
is_reader xs j = is_member nat_eq xs j

-- one that is above the bound through which all are forgotten
abbrev pub is_kept : ℕ → List ℕ → ℕ → Bool
is_kept forgotten xs j = nat_lt forgotten j && is_reader xs j

-- the readers before the place are at or below t, and those from it on are above t
abbrev pub SplitsAt : List ℕ → ℕ → ℕ → Type 0
SplitsAt xs t at = IsPartitionPoint (λ y. nat_le y t ≡ true) (λ y. nat_le y t ≡ false) xs at
