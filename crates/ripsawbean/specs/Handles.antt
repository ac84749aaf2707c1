-- What a handle owns (this project's own).
use Rattle.std.specs.contracts.impls.GlobalAllocator.TheImpl.{ghosts}
use Rattle.std.specs.Prelude.{Bool, Option, Some, None, is_some}
use Rattle.std.specs.Box.Ownership.{box_owns}
use base.Fml.{Fml, ftrue, feq, fsep}
use denote.RawPtr.{Ptr}
use mir.Syntax.{Ty}
use denote.RattleType.{RattleType}

-- there is one heap, so the allocator that is asked is the only one
abbrev pub token : Ty → Ptr → Fml
token ty at = ghosts.dealloc_token (record { memory = record { seal = tt } }) ty at

-- the value behind a pointer, if any, and the right to free it
abbrev pub keeps : (R : RattleType) → Ptr → Option R.Denot → Fml
keeps R at (Some x) = box_owns token R at x
keeps R at None = ftrue

-- the same, with a flag that says whether there is a value
abbrev pub flagged : (R : RattleType) → Ptr → Bool → Option R.Denot → Fml
flagged R at is_open x = fsep (feq Bool is_open (is_some x)) (keeps R at x)
