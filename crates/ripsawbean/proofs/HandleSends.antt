-- A handle may go to another thread, with what it keeps: nothing in it names the thread that made it.
use Rattle.std.specs.Prelude.{Option, Some, None}
use mir.Raw.{raw as bare}
use base.Fraction.{full_share}
use base.Shift.{Keyless}
use denote.Memory.{lone}
use denote.Param.Send.{IsSend, part_keyless}
use denote.RattleType.{RattleType}
use denote.RawPtr.{Ptr, block_ptr, null_ptr}
use Rattle.std.proofs.Crossing.{frees}
use Rattle.std.specs.Box.Ownership.{box_owns}
use Rattle.ripsawbean.specs.Handles.{token, keeps}

-- a value behind a pointer, and the right to free it
behind : (R : RattleType) → IsSend R → (at : Ptr) (x : R.Denot) → Keyless (box_owns token R at x)
behind R send (block_ptr b o) x = (part_keyless R send full_share x b o, frees.frees _ (bare (lone R.mir)) (block_ptr b o))
behind R send null_ptr x = (tt, frees.frees _ (bare (lone R.mir)) null_ptr)

pub kept : (R : RattleType) → IsSend R → (at : Ptr) (x : Option R.Denot) → Keyless (keeps R at x)
kept R send at (Some x) = behind R send at x
kept R send at None = tt
