-- What is told of a dump, by what is shown of its piece.
use Rattle.std.proofs.Common.{◌≡◌, ◌||◌, ℕ, zero, suc, List, false, length, nat_lt, inr, subst, sym}
use Rattle.ripsawbean.proofs.Common.{Database, IsPiece, effects_of}
use Rattle.timestamps.specs.declared.ts.TheConstants.{MAX}
use Rattle.spans.specs.declared.calls.events.Event.{Event}
use Rattle.embedded.specs.Embedded.{StandsFor}
use Rattle.embedded.specs.declared.dumping.DumpPiece.{DumpPiece}
use Rattle.ripsawbean.specs.Dumps.{IsShownOrNot, IsTold, IsToldAt, IsToldPiece, dump_fault, place_at}
use Rattle.ripsawbean.specs.declared.dump.DumpPlaceRecord.{DumpPlaceRecord}

pub told_piece : (d : Database) (at through : ℕ) (place place' : DumpPlaceRecord) (key key' out out' : List ℕ) (number length' : ℕ) (piece : DumpPiece)
    → ((h : List Event) → StandsFor d h → IsPiece (effects_of h) at through (place_at place key) (length out) piece) → IsShownOrNot piece number place place' key key' out out' length'
    → IsToldPiece d at through place place' key key' out out' number length'
told_piece d at through place place' key key' out out' zero length' piece is shown = λ h stands. (piece, is h stands, shown)
told_piece d at through place place' key key' out out' (suc n) length' piece is shown = (shown.1, inr (shown.0, λ h stands. (piece, is h stands, shown.2)))

-- the same of a place that has no fault
pub told_here : (d : Database) (at through : ℕ) (place place' : DumpPlaceRecord) (key key' out out' : List ℕ) (number length' : ℕ)
    → nat_lt MAX at ≡ false → (nat_lt (length key) 256 || nat_lt 256 place.key) ≡ false → place.ended ≡ 0 → IsToldPiece d at through place place' key key' out out' number length'
    → IsTold (dump_fault at place key) d at through place place' key key' out out' number length'
told_here d at through place place' key key' out out' number length' low fits goes told =
    rw (low, fits) (subst (λ (ended : ℕ). IsToldAt ended d at through place place' key key' out out' number length') (sym goes) told)
