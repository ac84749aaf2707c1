-- A log is stored as a struct without fields, and owns nothing: whatever its bytes are, it is made for nothing.
-- Assumes `Logic`.
use Rattle.std.proofs.Common.{◌≡◌, List, [], ◌∷◌}
use seplogic.Ra.Ura.{Ura}
use mir.Val.{Val, vstruct, vnil}
use types.Logic.{Logic}
use denote.Laws.{Makes}
use denote.Shadow.{makes_shadow}
use Rattle.byte_log.specs.contracts.ByteLog.{the_row}
use Rattle.byte_log.specs.declared.ByteLog.{ByteLog}

abbrev pub stored : Val
stored = vstruct vnil

abbrev pub IsStored : ByteLog → List Val → Type 0
IsStored log vals = vals ≡ stored ∷ []

pub log_Makes : {M : Type 1} {𝓤 : Ura M} (𝓛 : Logic 𝓤) → Makes 𝓛 the_row IsStored
log_Makes 𝓛 log vals is = makes_shadow 𝓛 (the_row.own_val log vals) ((λ _. (tt, tt)), tt) ((tt, (is, tt)), tt)
