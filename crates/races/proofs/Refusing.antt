-- Why a merge is refused.
use Rattle.std.proofs.Common.{List}
use Rattle.std.specs.Prelude.{IsPermutation}
use Rattle.races.proofs.Common.{Event, IsNonDecreasingBy}
use Rattle.races.specs.declared.merging.MergeError.{MergeError}
use Rattle.races.specs.declared.merging.MergeError.TheVariants as errors
use Rattle.races.specs.Merging.{position_of, IsBreak, IsReason}

pub reason : (all sorted : List Event) (e : MergeError) → IsPermutation all sorted → IsNonDecreasingBy position_of sorted → IsBreak sorted e → IsReason all e
reason all sorted errors.NoMemory same rising breaks = tt
reason all sorted _ same rising breaks = record { sorted = sorted; same = same; rising = rising; breaks = breaks }
