-- Closed is a timestamp, or 0.
use Rattle.std.proofs.Common.{◌≤◌, List}
use Rattle.restarts.proofs.InRange.{all_in_range}
use Rattle.plain_database.proofs.Common.{Event, IsLegal, MAX, closed_of, effects_of}

-- closed is at most the greatest timestamp
pub closed_in_range : (h : List Event) → IsLegal h → closed_of (effects_of h) ≤ MAX
closed_in_range h legal = (all_in_range h legal).0
