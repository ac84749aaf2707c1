use Rattle.mvto_rules.proofs.Listing.{IsListing}
use Rattle.mvto_rules.proofs.Walking.{IsSeeking}
use Rattle.mvto_rules.proofs.reading.read_rows.Given as goal

-- the rows of the entries before it, at which nothing stopped the reader
abbrev pub invariant-loop-key : goal.invariant-loop-key
invariant-loop-key l = record { list : IsListing l.store l.ts l.span l.key-iterator l.rows.items; seek : IsSeeking l.store l.ts l.span l.key-iterator }
