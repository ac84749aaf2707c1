use Rattle.mvto_rules.proofs.Listing.{IsListing}
use Rattle.mvto_rules.proofs.reading.rows_at.Given as goal

abbrev pub invariant-loop-key : goal.invariant-loop-key
invariant-loop-key l = IsListing l.store l.t l.span l.key-iterator l.rows.items
