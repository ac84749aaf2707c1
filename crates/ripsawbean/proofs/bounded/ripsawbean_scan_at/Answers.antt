use Rattle.std.proofs.Common.{rules}
use Rattle.embedded.specs.declared.bounded.Bounded.TheVariants.{ScanAt}
use Rattle.ripsawbean.specs.BoundedExports.{span_fault, span_of}
use Rattle.ripsawbean.specs.TypedExports.{IsOf}
use Rattle.ripsawbean.proofs.BoundedCalls.{scan_made}
use Rattle.ripsawbean.proofs.bounded.ripsawbean_scan_at.Goals as goal

pub returns-clause-made : goal.returns-clause-made
returns-clause-made c =
    let a = c.args in let cmd = ScanAt a.timestamp (span_of a.low.now a.has_high a.high.now) a.rows a.bytes in
    let is : IsOf (span_fault a.low.now a.has_high a.high.now) (Unit {0}) cmd c.map-cmd.result = search rules in
    scan_made a.seat a.low.now a.has_high a.high.now cmd c.map-cmd.result a.handle.now.database c.show.result c.show.new.handle.database is c.show.ensures.made
