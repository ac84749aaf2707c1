-- Rows and names in their order: by timestamp, and then by key.
use Rattle.spans.proofs.Common.{Row, common_steps}
use Rattle.std.proofs.Common.{arith, true, ◌≡◌, ◌≤◌}
use Rattle.spans.specs.Collection.{VersionName}
use Rattle.spans.specs.Consumer.{name_lt, name_of}
use Rattle.spans.specs.Streams.{row_lt}

-- what comes after a name isn't below it
pub name_order : (n : VersionName) (r : Row) → name_lt n r ≡ true → n.ts ≤ r.ts
name_order n r after = grind (arith, common_steps)

-- rows rise by timestamp
pub row_order : (s r : Row) → row_lt s r ≡ true → s.ts ≤ r.ts
row_order s r before = name_order (name_of s) r before
