-- The text of a report: lines of JSON (RFC 8259), with bytes as base64 (RFC 4648) and numbers as strings of digits.
use Rattle.std.specs.Prelude.{ℕ, ◌-◌, Bool, true, false, List, [], ◌∷◌, ◌++◌, codes, decimal, Option, Some, None, option_map}
use Rattle.std.specs.List.{flat_map}
use Rattle.json_lines.specs.Messages.{base64}
use Rattle.spans.specs.Collection.{VersionName}
use Rattle.spans.specs.Report.{limit_in}
use Rattle.spans.specs.declared.report.TransactionReport.{TransactionReport}
use Rattle.spans.specs.declared.report.ProtectionReport.{ProtectionReport}
use Rattle.spans.specs.declared.report.FeedReport.{FeedReport}
use Rattle.spans.specs.declared.report.Report.{Report}
use Rattle.spans.specs.declared.report.Limit.{Limit}
use Rattle.spans.specs.declared.report.Holder.{Holder}
use Rattle.spans.specs.declared.report.Holder.TheVariants as holders
use Rattle.report_lines.specs.declared.members.Member.{Member}
use Rattle.report_lines.specs.declared.members.Member.TheVariants as members

-- a line begins with its kind, and ends behind its last member
unfoldable pub begins : List ℕ → List ℕ
begins kind = codes "{\"kind\":\"" ++ kind ++ codes "\""

unfoldable pub ends : List ℕ
ends = codes "}\n"

-- a member behind another
unfoldable pub member : (name value : List ℕ) → List ℕ
member name value = codes ",\"" ++ name ++ codes "\":" ++ value

-- a word, a number, and bytes, in quotes
unfoldable pub quoted : List ℕ → List ℕ
quoted text = codes "\"" ++ text ++ codes "\""

abbrev pub number : ℕ → List ℕ
number n = quoted (decimal n)

abbrev pub bytes : List ℕ → List ℕ
bytes bs = quoted (base64 bs)

unfoldable pub truth : Bool → List ℕ
truth true = codes "true"
truth false = codes "false"

unfoldable pub number_or_null : Option ℕ → List ℕ
number_or_null None = codes "null"
number_or_null (Some n) = number n

unfoldable pub bytes_or_null : Option (List ℕ) → List ℕ
bytes_or_null None = codes "null"
bytes_or_null (Some bs) = bytes bs

-- a member that only a whole report has
unfoldable pub member_in_whole : (name : List ℕ) → Option ℕ → List ℕ
member_in_whole name None = []
member_in_whole name (Some n) = member name (number n)

-- what holds a collection, and its number
unfoldable pub holder_word : Holder → List ℕ
holder_word holders.Closed = codes "closed"
holder_word (holders.Protection n) = codes "protection"
holder_word (holders.Feed n) = codes "feed"

unfoldable pub holder_number : Holder → Option ℕ
holder_number holders.Closed = None
holder_number (holders.Protection n) = Some n
holder_number (holders.Feed n) = Some n

-- how far a collection can go now, and what holds it
unfoldable pub limit_members : Limit → List ℕ
limit_members l =
    member (codes "limit") (number l.at)
    ++ member (codes "holder") (quoted (holder_word l.by))
    ++ member (codes "holder_number") (number_or_null (holder_number l.by))

-- the oldest undecided transaction, which is the first of those that rise, and its seat
unfoldable pub oldest_members : List TransactionReport → List ℕ
oldest_members [] = member (codes "oldest") (number_or_null None) ++ member (codes "oldest_seat") (number_or_null None)
oldest_members (n ∷ ns) = member (codes "oldest") (number_or_null (Some n.timestamp)) ++ member (codes "oldest_seat") (number_or_null (Some n.seat))

-- and how many versions there are
unfoldable pub version_members : Report → List ℕ
version_members r =
    oldest_members r.transactions.items
    ++ member (codes "versions") (number r.versions)
    ++ member_in_whole (codes "removable") r.removable

unfoldable pub database_line : Limit → Report → List ℕ
database_line l r =
    begins (codes "database")
    ++ member (codes "closed") (number r.closed)
    ++ member (codes "horizon") (number r.horizon)
    ++ limit_members l
    ++ version_members r
    ++ ends

unfoldable pub transaction_line : TransactionReport → List ℕ
transaction_line n =
    begins (codes "transaction")
    ++ member (codes "timestamp") (number n.timestamp)
    ++ member (codes "seat") (number n.seat)
    ++ member (codes "keys") (number n.keys)
    ++ ends

unfoldable pub protection_line : ProtectionReport → List ℕ
protection_line n = begins (codes "protection") ++ member (codes "number") (number n.number) ++ member (codes "timestamp") (number n.timestamp) ++ ends

-- what was opened of a feed
unfoldable pub opening_members : FeedReport → List ℕ
opening_members n =
    member (codes "number") (number n.number)
    ++ member (codes "seat") (number n.seat)
    ++ member (codes "initial") (truth n.kind.initial)
    ++ member (codes "gap") (number_or_null n.kind.gap)
    ++ member (codes "lo") (bytes_or_null n.span.lo)
    ++ member (codes "hi") (bytes_or_null n.span.hi)
    ++ member (codes "cursor") (number n.cursor)

-- what it told last
unfoldable pub told_members : FeedReport → List ℕ
told_members n =
    member (codes "updated") (number_or_null (option_map (λ (row : VersionName). row.ts) n.row))
    ++ member (codes "key") (bytes_or_null (option_map (λ (row : VersionName). row.key) n.row))
    ++ member (codes "resolved") (number_or_null n.resolved)

-- how far it has come, where the database is closed so far
unfoldable pub progress_members : (closed : ℕ) → FeedReport → List ℕ
progress_members closed n =
    member (codes "complete") (number_or_null n.complete)
    ++ member (codes "floor") (number n.floor)
    ++ member (codes "behind") (number (closed - n.floor))
    ++ member_in_whole (codes "untold") n.untold

unfoldable pub feed_line : (closed : ℕ) → FeedReport → List ℕ
feed_line closed n = begins (codes "feed") ++ opening_members n ++ told_members n ++ progress_members closed n ++ ends

-- the database, then undecided transactions, protections, feeds, each in the order of the report
unfoldable pub report_text : Report → List ℕ
report_text r =
    database_line (limit_in r) r
    ++ flat_map transaction_line r.transactions.items
    ++ flat_map protection_line r.protections.items
    ++ flat_map (feed_line r.closed) r.feeds.items

unfoldable pub text_of : Member → List ℕ
text_of (members.Word name word) = member name.now (quoted word.now)
text_of (members.Truth name holds) = member name.now (truth holds)
text_of (members.Number name n) = member name.now (number_or_null n)
text_of (members.Bytes name bs) = member name.now (bytes_or_null (option_map (λ b. b.now) bs))
text_of (members.NumberIfAny name n) = member_in_whole name.now n

-- members, and then the end of the line
unfoldable pub up_to_end : List Member → List ℕ
up_to_end [] = ends
up_to_end (m ∷ ms) = text_of m ++ up_to_end ms

unfoldable pub line_of : (kind : List ℕ) → List Member → List ℕ
line_of kind ms = begins kind ++ up_to_end ms
