-- What a consumer of a feed sees, and the tests that it makes of each message. A consumer of an initial feed begins empty.
-- Any other begins with the map at the cursor, as it is in the finished history: seed it from a snapshot at a cursor that is
-- closed, since what is committed later at or below the cursor is never told.
use Rattle.std.specs.Prelude.{ℕ, List, [], ◌∷◌, ◌++◌, Bool, true, not, ◌&&◌, ◌||◌, ◌==◌, ◌≡◌, nat_le, nat_lt, Option, Some, None, if◌then◌else◌}
use Rattle.timestamps.specs.declared.row.Row.{Row}
use Rattle.spans.specs.declared.span.Span.{Span}
use Rattle.spans.specs.declared.calls.messages.Message.{Message}
use Rattle.spans.specs.declared.calls.messages.Message.TheVariants as messages
use Rattle.spans.specs.Collection.{VersionName, version_name}
use Rattle.spans.specs.KeyOrder.{key_lt}
use Rattle.spans.specs.Keys.{in_span}
use Rattle.spans.specs.declared.kind.Kind.{Kind}
use Rattle.spans.specs.Effects.{Effect}
use Rattle.spans.specs.Serial.{Map, put, map_at, span_part}
use Rattle.spans.specs.Streams.{row_lt}
use Rattle.spans.specs.Feeds.{Feed, start_of, told_to, last_resolved}

-- the map changed by the rows of the messages, in order
abbrev pub view_of : Map → List Message → Map
view_of m [] = m
view_of m (messages.Row r ∷ ms) = view_of (put m r.key r.after) ms
view_of m (messages.Resolved t ∷ ms) = view_of m ms

-- what a consumer begins with: of an initial feed nothing, and else the span's part of the map at the cursor
abbrev pub seed_of : Kind → List Effect → Span → ℕ → Map
seed_of kind p span cursor = if kind.initial then (λ x. None) else span_part span (map_at p cursor)

-- the row that was taken last, where there was one
abbrev pub last_row : Option Row → List Message → Option Row
last_row o [] = o
last_row o (messages.Row r ∷ ms) = last_row (Some r) ms
last_row o (messages.Resolved t ∷ ms) = last_row o ms

-- the row comes after the last one
abbrev pub is_after : Option Row → Row → Bool
is_after None r = true
is_after (Some last) r = row_lt last r

-- the name of a row's version
abbrev pub name_of : Row → VersionName
name_of r = version_name r.key r.ts

-- the row comes after the version of this name, in the order of rows
abbrev pub name_lt : VersionName → Row → Bool
name_lt n r = nat_lt n.ts r.ts || ((n.ts == r.ts) && key_lt n.key r.key)

-- the row comes after the last one, of which there is only the name
abbrev pub is_after_name : Option VersionName → Row → Bool
is_after_name None r = true
is_after_name (Some last) r = name_lt last r

-- the resolved timestamp is not below the row
abbrev pub reaches : Option Row → ℕ → Bool
reaches None t = true
reaches (Some last) t = nat_le last.ts t

-- why a message is refused
pub data ApplyFault : Type 0 where
  NotAfter : ApplyFault
  OutsideSpan : ApplyFault
  ResolvedBack : ApplyFault

-- the tests of a message, where taken are the messages before it, and start is the feed's: its cursor, or just below the
-- cursor of an initial feed. A row comes after the start, all resolved timestamps and the row before it, and lies in the span;
-- a resolved timestamp is above the start and all resolved ones, and not below the row before it
abbrev pub apply_fault : Span → ℕ → List Message → Message → Option ApplyFault
apply_fault span start taken (messages.Row r) =
    if not (nat_lt (last_resolved start taken) r.ts && is_after (last_row None taken) r) then Some NotAfter
    else (if not (in_span span r.key) then Some OutsideSpan else None)
apply_fault span start taken (messages.Resolved t) =
    if not (nat_lt (last_resolved start taken) t && reaches (last_row None taken) t) then Some ResolvedBack else None

-- each of the messages passes the tests, where taken are those before them
abbrev pub AllTaken : Span → ℕ → List Message → List Message → Type 0
AllTaken span start taken [] = Unit {0}
AllTaken span start taken (m ∷ ms) = (apply_fault span start taken m ≡ None) × AllTaken span start (taken ++ m ∷ []) ms

-- a consumer that began with its seed takes every message, and has the map in its span at each resolved timestamp
pub record ConsumerIsRight (p : List Effect) (f : ℕ) (feed : Feed) : Type 0 where
  pub takes : AllTaken feed.span (start_of feed) [] (told_to p f)
  pub views : (before rest : List Message) (t : ℕ) → told_to p f ≡ before ++ messages.Resolved t ∷ rest
      → (x : List ℕ) → view_of (seed_of feed.kind p feed.span feed.cursor) before x ≡ span_part feed.span (map_at p t) x
