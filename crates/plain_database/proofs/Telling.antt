-- What a feed is told next, and what its messages leave.
use Rattle.plain_database.proofs.Common.{Effect, Message, Row, closed_of, common_steps, floor_append, is_due, last_told, next_messages, untold_rows}
use Rattle.std.proofs.Common.{◌≡◌, ℕ, List, [], ◌∷◌, ◌++◌, map, take, Option, Some, refl, ap, arith}
use Rattle.std.specs.Option.{option_to_list}
use Rattle.spans.specs.declared.calls.messages.Message.TheVariants as messages
use Rattle.std.proofs.lemmas.List.{take-map}
use Rattle.spans.proofs.Feeding.{last_join, resolved_join}
use Rattle.plain_database.specs.declared.feeds.record.Told.{Told}
use Rattle.plain_database.specs.declared.feeds.record.FeedRecord.{FeedRecord}
use Rattle.plain_database.specs.FeedTie.{IsRecordOf, due_in, feed_part, told_more}

latest_join : (o : Option ℕ) (ms ns : List Message) → last_told o (ms ++ ns) ≡ last_told (last_told o ms) ns
latest_join o [] ns = refl
latest_join o (messages.Row r ∷ ms) ns = latest_join o ms ns
latest_join o (messages.Resolved t ∷ ms) ns = latest_join (Some t) ms ns

-- what was told first, and what then
pub told_join : (ms ns : List Message) (t : Told) → told_more (ms ++ ns) t ≡ told_more ns (told_more ms t)
told_join ms ns t = rw (last_join t.row ms ns, resolved_join t.resolved ms ns, latest_join t.latest ms ns, floor_append t.floor ms ns) refl

-- the first of the rows are as good as all of them
take_front : (max : ℕ) (rows : List Row) (due : List Message) → take max (map messages.Row (take max rows) ++ due) ≡ take max (map messages.Row rows ++ due)
take_front max rows due = grind (arith, common_steps, take-map messages.Row max rows)

-- the next messages by the record are those by the effects
pub next_is : (p : List Effect) (f : ℕ) (x : FeedRecord) (max closed : ℕ) (rows : List Row) → IsRecordOf p f x → closed ≡ closed_of p → rows ≡ take max (untold_rows p f (feed_part x))
    → take max (map messages.Row rows ++ map messages.Resolved (option_to_list (due_in x closed))) ≡ next_messages p f (feed_part x) max
next_is p f x max closed rows is now first = grind (arith, common_steps, take_front, is.told, ap (λ (t : Told). is_due x.kind t.resolved closed) is.told)
