-- What a follower tells of the messages that it took (this project).
use Rattle.std.specs.Prelude.{ℕ, ◌≡◌, if◌then◌else◌, List, [], ◌∷◌, ◌++◌, length, codes, decimal, Option, Some, None, is_some}
use Rattle.std.specs.List.{flat_map}
use Rattle.spans.specs.declared.calls.messages.Message.TheVariants as messages
use Rattle.follow.specs.Prelude.{AreRowsOf, Map, Message, insert_key, ready_after, row_line, view_of, joined, spelling, FollowOptions}
use Rattle.follow.specs.declared.options.Shown.{Shown}
use Rattle.follow.specs.Following.{start_of}
use Rattle.follow.specs.declared.telling.Telling.{Telling}
use Rattle.follow.specs.declared.options.Shown.TheVariants as shown

-- by a word, that the rows are complete at a timestamp, and how many there are
abbrev pub count_line : List ℕ → ℕ → ℕ → List ℕ
count_line word at rows = joined (word ∷ decimal at ∷ decimal rows ∷ []) ++ 10 ∷ []

-- that a key has no value any more
abbrev pub gone_line : List ℕ → List ℕ
gone_line key = joined (codes "gone" ∷ spelling key ∷ []) ++ 10 ∷ []

-- a key's line: its value, or that it has none any more
abbrev pub change_line : List ℕ → Option (List ℕ) → List ℕ
change_line x (Some v) = row_line (x, v)
change_line x None = gone_line x

-- what is shown of a map with these rows, where rows have named these keys since rows were told last
abbrev pub shown_lines : Shown → Map → List (List ℕ × List ℕ) → List (List ℕ) → List ℕ
shown_lines shown.Count m rows named = []
shown_lines shown.Rows m rows named = flat_map row_line rows
shown_lines shown.Changes m rows named = flat_map (λ x. change_line x (m x)) named

-- by a word, that the rows are complete at a timestamp: how many there are, and what is shown of them
pub record IsTold (how : Shown) (word : List ℕ) (at : ℕ) (m : Map) (named : List (List ℕ)) (text : List ℕ) : Type 0 where
  pub rows : List (List ℕ × List ℕ)
  pub all : AreRowsOf m rows
  pub text_is : text ≡ count_line word at (length rows) ++ shown_lines how m rows named

-- the same, if there is such a timestamp
abbrev pub IsToldAt : Shown → List ℕ → Option ℕ → Map → List (List ℕ) → List ℕ → Type 0
IsToldAt how word None m named text = text ≡ []
IsToldAt how word (Some at) m named text = IsTold how word at m named text

-- the timestamp at which a message shows, before it is taken, that the rows are complete, where that is told
abbrev pub shown_before : FollowOptions → List Message → Message → Option ℕ
shown_before o before m = if o.complete then ready_after o.span (start_of o.span o.start).start (start_of o.span o.start).cursor before m else None

-- the timestamp that a message resolves
abbrev pub resolved_by : Message → Option ℕ
resolved_by (messages.Row r) = None
resolved_by (messages.Resolved t) = Some t

-- the keys that rows have named since rows were told, rising: a row names its key, and what is told is named no more
abbrev pub named_with : List (List ℕ) → Message → List (List ℕ)
named_with named (messages.Row r) = insert_key r.key named
named_with named (messages.Resolved t) = named

abbrev pub unless_told : Option ℕ → List (List ℕ) → List (List ℕ)
unless_told told named = if is_some told then [] else named

-- what is told of a message that is taken after others: before it that the rows are complete, where it shows that and that is told,
-- and behind it that they are, where it resolves a timestamp
pub record IsMessageTold (o : FollowOptions) (before : List Message) (named : List (List ℕ)) (m : Message) (text : List ℕ) : Type 0 where
  pub first : List ℕ
  pub second : List ℕ
  pub ready : IsToldAt o.shown (codes "complete") (shown_before o before m) (view_of (start_of o.span o.start).rows before) named first
  pub resolved : IsToldAt o.shown (codes "resolved") (resolved_by m) (view_of (start_of o.span o.start).rows (before ++ m ∷ [])) (named_with (unless_told (shown_before o before m) named) m) second
  pub text_is : text ≡ first ++ second

-- the keys that rows have named, and that are still to be told, behind a message
abbrev pub named_after : FollowOptions → List Message → List (List ℕ) → Message → List (List ℕ)
named_after o before named m = unless_told (resolved_by m) (named_with (unless_told (shown_before o before m) named) m)

-- what is told of messages, after those of `before`
abbrev pub AreTold : FollowOptions → List Message → List (List ℕ) → List Message → List ℕ → Type 0
AreTold o before named [] text = text ≡ []
AreTold o before named (m ∷ ms) text = (first : List ℕ) × (rest : List ℕ) × IsMessageTold o before named m first × AreTold o (before ++ m ∷ []) (named_after o before named m) ms rest × (text ≡ first ++ rest)

-- the report of a feed whose messages are these
abbrev pub IsFollowReport : FollowOptions → List Message → List ℕ → Type 0
IsFollowReport o ms text = AreTold o [] [] ms text

-- the keys that rows named since rows were told
abbrev pub named_in : Telling → List (List ℕ)
named_in t = t.changed.keys

-- what is shown of the map was added, whichever rows are its own
abbrev pub ShowsRows : Telling → Map → (before after : List ℕ) → Type 0
ShowsRows t m before after = (rows : List (List ℕ × List ℕ)) → AreRowsOf m rows → after ≡ before ++ shown_lines t.shown m rows (named_in t)

-- by a word, that the rows of the map are complete at a timestamp, was added, where there is one
pub record TellsAt (t t' : Telling) (word : List ℕ) (at : Option ℕ) (m : Map) (before after : List ℕ) : Type 0 where
  pub text : List ℕ
  pub is : IsToldAt t.shown word at m (named_in t) text
  pub added : after ≡ before ++ text
  pub named : named_in t' ≡ unless_told at (named_in t)
  pub same : t'.shown ≡ t.shown

-- where changes are shown, the key of a row is named too
abbrev pub NamesKey : Telling → Telling → Message → Type 0
NamesKey t t' m = t.shown ≡ shown.Changes → named_in t' ≡ named_with (named_in t) m
