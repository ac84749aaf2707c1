-- The dump of the database that an embedded one holds, piece by piece, and how a piece is written (this project's own).
use Rattle.std.specs.Prelude.{ℕ, suc, List, [], ◌∷◌, ◌++◌, ◌-◌, ◌≡◌, length, take, max, min, nat_le, nat_lt, if◌then◌else◌, Option, Some, None, option_map}
use Rattle.spans.specs.declared.calls.commands.Cmd.TheVariants.{Close, Collect}
use Rattle.embedded.specs.Prelude.{dump_commands, row_commands, left_after, Effect, Row, close_text, concat, end_text, horizon_of, lines_of, mark_of, row_text}
use Rattle.embedded.specs.declared.dumping.DumpPlace.{DumpPlace}
use Rattle.embedded.specs.declared.dumping.DumpPiece.{DumpPiece}
use Rattle.embedded.specs.declared.dumping.DumpEnd.{DumpEnd}

-- ---- places

-- where a dump begins
abbrev pub start : DumpPlace
start = record { ts = 0; key = None }

-- the place of a row, and of the last of several: where there is none, the place before them
abbrev pub place_of : Row → DumpPlace
place_of r = record { ts = r.ts; key = Some r.key }

abbrev pub place_behind : DumpPlace → List Row → DumpPlace
place_behind place [] = place
place_behind place (r ∷ rows) = place_behind (place_of r) rows

-- the rows that are left behind a place
abbrev pub rows_behind : List Effect → (t : ℕ) → DumpPlace → List Row
rows_behind p t place = left_after p place.ts place.key t

-- the transaction that is open behind a place
abbrev pub open_at : DumpPlace → Option ℕ
open_at place = option_map (λ k. place.ts) place.key

-- the transaction that is open behind rows: that of the last, or as before where there is none
abbrev pub open_after : Option ℕ → List Row → Option ℕ
open_after o [] = o
open_after o (r ∷ rows) = open_after (Some r.ts) rows

-- ---- texts

-- the text of each of the rows
abbrev pub row_texts : Option ℕ → List Row → List (List ℕ)
row_texts o [] = []
row_texts o (r ∷ rows) = row_text o r ∷ row_texts (Some r.ts) rows

-- what stands behind the rows through t, of a dump that closes at m
abbrev pub last_text : List Effect → (m t : ℕ) → Option ℕ → List ℕ
last_text p m t o = end_text o ++ (if nat_lt t m then [] else close_text m (horizon_of p))

-- the texts of which a piece is made
abbrev pub texts_through : List Effect → (m t : ℕ) → DumpPlace → List (List ℕ)
texts_through p m t place = row_texts (open_at place) (rows_behind p t place) ++ last_text p m t (open_after (open_at place) (rows_behind p t place)) ∷ []

-- how many texts from the front have room
abbrev pub fits : ℕ → List (List ℕ) → ℕ
fits room [] = 0
fits room (c ∷ cs) = if nat_lt room (length c) then 0 else suc (fits (room - length c) cs)

-- the same, and one at least
abbrev pub count_within : ℕ → List (List ℕ) → ℕ
count_within room texts = max 1 (fits room texts)

-- ---- pieces

-- where the next piece begins, behind all rows through t; none where the dump has ended
abbrev pub place_at_end : (m t : ℕ) → Option DumpPlace
place_at_end m t = if nat_lt t m then Some (record { ts = t; key = None }) else None

-- the same behind n of the texts
abbrev pub next_place : (m t : ℕ) → DumpPlace → List Row → ℕ → Option DumpPlace
next_place m t place rows n = if nat_le n (length rows) then Some (place_behind place (take n rows)) else place_at_end m t

-- the first n of the texts, and where the next piece begins
abbrev pub first_texts : List Effect → (m t : ℕ) → DumpPlace → ℕ → List ℕ × Option DumpPlace
first_texts p m t place n = (concat (take n (texts_through p m t place)), next_place m t place (rows_behind p t place) n)

-- a piece through t, and where the next one begins. Nothing is written where t is below the place
abbrev pub piece_through : List Effect → (m t : ℕ) → DumpPlace → (room : ℕ) → List ℕ × Option DumpPlace
piece_through p m t place room = if nat_lt t place.ts then ([], Some place) else first_texts p m t place (count_within room (texts_through p m t place))

-- the piece of a dump that closes at or above a timestamp
abbrev pub IsPiece : List Effect → (at through : ℕ) → DumpPlace → (room : ℕ) → DumpPiece → Type 0
IsPiece p at through place room piece = (piece.text.items, piece.next) ≡ piece_through p (mark_of p at) (min through (mark_of p at)) place room

-- all that is left to write of a dump that closes at m
abbrev pub text_left : List Effect → (m : ℕ) → Option DumpPlace → List ℕ
text_left p m None = []
text_left p m (Some place) = lines_of (row_commands (open_at place) (rows_behind p m place) ++ Close m ∷ Collect (horizon_of p) ∷ [])

-- a piece and what is left behind it is what was left before it
abbrev pub IsRestLeft : List Effect → (m : ℕ) → DumpPlace → DumpPiece → Type 0
IsRestLeft p m place piece = text_left p m (Some place) ≡ piece.text.items ++ text_left p m piece.next

-- what is left at the beginning is the dump
abbrev pub IsWholeLeft : List Effect → (m : ℕ) → Type 0
IsWholeLeft p m = text_left p m (Some start) ≡ lines_of (dump_commands p m)

-- where the dump closes, the horizon, and how far a piece goes
pub record IsEnd (p : List Effect) (at through : ℕ) (end : DumpEnd) : Type 0 where
  pub closes : end.to ≡ mark_of p at
  pub goes : end.through ≡ min through (mark_of p at)
  pub told : end.horizon ≡ horizon_of p

-- the next text behind a place was written: the first row's, which gives a place; or the last one
abbrev pub IsNextText : List Effect → DumpEnd → DumpPlace → (text text' : List ℕ) → Option DumpPlace → Type 0
IsNextText p end place text text' (Some behind) =
    (r : Row) × (rows_behind p end.through place ≡ r ∷ rows_behind p end.through behind) × (behind ≡ place_of r) × (text' ≡ text ++ row_text (open_at place) r)
IsNextText p end place text text' None =
    (rows_behind p end.through place ≡ []) × (text' ≡ text ++ last_text p end.to end.through (open_at place))

-- behind a text as many more as have room, and where the next piece begins
abbrev pub filled : List Effect → DumpEnd → (room : ℕ) → (text : List ℕ) → DumpPlace → List ℕ × Option DumpPlace
filled p end room text place =
    if nat_lt room (length text) then (text, Some place)
    else (
      text ++ (first_texts p end.to end.through place (fits (room - length text) (texts_through p end.to end.through place))).0,
      (first_texts p end.to end.through place (fits (room - length text) (texts_through p end.to end.through place))).1,
    )

-- one text behind the place, and as many more as have room
abbrev pub AreTexts : List Effect → DumpEnd → (room : ℕ) → DumpPlace → List ℕ → Option DumpPlace → Type 0
AreTexts p end room place text next =
    (text, next) ≡ first_texts p end.to end.through place (count_within room (texts_through p end.to end.through place))

-- what stands behind all rows, by numbers
abbrev pub ending : DumpEnd → Option ℕ → List ℕ
ending end o = end_text o ++ (if nat_lt end.through end.to then [] else close_text end.to end.horizon)
