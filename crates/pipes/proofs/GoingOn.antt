-- The rows that a replica shows are read again, and a replica that begins with them goes on from it.
use Rattle.std.proofs.Common.{◌≡◌, ℕ, List, [], ◌∷◌, Some, None, Ok, refl, sym, ap, ◌∙◌}
use Rattle.pipes.proofs.Common.{All, AllByRecursion, AreRows, Cmd, IsPair, Map, Pairs, Replica, Span, Two, among_rows, flat_map, lines_of, ok_is, recursion_from_All, row_again, row_line, seeded_start, span_in, value_among, view_in}
use Rattle.replica.specs.Rows.{AreRowsOf}
use Rattle.embedded_replica.specs.Consumers.{pairs_at, pairs_of_lines, seeded_of}
use Rattle.pipes.specs.Consumers.{GoOnFrom, IsKept}

lines_read : (rows : Pairs) → AllByRecursion (IsPair Two) rows → pairs_at (flat_map row_line rows) ≡ Ok rows
unfolding pairs_of_lines lines_of
lines_read [] are = refl
lines_read (row ∷ rows) are =
    let one = row_again Two row are.0 in
    rw (one.0 (flat_map row_line rows), one.1, lines_read rows are.1) refl

-- the lines of rows are read as these rows
pub rows_read : (rows : Pairs) → All (IsPair Two) rows → pairs_at (flat_map row_line rows) ≡ Ok rows
rows_read rows are = lines_read rows (recursion_from_All (IsPair Two) rows are)

-- the span of all keys
everything : Span
everything = record { lo = None; hi = None }

-- all rows of a map have what the map has
among_all : (m : Map) (rows : Pairs) → AreRowsOf m rows → (x : List ℕ) → value_among rows x ≡ m x
unfolding everything
among_all m rows are x =
    let whole : AreRows everything m rows = record { rising = are.rising; each = λ y v. (λ i. (refl, (are.each y v).0 i), λ both. (are.each y v).1 both.1) } in
    among_rows everything m rows whole x refl

some_is : {A : Type 0} (x y : A) → Some x ≡ Some y → x ≡ y
some_is x y e = cc

-- a replica that begins with the rows of another, in its span, goes on from it
pub has_gone_on : (r : Replica) (n : ℕ) (line : List ℕ) (rows : Pairs) → IsKept r n line rows → GoOnFrom r n line rows
has_gone_on r n line rows kept new begins =
    let by = begins.begins in
    let call : (begins.seat, begins.command) ≡ (kept.seat, kept.command) = ok_is (begins.seat, begins.command) (kept.seat, kept.command) (sym begins.read ∙ kept.read) in
    let command : begins.command ≡ kept.command = ap (λ (x : ℕ × Cmd). x.1) call in
    let opened : (by.span, by.cursor) ≡ (span_in r, n) = some_is (by.span, by.cursor) (span_in r, n) (sym by.opens ∙ ap seeded_of command ∙ kept.opens) in
    let same : by.pairs ≡ rows = ok_is by.pairs rows (sym by.told ∙ rows_read rows kept.limits) in record {
      start = seeded_start by.span by.cursor by.pairs;
      follows = by.begins;
      from = record {
        span = ap (λ (x : Span × ℕ). x.0) opened;
        start = ap (λ (x : Span × ℕ). x.1) opened;
        rows = λ x. ap (λ (pairs : Pairs). value_among pairs x) same ∙ among_all (view_in r) rows kept.all x;
      };
    }
