use Rattle.std.proofs.Common.{◌≡◌, ◌∷◌, ◌++◌, Some, ap, sym, ◌∙◌}
use Rattle.embedded.proofs.Common.{effects_of, next_left, row_text}
use Rattle.embedded.specs.Dumping.{place_of, rows_behind}
use Rattle.embedded.specs.declared.dumping.DumpPlace.{DumpPlace}
use Rattle.embedded.proofs.DumpRows.{next_row}
use Rattle.embedded.proofs.database.Database.put_next.Goals as goal

pub returns-in_ok-behind-in-Some-clause-next : goal.returns-in_ok-behind-in-Some-clause-next
returns-in_ok-behind-in-Some-clause-next c = λ h held at.
    let p = effects_of h in
    let place : DumpPlace = c.args.place.now in
    let t = c.args.end.through in
    let r = c.in-Some.row in
    let found = c.in_ok-next_left.ensures h held.stands in
    let key = c.as_ref.ensures.value in
    let first : Some r ≡ next_left p place.ts place.key t = cc in
    let behind : c.in_ok-behind-in-Some.behind ≡ place_of r = c.in_ok-behind-in-Some.ensures.place in
    let latest = c.transaction-in-Some.ensures in
    (r, next_row p t place r first ∙ ap (λ (q : DumpPlace). r ∷ rows_behind p t q) (sym behind), behind, c.in_ok-behind-in-Some.ensures.written ∙ ap (λ o. c.args.text.now.items ++ row_text o r) latest)
