use Rattle.std.proofs.Common.{◌+◌, List, ℕ, Ok, take, sym, ap, ◌∙◌}
use Rattle.std.proofs.lemmas.List.{take_rest}
use Rattle.json_lines.proofs.Quotes.{quoted_some}
use Rattle.json_lines.proofs.written.quoted.Goals as goal

pub returns-in-Some : goal.returns-in-Some
returns-in-Some c =
    quoted_some c.args.bytes.now c.in-Some.at (sym c.in-Some.ensures.place)
    ∙ ap (λ (rest : List ℕ). Ok (take c.in-Some.at c.args.bytes.now, rest)) (sym (take_rest c.args.bytes.now (c.in-Some.at + 1)))
