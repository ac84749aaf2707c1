-- How a dump is written: by what a checker has taken, or as a check says that there is none.
use Rattle.std.proofs.Common.{◌≡◌, ℕ, List, [], ◌∷◌, ◌++◌, None, false, ◌∙◌, ap}
use Rattle.std.specs.Prelude.{reverse}
use Rattle.spans.specs.declared.calls.commands.Cmd.TheVariants.{Close, Collect}
use Rattle.spans.specs.Effects.{Effect, effects_of}
use Rattle.restarts.specs.Dump.{mark_of}
use Rattle.jobs.proofs.Common.{Checker, Dumps, commands_by_row, left_rows, lines_of, row_commands}
use Rattle.restarts.proofs.ByRows.{by_row}
use Rattle.plain_database.specs.declared.dump.Dump.{Dump}
use Rattle.plain_database.specs.Streams.{IsDump}
use Rattle.jobs.specs.declared.ending.End.{End}
use Rattle.jobs.specs.declared.ending.End.TheVariants as ends
use Rattle.jobs.specs.Verdicts.{IsDumped, dump_text, HasTakenText, IsVerdict, is_right}

-- what is said of a text that isn't a trace's is said in the place of its dump
pub refused_dump : (at : ℕ) (text : List ℕ) (end : End) (out : List ℕ) → IsVerdict text end out → is_right end ≡ false → IsDumped at text end out
refused_dump at text ends.Done out said wrong = absurd said
refused_dump at text (ends.Right count) out said wrong = cc
refused_dump at text _ out said wrong = said

-- what a dump writes are its commands
commands_are : (p : List Effect) (m : ℕ) (d : Dump) → IsDump p m d → row_commands None d.rows.items ++ Close d.to ∷ Collect d.horizon ∷ [] ≡ commands_by_row p m
commands_are p m d is = ap (λ rows. row_commands None rows ++ Close d.to ∷ Collect d.horizon ∷ []) is.rows ∙ ap (λ l. row_commands None (left_rows p m) ++ l) (ap (λ n. Close n ∷ Collect d.horizon ∷ []) is.to ∙ ap (λ n. Close m ∷ Collect n ∷ []) is.horizon)

-- the dump of a checker that has taken all events of a text is that of the text's database
pub written_dump : (at : ℕ) (text : List ℕ) (checker : Checker) (d : Dump) (out : List ℕ) → HasTakenText text checker → Dumps checker at d → out ≡ dump_text d → IsDumped at text ends.Done out
written_dump at text checker d out taken dumps told =
    let p : List Effect = effects_of (reverse taken.events) in
    let is : IsDump p (mark_of p at) d = dumps taken.events taken.stands in
    (taken.events, taken.is, taken.stands.trace, told ∙ ap lines_of (commands_are p (mark_of p at) d is ∙ by_row p (mark_of p at)))
