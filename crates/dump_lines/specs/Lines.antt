-- The lines of a dump, row by row (this project's own).
use Rattle.std.specs.Prelude.{ℕ, List, [], ◌∷◌, ◌++◌, Option}
use Rattle.std.specs.List.{flat_map}
use Rattle.timestamps.specs.declared.row.Row.{Row}
use Rattle.spans.specs.declared.calls.commands.Cmd.{Cmd}
use Rattle.spans.specs.declared.calls.commands.Cmd.TheVariants.{Close, Collect}
use Rattle.word_lines.specs.Events.{command_line}
use Rattle.restarts.specs.Dump.{write_step, ended, started}

-- the lines of session 0's commands
abbrev pub lines_of : List Cmd → List ℕ
lines_of cmds = flat_map (command_line 0) cmds

-- the command that writes a row
abbrev pub row_command : Row → Cmd
row_command r = (write_step r.ts r.key r.after).0

-- the lines of a row: what comes before it, where o is open, and its write
abbrev pub row_text : Option ℕ → Row → List ℕ
row_text o r = lines_of (started o r.ts ++ row_command r ∷ [])

-- the lines that end the transaction that is open, where one is
abbrev pub end_text : Option ℕ → List ℕ
end_text o = lines_of (ended o)

-- the lines that end a dump
abbrev pub close_text : (to horizon : ℕ) → List ℕ
close_text to horizon = lines_of (Close to ∷ Collect horizon ∷ [])
