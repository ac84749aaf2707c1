-- The faults by number and name.
use Rattle.std.specs.Prelude.{ℕ, List, codes}
use Rattle.spelled_words.specs.Prelude.{LineFault}
use Rattle.spelled_words.specs.declared.fault.LineFault.TheVariants as fault

abbrev pub code_of : LineFault → ℕ
code_of fault.WordCount = 1
code_of fault.UnknownCommand = 2
code_of fault.Number = 3
code_of fault.KeyLength = 4
code_of fault.ValueLength = 5
code_of fault.Session = 6
code_of fault.NoNewline = 7
code_of fault.LineTooLong = 8
code_of fault.BadByte = 9
code_of fault.Reply = 10
code_of fault.Follow = 11

abbrev pub name_of : LineFault → List ℕ
name_of fault.WordCount = codes "wordcount"
name_of fault.UnknownCommand = codes "unknowncommand"
name_of fault.Number = codes "number"
name_of fault.KeyLength = codes "keylength"
name_of fault.ValueLength = codes "valuelength"
name_of fault.Session = codes "session"
name_of fault.NoNewline = codes "nonewline"
name_of fault.LineTooLong = codes "linetoolong"
name_of fault.BadByte = codes "badbyte"
name_of fault.Reply = codes "reply"
name_of fault.Follow = codes "follow"
