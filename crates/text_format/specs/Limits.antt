-- How long what a text spells may be, and how a transcript begins, by its format (this project's own).
use Rattle.std.specs.Prelude.{ℕ, if◌then◌else◌, List, [], length, take, bytes_eq, codes}
use Rattle.text_format.specs.declared.Format.{Format}
use Rattle.text_format.specs.declared.Format.TheVariants.{One, Two}

-- the most bytes of a key
abbrev pub key_limit : Format → ℕ
key_limit One = 64
key_limit Two = 256

-- the most bytes of a value
abbrev pub value_limit : Format → ℕ
value_limit One = 1024
value_limit Two = 65536

-- the most bytes of a bound: one more than a key has
abbrev pub bound_limit : Format → ℕ
bound_limit One = 65
bound_limit Two = 257

-- the most bytes of a line before its newline
abbrev pub line_limit : Format → ℕ
line_limit One = 4096
line_limit Two = 200000

-- what a transcript begins with, before its first event: whole lines
abbrev pub header : Format → List ℕ
header One = []
header Two = codes "mvfeed 2\n"

-- how many lines the header has
abbrev pub header_lines : Format → ℕ
header_lines One = 0
header_lines Two = 1

-- the format that a transcript is in
abbrev pub format_of : List ℕ → Format
format_of text = if bytes_eq (take (length (header Two)) text) (header Two) then Two else One
