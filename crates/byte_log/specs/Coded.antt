-- How the logic stores a list of bytes.
use Rattle.std.specs.Prelude.{ℕ, List}
use Rattle.std.specs.Coded.{Coded, coded_ℕ, coded_list}

abbrev pub bytes_code : Coded (List ℕ)
bytes_code = coded_list coded_ℕ
