-- The words that clauses and specifications take from below.
pub use Rattle.json_lines.specs.Meaning.{number_of}
pub use Rattle.spelled_words.specs.declared.fault.LineFault.{LineFault}
pub use Rattle.spelled_words.specs.declared.fault.LineFault.TheVariants.{BadByte, KeyLength, LineTooLong, NoNewline, Number, ValueLength, WordCount}
pub use Rattle.std.specs.List.{list_all, list_any, slice_split}
pub use Rattle.text_format.specs.Limits.{bound_limit, key_limit, line_limit, value_limit}
pub use Rattle.text_format.specs.declared.Format.{Format}
