-- The words that the proofs take from below.
pub use Rattle.json_lines.specs.Messages.{IsKey}
pub use Rattle.spans.specs.declared.calls.commands.Cmd.{Cmd}
pub use Rattle.spelled_words.specs.declared.fault.LineFault.{LineFault}
pub use Rattle.spelled_words.specs.declared.fault.LineFault.TheVariants.{BadByte, KeyLength, LineTooLong, NoNewline, Number, UnknownCommand, ValueLength, WordCount}
pub use Rattle.std.proofs.lemmas.Bool.{eq-eqb, eqb-true, false_from_ne_true, le-leb, le-ltb, lt-ltb, ltb-true, ne_eqb, not-false}
pub use Rattle.std.proofs.lemmas.Fmt.{decimal_by_steps, decimal_nonempty, length-decimal-le}
pub use Rattle.std.proofs.lemmas.Grind.{common_steps}
pub use Rattle.std.proofs.lemmas.List.{append-nil, length-append, nil_from_length, take_at}
pub use Rattle.std.proofs.lemmas.List.Folds.{list_all-append}
pub use Rattle.std.proofs.lemmas.List.Splits.{join_with_byte-slice_split, slice_split_at, slice_split_none}
pub use Rattle.std.proofs.lemmas.Slice.Eq.{bytes_eq-Decides}
pub use Rattle.std.specs.Global.{Global}
pub use Rattle.std.specs.List.{All, AllByRecursion, flat_map, join_with_byte, list_all, list_any, slice_split}
pub use Rattle.text_format.specs.Limits.{bound_limit, key_limit, line_limit, value_limit}
pub use Rattle.text_format.specs.declared.Format.{Format}
