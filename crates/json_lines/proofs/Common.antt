-- The words that the proofs take from below.
unfoldable pub use Rattle.base64.specs.Rfc4648.{encode_symbols}
pub use Rattle.base64.specs.Rfc4648.{encode_group, encode_one, encode_two}
pub use Rattle.serde_json.specs.Events.{members_len}
pub use Rattle.spans.specs.declared.calls.messages.Message.{Message}
pub use Rattle.std.proofs.lemmas.Bool.{and_parts, cases_lt, eq-eqb, eqb-true, le-leb, lt-ltb, ltb-false, ltb-true, ne_eqb, not-true}
pub use Rattle.std.proofs.lemmas.Fmt.{IsAscii-decimal, decimal-digits_value, decimal_digit, decimal_nonempty, digits_decimal, digits_value-decimal, first_decimal}
pub use Rattle.std.proofs.lemmas.Grind.{common_steps}
pub use Rattle.std.proofs.lemmas.List.{append-nil, at_drop_more, get_or-take, nil_from_length}
pub use Rattle.std.proofs.lemmas.Str.{IsAscii-append, IsUtf8-from_ascii, IsUtf8-from_is_utf8, is_utf8-from_IsUtf8}
pub use Rattle.std.proofs.lemmas.List.Folds.{list_all-append}
pub use Rattle.std.specs.Char.{IsAsciiDigit, digit_value, is_ascii_digit}
pub use Rattle.std.specs.List.{AllByRecursion, list_all, position_or_len}
pub use Rattle.std.specs.Str.{IsAscii, IsUtf8, all_ascii_digits, is_utf8}
pub use Rattle.std.specs.Str.Parse.{digits_value, digits_value_after}
pub use Rattle.text_format.specs.declared.Format.{Format}
