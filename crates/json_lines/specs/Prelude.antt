-- The words that clauses and specifications take from below.
pub use Rattle.base64.specs.Engines.{standard}
pub use Rattle.base64.specs.GeneralPurpose.{decoded_of, encode_of, engine_symbols}
pub use Rattle.json_lines.specs.declared.fault.MessageFault.{MessageFault}
pub use Rattle.json_lines.specs.declared.fault.MessageFault.TheVariants.{Base64, Length, NoMemory, NotJson, Number, Shape}
pub use Rattle.spans.specs.declared.calls.messages.Message.{Message}
pub use Rattle.std.specs.Str.{is_utf8}
pub use Rattle.text_format.specs.Limits.{key_limit, value_limit}
pub use Rattle.text_format.specs.declared.Format.{Format}
