-- The words that the proofs take from below.
unfoldable pub use Rattle.json_lines.specs.Messages.{message_line}
pub use Rattle.json_lines.specs.Messages.{IsAfter, IsKey, IsMessage, IsTimestamp, after_text, base64, symbols}
pub use Rattle.spans.specs.declared.calls.commands.Cmd.{Cmd}
pub use Rattle.spans.specs.declared.calls.events.Event.{Event}
pub use Rattle.spans.specs.declared.calls.messages.Message.{Message}
pub use Rattle.spans.specs.declared.calls.replies.Refusal.{Refusal}
pub use Rattle.spans.specs.declared.calls.replies.Reply.{Reply}
pub use Rattle.spelled_words.specs.declared.fault.LineFault.{LineFault}
pub use Rattle.spelled_words.specs.declared.fault.LineFault.TheVariants.{Follow, WordCount}
pub use Rattle.std.proofs.lemmas.Bool.{cases_lt, eq-eqb, eqb-false, eqb-true, le-leb, le-ltb, leb-true, lt-ltb, ltb-true, ne_eqb, or_right}
pub use Rattle.std.proofs.lemmas.Grind.{common_steps}
pub use Rattle.std.proofs.lemmas.List.{append-nil, drop-drop, drop_at, drop_more, get_or_past, length-append, length-drop, length-replicate, nil_from_length, take_at}
pub use Rattle.std.proofs.lemmas.List.Elements.{All-from_recursion, recursion_from_All}
pub use Rattle.std.proofs.lemmas.List.Folds.{list_all-append, list_any-append}
pub use Rattle.std.proofs.lemmas.Slice.Eq.{bytes_eq-Decides}
pub use Rattle.std.specs.List.{All, AllByRecursion, concat, flat_map, join_with_byte, list_all, list_any, onto_first, position_or_len, slice_split}
pub use Rattle.text_format.specs.Limits.{format_of, header, header_lines, key_limit, line_limit, value_limit}
pub use Rattle.text_format.specs.declared.Format.{Format}
pub use Rattle.word_lines.proofs.CommandsAgain.{command_again, read_again}
pub use Rattle.word_lines.proofs.JoinedParts.{IsWord, Lacks, decimal_all, joined_printable, split_joined, text_again, words_again}
pub use Rattle.word_lines.proofs.ReadCommands.{Begins, arguments_found, arity_of, command_found, name_of, row_word, text_found, words_found}
pub use Rattle.word_lines.proofs.ReadParts.{command_words}
pub use Rattle.word_lines.proofs.ReadWords.{bind_ok, guarded, key_again, key_word, number_again, ok_is, pure, refused, session_again, session_word, some_ok, value_again, value_word, word_found}
pub use Rattle.word_lines.proofs.Splitting.{place_cases}
pub use Rattle.word_lines.proofs.WrittenWords.{bytes_few, bytes_word, joined_few, number_length, number_word, room, words_then}
pub use Rattle.word_lines.specs.Events.{joined, words_of, event_text, heading_text, refusal_words, row_line}
unfoldable pub use Rattle.word_lines.specs.Limits.{IsReply}
pub use Rattle.word_lines.specs.Limits.{IsCommand, IsEvent, IsNumber, IsPair, IsRefusal, KeepsLimit}
pub use Rattle.word_lines.specs.Reading.{Fails, arguments_at, command_at, key_at, number_at, row_at, session_at, value_at, word_at}
unfoldable pub use Rattle.word_lines.specs.Events.{following_lines, reply_words}
pub use Rattle.word_lines.specs.Words.{AreBytes, spelling, is_printable, text_at, words_at}
pub use Rattle.word_lines.specs.Table.{table}
