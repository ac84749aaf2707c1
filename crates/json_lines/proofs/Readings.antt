-- A message is read of its line, and of no other line.
use Rattle.json_lines.proofs.Common.{Format, IsUtf8, Message, common_steps, is_utf8-from_IsUtf8}
use Rattle.std.proofs.Common.{arith, ◌≡◌, ◌≢◌, ℕ, List, Result, Ok, Err, refl, sym, ap, subst, ◌∙◌}
use Rattle.std.specs.Prelude.{IfOk, IfErr, decimal}
use Rattle.spans.specs.declared.calls.messages.Message.TheVariants as message
use Rattle.json_lines.specs.declared.fault.MessageFault.{MessageFault}
use Rattle.json_lines.specs.declared.fault.MessageFault.TheVariants as fault
use Rattle.json_lines.specs.Messages.{IsMessage, message_line}
use Rattle.json_lines.specs.Tests.{AreOfRow, IsUnresolved, MayWantMemory, message_at, meant_by}
use Rattle.json_lines.specs.Meaning.{Texts, resolved, texts_of, message_of, Gives}
use Rattle.json_lines.specs.Written.{texts_written}
use Rattle.json_lines.proofs.Steps.{ok_is}
use Rattle.json_lines.proofs.Ascii.{line_utf8}
use Rattle.json_lines.proofs.Meanings.{message_again}
use Rattle.json_lines.proofs.Trees.{tree_bad}
use Rattle.json_lines.proofs.WrittenLines.{line_of_texts, written_found, written_again}

pub only_memory : (e : MessageFault) → (e ≢ fault.NoMemory → ⊥) → e ≡ fault.NoMemory
only_memory fault.NoMemory h = refl
only_memory (_) h = absurd (h (λ e. absurd cc))

-- what is read is the line of the message
pub read_found : (format : Format) (line : List ℕ) (t : Texts) (r : Result Message MessageFault) → texts_written line ≡ Ok t → IfOk r (λ m. IsMessage format m) → IfOk r (λ m. t ≡ texts_of m)
    → IfOk r (λ m. (line ≡ message_line m) × IsMessage format m)
read_found format line t r e lawful same = grind (arith, common_steps, written_found, line_of_texts)

-- a message's line is refused only out of memory
pub read_whole : (format : Format) (line : List ℕ) (t : Texts) (r : Result Message MessageFault) → texts_written line ≡ Ok t → Gives (λ m. m) r (message_of format t)
    → IfErr r (λ e. (m : Message) → IsMessage format m → line ≡ message_line m → e ≡ fault.NoMemory)
read_whole format line t (Ok x) e gives = tt
read_whole format line t (Err f) e gives = λ m lawful is.
    grind (arith, common_steps, ok_is, written_again, message_again, only_memory)

-- what can't be taken apart is no message's line
pub unwritten : (format : Format) (line : List ℕ) (f : MessageFault) → texts_written line ≡ Err f → (m : Message) → IsMessage format m → line ≢ message_line m
unwritten format line f e m lawful is = let again = sym e ∙ ap texts_written is ∙ written_again format m lawful in cc

-- only the texts of a row want memory, and no resolved message has such texts
pub read_unresolved : (format : Format) (line : List ℕ) (t : Texts) (r : Result Message MessageFault) → texts_written line ≡ Ok t
    → IfErr r (λ e. e ≡ fault.NoMemory → AreOfRow t) → IfErr r (λ e. e ≡ fault.NoMemory → IsUnresolved line)
read_unresolved format line t (Ok m) e wants = tt
read_unresolved format line t (Err f) e wants = λ is ts lawful same.
    let texts : t ≡ resolved (decimal ts) = ok_is t (resolved (decimal ts)) (sym e ∙ ap texts_written same ∙ written_again format (message.Resolved ts) lawful) in
    subst AreOfRow texts (wants is)

-- what is no UTF-8 is no message's line
pub no_text : (format : Format) (line : List ℕ) → (IsUtf8 line → ⊥) → (m : Message) → IsMessage format m → line ≢ message_line m
no_text format line not m lawful is = not (subst IsUtf8 (sym is) (line_utf8 format m lawful))

-- and no JSON, which is its first fault
pub no_json : (format : Format) (line : List ℕ) → (IsUtf8 line → ⊥) → message_at format line ≡ Err fault.NotJson
unfolding message_at meant_by
no_json format line not = rw (tree_bad line (λ utf8. absurd (not utf8))) refl

-- UTF-8 that is no resolved message's line may want memory
pub may_want : (line : List ℕ) → IsUtf8 line → IsUnresolved line → MayWantMemory line
may_want line utf8 unresolved = record { utf8 = is_utf8-from_IsUtf8 line utf8; unresolved = unresolved }
