-- What is written of a number or of bytes means them again.
use Rattle.json_lines.proofs.Common.{Format, Message, common_steps, le-leb}
use Rattle.std.proofs.Common.{◌≡◌, ℕ, zero, suc, ◌<◌, List, [], ◌∷◌, get_or, Option, Result, Ok, Err, refl, ap, arith}
use Rattle.std.specs.Prelude.{decimal, ok_or, option_map}
use Rattle.std.specs.Result.{result_ok}
use Rattle.base64.specs.declared.decode.DecodeError.{DecodeError}
use Rattle.base64.specs.Engines.{standard}
use Rattle.base64.specs.GeneralPurpose.{decode_of, decoded_of}
use Rattle.base64.proofs.EngineFacts.{decode_of-encode_of}
use Rattle.json_lines.specs.declared.fault.MessageFault.TheVariants.{Base64}
use Rattle.json_lines.specs.Messages.{base64, AreBytes, IsTimestamp, IsKey, IsAfter, IsMessage}
use Rattle.json_lines.specs.Meaning.{texts_of, timestamp_of, bytes_of, after_of, key_of, value_of, row_of, message_of}
use Rattle.json_lines.proofs.NumberWords.{number_only}

-- ---- bytes by place and by recursion

pub bytes_from_each : (bytes : List ℕ) → ((i : ℕ) → get_or bytes i 0 < 256) → AreBytes bytes
bytes_from_each [] each = tt
bytes_from_each (b ∷ bytes) each = (each 0, bytes_from_each bytes (λ i. each (suc i)))

pub each_of_bytes : (bytes : List ℕ) → AreBytes bytes → (i : ℕ) → get_or bytes i 0 < 256
each_of_bytes [] h i = omega arith
each_of_bytes (b ∷ bytes) h zero = h.0
each_of_bytes (b ∷ bytes) h (suc i) = each_of_bytes bytes h.1 i

-- ---- base64

pub bytes_good : (text bytes : List ℕ) → decode_of standard text ≡ Ok bytes → bytes_of text ≡ Ok bytes
unfolding bytes_of decoded_of
bytes_good text bytes e = ap (λ (r : Result (List ℕ) DecodeError). ok_or (result_ok r) Base64) e

pub bytes_bad : (text : List ℕ) (d : DecodeError) → decode_of standard text ≡ Err d → bytes_of text ≡ Err Base64
unfolding bytes_of decoded_of
bytes_bad text d e = ap (λ (r : Result (List ℕ) DecodeError). ok_or (result_ok r) Base64) e

pub bytes_again : (bytes : List ℕ) → AreBytes bytes → bytes_of (base64 bytes) ≡ Ok bytes
bytes_again bytes h = bytes_good (base64 bytes) bytes (decode_of-encode_of standard bytes refl (each_of_bytes bytes h))

-- ---- the parts of a message

timestamp_again : (ts : ℕ) → IsTimestamp ts → timestamp_of (decimal ts) ≡ Ok ts
unfolding timestamp_of
timestamp_again ts h = grind (arith, common_steps, number_only, le-leb)

key_again : (format : Format) (key : List ℕ) → IsKey format key → key_of format key ≡ Ok key
unfolding key_of
key_again format key h = grind (arith, common_steps, le-leb)

value_again : (format : Format) (after : Option (List ℕ)) → IsAfter format after → value_of format after ≡ Ok after
unfolding value_of
value_again format after h = grind (arith, common_steps, le-leb)

after_again : (format : Format) (after : Option (List ℕ)) → IsAfter format after → after_of (option_map base64 after) ≡ Ok after
unfolding after_of
after_again format after h = grind (arith, common_steps, bytes_again)

-- what a message's texts mean is the message
pub message_again : (format : Format) (m : Message) → IsMessage format m → message_of format (texts_of m) ≡ Ok m
unfolding message_of row_of
message_again format m h = grind (arith, common_steps, timestamp_again, bytes_again, after_again, key_again, value_again)
