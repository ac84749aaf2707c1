-- Words with one space between two.
use Rattle.word_lines.proofs.Common.{Cmd, common_steps, length-append, take_at}
use Rattle.std.proofs.Common.{◌≡◌, ℕ, ◌+◌, ◌-◌, ◌<◌, List, [], ◌∷◌, ◌++◌, length, take, refl, ap, ◌∙◌, append_assoc, Some, None, arith}
use Rattle.std.specs.Prelude.{codes, decimal}
use Rattle.spans.specs.declared.calls.commands.Cmd.TheVariants as cmd
use Rattle.spans.specs.declared.calls.replies.Reply.{Reply}
use Rattle.spans.specs.declared.calls.replies.Reply.TheVariants as reply
use Rattle.spans.specs.declared.calls.replies.Refusal.{Refusal}
use Rattle.spans.specs.declared.calls.replies.Refusal.TheVariants as refusal
use Rattle.word_lines.specs.Events.{joined, words_in, words_of, command_line, reply_words, refusal_words, following_lines, reply_text}
use Rattle.word_lines.specs.Table.{pieces_of}

pub joined_more : (word : List ℕ) (words : List (List ℕ)) → 0 < length words → joined (word ∷ words) ≡ word ++ 32 ∷ joined words
joined_more word [] some = absurd (omega arith)
joined_more word (next ∷ words) some = refl

pub joined_two : (words more : List (List ℕ)) → 0 < length words → 0 < length more → joined (words ++ more) ≡ joined words ++ 32 ∷ joined more
joined_two [] more some rest = absurd (omega arith)
joined_two (word ∷ []) more some rest = joined_more word more rest
joined_two (word ∷ next ∷ words) more some rest = grind (arith, common_steps, joined_two (next ∷ words) more)

-- a command's words are those of its pieces
pub words_are : (c : Cmd) → words_of c ≡ words_in (pieces_of c)
unfolding words_of
words_are (cmd.Begin ts) = refl
words_are (_) = refl

pub some_words : (c : Cmd) → 0 < length (words_of c)
some_words c = omega (arith, ap length (words_are c))

some_refusal_words : (r : Refusal) → 0 < length (refusal_words r)
some_refusal_words (refusal.BelowClosed closed) = omega arith
some_refusal_words (_) = omega arith

pub some_reply_words : (r : Reply) → 0 < length (reply_words r)
unfolding reply_words
some_reply_words (reply.Found None) = omega arith
some_reply_words (reply.Found (Some value)) = omega arith
some_reply_words (reply.Refused r) = some_refusal_words r
some_reply_words (_) = omega arith

-- a command's line, in the pieces in which it is written
pub command_in_pieces : (seat : ℕ) (c : Cmd) → command_line seat c ≡ (decimal seat ++ 32 ∷ joined (words_of c)) ++ 10 ∷ []
command_in_pieces seat c = ap (λ (x : List ℕ). x ++ 10 ∷ []) (joined_more (decimal seat) (words_of c) (some_words c))

-- an event's line, in the pieces in which it is written
pub event_in_pieces : (position seat : List ℕ) (c : Cmd) (r : Reply)
    → joined (position ∷ seat ∷ (words_of c ++ codes "=>" ∷ reply_words r)) ≡ position ++ (32 ∷ (seat ++ ((32 ∷ joined (words_of c)) ++ (codes " => " ++ joined (reply_words r)))))
event_in_pieces position seat c r = grind (arith, common_steps, length-append, joined_more, joined_two, some_words, some_reply_words)

pub command_written : (out a b c : List ℕ) (n seat : ℕ) (cmd : Cmd) → n ≡ seat → a ≡ out ++ decimal n → b ≡ a ++ 32 ∷ joined (words_of cmd) → c ≡ b ++ 10 ∷ [] → c ≡ out ++ command_line seat cmd
command_written out a b c n seat cmd e ea eb ec = grind (arith, common_steps, command_in_pieces)

regroup : (a b c d e f g h : List ℕ) → (((((a ++ b) ++ c) ++ d) ++ e) ++ f) ++ (g ++ h) ≡ a ++ ((b ++ (c ++ (d ++ (e ++ (f ++ g))))) ++ h)
regroup a b c d e f g h = simp append_assoc

pub event_written : (out a b c d e f p s : List ℕ) (cmd : Cmd) (r : Reply) → a ≡ out ++ p → b ≡ a ++ 32 ∷ [] → c ≡ b ++ s → d ≡ c ++ 32 ∷ joined (words_of cmd) → e ≡ d ++ codes " => " → f ≡ e ++ reply_text r
    → f ≡ out ++ (joined (p ∷ s ∷ (words_of cmd ++ codes "=>" ∷ reply_words r)) ++ 10 ∷ following_lines r)
event_written out a b c d e f p s cmd r ea eb ec ed ee ef = grind (arith, common_steps, regroup, event_in_pieces)

-- a command's line is its text and a newline
pub line_length : (line : List ℕ) (seat : ℕ) (cmd : Cmd) → line ≡ command_line seat cmd → length line ≡ length (joined (decimal seat ∷ words_of cmd)) + 1
line_length line seat cmd is = ap length is ∙ length-append (joined (decimal seat ∷ words_of cmd)) (10 ∷ [])

-- the text of a line is its session and its command's words
text_of_line : (line : List ℕ) (seat : ℕ) (cmd : Cmd) → line ≡ command_line seat cmd → take (length line - 1) line ≡ decimal seat ++ 32 ∷ joined (words_of cmd)
text_of_line line seat cmd is = grind (arith, common_steps, line_length, take_at, joined_more, some_words)

-- an event whose line was written as it stands
pub echo_written : (out a b c d e p line text : List ℕ) (seat : ℕ) (cmd : Cmd) (r : Reply) → line ≡ command_line seat cmd → text ≡ take (length line - 1) line
    → a ≡ out ++ p → b ≡ a ++ 32 ∷ [] → c ≡ b ++ text → d ≡ c ++ codes " => " → e ≡ d ++ reply_text r
    → e ≡ out ++ (joined (p ∷ decimal seat ∷ (words_of cmd ++ codes "=>" ∷ reply_words r)) ++ 10 ∷ following_lines r)
echo_written out a b c d e p line text seat cmd r is cut ea eb ec ed ee = grind (arith, common_steps, text_of_line, event_written)
