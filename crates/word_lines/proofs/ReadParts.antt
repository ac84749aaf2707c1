-- The parts of a command, word by word.
use Rattle.word_lines.proofs.Common.{AllByRecursion, Cmd, Format, IsKey, LineFault, common_steps}
use Rattle.std.proofs.Common.{arith, ◌≡◌, List, ◌∷◌, [], ◌++◌, ℕ, Result, Ok, refl, subst, append_assoc}
use Rattle.std.specs.Prelude.{decimal}
use Rattle.word_lines.specs.Words.{spelling}
use Rattle.word_lines.specs.Events.{bound_word, parts_words, words_of}
use Rattle.word_lines.specs.Limits.{IsNumber, IsValue, IsSpan, AreParts, IsCommand}
use Rattle.word_lines.specs.Reading.{◌>>=◌, number_at, key_at, value_at, span_at, number_and_key_at, number_and_span_at, opening_at, opening_every_at, parts_at}
use Rattle.word_lines.specs.Table.{Signature, Nothing, Number, Numbers, NumberKey, NumberKeyValue, NumberSpan, SpanNumber, SpanNumbers, layout_of, pieces_of}
use Rattle.word_lines.proofs.Joining.{words_are}
use Rattle.word_lines.proofs.JoinedParts.{IsWord}
use Rattle.word_lines.proofs.WrittenWords.{names, names_some, number_word as number_is_word, bytes_word, bound_is_word, words_then}
use Rattle.word_lines.proofs.ReadWords.{bind_ok, ok_is, number_word, number_again, key_word, key_again, value_word, value_again, span_words, span_again}

-- what is read is written so, and what is written is words that are read so, whatever stands behind them
pub record IsReader {A : Type 0} (read : List (List ℕ) → Result (A × List (List ℕ)) LineFault) (show : A → List (List ℕ)) (Is : A → Type 0) : Type 0 where
  pub found : (words : List (List ℕ)) (x : A × List (List ℕ)) → read words ≡ Ok x → (words ≡ show x.0 ++ x.1) × Is x.0
  pub again : (a : A) (rest : List (List ℕ)) → Is a → read (show a ++ rest) ≡ Ok (a, rest)
  pub are : (a : A) → Is a → AllByRecursion IsWord (show a)

two_read : {A B : Type 0} {read : List (List ℕ) → Result (A × List (List ℕ)) LineFault} {next : List (List ℕ) → Result (B × List (List ℕ)) LineFault} {show : A → List (List ℕ)} {tell : B → List (List ℕ)} {Is : A → Type 0} {Holds : B → Type 0}
    → IsReader read show Is → IsReader next tell Holds → IsReader {A = A × B} (λ words. read words >>= λ a. next a.1 >>= λ b. Ok ((a.0, b.0), b.1)) (λ p. show p.0 ++ tell p.1) (λ p. Is p.0 × Holds p.1)
two_read {A} {B} {read} {next} {show} {tell} {Is} {Holds} first second = record {
  found = λ words x e.
      let a = bind_ok (read words) (λ a. next a.1 >>= λ b. Ok ((a.0, b.0), b.1)) x e in
      let b = bind_ok (next a.0.1) (λ b. Ok ((a.0.0, b.0), b.1)) x a.2 in
      let f = first.found words a.0 a.1 in
      let s = second.found a.0.1 b.0 b.1 in
      grind (arith, common_steps);
  again = λ p rest is. rw (append_assoc (show p.0) (tell p.1) rest, first.again p.0 (tell p.1 ++ rest) is.0, second.again p.1 rest is.1) refl;
  are = λ p is. words_then (show p.0) (tell p.1) (first.are p.0 is.0) (second.are p.1 is.1);
}

-- a third behind two
three_read : {A B C : Type 0} {read : List (List ℕ) → Result ((A × B) × List (List ℕ)) LineFault} {next : List (List ℕ) → Result (C × List (List ℕ)) LineFault} {show : A × B → List (List ℕ)} {tell : C → List (List ℕ)} {Holds : C → Type 0} (Is : A → Type 0) (Has : B → Type 0)
    → IsReader {A = A × B} read show (λ p. Is p.0 × Has p.1) → IsReader next tell Holds
    → IsReader {A = A × B × C} (λ words. read words >>= λ a. next a.1 >>= λ b. Ok ((a.0.0, a.0.1, b.0), b.1)) (λ p. show (p.0, p.1) ++ tell p.2) (λ p. Is p.0 × Has p.1 × Holds p.2)
three_read {A} {B} {C} {read} {next} {show} {tell} {Holds} Is Has first second = record {
  found = λ words x e.
      let a = bind_ok (read words) (λ a. next a.1 >>= λ b. Ok ((a.0.0, a.0.1, b.0), b.1)) x e in
      let b = bind_ok (next a.0.1) (λ b. Ok ((a.0.0.0, a.0.0.1, b.0), b.1)) x a.2 in
      let f = first.found words a.0 a.1 in
      let s = second.found a.0.1 b.0 b.1 in
      grind (arith, common_steps);
  again = λ p rest is. rw (append_assoc (show (p.0, p.1)) (tell p.2) rest, first.again (p.0, p.1) (tell p.2 ++ rest) (is.0, is.1), second.again p.2 rest is.2) refl;
  are = λ p is. words_then (show (p.0, p.1)) (tell p.2) (first.are (p.0, p.1) (is.0, is.1)) (second.are p.2 is.2);
}

number_read : IsReader number_at (λ n. decimal n ∷ []) IsNumber
number_read = record { found = number_word; again = number_again; are = λ n is. (number_is_word n is, tt) }

module _ (format : Format) where
  key_read : IsReader (key_at format) (λ key. spelling key ∷ []) (IsKey format)
  key_read = record { found = key_word format; again = key_again format; are = λ key is. (bytes_word key is.2, tt) }

  value_read : IsReader (value_at format) (λ value. spelling value ∷ []) (IsValue format)
  value_read = record { found = value_word format; again = value_again format; are = λ value is. (bytes_word value is.1, tt) }

  span_read : IsReader (span_at format) (λ span. bound_word span.lo ∷ bound_word span.hi ∷ []) (IsSpan format)
  span_read = record { found = span_words format; again = span_again format; are = λ span is. (bound_is_word format span.lo is.0, (bound_is_word format span.hi is.1, tt)) }

  -- the words behind a name
  pub parts_read : (s : Signature) → IsReader (parts_at format s) (parts_words s) (AreParts format s)
  unfolding parts_at number_and_key_at number_and_span_at opening_at opening_every_at
  parts_read Nothing = record { found = λ words x e. subst (λ (y : Unit {0} × List (List ℕ)). (words ≡ y.1) × Unit {0}) (ok_is (tt, words) x e) (refl, tt); again = λ p rest is. refl; are = λ p is. tt }
  parts_read Number = number_read
  parts_read Numbers = two_read number_read number_read
  parts_read NumberKey = two_read number_read key_read
  parts_read NumberKeyValue = three_read IsNumber (IsKey format) (two_read number_read key_read) value_read
  parts_read NumberSpan = two_read number_read span_read
  parts_read SpanNumber = two_read span_read number_read
  parts_read SpanNumbers = three_read (IsSpan format) IsNumber (two_read span_read number_read) number_read

  -- what is written of a command is words
  pub command_words : (c : Cmd) → IsCommand format c → AllByRecursion IsWord (words_of c)
  unfolding IsCommand
  command_words c is = let p = pieces_of c in rw (words_are c) ((names_some p.verb, names p.verb), (parts_read (layout_of p.verb).signature).are p.parts is)
