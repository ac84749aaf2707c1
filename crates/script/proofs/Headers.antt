-- A text behind its header.
use Rattle.script.proofs.Common.{All, Event, Format, IsEvent, WordCount, bytes_eq-Decides, common_steps, decimal_all, drop_at, format_of, header, header_lines, heading_text, list_all, ne_eqb, recursion_from_All, take_at}
use Rattle.std.proofs.Common.{◌≡◌, ℕ, ◌+◌, ◌≤◌, ◌<◌, Bool, true, false, List, [], ◌∷◌, ◌++◌, length, take, drop, Err, refl, sym, ap, ◌∙◌, arith}
use Rattle.std.specs.Prelude.{bytes_eq, not, ◌==◌, ◌^◌}
use Rattle.std.proofs.lemmas.Fmt.{decimal_nonempty}
use Rattle.text_format.specs.declared.Format.TheVariants.{One, Two}
use Rattle.script.specs.EventLines.{Place, lines_of}
use Rattle.script.specs.Transcripts.{HasHeader, body_at, left_at, left_of, transcript_at, transcript_text}

-- a text that begins with its header
pub behind_header : (format : Format) (text : List ℕ) → bytes_eq (take (length (header format)) text) (header format) ≡ true → transcript_at format text ≡ body_at format (drop (length (header format)) text)
unfolding transcript_at
behind_header format text e = rw e refl

-- it is the header and what stands behind it
pub header_is : (format : Format) (text : List ℕ) → bytes_eq (take (length (header format)) text) (header format) ≡ true → text ≡ header format ++ drop (length (header format)) text
header_is format text e = grind (arith, common_steps)

-- a text that doesn't
pub no_header : (format : Format) (text : List ℕ) → bytes_eq (take (length (header format)) text) (header format) ≡ false → transcript_at format text ≡ Err (record { line = 1; fault = WordCount })
unfolding transcript_at
no_header format text e = rw e refl

-- where a header is found in front of a text
pub front_found : (format : Format) (front text body : List ℕ) → front ≡ header format → bytes_eq (take (length front) text) front ≡ true → body ≡ drop (length front) text
    → (text ≡ header format ++ body) × (transcript_at format text ≡ body_at format body)
front_found format front text body is e rest = grind (arith, common_steps, header_is, behind_header)

-- where it isn't
pub front_missing : (format : Format) (front text : List ℕ) → front ≡ header format → bytes_eq (take (length front) text) front ≡ false → transcript_at format text ≡ Err (record { line = 1; fault = WordCount })
front_missing format front text is e = no_header format text (ap (λ (x : List ℕ). bytes_eq (take (length x) text) x) (sym is) ∙ e)

-- then the text has no header
pub no_front : (format : Format) (front text : List ℕ) → front ≡ header format → bytes_eq (take (length front) text) front ≡ false → HasHeader format text → ⊥
no_front format front text is e begins = grind (arith, common_steps)

-- what is left behind the header
pub front_left : (format : Format) (front text body : List ℕ) (p : Place) → front ≡ header format → bytes_eq (take (length front) text) front ≡ true → body ≡ drop (length front) text → p ≡ record { number = 1 + header_lines format; lines = lines_of body }
    → HasHeader format text × (left_at format p ≡ left_of format text)
front_left format front text body p is e rest begins = grind (arith, common_steps)

-- what is written behind a header stands behind it
pub header_again : (format : Format) (body : List ℕ) → transcript_at format (header format ++ body) ≡ body_at format body
header_again format body = grind (arith, common_steps, take_at, behind_header, bytes_eq-Decides, drop_at)

-- ---- the format of a transcript

abbrev isnt_m : ℕ → Bool
isnt_m b = not (b == 109)

-- what begins with a word that has no `m` has no header in front
no_header_begins : (word rest : List ℕ) → 1 ≤ length word → list_all isnt_m word ≡ true → bytes_eq (take (length (header Two)) (word ++ rest)) (header Two) ≡ false
no_header_begins [] rest some all = absurd (omega (arith, some))
no_header_begins (b ∷ bs) rest some all = first (b == 109) refl all
  where
    first : (is : Bool) → (b == 109) ≡ is → list_all isnt_m (b ∷ bs) ≡ true → bytes_eq (take (length (header Two)) ((b ∷ bs) ++ rest)) (header Two) ≡ false
    first true is all = let no : false ≡ true = rw is at all in cc
    first false is all = rw is refl

-- events are written as digits first
no_header_written : (e : Event) (rest : List ℕ) → e.position < 2 ^ 64 → bytes_eq (take (length (header Two)) (heading_text e ++ rest)) (header Two) ≡ false
no_header_written e rest small = grind (arith, common_steps, no_header_begins, decimal_nonempty, decimal_all, ne_eqb)

-- a transcript is found to be in the format that it is written in
pub format_again : (format : Format) (es : List Event) → All (IsEvent format) es → format_of (transcript_text format es) ≡ format
format_again Two es are = refl
format_again One [] are = refl
format_again One (e ∷ es) are =
    let first = recursion_from_All (IsEvent One) (e ∷ es) are in
    grind (arith, common_steps, no_header_written)
