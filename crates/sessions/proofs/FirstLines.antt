-- The first line of what waits, whatever comes behind.
use Rattle.std.proofs.Common.{◌≡◌, ℕ, suc, ◌+◌, ◌-◌, ◌<◌, ◌≤◌, ◌⊎◌, ⊎_elim, Bool, true, false, cond, List, [], ◌∷◌, ◌++◌, length, take, drop, Option, Some, None, Err, refl, sym, ap, subst, ◌∙◌, arith, append-nil, length-append, inl, inr}
use Rattle.std.specs.Prelude.{position}
use Rattle.sessions.proofs.Common.{Format, has_newline, is_newline, length-take, line_limit, lines_of, lt-ltb, take-append-add, take-append-le, take-length, text_at, without_newline}
use Rattle.spelled_words.specs.declared.fault.LineFault.TheVariants as faults
use Rattle.script.proofs.CutLines.{lines_alone, lines_first}
use Rattle.sessions.specs.declared.lines.Lines.{Lines}
use Rattle.sessions.specs.Waiting.{waiting, IsLine}
use Rattle.sessions.proofs.Finding.{newline_stays, newline_comes, newline_lacks, no_last}

-- bytes without a newline begin the first line
known_first : (xs more : List ℕ) → None ≡ position is_newline xs → 0 < length xs → (x : List ℕ) × (others : List (List ℕ)) × (lines_of (xs ++ more) ≡ (xs ++ x) ∷ others)
known_first xs more none some = by_place (position is_newline more) refl
  where
    by_place : (at : Option ℕ) → at ≡ position is_newline more → (x : List ℕ) × (others : List (List ℕ)) × (lines_of (xs ++ more) ≡ (xs ++ x) ∷ others)
    by_place None lacks = (more, lines_of [], lines_alone (xs ++ more) (let l = length-append xs more in omega arith) (newline_lacks xs more none lacks))
    by_place (Some at) is =
        let cut = lines_first (xs ++ more) (length xs + at) (newline_comes xs more at none is) in
        let n : length xs + at + 1 ≡ length xs + (at + 1) = omega arith in (
          take (at + 1) more,
          lines_of (drop (length xs + at + 1) (xs ++ more)),
          cut ∙ ap (λ (l : List ℕ). l ∷ lines_of (drop (length xs + at + 1) (xs ++ more))) (ap (λ (k : ℕ). take k (xs ++ more)) n ∙ take-append-add xs more (at + 1)),
        )

without_step : (limit : ℕ) (s : Bool) (l : List ℕ) → (s ≡ false) ⊎ (suc limit < length l) → limit < length l → limit < length (cond s (take (length l - 1) l) l)
without_step limit true l (inl e) long = absurd cc
without_step limit true l (inr e) long = let q = length-take (length l - 1) l in omega arith
without_step limit false l e long = long

module _ (format : Format) where
  too_long : (line : List ℕ) → (has_newline line ≡ false) ⊎ (suc (line_limit format) < length line) → line_limit format < length line → text_at format line ≡ Err faults.LineTooLong
  unfolding text_at
  too_long line e long = rw (lt-ltb (line_limit format) (length (without_newline line)) (without_step (line_limit format) (has_newline line) line e long)) refl

  -- a line that is too long is so with more behind it
  grown_too_long : (xs x : List ℕ) → None ≡ position is_newline xs → line_limit format < length xs → text_at format (xs ++ x) ≡ Err faults.LineTooLong
  grown_too_long xs [] none long = ap (text_at format) (append-nil xs) ∙ too_long xs (inl (no_last xs none (omega arith))) long
  grown_too_long xs (c ∷ cs) none long = let q = length-append xs (c ∷ cs) in too_long (xs ++ c ∷ cs) (inr (omega arith)) (omega arith)

  -- whatever comes behind what waits, its first line is the same, or both are too long
  pub line_comes : (n : ℕ) (l : Lines) (more : List ℕ) → l.format ≡ format → n ≤ length (waiting l) → IsLine l n → (l.ended ≡ true → more ≡ [])
      → (line : List ℕ) × (others : List (List ℕ)) × (lines_of (waiting l ++ more) ≡ line ∷ others)
      × ((line ≡ take n (waiting l)) ⊎ ((text_at format line ≡ Err faults.LineTooLong) × (text_at format (take n (waiting l)) ≡ Err faults.LineTooLong)))
  line_comes n l more same within (inl h) stops =
      let ws = waiting l in
      let cut = lines_first (ws ++ more) h.0 (newline_stays ws more h.0 h.1) in
      let front : take (h.0 + 1) (ws ++ more) ≡ take n ws = take-append-le (h.0 + 1) ws more (let q = h.2 in omega arith) ∙ ap (λ (k : ℕ). take k ws) (sym h.2) in
      (take (h.0 + 1) (ws ++ more), lines_of (drop (h.0 + 1) (ws ++ more)), cut, inl front)
  line_comes n l more same within (inr h) stops =
      let ws = waiting l in
      let some : 0 < length ws = let q = h.1 in let r = h.2 in omega arith in
      let all : take n ws ≡ ws = ap (λ (k : ℕ). take k ws) h.1 ∙ take-length ws in
      ⊎_elim
      (λ (ended : l.ended ≡ true).
      let z : ws ++ more ≡ ws = ap (λ (ys : List ℕ). ws ++ ys) (stops ended) ∙ append-nil ws in
      (ws, lines_of [], ap lines_of z ∙ lines_alone ws some h.0, inl (sym all)))
      (λ (over : line_limit l.format < n).
      let long : line_limit format < n = subst (λ (x : Format). line_limit x < n) same over in
      let big : line_limit format < length ws = let q = h.1 in omega arith in
      let g = known_first ws more h.0 some in
      (ws ++ g.0, g.1, g.2, inr (grown_too_long ws g.0 h.0 big, ap (text_at format) (all ∙ sym (append-nil ws)) ∙ grown_too_long ws [] h.0 big)))
      h.3
