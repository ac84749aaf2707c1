-- Fronts and quotes of a line.
use Rattle.json_lines.proofs.Common.{common_steps, list_all, ltb-false, ltb-true, position_or_len}
use Rattle.std.proofs.Common.{◌≡◌, ℕ, suc, ◌+◌, ◌<◌, Bool, true, false, cond, List, [], ◌∷◌, ◌++◌, length, take, drop, Option, Some, None, Ok, Err, refl, ap, ◌≤◌, ◌⊎◌, inl, inr, arith, rules}
use Rattle.std.specs.Prelude.{nat_eq, nat_lt, not, position}
use Rattle.std.specs.Cmp.Lexicographic.{pointwise}
use Rattle.std.proofs.lemmas.List.Recursion.{is_position_or_len}
use Rattle.json_lines.specs.declared.fault.MessageFault.TheVariants.{Shape}
use Rattle.json_lines.specs.Written.{is_quote, behind, quoted}
use Rattle.json_lines.proofs.Steps.{bind_ok, ok_is}

-- ---- fronts

-- the front stands there
pub behind_yes : (front bytes : List ℕ) → pointwise nat_eq (take (length front) bytes) front ≡ true → behind front bytes ≡ Ok (drop (length front) bytes)
behind_yes [] bytes e = refl
behind_yes (x ∷ front) [] e = absurd cc
behind_yes (x ∷ front) (b ∷ bytes) e = grind (arith, common_steps, behind_yes front bytes)

-- another front stands there
pub behind_no : (front bytes : List ℕ) → pointwise nat_eq (take (length front) bytes) front ≡ false → behind front bytes ≡ Err Shape
behind_no [] bytes e = absurd cc
behind_no (x ∷ front) [] e = refl
behind_no (x ∷ front) (b ∷ bytes) e = grind (arith, common_steps, behind_no front bytes)

-- what stands behind a front is the rest of the bytes
pub behind_found : (front bytes rest : List ℕ) → behind front bytes ≡ Ok rest → bytes ≡ front ++ rest
behind_found [] bytes rest e = ok_is bytes rest e
behind_found (x ∷ front) [] rest e = absurd cc
behind_found (x ∷ front) (b ∷ bytes) rest e = grind (arith, common_steps, behind_found front bytes rest)

-- ---- quotes

-- how many bytes stand before the first quote
abbrev before_quote : List ℕ → ℕ
before_quote [] = 0
before_quote (b ∷ bytes) = cond (is_quote b) 0 (suc (before_quote bytes))

before_quote_is : (bytes : List ℕ) → before_quote bytes ≡ position_or_len is_quote bytes
before_quote_is bytes = is_position_or_len before_quote is_quote refl (λ b bytes. ap (λ (n : ℕ). cond (is_quote b) 0 n) (omega arith)) bytes

quoted_there : (bytes : List ℕ) → before_quote bytes < length bytes → quoted bytes ≡ Ok (take (before_quote bytes) bytes, drop (suc (before_quote bytes)) bytes)
quoted_there [] there = absurd (omega arith)
quoted_there (b ∷ bytes) there = grind (arith, common_steps, quoted_there bytes)

quoted_nowhere : (bytes : List ℕ) → length bytes ≤ before_quote bytes → quoted bytes ≡ Err Shape
quoted_nowhere [] none = refl
quoted_nowhere (b ∷ bytes) none = grind (arith, common_steps, quoted_nowhere bytes)

place_cases : (p n : ℕ) (s : Bool) (at : Option ℕ) → nat_lt p n ≡ s → at ≡ cond s (Some p) None → ((at ≡ Some p) × (p < n)) ⊎ ((at ≡ None) × (n ≤ p))
place_cases p n true at t e = inl (e, ltb-true p n t)
place_cases p n false at t e = inr (e, ltb-false p n t)

pub quoted_some : (bytes : List ℕ) (i : ℕ) → position is_quote bytes ≡ Some i → quoted bytes ≡ Ok (take i bytes, drop (i + 1) bytes)
quoted_some bytes i e = search (place_cases, before_quote_is, quoted_there, rules, arith)

pub quoted_none : (bytes : List ℕ) → position is_quote bytes ≡ None → quoted bytes ≡ Err Shape
quoted_none bytes e = grind (arith, common_steps, place_cases, before_quote_is, quoted_nowhere)

-- a quote stands between the two parts
pub quoted_found : (bytes : List ℕ) (p : List ℕ × List ℕ) → quoted bytes ≡ Ok p → bytes ≡ p.0 ++ 34 ∷ p.1
quoted_found [] p e = absurd cc
quoted_found (b ∷ bytes) p e = grind (arith, common_steps, bind_ok, ok_is, quoted_found bytes)

abbrev pub HasNoQuote : List ℕ → Type 0
HasNoQuote text = list_all (λ b. not (is_quote b)) text ≡ true

-- a text without a quote ends at the first one
pub quoted_again : (text rest : List ℕ) → HasNoQuote text → quoted (text ++ 34 ∷ rest) ≡ Ok (text, rest)
quoted_again [] rest none = refl
quoted_again (b ∷ text) rest none = grind (arith, common_steps, quoted_again text rest)
