-- Number words and numbers, one to one.
use Rattle.json_lines.proofs.Common.{all_ascii_digits, and_parts, cases_lt, common_steps, decimal-digits_value, decimal_digit, decimal_nonempty, digits_decimal, digits_value, digits_value-decimal, digits_value_after, eq-eqb, eqb-true, first_decimal, is_ascii_digit, list_all, lt-ltb, ltb-true, ne_eqb}
use Rattle.std.proofs.Common.{◌≡◌, ℕ, ◌^◌, ◌<◌, Bool, true, false, List, [], ◌∷◌, length, get_or, Some, refl, sym, ap, subst, ◌∙◌, ◌⊎◌, inl, inr, arith, rules}
use Rattle.std.specs.Prelude.{decimal, ◌&&◌, ◌||◌, ◌==◌, not, nat_lt}
use Rattle.std.proofs.lemmas.Str.Parse.{IsNumeralModel, numerals_by_fold}
use Rattle.std.proofs.lemmas.Option.{cond_some}
use Rattle.json_lines.specs.Meaning.{is_number_word, number_of}

own : IsNumeralModel (λ ds. all_ascii_digits ds ≡ true) (digits_value 10)
own = numerals_by_fold _ (search rules) (digits_value_after 10) (search rules)

first_zero : (a : Bool) (b : Bool) → (a || not b) ≡ true → b ≡ true → a ≡ true
first_zero a b e z = grind arith

-- what is read as a number is written so
pub number_found : (word : List ℕ) (n : ℕ) → number_of word ≡ Some n → (word ≡ decimal n) × (n < 2 ^ 64)
unfolding number_of
number_found word n e =
    let h = cond_some (is_number_word word && nat_lt (digits_value 10 word) (2 ^ 64)) (digits_value 10 word) n e in
    let parts = and_parts (is_number_word word) (nat_lt (digits_value 10 word) (2 ^ 64)) h.0 in
    let front = and_parts (nat_lt 0 (length word) && all_ascii_digits word) (length word == 1 || not (get_or word 0 0 == 48)) parts.0 in
    let digits = and_parts (nat_lt 0 (length word)) (all_ascii_digits word) front.0 in
    let small : digits_value 10 word < 2 ^ 64 = ltb-true _ _ parts.1 in
    let zero : get_or word 0 0 ≡ 48 → length word ≡ 1 = λ z. eqb-true _ _ (first_zero (length word == 1) (get_or word 0 0 == 48) front.1 (eq-eqb _ _ z)) in
    let same = decimal-digits_value own word digits.1 (ltb-true _ _ digits.0) zero small in
    (sym same ∙ ap decimal h.1, subst (λ (k : ℕ). k < 2 ^ 64) h.1 small)

zero_or_more : (n : ℕ) → (n ≡ 0) ⊎ (0 < n)
zero_or_more n = elim (cases_lt 0 n) [ inl lt ↦ inr lt | inr le ↦ inl (omega arith) ]

all_three : (a b c d : Bool) → a ≡ true → b ≡ true → c ≡ true → d ≡ true → (((a && b) && c) && d) ≡ true
all_three a b c d p q r s = grind arith

or_not : (a b : Bool) → b ≡ false → (a || not b) ≡ true
or_not a b e = grind arith

no_leading_zero : (n : ℕ) → n < 2 ^ 64 → (length (decimal n) == 1 || not (get_or (decimal n) 0 0 == 48)) ≡ true
no_leading_zero n lt = grind (arith, common_steps, zero_or_more, decimal_digit, or_not, ne_eqb, first_decimal)

-- what is written of a number is read so
pub number_only : (n : ℕ) → n < 2 ^ 64 → number_of (decimal n) ≡ Some n
unfolding number_of
number_only n lt = grind (arith, common_steps, digits_value-decimal, own, all_three, lt-ltb, decimal_nonempty, digits_decimal, no_leading_zero)

-- what is written of a number is digits
pub decimal_digits : (n : ℕ) → n < 2 ^ 64 → all_ascii_digits (decimal n) ≡ true
decimal_digits n lt = digits_decimal own n lt

-- what holds of each digit holds of all of a number word
digits_all : (p : ℕ → Bool) → ((c : ℕ) → is_ascii_digit c ≡ true → p c ≡ true) → (ds : List ℕ) → all_ascii_digits ds ≡ true → list_all p ds ≡ true
digits_all p digit [] all = refl
digits_all p digit (d ∷ ds) all = let h = and_parts (is_ascii_digit d) (all_ascii_digits ds) all in rw (digit d h.0) (digits_all p digit ds h.1)

pub decimal_all : (p : ℕ → Bool) → ((c : ℕ) → is_ascii_digit c ≡ true → p c ≡ true) → (n : ℕ) → n < 2 ^ 64 → list_all p (decimal n) ≡ true
decimal_all p digit n lt = digits_all p digit (decimal n) (decimal_digits n lt)
