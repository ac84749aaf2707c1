-- The first newline.
use Rattle.std.proofs.Common.{◌≡◌, ℕ, suc, ◌+◌, ◌-◌, ◌<◌, ◌≤◌, Bool, true, false, List, [], ◌∷◌, ◌++◌, length, get_or, take, drop, Option, Some, None, arith, refl, ◌∙◌, sym, ap, cond, inl, inr}
use Rattle.std.specs.Prelude.{position, is_some, IfSome}
use Rattle.sessions.proofs.Common.{fails_before_first, false_from_ne_true, has_newline, is_newline, le-ltb, length-append, length-take-le, lt-ltb, position_or_len, position_or_len_is, take-append-drop}
use Rattle.std.proofs.lemmas.List.Recursion.{is_position_or_len}
use Rattle.memchr.specs.Find.{IsFirstByte, is_byte}
use Rattle.word_lines.proofs.Splitting.{end_is, place_cases}

pub first_newline : (bytes : List ℕ) (r : _) → IsFirstByte (is_byte 10) bytes r → (r ≡ position is_newline bytes) × IfSome r (λ at. at < length bytes)
first_newline bytes None h =
    let n : position_or_len is_newline bytes ≡ length bytes = position_or_len_is is_newline bytes (length bytes) 0 (omega arith) (λ k lt. false_from_ne_true (is_newline (get_or bytes k 0)) (h k (omega arith) lt)) (λ lt. absurd (omega arith)) in
    (sym (ap (λ (b : Bool). cond b (Some (position_or_len is_newline bytes)) None) (le-ltb (position_or_len is_newline bytes) (length bytes) (omega (arith, n)))), tt)
first_newline bytes (Some at) h =
    let high : at < length bytes = h.0.high in
    let n : position_or_len is_newline bytes ≡ at = position_or_len_is is_newline bytes at 0 (omega arith) (λ k lt. false_from_ne_true (is_newline (get_or bytes k 0)) (h.0.before k (omega arith) lt)) (λ lt. h.1) in
    (sym (ap (λ (b : Bool). cond b (Some (position_or_len is_newline bytes)) None) (lt-ltb (position_or_len is_newline bytes) (length bytes) (omega (arith, n, high))) ∙ ap (λ (k : ℕ). Some k) n), high)

-- ---- in two parts

-- how many bytes stand before the first newline
abbrev before : List ℕ → ℕ
before [] = 0
before (b ∷ bytes) = cond (is_newline b) 0 (suc (before bytes))

before_is : (bytes : List ℕ) → before bytes ≡ position_or_len is_newline bytes
before_is bytes = is_position_or_len before is_newline refl (λ b bytes. ap (λ (n : ℕ). cond (is_newline b) 0 n) (omega arith)) bytes

kept_step : (s : Bool) (n m k : ℕ) → cond s 0 (suc n) < suc k → (n < k → m ≡ n) → cond s 0 (suc m) ≡ cond s 0 (suc n)
kept_step true n m k low same = refl
kept_step false n m k low same = ap suc (same (omega arith))

before_kept : (xs ys : List ℕ) → before xs < length xs → before (xs ++ ys) ≡ before xs
before_kept [] ys low = absurd (omega arith)
before_kept (x ∷ xs) ys low = kept_step (is_newline x) (before xs) (before (xs ++ ys)) (length xs) low (before_kept xs ys)

behind_step : (s : Bool) (n m k j : ℕ) → suc k ≤ cond s 0 (suc n) → (k ≤ n → m ≡ k + j) → cond s 0 (suc m) ≡ suc k + j
behind_step true n m k j high same = absurd (omega arith)
behind_step false n m k j high same = let e : m ≡ k + j = same (omega arith) in omega (arith, e)

before_behind : (xs ys : List ℕ) → length xs ≤ before xs → before (xs ++ ys) ≡ length xs + before ys
before_behind [] ys high = omega arith
before_behind (x ∷ xs) ys high = behind_step (is_newline x) (before xs) (before (xs ++ ys)) (length xs) (before ys) high (before_behind xs ys)

-- the first newline stands there where so many bytes before it have none
found_at : (bytes : List ℕ) (n : ℕ) → before bytes ≡ n → n < length bytes → Some n ≡ position is_newline bytes
found_at bytes n is low =
    let at : position_or_len is_newline bytes ≡ n = sym (before_is bytes) ∙ is in
    sym (ap (λ (b : Bool). cond b (Some (position_or_len is_newline bytes)) None) (lt-ltb (position_or_len is_newline bytes) (length bytes) (omega (arith, at))) ∙ ap (λ (k : ℕ). Some k) at)

found_none : (bytes : List ℕ) → length bytes ≤ before bytes → None ≡ position is_newline bytes
found_none bytes high =
    sym (ap (λ (b : Bool). cond b (Some (position_or_len is_newline bytes)) None) (le-ltb (position_or_len is_newline bytes) (length bytes) (omega (arith, before_is bytes))))

-- what its place says of the bytes before it
some_before : (bytes : List ℕ) (at : ℕ) → Some at ≡ position is_newline bytes → (before bytes ≡ at) × (at < length bytes)
some_before bytes at is =
    elim (place_cases (position_or_len is_newline bytes) (length bytes) _ (Some at) refl is) [
      | inl h ↦ (let same : before bytes ≡ at = before_is bytes ∙ cc in (same, omega (arith, same, before_is bytes, h.1)))
      | inr h ↦ absurd cc
    ]

none_before : (bytes : List ℕ) → None ≡ position is_newline bytes → length bytes ≤ before bytes
none_before bytes is =
    elim (place_cases (position_or_len is_newline bytes) (length bytes) _ None refl is) [
      | inl h ↦ absurd cc
      | inr h ↦ omega (arith, before_is bytes, h.1)
    ]

-- more bytes behind it leave the first newline where it is
pub newline_stays : (xs ys : List ℕ) (at : ℕ) → Some at ≡ position is_newline xs → Some at ≡ position is_newline (xs ++ ys)
newline_stays xs ys at is =
    let b = some_before xs at is in
    found_at (xs ++ ys) at (before_kept xs ys (omega (arith, b.0, b.1)) ∙ b.0) (omega (arith, b.1, length-append xs ys))

-- where there was none it is the first of those behind
pub newline_comes : (xs ys : List ℕ) (at : ℕ) → None ≡ position is_newline xs → Some at ≡ position is_newline ys → Some (length xs + at) ≡ position is_newline (xs ++ ys)
newline_comes xs ys at none is =
    let b = some_before ys at is in
    found_at (xs ++ ys) (length xs + at) (omega (arith, before_behind xs ys (none_before xs none), b.0)) (omega (arith, b.1, length-append xs ys))

pub newline_lacks : (xs ys : List ℕ) → None ≡ position is_newline xs → None ≡ position is_newline ys → None ≡ position is_newline (xs ++ ys)
newline_lacks xs ys none lacks = found_none (xs ++ ys) (omega (arith, before_behind xs ys (none_before xs none), none_before ys lacks, length-append xs ys))

-- where there is one in the first bytes, it is the first of all
pub newline_known : (bytes : List ℕ) (n : ℕ) (known : Option ℕ) → is_some known ≡ true → known ≡ position is_newline (take n bytes) → known ≡ position is_newline bytes
newline_known bytes n None some is = absurd cc
newline_known bytes n (Some at) some is = newline_stays (take n bytes) (drop n bytes) at is ∙ ap (position is_newline) (take-append-drop n bytes)

-- and where there is none, it is that of the others
none_known : (known : Option ℕ) → is_some known ≡ false → None ≡ known
none_known None none = refl
none_known (Some at) none = absurd cc

pub newline_other : (bytes : List ℕ) (n at : ℕ) (known : Option ℕ) → n ≤ length bytes → is_some known ≡ false → known ≡ position is_newline (take n bytes) → Some at ≡ position is_newline (take (length bytes - n) (drop n bytes)) → Some (n + at) ≡ position is_newline bytes
newline_other bytes n at known within none is found =
    ap (λ (m : ℕ). Some (m + at)) (sym (length-take-le n bytes within))
    ∙ newline_comes (take n bytes) (drop n bytes) at (none_known known none ∙ is) (found ∙ ap (position is_newline) (end_is n bytes))
    ∙ ap (position is_newline) (take-append-drop n bytes)

pub newline_none : (bytes : List ℕ) (n : ℕ) (known : Option ℕ) → is_some known ≡ false → known ≡ position is_newline (take n bytes) → None ≡ position is_newline (take (length bytes - n) (drop n bytes)) → None ≡ position is_newline bytes
newline_none bytes n known none is lacks =
    newline_lacks (take n bytes) (drop n bytes) (none_known known none ∙ is) (lacks ∙ ap (position is_newline) (end_is n bytes)) ∙ ap (position is_newline) (take-append-drop n bytes)

-- it is the first too of the bytes up to it
pub newline_front : (bytes : List ℕ) (at n : ℕ) → Some at ≡ position is_newline bytes → n ≡ at + 1 → n ≤ length bytes → Some at ≡ position is_newline (take n bytes)
newline_front bytes at n is next within =
    let long = length-take-le n bytes within in
    let whole : before (take n bytes ++ drop n bytes) ≡ at = ap before (take-append-drop n bytes) ∙ (some_before bytes at is).0 in
    let here : before (take n bytes) ≡ at = grind (arith, before_kept (take n bytes) (drop n bytes), before_behind (take n bytes) (drop n bytes), whole, long, next) in
    found_at (take n bytes) at here (omega arith)

-- bytes that have none don't end in one
pub no_last : (xs : List ℕ) → None ≡ position is_newline xs → 0 < length xs → has_newline xs ≡ false
no_last xs none some = fails_before_first is_newline xs (length xs - 1) 0 (omega (arith, some, none_before xs none, before_is xs))
