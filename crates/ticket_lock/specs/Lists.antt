-- Lists of entries and of numbers.
use Rattle.std.specs.Prelude.{◌≡◌, ℕ, zero, suc, ◌==◌, nat_lt, List, [], ◌∷◌, ◌++◌, filter, length, cond}

-- the greatest number of a word: no ticket bears it
abbrev pub most : ℕ
most = 18446744073709551615

-- the list begins with what was seen
abbrev pub StartsWith : {E : Type 0} → List E → List E → Type 0
StartsWith whole seen = (rest : List _) × (whole ≡ seen ++ rest)

-- the entries of a list that name the seat of this number, in their order
abbrev pub of_seat : {E : Type 0} → (E → ℕ) → ℕ → List E → List E
of_seat seat_of n h = filter (λ e. seat_of e == n) h

-- n numbers from a on
abbrev pub span : ℕ → ℕ → List ℕ
span a zero = []
span a (suc n) = a ∷ span (suc a) n

abbrev pub head_or : List ℕ → ℕ
head_or [] = 0
head_or (x ∷ xs) = x

abbrev pub tail : List ℕ → List ℕ
tail [] = []
tail (x ∷ xs) = xs

-- of two lists the longer, and the first where they are as long
abbrev pub longer : {E : Type 0} → List E → List E → List E
longer seen heard = cond (nat_lt (length seen) (length heard)) heard seen
