-- Where long words stand among those that are read.
use Rattle.std.proofs.Common.{◌≡◌, ℕ, Bool, true, false, cond, ◌||◌, List, [], ◌∷◌, length, Option, Some, None, Result, Ok, Err, refl, ap, ◌∙◌}
use Rattle.std.specs.Prelude.{codes, drop, bytes_eq, ok_or, ◌&&◌, nat_le}
use Rattle.text_format.specs.Limits.{key_limit, bound_limit}
use Rattle.text_format.specs.declared.Format.{Format}
use Rattle.json_lines.specs.Meaning.{number_of}
use Rattle.spelled_words.specs.declared.fault.LineFault.{LineFault}
use Rattle.spelled_words.specs.declared.fault.LineFault.TheVariants.{Number, KeyLength, BadByte}
use Rattle.spelled_words.specs.Reading.{is_long, has_long, ◌>>=◌, bytes_at, number_at, key_at, bound_at}
use Rattle.spelled_words.specs.Words.{bytes_of}

-- a word stands before those that are left
abbrev pub Behind : {A : Type 0} → List (List ℕ) → A × List (List ℕ) → Type 0
Behind words x = (word : List ℕ) × (words ≡ word ∷ x.1)

left_number : (n : Option ℕ) (word : List ℕ) (words : List (List ℕ)) (x : ℕ × List (List ℕ)) → (ok_or n Number >>= λ n. Ok (n, words)) ≡ Ok x → Behind (word ∷ words) x
left_number None word words x e = absurd cc
left_number (Some n) word words x e = (word, cc)

pub behind_number : (words : List (List ℕ)) (x : ℕ × List (List ℕ)) → number_at words ≡ Ok x → Behind words x
unfolding number_at
behind_number [] x e = absurd cc
behind_number (word ∷ words) x e = left_number (number_of word) word words x e

left_tested : (t : Bool) (fault : LineFault) (bytes word : List ℕ) (words : List (List ℕ)) (x : List ℕ × List (List ℕ)) → cond t (Ok (bytes, words)) (Err fault) ≡ Ok x → Behind (word ∷ words) x
left_tested true fault bytes word words x e = (word, cc)
left_tested false fault bytes word words x e = absurd cc

left_bytes : (least most : ℕ) (fault : LineFault) (b : Option (List ℕ)) (word : List ℕ) (words : List (List ℕ)) (x : List ℕ × List (List ℕ))
    → (ok_or b BadByte >>= λ bytes. cond (nat_le least (length bytes) && nat_le (length bytes) most) (Ok (bytes, words)) (Err fault)) ≡ Ok x → Behind (word ∷ words) x
left_bytes least most fault None word words x e = absurd cc
left_bytes least most fault (Some bytes) word words x e = left_tested (nat_le least (length bytes) && nat_le (length bytes) most) fault bytes word words x e

behind_bytes : (least most : ℕ) (fault : LineFault) (words : List (List ℕ)) (x : List ℕ × List (List ℕ)) → bytes_at least most fault words ≡ Ok x → Behind words x
behind_bytes least most fault [] x e = absurd cc
behind_bytes least most fault (word ∷ words) x e = left_bytes least most fault (bytes_of word) word words x e

-- the bytes of a bound
some_bound : (word : List ℕ) (words : List (List ℕ)) (read : Result (List ℕ × List (List ℕ)) LineFault) (x : Option (List ℕ) × List (List ℕ))
    → ((y : List ℕ × List (List ℕ)) → read ≡ Ok y → Behind (word ∷ words) y) → (read >>= λ b. Ok (Some b.0, b.1)) ≡ Ok x → Behind (word ∷ words) x
some_bound word words (Err f) x behind e = absurd cc
some_bound word words (Ok y) x behind e = let b = behind y refl in (b.0, b.1 ∙ ap (λ (rest : List (List ℕ)). b.0 ∷ rest) cc)

left_bound : (format : Format) (none : Bool) (word : List ℕ) (words : List (List ℕ)) (x : Option (List ℕ) × List (List ℕ))
    → cond none (Ok (None, words)) (bytes_at 1 (bound_limit format) KeyLength (word ∷ words) >>= λ b. Ok (Some b.0, b.1)) ≡ Ok x → Behind (word ∷ words) x
left_bound format true word words x e = (word, cc)
left_bound format false word words x e = some_bound word words (bytes_at 1 (bound_limit format) KeyLength (word ∷ words)) x (λ y is. behind_bytes 1 (bound_limit format) KeyLength (word ∷ words) y is) e

pub behind_bound : (format : Format) (words : List (List ℕ)) (x : Option (List ℕ) × List (List ℕ)) → bound_at format words ≡ Ok x → Behind words x
unfolding bound_at
behind_bound format [] x e = absurd cc
behind_bound format (word ∷ words) x e = left_bound format (bytes_eq word (codes "-")) word words x e

pub long_behind : {A : Type 0} (words : List (List ℕ)) (x : A × List (List ℕ)) → Behind words x → has_long 1 x.1 ≡ true → has_long 2 words ≡ true
long_behind words x behind long = rw behind.1 (second (is_long behind.0) x.1 long)
  where
    second : (a : Bool) (rest : List (List ℕ)) → has_long 1 rest ≡ true → (a || has_long 1 rest) ≡ true
    second true rest long = refl
    second false rest long = long

pub left_long : {A : Type 0} (words : List (List ℕ)) (x : A × List (List ℕ)) (count : ℕ) → Behind words x → has_long count x.1 ≡ true → has_long count (drop 1 words) ≡ true
left_long words x count behind long = rw behind.1 long

pub behind_key : (format : Format) (words : List (List ℕ)) (x : List ℕ × List (List ℕ)) → key_at format words ≡ Ok x → Behind words x
unfolding key_at
behind_key format words x e = behind_bytes 1 (key_limit format) KeyLength words x e
