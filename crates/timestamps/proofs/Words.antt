-- What the words of some bytes are, and how they decide the order of two lists.
use Rattle.std.proofs.lemmas.Bool.Decides.{nat_tests}
use Rattle.std.proofs.lemmas.Grind.{common_steps}
use Rattle.std.proofs.Common.{ℕ, zero, suc, List, [], ◌∷◌, ◌≡◌, ◌≤◌, ◌+◌, ◌*◌, refl, sym, ap, ◌∙◌, arith, get_or, take, drop, nat_cmp, subst}
use Rattle.std.proofs.Math.Nat.{mul_assoc}
use Rattle.timestamps.proofs.Common.{drop-nil, get_or-drop, get_or-take, get_or_past, length-take}
use Rattle.timestamps.specs.Bytes.{key_cmp, AreBytes, front_from, front_of}
use Rattle.timestamps.proofs.Fronts.{cmp_on, front_read, fronts_differ}

-- how many numbers n bytes can be
abbrev width : ℕ → ℕ
width zero = 1
width (suc n) = 256 * width n

-- what stands in front of n bytes
in_front : (n a b c : ℕ) (xs : List ℕ) → c ≡ a + b → front_from n c xs ≡ a * width n + front_from n b xs
in_front zero a b c xs e = omega arith
in_front (suc n) a b c [] e = grind (arith, common_steps, mul_assoc a 256 (width n), in_front n (a * 256) (b * 256) (c * 256) [] (omega arith))
in_front (suc n) a b c (x ∷ xs) e = grind (arith, common_steps, mul_assoc a 256 (width n), in_front n (a * 256) (b * 256 + x) (c * 256 + x) xs (omega arith))

-- the bytes of a list go on where its first end
front_on : (k m n a : ℕ) (xs : List ℕ) → k ≡ m + n → front_from k a xs ≡ front_from n (front_from m a xs) (drop m xs)
front_on k zero n a xs e = let same : k ≡ n = omega arith in ap (λ t. front_from t a xs) same
front_on zero (suc m) n a xs e = absurd (omega arith)
front_on (suc k) (suc m) n a [] e = front_on k m n (a * 256) [] (omega arith) ∙ ap (front_from n (front_from m (a * 256) [])) (drop-nil m)
front_on (suc k) (suc m) n a (x ∷ xs) e = front_on k m n (a * 256 + x) xs (omega arith)

-- one word more
last_front : (m : ℕ) (xs : List ℕ) → front_from (m + 8) 0 xs ≡ front_from m 0 xs * width 8 + front_of (drop m xs)
last_front m xs = let front = front_from m 0 xs in front_on (m + 8) m 8 0 xs refl ∙ in_front 8 front 0 front (drop m xs) (omega arith)

-- one word more that two lists have alike
pub alike_on : (m : ℕ) (xs ys : List ℕ) → front_from m 0 xs ≡ front_from m 0 ys → front_of (drop m xs) ≡ front_of (drop m ys) → front_from (m + 8) 0 xs ≡ front_from (m + 8) 0 ys
alike_on m xs ys same next = last_front m xs ∙ rw (same, next) (sym (last_front m ys))

-- zeros that are left out are read all the same
pub front_alike : (n a : ℕ) (xs ys : List ℕ) → ((k : ℕ) → get_or xs k 0 ≡ get_or ys k 0) → front_from n a xs ≡ front_from n a ys
front_alike zero a xs ys same = refl
front_alike (suc n) a [] [] same = refl
front_alike (suc n) a [] (y ∷ ys) same = grind (arith, common_steps, same 0, front_alike n (a * 256) [] ys (λ k. same (suc k)))
front_alike (suc n) a (x ∷ xs) [] same = grind (arith, common_steps, same 0, front_alike n (a * 256) xs [] (λ k. same (suc k)))
front_alike (suc n) a (x ∷ xs) (y ∷ ys) same = grind (arith, common_steps, same 0, front_alike n (a * 256 + y) xs ys (λ k. same (suc k)))

pub take_bytes : (n : ℕ) (xs : List ℕ) → AreBytes xs → AreBytes (take n xs)
take_bytes n xs h = λ k. grind (arith, common_steps, nat_tests, h k, get_or-take n xs k 0, get_or_past (take n xs) k 0, length-take n xs)

pub words_differ : (m : ℕ) (xs ys : List ℕ) → AreBytes xs → AreBytes ys → front_from m 0 xs ≡ front_from m 0 ys → (front_of (drop m xs) ≡ front_of (drop m ys) → ⊥) → key_cmp xs ys ≡ nat_cmp (front_of (drop m xs)) (front_of (drop m ys))
words_differ m xs ys h g same f =
    let left = last_front m xs in let right = last_front m ys in
    grind (arith, common_steps, fronts_differ (m + 8) 0 xs ys h g, cmp_on (front_from m 0 ys * width 8) (front_of (drop m xs)) (front_of (drop m ys)))

-- a whole word is that of the bytes whose first it was read from
pub chunk_word : (xs first : List ℕ) → first ≡ take 8 xs → front_of xs
    ≡ get_or first 0 0 * 72057594037927936 + get_or first 1 0 * 281474976710656 + get_or first 2 0 * 1099511627776 + get_or first 3 0 * 4294967296 + get_or first 4 0 * 16777216 + get_or first 5 0 * 65536 + get_or first 6 0 * 256 + get_or first 7 0
chunk_word xs first same = front_read xs first (λ k l. ap (λ t. get_or t k 0) same ∙ get_or-take 8 xs k 0 l)

-- zeros behind a text are read as if it had ended
pub read_padded : (len : ℕ) (bytes : List ℕ) → ((j : ℕ) → len ≤ j → get_or bytes j 0 ≡ 0) → (i : ℕ) → get_or bytes i 0 ≡ get_or (take len bytes) i 0
read_padded len bytes zeros i = grind (arith, common_steps, nat_tests, zeros i, get_or-take len bytes i 0, get_or_past (take len bytes) i 0, length-take len bytes)

-- and are in no word of it
pub word_padded : (k len : ℕ) (bytes : List ℕ) → ((j : ℕ) → len ≤ j → get_or bytes j 0 ≡ 0) → front_of (drop k bytes) ≡ front_of (drop k (take len bytes))
word_padded k len bytes zeros = front_alike 8 0 (drop k bytes) (drop k (take len bytes)) (λ j. get_or-drop k bytes j 0 ∙ read_padded len bytes zeros (k + j) ∙ sym (get_or-drop k (take len bytes) j 0))

-- Two short texts that are the same up to a word: the words decide where they differ, and the texts are the same up to the next where they don't.
module _ (text others : List ℕ) (h : AreBytes text) (g : AreBytes others) (i : ℕ) (same : front_from (8 * i) 0 text ≡ front_from (8 * i) 0 others) where
  pub word_decides : (word word' : ℕ) → word ≡ front_of (drop (8 * i) text) → word' ≡ front_of (drop (8 * i) others) → (word ≡ word' → ⊥) → nat_cmp word word' ≡ key_cmp text others
  word_decides word word' is is' differ = rw (is, is') (sym (words_differ (8 * i) text others h g same (λ e. differ (is ∙ e ∙ sym is'))))

  pub word_goes_on : (word word' : ℕ) → word ≡ front_of (drop (8 * i) text) → word' ≡ front_of (drop (8 * i) others) → word ≡ word' → front_from (8 * (i + 1)) 0 text ≡ front_from (8 * (i + 1)) 0 others
  word_goes_on word word' is is' e = let on : 8 * i + 8 ≡ 8 * (i + 1) = omega arith in subst (λ k. front_from k 0 text ≡ front_from k 0 others) on (alike_on (8 * i) text others same (sym is ∙ e ∙ is'))
