-- What is read of words is written so, and what is written of words is read so.
use Rattle.word_lines.proofs.Common.{BadByte, Format, IsKey, KeyLength, LineFault, Number, ValueLength, bound_limit, bytes_eq-Decides, common_steps, false_from_ne_true, key_limit, le-leb, lt-ltb, ltb-true, value_limit}
use Rattle.std.proofs.Common.{◌≡◌, ℕ, ◌<◌, ◌≤◌, Bool, true, false, cond, List, [], ◌∷◌, length, Option, Some, None, Result, Ok, Err, refl, ap, subst, ◌∙◌, arith}
use Rattle.std.specs.Prelude.{codes, decimal, bytes_eq, ok_or, ◌&&◌, nat_le}
use Rattle.spans.specs.declared.span.Span.{Span}
use Rattle.word_lines.specs.Meaning.{number_of}
use Rattle.word_lines.specs.Words.{spelling, bytes_of, AreBytes}
use Rattle.word_lines.specs.Events.{bound_word}
use Rattle.word_lines.specs.Limits.{IsNumber, IsValue, IsBound, IsSpan}
use Rattle.word_lines.specs.Reading.{◌>>=◌, word_at, number_at, session_at, bytes_at, key_at, value_at, bound_at, span_at}
use Rattle.word_lines.proofs.NumberWords.{number_found, number_only}
use Rattle.word_lines.proofs.SpelledWords.{spelled_found, some_of, some_is, spelled_only}
use Rattle.word_lines.proofs.Spellings.{both}

-- the value of a step that did not fail
pub bind_ok : {A B E : Type 0} (r : Result A E) (f : A → Result B E) (y : B) → (r >>= f) ≡ Ok y → (x : A) × (r ≡ Ok x) × (f x ≡ Ok y)
bind_ok (Ok x) f y e = (x, refl, e)
bind_ok (Err d) f y e = absurd cc

-- a test that did not fail
pub guarded : {A : Type 0} (b : Bool) (d : LineFault) (x y : A) → cond b (Ok x) (Err d) ≡ Ok y → (b ≡ true) × (x ≡ y)
guarded true d x y e = (refl, cc)
guarded false d x y e = absurd cc

pub refused : {B : Type 0} (b : Bool) (d : LineFault) (r : Result B LineFault) (y : B) → cond b (Err d) r ≡ Ok y → (b ≡ false) × (r ≡ Ok y)
refused true d r y e = absurd cc
refused false d r y e = (refl, e)

pub some_ok : {A : Type 0} (o : Option A) (d : LineFault) (x : A) → ok_or o d ≡ Ok x → o ≡ Some x
some_ok None d x e = absurd cc
some_ok (Some y) d x e = cc

abbrev pub pure : {A E : Type 0} → A → Result A E
pure x = Ok x

pub ok_is : {A E : Type 0} (x y : A) → pure {E = E} x ≡ pure {E = E} y → x ≡ y
ok_is x y e = cc

pub word_found : (words : List (List ℕ)) (w : List ℕ × List (List ℕ)) → word_at words ≡ Ok w → words ≡ w.0 ∷ w.1
word_found [] w e = absurd cc
word_found (word ∷ words) w e = ap (λ (x : List ℕ × List (List ℕ)). x.0 ∷ x.1) (ok_is (word, words) w e)

pub number_word : (words : List (List ℕ)) (x : ℕ × List (List ℕ)) → number_at words ≡ Ok x → (words ≡ decimal x.0 ∷ x.1) × IsNumber x.0
unfolding number_at
number_word words x e =
    let w = bind_ok (word_at words) (λ w. ok_or (number_of w.0) Number >>= λ n. Ok (n, w.1)) x e in
    let n = bind_ok (ok_or (number_of w.0.0) Number) (λ n. Ok (n, w.0.1)) x w.2 in
    let f = number_found w.0.0 n.0 (some_ok (number_of w.0.0) Number n.0 n.1) in
    subst (λ (y : ℕ × List (List ℕ)). (words ≡ decimal y.0 ∷ y.1) × IsNumber y.0) (ok_is (n.0, w.0.1) x n.2) (word_found words w.0 w.1 ∙ ap (λ (v : List ℕ). v ∷ w.0.1) f.0, f.1)

pub session_word : (seats : ℕ) (words : List (List ℕ)) (x : ℕ × List (List ℕ)) → session_at seats words ≡ Ok x → (words ≡ decimal x.0 ∷ x.1) × (x.0 < seats)
unfolding session_at
session_word seats words x e = grind (arith, common_steps, bind_ok, guarded, number_found, some_ok, word_found, ltb-true)

pub bytes_word : (least most : ℕ) (fault : LineFault) (words : List (List ℕ)) (x : List ℕ × List (List ℕ)) → bytes_at least most fault words ≡ Ok x
    → (words ≡ spelling x.0 ∷ x.1) × (least ≤ length x.0) × (length x.0 ≤ most) × AreBytes x.0
bytes_word least most fault words x e =
    let w = bind_ok (word_at words) (λ w. ok_or (bytes_of w.0) BadByte >>= λ b. cond (nat_le least (length b) && nat_le (length b) most) (Ok (b, w.1)) (Err fault)) x e in
    let b = bind_ok (ok_or (bytes_of w.0.0) BadByte) (λ b. cond (nat_le least (length b) && nat_le (length b) most) (Ok (b, w.0.1)) (Err fault)) x w.2 in
    let g = guarded (nat_le least (length b.0) && nat_le (length b.0) most) fault (b.0, w.0.1) x b.2 in
    let h = both (nat_le least (length b.0)) (nat_le (length b.0) most) g.0 in
    let f = spelled_found w.0.0 b.0 (some_ok (bytes_of w.0.0) BadByte b.0 b.1) in
    grind (arith, common_steps)

module _ (format : Format) where
  pub key_word : (words : List (List ℕ)) (x : List ℕ × List (List ℕ)) → key_at format words ≡ Ok x → (words ≡ spelling x.0 ∷ x.1) × IsKey format x.0
  unfolding key_at
  key_word words x e = let h = bytes_word 1 (key_limit format) KeyLength words x e in (h.0, (h.1, h.2, h.3))

  pub value_word : (words : List (List ℕ)) (x : List ℕ × List (List ℕ)) → value_at format words ≡ Ok x → (words ≡ spelling x.0 ∷ x.1) × IsValue format x.0
  unfolding value_at
  value_word words x e = let h = bytes_word 0 (value_limit format) ValueLength words x e in (h.0, (h.2, h.3))

  bound_by : (d : Bool) (words : List (List ℕ)) (w : List ℕ × List (List ℕ)) (x : Option (List ℕ) × List (List ℕ)) → bytes_eq w.0 (codes "-") ≡ d → words ≡ w.0 ∷ w.1
      → cond d (Ok (None, w.1)) (bytes_at 1 (bound_limit format) KeyLength words >>= λ b. Ok (Some b.0, b.1)) ≡ Ok x → (words ≡ bound_word x.0 ∷ x.1) × IsBound format x.0
  bound_by true words w x ed is e =
      subst (λ (y : Option (List ℕ) × List (List ℕ)). (words ≡ bound_word y.0 ∷ y.1) × IsBound format y.0) (ok_is (None, w.1) x e) (is ∙ ap (λ (v : List ℕ). v ∷ w.1) ((bytes_eq-Decides w.0 (codes "-")).0 ed), tt)
  bound_by false words w x ed is e =
      let b = bind_ok (bytes_at 1 (bound_limit format) KeyLength words) (λ b. Ok (Some b.0, b.1)) x e in
      let h = bytes_word 1 (bound_limit format) KeyLength words b.0 b.1 in
      subst (λ (y : Option (List ℕ) × List (List ℕ)). (words ≡ bound_word y.0 ∷ y.1) × IsBound format y.0) (ok_is (Some b.0.0, b.0.1) x b.2) (h.0, (h.1, h.2, h.3))

  pub bound_found : (words : List (List ℕ)) (x : Option (List ℕ) × List (List ℕ)) → bound_at format words ≡ Ok x → (words ≡ bound_word x.0 ∷ x.1) × IsBound format x.0
  unfolding bound_at
  bound_found words x e =
      let w = bind_ok (word_at words) (λ w. cond (bytes_eq w.0 (codes "-")) (Ok (None, w.1)) (bytes_at 1 (bound_limit format) KeyLength words >>= λ b. Ok (Some b.0, b.1))) x e in
      bound_by (bytes_eq w.0.0 (codes "-")) words w.0 x refl (word_found words w.0 w.1) w.2

  pub span_words : (words : List (List ℕ)) (x : Span × List (List ℕ)) → span_at format words ≡ Ok x → (words ≡ bound_word x.0.lo ∷ bound_word x.0.hi ∷ x.1) × IsSpan format x.0
  unfolding span_at
  span_words words x e =
      let lo = bind_ok (bound_at format words) (λ lo. bound_at format lo.1 >>= λ hi. Ok (record { lo = lo.0; hi = hi.0 }, hi.1)) x e in
      let hi = bind_ok (bound_at format lo.0.1) (λ hi. Ok (record { lo = lo.0.0; hi = hi.0 }, hi.1)) x lo.2 in
      let l = bound_found words lo.0 lo.1 in
      let h = bound_found lo.0.1 hi.0 hi.1 in
      let made : Span × List (List ℕ) = (record { lo = lo.0.0; hi = hi.0.0 }, hi.0.1) in
      subst (λ (y : Span × List (List ℕ)). (words ≡ bound_word y.0.lo ∷ bound_word y.0.hi ∷ y.1) × IsSpan format y.0) (ok_is made x hi.2) (l.0 ∙ ap (λ (v : List (List ℕ)). bound_word lo.0.0 ∷ v) h.0, (l.1, h.1))

-- ---- what is written of a word is read so

-- a number word is read as its number
pub number_again : (n : ℕ) (rest : List (List ℕ)) → IsNumber n → number_at (decimal n ∷ rest) ≡ Ok (n, rest)
unfolding number_at
number_again n rest is = rw (number_only n is) refl

-- and as a session, below the seats
pub session_again : (seats n : ℕ) (rest : List (List ℕ)) → n < seats → IsNumber n → session_at seats (decimal n ∷ rest) ≡ Ok (n, rest)
unfolding session_at
session_again seats n rest lt is = rw (number_only n is, lt-ltb n seats lt) refl

-- a spelling is read as its bytes
bytes_again : (least most : ℕ) (fault : LineFault) (bytes : List ℕ) (rest : List (List ℕ)) → least ≤ length bytes → length bytes ≤ most → AreBytes bytes → bytes_at least most fault (spelling bytes ∷ rest) ≡ Ok (bytes, rest)
bytes_again least most fault bytes rest low high fits = rw (spelled_only bytes fits, le-leb least (length bytes) low, le-leb (length bytes) most high) refl

module _ (format : Format) where
  pub key_again : (key : List ℕ) (rest : List (List ℕ)) → IsKey format key → key_at format (spelling key ∷ rest) ≡ Ok (key, rest)
  unfolding key_at
  key_again key rest is = bytes_again 1 (key_limit format) _ key rest is.0 is.1 is.2

  pub value_again : (value : List ℕ) (rest : List (List ℕ)) → IsValue format value → value_at format (spelling value ∷ rest) ≡ Ok (value, rest)
  unfolding value_at
  value_again value rest is = bytes_again 0 (value_limit format) _ value rest (omega arith) is.0 is.1

-- a bound isn't written as none is
no_dash : (bound : List ℕ) → 1 ≤ length bound → AreBytes bound → bytes_eq (spelling bound) (codes "-") ≡ false
unfolding bytes_of
no_dash bound some fits = grind (arith, common_steps, false_from_ne_true, some_of, spelled_only, bytes_eq-Decides, some_is)

module _ (format : Format) where
  bound_again : (bound : Option (List ℕ)) (rest : List (List ℕ)) → IsBound format bound → bound_at format (bound_word bound ∷ rest) ≡ Ok (bound, rest)
  unfolding bound_at
  bound_again None rest is = refl
  bound_again (Some bound) rest is = rw (no_dash bound is.0 is.2, bytes_again 1 (bound_limit format) _ bound rest is.0 is.1 is.2) refl

  pub span_again : (span : Span) (rest : List (List ℕ)) → IsSpan format span → span_at format (bound_word span.lo ∷ bound_word span.hi ∷ rest) ≡ Ok (span, rest)
  unfolding span_at
  span_again span rest is = rw (bound_again span.lo (bound_word span.hi ∷ rest) is.0, bound_again span.hi rest is.1) refl
