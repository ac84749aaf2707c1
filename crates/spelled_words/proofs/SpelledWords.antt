-- Spelled bytes and words, one to one.
use Rattle.spelled_words.proofs.Common.{append-nil, cases_Bool, common_steps, eqb-false, eqb-true, flat_map}
use Rattle.std.proofs.Common.{◌≡◌, ℕ, ◌+◌, ◌*◌, ◌<◌, Bool, true, false, cond, List, [], ◌∷◌, length, Option, Some, None, refl, sym, ap, subst, ◌∙◌, inl, inr, arith}
use Rattle.std.specs.Prelude.{codes, bytes_eq, ◌==◌, option_and_then}
use Rattle.std.proofs.lemmas.Slice.Eq.{bytes_eq-Decides}
use Rattle.spelled_words.specs.Words.{is_plain, hex_value, escape, escaped, spelled, spelling, with_front, unspelled, bytes_of, AreBytes}

abbrev pub some_of : {A : Type 0} → A → Option A
some_of x = Some x

pub some_is : {A : Type 0} (x y : A) → some_of x ≡ some_of y → x ≡ y
some_is x y e = cc

-- a test that held
pub chosen : {A : Type 0} (b : Bool) (x y : A) → cond b (some_of x) None ≡ some_of y → (b ≡ true) × (x ≡ y)
chosen true x y e = (refl, cc)
chosen false x y e = absurd cc

-- what two digits say
record IsEscaped (h l b : ℕ) : Type 0 where
  text : escape b ≡ 37 ∷ h ∷ l ∷ []
  hidden : is_plain b ≡ false
  byte : b < 256

escaped_by : (h l b : ℕ) (x y : Option ℕ) → hex_value h ≡ x → hex_value l ≡ y → option_and_then (λ p. option_and_then (λ q. cond (is_plain (p * 16 + q)) None (some_of (p * 16 + q))) y) x ≡ Some b → IsEscaped h l b
escaped_by h l b None y eh el e = absurd cc
escaped_by h l b (Some p) None eh el e = absurd cc
escaped_by h l b (Some p) (Some q) eh el e = grind (arith, common_steps)

escaped_found : (h l b : ℕ) → escaped h l ≡ Some b → IsEscaped h l b
escaped_found h l b e = escaped_by h l b (hex_value h) (hex_value l) refl refl e

-- the word is these bytes, each as itself or escaped
abbrev Spells : List ℕ → List ℕ → Type 0
Spells word bytes = (flat_map spelled bytes ≡ word) × AreBytes bytes

plain_front : (c : ℕ) (word bytes : List ℕ) → is_plain c ≡ true → Spells word bytes → Spells (c ∷ word) (c ∷ bytes)
plain_front c word bytes plain rest = grind (arith, common_steps)

escape_front : (h l b : ℕ) (word bytes : List ℕ) → IsEscaped h l b → Spells word bytes → Spells (37 ∷ h ∷ l ∷ word) (b ∷ bytes)
escape_front h l b word bytes is rest = grind (arith, common_steps)

escape_found : (h l : ℕ) (word : List ℕ) (o : Option ℕ) (v : Option (List ℕ)) (bytes : List ℕ) → escaped h l ≡ o → ((bs : List ℕ) → v ≡ Some bs → Spells word bs) → option_and_then (λ b. with_front b v) o ≡ Some bytes → Spells (37 ∷ h ∷ l ∷ word) bytes
escape_found h l word None v bytes eo iv e = absurd cc
escape_found h l word (Some b) None bytes eo iv e = absurd cc
escape_found h l word (Some b) (Some bs) bytes eo iv e = subst (λ (x : List ℕ). Spells (37 ∷ h ∷ l ∷ word) x) (some_is (b ∷ bs) bytes e) (escape_front h l b word bs (escaped_found h l b eo) (iv bs refl))

more_found : (p q : Bool) (c h l : ℕ) (word : List ℕ) (u v : Option (List ℕ)) (bytes : List ℕ) → is_plain c ≡ p → (c == 37) ≡ q
    → ((bs : List ℕ) → u ≡ Some bs → Spells (h ∷ l ∷ word) bs) → ((bs : List ℕ) → v ≡ Some bs → Spells word bs)
    → cond p (with_front c u) (cond q (option_and_then (λ b. with_front b v) (escaped h l)) None) ≡ Some bytes → Spells (c ∷ h ∷ l ∷ word) bytes
more_found true q c h l word None v bytes ep eq iu iv e = absurd cc
more_found true q c h l word (Some bs) v bytes ep eq iu iv e = subst (λ (x : List ℕ). Spells (c ∷ h ∷ l ∷ word) x) (some_is (c ∷ bs) bytes e) (plain_front c (h ∷ l ∷ word) bs ep (iu bs refl))
more_found false false c h l word u v bytes ep eq iu iv e = absurd cc
more_found false true c h l word u v bytes ep eq iu iv e = subst (λ (n : ℕ). Spells (n ∷ h ∷ l ∷ word) bytes) (sym (eqb-true c 37 eq)) (escape_found h l word (escaped h l) v bytes refl iv e)

unspelled_found : (word bytes : List ℕ) → unspelled word ≡ Some bytes → Spells word bytes
unfolding unspelled
unspelled_found [] bytes e = subst (λ (x : List ℕ). Spells [] x) (some_is [] bytes e) (refl, tt)
unspelled_found (c ∷ []) bytes e = grind (arith, common_steps)
unspelled_found (c ∷ d ∷ []) bytes e = grind (arith, common_steps)
unspelled_found (c ∷ h ∷ l ∷ word) bytes e =
    more_found (is_plain c) (c == 37) c h l word (unspelled (h ∷ l ∷ word)) (unspelled word) bytes refl refl (unspelled_found (h ∷ l ∷ word)) (unspelled_found word) e

-- ---- and back

unspelled_only : (bytes : List ℕ) → AreBytes bytes → unspelled (flat_map spelled bytes) ≡ Some bytes
unfolding unspelled
unspelled_only [] fits = refl
unspelled_only (b ∷ bytes) fits = grind (arith, common_steps, unspelled_only bytes fits.1)

-- ---- whole words

spelling_of : (bytes word : List ℕ) → flat_map spelled bytes ≡ word → (length word == 0) ≡ false → bytes_eq word (codes "-") ≡ false → spelling bytes ≡ word
unfolding spelling
spelling_of [] word e some dash = absurd (eqb-false (length word) 0 some (ap length (sym e)))
spelling_of (b ∷ []) word e some dash = grind (arith, common_steps)
spelling_of (b ∷ c ∷ bytes) word e some dash = e

found_by : (z d p : Bool) (word bytes : List ℕ) → (length word == 0) ≡ z → bytes_eq word (codes "-") ≡ d → bytes_eq word (codes "%2D") ≡ p
    → cond z None (cond d (some_of []) (cond p (some_of (codes "-")) (unspelled word))) ≡ Some bytes → (word ≡ spelling bytes) × AreBytes bytes
unfolding spelling
found_by true d p word bytes ez ed ep e = absurd cc
found_by false true p word bytes ez ed ep e = subst (λ (x : List ℕ). (word ≡ spelling x) × AreBytes x) (some_is [] bytes e) ((bytes_eq-Decides word (codes "-")).0 ed, tt)
found_by false false true word bytes ez ed ep e = subst (λ (x : List ℕ). (word ≡ spelling x) × AreBytes x) (some_is (codes "-") bytes e) ((bytes_eq-Decides word (codes "%2D")).0 ep, (omega arith, tt))
found_by false false false word bytes ez ed ep e =
    let s = unspelled_found word bytes e in
    (sym (spelling_of bytes word s.0 ez ed), s.1)

pub spelled_found : (word bytes : List ℕ) → bytes_of word ≡ Some bytes → (word ≡ spelling bytes) × AreBytes bytes
unfolding bytes_of
spelled_found word bytes e = found_by (length word == 0) (bytes_eq word (codes "-")) (bytes_eq word (codes "%2D")) word bytes refl refl refl e

only_by : (word bytes : List ℕ) → unspelled word ≡ Some bytes → (bytes ≡ [] → ⊥) → (bytes ≡ 45 ∷ [] → ⊥) → bytes_of word ≡ Some bytes
unfolding bytes_of unspelled
only_by word bytes read some dash = grind (arith, common_steps)

head_is : (a b : ℕ) (x y : List ℕ) → a ∷ x ≡ b ∷ y → a ≡ b
head_is a b x y e = cc

pub spelled_only : (bytes : List ℕ) → AreBytes bytes → bytes_of (spelling bytes) ≡ Some bytes
unfolding spelling bytes_of
spelled_only [] fits = refl
spelled_only (b ∷ []) fits =
    elim (cases_Bool (b == 45)) [
      | inl t ↦ subst (λ (n : ℕ). bytes_of (spelling (n ∷ [])) ≡ Some (n ∷ [])) (sym (eqb-true b 45 t)) refl
      | inr f ↦ ap (λ (x : Bool). bytes_of (cond x (escape 45) (spelled b))) f
          ∙ only_by (spelled b) (b ∷ []) (ap unspelled (sym (append-nil (spelled b))) ∙ unspelled_only (b ∷ []) fits) (λ e. absurd cc) (λ e. eqb-false b 45 f (head_is b 45 [] [] e))
    ]
spelled_only (b ∷ c ∷ bytes) fits = only_by (flat_map spelled (b ∷ c ∷ bytes)) (b ∷ c ∷ bytes) (unspelled_only (b ∷ c ∷ bytes) fits) (λ e. absurd cc) (λ e. absurd cc)
