-- The latest readers of some starts rise, one start after another.
use Rattle.read_marks.proofs.Common.{AllByRecursion, IsStrictlySortedBy, Less, by_test, common_steps, filter, has, has_filtered, is_at, is_eq, key_cmp, key_itself, keys_of, lookup, or_right, same_key, set_value, take_more}
use Rattle.std.proofs.Common.{ℕ, List, [], ◌∷◌, ◌++◌, Bool, true, false, ◌||◌, ◌≡◌, ◌<◌, ◌+◌, refl, sym, ap, ◌∙◌, length, take, get_or, arith, subst, max, Option, Some, None}
use Rattle.std.specs.Prelude.{bytes_eq}
use Rattle.std.proofs.lemmas.Map.Text.{is_eq-slice_cmp}
use Rattle.read_marks.specs.Spans.{raised, starts_in}
use Rattle.read_marks.proofs.Raising.{Entries, picks}

-- first those of q, and then those of p
pub raised_twice : (p q : List ℕ → Bool) (ts : ℕ) (es : Entries) → raised p ts (raised q ts es) ≡ raised (λ x. q x || p x) ts es
raised_twice p q ts [] = refl
raised_twice p q ts (e ∷ es) = grind (arith, common_steps, raised_twice p q ts es)

-- tests that agree on all starts
pub raised_alike : (p q : List ℕ → Bool) (ts : ℕ) (es : Entries) → ((x : List ℕ) → has x (keys_of es) ≡ true → p x ≡ q x) → raised p ts es ≡ raised q ts es
raised_alike p q ts [] alike = refl
raised_alike p q ts (e ∷ es) alike = grind (arith, common_steps, has, key_itself, or_right, raised_alike p q ts es)

-- none is the start
none-raised : (k : List ℕ) (ts : ℕ) (es : Entries) → AllByRecursion (λ q. key_cmp k q ≡ Less) (keys_of es) → es ≡ raised (λ x. bytes_eq k x) ts es
none-raised k ts [] above = refl
none-raised k ts (e ∷ es) above =
    let off : bytes_eq k e.0 ≡ false = sym (is_eq-slice_cmp k e.0) ∙ ap is_eq above.0 in rw off (ap (λ fs. e ∷ fs) (none-raised k ts es above.1))

-- one start alone
pub raised_one : (k : List ℕ) (v ts : ℕ) (es : Entries) → IsStrictlySortedBy key_cmp (keys_of es) → lookup (is_at (key_cmp k)) es ≡ Some v → set_value (is_at (key_cmp k)) es (max v ts) ≡ raised (λ x. bytes_eq k x) ts es
unfolding IsStrictlySortedBy
raised_one k v ts [] sorted found = cc
raised_one k v ts (e ∷ es) sorted found = by_test (is_at (key_cmp k) e.0)
    (λ here. let same : bytes_eq k e.0 ≡ true = sym (is_eq-slice_cmp k e.0) ∙ here in
    let key : k ≡ e.0 = same_key k e.0 same in
    let rest = none-raised k ts es (subst (λ x. AllByRecursion (λ q. key_cmp x q ≡ Less) (keys_of es)) (sym key) sorted.0) in grind (arith, common_steps))
    (λ there. grind (arith, common_steps, is_eq-slice_cmp, raised_one k v ts es sorted.1))

pub raised_none : (k : List ℕ) (ts : ℕ) (es : Entries) → lookup (is_at (key_cmp k)) es ≡ None → es ≡ raised (λ x. bytes_eq k x) ts es
raised_none k ts [] none = refl
raised_none k ts (e ∷ es) none = grind (arith, common_steps, by_test, is_eq-slice_cmp, raised_none k ts es)

-- ---- some starts of a list, and then one more

pub raised_nothing : (ts : ℕ) (es : Entries) → es ≡ raised (λ x. false) ts es
raised_nothing ts [] = refl
raised_nothing ts (e ∷ es) = grind (arith, common_steps, raised_nothing ts es)

has-push : (x k : List ℕ) (ks : List (List ℕ)) → has x (ks ++ k ∷ []) ≡ (has x ks || bytes_eq k x)
has-push x k [] = grind (arith, common_steps)
has-push x k (j ∷ ks) = grind (arith, common_steps, has-push x k ks)

pub raised_more : (starts : List (List ℕ)) (i : ℕ) (k : List ℕ) (ts : ℕ) (es fs gs : Entries) → i < length starts → k ≡ get_or starts i k → fs ≡ raised (λ x. has x (take i starts)) ts es → gs ≡ raised (λ x. bytes_eq k x) ts fs
    → gs ≡ raised (λ x. has x (take (i + 1) starts)) ts es
raised_more starts i k ts es fs gs low is before one = grind (arith, common_steps, raised_twice, has, raised_alike, has-push, take_more)

-- ---- all starts of a range

keys-filtered : (p : List ℕ → Bool) (es : Entries) → keys_of (filter (λ e. p e.0) es) ≡ filter p (keys_of es)
keys-filtered p [] = refl
keys-filtered p (e ∷ es) = grind (arith, common_steps, keys-filtered p es)

pub raised_range : (lo : List ℕ) (hi : Option (List ℕ)) (ts : ℕ) (es : Entries) → raised (λ x. has x (keys_of (starts_in lo hi es))) ts es ≡ raised (picks lo hi) ts es
raised_range lo hi ts es = raised_alike _ _ ts es (λ x among. let e = keys-filtered (picks lo hi) es in let f = has_filtered (picks lo hi) x (keys_of es) in grind (arith, common_steps))
