-- Protections by rising numbers, and the same with the newest first.
use Rattle.closing.proofs.Common.{AllByRecursion, IsStrictlySortedBy, Less, Protection, append-nil, common_steps, insert_entry, is_at, keys_of, list_any, lookup, nat_cmp, remove_entry}
use Rattle.std.proofs.Common.{Bool, List, None, ap, arith, refl, subst, ℕ, ◌+◌, ◌<◌, ◌==◌, ◌≡◌, ◌++◌, ◌∷◌, []}
use Rattle.std.specs.Prelude.{filter, is_some, not}
use Rattle.std.proofs.lemmas.List.Elements.{filter-append}
use Rattle.closing.specs.Standing.{newest_first, protection, AreNumbered}

-- a number above all comes last
pub insert_last : (n t : ℕ) (es : List (ℕ × ℕ)) → AreNumbered n es → insert_entry nat_cmp es (n + 1) t ≡ es ++ (n + 1, t) ∷ []
insert_last n t [] low = refl
insert_last n t (e ∷ es) low = grind (arith, common_steps, insert_last n t es)

pub newest_push : (es : List (ℕ × ℕ)) (e : ℕ × ℕ) → newest_first (es ++ e ∷ []) ≡ protection e.0 e.1 ∷ newest_first es
newest_push [] e = refl
newest_push (f ∷ es) e = ap (λ l. l ++ protection f.0 f.1 ∷ []) (newest_push es e)

pub numbered_push : (n t : ℕ) (es : List (ℕ × ℕ)) → AreNumbered n es → AreNumbered (n + 1) (es ++ (n + 1, t) ∷ [])
numbered_push n t [] low = (omega arith, tt)
numbered_push n t (e ∷ es) low = (omega (arith, low.0), numbered_push n t es low.1)

pub numbered_removed : (n : ℕ) (test : ℕ → Bool) (es : List (ℕ × ℕ)) → AreNumbered n es → AreNumbered n (remove_entry test es)
numbered_removed n test [] low = tt
numbered_removed n test (e ∷ es) low = grind (arith, common_steps, numbered_removed n test es)

-- a number that wasn't given stands nowhere
pub none_beyond : (n id : ℕ) (es : List (ℕ × ℕ)) → AreNumbered n es → n < id → lookup (is_at (nat_cmp id)) es ≡ None
none_beyond n id [] low beyond = refl
none_beyond n id (e ∷ es) low beyond = grind (arith, common_steps, none_beyond n id es)

kept_all : (id : ℕ) (es : List (ℕ × ℕ)) → AllByRecursion (λ k. nat_cmp id k ≡ Less) (keys_of es) → filter (λ (n : Protection). not (n.id == id)) (newest_first es) ≡ newest_first es
kept_all id [] above = refl
kept_all id (e ∷ es) above = grind (arith, common_steps, kept_all id es above.1)

-- without one number
pub newest_removed : (id : ℕ) (es : List (ℕ × ℕ)) → IsStrictlySortedBy nat_cmp (keys_of es) → newest_first (remove_entry (is_at (nat_cmp id)) es) ≡ filter (λ (n : Protection). not (n.id == id)) (newest_first es)
unfolding IsStrictlySortedBy
newest_removed id [] rising = refl
newest_removed id (e ∷ es) rising = let all : e.0 ≡ id → filter (λ (n : Protection). not (n.id == id)) (newest_first es) ≡ newest_first es = λ same. kept_all id es (subst (λ m. AllByRecursion (λ q. nat_cmp m q ≡ Less) (keys_of es)) same rising.0) in
    let parts = filter-append (λ (n : Protection). not (n.id == id)) (newest_first es) (protection e.0 e.1 ∷ []) in grind (arith, common_steps, append-nil, newest_removed id es rising.1)

-- whether a number stands
pub number_stands : (id : ℕ) (es : List (ℕ × ℕ)) → list_any (λ (n : Protection). n.id == id) (newest_first es) ≡ is_some (lookup (is_at (nat_cmp id)) es)
number_stands id [] = refl
number_stands id (e ∷ es) = grind (arith, common_steps, number_stands id es)
