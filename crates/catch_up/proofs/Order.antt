-- Rows that are put into their order.
use Rattle.catch_up.proofs.Common.{IsRowIn, RisingRows, Row, before_neither, before_trans, by_test, common_steps, row_lt}
use Rattle.std.proofs.Common.{arith}
use Rattle.std.proofs.Common.{List, [], inl, inr, refl, ◌⊎◌, ◌≡◌, ◌∷◌}
use Rattle.std.specs.Prelude.{if◌then◌else◌}

-- ---- rows in order

abbrev pub put_row : Row → List Row → List Row
put_row r [] = r ∷ []
put_row r (s ∷ rows) = if row_lt r s then r ∷ s ∷ rows else (if row_lt s r then s ∷ put_row r rows else s ∷ rows)

pub put_only : (r q : Row) (rows : List Row) → IsRowIn q (put_row r rows) → (r ≡ q) ⊎ IsRowIn q rows
put_only r q [] i = elim i [ inl here ↦ inl here | inr there ↦ absurd there ]
put_only r q (s ∷ rows) i = grind (arith, common_steps, put_only r q rows)

pub put_stays : (r q : Row) (rows : List Row) → IsRowIn q rows → IsRowIn q (put_row r rows)
put_stays r q [] i = absurd i
put_stays r q (s ∷ rows) i = grind (arith, common_steps, put_stays r q rows)

-- where a row of the same version is the same row
pub put_in : (r : Row) (rows : List Row) → ((s : Row) → IsRowIn s rows → r.ts ≡ s.ts → r.key ≡ s.key → s ≡ r) → IsRowIn r (put_row r rows)
put_in r [] alike = inl refl
put_in r (s ∷ rows) alike = by_test (row_lt r s)
    (λ low. rw low (inl refl))
    (λ high. by_test (row_lt s r)
    (λ over. rw (high, over) (inr (put_in r rows (λ q i. alike q (inr i)))))
    (λ same. let both = before_neither r.ts s.ts r.key s.key high same in rw (high, same) (inl (alike s (inl refl) both.0 both.1))))

pub put_rises : (r : Row) (rows : List Row) → RisingRows rows → RisingRows (put_row r rows)
put_rises r [] h = (λ s i. absurd i, tt)
put_rises r (s ∷ rows) h = grind (arith, common_steps, by_test, before_trans, put_only, put_rises r rows h.1)
