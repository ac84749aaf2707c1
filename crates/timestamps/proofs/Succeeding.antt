-- A text and a zero behind it.
use Rattle.std.proofs.lemmas.Grind.{common_steps}
use Rattle.std.proofs.Common.{ℕ, zero, suc, List, [], ◌∷◌, ◌++◌, ◌≡◌, ◌+◌, ◌<◌, refl, sym, ap, ◌∙◌, arith, length, take, drop, get_or, true, false, bytes_eq}
use Rattle.timestamps.proofs.Common.{bytes_eq-Decides, drop-append_seam, ext_get_or, take-append-drop, take-append_seam, take-suc}
use Rattle.timestamps.specs.Bytes.{IsPadded}
use Rattle.timestamps.proofs.Fronts.{padded}
use Rattle.timestamps.proofs.Words.{read_padded}

-- what doesn't begin with it isn't that
pub no_successor : (xs ys : List ℕ) → bytes_eq (take (length ys) xs) ys ≡ false → xs ≡ ys ++ 0 ∷ [] → false ≡ true
no_successor xs ys other is = grind (arith, common_steps, bytes_eq-Decides, take-append_seam)

lone : (rest : List ℕ) → length rest ≡ 1 → get_or rest 0 0 ≡ 0 → rest ≡ 0 ∷ []
lone rest one e = grind (arith, common_steps)

-- what begins with it, and has a zero behind it, is that
pub successor_is : (xs ys rest : List ℕ) → bytes_eq (take (length ys) xs) ys ≡ true → rest ≡ drop (length ys) xs → length rest ≡ 1 → get_or rest 0 0 ≡ 0 → xs ≡ ys ++ 0 ∷ []
successor_is xs ys rest same is one nought = grind (arith, common_steps, bytes_eq-Decides, take-append-drop, lone)

pub zero_behind : (xs ys rest : List ℕ) → rest ≡ drop (length ys) xs → xs ≡ ys ++ 0 ∷ [] → get_or rest 0 0 ≡ 0
zero_behind xs ys rest is e = ap (λ t. get_or t 0 0) (is ∙ ap (drop (length ys)) e ∙ drop-append_seam ys (0 ∷ []))

zero_read : (j : ℕ) → ◌≡◌ {A = ℕ} (get_or (0 ∷ []) j 0) 0
zero_read zero = refl
zero_read (suc j) = refl

-- Two short texts, of which the one is a byte longer: their places are the same exactly where that byte is a zero behind the other.
module _ (len len' : ℕ) (bytes bytes' : List ℕ) (is : IsPadded len bytes) (is' : IsPadded len' bytes') (size : length bytes ≡ 24) (size' : length bytes' ≡ 24) where
  pub longer_is : len ≡ len' + 1 → len' < 24 → bytes ≡ bytes' → take len bytes ≡ take len' bytes' ++ 0 ∷ []
  longer_is more short same =
      let next : len ≡ suc len' = omega arith in
      ap (λ n. take n bytes) next ∙ ap (take (suc len')) same ∙ take-suc bytes' len' 0 (omega arith) ∙ ap (λ b. take len' bytes' ++ b ∷ []) (is'.zeros len' (omega arith))

  pub place_is : take len bytes ≡ take len' bytes' ++ 0 ∷ [] → bytes ≡ bytes'
  place_is same =
      ext_get_or 0 bytes bytes' (size ∙ sym size') (λ k _. read_padded len bytes is.zeros k ∙ ap (λ t. get_or t k 0) same ∙ padded (take len' bytes') (0 ∷ []) k zero_read ∙ sym (read_padded len' bytes' is'.zeros k))
