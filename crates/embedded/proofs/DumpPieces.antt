-- A piece of a dump, by its texts.
use Rattle.std.proofs.Common.{◌≡◌, ℕ, ◌≤◌, true, false, List, ◌++◌, Option, Some, refl, sym, ◌∙◌, ap, subst, arith, Bool}
use Rattle.embedded.proofs.Common.{Effect, le-ltb, mark_of, nat_tests}
use Rattle.std.specs.Prelude.{min, nat_lt}
use Rattle.embedded.specs.declared.dumping.DumpEnd.{DumpEnd}
use Rattle.embedded.specs.declared.dumping.DumpPlace.{DumpPlace}
use Rattle.embedded.specs.declared.dumping.DumpPiece.{DumpPiece}
use Rattle.embedded.specs.Dumping.{AreTexts, IsEnd, IsPiece, IsRestLeft, count_within, first_texts, piece_through, text_left, texts_through}
use Rattle.embedded.proofs.DumpRows.{rest_left}

module _ (p : List Effect) (at through room : ℕ) (end : DumpEnd) (is : IsEnd p at through end) (place : DumpPlace) (piece : DumpPiece) where
  -- nothing is written where the place is above
  -- else the piece is its texts
  pub piece_of_texts : place.ts ≤ end.through → AreTexts p end room place piece.text.items piece.next → IsPiece p at through place room piece
  piece_of_texts high are =
      let test : nat_lt (min through (mark_of p at)) place.ts ≡ false = le-ltb (min through (mark_of p at)) place.ts (subst (λ (n : ℕ). place.ts ≤ n) is.goes high) in
      rw test (are
      ∙ ap (λ (m : ℕ). first_texts p m end.through place (count_within room (texts_through p m end.through place))) is.closes
      ∙ ap (λ (t : ℕ). first_texts p (mark_of p at) t place (count_within room (texts_through p (mark_of p at) t place))) is.goes)

-- what is left behind a piece is the rest
pub rest_of : (p : List Effect) (at through room : ℕ) (place : DumpPlace) (piece : DumpPiece) → IsPiece p at through place room piece → IsRestLeft p (mark_of p at) place piece
rest_of p at through room place piece is =
    let m : ℕ = mark_of p at in
    let t : ℕ = min through m in
    let whole : text_left p m (Some place) ≡ (piece_through p m t place room).0 ++ text_left p m (piece_through p m t place room).1 = rest (nat_lt t place.ts) refl in
    subst (λ (x : List ℕ × Option DumpPlace). text_left p m (Some place) ≡ x.0 ++ text_left p m x.1) (sym is) whole
  where
    rest : (b : Bool) → nat_lt (min through (mark_of p at)) place.ts ≡ b → text_left p (mark_of p at) (Some place) ≡ (piece_through p (mark_of p at) (min through (mark_of p at)) place room).0 ++ text_left p (mark_of p at) (piece_through p (mark_of p at) (min through (mark_of p at)) place room).1
    rest true test = rw test refl
    rest false test =
        let low : place.ts ≤ min through (mark_of p at) = grind (arith, nat_tests) in
        rw test (rest_left p (mark_of p at) (min through (mark_of p at)) place (count_within room (texts_through p (mark_of p at) (min through (mark_of p at)) place)) low (omega arith))
