-- One thread more.
use Rattle.std.proofs.Common.{◌≡◌, List, [], ◌∷◌, ◌++◌, map, sym, ap, ◌∙◌}

step : {A B : Type 0} (f : A → B) (hs : List A) (h : A) (x : B) (rest : List B) → f h ≡ x → map f (hs ++ h ∷ []) ++ rest ≡ map f hs ++ x ∷ rest
step f [] h x rest is = ap (λ y. y ∷ rest) is
step f (a ∷ hs) h x rest is = ap (λ ys. f a ∷ ys) (step f hs h x rest is)

pub one_more : {A B : Type 0} (f : A → B) (hs hs' : List A) (h : A) (x : B) (rest rest' first : List B) → map f hs ++ rest ≡ first → hs' ≡ hs ++ h ∷ [] → rest ≡ x ∷ rest' → f h ≡ x → map f hs' ++ rest' ≡ first
one_more f hs hs' h x rest rest' first was grown next is = ap (λ ys. map f ys ++ rest') grown ∙ (step f hs h x rest' is ∙ (ap (λ ys. map f hs ++ ys) (sym next) ∙ was))
