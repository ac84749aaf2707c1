-- The closed timestamp never falls as a legal history grows: the law of a value under the lock.
use Rattle.std.specs.Prelude.{ℕ, ◌≤◌, List, [], ◌∷◌, ◌++◌, reverse}
use Rattle.std.proofs.Common.{sym, ap, ◌∙◌, subst, le_refl, le_trans}
use Rattle.std.proofs.lemmas.List.{reverse-append}
use Rattle.shared_db.specs.Prelude.{Engine, Event, IsLegal, closed_of, closed_timestamp, effect_of, effects_of}
use Rattle.spans.proofs.Legal.{right_allowed}
use Rattle.spans.proofs.Copies.{closed_grows}
use Rattle.shared_db.specs.History.{StandsFor}
use Rattle.shared_db.specs.Standing.{legal_of, closed_is}

-- later events leave what was closed closed
pub closed_later : (later earlier : List Event) → IsLegal (later ++ earlier) → closed_of (effects_of earlier) ≤ closed_of (effects_of (later ++ earlier))
closed_later [] earlier legal = le_refl (closed_of (effects_of earlier))
closed_later (e ∷ es) earlier legal = le_trans (closed_later es earlier legal.1) (closed_grows (effects_of (es ++ earlier)) (effect_of e) (right_allowed (effects_of (es ++ earlier)) e legal.0))

-- of two engines the one that stands for more has no lower closed timestamp
pub closed_rises : (x y : Engine) (first : ℕ) (before after : List Event) → StandsFor x first before → StandsFor y first (before ++ after) → closed_timestamp x ≤ closed_timestamp y
closed_rises x y first before after p q =
    subst (λ (n : ℕ × ℕ). n.0 ≤ n.1)
    (λ i. (sym (closed_is x (reverse before) p.history) i, sym (closed_is y (reverse (before ++ after)) q.history ∙ ap (λ (h : List Event). closed_of (effects_of h)) (reverse-append before after)) i))
    (closed_later (reverse after) (reverse before) (subst IsLegal (reverse-append before after) (legal_of y (reverse (before ++ after)) q.history)))
