-- Where sorted events first break.
use Rattle.std.proofs.Common.{◌≡◌, ℕ, suc, ◌+◌, ◌-◌, ◌<◌, ◌≤◌, List, [], ◌∷◌, ◌++◌, get_or, take, drop, length, refl, sym, ap, ◌∙◌, subst, arith}
use Rattle.races.proofs.Common.{Event, IsNonDecreasingBy, get_or_default, length-take-le, take-append-drop}
use native.Mathlib.Numerals.{unary_clauses}
use Rattle.std.proofs.Math.Seq.{drop-cons, take-suc}
use Rattle.std.proofs.lemmas.List.{get_or-take, take_more}
use Rattle.spans.proofs.Histories.{gapless_more}
use Rattle.races.specs.Merging.{position_of, IsUnbroken, Breaks}
use Rattle.races.proofs.Ordered.{placed}

-- of two events, one behind the other
module _ (events : List Event) (at : ℕ) (e f : Event) (some : 0 < at) (there : at < length events) (is_e : e ≡ get_or events (at - 1) e) (is_f : f ≡ get_or events at f) where
  pub rises : IsNonDecreasingBy position_of events → e.position ≤ f.position
  rises rising = omega (arith, rising (at - 1) at e (omega arith) there, ap position_of is_e, ap position_of (get_or_default events at e f there ∙ sym is_f))

-- the next event stands one place further
pub goes_on : (events : List Event) (at : ℕ) (e f : Event) → 0 < at → at < length events → e ≡ get_or events (at - 1) e → f ≡ get_or events at f → f.position ≡ e.position + 1 → IsUnbroken (take at events) → IsUnbroken (take (at + 1) events)
goes_on (x ∷ xs) (suc k) e f some there is_e is_f next h =
    let here = placed x.position k (x ∷ take k xs) e h (let l = length-take-le k xs (omega arith) in omega arith) in
    let at_e = ap position_of ((simp unary_clauses at is_e) ∙ sym (get_or-take (suc k) (x ∷ xs) k e (omega arith))) in
    let more : take (suc k + 1) (x ∷ xs) ≡ (x ∷ take k xs) ++ f ∷ [] = take_more (x ∷ xs) (suc k) f there ∙ ap (λ y. (x ∷ take k xs) ++ y ∷ []) (sym is_f) in
    subst IsUnbroken (sym more) (gapless_more x.position (x ∷ take k xs) f h (let l = length-take-le k xs (omega arith) in omega (arith, here, at_e, next)))
goes_on _ at e f some there is_e is_f next h = absurd (omega arith)

-- the next event doesn't
pub breaks : (how : ℕ → ℕ → Type 0) (events : List Event) (at : ℕ) (e f : Event) → 0 < at → at < length events → e ≡ get_or events (at - 1) e → f ≡ get_or events at f → how e.position f.position → IsUnbroken (take at events) → Breaks how events f.position
breaks how events (suc k) e f some there is_e is_f broken h =
    let last : take (suc k) events ≡ take k events ++ e ∷ [] = take-suc events k e (omega arith) ∙ ap (λ y. take k events ++ y ∷ []) (sym (simp unary_clauses at is_e)) in
    record {
      before = take k events;
      last = e;
      event = f;
      after = drop (suc (suc k)) events;
      parts = sym (take-append-drop (suc k) events) ∙ (λ i. last i ++ (drop-cons events (suc k) f there ∙ ap (λ y. y ∷ drop (suc (suc k)) events) (sym is_f)) i);
      unbroken = subst IsUnbroken last h;
      stands = refl;
      broken = broken;
    }
breaks how events _ e f some there is_e is_f broken h = absurd (omega arith)
