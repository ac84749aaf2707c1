-- One more event at the end of a history.
use Rattle.std.proofs.Common.{◌≡◌, ℕ, ◌+◌, ◌≢◌, Bool, List, [], ◌∷◌, ◌++◌, reverse, length, sym, ap, ◌∙◌, subst, arith, append-nil, nat_eq, cond, eq-eqb, ne_eqb}
use Rattle.std.specs.List.{All}
use Rattle.shared_db.proofs.Common.{Engine, Event, append_cancel_left, append_cancel_right, of_seat}
use Rattle.std.proofs.lemmas.List.Elements.{filter-append, All-nil, All-cons}
use mathlib.Core.Logic.{dite}
use native.Mathlib.Decide.{ℕ_discrete}
use Rattle.engine.specs.Engine as engines
use Rattle.spans.proofs.Histories.{gapless_more, turned_more}
use Rattle.ticket_lock.proofs.ListFacts.{of_more}
use Rattle.shared_db.specs.History.{StandsFor}

-- after its step the engine stands for the history with the event
pub stands_more : (x y : Engine) (first : ℕ) (h : List Event) (e : Event) → StandsFor x first h → (engines.StandsFor x (reverse h) → engines.StandsFor y (e ∷ reverse h)) → e.position ≡ first + length h → StandsFor y first (h ++ e ∷ [])
stands_more x y first h e stood steps at = record { history = subst (engines.StandsFor y) (sym (turned_more h e)) (steps stood.history); gapless = gapless_more first h e stood.gapless at }

-- where the entries of a seat grew by its own alone, what came between is of others
pub others_only : (n : ℕ) (old between : List Event) (e : Event) (new mine mine' : List Event) → e.seat ≡ n → new ≡ (old ++ between) ++ e ∷ [] → mine ≡ of_seat (λ (x : Event). x.seat) n old → mine' ≡ mine ++ e ∷ [] → mine' ≡ of_seat (λ (x : Event). x.seat) n new
    → of_seat (λ (x : Event). x.seat) n between ≡ []
others_only n old between e new mine mine' names is own grew after = let f : Event → ℕ = λ x. x.seat in let F : List Event → List Event = of_seat f n in
    let a : F new ≡ F (old ++ between) ++ e ∷ [] = ap F is ∙ of_more f n (old ++ between) e names in
    let b : F (old ++ between) ++ e ∷ [] ≡ F old ++ e ∷ [] = sym a ∙ (sym after ∙ (grew ∙ ap (λ (l : List Event). l ++ e ∷ []) own)) in
    let c : F (old ++ between) ≡ F old = append_cancel_right (F (old ++ between)) (F old) (e ∷ []) b in
    let d : F old ++ F between ≡ F old ++ [] = sym (filter-append (λ (x : Event). nat_eq (f x) n) old between) ∙ (c ∙ sym (append-nil (F old))) in
    append_cancel_left (F old) (F between) [] d

-- a list that has nothing of a seat has events of others alone
pub none_of : (n : ℕ) (l : List Event) → of_seat (λ (e : Event). e.seat) n l ≡ [] → All (λ (e : Event). e.seat ≢ n) l
none_of n [] none = All-nil (λ (e : Event). e.seat ≢ n)
none_of n (x ∷ xs) none = let F : List Event = of_seat (λ (e : Event). e.seat) n xs in dite (ℕ_discrete x.seat n)
    (λ same. let one = ap (λ (b : Bool). length (cond b (x ∷ F) F)) (eq-eqb x.seat n same) in let z = ap length none in absurd (omega arith))
    (λ other. All-cons (λ (e : Event). e.seat ≢ n) x xs other (none_of n xs (sym (ap (λ (b : Bool). cond b (x ∷ F) F) (ne_eqb x.seat n other)) ∙ none)))
