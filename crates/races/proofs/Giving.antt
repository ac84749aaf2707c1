-- The calls of a script, given out to the lists of sessions one by one.
use Rattle.std.proofs.Common.{◌≡◌, ℕ, ◌==◌, Bool, true, false, cond, List, [], ◌∷◌, ◌++◌, map, filter, set, refl, sym, ap, ◌∙◌, append-nil, append_assoc, eq-eqb, ne_eqb, All}
use Rattle.std.specs.Prelude.{Vec}
use mathlib.Core.Option.{some}
use lib.ListN.{get_elem?}
use Rattle.races.proofs.Common.{Cmd, each_set}
use Rattle.races.specs.Racing.{commands_by, AreLists}
use Rattle.races.proofs.Promised.{all_at}

-- what each list holds, and what is still to come for it, is what it has to hold
abbrev pub AreLeft : {Z : Type 0} → List (ℕ × Cmd) → List (ℕ × Cmd) → List (Vec Cmd Z) → Type 0
AreLeft all rest lists = (k : ℕ) (list : Vec Cmd _) → get_elem? lists k ≡ some list → list.items ++ commands_by k rest ≡ commands_by k all

-- a call is the session's own, or another's
turned : (k s : ℕ) (c : Cmd) (rest : List (ℕ × Cmd)) (b : Bool) → (s == k) ≡ b → commands_by k ((s, c) ∷ rest) ≡ map (λ (x : ℕ × Cmd). x.1) (cond b ((s, c) ∷ filter (λ (x : ℕ × Cmd). x.0 == k) rest) (filter (λ (x : ℕ × Cmd). x.0 == k) rest))
turned k s c rest b e = ap (λ (b : Bool). map (λ (x : ℕ × Cmd). x.1) (cond b ((s, c) ∷ filter (λ (x : ℕ × Cmd). x.0 == k) rest) (filter (λ (x : ℕ × Cmd). x.0 == k) rest))) e

pub none_given : {Z : Type 0} (all : List (ℕ × Cmd)) (lists : List (Vec Cmd Z)) → All (λ (list : Vec Cmd Z). list.items ≡ []) lists → AreLeft all all lists
none_given {Z} all lists empty = λ k list at. ap (λ (xs : List Cmd). xs ++ commands_by k all) (all_at (λ (l : Vec Cmd Z). l.items ≡ []) lists k list empty at)

pub one_given : {Z : Type 0} (all : List (ℕ × Cmd)) (s : ℕ) (c : Cmd) (rest : List (ℕ × Cmd)) (lists : List (Vec Cmd Z)) (old new : Vec Cmd Z)
    → get_elem? lists s ≡ some old → new.items ≡ old.items ++ c ∷ [] → AreLeft all ((s, c) ∷ rest) lists → AreLeft all rest (set lists s new)
one_given {Z} all s c rest lists old new at grown left = each_set (λ k (list : Vec Cmd Z). list.items ++ commands_by k rest ≡ commands_by k all) lists s new
    (ap (λ (xs : List Cmd). xs ++ commands_by s rest) grown ∙ (append_assoc old.items (c ∷ []) (commands_by s rest) ∙ (ap (λ (xs : List Cmd). old.items ++ xs) (sym (turned s s c rest true (eq-eqb s s refl))) ∙ left s old at)))
    (λ k list ne e. ap (λ (xs : List Cmd). list.items ++ xs) (sym (turned k s c rest false (ne_eqb s k (λ z. ne (sym z))))) ∙ left k list e)

pub all_given : {Z : Type 0} (all : List (ℕ × Cmd)) (lists : List (Vec Cmd Z)) → AreLeft all [] lists → AreLists all lists
all_given all lists left = λ k list at. sym (append-nil list.items) ∙ left k list at
