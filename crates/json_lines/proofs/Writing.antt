-- What stands in a buffer stays there.
use Rattle.std.proofs.Common.{◌≡◌, List, ℕ, ◌++◌, [], length, take, append_assoc, sym, ◌∙◌, ap, refl, Result, Ok, Err, OnErr}
use Rattle.std.proofs.lemmas.List.{append-nil, take_at}
use Rattle.std.specs.declared.alloc.AllocError.{AllocError}
use Rattle.json_lines.specs.Messages.{Keeps}

pub keeps_text : (old new text : List ℕ) → new ≡ old ++ text → Keeps old new
keeps_text old new text e = record { more = text; is = e }

pub keeps_same : (old new : List ℕ) → new ≡ old → Keeps old new
keeps_same old new e = record { more = []; is = e ∙ sym (append-nil old) }

pub keeps_then : (a b c : List ℕ) → Keeps a b → Keeps b c → Keeps a c
keeps_then a b c p q = record { more = p.more ++ q.more; is = q.is ∙ ap (λ (x : List ℕ). x ++ q.more) p.is ∙ append_assoc a p.more q.more }

pub on_error : (r : Result (Unit {0}) AllocError) (old new : List ℕ) → Keeps old new → OnErr r (Keeps old new)
on_error (Ok x) old new keeps = tt
on_error (Err e) old new keeps = keeps

pub ruleset keeping = (keeps_text, keeps_same, keeps_then)

-- cutting a buffer to its length before leaves what stood there
pub undone : (old new : List ℕ) → Keeps old new → take (length old) new ≡ old
undone old new keeps = ap (take (length old)) keeps.is ∙ take_at old keeps.more (length old) refl
