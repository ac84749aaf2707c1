-- A transcript written event by event.
use Rattle.std.proofs.Common.{◌≡◌, ◌<◌, ◌≤◌, ◌+◌, ℕ, suc, List, [], ◌∷◌, ◌++◌, drop, length, get_or, refl, sym, ap, ◌∙◌, append-nil, append_assoc, arith, inr, Result, Ok, Err, OnOk}
use Rattle.sessions.proofs.Common.{Event, drop-cons, event_text, events_text, length-append}
use Rattle.sessions.specs.declared.devices.WriteFailed.{WriteFailed}
use Rattle.sessions.specs.declared.ending.ServeEnd.{ServeEnd}
use Rattle.sessions.specs.declared.ending.ServeEnd.TheVariants as end
use Rattle.sessions.specs.Devices.{Writes, GoesInBlocks, HasTaken, HasBegun, HasWritten, IsWrittenTo, IsWrittenWhole}

-- nothing was written
pub nothing_taken : (taken bytes : List ℕ) → HasTaken taken taken bytes bytes
nothing_taken taken bytes = record { part = []; took = sym (append-nil taken); left = refl }

-- a part of what was left is taken too
pub taken_on : (taken taken' taken'' bytes kept rest : List ℕ) → HasTaken taken taken' bytes kept → HasTaken taken' taken'' kept rest → HasTaken taken taken'' bytes rest
taken_on taken taken' taken'' bytes kept rest a b = record {
  part = a.part ++ b.part;
  took = b.took ∙ (ap (λ (xs : List ℕ). xs ++ b.part) a.took ∙ append_assoc taken a.part b.part);
  left = a.left ∙ (ap (λ (xs : List ℕ). a.part ++ xs) b.left ∙ sym (append_assoc a.part b.part rest));
}

pub begun_on : (taken taken' taken'' bytes kept : List ℕ) → HasTaken taken taken' bytes kept → HasBegun taken' taken'' kept → HasBegun taken taken'' bytes
begun_on taken taken' taken'' bytes kept a b = (b.0, taken_on taken taken' taken'' bytes kept b.0 a b.1)

-- more stands behind the bytes
pub taken_before : (taken taken' bytes rest more : List ℕ) → HasTaken taken taken' bytes rest → HasTaken taken taken' (bytes ++ more) (rest ++ more)
taken_before taken taken' bytes rest more t = record { part = t.part; took = t.took; left = ap (λ (xs : List ℕ). xs ++ more) t.left ∙ append_assoc t.part rest more }

-- a text was begun, and a write behind it failed, or memory was wanted
pub cut_on : (w w' w'' : Writes) (text bytes rest more : List ℕ) (e : ServeEnd) → HasTaken w.taken w'.taken text (bytes ++ more) → w'.failures ≡ w.failures → IsWrittenTo bytes rest w' w'' (Err e) → IsWrittenWhole text w w'' (Err e)
cut_on w w' w'' text bytes rest more end.Output kept same h =
    (begun_on w.taken w'.taken w''.taken text (bytes ++ more) kept (h.0.0 ++ more, taken_before w'.taken w''.taken bytes h.0.0 more h.0.1), h.1 ∙ ap (λ (n : ℕ). n + 1) same)
cut_on w w' w'' text bytes rest more end.Memory kept same h =
    (begun_on w.taken w'.taken w''.taken text (bytes ++ more) kept (h.0.0 ++ more, taken_before w'.taken w''.taken bytes h.0.0 more h.0.1), h.1 ∙ same)
cut_on w w' w'' text bytes rest more _ kept same h = absurd h

-- a block or more was written whole
pub block_written : (w w' : Writes) (bytes rest : List ℕ) (r : Result (Unit {0}) WriteFailed) → 65536 ≤ length bytes → HasWritten w w' bytes rest r → OnOk r (rest ≡ []) → OnOk r (GoesInBlocks w w' rest)
block_written w w' bytes rest (Ok x) many h none =
    let took = ap length h.0.took ∙ length-append w.taken h.0.part in
    let left = ap length h.0.left ∙ length-append h.0.part rest in
    let empty : length rest ≡ 0 = ap length none in
    (inr (omega arith), omega arith)
block_written w w' bytes rest (Err x) many h none = tt

-- the text of one event more is kept
pub one_kept : (events : List Event) (at : ℕ) (event : Event) (pending pending' : List ℕ) → at < length events → event ≡ get_or events at event → pending' ≡ pending ++ event_text event
    → pending ++ events_text (drop at events) ≡ pending' ++ events_text (drop (at + 1) events)
one_kept events at event pending pending' low there grown =
    let next : suc at ≡ at + 1 = omega arith in
    ap (λ (es : List Event). pending ++ events_text es) (drop-cons events at event low ∙ ap (λ x. x ∷ drop (suc at) events) (sym there))
    ∙ (sym (append_assoc pending (event_text event) (events_text (drop (suc at) events))) ∙ λ i. sym grown i ++ events_text (drop (next i) events))
