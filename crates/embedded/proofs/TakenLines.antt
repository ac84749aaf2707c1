-- A line whose call ended, as a step.
use Rattle.std.proofs.Common.{◌≡◌, ℕ, true, false, ◌≤◌, List, [], ◌∷◌, length, Ok, Err, inl, inr, arith, refl, sym, ap, ◌∙◌, subst}
use Rattle.std.specs.Prelude.{Result}
use Rattle.embedded.proofs.Common.{Cmd, Event, Two, command_at, effects_of, table}
use Rattle.spelled_words.specs.declared.fault.LineFault.{LineFault}
use Rattle.spelled_words.specs.declared.fault.LineFault.TheVariants as fault
use Rattle.word_lines.specs.Faults.{code_of}
use Rattle.embedded.specs.Embedded.{StandsFor, Called, kept_text, last_of, text_of}
use Rattle.embedded.specs.Several.{IsNoted, IsShown, IsStep, IsTaken, IsTakenBy, Step, is_too_long}
use Rattle.embedded.specs.declared.database.Database.{Database}
use Rattle.embedded.specs.declared.database.CallError.{CallError}
use Rattle.embedded.specs.declared.database.CallError.TheVariants.{Fault, NoMemory, Spent, Unwritten}
use Rattle.embedded.specs.declared.several.Done.{Done}

-- ---- what is noted, and what is shown

pub shown_fits : (room : ℕ) (d : Database) (r : Result (Unit {0}) CallError) (s : Step) → IsNoted room d r s → length s.shown ≤ room
shown_fits room d (Ok x) s (inl fits) = omega (arith, fits.0, ap length fits.2)
shown_fits room d (Ok x) s (inr few) = omega (arith, ap length few.2)
shown_fits room d (Err (Fault f)) s noted = omega (arith, ap length noted.1)
shown_fits room d (Err Unwritten) s noted = omega (arith, ap length noted.1)
shown_fits room d (Err NoMemory) s noted = absurd noted
shown_fits room d (Err Spent) s noted = absurd noted

-- a text that isn't missing is shown whole
pub shown_whole : (room : ℕ) (d : Database) (r : Result (Unit {0}) CallError) (s : Step) → IsNoted room d r s → ¬ (s.note.status ≡ 14) → length s.shown ≡ s.note.length
shown_whole room d (Ok x) s (inl fits) shown = ap length fits.2 ∙ sym (ap (λ (n : Done). n.length) fits.1)
shown_whole room d (Ok x) s (inr few) shown = absurd (shown (ap (λ (n : Done). n.status) few.1))
shown_whole room d (Err (Fault f)) s noted shown = ap length noted.1 ∙ sym (ap (λ (n : Done). n.length) noted.0)
shown_whole room d (Err Unwritten) s noted shown = absurd (shown (ap (λ (n : Done). n.status) noted.0))
shown_whole room d (Err NoMemory) s noted shown = absurd noted
shown_whole room d (Err Spent) s noted shown = absurd noted

-- of one that is missing nothing is shown
pub none_shown : (room : ℕ) (d : Database) (r : Result (Unit {0}) CallError) (s : Step) → IsNoted room d r s → s.note.status ≡ 14 → length s.shown ≡ 0
none_shown room d (Ok x) s (inl fits) missing = let zero : s.note.status ≡ 0 = ap (λ (n : Done). n.status) fits.1 in absurd (omega (arith, zero, missing))
none_shown room d (Ok x) s (inr few) missing = ap length few.2
none_shown room d (Err (Fault f)) s noted missing = ap length noted.1
none_shown room d (Err Unwritten) s noted missing = ap length noted.1
none_shown room d (Err NoMemory) s noted missing = absurd noted
none_shown room d (Err Spent) s noted missing = absurd noted

-- ---- the same of a step, whichever

pub step_fits : (room most : ℕ) (h : List Event) (d : Database) (s : Step) (h' : List Event) (d' : Database) → IsStep room most h d s h' d' → length s.shown ≤ room
step_fits room most h d s h' d' (inl call) = shown_fits room d' call.0.outcome s call.0.noted
step_fits room most h d s h' d' (inr over) = omega (arith, ap length over.shown)

pub step_whole : (room most : ℕ) (h : List Event) (d : Database) (s : Step) (h' : List Event) (d' : Database) → IsStep room most h d s h' d' → ¬ (s.note.status ≡ 14) → length s.shown ≡ s.note.length
step_whole room most h d s h' d' (inl call) shown = shown_whole room d' call.0.outcome s call.0.noted shown
step_whole room most h d s h' d' (inr over) shown = ap length over.shown ∙ sym (ap (λ (n : Done). n.length) over.note)

pub step_missing : (room most : ℕ) (h : List Event) (d : Database) (s : Step) (h' : List Event) (d' : Database) → IsStep room most h d s h' d' → s.note.status ≡ 14 → length s.shown ≡ 0
step_missing room most h d s h' d' (inl call) missing = none_shown room d' call.0.outcome s call.0.noted missing
step_missing room most h d s h' d' (inr over) missing = ap length over.shown

pub step_stands : (room most : ℕ) (h : List Event) (d : Database) (s : Step) (h' : List Event) (d' : Database) → StandsFor d h → IsStep room most h d s h' d' → StandsFor d' h'
step_stands room most h d s h' d' held (inl call) = call.0.stands
step_stands room most h d s h' d' held (inr over) = subst (λ (g : List Event). StandsFor d' g) (sym over.history) (subst (λ (e : Database). StandsFor e h) (sym over.database) held)

-- ---- the step of a line

made_step : (h : List Event) (line : List ℕ) (old new : Database) (out out' : List ℕ) (note : Done) → Called h line old (Ok tt) new → IsShown (text_of (last_of new)) out out' note → IsTakenBy h line old out out' (Ok note) new
made_step h line old new out out' note called (inl fits) =
    (record { line = line; note = note; shown = text_of (last_of new) }, called.0.0 ∷ h, refl, refl, record { outcome = Ok tt; called = called; noted = inl (fits.0, fits.1, refl); stands = called.0.1.holds; grown = (called.0.0, refl) }, fits.2)
made_step h line old new out out' note called (inr few) =
    (record { line = line; note = note; shown = [] }, called.0.0 ∷ h, refl, refl, record { outcome = Ok tt; called = called; noted = inr (few.0, few.1, refl); stands = called.0.1.holds; grown = (called.0.0, refl) }, few.2)

pub taken_made : (h : List Event) (line : List ℕ) (old new : Database) (out out' : List ℕ) (note : Done) → Called h line old (Ok tt) new → IsShown (kept_text new) out out' note → IsTakenBy h line old out out' (Ok note) new
taken_made h line old new out out' note called shown = made_step h line old new out out' note called (subst (λ (text : List ℕ). IsShown text out out' note) called.1 shown)

pub taken_unwritten : (h : List Event) (line : List ℕ) (old new : Database) (out : List ℕ) → Called h line old (Err Unwritten) new → IsTakenBy h line old out out (Ok (record { length = 0; status = 14 })) new
taken_unwritten h line old new out called =
    (record { line = line; note = record { length = 0; status = 14 }; shown = [] }, called.0.0 ∷ h, refl, refl, record { outcome = Err Unwritten; called = called; noted = (refl, refl); stands = called.0.1.holds; grown = (called.0.0, refl) }, refl)

-- a faulty line makes no call
pub taken_faulty : (most : ℕ) (h : List Event) (line : List ℕ) (old : Database) (out : List ℕ) (status : ℕ) (f : LineFault) → StandsFor old h → command_at Two table 64 line ≡ Err f → status ≡ code_of f → IsTaken most h line old out out (Ok (record { length = 0; status = status })) old
taken_faulty most h line old out status f held fault is =
    (record { line = line; note = record { length = 0; status = status }; shown = [] }, h, refl, refl, inl (record { outcome = Err (Fault f); called = (refl, fault); noted = ((λ i. record { length = 0; status = is i }), refl); stands = held; grown = refl }, (λ x read. (let no : Err f ≡ Ok x = sym fault ∙ read in cc))), refl)

-- a line whose answer isn't too long makes its call
pub let_through : (most : ℕ) (h : List Event) (line : List ℕ) (read : ℕ × Cmd) (old new : Database) (out out' : List ℕ) (result : Result Done CallError) → command_at Two table 64 line ≡ Ok read → is_too_long (effects_of h) read.0 most read.1 ≡ false → IsTakenBy h line old out out' result new → IsTaken most h line old out out' result new
let_through most h line read old new out out' (Ok note) is short t =
    (t.0, t.1, t.2, t.3, inl (t.4, (λ x there. let same : read ≡ x = (let both : Ok read ≡ Ok x = sym is ∙ (ap (command_at Two table 64) (sym t.2) ∙ there) in cc) in subst (λ (y : ℕ × Cmd). is_too_long (effects_of h) y.0 most y.1 ≡ false) same short)), t.5)
let_through most h line read old new out out' (Err (Fault f)) is short t = absurd t
let_through most h line read old new out out' (Err Unwritten) is short t = absurd t
let_through most h line read old new out out' (Err NoMemory) is short t = (t.0, t.1, inl t.2)
let_through most h line read old new out out' (Err Spent) is short t = (t.0, t.1, t.2)

-- one whose answer is too long is passed over
pub passed_over : (most : ℕ) (h : List Event) (line : List ℕ) (read : ℕ × Cmd) (old : Database) (out : List ℕ) → command_at Two table 64 line ≡ Ok read → is_too_long (effects_of h) read.0 most read.1 ≡ true → (length h ≡ 18446744073709551615 → ⊥) → IsTaken most h line old out out (Ok (record { length = 0; status = 25 })) old
passed_over most h line read old out is long unspent =
    (record { line = line; note = record { length = 0; status = 25 }; shown = [] }, h, refl, refl, inr (record { read = read; is = is; long = long; unspent = unspent; note = refl; shown = refl; database = refl; history = refl }), refl)
