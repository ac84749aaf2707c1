-- What was taken of several lines so far, and how it goes on by one.
use Rattle.std.proofs.Common.{◌≡◌, ◌⊎◌, ℕ, ◌+◌, ◌-◌, ◌<◌, ◌≤◌, List, [], ◌∷◌, ◌++◌, length, take, drop, set, map, get_or, Ok, Err, inl, inr, arith, refl, sym, ap, ◌∙◌, subst, append_assoc, length-append, length-drop, drop-drop}
use Rattle.embedded.proofs.Common.{Event, append-nil, drop_all, drop_at, drop_more, flat_map, flat_map-append, length-map, length-take-le, length_push, map_push, set_at, take-append-drop, take_at}
use Rattle.std.specs.Prelude.{Result}
use borrow.Rule.Slice.PartMut.{put_mid}
use Rattle.embedded.specs.Embedded.{StandsFor}
use Rattle.embedded.specs.Several.{AreSteps, EndsBy, HaveBeenCalled, IsStep, IsTaken, IsUncalled, Step, first_line}
use Rattle.embedded.specs.declared.database.Database.{Database}
use Rattle.embedded.specs.declared.database.CallError.{CallError}
use Rattle.embedded.specs.declared.database.CallError.TheVariants.{Fault, NoMemory, Spent, Unwritten}
use Rattle.embedded.specs.declared.several.Done.{Done}
use Rattle.embedded.specs.declared.several.Taken.{Taken}
use Rattle.embedded.proofs.TakenLines.{step_fits, step_missing, step_stands, step_whole}

-- the texts that were shown, one behind another
abbrev pub texts : List Step → List ℕ
texts steps = flat_map (λ (s : Step). s.shown) steps

-- what is noted of a line
abbrev note_of : Step → Done
note_of s = s.note

-- no text is missing
abbrev pub NoneMissing : List Step → Type 0
NoneMissing [] = Unit {0}
NoneMissing (s ∷ steps) = ¬ (s.note.status ≡ 14) × NoneMissing steps

-- so many lines were taken by these steps
pub record HaveTaken (most : ℕ) (h : List Event) (lines : List ℕ) (old : Database) (out : List ℕ) (notes : List Done) (steps : List Step) (taken : Taken) (out' : List ℕ) (notes' : List Done) (new : Database) : Type 0 where
  pub after : List Event
  pub called : AreSteps (length out) most h old lines steps (drop taken.bytes lines) after new
  pub stands : StandsFor new after
  pub fits : length (texts steps) ≤ length out
  pub count : taken.lines ≡ length steps
  pub size : taken.length ≡ length (texts steps)
  pub shown : out' ≡ texts steps ++ drop (length (texts steps)) out
  pub noted : notes' ≡ map note_of steps ++ drop (length steps) notes

-- steps go on by one at the end
steps_more : (room most : ℕ) (h : List Event) (d : Database) (bytes : List ℕ) (steps : List Step) (left : List ℕ) (h' : List Event) (d' : Database) (s : Step) (h2 : List Event) (d2 : Database)
    → AreSteps room most h d bytes steps left h' d' → 0 < length left → s.line ≡ first_line left → IsStep (room - length (texts steps)) most h' d' s h2 d2
    → AreSteps room most h d bytes (steps ++ s ∷ []) (drop (length s.line) left) h2 d2
steps_more room most h d bytes [] left h' d' s h2 d2 are some line step =
    let whole : room - 0 ≡ room = omega arith in
    let at_room : IsStep room most h' d' s h2 d2 = subst (λ (n : ℕ). IsStep n most h' d' s h2 d2) whole step in
    let at_history : IsStep room most h d' s h2 d2 = subst (λ (g : List Event). IsStep room most g d' s h2 d2) are.1 at_room in
    (omega (arith, some, ap length are.0), h2, d2, line ∙ ap first_line are.0, subst (λ (e : Database). IsStep room most h e s h2 d2) are.2 at_history, (ap (drop (length s.line)) are.0, refl, refl))
steps_more room most h d bytes (x ∷ steps) left h' d' s h2 d2 are some line step =
    let less : room - length (x.shown ++ texts steps) ≡ room - length x.shown - length (texts steps) = omega (arith, length-append x.shown (texts steps)) in
    (are.0, are.1, are.2, are.3, are.4, steps_more (room - length x.shown) most are.1 are.2 (drop (length x.line) bytes) steps left h' d' s h2 d2 are.5 some line (subst (λ (n : ℕ). IsStep n most h' d' s h2 d2) less step))

-- a text stands behind the texts
written_more : (out out' before shown part : List ℕ) (n : ℕ) → out' ≡ before ++ drop (length before) out → n ≡ length before → part ≡ shown ++ drop (length shown) (drop n out') → take n out' ++ part ≡ (before ++ shown) ++ drop (length (before ++ shown)) out
written_more out out' before shown part n is at written =
    let front : take n out' ≡ before = ap (take n) is ∙ take_at before (drop (length before) out) n (sym at) in
    let rest : drop n out' ≡ drop (length before) out = ap (drop n) is ∙ drop_at before (drop (length before) out) n (sym at) in
    let behind : drop (length shown) (drop n out') ≡ drop (length (before ++ shown)) out = ap (drop (length shown)) rest ∙ (drop-drop (length shown) (length before) out ∙ ap (λ (k : ℕ). drop k out) (sym (length-append before shown))) in
    (λ i. front i ++ written i) ∙ (ap (λ (ys : List ℕ). before ++ (shown ++ ys)) behind ∙ sym (append_assoc before shown (drop (length (before ++ shown)) out)))

-- a note stands behind the notes
noted_more : (notes notes' before : List Done) (note : Done) (n : ℕ) → notes' ≡ before ++ drop n notes → n ≡ length before → n < length notes → set notes' n note ≡ (before ++ note ∷ []) ++ drop (n + 1) notes
noted_more notes notes' before note n is at low =
    let split : notes' ≡ before ++ get_or notes n note ∷ drop (n + 1) notes = is ∙ ap (λ (l : List Done). before ++ l) (drop_more notes n note low) in
    ap (λ (l : List Done). set l n note) split ∙ (set_at before (get_or notes n note) (drop (n + 1) notes) note n (sym at) ∙ sym (append_assoc before (note ∷ []) (drop (n + 1) notes)))

texts_more : (steps : List Step) (s : Step) → texts (steps ++ s ∷ []) ≡ texts steps ++ s.shown
texts_more steps s = flat_map-append (λ (t : Step). t.shown) steps (s ∷ []) ∙ ap (λ (l : List ℕ). texts steps ++ l) (append-nil s.shown)

-- one line more was taken
pub taken_more : (most : ℕ) (h : List Event) (lines : List ℕ) (old : Database) (out : List ℕ) (notes : List Done) (steps : List Step) (taken : Taken) (out' : List ℕ) (notes' : List Done) (d d' : Database) (line part : List ℕ) (s : Step) (h' : List Event) (size : ℕ)
    → (g : HaveTaken most h lines old out notes steps taken out' notes' d)
    → line ≡ first_line (drop taken.bytes lines) → taken.bytes < length lines → taken.lines < length notes
    → s.line ≡ line → IsStep (length (drop taken.length out')) most g.after d s h' d' → part ≡ s.shown ++ drop (length s.shown) (drop taken.length out')
    → size ≡ taken.length + length s.shown
    → HaveTaken most h lines old out notes (steps ++ s ∷ []) (record { lines = taken.lines + 1; bytes = taken.bytes + length line; length = size }) (take taken.length out' ++ part) (set notes' taken.lines s.note) d'
taken_more most h lines old out notes steps taken out' notes' d d' line part s h' size g first some low is step written more =
    let same_size : length out' ≡ length out = omega (arith, ap length g.shown, length-append (texts steps) (drop (length (texts steps)) out), length-drop (length (texts steps)) out, g.fits) in
    let room : length (drop taken.length out') ≡ length out - length (texts steps) = omega (arith, length-drop taken.length out', same_size, g.size) in
    let fit : length s.shown ≤ length (drop taken.length out') = step_fits (length (drop taken.length out')) most g.after d s h' d' step in
    let all : texts (steps ++ s ∷ []) ≡ texts steps ++ s.shown = texts_more steps s in
    let all_size : length (texts (steps ++ s ∷ [])) ≡ length (texts steps) + length s.shown = ap length all ∙ length-append (texts steps) s.shown in
    let count : taken.lines + 1 ≡ length (steps ++ s ∷ []) = omega (arith, g.count, length_push steps s) in
    let behind : drop (length s.line) (drop taken.bytes lines) ≡ drop (taken.bytes + length line) lines = drop-drop (length s.line) taken.bytes lines ∙ ap (λ (l : List ℕ). drop (taken.bytes + length l) lines) is in
    let left : 0 < length (drop taken.bytes lines) = omega (arith, length-drop taken.bytes lines, some) in
    let shown : take taken.length out' ++ part ≡ (texts steps ++ s.shown) ++ drop (length (texts steps ++ s.shown)) out = written_more out out' (texts steps) s.shown part taken.length g.shown g.size written in
    let noted : set notes' taken.lines s.note ≡ (map note_of steps ++ s.note ∷ []) ++ drop (taken.lines + 1) notes = noted_more notes notes' (map note_of steps) s.note taken.lines (g.noted ∙ ap (λ (k : ℕ). map note_of steps ++ drop k notes) (sym g.count)) (omega (arith, g.count, length-map steps note_of)) low in
    record {
      after = h';
      called = subst (λ (bytes : List ℕ). AreSteps (length out) most h old lines (steps ++ s ∷ []) bytes h' d') behind (steps_more (length out) most h old lines steps (drop taken.bytes lines) g.after d s h' d' g.called left (is ∙ first) (subst (λ (n : ℕ). IsStep n most g.after d s h' d') room step));
      stands = step_stands (length (drop taken.length out')) most g.after d s h' d' g.stands step;
      fits = omega (arith, all_size, fit, room, g.fits);
      count = count;
      size = omega (arith, more, all_size, g.size);
      shown = shown ∙ ap (λ (ts : List ℕ). ts ++ drop (length ts) out) (sym all);
      noted = noted ∙ (λ i. sym (map_push note_of steps s) i ++ drop (count i) notes);
    }

-- where no text is missing and the next one isn't, none is
pub none_more : (steps : List Step) (s : Step) → NoneMissing steps → ¬ (s.note.status ≡ 14) → NoneMissing (steps ++ s ∷ [])
none_more [] s none shown = (shown, tt)
none_more (x ∷ steps) s none shown = (none.0, none_more steps s none.1 shown)

-- nothing stands behind a text that is missing, and that is told
abbrev pub LastMissing : List Step → Result (Unit {0}) CallError → Type 0
LastMissing steps result = (before behind : List Step) (s : Step) → steps ≡ before ++ s ∷ behind → s.note.status ≡ 14 → (behind ≡ []) × (result ≡ Err Unwritten)

not_empty : (before behind : List Step) (s : Step) → ¬ ([] ≡ before ++ s ∷ behind)
not_empty [] behind s is = absurd cc
not_empty (x ∷ before) behind s is = absurd cc

pub none_last : (steps : List Step) (result : Result (Unit {0}) CallError) → NoneMissing steps → LastMissing steps result
none_last [] result none before behind s is missing = absurd (not_empty before behind s is)
none_last (x ∷ steps) result none [] behind s is missing = let same : x ≡ s = cc in absurd (none.0 (ap (λ (t : Step). t.note.status) same ∙ missing))
none_last (x ∷ steps) result none (b ∷ before) behind s is missing = let rest : steps ≡ before ++ s ∷ behind = cc in none_last steps result none.1 before behind s rest missing

pub one_last : (steps : List Step) (t : Step) → NoneMissing steps → LastMissing (steps ++ t ∷ []) (Err Unwritten)
one_last [] t none [] behind s is missing = (cc, refl)
one_last [] t none (b ∷ before) behind s is missing = let rest : [] ≡ before ++ s ∷ behind = cc in absurd (not_empty before behind s rest)
one_last (x ∷ steps) t none [] behind s is missing = let same : x ≡ s = cc in absurd (none.0 (ap (λ (u : Step). u.note.status) same ∙ missing))
one_last (x ∷ steps) t none (b ∷ before) behind s is missing = let rest : steps ++ t ∷ [] ≡ before ++ s ∷ behind = cc in one_last steps t none.1 before behind s rest missing

-- what was taken by steps that end so are the calls of the lines
pub calls_of : (most : ℕ) (h : List Event) (lines : List ℕ) (old : Database) (out : List ℕ) (notes : List Done) (steps : List Step) (taken : Taken) (out' : List ℕ) (notes' : List Done) (new : Database) (result : Result (Unit {0}) CallError)
    → (g : HaveTaken most h lines old out notes steps taken out' notes' new) → taken.bytes ≤ length lines → EndsBy most g.after new (drop taken.bytes lines) steps (length notes) result → LastMissing steps result
    → HaveBeenCalled most h lines old out out' notes notes' taken result new
calls_of most h lines old out notes steps taken out' notes' new result g within ends last =
    let bytes : taken.bytes ≡ length lines - length (drop taken.bytes lines) = omega (arith, length-drop taken.bytes lines, within) in
    record { steps = steps; left = drop taken.bytes lines; after = g.after; called = g.called; stands = g.stands; ends = ends; whole = last; counted = (λ i. record { lines = g.count i; bytes = bytes i; length = g.size i }); shown = g.shown; noted = g.noted }

-- ---- as the code has it

-- what was written at the end of the bytes
put_end : (a : ℕ) (xs ys : List ℕ) → put_mid a (length xs - a) xs ys ≡ take a xs ++ ys
put_end a xs ys = ap (λ (rest : List ℕ). take a xs ++ (ys ++ rest)) (drop_all (length xs - a) (drop a xs) (omega (arith, length-drop a xs))) ∙ ap (λ (l : List ℕ). take a xs ++ l) (append-nil ys)

pub bytes_within : (lines rest line : List ℕ) (n : ℕ) → rest ≡ drop n lines → length line ≤ length rest → n ≤ length lines → n + length line ≤ length lines
bytes_within lines rest line n is short within = omega (arith, ap length is, length-drop n lines, short, within)

pub room_left : (a : ℕ) (xs ys room : List ℕ) (note : Done) → length ys ≡ length room → a ≤ length xs → ¬ (note.status ≡ 14) → (note.status ≡ 14) ⊎ (note.length ≤ length room) → a + note.length ≤ length (put_mid a (length xs - a) xs ys)
room_left a xs ys room note kept within shown (inl missing) = absurd (shown missing)
room_left a xs ys room note kept within shown (inr fits) = omega (arith, ap length (put_end a xs ys), length-append (take a xs) ys, length-take-le a xs within, kept, fits)

line_taken : (most : ℕ) (h : List Event) (lines : List ℕ) (old : Database) (out : List ℕ) (notes : List Done) (steps : List Step) (taken : Taken) (out' : List ℕ) (notes' : List Done) (d d' : Database) (line part rest room : List ℕ) (note : Done) (size : ℕ)
    → (g : HaveTaken most h lines old out notes steps taken out' notes' d)
    → rest ≡ drop taken.bytes lines → line ≡ first_line rest → room ≡ drop taken.length out' → taken.bytes < length lines → taken.lines < length notes
    → (t : IsTaken most g.after line d room part (Ok note) d') → size ≡ taken.length + length t.0.shown
    → HaveTaken most h lines old out notes (steps ++ t.0 ∷ []) (record { lines = taken.lines + 1; bytes = taken.bytes + length line; length = size }) (put_mid taken.length (length out' - taken.length) out' part) (set notes' taken.lines note) d'
line_taken most h lines old out notes steps taken out' notes' d d' line part rest room note size g rest_is first room_is some low t more =
    let next : Taken = record { lines = taken.lines + 1; bytes = taken.bytes + length line; length = size } in
    let step : IsStep (length (drop taken.length out')) most g.after d t.0 t.1 d' = subst (λ (l : List ℕ). IsStep (length l) most g.after d t.0 t.1 d') room_is t.4 in
    let written : part ≡ t.0.shown ++ drop (length t.0.shown) (drop taken.length out') = t.5 ∙ ap (λ (l : List ℕ). t.0.shown ++ drop (length t.0.shown) l) room_is in
    let went : HaveTaken most h lines old out notes (steps ++ t.0 ∷ []) next (take taken.length out' ++ part) (set notes' taken.lines t.0.note) d' = taken_more most h lines old out notes steps taken out' notes' d d' line part t.0 t.1 size g (first ∙ ap first_line rest_is) some low t.2 step written more in
    let noted : HaveTaken most h lines old out notes (steps ++ t.0 ∷ []) next (take taken.length out' ++ part) (set notes' taken.lines note) d' = subst (λ (n : Done). HaveTaken most h lines old out notes (steps ++ t.0 ∷ []) next (take taken.length out' ++ part) (set notes' taken.lines n) d') t.3 went in
    subst (λ (o : List ℕ). HaveTaken most h lines old out notes (steps ++ t.0 ∷ []) next o (set notes' taken.lines note) d') (sym (put_end taken.length out' part)) noted

-- a line whose text isn't missing was taken
pub goes_on : (most : ℕ) (h : List Event) (lines : List ℕ) (old : Database) (out : List ℕ) (notes : List Done) (steps : List Step) (taken : Taken) (out' : List ℕ) (notes' : List Done) (d d' : Database) (line part rest room : List ℕ) (note : Done)
    → (g : HaveTaken most h lines old out notes steps taken out' notes' d) → NoneMissing steps
    → rest ≡ drop taken.bytes lines → line ≡ first_line rest → room ≡ drop taken.length out' → taken.bytes < length lines → taken.lines < length notes
    → IsTaken most g.after line d room part (Ok note) d' → ¬ (note.status ≡ 14)
    → (steps' : List Step) × HaveTaken most h lines old out notes steps' (record { lines = taken.lines + 1; bytes = taken.bytes + length line; length = taken.length + note.length }) (put_mid taken.length (length out' - taken.length) out' part) (set notes' taken.lines note) d' × NoneMissing steps'
goes_on most h lines old out notes steps taken out' notes' d d' line part rest room note g none rest_is first room_is some low t shown =
    let there : ¬ (t.0.note.status ≡ 14) = λ missing. shown (sym (ap (λ (n : Done). n.status) t.3) ∙ missing) in
    let whole : length t.0.shown ≡ note.length = step_whole (length room) most g.after d t.0 t.1 d' t.4 there ∙ ap (λ (n : Done). n.length) t.3 in
    (steps ++ t.0 ∷ [], line_taken most h lines old out notes steps taken out' notes' d d' line part rest room note (taken.length + note.length) g rest_is first room_is some low t (omega (arith, whole)), none_more steps t.0 none there)

-- a line whose text is missing was taken, as the last one
pub ends_missing : (most : ℕ) (h : List Event) (lines : List ℕ) (old : Database) (out : List ℕ) (notes : List Done) (steps : List Step) (taken : Taken) (out' : List ℕ) (notes' : List Done) (d d' : Database) (line part rest room : List ℕ) (note : Done)
    → (g : HaveTaken most h lines old out notes steps taken out' notes' d) → NoneMissing steps
    → rest ≡ drop taken.bytes lines → line ≡ first_line rest → room ≡ drop taken.length out' → taken.bytes < length lines → taken.lines < length notes
    → IsTaken most g.after line d room part (Ok note) d' → note.status ≡ 14 → taken.bytes + length line ≤ length lines
    → HaveBeenCalled most h lines old out (put_mid taken.length (length out' - taken.length) out' part) notes (set notes' taken.lines note) (record { lines = taken.lines + 1; bytes = taken.bytes + length line; length = taken.length }) (Err Unwritten) d'
ends_missing most h lines old out notes steps taken out' notes' d d' line part rest room note g none rest_is first room_is some low t missing within =
    let so : t.0.note.status ≡ 14 = ap (λ (n : Done). n.status) t.3 ∙ missing in
    let nothing : length t.0.shown ≡ 0 = step_missing (length room) most g.after d t.0 t.1 d' t.4 so in
    let went = line_taken most h lines old out notes steps taken out' notes' d d' line part rest room note taken.length g rest_is first room_is some low t (omega (arith, nothing)) in
    calls_of most h lines old out notes (steps ++ t.0 ∷ []) (record { lines = taken.lines + 1; bytes = taken.bytes + length line; length = taken.length }) (put_mid taken.length (length out' - taken.length) out' part) (set notes' taken.lines note) d' (Err Unwritten) went within (steps, t.0, refl, so) (one_last steps t.0 none)

-- no line behind them was taken
ends_before : (most : ℕ) (h : List Event) (lines : List ℕ) (old : Database) (out : List ℕ) (notes : List Done) (steps : List Step) (taken : Taken) (out' : List ℕ) (notes' : List Done) (d d' : Database) (part room : List ℕ) (error : CallError)
    → (g : HaveTaken most h lines old out notes steps taken out' notes' d) → NoneMissing steps → room ≡ drop taken.length out' → taken.bytes ≤ length lines
    → EndsBy most g.after d (drop taken.bytes lines) steps (length notes) (Err error) → part ≡ room → d' ≡ d
    → HaveBeenCalled most h lines old out (put_mid taken.length (length out' - taken.length) out' part) notes notes' taken (Err error) d'
ends_before most h lines old out notes steps taken out' notes' d d' part room error g none room_is within ends part_is same =
    let there : HaveBeenCalled most h lines old out out' notes notes' taken (Err error) d = calls_of most h lines old out notes steps taken out' notes' d (Err error) g within ends (none_last steps (Err error) none) in
    let kept : out' ≡ put_mid taken.length (length out' - taken.length) out' part = sym (put_end taken.length out' part ∙ (ap (λ (l : List ℕ). take taken.length out' ++ l) (part_is ∙ room_is) ∙ take-append-drop taken.length out')) in
    subst (λ (o : List ℕ). HaveBeenCalled most h lines old out o notes notes' taken (Err error) d') kept (subst (λ (e : Database). HaveBeenCalled most h lines old out out' notes notes' taken (Err error) e) (sym same) there)

pub ends_refused : (most : ℕ) (h : List Event) (lines : List ℕ) (old : Database) (out : List ℕ) (notes : List Done) (steps : List Step) (taken : Taken) (out' : List ℕ) (notes' : List Done) (d d' : Database) (line part rest room : List ℕ) (error : CallError)
    → (g : HaveTaken most h lines old out notes steps taken out' notes' d) → NoneMissing steps
    → rest ≡ drop taken.bytes lines → line ≡ first_line rest → room ≡ drop taken.length out' → taken.bytes ≤ length lines → taken.lines < length notes
    → IsTaken most g.after line d room part (Err error) d'
    → HaveBeenCalled most h lines old out (put_mid taken.length (length out' - taken.length) out' part) notes notes' taken (Err error) d'
ends_refused most h lines old out notes steps taken out' notes' d d' line part rest room NoMemory g none rest_is first room_is within low t =
    ends_before most h lines old out notes steps taken out' notes' d d' part room NoMemory g none room_is within (omega (arith, g.count, low), subst (λ (l : List ℕ). IsUncalled most g.after l d NoMemory) (first ∙ ap first_line rest_is) t.2) t.0 t.1
ends_refused most h lines old out notes steps taken out' notes' d d' line part rest room Spent g none rest_is first room_is within low t =
    ends_before most h lines old out notes steps taken out' notes' d d' part room Spent g none room_is within (omega (arith, g.count, low), subst (λ (l : List ℕ). IsUncalled most g.after l d Spent) (first ∙ ap first_line rest_is) t.2) t.0 t.1
ends_refused most h lines old out notes steps taken out' notes' d d' line part rest room (Fault f) g none rest_is first room_is within low t = absurd t
ends_refused most h lines old out notes steps taken out' notes' d d' line part rest room Unwritten g none rest_is first room_is within low t = absurd t

-- all bytes were taken
pub ends_all : (most : ℕ) (h : List Event) (lines : List ℕ) (old : Database) (out : List ℕ) (notes : List Done) (steps : List Step) (taken : Taken) (out' : List ℕ) (notes' : List Done) (d : Database)
    → HaveTaken most h lines old out notes steps taken out' notes' d → NoneMissing steps → taken.bytes ≤ length lines → length lines ≤ taken.bytes
    → HaveBeenCalled most h lines old out out' notes notes' taken (Ok tt) d
ends_all most h lines old out notes steps taken out' notes' d g none within all =
    calls_of most h lines old out notes steps taken out' notes' d (Ok tt) g within (inl (drop_all taken.bytes lines all)) (none_last steps (Ok tt) none)

-- or no note has room
pub ends_full : (most : ℕ) (h : List Event) (lines : List ℕ) (old : Database) (out : List ℕ) (notes : List Done) (steps : List Step) (taken : Taken) (out' : List ℕ) (notes' : List Done) (d : Database)
    → HaveTaken most h lines old out notes steps taken out' notes' d → NoneMissing steps → taken.bytes ≤ length lines → length notes' ≡ length notes → length notes ≤ taken.lines
    → HaveBeenCalled most h lines old out out' notes notes' taken (Ok tt) d
ends_full most h lines old out notes steps taken out' notes' d g none within same full =
    let noted : length (map note_of steps) + length (drop (length steps) notes) ≡ length notes = sym (length-append (map note_of steps) (drop (length steps) notes)) ∙ (sym (ap length g.noted) ∙ same) in
    let all : length steps ≡ length notes = omega (arith, noted, length-map steps note_of, length-drop (length steps) notes, g.count, full) in
    calls_of most h lines old out notes steps taken out' notes' d (Ok tt) g within (inr all) (none_last steps (Ok tt) none)
