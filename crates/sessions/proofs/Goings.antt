-- A run from one step to the next, and how it ends.
use Rattle.std.proofs.Common.{◌≡◌, ℕ, Bool, List, [], ◌∷◌, ◌++◌, refl, sym, ap, ◌∙◌, subst, append-nil, append_assoc, inl, inr}
use Rattle.sessions.proofs.Common.{Config, Event, Format, StartsWith, event_text, events_text, fault_line, header, spent_line, transcript_text}
use Rattle.sessions.specs.declared.ending.ServeEnd.{ServeEnd}
use Rattle.sessions.specs.declared.ending.ServeEnd.TheVariants as end
use Rattle.sessions.specs.Runs.{calls_of, IsPart, IsWanting, EndsBy}

-- ---- lists

-- what came behind waits behind
pub behind : (given t w got : List ℕ) → (given ++ (t ++ w)) ++ got ≡ given ++ (t ++ (w ++ got))
behind given t w got = append_assoc given (t ++ w) got ∙ ap (λ (xs : List ℕ). given ++ xs) (append_assoc t w got)

pub calls_more : (events : List Event) (e : Event) → calls_of (events ++ e ∷ []) ≡ calls_of events ++ (e.seat, e.cmd) ∷ []
calls_more [] e = refl
calls_more (x ∷ events) e = ap (λ xs. (x.seat, x.cmd) ∷ xs) (calls_more events e)

events_more : (events : List Event) (e : Event) → events_text (events ++ e ∷ []) ≡ events_text events ++ event_text e
events_more [] e = append-nil (event_text e)
events_more (x ∷ events) e = ap (λ (xs : List ℕ). event_text x ++ xs) (events_more events e) ∙ sym (append_assoc (event_text x) (events_text events) (event_text e))

pub text_more : (format : Format) (events : List Event) (e : Event) → transcript_text format (events ++ e ∷ []) ≡ transcript_text format events ++ event_text e
text_more format events e = ap (λ (xs : List ℕ). header format ++ xs) (events_more events e) ∙ sym (append_assoc (header format) (events_text events) (event_text e))

-- a beginning of a beginning
starts_trans : (whole part less : List ℕ) → StartsWith whole part → StartsWith part less → StartsWith whole less
starts_trans whole part less a b = (b.0 ++ a.0, a.1 ∙ (ap (λ (xs : List ℕ). xs ++ a.0) b.1 ∙ append_assoc less b.0 a.0))

-- nothing begins with nothing alone
no_front : (front rest : List ℕ) → [] ≡ front ++ rest → front ≡ []
no_front [] rest e = refl
no_front (x ∷ front) rest e = absurd cc

-- ---- the output of an end

module _ {used : Type 0} (format : Format) (seats : ℕ) (input : List ℕ) (ended : Bool) (events : List Event) where
  pub part_of_text : (output : List ℕ) → StartsWith (transcript_text format events) output → IsPart format used seats input ended events output
  part_of_text output s = record { last = []; is_last = inl refl; begins = (s.0, append-nil (transcript_text format events) ∙ s.1) }

module _ (format : Format) (used : Type 0) (config : Config) (input : List ℕ) (ended : Bool) (events : List Event) where
  begun : (whole output : List ℕ) → transcript_text format events ≡ whole → StartsWith whole output → IsPart format used config.seats input ended events output
  begun whole output is s = part_of_text format config.seats input ended events output (subst (λ (xs : List ℕ). StartsWith xs output) (sym is) s)

  -- nothing is a part
  nothing : (output : List ℕ) → output ≡ [] → IsPart format used config.seats input ended events output
  nothing output none = part_of_text format config.seats input ended events output (transcript_text format events, ap (λ (xs : List ℕ). xs ++ transcript_text format events) (sym none))

  -- what was written where memory was wanted is a part
  wanted : (whole output : List ℕ) → IsWanting format config.seats input events whole → StartsWith whole output → IsPart format used config.seats input ended events output
  wanted whole output (inl h) s = nothing output (no_front output s.0 (sym h.2 ∙ s.1))
  wanted whole output (inr (inl h)) s = begun whole output (sym h.1) s
  wanted whole output (inr (inr h)) s =
      let told : transcript_text format events ≡ whole ++ event_text h.1 = ap (transcript_text format) h.2 ∙ (text_more format h.0 h.1 ∙ ap (λ (xs : List ℕ). xs ++ event_text h.1) (sym h.3)) in
      part_of_text format config.seats input ended events output (starts_trans (transcript_text format events) whole output (event_text h.1, told) s)

  -- where the rest can't be written, what was is a part
  pub cut_off : (e : ServeEnd) (whole output : List ℕ) → EndsBy format used config input ended events whole e → StartsWith whole output → IsPart format used config.seats input ended events output
  cut_off end.Done whole output h s = begun whole output (sym h.2) s
  cut_off (end.Fault line fault) whole output h s = record { last = fault_line line fault; is_last = inr (inl (line, fault, h.0, refl)); begins = subst (λ (xs : List ℕ). StartsWith xs output) h.1 s }
  cut_off (end.Spent line) whole output h s = record { last = spent_line line; is_last = inr (inr (line, h.0, refl)); begins = subst (λ (xs : List ℕ). StartsWith xs output) h.1 s }
  cut_off (end.Open reason) whole output h s = nothing output (no_front output s.0 (sym h.3 ∙ s.1))
  cut_off end.Input whole output h s = begun whole output (sym h.1) s
  cut_off end.Output whole output h s = record { last = h.last; is_last = h.is_last; begins = starts_trans (transcript_text format events ++ h.last) whole output h.begins s }
  cut_off end.Memory whole output h s = wanted whole output h s
