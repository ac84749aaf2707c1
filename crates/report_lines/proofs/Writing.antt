-- The end of a line that is written member by member.
use Rattle.std.proofs.Common.{◌≡◌, List, [], ◌∷◌, ℕ, ◌≤◌, ◌++◌, take, length, append_assoc, codes, Result, Ok, Err, OnOk, is_ok, if◌then◌else◌, refl, ap, sym, ◌∙◌}
use Rattle.std.proofs.lemmas.List.{take_all}
use Rattle.std.specs.declared.alloc.AllocError.{AllocError}
use Rattle.report_lines.proofs.Common.{flat_map}
use Rattle.report_lines.specs.Lines.{begins, ends, text_of, up_to_end, line_of}
use Rattle.report_lines.specs.declared.members.Member.{Member}

-- members, and then the end of a line
all_members : (ms : List Member) → up_to_end ms ≡ flat_map text_of ms ++ ends
unfolding up_to_end
all_members [] = refl
all_members (m ∷ ms) = ap (λ (text : List ℕ). text_of m ++ text) (all_members ms) ∙ sym (append_assoc (text_of m) (flat_map text_of ms) ends)

-- behind all members the end makes the line whole
pub ended : (r : Result (Unit {0}) AllocError) (ms : List Member) (i : ℕ) (kind out old new : List ℕ) → length ms ≤ i → old ≡ out ++ begins kind ++ flat_map text_of (take i ms) → new ≡ (if is_ok r then old ++ codes "}\n" else old) → OnOk r (new ≡ out ++ line_of kind ms)
unfolding line_of ends
ended (Ok x) ms i kind out old new past before now = now ∙ rw (before, take_all i ms past, all_members ms) (simp append_assoc)
ended (Err e) ms i kind out old new past before now = tt
