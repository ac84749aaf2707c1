-- What is read as a command is written so.
use Rattle.word_lines.proofs.Common.{AllByRecursion, BadByte, Cmd, Format, LineFault, LineTooLong, NoNewline, UnknownCommand, WordCount, append-nil, bytes_eq-Decides, common_steps, eq-eqb, eqb-true, join_with_byte-slice_split, le-ltb, length-append, line_limit, list_all, list_any, nil_from_length, not-false}
use Rattle.std.proofs.Common.{◌≡◌, ℕ, ◌+◌, ◌-◌, ◌<◌, Bool, true, false, cond, List, [], ◌∷◌, ◌++◌, length, take, Option, Some, Ok, Err, refl, sym, ap, subst, ◌∙◌, arith}
use Rattle.std.specs.Prelude.{decimal, map, bytes_eq, ok_or, not, ◌==◌, nat_lt}
use Rattle.spans.specs.declared.calls.commands.Cmd.TheVariants as cmd
use Rattle.word_lines.specs.declared.table.Verb.{Verb}
use Rattle.word_lines.specs.declared.table.Verb.TheVariants as verb
use Rattle.word_lines.specs.declared.table.Form.{Form}
use Rattle.word_lines.specs.Words.{has_newline, without_newline, text_at, is_printable, is_empty, words, words_at}
use Rattle.word_lines.specs.Table.{Signature, Parts, Row, arity, layout_of, pieces, pieces_of, row, row_of, table, verbs}
use Rattle.word_lines.specs.Events.{joined, parts_words, words_in, words_of, command_line}
use Rattle.word_lines.specs.Limits.{ArePieces, IsCommand}
use Rattle.word_lines.specs.Reading.{◌>>=◌, word_at, session_at, row_at, parts_at, laid_at, arguments_at, counted_at, taken_of, command_of, command_at}
use Rattle.word_lines.proofs.Joining.{words_are}
use Rattle.word_lines.proofs.ReadWords.{bind_ok, guarded, refused, some_ok, ok_is, pure, session_word, word_found}
use Rattle.word_lines.proofs.ReadParts.{parts_read}

-- the name of a verb, and how many words its command has behind it
abbrev pub name_of : Verb → List ℕ
name_of v = (layout_of v).name

abbrev pub arity_of : Verb → ℕ
arity_of v = arity (layout_of v).signature

-- as many words are written as a signature has
pub parts_count : (s : Signature) (p : Parts s) → length (parts_words s p) ≡ arity s
parts_count s p = grind arith

-- a command that is made of pieces is taken to them, and the other way round
pieces_again : (v : Verb) (p : Parts (layout_of v).signature) → pieces_of ((layout_of v).make p) ≡ pieces v p
pieces_again verb.Begin p = refl
pieces_again (_) p = refl

pub made_again : (c : Cmd) → (layout_of (pieces_of c).verb).make (pieces_of c).parts ≡ c
made_again (cmd.Begin ts) = refl
made_again (_) = refl

module _ (format : Format) where
  -- behind this name these words begin with this command's arguments
  pub record Begins (name : List ℕ) (arity : ℕ) (words : List (List ℕ)) (x : Cmd × List (List ℕ)) : Type 0 where
    pub text : name ∷ words ≡ words_of x.0 ++ x.1
    pub count : length (words_of x.0) ≡ arity + 1
    pub lawful : IsCommand format x.0

  pub arguments_are : (v : Verb) (ws : List (List ℕ)) → arguments_at format v ws ≡ laid_at format (layout_of v) ws
  unfolding arguments_at
  arguments_are verb.Begin ws = refl
  arguments_are (_) ws = refl

  pub arguments_found : (v : Verb) (ws : List (List ℕ)) (x : Cmd × List (List ℕ)) → arguments_at format v ws ≡ Ok x → Begins (name_of v) (arity_of v) ws x
  unfolding IsCommand
  arguments_found v ws x e =
      let l = layout_of v in
      let p = bind_ok (parts_at format l.signature ws) (λ p. Ok (l.make p.0, p.1)) x (sym (arguments_are v ws) ∙ e) in
      let f = (parts_read format l.signature).found ws p.0 p.1 in
      let is = sym (pieces_again v p.0.0) in
      let words : words_in (pieces v p.0.0) ≡ words_of (l.make p.0.0) = ap words_in is ∙ sym (words_are (l.make p.0.0)) in
      subst (λ (y : Cmd × List (List ℕ)). Begins (name_of v) (arity_of v) ws y) (ok_is (l.make p.0.0, p.0.1) x p.2)
      (record {
        text = ap (λ (z : List (List ℕ)). l.name ∷ z) f.0 ∙ ap (λ (z : List (List ℕ)). z ++ p.0.1) words;
        count = sym (ap length words) ∙ omega (arith, parts_count l.signature p.0.0);
        lawful = subst (ArePieces format) is f.1;
      })

-- a row that says what its verb is
abbrev pub IsRight : Row → Type 0
IsRight r = (r.0 ≡ name_of r.1.verb) × (r.1.arguments ≡ arity_of r.1.verb)

abbrev some_form : Form → Option Form
some_form r = Some r

form_is : (x y : Form) → some_form x ≡ some_form y → x ≡ y
form_is x y e = cc

row_by : (same : Bool) (row : Row) (rows : List Row) (name : List ℕ) (r : Form) → bytes_eq row.0 name ≡ same → IsRight row
    → (row_of rows name ≡ Some r → IsRight (name, r)) → cond same (Some row.1) (row_of rows name) ≡ Some r → IsRight (name, r)
row_by true row rows name r is right ih e = subst (λ (x : Form). IsRight (name, x)) (form_is row.1 r e) (sym ((bytes_eq-Decides row.0 name).0 is) ∙ right.0, right.1)
row_by false row rows name r is right ih e = ih e

row_found : (rows : List Row) (name : List ℕ) (r : Form) → AllByRecursion IsRight rows → row_of rows name ≡ Some r → IsRight (name, r)
row_found [] name r right e = absurd cc
row_found (row ∷ rows) name r right e = row_by (bytes_eq row.0 name) row rows name r refl right.0 (row_found rows name r right.1) e

-- each row has the name and the number of arguments of its verb
pub rows_right : (vs : List Verb) → AllByRecursion IsRight (map row vs)
rows_right [] = tt
rows_right (v ∷ vs) = ((refl, refl), rows_right vs)

-- each verb has its row
pub row_named : (v : Verb) → row_of table (name_of v) ≡ Some (row v).1
row_named v = grind arith

-- ---- lines

-- a line that has a newline is what stands before it, and the newline
with_newline : (line : List ℕ) → has_newline line ≡ true → line ≡ take (length line - 1) line ++ 10 ∷ []
with_newline line e = grind (arith, common_steps)

module _ (format : Format) where
  pub text_found : (line text : List ℕ) → text_at format line ≡ Ok text → line ≡ text ++ 10 ∷ []
  unfolding text_at
  text_found line text e =
      let long = refused (nat_lt (line_limit format) (length (without_newline line))) LineTooLong (cond (not (has_newline line)) (Err NoNewline) (Ok (without_newline line))) text e in
      let ends = refused (not (has_newline line)) NoNewline (pure (without_newline line)) text long.1 in
      let newline : has_newline line ≡ true = not-false (has_newline line) ends.0 in
      let is : without_newline line ≡ take (length line - 1) line = ap (λ (b : Bool). cond b (take (length line - 1) line) line) newline in
      with_newline line newline ∙ ap (λ (x : List ℕ). x ++ 10 ∷ []) (sym is ∙ ok_is (without_newline line) text ends.1)

pub words_found : (text : List ℕ) (ws : List (List ℕ)) → words_at text ≡ Ok ws → text ≡ joined ws
unfolding words_at
words_found text ws e =
    let bad = refused (not (list_all is_printable text)) BadByte (cond (list_any is_empty (words text)) (Err WordCount) (Ok (words text))) ws e in
    let some = refused (list_any is_empty (words text)) WordCount (pure (words text)) ws bad.1 in
    sym (join_with_byte-slice_split 32 text) ∙ ap joined (ok_is (words text) ws some.1)

pub row_word : (ws : List (List ℕ)) (x : Form × List (List ℕ)) → row_at table ws ≡ Ok x → (ws ≡ name_of x.0.verb ∷ x.1) × (x.0.arguments ≡ arity_of x.0.verb)
unfolding row_at
row_word ws x e =
    let w = bind_ok (word_at ws) (λ w. ok_or (row_of table w.0) UnknownCommand >>= λ r. Ok (r, w.1)) x e in
    let r = bind_ok (ok_or (row_of table w.0.0) UnknownCommand) (λ r. Ok (r, w.0.1)) x w.2 in
    let f = row_found table w.0.0 r.0 (rows_right verbs) (some_ok (row_of table w.0.0) UnknownCommand r.0 r.1) in
    subst (λ (y : Form × List (List ℕ)). (ws ≡ name_of y.0.verb ∷ y.1) × (y.0.arguments ≡ arity_of y.0.verb)) (ok_is (r.0, w.0.1) x r.2) (word_found ws w.0 w.1 ∙ ap (λ (v : List ℕ). v ∷ w.0.1) f.0, f.1)

-- where nothing is left, what was taken is all
whole : (ws taken left : List (List ℕ)) → ws ≡ taken ++ left → length left ≡ 0 → ws ≡ taken
whole ws taken left is none = is ∙ ap (λ (v : List (List ℕ)). taken ++ v) (nil_from_length left none) ∙ append-nil taken

module _ (format : Format) where
  -- as many words are taken as the verb has arguments
  arguments_count : (name : List ℕ) (arity : ℕ) (ws : List (List ℕ)) (x : Cmd × List (List ℕ)) → Begins format name arity ws x → length ws ≡ arity + length x.1
  arguments_count name arity ws x begins = omega (arith, ap length begins.text, length-append (words_of x.0) x.1, begins.count)

  -- what was taken is all that stands there, and no test before it fails
  pub taken_found : (seats : ℕ) (ws : List (List ℕ)) (x : ℕ × Cmd) → taken_of format table seats ws ≡ Ok x → (ws ≡ decimal x.0 ∷ words_of x.1) × (x.0 < seats) × IsCommand format x.1 × (counted_at table seats ws ≡ Ok tt)
  unfolding taken_of counted_at
  taken_found seats ws x e =
      let s = bind_ok (session_at seats ws) (λ s. row_at table s.1 >>= λ r. arguments_at format r.0.verb r.1 >>= λ c. cond (length c.1 == 0) (Ok (s.0, c.0)) (Err WordCount)) x e in
      let r = bind_ok (row_at table s.0.1) (λ r. arguments_at format r.0.verb r.1 >>= λ c. cond (length c.1 == 0) (Ok (s.0.0, c.0)) (Err WordCount)) x s.2 in
      let c = bind_ok (arguments_at format r.0.0.verb r.0.1) (λ c. cond (length c.1 == 0) (Ok (s.0.0, c.0)) (Err WordCount)) x r.2 in
      let g = guarded (length c.0.1 == 0) WordCount (s.0.0, c.0.0) x c.2 in
      let session = session_word seats ws s.0 s.1 in
      let row = row_word s.0.1 r.0 r.1 in
      let begins = arguments_found format r.0.0.verb r.0.1 c.0 c.1 in
      let left : length c.0.1 ≡ 0 = eqb-true _ _ g.0 in
      let count = arguments_count (name_of r.0.0.verb) (arity_of r.0.0.verb) r.0.1 c.0 begins in
      let same : (length r.0.1 == r.0.0.arguments) ≡ true = eq-eqb (length r.0.1) r.0.0.arguments (omega (arith, count, left, row.1)) in
      let many : nat_lt (length ws) 2 ≡ false = le-ltb (length ws) 2 (omega (arith, ap length session.0, ap length row.0)) in
      let text : name_of r.0.0.verb ∷ r.0.1 ≡ words_of c.0.0 = whole (name_of r.0.0.verb ∷ r.0.1) (words_of c.0.0) c.0.1 begins.text left in
      let behind : s.0.1 ≡ words_of c.0.0 = row.0 ∙ text in
      let all : ws ≡ decimal s.0.0 ∷ words_of c.0.0 = session.0 ∙ ap (λ (v : List (List ℕ)). decimal s.0.0 ∷ v) behind in
      subst (λ (y : ℕ × Cmd). (ws ≡ decimal y.0 ∷ words_of y.1) × (y.0 < seats) × IsCommand format y.1 × (counted_at table seats ws ≡ Ok tt)) g.1 (all, session.1, begins.lawful, rw (many, s.1, r.1, same) refl)

  -- a fault of these tests is that of the command
  pub counted_fault : (seats : ℕ) (ws : List (List ℕ)) (f : LineFault) → counted_at table seats ws ≡ Err f → command_of format table seats ws ≡ Err f
  unfolding command_of
  counted_fault seats ws f e = rw e refl

  -- and where they find none the command is what is taken
  pub counted_right : (seats : ℕ) (ws : List (List ℕ)) → counted_at table seats ws ≡ Ok tt → command_of format table seats ws ≡ taken_of format table seats ws
  unfolding command_of
  counted_right seats ws e = rw e refl

  pub command_found : (seats : ℕ) (line : List ℕ) (x : ℕ × Cmd) → command_at format table seats line ≡ Ok x → (line ≡ command_line x.0 x.1) × (x.0 < seats) × IsCommand format x.1
  unfolding command_at command_of
  command_found seats line x e =
      let t = bind_ok (text_at format line) (λ text. words_at text >>= λ ws. command_of format table seats ws) x e in
      let w = bind_ok (words_at t.0) (λ ws. command_of format table seats ws) x t.2 in
      let c = taken_found seats w.0 x (bind_ok (counted_at table seats w.0) (λ _. taken_of format table seats w.0) x w.2).2 in
      (text_found format line t.0 t.1 ∙ ap (λ (v : List ℕ). v ++ 10 ∷ []) (words_found t.0 w.0 w.1 ∙ ap joined c.0), c.1, c.2)
