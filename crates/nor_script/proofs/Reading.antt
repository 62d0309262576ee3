-- Reading a script line by line.
use Rattle.std.proofs.Common.{◌≡◌, ◌+◌, ◌<◌, ◌≤◌, ◌==◌, ◌∙◌, inl, inr, ℕ, zero, suc, List, [], ◌∷◌, ◌++◌, length, drop, ◌-◌, Bool, true, false, nat_lt, if◌then◌else◌, Result, Ok, Err, refl, sym, ap, subst, arith, append_assoc, append-nil}
use Rattle.std.specs.Prelude.{◌||◌}
use Rattle.std.proofs.lemmas.List.{length-append, length-drop}
use Rattle.std.specs.List.{before_first, after_first}
use Rattle.nor_script.specs.Grammar.{line_of}
use Rattle.nor_script.specs.Script.{lines_of, is_skipped, has_caller, before_rest, with_line, script_from, Reads}
use Rattle.nor_script.specs.declared.line.Line.{Line}
use Rattle.nor_script.specs.declared.error.ScriptError.{ScriptError}
use Rattle.nor_script.specs.declared.error.ScriptError.TheVariants.{TooManyLines}
use Rattle.nor_script.proofs.Fields.{IsCut, is_cut}

before_both : (xs ys : List Line) (r : Result (List Line) ScriptError) → before_rest xs (before_rest ys r) ≡ before_rest (xs ++ ys) r
before_both xs ys (Ok lines) = ap (λ (zs : List Line). Ok zs) (sym (append_assoc xs ys lines))
before_both xs ys (Err error) = refl

-- the script so far, and what the text that is left says
abbrev pub IsRead : Result (List Line) ScriptError → (race has_callers : Bool) → ℕ → List Line → List ℕ → Type 0
IsRead wanted race has n lines text = wanted ≡ before_rest lines (script_from race has n (length lines) (lines_of text))

pub all_read : (wanted : Result (List Line) ScriptError) (race has : Bool) (n : ℕ) (lines : List Line) (text : List ℕ)
    → text ≡ [] → IsRead wanted race has n lines text → wanted ≡ Ok lines
all_read wanted race has n lines text none is = is ∙ ap (λ (t : List ℕ). before_rest lines (script_from race has n (length lines) (lines_of t))) none ∙ ap (λ (zs : List Line). Ok zs) (append-nil lines)

-- the first line, and the lines behind it
first_by : (race has : Bool) (n count : ℕ) (text first behind : List ℕ) → IsCut (λ b. b == 10) text → first ≡ before_first (λ b. b == 10) text → behind ≡ after_first (λ b. b == 10) text
    → script_from race has n count (lines_of text) ≡ script_from race has n count (first ∷ lines_of behind)
first_by race has n count text first behind (inl is) before after =
    ap (script_from race has n count) is ∙ ap (λ (t : List ℕ). script_from race has n count (t ∷ lines_of (after_first (λ b. b == 10) text))) (sym before)
    ∙ ap (λ (t : List ℕ). script_from race has n count (first ∷ lines_of t)) (sym after)
first_by race has n count text first behind (inr is) before after =
    let whole : text ≡ first = sym (before ∙ is.1) in
    let none : behind ≡ [] = after ∙ is.2 in
    ap (script_from race has n count) is.0 ∙ ap (λ (t : List ℕ). script_from race has n count (t ∷ [] ∷ [])) whole
    ∙ ap (λ (t : List ℕ). script_from race has n count (first ∷ lines_of t)) (sym none)

first_line : (wanted : Result (List Line) ScriptError) (race has : Bool) (n : ℕ) (lines : List Line) (text first behind : List ℕ)
    → IsRead wanted race has n lines text → first ≡ before_first (λ b. b == 10) text → behind ≡ after_first (λ b. b == 10) text
    → wanted ≡ before_rest lines (script_from race has n (length lines) (first ∷ lines_of behind))
first_line wanted race has n lines text first behind is before after = is ∙ ap (before_rest lines) (first_by race has n (length lines) text first behind (is_cut (λ b. b == 10) text) before after)

skipped_by : (b : Bool) (x y : Result (List Line) ScriptError) → b ≡ true → (if b then x else y) ≡ x
skipped_by true x y is = refl
skipped_by false x y is = cc

read_by : (b : Bool) (x y : Result (List Line) ScriptError) → b ≡ false → (if b then x else y) ≡ y
read_by true x y is = cc
read_by false x y is = refl

pub skip_line : (wanted : Result (List Line) ScriptError) (race has : Bool) (n : ℕ) (lines : List Line) (text first behind : List ℕ)
    → IsRead wanted race has n lines text → first ≡ before_first (λ b. b == 10) text → behind ≡ after_first (λ b. b == 10) text
    → is_skipped first ≡ true → IsRead wanted race has (n + 1) lines behind
skip_line wanted race has n lines text first behind is before after skipped =
    first_line wanted race has n lines text first behind is before after ∙ ap (before_rest lines) (skipped_by (is_skipped first) _ _ skipped)

full : (n : ℕ) → 65536 ≤ n → nat_lt n 65536 ≡ false
full n much = grind arith

room : (n : ℕ) → n < 65536 → nat_lt n 65536 ≡ true
room n few = grind arith

pub too_many : (wanted : Result (List Line) ScriptError) (race has : Bool) (n : ℕ) (lines : List Line) (text first behind : List ℕ)
    → IsRead wanted race has n lines text → first ≡ before_first (λ b. b == 10) text → behind ≡ after_first (λ b. b == 10) text
    → is_skipped first ≡ false → 65536 ≤ length lines → wanted ≡ Err TooManyLines
too_many wanted race has n lines text first behind is before after kept much =
    first_line wanted race has n lines text first behind is before after
    ∙ ap (before_rest lines) (read_by (is_skipped first) _ _ kept ∙ read_by (nat_lt (length lines) 65536) _ _ (full (length lines) much))

-- a line that is read
line_read : (wanted : Result (List Line) ScriptError) (race has : Bool) (n : ℕ) (lines : List Line) (text first behind : List ℕ)
    → IsRead wanted race has n lines text → first ≡ before_first (λ b. b == 10) text → behind ≡ after_first (λ b. b == 10) text
    → is_skipped first ≡ false → length lines < 65536
    → wanted ≡ before_rest lines (with_line (line_of race has n first) (script_from race (has || has_caller (line_of race has n first)) (n + 1) (length lines + 1) (lines_of behind)))
line_read wanted race has n lines text first behind is before after kept few =
    first_line wanted race has n lines text first behind is before after
    ∙ ap (before_rest lines) (read_by (is_skipped first) _ _ kept ∙ skipped_by (nat_lt (length lines) 65536) _ _ (room (length lines) few))

pub bad_line : (wanted : Result (List Line) ScriptError) (race has : Bool) (n : ℕ) (lines : List Line) (text first behind : List ℕ) (e : ScriptError)
    → IsRead wanted race has n lines text → first ≡ before_first (λ b. b == 10) text → behind ≡ after_first (λ b. b == 10) text
    → is_skipped first ≡ false → length lines < 65536 → line_of race has n first ≡ Err e → wanted ≡ Err e
bad_line wanted race has n lines text first behind e is before after kept few bad =
    line_read wanted race has n lines text first behind is before after kept few
    ∙ ap (λ (r : Result Line ScriptError). before_rest lines (with_line r (script_from race (has || has_caller r) (n + 1) (length lines + 1) (lines_of behind)))) bad

length-push : (lines : List Line) (line : Line) → length (lines ++ line ∷ []) ≡ length lines + 1
length-push lines line = length-append lines (line ∷ [])

pub good_line : (wanted : Result (List Line) ScriptError) (race has has_now : Bool) (n : ℕ) (lines lines_now : List Line) (text first behind : List ℕ) (line : Line)
    → IsRead wanted race has n lines text → first ≡ before_first (λ b. b == 10) text → behind ≡ after_first (λ b. b == 10) text
    → is_skipped first ≡ false → length lines < 65536 → line_of race has n first ≡ Ok line
    → lines_now ≡ lines ++ line ∷ [] → has_now ≡ (has || nat_lt 0 line.caller)
    → IsRead wanted race has_now (n + 1) lines_now behind
good_line wanted race has has_now n lines lines_now text first behind line is before after kept few good pushed named =
    line_read wanted race has n lines text first behind is before after kept few
    ∙ ap (λ (r : Result Line ScriptError). before_rest lines (with_line r (script_from race (has || has_caller r) (n + 1) (length lines + 1) (lines_of behind)))) good
    ∙ before_both lines (line ∷ []) (script_from race (has || nat_lt 0 line.caller) (n + 1) (length lines + 1) (lines_of behind))
    ∙ ap (λ (count : ℕ). before_rest (lines ++ line ∷ []) (script_from race (has || nat_lt 0 line.caller) (n + 1) count (lines_of behind))) (sym (length-push lines line))
    ∙ ap (λ (ls : List Line). before_rest ls (script_from race (has || nat_lt 0 line.caller) (n + 1) (length ls) (lines_of behind))) (sym pushed)
    ∙ ap (λ (h : Bool). before_rest lines_now (script_from race h (n + 1) (length lines_now) (lines_of behind))) (sym named)

true_false : true ≡ false → ⊥
true_false is = cc

-- What a bad line is answered with, and a text that gets shorter.
pub bad_reads : (wanted : Result (List Line) ScriptError) (said : Result Line ScriptError) (e : ScriptError) (r : Result (List Line) ScriptError)
    → (said ≡ Err e → wanted ≡ Err e) → Reads said (Err e) → r ≡ Err e → Reads wanted r
bad_reads wanted said e r bad reads is = subst (λ (x : Result (List Line) ScriptError). Reads wanted x) (sym is) (λ some. bad (reads some))

pub shorter : (n len end : ℕ) (text behind : List ℕ) → n + length text ≤ len → 0 < length text → behind ≡ drop (end + 1) text → n + 1 + length behind ≤ len
shorter n len end text behind few some is =
    let less : length behind ≡ length text - (end + 1) = ap length is ∙ length-drop (end + 1) text in
    omega (arith, less)

pub nonempty : (n : ℕ) (b : Bool) → b ≡ (n == 0) → b ≡ false → 0 < n
nonempty zero b is some = absurd (true_false (sym is ∙ some))
nonempty (suc n) b is some = omega arith
