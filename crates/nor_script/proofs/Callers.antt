-- Each line that is read has its caller, and each of a race may be raced.
use Rattle.std.proofs.Common.{◌≡◌, ◌≤◌, ◌+◌, ℕ, List, [], ◌∷◌, length, Bool, true, false, nat_lt, if◌then◌else◌, Option, Some, None, Result, Ok, Err, All, refl, subst, arith}
use Rattle.std.specs.Prelude.{◌==◌, ◌||◌, codes}
use Rattle.std.specs.List.{list_all}
use Rattle.std.specs.Str.{bytes_eq}
use Rattle.std.proofs.lemmas.List.Elements.{All-nil, All-cons}
use Rattle.nor_script.specs.Grammar.{◌>>=◌, found, checked, is_caller, caller_of, verb_of, caller_head, head_of, word_of, line_of, number_at, byte_at, data_at, field_of, fields, field_count, is_printable, may_stand}
use Rattle.nor_script.specs.Numbers.{number_of}
use Rattle.nor_script.specs.Racing.{IsRaceScript, may_race}
use Rattle.nor_script.specs.Script.{lines_of, is_skipped, has_caller, with_line, script_from, script_of, HasCaller, IsScript}
use Rattle.nor_script.specs.declared.line.Line.{Line}
use Rattle.nor_script.specs.declared.line.Word.{Word}
use Rattle.nor_script.specs.declared.error.LineKind.TheVariants.{Bytes, Count, NotHere}
use Rattle.nor_script.specs.declared.error.ScriptError.{ScriptError}
use Rattle.nor_script.specs.declared.error.ScriptError.TheVariants.{BadLine, TooManyLines}
use Rattle.nor_script.specs.declared.verb.Verb.{Verb}
use Rattle.nor_script.specs.declared.verb.Verb.TheVariants.{Read, Program, Erase, EraseAll, Open, OpenAll, Poll, Lock, Unlock, Locked, Cut, Reboot}
use Rattle.nor_script.specs.declared.verb.Head.{Head}

-- ---- steps of reading

-- What was read behind a step was read from what the step gave.
pub record Stepped {A B : Type 0} (r : Result A ScriptError) (f : A → Result B ScriptError) (y : B) : Type 0 where
  pub value : A
  pub gave : r ≡ Ok value
  pub rest : f value ≡ Ok y

stepped : {A B : Type 0} (r : Result A ScriptError) (f : A → Result B ScriptError) (y : B) → (r >>= f) ≡ Ok y → Stepped r f y
stepped (Ok x) f y is = record { value = x; gave = refl; rest = is }
stepped (Err e) f y is = absurd (err_ok is)
  where
    err_ok : Err e ≡ Ok y → ⊥
    err_ok same = cc

abbrev read : {A : Type 0} → A → Result A ScriptError
read x = Ok x

ok_is : {A : Type 0} {x y : A} → read x ≡ read y → x ≡ y
ok_is is = cc

-- ---- who asks

-- who may ask for what a verb says
abbrev pub VerbHasCaller : Verb → ℕ → Type 0
VerbHasCaller Cut caller = caller ≡ 0
VerbHasCaller Reboot caller = caller ≡ 0
VerbHasCaller _ caller = (1 ≤ caller) × (caller ≤ 8)

caller_is : (n number caller : ℕ) → caller_of n number ≡ Ok caller → (1 ≤ caller) × (caller ≤ 8)
caller_is n number caller is = by (is_caller number) refl is
  where
    by : (b : Bool) → is_caller number ≡ b → caller_of n number ≡ Ok caller → (1 ≤ caller) × (caller ≤ 8)
    by true in_range same = (grind (arith, in_range, same), grind (arith, in_range, same))
    by false in_range same = absurd (grind (arith, in_range, same))

-- a verb that was found among those of callers
chosen : (P : Verb → Type 0) (b : Bool) (v verb : Verb) (rest : Option Verb) → P v → (rest ≡ Some verb → P verb) → (if b then Some v else rest) ≡ Some verb → P verb
chosen P true v verb rest here behind is = subst P (some_is is) here
  where
    some_is : Some v ≡ Some verb → v ≡ verb
    some_is same = cc
chosen P false v verb rest here behind is = behind is

verb_has_caller : (word : List ℕ) (verb : Verb) (caller : ℕ) → (1 ≤ caller) × (caller ≤ 8) → verb_of word ≡ Some verb → VerbHasCaller verb caller
verb_has_caller word verb caller in_range =
    let P : Verb → Type 0 = λ v. VerbHasCaller v caller in
    chosen P (bytes_eq word (codes "read")) Read verb _ in_range
    (chosen P (bytes_eq word (codes "program")) Program verb _ in_range
    (chosen P (bytes_eq word (codes "erase")) Erase verb _ in_range
    (chosen P (bytes_eq word (codes "erase-all")) EraseAll verb _ in_range
    (chosen P (bytes_eq word (codes "open")) Open verb _ in_range
    (chosen P (bytes_eq word (codes "open-all")) OpenAll verb _ in_range
    (chosen P (bytes_eq word (codes "poll")) Poll verb _ in_range
    (chosen P (bytes_eq word (codes "lock")) Lock verb _ in_range
    (chosen P (bytes_eq word (codes "unlock")) Unlock verb _ in_range
    (chosen P (bytes_eq word (codes "locked")) Locked verb None in_range (λ none. absurd (none_some none)))))))))))
  where
    none_some : None ≡ Some verb → ⊥
    none_some same = cc

found_is : {A : Type 0} (o : Option A) (kind : _) (n : ℕ) (x : A) → found o kind n ≡ Ok x → o ≡ Some x
found_is None kind n x is = absurd (err_ok is)
  where
    err_ok : found None kind n ≡ Ok x → ⊥
    err_ok same = cc
found_is (Some y) kind n x is = cc

-- the head of a line: who asks, and by which verb
head_with_caller : (n : ℕ) (line : List ℕ) (head : Head) → caller_head n line ≡ Ok head → VerbHasCaller head.verb head.caller
head_with_caller n line head is =
    let number = stepped (found (number_of (field_of line 0)) _ n) _ head is in
    let caller = stepped (caller_of n number.value) _ head number.rest in
    let verb = stepped (found (verb_of (field_of line 1)) _ n) _ head caller.rest in
    let whole : record { caller = caller.value; verb = verb.value } ≡ head = cc in
    subst (λ (h : Head). VerbHasCaller h.verb h.caller) whole
    (verb_has_caller (field_of line 1) verb.value caller.value (caller_is n number.value caller.value caller.gave) (found_is (verb_of (field_of line 1)) _ n verb.value verb.gave))

head_has_caller : (n : ℕ) (line : List ℕ) (head : Head) → head_of n line ≡ Ok head → VerbHasCaller head.verb head.caller
head_has_caller n line head = by (bytes_eq (field_of line 0) (codes "cut")) (bytes_eq (field_of line 0) (codes "reboot"))
  where
    by : (b c : Bool)
        → (if b then Ok (record { caller = 0; verb = Cut }) else if c then Ok (record { caller = 0; verb = Reboot }) else caller_head n line) ≡ Ok head
        → VerbHasCaller head.verb head.caller
    by true c is = subst (λ (h : Head). VerbHasCaller h.verb h.caller) (let same : record { caller = 0; verb = Cut } ≡ head = cc in same) refl
    by false true is = subst (λ (h : Head). VerbHasCaller h.verb h.caller) (let same : record { caller = 0; verb = Reboot } ≡ head = cc in same) refl
    by false false is = head_with_caller n line head is

-- ---- what is asked for

word_has_caller : (verb : Verb) (n : ℕ) (line : List ℕ) (word : Word) (caller : ℕ) → word_of verb n line ≡ Ok word → VerbHasCaller verb caller → HasCaller word caller
word_has_caller Read n line word caller is has =
    let at = stepped (number_at n line 2) _ word is in
    let len = stepped (number_at n line 3) _ word at.rest in
    subst (λ (w : Word). HasCaller w caller) (ok_is len.rest) has
word_has_caller Program n line word caller is has =
    let at = stepped (number_at n line 2) _ word is in
    let new = stepped (data_at n line 3) _ word at.rest in
    subst (λ (w : Word). HasCaller w caller) (ok_is new.rest) has
word_has_caller Erase n line word caller is has =
    subst (λ (w : Word). HasCaller w caller) (ok_is (stepped (number_at n line 2) _ word is).rest) has
word_has_caller Open n line word caller is has =
    subst (λ (w : Word). HasCaller w caller) (ok_is (stepped (number_at n line 2) _ word is).rest) has
word_has_caller EraseAll n line word caller is has = subst (λ (w : Word). HasCaller w caller) (ok_is is) has
word_has_caller OpenAll n line word caller is has = subst (λ (w : Word). HasCaller w caller) (ok_is is) has
word_has_caller Poll n line word caller is has = subst (λ (w : Word). HasCaller w caller) (ok_is is) has
word_has_caller Lock n line word caller is has =
    subst (λ (w : Word). HasCaller w caller) (ok_is (stepped (number_at n line 2) _ word is).rest) has
word_has_caller Unlock n line word caller is has =
    subst (λ (w : Word). HasCaller w caller) (ok_is (stepped (number_at n line 2) _ word is).rest) has
word_has_caller Locked n line word caller is has =
    subst (λ (w : Word). HasCaller w caller) (ok_is (stepped (number_at n line 2) _ word is).rest) has
word_has_caller Cut n line word caller is has =
    let cycles = stepped (number_at n line 1) _ word is in
    let mask = stepped (byte_at n line 2) _ word cycles.rest in
    subst (λ (w : Word). HasCaller w caller) (ok_is mask.rest) has
word_has_caller Reboot n line word caller is has = subst (λ (w : Word). HasCaller w caller) (ok_is is) has

-- ---- a line, and all of them

-- what a line of a race may ask for
word_races : (has : Bool) (verb : Verb) (n : ℕ) (line : List ℕ) (word : Word) → word_of verb n line ≡ Ok word → may_stand true has verb ≡ true → may_race word ≡ true
word_races has Read n line word is stands =
    let at = stepped (number_at n line 2) _ word is in
    let len = stepped (number_at n line 3) _ word at.rest in
    subst (λ (w : Word). may_race w ≡ true) (ok_is len.rest) refl
word_races has Program n line word is stands =
    let at = stepped (number_at n line 2) _ word is in
    let new = stepped (data_at n line 3) _ word at.rest in
    subst (λ (w : Word). may_race w ≡ true) (ok_is new.rest) refl
word_races has Erase n line word is stands = subst (λ (w : Word). may_race w ≡ true) (ok_is (stepped (number_at n line 2) _ word is).rest) refl
word_races has EraseAll n line word is stands = subst (λ (w : Word). may_race w ≡ true) (ok_is is) refl
word_races has Lock n line word is stands = subst (λ (w : Word). may_race w ≡ true) (ok_is (stepped (number_at n line 2) _ word is).rest) refl
word_races has Unlock n line word is stands = subst (λ (w : Word). may_race w ≡ true) (ok_is (stepped (number_at n line 2) _ word is).rest) refl
word_races has Locked n line word is stands = subst (λ (w : Word). may_race w ≡ true) (ok_is (stepped (number_at n line 2) _ word is).rest) refl
word_races has Cut n line word is stands =
    let cycles = stepped (number_at n line 1) _ word is in
    let mask = stepped (byte_at n line 2) _ word cycles.rest in
    subst (λ (w : Word). may_race w ≡ true) (ok_is mask.rest) refl
word_races has verb n line word is stands = absurd (let no : ⊥ = cc in no)

-- What is known of a line that was read: its caller, and that it is one of a race where it was read as such.
pub record IsSaid (race : Bool) (line : Line) : Type 0 where
  pub caller : HasCaller line.word line.caller
  pub raced : race ≡ true → may_race line.word ≡ true

no_line : (e : ScriptError) (line : Line) → Err e ≡ Ok line → ⊥
no_line e line same = cc

after_word : (race has : Bool) (n : ℕ) (text : List ℕ) (line : Line) (head : Head) (w : Result Word ScriptError) (stands : Bool)
    → word_of head.verb n text ≡ w → may_stand race has head.verb ≡ stands → VerbHasCaller head.verb head.caller
    → (w >>= (λ word. checked stands NotHere n >>= (λ done. Ok (record { caller = head.caller; number = n; word = word })))) ≡ Ok line
    → IsSaid race line
after_word race has n text line head (Err e) stands said may called is = absurd (no_line e line is)
after_word race has n text line head (Ok word) false said may called is = absurd (no_line (BadLine n NotHere) line is)
after_word race has n text line head (Ok word) true said may called is =
    subst (λ (l : Line). IsSaid race l) (ok_is is) (record {
      caller = word_has_caller head.verb n text word head.caller said called;
      raced = λ races. word_races has head.verb n text word said (subst (λ (r : Bool). may_stand r has head.verb ≡ true) races may);
    })

after_count : (race has : Bool) (n : ℕ) (text : List ℕ) (line : Line) (head : Head) (counted : Result (Unit {0}) ScriptError)
    → VerbHasCaller head.verb head.caller
    → (counted >>= (λ done. word_of head.verb n text
    >>= (λ word. checked (may_stand race has head.verb) NotHere n >>= (λ done. Ok (record { caller = head.caller; number = n; word = word }))))) ≡ Ok line
    → IsSaid race line
after_count race has n text line head (Err e) called is = absurd (no_line e line is)
after_count race has n text line head (Ok done) called is =
    after_word race has n text line head (word_of head.verb n text) (may_stand race has head.verb) refl refl called is

after_head : (race has : Bool) (n : ℕ) (text : List ℕ) (line : Line) (h : Result Head ScriptError)
    → ((head : Head) → h ≡ Ok head → VerbHasCaller head.verb head.caller)
    → (h >>= (λ head. checked (length (fields text) == field_count head.verb) Count n
    >>= (λ done. word_of head.verb n text
    >>= (λ word. checked (may_stand race has head.verb) NotHere n >>= (λ done. Ok (record { caller = head.caller; number = n; word = word })))))) ≡ Ok line
    → IsSaid race line
after_head race has n text line (Err e) called is = absurd (no_line e line is)
after_head race has n text line (Ok head) called is =
    after_count race has n text line head (checked (length (fields text) == field_count head.verb) Count n) (called head refl) is

after_bytes : (race has : Bool) (n : ℕ) (text : List ℕ) (line : Line) (printable : Result (Unit {0}) ScriptError)
    → (printable >>= (λ done. head_of n text >>= (λ head. checked (length (fields text) == field_count head.verb) Count n
    >>= (λ done. word_of head.verb n text
    >>= (λ word. checked (may_stand race has head.verb) NotHere n >>= (λ done. Ok (record { caller = head.caller; number = n; word = word }))))))) ≡ Ok line
    → IsSaid race line
after_bytes race has n text line (Err e) is = absurd (no_line e line is)
after_bytes race has n text line (Ok done) is = after_head race has n text line (head_of n text) (λ head same. head_has_caller n text head same) is

line_said : (race has : Bool) (n : ℕ) (text : List ℕ) (line : Line) → line_of race has n text ≡ Ok line → IsSaid race line
line_said race has n text line is = after_bytes race has n text line (checked (list_all is_printable text) Bytes n) is

-- What the lines behind so many say is known line by line, and is not too much.
pub record Says (race : Bool) (count : ℕ) (lines : List Line) : Type 0 where
  pub few : count + length lines ≤ 65536
  pub each : All (IsSaid race) lines

said_before : (race has : Bool) (n count : ℕ) (text : List ℕ) (lines : List Line) (r : Result Line ScriptError) (rest : Result (List Line) ScriptError)
    → line_of race has n text ≡ r → ((later : List Line) → rest ≡ Ok later → Says race (count + 1) later) → with_line r rest ≡ Ok lines → Says race count lines
said_before race has n count text lines (Err e) rest said later is = absurd (err_ok is)
  where
    err_ok : Err e ≡ Ok lines → ⊥
    err_ok same = cc
said_before race has n count text lines (Ok line) (Err e) said later is = absurd (err_ok is)
  where
    err_ok : Err e ≡ Ok lines → ⊥
    err_ok same = cc
said_before race has n count text lines (Ok line) (Ok rest) said later is =
    let behind = later rest refl in
    let whole : Says race count (line ∷ rest) = record {
      few = let few = behind.few in omega arith;
      each = All-cons (IsSaid race) line rest (line_said race has n text line said) behind.each;
    } in
    subst (λ (ls : List Line). Says race count ls) (ok_is is) whole

has_room : (count : ℕ) → nat_lt count 65536 ≡ true → count + 1 ≤ 65536
has_room count room = grind (arith, room)

-- by whether the line is skipped, and whether there is room for one more
said_by : (race has : Bool) (n count : ℕ) (text : List ℕ) (texts : List (List ℕ)) (lines : List Line) (b c : Bool) → nat_lt count 65536 ≡ c
    → (script_from race has (n + 1) count texts ≡ Ok lines → Says race count lines)
    → ((later : List Line) → count + 1 ≤ 65536 → script_from race (has || has_caller (line_of race has n text)) (n + 1) (count + 1) texts ≡ Ok later → Says race (count + 1) later)
    → (if b then script_from race has (n + 1) count texts
    else if c then with_line (line_of race has n text) (script_from race (has || has_caller (line_of race has n text)) (n + 1) (count + 1) texts)
    else Err TooManyLines) ≡ Ok lines
    → Says race count lines
said_by race has n count text texts lines true c room skip next is = skip is
said_by race has n count text texts lines false true room skip next is =
    said_before race has n count text lines (line_of race has n text) (script_from race (has || has_caller (line_of race has n text)) (n + 1) (count + 1) texts) refl
    (λ later. next later (has_room count room)) is
said_by race has n count text texts lines false false room skip next is = absurd (let no : ⊥ = cc in no)

said_from : (race has : Bool) (n count : ℕ) (texts : List (List ℕ)) (lines : List Line) → count ≤ 65536 → script_from race has n count texts ≡ Ok lines → Says race count lines
said_from race has n count [] lines few is =
    subst (λ (ls : List Line). Says race count ls) (ok_is is) (record { few = omega arith; each = All-nil (IsSaid race) })
said_from race has n count (text ∷ texts) lines few is =
    said_by race has n count text texts lines (is_skipped text) (nat_lt count 65536) refl
    (said_from race has (n + 1) count texts lines few)
    (λ later room. said_from race (has || has_caller (line_of race has n text)) (n + 1) (count + 1) texts later room) is

pub says_script : (race : Bool) (text : List ℕ) (lines : List Line) → script_of race text ≡ Ok lines → IsScript lines
says_script race text lines is =
    let says = said_from race false 1 0 (lines_of text) lines (omega arith) is in
    record { few = let few = says.few in omega arith; callers = λ k other below. (says.each k other below).caller }

pub says_races : (text : List ℕ) (lines : List Line) → script_of true text ≡ Ok lines → IsRaceScript lines
says_races text lines is =
    let says = said_from true false 1 0 (lines_of text) lines (omega arith) is in
    record { script = says_script true text lines is; words = λ k other below. (says.each k other below).raced refl }
