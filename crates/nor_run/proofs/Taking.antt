-- Entries that a taker takes one after the other.
use Rattle.std.proofs.Common.{◌≡◌, ◌≤◌, ◌+◌, ◌∙◌, ◌++◌, ◌∷◌, codes, ℕ, suc, List, [], length, Result, Ok, Err, refl, sym, ap, subst, arith, append_assoc}
use Rattle.nor_array.specs.declared.entry.Entry.{Entry}
use Rattle.nor_array.specs.declared.entry.Op.{Op}
use Rattle.nor_array.specs.declared.entry.Op.TheVariants.{Read}
use Rattle.nor_array.specs.declared.entry.Reply.{Reply}
use Rattle.nor_array.specs.declared.entry.Reply.TheVariants.{Done}
use Rattle.nor_io.specs.Files.{SinkState, Rose, Appends, AppendsPart}
use Rattle.nor_io.specs.Puts.{PutsText}
use Rattle.nor_io.specs.declared.sink.SinkError.{SinkError}
use Rattle.nor_io.specs.declared.sink.SinkError.TheVariants.{Fault, NoMemory}
use Rattle.nor_io.proofs.Pieces.{Appends-append, AppendsPart-append, AppendsPart-more}
use Rattle.nor_io.proofs.Putting.{nothing_put, rose_later}
use Rattle.nor_script.specs.Report.{reply_text, call_text, entry_line, entry_lines}
use Rattle.nor_run.specs.Taking.{told_bytes, told, Takes, Hands, TakesAll, StopsIn, line_of_entry, PutsEntry, PutsBy}

-- ---- what is told

-- a line tells no more of an entry
told_text : (op : Op) (reply : Reply) (bytes : List ℕ) → reply_text op reply (told_bytes op reply bytes) ≡ reply_text op reply bytes
told_text (Read at len) Done bytes = refl
told_text op reply bytes = refl

pub told_line : (position caller : ℕ) (op : Op) (reply : Reply) (bytes : List ℕ)
    → line_of_entry position (told (record { caller = caller; op = op; reply = reply; bytes = bytes })) ≡ line_of_entry position (record { caller = caller; op = op; reply = reply; bytes = bytes })
told_line position caller op reply bytes = ap (λ (t : List ℕ). call_text position caller op ++ (codes " -> " ++ (t ++ codes "\n"))) (told_text op reply bytes)

pub puts_told : (position caller : ℕ) (op : Op) (reply : Reply) (bytes : List ℕ) (before after : SinkState) (result : Result (Unit {0}) SinkError)
    → PutsText (entry_line position caller op reply bytes) before after result → before.faults ≤ after.faults
    → PutsEntry position (told (record { caller = caller; op = op; reply = reply; bytes = bytes })) before after result
puts_told position caller op reply bytes before after result puts later =
    (subst (λ (t : List ℕ). PutsText t before after result) (sym (told_line position caller op reply bytes)) puts, later)

-- An entry of which the same is told is handed over as well.
pub hands_as : {T E : Type 0} (takes : Takes T E) (position : ℕ) (e f : Entry) (before after : T) (result : Result Reply E) → f.reply ≡ e.reply → told f ≡ told e
    → Hands takes position f before after result → Hands takes position e before after result
hands_as takes position e f before after (Ok reply) same alike hands = (hands.0 ∙ same, subst (λ (x : Entry). takes position x before after (Ok tt)) alike hands.1)
hands_as takes position e f before after (Err stop) same alike hands = subst (λ (x : Entry). takes position x before after (Err stop)) alike hands

-- ---- one entry more

pub takes_last : {T E : Type 0} (takes : Takes T E) (position : ℕ) (es : List Entry) (e : Entry) (before mid after : T) → TakesAll takes position es before mid
    → takes (position + length es) (told e) mid after (Ok tt) → TakesAll takes position (es ++ e ∷ []) before after
takes_last {T} takes position [] e before mid after took last =
    let here : position + 0 ≡ position = omega arith in
    (after, subst (λ (n : ℕ). takes n (told e) before after (Ok tt)) here (subst (λ (x : T). takes (position + 0) (told e) x after (Ok tt)) took last), refl)
takes_last takes position (x ∷ es) e before mid after took last =
    let there : position + suc (length es) ≡ position + 1 + length es = omega arith in
    (took.0, took.1, takes_last takes (position + 1) es e took.0 mid after took.2 (subst (λ (n : ℕ). takes n (told e) mid after (Ok tt)) there last))

-- the same where the place is a count of the entries before
pub takes_more : {T E : Type 0} (takes : Takes T E) (es : List Entry) (e : Entry) (count : ℕ) (before mid after : T) → count ≡ length es → TakesAll takes 0 es before mid
    → takes count (told e) mid after (Ok tt) → TakesAll takes 0 (es ++ e ∷ []) before after
takes_more takes es e count before mid after is took last =
    let there : count ≡ 0 + length es = omega (arith, is) in
    takes_last takes 0 es e before mid after took (subst (λ (n : ℕ). takes n (told e) mid after (Ok tt)) there last)

-- ---- by the state of a sink

pub by_state : {K : Type 0} (state : K → SinkState) (position : ℕ) (es : List Entry) (before after : K) → TakesAll (PutsBy state) position es before after
    → TakesAll PutsEntry position es (state before) (state after)
by_state state position [] before after took = ap state took
by_state state position (e ∷ es) before after took = (state took.0, took.1, by_state state (position + 1) es took.0 after took.2)

-- ---- what a sink has taken

pub took_text : (position : ℕ) (es : List Entry) (before after : SinkState) → TakesAll PutsEntry position es before after → Appends before.taken (entry_lines position es) after.taken
took_text position [] before after took = subst (λ (s : SinkState). Appends before.taken [] s.taken) (sym took) (nothing_put before.taken)
took_text position (e ∷ es) before after took =
    let line : Appends before.taken (line_of_entry position e) (took.0).taken =
    subst (λ (t : List ℕ). Appends before.taken t (took.0).taken) (told_line position e.caller e.op e.reply e.bytes) took.1.0 in
    Appends-append before.taken (took.0).taken after.taken (line_of_entry position e) (entry_lines (position + 1) es) line (took_text (position + 1) es took.0 after took.2)

pub took_later : (position : ℕ) (es : List Entry) (before after : SinkState) → TakesAll PutsEntry position es before after → before.faults ≤ after.faults
took_later position [] before after took = let same = ap (λ (s : SinkState). s.faults) took in omega arith
took_later position (e ∷ es) before after took =
    let rest = took_later (position + 1) es took.0 after took.2 in
    let first = took.1.1 in
    omega (arith, rest, first)

lines_parts : (position : ℕ) (xs : List Entry) (e : Entry) (rest : List Entry)
    → entry_lines position (xs ++ e ∷ rest) ≡ (entry_lines position xs ++ line_of_entry (position + length xs) e) ++ entry_lines (position + length xs + 1) rest
lines_parts position [] e rest =
    let here : position ≡ position + 0 = omega arith in
    ap (λ (n : ℕ). line_of_entry n e ++ entry_lines (n + 1) rest) here
lines_parts position (x ∷ xs) e rest =
    let first = line_of_entry position x in
    let front = entry_lines (position + 1) xs in
    let there : position + 1 + length xs ≡ position + suc (length xs) = omega arith in
    ap (λ (t : List ℕ). first ++ t) (lines_parts (position + 1) xs e rest)
    ∙ (ap (λ (n : ℕ). first ++ ((front ++ line_of_entry n e) ++ entry_lines (n + 1) rest)) there
    ∙ (sym (append_assoc first (front ++ line_of_entry (position + suc (length xs)) e) (entry_lines (position + suc (length xs) + 1) rest))
    ∙ ap (λ (t : List ℕ). t ++ entry_lines (position + suc (length xs) + 1) rest) (sym (append_assoc first front (line_of_entry (position + suc (length xs)) e)))))

pub part_put : (text : List ℕ) (before after : SinkState) (stop : SinkError) → PutsText text before after (Err stop) → AppendsPart before.taken text after.taken
part_put text before after Fault puts = puts.1
part_put text before after NoMemory puts = puts

pub stops_text : (es : List Entry) (before after : SinkState) (stop : SinkError) → StopsIn PutsEntry es before after stop → AppendsPart before.taken (entry_lines 0 es) after.taken
stops_text es before after stop so =
    let e = so.entry in
    let line : AppendsPart so.mid.taken (line_of_entry (length so.taken) e) after.taken =
    subst (λ (t : List ℕ). AppendsPart so.mid.taken t after.taken) (told_line (length so.taken) e.caller e.op e.reply e.bytes)
    (part_put (line_of_entry (length so.taken) (told e)) so.mid after stop so.stops.0) in
    let here : 0 + length so.taken ≡ length so.taken = omega arith in
    let front = entry_lines 0 so.taken in
    let whole : entry_lines 0 es ≡ (front ++ line_of_entry (length so.taken) e) ++ entry_lines (length so.taken + 1) so.rest =
    ap (entry_lines 0) so.parts
    ∙ (lines_parts 0 so.taken e so.rest ∙ ap (λ (n : ℕ). (front ++ line_of_entry n e) ++ entry_lines (n + 1) so.rest) here) in
    subst (λ (t : List ℕ). AppendsPart before.taken t after.taken) (sym whole)
    (AppendsPart-more before.taken after.taken (front ++ line_of_entry (length so.taken) e) (entry_lines (length so.taken + 1) so.rest)
    (AppendsPart-append before.taken so.mid.taken after.taken front (line_of_entry (length so.taken) e) (took_text 0 so.taken before so.mid so.took) line))

pub stops_later : (es : List Entry) (before after : SinkState) (stop : SinkError) → StopsIn PutsEntry es before after stop → before.faults ≤ after.faults
stops_later es before after stop so =
    let first = took_later 0 so.taken before so.mid so.took in
    let last = so.stops.1 in
    omega (arith, first, last)

pub stops_rose : (es : List Entry) (before after : SinkState) → StopsIn PutsEntry es before after Fault → Rose before.faults after.faults
stops_rose es before after so = rose_later before.faults so.mid.faults after.faults (took_later 0 so.taken before so.mid so.took) so.stops.0.0
