-- What was put, once the output has passed it on.
use Rattle.std.proofs.Common.{◌≡◌, ◌≤◌, ◌∙◌, inl, inr, ◌++◌, ◌∷◌, ℕ, List, [], length, Bool, Option, Result, Ok, Err, refl, sym, ap, subst, arith, append-nil}
use Rattle.std.proofs.lemmas.List.{take_all}
use Rattle.nor_bus.specs.Bus.{BusState}
use Rattle.nor_io.specs.Files.{ShelfState, SinkState, Appends, AppendsPart}
use Rattle.nor_io.specs.Puts.{PutsText}
use Rattle.nor_io.specs.declared.sink.SinkError.{SinkError}
use Rattle.nor_io.specs.declared.sink.SinkError.TheVariants.{Fault, NoMemory}
use Rattle.nor_io.proofs.Pieces.{Appends-append, AppendsPart-append}
use Rattle.nor_io.proofs.Putting.{puts_then, rose_later}
use Rattle.nor_run.specs.Scripts.{IsRunOf, RunsImage, RunsPartly}
use Rattle.nor_run.specs.declared.lines.Ran.{Ran}
use Rattle.nor_run.proofs.Taking.{part_put}
use Rattle.nor_script.specs.declared.line.Line.{Line}
use Rattle.norbank.proofs.Parts.{every_count}
use Rattle.norbank.specs.AsAsked.{IsScript}
use Rattle.norbank.specs.Does.{Answers, Does, Prints, of_put}
use Rattle.norbank.specs.Endings.{Says, Tells, status_of}
use Rattle.norbank.specs.Words.{Asked, Read, Show, Script, Drill, Unknown}
use Rattle.norbank.specs.declared.stop.Done.{Done}
use Rattle.norbank.specs.declared.stop.Done.TheVariants.{All}
use Rattle.norbank.specs.declared.stop.Stop.{Stop}
use Rattle.norbank.specs.declared.stop.Stop.TheVariants.{Output}

-- ---- what was put behind nothing

-- what was put whole is put as the output passes it on
pub whole_out : (text : List ℕ) (before mid after : SinkState) (r : Result (Unit {0}) SinkError) → Appends before.taken text mid.taken → before.faults ≤ mid.faults → PutsText [] mid after r
    → PutsText text before after r
whole_out text before mid after r whole later out =
    subst (λ (t : List ℕ). PutsText t before after r) (append-nil text) (puts_then text [] before mid after r whole later out)

nothing : (xs ys : List ℕ) → xs ++ ys ≡ [] → xs ≡ []
nothing [] ys is = refl
nothing (x ∷ xs) ys is = absurd (let no : ⊥ = cc in no)

-- and a part of it stays a part
part_out : (old new last : Option (List ℕ)) (text : List ℕ) → AppendsPart old text new → AppendsPart new [] last → AppendsPart old text last
part_out old new last text part none =
    let empty : none.0 ≡ [] = nothing none.0 none.1.0 none.1.1 in
    let same : part.0 ++ none.0 ≡ part.0 = ap (λ (q : List ℕ). part.0 ++ q) empty ∙ append-nil part.0 in
    (part.0, part.1, subst (λ (p : List ℕ). Appends old p last) same (Appends-append old new last part.0 none.0 part.2 none.2))

whole_part : (old new last : Option (List ℕ)) (text : List ℕ) → Appends old text new → AppendsPart new [] last → AppendsPart old text last
whole_part old new last text whole none = subst (λ (t : List ℕ). AppendsPart old t last) (append-nil text) (AppendsPart-append old new last text [] whole none)

-- ---- a command that prints

done_all : (put : Result (Unit {0}) SinkError) (done : Done) → Ok done ≡ of_put put → done ≡ All
done_all (Ok u) done is = cc
done_all (Err e) done is = absurd (let no : ⊥ = cc in no)

prints_out : (text : List ℕ) (was now : ShelfState) (before mid after : SinkState) (done : Done) (r : Result (Unit {0}) SinkError) → before.faults ≤ mid.faults → PutsText [] mid after r
    → Prints text was now before mid (Ok done) → Prints text was now before after (of_put r)
prints_out text was now before mid after done r later out prints = by prints.put prints.puts prints.is
  where
    by : (put : Result (Unit {0}) SinkError) → PutsText text before mid put → Ok done ≡ of_put put → Prints text was now before after (of_put r)
    by (Ok u) puts is = record { put = r; puts = whole_out text before mid after r puts later out; is = refl; kept = prints.kept }
    by (Err e) puts is = absurd (let no : ⊥ = cc in no)

answers_out : (command : Asked) (file text : List ℕ) (was now : ShelfState) (before mid after : SinkState) (done : Done) (r : Result (Unit {0}) SinkError) → (IsScript command → ⊥) → before.faults ≤ mid.faults → PutsText [] mid after r
    → Answers command file text was now before mid (Ok done) → Answers command file text was now before after (of_put r) × (done ≡ All)
answers_out (Read image at len) file text was now before mid after done r quiet later out answers =
    (prints_out _ was now before mid after done r later out answers, done_all answers.put done answers.is)
answers_out (Show image) file text was now before mid after done r quiet later out answers =
    ((answers.0, answers.1, prints_out _ was now before mid after done r later out answers.2), done_all answers.2.put done answers.2.is)
answers_out (Script race image name) file text was now before mid after done r quiet later out answers = absurd (quiet tt)
answers_out (Drill n) file text was now before mid after done r quiet later out answers =
    ((answers.0, answers.1, prints_out _ was now before mid after done r later out answers.2), done_all answers.2.put done answers.2.is)
answers_out Unknown file text was now before mid after done r quiet later out answers = absurd answers

pub printed_out : (command : Asked) (was now : ShelfState) (before mid after : SinkState) (done : Done) (r : Result (Unit {0}) SinkError) → (IsScript command → ⊥) → before.faults ≤ mid.faults → PutsText [] mid after r
    → Does command was now before mid (Ok done) → Does command was now before after (of_put r) × (done ≡ All)
printed_out command was now before mid after done r quiet later out (inl stops) = absurd stops
printed_out command was now before mid after done r quiet later out (inr works) =
    let so = answers_out command _ _ was now before mid after done r quiet later out works.answers in
    (inr (record { names = works.names; free = works.free; answers = so.0 }), so.1)

-- ---- a report

pub report_out : (race : Bool) (width : ℕ) (lines : List Line) (bus : BusState) (before mid after : SinkState) (ran : Ran) (file : List ℕ) → Appends mid.taken [] after.taken
    → RunsImage race width lines bus before mid ran file → RunsImage race width lines bus before after ran file
report_out race width lines bus before mid after ran file out is = record {
  new = is.new;
  runs = record {
    history = is.runs.history;
    runs = is.runs.runs;
    text = subst (λ (t : List ℕ). Appends before.taken t after.taken) (append-nil _) (Appends-append before.taken mid.taken after.taken _ [] is.runs.text out);
    entries = is.runs.entries;
    halted = is.runs.halted;
  };
  spelled = is.spelled;
  image = is.image;
  agree = is.agree;
}

pub report_kept : (race : Bool) (width : ℕ) (lines : List Line) (bus : BusState) (before mid after : SinkState) (ran : Ran) (file : List ℕ) (e : SinkError) → PutsText [] mid after (Err e)
    → RunsImage race width lines bus before mid ran file → (new : BusState) × RunsPartly race width lines bus new before after
report_kept race width lines bus before mid after ran file e out is = (
  is.new,
  record {
    history = is.runs.history;
    count = length lines;
    all = every_count race lines;
    runs = subst (λ (ls : List Line). IsRunOf race width ls bus is.new is.runs.history) (sym (take_all (length lines) lines (omega arith))) is.runs.runs;
    whole = _;
    due = inr (omega arith, refl);
    text = whole_part before.taken mid.taken after.taken _ is.runs.text (part_put [] mid after e out);
  },
)

-- ---- a last text

says_part : (code : ℕ) (text : List ℕ) (before mid after : SinkState) (status : ℕ) → AppendsPart mid.taken [] after.taken → Says code text before mid status → AppendsPart before.taken text after.taken
says_part code text before mid after status out (inl says) = whole_part before.taken mid.taken after.taken text says.1 out
says_part code text before mid after status out (inr (inl says)) = part_out before.taken mid.taken after.taken text says.2 out
says_part code text before mid after status out (inr (inr says)) = part_out before.taken mid.taken after.taken text says.1 out

pub says_kept : (code : ℕ) (text : List ℕ) (before mid after : SinkState) (status : ℕ) (e : SinkError) → before.faults ≤ mid.faults → PutsText [] mid after (Err e) → Says code text before mid status
    → Says code text before after (status_of (Output e))
says_kept code text before mid after status Fault later out says =
    inr (inl (refl, rose_later before.faults mid.faults after.faults later out.0, says_part code text before mid after status out.1 says))
says_kept code text before mid after status NoMemory later out says = inr (inr (refl, says_part code text before mid after status out says))

pub tells_out : (command : Asked) (stop : Stop) (before mid after : SinkState) (s t : ℕ) → before.faults ≤ mid.faults
    → ((code : ℕ) (text : List ℕ) (b : SinkState) → b.faults ≤ mid.faults → Says code text b mid s → Says code text b after t)
    → Tells command (Err stop) before mid s → Tells command (Err stop) before after t
tells_out command stop before mid after s t later out (inl says) = inl (out _ _ before later says)
tells_out command stop before mid after s t later out (inr (wants, says)) = inr (wants, out _ _ before later says)
