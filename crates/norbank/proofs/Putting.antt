-- Texts that are put one after the other, with the status after them.
use Rattle.std.proofs.Common.{◌≡◌, inl, inr, ℕ, List, Result, Ok, Err, subst, sym, ap, ◌∙◌}
use Rattle.nor_image.specs.declared.error.ImageError.{ImageError}
use Rattle.nor_io.specs.declared.sink.SinkError.{SinkError}
use Rattle.nor_io.specs.declared.sink.SinkError.TheVariants.{Fault, NoMemory}
use Rattle.nor_io.specs.Files.{SinkState}
use Rattle.nor_io.specs.Puts.{PutsText}
use Rattle.norbank.specs.Endings.{Says, Tells, status_of, text_of}
use Rattle.norbank.specs.Status.{AfterPut}
use Rattle.norbank.specs.Text.{line_of, image_text}
use Rattle.norbank.specs.Words.{Asked}
use Rattle.norbank.specs.declared.stop.Stop.{Stop}

-- the status after a text
pub says_so : (code status : ℕ) (text : List ℕ) (before after : SinkState) (r : Result (Unit {0}) SinkError) → PutsText text before after r → AfterPut code r status → Says code text before after status
says_so code status text before after (Ok done) puts is = inl (is, puts)
says_so code status text before after (Err Fault) puts is = inr (inl (is, puts.0, puts.1))
says_so code status text before after (Err NoMemory) puts is = inr (inr (is, puts))

-- another spelling of the text
pub says_as : (code status : ℕ) (text other : List ℕ) (before after : SinkState) → other ≡ text → Says code text before after status → Says code other before after status
says_as code status text other before after is says = subst (λ (t : List ℕ). Says code t before after status) (sym is) says

-- why a file is no bank's, with a number at the end of the line
pub says_line : (error e : ImageError) (code status : ℕ) (head tail digits : List ℕ) (before after : SinkState) → error ≡ e → tail ≡ digits → image_text e ≡ line_of head digits
    → Says code (line_of head tail) before after status → Says code (image_text error) before after status
says_line error e code status head tail digits before after is number so says =
    says_as code status (line_of head digits) (image_text error) before after (ap image_text is ∙ so)
    (subst (λ (t : List ℕ). Says code (line_of head t) before after status) number says)

-- what stopped a command, by its status and its text
pub tells_as : (command : Asked) (stop other : Stop) (code status : ℕ) (text : List ℕ) (before after : SinkState) → stop ≡ other → code ≡ status_of stop → text ≡ text_of command other
    → Says code text before after status → Tells command (Err stop) before after status
tells_as command stop other code status text before after is coded texts says =
    inl (subst (λ (s : Stop). Says (status_of s) (text_of command s) before after status) (sym is)
    (subst (λ (t : List ℕ). Says (status_of other) t before after status) texts
    (subst (λ (n : ℕ). Says n text before after status) (coded ∙ ap status_of is) says)))
