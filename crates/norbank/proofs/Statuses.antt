-- The statuses of what stops a command.
use Rattle.std.proofs.Common.{◌≡◌, ◌≢◌, ◌<◌, ◌+◌, ◌^◌, ◌∙◌, inl, inr, ℕ, List, [], ◌∷◌, length, ap, arith, Bool, true, false, nat_lt, Option, Some, None, Result, Ok, Err}
use Rattle.std.specs.Option.{option_map}
use Rattle.nor_cell.specs.Chip.{ChipState}
use Rattle.nor_bus.specs.Bus.{bank_size}
use Rattle.nor_image.specs.Image.{image_refusal, width_of}
use Rattle.nor_image.specs.declared.error.ImageError.{ImageError}
use Rattle.nor_image.specs.declared.error.ImageError.TheVariants.{BadMagic, BadHeader, Truncated, Trailing, SizeDiffers, NoMemory as NoImageMemory}
use Rattle.nor_io.specs.declared.sink.SinkError.TheVariants.{Fault, NoMemory as NoSinkMemory}
use Rattle.nor_probe.specs.Probed.{refusal}
use Rattle.nor_probe.specs.declared.error.ProbeError.{ProbeError}
use Rattle.nor_script.specs.Script.{script_of}
use Rattle.nor_script.specs.declared.error.ScriptError.{ScriptError}
use Rattle.nor_script.specs.declared.error.ScriptError.TheVariants.{BadLine, BadCaller, TooManyLines, NoMemory as NoScriptMemory}
use Rattle.nor_script.specs.declared.line.Line.{Line}
use Rattle.norbank.specs.Done.{IsRun}
use Rattle.norbank.specs.Endings.{status_of, done_status}
use Rattle.norbank.specs.Stops.{when, file_stop, image_stop, text_stop, probe_stop, first_some, stops_of, chips_of_file, bytes_in}
use Rattle.norbank.specs.Words.{Asked, Read, Show, Script, Drill, Unknown}
use Rattle.norbank.specs.declared.stop.Done.{Done}
use Rattle.norbank.specs.declared.stop.Done.TheVariants.{All, Halted}
use Rattle.norbank.specs.declared.stop.File.{File}
use Rattle.norbank.specs.declared.stop.File.TheVariants.{Bank, Script as ScriptFile}
use Rattle.norbank.specs.declared.stop.Stop.{Stop}
use Rattle.norbank.specs.declared.stop.Stop.TheVariants.{Usage, BadImage, BadScript, Unfound, Absent, TooLarge, ReadFault, WriteFault, OutOfRange, NoMemory, Output}

-- ---- the status of a stop

pub apart : (n : ℕ) → 0 < n → n ≢ 6 → IsRun n → ⊥
apart n some other (inl zero) = omega arith
apart n some other (inr six) = other six

-- nothing that stops a command has the status of what was done
pub never_run : (stop : Stop) → IsRun (status_of stop) → ⊥
never_run Usage = apart 2 (omega arith) (λ x. omega arith)
never_run (BadImage BadMagic) = apart 3 (omega arith) (λ x. omega arith)
never_run (BadImage (BadHeader p)) = apart 3 (omega arith) (λ x. omega arith)
never_run (BadImage (Truncated p)) = apart 3 (omega arith) (λ x. omega arith)
never_run (BadImage (Trailing p)) = apart 3 (omega arith) (λ x. omega arith)
never_run (BadImage (SizeDiffers l)) = apart 3 (omega arith) (λ x. omega arith)
never_run (BadImage NoImageMemory) = apart 9 (omega arith) (λ x. omega arith)
never_run (BadScript (BadLine line kind)) = apart 4 (omega arith) (λ x. omega arith)
never_run (BadScript (BadCaller line)) = apart 4 (omega arith) (λ x. omega arith)
never_run (BadScript TooManyLines) = apart 4 (omega arith) (λ x. omega arith)
never_run (BadScript NoScriptMemory) = apart 9 (omega arith) (λ x. omega arith)
never_run (Unfound error) = apart 5 (omega arith) (λ x. omega arith)
never_run (Absent file) = apart 8 (omega arith) (λ x. omega arith)
never_run (TooLarge Bank) = apart 3 (omega arith) (λ x. omega arith)
never_run (TooLarge ScriptFile) = apart 4 (omega arith) (λ x. omega arith)
never_run (ReadFault file) = apart 7 (omega arith) (λ x. omega arith)
never_run WriteFault = apart 7 (omega arith) (λ x. omega arith)
never_run OutOfRange = apart 10 (omega arith) (λ x. omega arith)
never_run NoMemory = apart 9 (omega arith) (λ x. omega arith)
never_run (Output Fault) = apart 7 (omega arith) (λ x. omega arith)
never_run (Output NoSinkMemory) = apart 9 (omega arith) (λ x. omega arith)

-- the words and the bytes of files never say that there was a fault
abbrev pub IsPlain : Option Stop → Type 0
IsPlain x = (stop : Stop) → x ≡ Some stop → status_of stop ≡ 7 → ⊥

abbrev pub ArePlain : List (Option Stop) → Type 0
ArePlain [] = Unit {0}
ArePlain (x ∷ later) = IsPlain x × ArePlain later

pub first_plain : (l : List (Option Stop)) → ArePlain l → IsPlain (first_some l)
first_plain [] plain stop is = absurd (let x = is in cc)
first_plain (None ∷ later) plain stop is = first_plain later plain.1 stop is
first_plain (Some s ∷ later) plain stop is = plain.0 stop is

one_plain : (s : Stop) → (status_of s ≡ 7 → ⊥) → IsPlain (Some s)
one_plain s plain stop is seven = plain (let same : s ≡ stop = cc in ap status_of same ∙ seven)

none_plain : IsPlain None
none_plain stop is = absurd (let x = is in cc)

when_plain : (b : Bool) (s : Stop) → (status_of s ≡ 7 → ⊥) → IsPlain (when b s)
when_plain true s plain = one_plain s plain
when_plain false s plain = none_plain

large_plain : (file : File) → status_of (TooLarge file) ≡ 7 → ⊥
large_plain Bank is = omega arith
large_plain ScriptFile is = omega arith

file_plain : (which : File) (found : Option (List ℕ)) → IsPlain (file_stop which found)
file_plain which None = one_plain (Absent which) (λ x. omega arith)
file_plain which (Some bytes) = when_plain (nat_lt (2 ^ 30) (length bytes)) (TooLarge which) (large_plain which)

bad_image_plain : (e : ImageError) → status_of (BadImage e) ≡ 7 → ⊥
bad_image_plain BadMagic is = omega arith
bad_image_plain (BadHeader p) is = omega arith
bad_image_plain (Truncated p) is = omega arith
bad_image_plain (Trailing p) is = omega arith
bad_image_plain (SizeDiffers l) is = omega arith
bad_image_plain NoImageMemory is = omega arith

image_plain : (file : List ℕ) → IsPlain (image_stop file)
image_plain file = by (image_refusal file)
  where
    by : (o : Option ImageError) → IsPlain (option_map BadImage o)
    by None = none_plain
    by (Some e) = one_plain (BadImage e) (bad_image_plain e)

bad_script_plain : (e : ScriptError) → status_of (BadScript e) ≡ 7 → ⊥
bad_script_plain (BadLine line kind) is = omega arith
bad_script_plain (BadCaller line) is = omega arith
bad_script_plain TooManyLines is = omega arith
bad_script_plain NoScriptMemory is = omega arith

text_plain : (r : Result (List Line) ScriptError) → IsPlain (text_stop r)
text_plain (Ok lines) = none_plain
text_plain (Err e) = one_plain (BadScript e) (bad_script_plain e)

probe_plain : (width : ℕ) (chips : List ChipState) → IsPlain (probe_stop width chips)
probe_plain width chips = by (refusal width chips)
  where
    by : (o : Option ProbeError) → IsPlain (option_map Unfound o)
    by None = none_plain
    by (Some e) = one_plain (Unfound e) (λ x. omega arith)

pub all_plain : (command : Asked) (bank script : Option (List ℕ)) → ArePlain (stops_of command bank script)
all_plain (Read name at len) bank script = (
  file_plain Bank bank,
  (
    image_plain (bytes_in bank),
    (
      probe_plain (width_of (bytes_in bank)) (chips_of_file (bytes_in bank)),
      (when_plain (nat_lt (bank_size (chips_of_file (bytes_in bank))) (at + len)) OutOfRange (λ x. omega arith), tt),
    ),
  ),
)
all_plain (Show name) bank script = (
  file_plain Bank bank,
  (
    image_plain (bytes_in bank),
    (probe_plain (width_of (bytes_in bank)) (chips_of_file (bytes_in bank)), tt),
  ),
)
all_plain (Script race name script_name) bank script = (
  file_plain Bank bank,
  (
    file_plain ScriptFile script,
    (
      image_plain (bytes_in bank),
      (
        text_plain (script_of race (bytes_in script)),
        (probe_plain (width_of (bytes_in bank)) (chips_of_file (bytes_in bank)), tt),
      ),
    ),
  ),
)
all_plain (Drill n) bank script = tt
all_plain Unknown bank script = (one_plain Usage (λ x. omega arith), tt)

-- ---- the status of what was done

pub done_run : (done : Done) (status : ℕ) → status ≡ done_status done → IsRun status
done_run All status is = inl is
done_run Halted status is = inr is

pub not_either : (status : ℕ) → status ≢ 0 → status ≢ 6 → IsRun status → ⊥
not_either status zero_not six_not (inl zero_is) = zero_not zero_is
not_either status zero_not six_not (inr six_is) = six_not six_is
