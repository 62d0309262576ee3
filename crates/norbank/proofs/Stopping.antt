-- The first stop in the order of work.
use Rattle.std.proofs.Common.{◌≡◌, ◌<◌, ◌≤◌, ◌^◌, ◌∙◌, ◌⊎◌, inl, inr, ℕ, List, [], ◌∷◌, ◌++◌, length, refl, ap, Bool, true, false, nat_lt, Option, Some, None, Result, Ok, Err}
use Rattle.std.specs.Option.{option_or, option_map}
use Rattle.std.specs.Result.{IsErrAnd}
use Rattle.std.proofs.lemmas.Result.{err_from_is_err_and}
use Rattle.nor_cell.proofs.Logic.{passes_below, fails_behind}
use Rattle.nor_cell.specs.Chip.{ChipState}
use Rattle.nor_cell.specs.declared.geometry.Geometry.{Geometry}
use Rattle.nor_image.specs.Image.{image_refusal, IsCause}
use Rattle.nor_image.specs.declared.error.ImageError.{ImageError}
use Rattle.nor_image.specs.declared.error.ImageError.TheVariants.{BadMagic, BadHeader, Truncated, Trailing, SizeDiffers, NoMemory as NoImageMemory}
use Rattle.nor_query.specs.Checks.{first_error}
use Rattle.nor_query.specs.declared.error.QueryError.{QueryError}
use Rattle.nor_probe.specs.Found.{found_geometry}
use Rattle.nor_probe.specs.Probed.{refusal, refusal_in, IsFoundOn}
use Rattle.nor_probe.specs.Tables.{table_read, first_difference}
use Rattle.nor_probe.specs.declared.error.ProbeError.{ProbeError}
use Rattle.nor_probe.specs.declared.error.ProbeError.TheVariants.{Query}
use Rattle.nor_probe.specs.declared.probing.Found.{Found}
use Rattle.nor_script.specs.Script.{Reads}
use Rattle.nor_script.specs.declared.error.ScriptError.{ScriptError}
use Rattle.nor_script.specs.declared.error.ScriptError.TheVariants.{BadLine, BadCaller, TooManyLines, NoMemory as NoScriptMemory}
use Rattle.nor_script.specs.declared.line.Line.{Line}
use Rattle.norbank.specs.Does.{IsWant}
use Rattle.norbank.specs.Stops.{when, file_stop, image_stop, text_stop, probe_stop, first_some}
use Rattle.norbank.specs.Words.{Asked}
use Rattle.norbank.specs.declared.stop.Done.{Done}
use Rattle.norbank.specs.declared.stop.File.{File}
use Rattle.norbank.specs.declared.stop.Stop.{Stop}
use Rattle.norbank.specs.declared.stop.Stop.TheVariants.{BadImage, BadScript, Unfound, TooLarge}

-- ---- the error that was given

pub stopped_by : (result : Result Done Stop) (stop : Stop) → IsErrAnd result (λ s. s ≡ stop) → result ≡ Err stop
stopped_by result stop gave = let given = err_from_is_err_and result gave in given.1 ∙ ap (λ (s : Stop). Err s) given.2

-- ---- lists of stops

-- one of the list is this stop, and none before it is there
abbrev pub StopsAt : List (Option Stop) → Stop → Type 0
StopsAt [] stop = ⊥
StopsAt (x ∷ later) stop = (x ≡ Some stop) ⊎ ((x ≡ None) × StopsAt later stop)

pub stops_at : (l : List (Option Stop)) (stop : Stop) → StopsAt l stop → first_some l ≡ Some stop
stops_at [] stop at = absurd at
stops_at (None ∷ later) stop (inl is) = absurd (let x = is in cc)
stops_at (None ∷ later) stop (inr behind) = stops_at later stop behind.1
stops_at (Some s ∷ later) stop (inl is) = is
stops_at (Some s ∷ later) stop (inr behind) = absurd (let x = behind.0 in cc)

pub first_at : (l : List (Option Stop)) (stop : Stop) → first_some l ≡ Some stop → StopsAt l stop
first_at [] stop is = absurd (let x = is in cc)
first_at (None ∷ later) stop is = inr (refl, first_at later stop is)
first_at (Some s ∷ later) stop is = inl is

-- none of the list is there
abbrev pub AreFree : List (Option Stop) → Type 0
AreFree [] = Unit {0}
AreFree (x ∷ later) = (x ≡ None) × AreFree later

pub first_none : (l : List (Option Stop)) → AreFree l → first_some l ≡ None
first_none [] free = refl
first_none (None ∷ later) free = first_none later free.1
first_none (Some s ∷ later) free = absurd (let x = free.0 in cc)

pub none_first : (l : List (Option Stop)) → first_some l ≡ None → AreFree l
none_first [] is = tt
none_first (None ∷ later) is = (refl, none_first later is)
none_first (Some s ∷ later) is = absurd (let x = is in cc)

-- the list goes on
pub sooner : (l more : List (Option Stop)) (stop : Stop) → StopsAt l stop → StopsAt (l ++ more) stop
sooner [] more stop at = absurd at
sooner (x ∷ l) more stop (inl is) = inl is
sooner (x ∷ l) more stop (inr behind) = inr (behind.0, sooner l more stop behind.1)

-- a free list comes before it
pub behind_free : (l more : List (Option Stop)) (stop : Stop) → AreFree l → StopsAt more stop → StopsAt (l ++ more) stop
behind_free [] more stop free at = at
behind_free (x ∷ l) more stop free at = inr (free.0, behind_free l more stop free.1 at)

pub both_free : (l more : List (Option Stop)) → AreFree l → AreFree more → AreFree (l ++ more)
both_free [] more free rest = rest
both_free (x ∷ l) more free rest = (free.0, both_free l more free.1 rest)

-- ---- one stop

pub when_false : (b : Bool) (stop : Stop) → b ≡ false → when b stop ≡ None
when_false b stop is = ap (λ (c : Bool). when c stop) is

pub when_true : (b : Bool) (stop : Stop) → b ≡ true → when b stop ≡ Some stop
when_true b stop is = ap (λ (c : Bool). when c stop) is

pub when_none : (b : Bool) (stop : Stop) → when b stop ≡ None → b ≡ false
when_none true stop is = absurd (let x = is in cc)
when_none false stop is = refl

pub map_none : {E : Type 0} (f : E → Stop) (o : Option E) → o ≡ None → option_map f o ≡ None
map_none f o is = ap (λ x. option_map f x) is

pub map_some : {E : Type 0} (f : E → Stop) (o : Option E) (e : E) → o ≡ Some e → option_map f o ≡ Some (f e)
map_some f o e is = ap (λ x. option_map f x) is

pub none_mapped : {E : Type 0} (f : E → Stop) (o : Option E) → option_map f o ≡ None → o ≡ None
none_mapped f None is = refl
none_mapped f (Some e) is = absurd (let x = is in cc)

pub file_free : (which : File) (bytes : List ℕ) → length bytes ≤ 2 ^ 30 → file_stop which (Some bytes) ≡ None
file_free which bytes few = when_false (nat_lt (2 ^ 30) (length bytes)) (TooLarge which) (fails_behind (2 ^ 30) (length bytes) few)

pub file_large : (which : File) (bytes : List ℕ) → 2 ^ 30 < length bytes → file_stop which (Some bytes) ≡ Some (TooLarge which)
file_large which bytes many = when_true (nat_lt (2 ^ 30) (length bytes)) (TooLarge which) (passes_below (2 ^ 30) (length bytes) many)

pub text_free : (r : Result (List Line) ScriptError) (lines : List Line) → r ≡ Ok lines → text_stop r ≡ None
text_free r lines is = ap text_stop is

-- ---- why an image or a script is refused

pub image_cause : (file : List ℕ) (e : ImageError) → IsCause file e → (image_stop file ≡ Some (BadImage e)) ⊎ ((command : Asked) → IsWant command (BadImage e))
image_cause file BadMagic cause = inl (map_some BadImage (image_refusal file) BadMagic cause)
image_cause file (BadHeader p) cause = inl (map_some BadImage (image_refusal file) (BadHeader p) cause)
image_cause file (Truncated p) cause = inl (map_some BadImage (image_refusal file) (Truncated p) cause)
image_cause file (Trailing p) cause = inl (map_some BadImage (image_refusal file) (Trailing p) cause)
image_cause file (SizeDiffers l) cause = inl (map_some BadImage (image_refusal file) (SizeDiffers l) cause)
image_cause file NoImageMemory cause = inr (λ command. record { status = refl; text = refl })

text_bad : (r : Result (List Line) ScriptError) (e : ScriptError) → r ≡ Err e → text_stop r ≡ Some (BadScript e)
text_bad r e is = ap text_stop is

pub script_cause : (r : Result (List Line) ScriptError) (e : ScriptError) → Reads r (Err e) → (text_stop r ≡ Some (BadScript e)) ⊎ ((command : Asked) → IsWant command (BadScript e))
script_cause r (BadLine line kind) reads = inl (text_bad r (BadLine line kind) (reads (λ x. cc)))
script_cause r (BadCaller line) reads = inl (text_bad r (BadCaller line) (reads (λ x. cc)))
script_cause r TooManyLines reads = inl (text_bad r TooManyLines (reads (λ x. cc)))
script_cause r NoScriptMemory reads = inr (λ command. record { status = refl; text = refl })

-- ---- what probing finds

accepted_in : (found : Option Geometry) (g : Geometry) (chips : List ChipState) (difference : Option ProbeError) (error : Option QueryError)
    → found ≡ Some g → first_difference g chips ≡ difference → first_error (table_read g chips 0) ≡ error → difference ≡ None → error ≡ None
    → refusal_in found chips ≡ None
accepted_in found g chips difference error is first wrong same none =
    ap (λ (f : Option Geometry). refusal_in f chips) is
    ∙ (ap (λ (d : Option ProbeError). option_or d (option_map Query (first_error (table_read g chips 0)))) (first ∙ same)
    ∙ ap (λ (e : Option QueryError). option_or None (option_map Query e)) (wrong ∙ none))

-- a bank that was found is accepted
pub accepted_of : (width : ℕ) (chips : List ChipState) (found : Found) → IsFoundOn width chips found → refusal width chips ≡ None
accepted_of width chips found is =
    accepted_in (found_geometry width chips) found.geometry chips (first_difference found.geometry chips) (first_error (table_read found.geometry chips 0))
    is.wiring refl refl is.same is.says.stands.checks

pub probe_free : (width : ℕ) (chips : List ChipState) (found : Found) → IsFoundOn width chips found → probe_stop width chips ≡ None
probe_free width chips found is = map_none Unfound (refusal width chips) (accepted_of width chips found is)
