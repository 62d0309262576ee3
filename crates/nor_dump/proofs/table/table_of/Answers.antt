use Rattle.std.proofs.Common.{◌≡◌, ◌==◌, ◌∙◌, ℕ, List, length, Bool, true, false, not, Option, Some, None, if◌then◌else◌, refl, ap, arith}
use Rattle.std.specs.Option.{option_map}
use Rattle.std.proofs.lemmas.Bool.Decides.{nat_tests}
use Rattle.nor_query.specs.Checks.{first_error}
use Rattle.nor_dump.specs.Table.{low_bytes, are_low}
use Rattle.nor_dump.specs.declared.table.TableError.{TableError}
use Rattle.nor_dump.specs.declared.table.TableError.TheVariants.{Length, HighByte, Query}
use Rattle.nor_dump.proofs.table.table_of.Goals as goal

-- words whose high bytes are 0
low_words : (low : Bool) (lows table : List ℕ) → Some table ≡ (if low then Some lows else None) → (low ≡ true) × (table ≡ lows)
low_words true lows table is = (refl, cc)
low_words false lows table is = absurd (let x = is in cc)

third : (short wide low : Bool) (first last : Option TableError) (len : ℕ) → short ≡ false → wide ≡ true → low ≡ true
    → last ≡ (if short then first else if not wide then Some (Length len) else if low then last else Some HighByte)
third true wide low first last len s w l = absurd (let x = s in cc)
third false false low first last len s w l = absurd (let x = w in cc)
third false true false first last len s w l = absurd (let x = l in cc)
third false true true first last len s w l = refl

pub returns-in-Some-clause-refused : goal.returns-in-Some-clause-refused
returns-in-Some-clause-refused c =
    let file = c.args.file.now in
    let short : (length file == 512) ≡ false = grind (arith, nat_tests) in
    let wide : (length file == 1024) ≡ true = grind (arith, nat_tests) in
    let some : Some c.in-Some.table ≡ (if are_low file then Some (low_bytes file) else None) = cc in
    let low = low_words (are_low file) (low_bytes file) c.in-Some.table some in
    c.accepted-in-Some.ensures.refused
    ∙ (ap (λ (t : List ℕ). option_map Query (first_error t)) low.1
    ∙ third (length file == 512) (length file == 1024) (are_low file) (option_map Query (first_error file)) (option_map Query (first_error (low_bytes file))) (length file) short wide low.0)
