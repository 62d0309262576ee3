use Rattle.std.proofs.Common.{◌≡◌, ◌∙◌, ℕ, List, Result, Ok, Err, ap, subst}
use Rattle.std.specs.Result.{IfOk}
use Rattle.nor_cell.specs.Chip.{ChipState}
use Rattle.nor_image.specs.Loaded.{bus_of, loaded_width}
use Rattle.nor_image.specs.Written.{Stores, file_of}
use Rattle.nor_dump.specs.Made.{IsMade, made_chips}
use Rattle.nor_dump.proofs.Banks.{is_made}
use Rattle.nor_dump.proofs.bank.make_bank.Goals as goal

-- what follows from two facts of the value
from_both : {T E : Type 0} → (r : Result T E) (P Q R : T → Type 0) → ((x : T) → P x → Q x → R x) → IfOk r P → IfOk r Q → IfOk r R
from_both (Ok x) P Q R follows p q = follows x p q
from_both (Err e) P Q R follows p q = tt

pub returns : goal.returns
returns c =
    let width = loaded_width c.in_ok-loaded.loaded in
    let lanes = (bus_of c.in_ok-loaded.loaded).lanes in
    let made = made_chips c.args.g c.args.table.now c.args.changes.now c.args.raw.items c.args.g.lanes in
    from_both c.write_image.result (λ file. file.items ≡ file_of width lanes) (λ file. Stores file.items width lanes)
    (λ file. IsMade c.args.width c.args.g c.args.table.now c.args.changes.now c.args.raw.items file.items)
    (λ file is stores. is_made c.args.width c.args.g c.args.table.now c.args.changes.now c.args.raw.items c.requires file.items
    (is ∙ (ap (λ (w : ℕ). file_of w lanes) c.in_ok-loaded.ensures.width ∙ ap (λ (chips : List ChipState). file_of c.args.width chips) c.in_ok-loaded.ensures.lanes))
    (subst (λ (w : ℕ). Stores file.items w made) c.in_ok-loaded.ensures.width
    (subst (λ (chips : List ChipState). Stores file.items width chips) c.in_ok-loaded.ensures.lanes stores)))
    c.write_image.ensures.file c.write_image.ensures.stands
