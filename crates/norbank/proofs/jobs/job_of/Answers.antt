use Rattle.std.proofs.Common.{◌≡◌, ◌∙◌, refl, ap, sym, subst, Bool, List, ℕ, length, Ok, Err}
use Rattle.nor_cell.proofs.Logic.{if_gave}
use Rattle.nor_script.specs.Script.{Reads, script_of}
use Rattle.nor_script.proofs.Callers.{says_races, says_script}
use Rattle.norbank.specs.Opened.{FailsJob}
use Rattle.norbank.specs.declared.stop.Stop.TheVariants.{BadScript}
use Rattle.norbank.proofs.Opening.{loaded_as, no_bank_file, no_script_file, no_bank, no_script, image_free}
use Rattle.norbank.proofs.jobs.job_of.Goals as goal

pub returns-in_err-file-clause-stops : goal.returns-in_err-file-clause-stops
returns-in_err-file-clause-stops g c =
    let was = g.H.Shelf.state c.args.shelf.now in
    let now = g.H.Shelf.state c.load.new.shelf in
    let stop = c.in_err-file.field-0.0 in
    if_gave c.from_residual.result stop (FailsJob c.args.race c.args.image.now c.args.script.now was now) c.from_residual.ensures.1
    (no_bank_file c.args.race c.args.image.now c.args.script.now was now stop c.in_err-file.ensures.stops)

pub returns-in_err-text-clause-stops : goal.returns-in_err-text-clause-stops
returns-in_err-text-clause-stops g c =
    let was = g.H.Shelf.state c.args.shelf.now in
    let now = g.H.Shelf.state c.load-2.new.shelf in
    let stop = c.in_err-text.field-0.0 in
    if_gave c.from_residual-in_err-text.result stop (FailsJob c.args.race c.args.image.now c.args.script.now was now) c.from_residual-in_err-text.ensures.1
    (no_script_file c.args.race c.args.image.now c.args.script.now c.in_ok-file.file.items
    was (g.H.Shelf.state c.load.new.shelf) now stop
    c.in_ok-file.ensures.loaded c.load.ensures.same c.load.ensures.later c.in_err-text.ensures.stops)

pub returns-in_err-loaded-clause-stops : goal.returns-in_err-loaded-clause-stops
returns-in_err-loaded-clause-stops g c =
    let was = g.H.Shelf.state c.args.shelf.now in
    let now = g.H.Shelf.state c.load-2.new.shelf in
    let stop = c.in_err-loaded.field-0.0 in
    if_gave c.from_residual-in_err-loaded.result stop (FailsJob c.args.race c.args.image.now c.args.script.now was now) c.from_residual-in_err-loaded.ensures.1
    (no_bank c.args.race c.args.image.now c.args.script.now c.in_ok-file.file.items c.in_ok-text.text.items was now stop c.in_ok-file.ensures.loaded
    (loaded_as (g.H.Shelf.state c.load.new.shelf).files was.files c.args.script.now c.in_ok-text.text.items c.load.ensures.same c.in_ok-text.ensures.loaded)
    c.in_err-loaded.ensures.stops)

pub returns-in_err-script-clause-stops : goal.returns-in_err-script-clause-stops
returns-in_err-script-clause-stops g c =
    let was = g.H.Shelf.state c.args.shelf.now in
    let now = g.H.Shelf.state c.load-2.new.shelf in
    let file = c.in_ok-file.file.items in
    let bank = c.in_ok-loaded.ensures.bank in
    let error = c.in_err-script.field-0.0 in
    if_gave c.from_residual-in_err-script.result (BadScript error) (FailsJob c.args.race c.args.image.now c.args.script.now was now) c.from_residual-in_err-script.ensures.1
    (no_script c.args.race c.args.image.now c.args.script.now file c.in_ok-text.text.items was now (BadScript error) c.in_ok-file.ensures.loaded
    (loaded_as (g.H.Shelf.state c.load.new.shelf).files was.files c.args.script.now c.in_ok-text.text.items c.load.ensures.same c.in_ok-text.ensures.loaded)
    error refl (image_free file c.in_ok-loaded.loaded bank)
    (subst (λ (t : List ℕ). Reads (script_of c.args.race t) (Err error)) c.deref.ensures.value c.in_err-script.ensures))

pub returns-clause-ready : goal.returns-clause-ready
returns-clause-ready g c = record {
  file = c.in_ok-file.file.items;
  is_file = c.in_ok-file.ensures.loaded;
  text = c.in_ok-text.text.items;
  is_text = loaded_as (g.H.Shelf.state c.load.new.shelf).files (g.H.Shelf.state c.args.shelf.now).files c.args.script.now c.in_ok-text.text.items c.load.ensures.same c.in_ok-text.ensures.loaded;
  is_bank = c.in_ok-loaded.ensures.bank;
  is_script = ap (λ (t : List ℕ). script_of c.args.race t) (sym c.deref.ensures.value) ∙ c.in_ok-script.ensures;
  loaded = c.in_ok-loaded.ensures.loaded;
  room = ap (λ (bytes : List ℕ). length bytes) c.in_ok-file-2.ensures.file;
  script = says_script c.args.race c.deref.result.now c.in_ok-script.script c.in_ok-script.ensures;
  raced = λ races. says_races c.deref.result.now c.in_ok-script.script (subst (λ (race : Bool). script_of race c.deref.result.now ≡ Ok c.in_ok-script.script) races c.in_ok-script.ensures);
}
