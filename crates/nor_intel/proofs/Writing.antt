-- A write changes neither what the chip is, nor its cells, nor how many locks there are.
use Rattle.std.proofs.Common.{◌≡◌, ◌-◌, ◌%◌, ℕ, zero, suc, refl, ap, Bool, true, false, not, ◌==◌, ◌&&◌, ◌||◌, nat_lt, if◌then◌else◌, List, ◌++◌, length, length-set}
use Rattle.nor_cell.specs.Chip.{ChipState, Step, Rest, ProgramNext, EraseNext, LockNext, BufferCount, BufferData, BufferConfirm, Unlock1, Unlock2, Erase1, Erase2, Erase3, LeaveNext, Status, Held, NotHeld, Holds, block_of, has_blocks, is_held, is_locked, set_lock}
use Rattle.nor_cell.specs.Look.{resumed_from, held_off}
use Rattle.nor_cell.specs.Intel.{begin_program, begin_erase, commanded, lock_steps, steps}
use Rattle.nor_cell.specs.Loads.{taken, room, is_next, first_of}
use Rattle.nor_cell.specs.Steps.{Keeps}
use Rattle.nor_cell.specs.Bits.{unit_bytes}
use Rattle.nor_cell.specs.Table.{has_locks}
use Rattle.nor_cell.specs.declared.device.Work.{Work}
use Rattle.nor_cell.specs.declared.device.Work.TheVariants.{Word, Buffer}

-- all else may change
alike : (s t : ChipState) → t.part ≡ s.part → t.cells ≡ s.cells → length t.locks ≡ length s.locks → Keeps s t
alike s t part cells locks = record { part = part; size = ap length cells; locks = locks; bytes = λ bytes p. rw cells (bytes p) }

-- whichever is chosen
either : (b : Bool) (s t r : ChipState) → Keeps s t → Keeps s r → Keeps s (if b then t else r)
either true s t r h k = h
either false s t r h k = k

resumed_keeps : (h : Held) (s : ChipState) → Keeps s (record (resumed_from h s) { mode = Status })
resumed_keeps NotHeld s = alike s _ refl refl refl
resumed_keeps (Holds b left) s = alike s _ refl refl refl

commanded_keeps : (s : ChipState) (u code : ℕ) → Keeps s (commanded s u code)
commanded_keeps s u code =
    let blocks = has_blocks s.part.blocks in
    either (code == 0x90) s _ _ (alike s _ refl refl refl)
    (either (code == 0x98) s _ _ (alike s _ refl refl refl)
    (either (code == 0x70) s _ _ (alike s _ refl refl refl)
    (either (code == 0x50) s _ _ (alike s _ refl refl refl)
    (either ((code == 0x40 || code == 0x10) && blocks) s _ _ (alike s _ refl refl refl)
    (either (code == 0xE8 && blocks && not (room s == 0)) s _ _ (alike s _ refl refl refl)
    (either (code == 0x20 && blocks) s _ _ (alike s _ refl refl refl)
    (either (code == 0x60 && blocks) s _ _ (alike s _ refl refl refl)
    (either (code == 0xD0 && blocks && is_held s.held) s _ _ (resumed_keeps s.held s) (alike s _ refl refl refl)))))))))

program_keeps : (kind : Work) (u : ℕ) (bytes : List ℕ) (s : ChipState) → Keeps s (begin_program kind u bytes s)
program_keeps kind u bytes s =
    either (is_locked s (block_of s u)) s _ _ (alike s _ refl refl refl)
    (either (held_off s (block_of s u)) s _ _ (alike s _ refl refl refl) (alike s _ refl refl refl))

erase_keeps : (b : ℕ) (s : ChipState) → Keeps s (begin_erase b s)
erase_keeps b s =
    either (is_locked s b) s _ _ (alike s _ refl refl refl)
    (either (is_held s.held) s _ _ (alike s _ refl refl refl) (alike s _ refl refl refl))

lock_keeps : (b : ℕ) (locked : Bool) (s : ChipState) → Keeps s (set_lock b locked s)
lock_keeps b locked s = alike s _ refl refl (length-set s.locks b locked)

locks_keep : (s : ChipState) (u code : ℕ) → Keeps s (lock_steps s u code)
locks_keep s u code =
    either (code == 0x01 && has_locks s.part.table) s _ _ (lock_keeps (block_of s u) true s)
    (either (code == 0xD0 && has_locks s.part.table) s _ _ (lock_keeps (block_of s u) false s) (alike s _ refl refl refl))

taken_keeps : (b missing first : ℕ) (bytes : List ℕ) (s : ChipState) → Keeps s (taken b missing first bytes s)
taken_keeps b zero first bytes s = alike s _ refl refl refl
taken_keeps b (suc missing) first bytes s = alike s _ refl refl refl

pub steps_keep : (k : Step) (s : ChipState) (u v : ℕ) → Keeps s (steps k s u v)
steps_keep Rest s u v = commanded_keeps s u (v % 256)
steps_keep ProgramNext s u v = program_keeps Word u (unit_bytes s.part.device v) s
steps_keep EraseNext s u v = either (v % 256 == 0xD0) s _ _ (erase_keeps (block_of s u) s) (alike s _ refl refl refl)
steps_keep LockNext s u v = locks_keep s u (v % 256)
steps_keep (BufferCount b) s u v = either (nat_lt (v % 256) (room s)) s _ _ (alike s _ refl refl refl) (alike s _ refl refl refl)
steps_keep (BufferData b missing first bytes) s u v =
    either (is_next s b first bytes u) s _ _
    (taken_keeps b (missing - 1) (first_of first bytes u) (bytes ++ unit_bytes s.part.device v) s) (alike s _ refl refl refl)
steps_keep (BufferConfirm first bytes) s u v = either (v % 256 == 0xD0) s _ _ (program_keeps Buffer first bytes s) (alike s _ refl refl refl)
steps_keep Unlock1 s u v = alike s s refl refl refl
steps_keep Unlock2 s u v = alike s s refl refl refl
steps_keep Erase1 s u v = alike s s refl refl refl
steps_keep Erase2 s u v = alike s s refl refl refl
steps_keep Erase3 s u v = alike s s refl refl refl
steps_keep LeaveNext s u v = alike s s refl refl refl
