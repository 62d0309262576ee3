-- A call that begins an erase.
use Rattle.std.proofs.Common.{◌≡◌, ◌<◌, ◌≤◌, ◌+◌, ◌*◌, ◌/◌, ℕ, suc, List, [], ◌∷◌, length, slice_index, refl, sym, ◌∙◌, ap, subst, arith, Bool, true, false, Option, Some, None}
use Rattle.std.specs.Prelude.{◌&&◌, ◌==◌, not, nat_le, slice_index_or}
use Rattle.std.proofs.lemmas.Bool.{leb-false}
use Rattle.nor_cell.specs.Between.{IsQuiet, TakesCommands}
use Rattle.nor_cell.specs.Chip.{block, block_of, is_locked, is_any_set, OneBlock, AllBlocks}
use Rattle.nor_cell.specs.Table.{field_8}
use Rattle.nor_cell.specs.declared.device.Set.{Set}
use Rattle.nor_cell.specs.declared.device.Set.TheVariants.{Intel, Amd}
use Rattle.nor_cell.proofs.Between.{shown_takes}
use Rattle.nor_cell.proofs.Logic.{same_self}
use Rattle.nor_query.specs.Derived.{locks_of, chip_erase_of}
use Rattle.nor_bus.specs.Bus.{BusState, lane, lanes_of}
use Rattle.nor_bus.specs.Cycles.{KeepsLanes}
use Rattle.nor_bus.specs.Driven.{AllLanes, EachLane, Reaches, Went, Lost}
use Rattle.nor_bus.proofs.Sizes.{bus_units}
use Rattle.nor_poll.specs.Codes.{cycle_count}
use Rattle.nor_poll.specs.Erase.{TakesErase, TakesEraseAll, BeginsErase, BeginsEraseAll, IsErasing}
use Rattle.nor_poll.specs.Losing.{BeginsNone, Loses}
use Rattle.nor_poll.specs.declared.codes.Command.TheVariants.{EraseBlock, EraseAll as EraseAllBlocks}
use Rattle.nor_probe.proofs.OneTable.{shown_later}
use Rattle.nor_probe.specs.declared.probing.Found.{Found}
use Rattle.nor_array.specs.Array.{ArrayState, Constants, IsThere, chip_target, is_locked as is_locked_in}
use Rattle.nor_array.specs.After.{after_opened}
use Rattle.nor_array.specs.Admits.{WorkLeaves, first_locked}
use Rattle.nor_array.specs.Needs.{needs_of}
use Rattle.nor_array.specs.Refusals.{first_some, when, touches, kept_halt, while_open}
use Rattle.nor_array.specs.declared.entry.Halted.{Halted as HaltCause}
use Rattle.nor_array.specs.declared.entry.Halted.TheVariants.{Off}
use Rattle.nor_array.specs.declared.entry.Op.{Op}
use Rattle.nor_array.specs.declared.entry.Op.TheVariants.{EraseOpen, EraseAll}
use Rattle.nor_array.specs.declared.entry.Reply.{Reply}
use Rattle.nor_array.specs.declared.entry.Reply.TheVariants.{Opened, OutOfRange, NoChipErase, Halted}
use Rattle.nor_array.specs.declared.needs.CallNeeds.{CallNeeds}
use Rattle.nor_array.specs.declared.needs.Reach.TheVariants.{Block, Everywhere}
use Rattle.nor_array.specs.declared.state.Target.{Target}
use Rattle.nor_array.specs.declared.state.Target.TheVariants.{OneBlock as OneOfBank, AllBlocks as AllOfBank}
use Rattle.nor_bank.specs.Calls.{left_of}
use Rattle.nor_bank.specs.Counts.{is_open, GoesOn, IsNew, call_most}
use Rattle.nor_bank.specs.Erases.{Opens}
use Rattle.nor_bank.specs.Refused.{Works, outline}
use Rattle.nor_bank.specs.Stands.{Stands, IsKnown}
use Rattle.nor_bank.specs.State.{BankState, blocks_of, word_bytes}
use Rattle.nor_bank.specs.Way.{HasNeeds, Holds, HoldsAll, BeginsChange, change_most, halting}
use Rattle.nor_bank.specs.Whole.{IsCallOf}
use Rattle.nor_bank.specs.Work.{with_bus}
use Rattle.nor_bank.specs.declared.kept.Erasing.{Erasing}
use Rattle.nor_bank.proofs.Beginning.{may_work, closed_before}
use Rattle.nor_bank.proofs.Blocks.{none_passes}
use Rattle.nor_bank.proofs.Ending.{polls, opened_call, lost_call}
use Rattle.nor_bank.proofs.HaltingLocks.{if_most}
use Rattle.nor_bank.proofs.Holding.{spared_by, locks_by}
use Rattle.nor_bank.proofs.HoldingLanes.{none_erasing}
use Rattle.nor_bank.proofs.Known.{known_own, known_parts, known_some}
use Rattle.nor_bank.proofs.Lasting.{StaysKnown, stays_locked, known_lasts, constants_last}
use Rattle.nor_bank.proofs.LocksBlocks.{block_begins, block_reached}
use Rattle.nor_bank.proofs.OpeningStands.{Begins, stands_opened, counts_opened, left_opened, same_bytes}
use Rattle.nor_bank.proofs.Standing.{quiet_now, is_on_now, byte_now, bytes_known}

-- ---- what nothing refuses

behind_none : (n k : ℕ) (b : Bool) → nat_le n k ≡ b → when b OutOfRange ≡ None → k < n
behind_none n k true is none = absurd (cc)
behind_none n k false is none = leb-false n k is

-- a block that is erased is there
pub erased_there : (caller block : ℕ) (b : BankState) → Works caller (EraseOpen block) b → block < length (blocks_of b.found)
erased_there caller block b works =
    behind_none (length (blocks_of b.found)) block _ refl (may_work caller (EraseOpen block) b works).there

last_none : (kept open_erase chip : Option Reply) → first_some (None ∷ None ∷ kept ∷ None ∷ open_erase ∷ None ∷ chip ∷ []) ≡ None → chip ≡ None
last_none None None None none = refl
last_none None None (Some r) none = absurd (cc)
last_none None (Some r) chip none = absurd (cc)
last_none (Some r) open_erase chip none = absurd (cc)

offered_by : (offered : Bool) → when (not offered) NoChipErase ≡ None → offered ≡ true
offered_by true none = refl
offered_by false none = absurd (cc)

-- the erase of all blocks at once is offered
offers_all : (caller : ℕ) (b : BankState) → Works caller EraseAll b → chip_erase_of b.found.query.set b.found.query.times ≡ true
offers_all caller b works =
    let o = outline b in
    offered_by _ (last_none (kept_halt o.power o.armed EraseAll) (while_open o.under o (needs_of EraseAll))
    (when (not (chip_erase_of b.found.query.set b.found.query.times)) NoChipErase) works.unrefused)

offers_amd : (set : Set) (times : List ℕ) → chip_erase_of set times ≡ true → not (slice_index times 3 == 0) ≡ true
offers_amd Intel times offers = absurd (cc)
offers_amd Amd times offers = offers

-- the typical time of a chip's erase that was found is that of each chip
chip_time : (f : Found) (bus : BusState) → IsKnown f bus → (c : ℕ) → c < lanes_of bus → slice_index f.query.times 3 ≡ field_8 (lane bus c).part.table 0x22
chip_time f bus known c below =
    ap (λ (ts : List ℕ). slice_index ts 3) known.found.says.stands.times
    ∙ (ap (λ (t : List ℕ). slice_index t 0x22) (sym (known.found.same c below)) ∙ shown_later (lane bus c) 0x22 (omega arith))

amd_offers : (set : Set) (times : List ℕ) → chip_erase_of set times ≡ true → set ≡ Amd
amd_offers Intel times offers = absurd (cc)
amd_offers Amd times offers = refl

-- ---- the needs of both calls

pub needs_block : (k : ℕ) (needs : CallNeeds) → needs ≡ needs_of (EraseOpen k) → HasNeeds needs (EraseOpen k)
needs_block k needs are = record { are = sym are; unpolled = λ is. cc; arms = λ after mask is. cc; powers = λ is. cc }

pub needs_all : (needs : CallNeeds) → needs ≡ needs_of EraseAll → HasNeeds needs EraseAll
needs_all needs are = record { are = sym are; unpolled = λ is. cc; arms = λ after mask is. cc; powers = λ is. cc }

-- ---- locks

-- the block is unlocked
unlocked_block : (a : ArrayState) (k : ℕ) → k < length a.consts.blocks → first_locked a (EraseOpen k) ≡ None → is_locked_in a k ≡ false
unlocked_block a k there none =
    sym (ap (λ (t : Bool). t && is_locked_in a k) (same_self k))
    ∙ none_passes (λ n. touches a (Block k) n && is_locked_in a n) 0 (length a.consts.blocks) k none (omega arith) (omega arith)

none_set : (locks : List Bool) → ((k : ℕ) → k < length locks → slice_index_or locks k false ≡ false) → is_any_set locks ≡ false
none_set [] none = refl
none_set (locked ∷ locks) none =
    let first : locked ≡ false = none 0 (omega arith) in
    let later = none_set locks (λ k below. none (suc k) (omega arith)) in
    cc

-- and so is every block
unlocked_all : (a : ArrayState) → length a.locks ≡ length a.consts.blocks → first_locked a EraseAll ≡ None → is_any_set a.locks ≡ false
unlocked_all a count none =
    none_set a.locks (λ k below.
    none_passes (λ n. touches a Everywhere n && is_locked_in a n) 0 (length a.consts.blocks) k none (omega arith) (omega (arith, count, below)))

-- ---- how many cycles

few_codes : (set : Set) → cycle_count set EraseBlock ≤ 6
few_codes Intel = omega arith
few_codes Amd = omega arith

few_block : (b : BankState) (k : ℕ) (set : Set) → change_most b (EraseOpen k) + cycle_count set EraseBlock ≤ call_most (EraseOpen k) b
few_block b k set =
    let way = if_most (is_open b.erase) 43 in
    let locks = if_most (locks_of b.found.query.extended) 6 in
    let codes = few_codes set in
    omega (arith, way, locks, codes)

few_all : (b : BankState) → change_most b EraseAll + cycle_count Amd EraseAllBlocks ≤ call_most EraseAll b
few_all b =
    let way = if_most (is_open b.erase) 43 in
    let locks = if_most (locks_of b.found.query.extended) (6 * length (blocks_of b.found)) in
    omega (arith, way, locks)

-- ---- the bank that begins

module _ (most caller : ℕ) (op : Op) (old mid : BankState) (begins : BeginsChange most caller op old mid) where
  pub begins_running : mid.halted ≡ None
  begins_running = ap (λ (b : BankState). b.halted) begins.begins.kept ∙ begins.begins.running

  pub begins_found : mid.found ≡ old.found
  begins_found = ap (λ (b : BankState). b.found) begins.begins.kept

  pub begins_closed : (needs_of op).opens ≡ true → mid.erase ≡ None
  begins_closed opens =
      subst (λ (e : Option Erasing). GoesOn 0 e mid.erase) (closed_before caller op old begins.begins.works opens) begins.begins.goes_on

module _ (b : BankState) (a : ArrayState) (stands : Stands b a) (running : b.halted ≡ None) (closed : b.erase ≡ None) where
  blocks_are : a.consts.blocks ≡ blocks_of b.found
  blocks_are = ap (λ (x : Constants). x.blocks) stands.consts

  quiet : AllLanes IsQuiet b.bus
  quiet = quiet_now b a (is_on_now b a stands running) closed

  takes : (c : ℕ) → c < lanes_of b.bus → TakesCommands b.found.query.set (lane b.bus c)
  takes c below = shown_takes b.found.query.set (lane b.bus c) (known_parts b.found b.bus stands.known c below).set (quiet c below).shown

  -- each chip would erase an unlocked block
  takes_block : (k u c : ℕ) → k < length (blocks_of b.found) → u ≡ (block (blocks_of b.found) k).from / word_bytes b.found → first_locked a (EraseOpen k) ≡ None
      → c < lanes_of b.bus → TakesErase b.found.query.set u (lane b.bus c) × (block_of (lane b.bus c) u ≡ k)
  takes_block k u c there at none below =
      let part = known_parts b.found b.bus stands.known c below in
      let begins = block_begins b.found b.bus stands.known k c there below in
      let is : block_of (lane b.bus c) u ≡ k = ap (λ (n : ℕ). block_of (lane b.bus c) n) at ∙ begins.is in
      let free = unlocked_block a k (subst (λ (bs : List _). k < length bs) (sym blocks_are) there) none in (
        record {
          takes = takes c below;
          blocks = part.some;
          unlocked = ap (λ (n : ℕ). is_locked (lane b.bus c) n) is ∙ (ap (λ (ls : List Bool). slice_index_or ls k false) (stands.locks c below) ∙ free);
          free = (quiet c below).held;
        },
        is,
      )

  -- and all of them, where that is offered
  takes_all : (c : ℕ) → chip_erase_of b.found.query.set b.found.query.times ≡ true → first_locked a EraseAll ≡ None → c < lanes_of b.bus → TakesEraseAll (lane b.bus c)
  takes_all c offers none below =
      let part = known_parts b.found b.bus stands.known c below in
      let amd = amd_offers b.found.query.set b.found.query.times offers in
      let count : length a.locks ≡ length a.consts.blocks = stands.lock_count ∙ sym (ap (λ (bs : List _). length bs) blocks_are) in
      record {
        takes = subst (λ (k : Set). TakesCommands k (lane b.bus c)) amd (takes c below);
        blocks = part.some;
        unlocked = ap (λ (ls : List Bool). is_any_set ls) (stands.locks c below) ∙ unlocked_all a count none;
        free = (quiet c below).held;
        offers = ap (λ (n : ℕ). not (n == 0)) (sym (chip_time b.found b.bus stands.known c below)) ∙ offers_amd b.found.query.set b.found.query.times offers;
      }

  -- ---- what a loss of power leaves

  module _ (bus : BusState) (kept : KeepsLanes b.bus bus) (loses : EachLane (λ s t. Loses 0 [] s t) b.bus bus) where
    still : (c p : ℕ) → c < lanes_of b.bus → slice_index (lane bus c).cells p ≡ slice_index (lane b.bus c).cells p
    still c p below =
        let is = quiet c below in
        (loses c below).above p (none_erasing (lane b.bus c) p is.shown.job is.held) (omega arith)

    stays : EachLane StaysKnown b.bus bus
    stays c below =
        let remains = (loses c below).keeps.remains in
        stays_locked (lane b.bus c) (lane bus c) remains.part remains.locks remains.size ((kept.each c below).bytes (bytes_known b.found b.bus stands.known c below))

    -- The chips hold the array.
    holds_lost : (cause : HaltCause) → HoldsAll (halting (with_bus b bus) cause) a
    holds_lost cause =
        let back = λ (c : ℕ) (below : c < lanes_of bus). subst (λ (n : ℕ). c < n) kept.count below in
        record {
          known = known_lasts b.found b.bus bus kept.count stays stands.known;
          consts = stands.consts ∙ sym (constants_last b.found b.bus bus a.consts.locked kept.count (λ c below. (stays c below).part));
          bytes = λ p below _ _.
              byte_now b a p stands closed below
              ∙ sym (same_bytes _ b.found.geometry.device b.bus bus p (known_own b.found b.bus stands.known).bank kept.count still);
          locks = λ c below. let mine = back c below in (loses c mine).keeps.remains.locks ∙ stands.locks c mine;
        }

-- ---- a call that opened it

module _ (most n caller : ℕ) (op : Op) (target : Target) (old mid last new : BankState) (begins : BeginsChange most caller op old mid)
    (opens : (needs_of op).opens ≡ true) (same : last ≡ with_bus mid last.bus) where
  found_last : last.found ≡ mid.found
  found_last = ap (λ (b : BankState). b.found) same

  module _ (begun : Opens target caller last new) where
    bus_is : new.bus ≡ last.bus
    bus_is = ap (λ (b : BankState). b.bus) begun.kept

    kept_new : new ≡ record mid { bus = new.bus; erase = Some begun.erase }
    kept_new =
        begun.kept
        ∙ (ap (λ (b : BankState). record b { erase = Some begun.erase }) same
        ∙ ap (λ (x : BusState). record mid { bus = x; erase = Some begun.erase }) (sym bus_is))

    -- Its chips have begun, and the array has it under erase.
    opened_by : IsNew caller op (Some begun.erase)
        → ((a : ArrayState) → after_opened op caller a ≡ record a { under = Some (record { target = target; caller = caller }) })
        → IsThere target (blocks_of mid.found) → Went n n mid.bus last.bus → most + n ≤ call_most op old
        → ((a : ArrayState) → Stands mid a → first_locked a op ≡ None → EachLane (IsErasing mid.found.query.set (chip_target target)) mid.bus last.bus)
        → IsCallOf caller op old new Opened []
    opened_by is array there went few starts =
        let went_new = subst (λ (x : BusState). Went n n mid.bus x) (sym bus_is) went in
        opened_call most n caller op old mid new begun.erase begins opens kept_new is went_new few (λ a stands mine ready.
        let e = begun.erase in
        let each = subst (λ (x : BusState). EachLane (IsErasing mid.found.query.set (chip_target target)) mid.bus x) (sym bus_is) (starts a mine (begins.unlocked a stands)) in
        let facts : Begins n n mid new e = record {
          kept = kept_new;
          went = went_new;
          there = subst (λ (t : Target). IsThere t (blocks_of mid.found)) (sym begun.target_is) there;
          fresh = begun.unpolled;
          run = λ c below. begun.run c (subst (λ (f : Found). c < f.geometry.lanes) (sym found_last) below);
          begun = subst (λ (t : Target). EachLane (IsErasing mid.found.query.set (chip_target t)) mid.bus new.bus) (sym begun.target_is) each;
        } in
        let running = begins_running most caller op old mid begins in
        let closed = begins_closed most caller op old mid begins opens in
        let under : record a { under = Some (record { target = e.target; caller = e.caller }) } ≡ after_opened op caller a =
        ap (λ (t : Target). record a { under = Some (record { target = t; caller = e.caller }) }) begun.target_is
        ∙ (ap (λ (k : ℕ). record a { under = Some (record { target = target; caller = k }) }) begun.caller_is ∙ sym (array a)) in
        record {
          erases = counts_opened n n mid new e a facts mine running closed;
          left = left_opened n n mid new e a facts mine running closed caller op is;
          stands = subst (λ (x : ArrayState). Stands new x) under (stands_opened n n mid new e a facts mine running closed);
        })

  -- ---- and one that lost power

  lost_by : spared_by op ≡ (λ p. false) → ((b : BankState) (locks : List Bool) → locks_by op b locks ≡ locks) → left_of op new ≡ []
      → ((cause : HaltCause) (a : ArrayState) → WorkLeaves op cause a []) → (needs_of op).unlocked ≡ true → polls op ≡ false → new ≡ halting last (Off last.after)
      → Lost n mid.bus last.bus → most + n ≤ call_most op old
      → ((a : ArrayState) → Stands mid a → first_locked a op ≡ None → EachLane (λ s t. Loses 0 [] s t) mid.bus last.bus)
      → IsCallOf caller op old new (Halted (Off last.after)) []
  lost_by spares locks nothing leaves unlocked unpolled halts lost few loses =
      lost_call true most n caller op old mid last new [] begins.begins unlocked unpolled same halts lost few (λ a stands mine ready.
      let each = loses a mine (begins.unlocked a stands) in
      let running = begins_running most caller op old mid begins in
      let closed = begins_closed most caller op old mid begins opens in
      let here : new ≡ halting (with_bus mid last.bus) (Off last.after) = halts ∙ ap (λ (b : BankState). halting b (Off last.after)) same in
      let bus : new.bus ≡ last.bus = ap (λ (b : BankState). b.bus) halts in
      let holds = subst (λ (b : BankState). HoldsAll b a) (sym here) (holds_lost mid a mine running closed last.bus lost.kept each (Off last.after)) in
      record {
        holds = subst (λ (spared : ℕ → Bool). Holds spared (locks_by op new a.locks) new a) (sym spares) (subst (λ (ls : List Bool). Holds (λ p. false) ls new a) (sym (locks new a.locks)) holds);
        leaves = subst (λ (left : List ℕ). WorkLeaves op (Off last.after) a left) (sym nothing) (leaves (Off last.after) a);
        erases = λ c below. ap (λ (x : BusState). (lane x c).erases) bus ∙ (each c below).keeps.remains.erases;
        suspends = λ c below. ap (λ (x : BusState). (lane x c).suspends) bus ∙ (each c below).keeps.suspends;
      })

-- ---- of a block

pub there_begun : (most caller k : ℕ) (old mid : BankState) → BeginsChange most caller (EraseOpen k) old mid → k < length (blocks_of mid.found)
there_begun most caller k old mid begins =
    subst (λ (f : Found). k < length (blocks_of f)) (sym (begins_found most caller (EraseOpen k) old mid begins)) (erased_there caller k old begins.begins.works)

module _ (width caller k u : ℕ) (old mid last new : BankState) (begins : BeginsChange (change_most old (EraseOpen k)) caller (EraseOpen k) old mid)
    (same : last ≡ with_bus mid last.bus) (wide : word_bytes mid.found ≡ width) (at : u ≡ (block (blocks_of mid.found) k).from / width) where
  block_there : k < length (blocks_of mid.found)
  block_there = there_begun (change_most old (EraseOpen k)) caller k old mid begins

  unit_is : u ≡ (block (blocks_of mid.found) k).from / word_bytes mid.found
  unit_is = at ∙ ap (λ (w : ℕ). (block (blocks_of mid.found) k).from / w) (sym wide)

  reaches_block : (a : ArrayState) → Stands mid a → Reaches width mid.found.geometry u mid.bus
  reaches_block a stands =
      subst (λ (w : ℕ). Reaches w mid.found.geometry u mid.bus) wide
      (subst (λ (n : ℕ). Reaches (word_bytes mid.found) mid.found.geometry n mid.bus) (sym unit_is) (block_reached mid.found mid.bus stands.known k block_there))

  takes_each : (a : ArrayState) → Stands mid a → first_locked a (EraseOpen k) ≡ None → (c : ℕ) → c < lanes_of mid.bus
      → TakesErase mid.found.query.set u (lane mid.bus c) × (block_of (lane mid.bus c) u ≡ k)
  takes_each a stands none c below =
      takes_block mid a stands (begins_running (change_most old (EraseOpen k)) caller (EraseOpen k) old mid begins)
      (begins_closed (change_most old (EraseOpen k)) caller (EraseOpen k) old mid begins refl) k u c block_there unit_is none below

  pub opened_block : (set : Set) → set ≡ mid.found.query.set → (Reaches width mid.found.geometry u mid.bus → EachLane (BeginsErase set u) mid.bus last.bus)
      → Went (cycle_count set EraseBlock) (cycle_count set EraseBlock) mid.bus last.bus → Opens (OneOfBank k) caller last new
      → IsCallOf caller (EraseOpen k) old new Opened []
  opened_block set is starts went begun =
      opened_by (change_most old (EraseOpen k)) (cycle_count set EraseBlock) caller (EraseOpen k) (OneOfBank k) old mid last new begins refl same begun
      (begun.target_is, begun.caller_is, begun.unpolled) (λ a. refl) block_there went (few_block old k set) (λ a stands none c below.
      let takes = takes_each a stands none c below in
      let begins_so = starts (reaches_block a stands) c below (subst (λ (x : Set). TakesErase x u (lane mid.bus c)) (sym is) takes.0) in
      subst (λ (x : Set). IsErasing x (OneBlock k) (lane mid.bus c) (lane last.bus c)) is
      (subst (λ (j : ℕ). IsErasing set (OneBlock j) (lane mid.bus c) (lane last.bus c)) takes.1 begins_so))

  pub lost_block : (set : Set) → set ≡ mid.found.query.set → (Reaches width mid.found.geometry u mid.bus → EachLane (BeginsNone (TakesErase set u)) mid.bus last.bus)
      → Lost (cycle_count set EraseBlock) mid.bus last.bus → new ≡ halting last (Off last.after) → IsCallOf caller (EraseOpen k) old new (Halted (Off last.after)) []
  lost_block set is loses lost halts =
      lost_by (change_most old (EraseOpen k)) (cycle_count set EraseBlock) caller (EraseOpen k) (OneOfBank k) old mid last new begins refl same
      refl (λ b locks. refl) refl (λ cause a. refl) refl refl halts lost (few_block old k set) (λ a stands none c below.
      let takes = takes_each a stands none c below in
      (loses (reaches_block a stands) c below (subst (λ (x : Set). TakesErase x u (lane mid.bus c)) (sym is) takes.0)).0)

-- ---- of all blocks at once

module _ (width caller : ℕ) (old mid last new : BankState) (begins : BeginsChange (change_most old EraseAll) caller EraseAll old mid)
    (same : last ≡ with_bus mid last.bus) (wide : word_bytes mid.found ≡ width) where
  offers_here : chip_erase_of mid.found.query.set mid.found.query.times ≡ true
  offers_here =
      subst (λ (f : Found). chip_erase_of f.query.set f.query.times ≡ true) (sym (begins_found (change_most old EraseAll) caller EraseAll old mid begins))
      (offers_all caller old begins.begins.works)

  amd_is : mid.found.query.set ≡ Amd
  amd_is = amd_offers mid.found.query.set mid.found.query.times offers_here

  reaches_all : (a : ArrayState) → Stands mid a → Reaches width mid.found.geometry 0 mid.bus
  reaches_all a stands =
      let units = (bus_units (word_bytes mid.found) mid.bus (record {
        device = mid.found.geometry.device;
        bank = stands.known.wired.own.bank;
        size = (stands.known.wired.chips 0 (known_some mid.found mid.bus stands.known)).chip.size;
      })).0 in
      subst (λ (w : ℕ). Reaches w mid.found.geometry 0 mid.bus) wide (record { own = known_own mid.found mid.bus stands.known; there = omega (arith, units) })

  takes_chip : (a : ArrayState) → Stands mid a → first_locked a EraseAll ≡ None → (c : ℕ) → c < lanes_of mid.bus → TakesEraseAll (lane mid.bus c)
  takes_chip a stands none c below =
      takes_all mid a stands (begins_running (change_most old EraseAll) caller EraseAll old mid begins)
      (begins_closed (change_most old EraseAll) caller EraseAll old mid begins refl) c offers_here none below

  pub opened_all : (Reaches width mid.found.geometry 0 mid.bus → EachLane BeginsEraseAll mid.bus last.bus)
      → Went (cycle_count Amd EraseAllBlocks) (cycle_count Amd EraseAllBlocks) mid.bus last.bus → Opens AllOfBank caller last new
      → IsCallOf caller EraseAll old new Opened []
  opened_all starts went begun =
      opened_by (change_most old EraseAll) (cycle_count Amd EraseAllBlocks) caller EraseAll AllOfBank old mid last new begins refl same begun
      (begun.target_is, begun.caller_is, begun.unpolled) (λ a. refl) tt went (few_all old) (λ a stands none c below.
      subst (λ (x : Set). IsErasing x AllBlocks (lane mid.bus c) (lane last.bus c)) (sym amd_is) (starts (reaches_all a stands) c below (takes_chip a stands none c below)))

  pub lost_all : (Reaches width mid.found.geometry 0 mid.bus → EachLane (BeginsNone TakesEraseAll) mid.bus last.bus)
      → Lost (cycle_count Amd EraseAllBlocks) mid.bus last.bus → new ≡ halting last (Off last.after) → IsCallOf caller EraseAll old new (Halted (Off last.after)) []
  lost_all loses lost halts =
      lost_by (change_most old EraseAll) (cycle_count Amd EraseAllBlocks) caller EraseAll AllOfBank old mid last new begins refl same
      refl (λ b locks. refl) refl (λ cause a. refl) refl refl halts lost (few_all old) (λ a stands none c below.
      (loses (reaches_all a stands) c below (takes_chip a stands none c below)).0)
