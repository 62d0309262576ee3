-- What a bank keeps is all that refusals look at.
use Rattle.std.proofs.Common.{◌≡◌, ◌+◌, ℕ, zero, suc, List, [], ◌∷◌, length, refl, sym, ◌∙◌, ap, Bool, Option, Some, None}
use Rattle.std.specs.Prelude.{◌&&◌, not, nat_lt, nat_le, if◌then◌else◌}
use Rattle.std.proofs.lemmas.List.{length-replicate}
use Rattle.nor_cell.specs.Chip.{block}
use Rattle.nor_cell.specs.declared.device.Span.{Span}
use Rattle.nor_array.specs.Array.{ArrayState, Constants, meets, is_on, lowest}
use Rattle.nor_array.specs.Admits.{IsArmed}
use Rattle.nor_array.specs.Needs.{needs_of}
use Rattle.nor_array.specs.Refusals.{refusal, first_some, when, kept_halt, while_open, busy_or_occupied, touched_open, touches, is_outside, is_too_long, is_power_on, has_nothing, owns, armed_after}
use Rattle.nor_array.specs.declared.needs.CallNeeds.{CallNeeds}
use Rattle.nor_array.specs.declared.needs.Reach.{Reach}
use Rattle.nor_array.specs.declared.needs.Reach.TheVariants.{Nowhere, Range, Block, Everywhere}
use Rattle.nor_array.specs.declared.entry.Halted.{Halted as HaltCause}
use Rattle.nor_array.specs.declared.entry.Halted.TheVariants.{Off, Stuck}
use Rattle.nor_array.specs.declared.entry.Op.{Op}
use Rattle.nor_array.specs.declared.entry.Op.TheVariants.{Read, Program, EraseOpen, EraseAll, Poll, Lock, Unlock, IsLocked, Arm, PowerOn}
use Rattle.nor_array.specs.declared.entry.Reply.{Reply}
use Rattle.nor_array.specs.declared.entry.Reply.TheVariants.{OutOfRange, TooLong, Nothing, NoLocks, NoChipErase, Halted}
use Rattle.nor_array.specs.declared.state.ArmedCut.{ArmedCut}
use Rattle.nor_array.specs.declared.state.OpenErase.{OpenErase}
use Rattle.nor_array.specs.declared.state.Power.{Power}
use Rattle.nor_array.specs.declared.state.Target.{Target}
use Rattle.nor_array.specs.declared.state.Target.TheVariants.{OneBlock, AllBlocks}
use Rattle.nor_bank.specs.Refused.{outline, bank_refusal, kept_cut}
use Rattle.nor_bank.specs.Stands.{Stands, PowerIs, kept_power}
use Rattle.nor_bank.specs.State.{BankState, size_of}

-- ---- what is touched goes by the blocks alone

pub lowest_same : (test other : ℕ → Bool) (k n : ℕ) → ((b : ℕ) → test b ≡ other b) → lowest test k n ≡ lowest other k n
lowest_same test other k zero same = refl
lowest_same test other k (suc n) same =
    ap (λ (b : Bool). if b then Some k else lowest test (k + 1) n) (same k)
    ∙ ap (λ (later : Option ℕ). if other k then Some k else later) (lowest_same test other (k + 1) n same)

pub same_touches : (a o : ArrayState) → a.consts.blocks ≡ o.consts.blocks → (reach : Reach) (k : ℕ) → touches a reach k ≡ touches o reach k
same_touches a o same Nowhere k = refl
same_touches a o same (Range at len) k = ap (λ (blocks : List Span). meets at len (block blocks k)) same
same_touches a o same (Block c) k = refl
same_touches a o same Everywhere k = refl

same_open : (a o : ArrayState) → a.consts.blocks ≡ o.consts.blocks → (target : Target) (reach : Reach) → touched_open target a reach ≡ touched_open target o reach
same_open a o same (OneBlock k) reach = ap (λ (b : Bool). if b then Some k else None) (same_touches a o same reach k)
same_open a o same AllBlocks reach =
    ap (λ (blocks : List Span). lowest (touches a reach) 0 (length blocks)) same
    ∙ lowest_same (touches a reach) (touches o reach) 0 (length o.consts.blocks) (same_touches a o same reach)

same_while : (a o : ArrayState) → a.consts.blocks ≡ o.consts.blocks → (under : Option OpenErase) (needs : CallNeeds) → while_open under a needs ≡ while_open under o needs
same_while a o same None needs = refl
same_while a o same (Some e) needs =
    ap (λ (open_block : Option ℕ). busy_or_occupied (if needs.chip_erase then None else open_block) e needs.opens) (same_open a o same e.target needs.reach)

-- ---- each refusal

pub outline_size : (b : BankState) → length (outline b).bytes ≡ size_of b.found
outline_size b = length-replicate (size_of b.found) 0

same_outside : (b : BankState) (a : ArrayState) → Stands b a → (reach : Reach) → is_outside a reach ≡ is_outside (outline b) reach
same_outside b a stands Nowhere = refl
same_outside b a stands (Range at len) = ap (λ (n : ℕ). nat_lt n (at + len)) (stands.size ∙ sym (outline_size b))
same_outside b a stands (Block k) = ap (λ (consts : Constants). nat_le (length consts.blocks) k) stands.consts
same_outside b a stands Everywhere = refl

pub armed_is : (armed : Option ArmedCut) (n : ℕ) → IsArmed armed n → armed_after armed ≡ n
armed_is None n is = absurd is
armed_is (Some cut) n is = is

same_kept : (halted : Option HaltCause) (b : BankState) (a : ArrayState) (op : Op) → PowerIs halted b a
    → kept_halt (kept_power halted) a.armed op ≡ kept_halt (kept_power halted) (kept_cut halted) op
same_kept None b a op now = refl
same_kept (Some (Off n)) b a op now = ap (λ (m : ℕ). if is_power_on op then None else Some (Halted (Off m))) (armed_is a.armed n now.1)
same_kept (Some (Stuck k)) b a op now = refl

same_nothing : (a o : ArrayState) (caller : ℕ) → a.under ≡ o.under → a.power ≡ o.power → (op : Op) → has_nothing a caller op ≡ has_nothing o caller op
same_nothing a o caller under power Poll = ap (λ (u : Option OpenErase). not (owns u caller)) under
same_nothing a o caller under power PowerOn = ap is_on power
same_nothing a o caller under power (Read at len) = refl
same_nothing a o caller under power (Program at new) = refl
same_nothing a o caller under power (EraseOpen k) = refl
same_nothing a o caller under power EraseAll = refl
same_nothing a o caller under power (Lock k) = refl
same_nothing a o caller under power (Unlock k) = refl
same_nothing a o caller under power (IsLocked k) = refl
same_nothing a o caller under power (Arm after mask) = refl

-- ---- all of them

-- A bank refuses each call as the array does that it stands for.
pub refuses_as_array : (b : BankState) (a : ArrayState) (caller : ℕ) (op : Op) → Stands b a → refusal a caller op ≡ bank_refusal b caller op
refuses_as_array b a caller op stands =
    let o = outline b in
    let needs = needs_of op in
    let long = is_too_long needs.reach in
    let blocks : a.consts.blocks ≡ o.consts.blocks = ap (λ (c : Constants). c.blocks) stands.consts in
    let kept : kept_halt a.power a.armed op ≡ kept_halt o.power o.armed op =
    ap (λ (p : Power). kept_halt p a.armed op) stands.power ∙ same_kept b.halted b a op stands.now in
    let under : while_open a.under a needs ≡ while_open o.under o needs =
    ap (λ (u : Option OpenErase). while_open u a needs) stands.under ∙ same_while a o blocks o.under needs in
    let locks : a.consts.has_locks ≡ o.consts.has_locks = ap (λ (c : Constants). c.has_locks) stands.consts in
    let chips : a.consts.has_chip_erase ≡ o.consts.has_chip_erase = ap (λ (c : Constants). c.has_chip_erase) stands.consts in
    let all : (outside : Bool) (halt : Option Reply) (nothing : Bool) (busy : Option Reply) (offers erases : Bool) → Option Reply = λ outside halt nothing busy offers erases.
    first_some (when outside OutOfRange ∷ when long TooLong ∷ halt ∷ when nothing Nothing ∷ busy
    ∷ when (needs.locks && not offers) NoLocks ∷ when (needs.chip_erase && not erases) NoChipErase ∷ []) in
    ap (λ (x : Bool). all x (kept_halt a.power a.armed op) (has_nothing a caller op) (while_open a.under a needs) a.consts.has_locks a.consts.has_chip_erase) (same_outside b a stands needs.reach)
    ∙ (ap (λ (x : Option Reply). all (is_outside o needs.reach) x (has_nothing a caller op) (while_open a.under a needs) a.consts.has_locks a.consts.has_chip_erase) kept
    ∙ (ap (λ (x : Bool). all (is_outside o needs.reach) (kept_halt o.power o.armed op) x (while_open a.under a needs) a.consts.has_locks a.consts.has_chip_erase) (same_nothing a o caller stands.under stands.power op)
    ∙ (ap (λ (x : Option Reply). all (is_outside o needs.reach) (kept_halt o.power o.armed op) (has_nothing o caller op) x a.consts.has_locks a.consts.has_chip_erase) under
    ∙ (ap (λ (x : Bool). all (is_outside o needs.reach) (kept_halt o.power o.armed op) (has_nothing o caller op) (while_open o.under o needs) x a.consts.has_chip_erase) locks
    ∙ ap (λ (x : Bool). all (is_outside o needs.reach) (kept_halt o.power o.armed op) (has_nothing o caller op) (while_open o.under o needs) o.consts.has_locks x) chips))))
