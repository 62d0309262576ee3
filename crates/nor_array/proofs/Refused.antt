-- What a refusal may be.
use Rattle.std.proofs.Common.{◌≡◌, ℕ, List, [], ◌∷◌, subst, Bool, true, false, Option, Some, None}
use Rattle.std.specs.Prelude.{not, ◌&&◌, if◌then◌else◌}
use Rattle.std.proofs.lemmas.Option.{none-some, same_Some}
use Rattle.nor_array.specs.Array.{ArrayState}
use Rattle.nor_array.specs.Refusals.{refusal, first_some, when, kept_halt, while_open, first_busy, first_open, busy_or_occupied, is_outside, is_too_long, is_power_on, has_nothing, armed_after}
use Rattle.nor_array.specs.Needs.{needs_of}
use Rattle.nor_array.specs.declared.needs.CallNeeds.{CallNeeds}
use Rattle.nor_array.specs.declared.state.OpenErase.{OpenErase}
use Rattle.nor_array.specs.declared.state.ArmedCut.{ArmedCut}
use Rattle.nor_array.specs.declared.state.Power.{Power}
use Rattle.nor_array.specs.declared.state.Power.TheVariants.{On, Off, Stuck}
use Rattle.nor_array.specs.declared.entry.Op.{Op}
use Rattle.nor_array.specs.declared.entry.Reply.{Reply}
use Rattle.nor_array.specs.declared.entry.Reply.TheVariants.{OutOfRange, TooLong, Nothing, NoLocks, NoChipErase, Busy, Occupied, Halted as HaltedReply}
use Rattle.nor_array.specs.declared.entry.Halted.{Halted}
use Rattle.nor_array.specs.declared.entry.Halted.TheVariants.{Off as OffHalt, Stuck as StuckHalt}

-- what holds of each refusal, whichever it is
pub record HoldsOfEach (P : Reply → Type 0) (power : Power) : Type 0 where
  pub out_of_range : P OutOfRange
  pub too_long : P TooLong
  pub halted : (cause : Halted) → (power ≡ On → ⊥) → P (HaltedReply cause)
  pub nothing : P Nothing
  pub busy : (b : ℕ) → P (Busy b)
  pub occupied : (b : ℕ) → P (Occupied b)
  pub no_locks : P NoLocks
  pub no_chip_erase : P NoChipErase

module _ (P : Reply → Type 0) where
  -- it holds of the first of some, if it holds of each
  first_is : (one : Option Reply) (later : List (Option Reply)) → ((reply : Reply) → one ≡ Some reply → P reply)
      → ((reply : Reply) → first_some later ≡ Some reply → P reply) → (reply : Reply) → first_some (one ∷ later) ≡ Some reply → P reply
  first_is None later here rest reply is = rest reply is
  first_is (Some one) later here rest reply is = here reply is

  none_is : (reply : Reply) → first_some [] ≡ Some reply → P reply
  none_is reply is = absurd (none-some reply is)

  when_is : (holds : Bool) (one : Reply) → P one → (reply : Reply) → when holds one ≡ Some reply → P reply
  when_is true one here reply is = subst P (same_Some one reply is) here
  when_is false one here reply is = absurd (none-some reply is)

  off_is : (leads_back : Bool) (cause : Halted) → P (HaltedReply cause) → (reply : Reply)
      → (if leads_back then None else Some (HaltedReply cause)) ≡ Some reply → P reply
  off_is true cause here reply is = absurd (none-some reply is)
  off_is false cause here reply is = subst P (same_Some (HaltedReply cause) reply is) here

  kept_is : (power : Power) (armed : Option ArmedCut) (op : Op) → HoldsOfEach P power → (reply : Reply) → kept_halt power armed op ≡ Some reply → P reply
  kept_is On armed op each reply is = absurd (none-some reply is)
  kept_is Off armed op each reply is = off_is (is_power_on op) (OffHalt (armed_after armed)) (each.halted (OffHalt (armed_after armed)) (λ on. cc)) reply is
  kept_is (Stuck lane) armed op each reply is = subst P (same_Some (HaltedReply (StuckHalt lane)) reply is) (each.halted (StuckHalt lane) (λ on. cc))

  busy_is : (busy : Option ℕ) (open_erase : OpenErase) (opens : Bool) (power : Power) → HoldsOfEach P power → (reply : Reply)
      → busy_or_occupied busy open_erase opens ≡ Some reply → P reply
  busy_is (Some b) open_erase opens power each reply is = subst P (same_Some (Busy b) reply is) (each.busy b)
  busy_is None open_erase opens power each reply is =
      when_is opens (Occupied (first_open open_erase.target)) (each.occupied (first_open open_erase.target)) reply is

  open_is : (under : Option OpenErase) (a : ArrayState) (needs : CallNeeds) → HoldsOfEach P a.power → (reply : Reply) → while_open under a needs ≡ Some reply → P reply
  open_is None a needs each reply is = absurd (none-some reply is)
  open_is (Some open_erase) a needs each reply is = busy_is (first_busy open_erase a needs) open_erase needs.opens a.power each reply is

  pub refusal_is : (a : ArrayState) (caller : ℕ) (op : Op) → HoldsOfEach P a.power → (reply : Reply) → refusal a caller op ≡ Some reply → P reply
  refusal_is a caller op each =
      let needs = needs_of op in
      let no_chip_erase = when (needs.chip_erase && not a.consts.has_chip_erase) NoChipErase ∷ [] in
      let no_locks = when (needs.locks && not a.consts.has_locks) NoLocks ∷ no_chip_erase in
      let while_open_on = while_open a.under a needs ∷ no_locks in
      let nothing_on = when (has_nothing a caller op) Nothing ∷ while_open_on in
      let halt_on = kept_halt a.power a.armed op ∷ nothing_on in
      let long_on = when (is_too_long needs.reach) TooLong ∷ halt_on in
      first_is (when (is_outside a needs.reach) OutOfRange) long_on (when_is (is_outside a needs.reach) OutOfRange each.out_of_range)
      (first_is (when (is_too_long needs.reach) TooLong) halt_on (when_is (is_too_long needs.reach) TooLong each.too_long)
      (first_is (kept_halt a.power a.armed op) nothing_on (kept_is a.power a.armed op each)
      (first_is (when (has_nothing a caller op) Nothing) while_open_on (when_is (has_nothing a caller op) Nothing each.nothing)
      (first_is (while_open a.under a needs) no_locks (open_is a.under a needs each)
      (first_is (when (needs.locks && not a.consts.has_locks) NoLocks) no_chip_erase (when_is (needs.locks && not a.consts.has_locks) NoLocks each.no_locks)
      (first_is (when (needs.chip_erase && not a.consts.has_chip_erase) NoChipErase) [] (when_is (needs.chip_erase && not a.consts.has_chip_erase) NoChipErase each.no_chip_erase) none_is))))))
