-- The calls that a bank makes of its own: a cut is armed, and power comes back.
use Rattle.std.proofs.Common.{◌≡◌, ◌≤◌, ℕ, [], ◌∷◌, refl, sym, ◌∙◌, ap, subst, arith, false, Option, Some, None}
use Rattle.std.specs.Option.{option_or, option_map}
use Rattle.nor_bus.specs.Bus.{BusState}
use Rattle.nor_bus.specs.Cycles.{PowersOn, KeepsLanes}
use Rattle.nor_array.specs.Array.{ArrayState, is_on}
use Rattle.nor_array.specs.Admits.{Answers}
use Rattle.nor_array.specs.Needs.{needs_of}
use Rattle.nor_array.specs.Refusals.{refusal, first_some, when, kept_halt, while_open, busy_or_occupied}
use Rattle.nor_array.specs.declared.entry.Halted.{Halted as HaltCause}
use Rattle.nor_array.specs.declared.entry.Halted.TheVariants.{Off, Stuck}
use Rattle.nor_array.specs.declared.entry.Op.TheVariants.{Arm, PowerOn}
use Rattle.nor_array.specs.declared.entry.Reply.{Reply}
use Rattle.nor_array.specs.declared.entry.Reply.TheVariants.{Done, Nothing, Halted}
use Rattle.nor_array.specs.declared.state.OpenErase.{OpenErase}
use Rattle.nor_bank.specs.Calls.{MakesEntry, entry_of}
use Rattle.nor_bank.specs.Refused.{outline, bank_refusal, kept_cut, Refuses}
use Rattle.nor_bank.specs.Stands.{Stands, IsOn, EraseIs, PowerIs, kept_power, under_of}
use Rattle.nor_bank.specs.State.{BankState}
use Rattle.nor_bank.specs.Whole.{Arms, PowersBank, armed_with}
use Rattle.nor_bank.specs.Work.{with_bus, Stays, KeepsBank}
use Rattle.nor_bank.specs.declared.kept.Erasing.{Erasing}
use Rattle.nor_probe.specs.declared.probing.Found.{Found}
use Rattle.nor_bank.proofs.Meeting.{open_nowhere}
use Rattle.nor_bank.proofs.Outlines.{refuses_as_array}
use Rattle.nor_bank.proofs.Powering.{stands_powered}
use Rattle.nor_bank.proofs.RefusalOrder.{refuses_in_turn}
use Rattle.nor_bank.proofs.RefusedCalls.{refuses_kept, keeps_chips}
use Rattle.nor_bank.proofs.Refusing.{refused_entry, refused_by, kept_stuck}
use Rattle.nor_bank.proofs.Standing.{is_on_now, bytes_known, known_last, lasts_same, stays_standing}

-- ---- what refuses them

or_none : (r : Option Reply) → option_or r None ≡ r
or_none None = refl
or_none (Some r) = refl

arm_beside : (under : Option OpenErase) (o : ArrayState) (after mask : ℕ) → while_open under o (needs_of (Arm after mask)) ≡ None
arm_beside None o after mask = refl
arm_beside (Some e) o after mask = ap (λ (k : Option ℕ). busy_or_occupied k e false) (open_nowhere e.target o)

pub arm_refusal : (b : BankState) (after mask : ℕ) → bank_refusal b 0 (Arm after mask) ≡ option_map Halted b.halted
arm_refusal b after mask =
    refuses_in_turn b 0 (Arm after mask) (needs_of (Arm after mask)) refl refl refl
    ∙ (ap (λ (r : Option Reply). option_or (option_map Halted b.halted) (option_or r None)) (arm_beside (under_of b.erase) (outline b) after mask)
    ∙ or_none (option_map Halted b.halted))

-- power-on leads back from a loss of power alone
abbrev pub power_answer : Option HaltCause → Option Reply
power_answer None = Some Nothing
power_answer (Some (Off n)) = None
power_answer (Some (Stuck k)) = Some (Halted (Stuck k))

power_beside : (under : Option OpenErase) (o : ArrayState) → while_open under o (needs_of PowerOn) ≡ None
power_beside None o = refl
power_beside (Some e) o = ap (λ (k : Option ℕ). busy_or_occupied k e false) (open_nowhere e.target o)

power_turn : (h : Option HaltCause) (busy : Option Reply) → busy ≡ None
    → first_some (kept_halt (kept_power h) (kept_cut h) PowerOn ∷ when (is_on (kept_power h)) Nothing ∷ busy ∷ None ∷ None ∷ []) ≡ power_answer h
power_turn None busy none = refl
power_turn (Some (Off n)) busy none = ap (λ (r : Option Reply). first_some (r ∷ None ∷ None ∷ [])) none
power_turn (Some (Stuck k)) busy none = refl

pub power_refusal : (b : BankState) → bank_refusal b 0 PowerOn ≡ power_answer b.halted
power_refusal b = power_turn b.halted (while_open (under_of b.erase) (outline b) (needs_of PowerOn)) (power_beside (under_of b.erase) (outline b))

-- ---- a cut is armed

erase_armed : (e : Option Erasing) (f : Found) (bus new : BusState) → new ≡ record bus { armed = new.armed } → EraseIs e f bus → EraseIs e f new
erase_armed None f bus new same is = subst (λ (x : BusState). EraseIs None f x) (sym same) is
erase_armed (Some e) f bus new same u =
    subst (λ (x : BusState). EraseIs (Some e) f x) (sym same)
    (record { there = u.there; each = u.each; not_mixed = u.not_mixed; enough = u.enough; named = u.named; shown = u.shown })

stands_armed : (b : BankState) (a : ArrayState) (n m : ℕ) → Stands b a → b.halted ≡ None
    → Stands (armed_with n m b) (record a { armed = Some (record { after = n; mask = m }) })
stands_armed b a n m stands running =
    let c = armed_with n m b in
    let on = is_on_now b a stands running in
    let here : n ≤ n = omega arith in
    let now : IsOn c (record a { armed = Some (record { after = n; mask = m }) }) = record {
      power = on.power;
      waits = on.waits;
      cut = (refl, refl, here);
      erase = erase_armed b.erase b.found b.bus c.bus refl on.erase;
    } in
    record {
      known = known_last b.found b.bus c.bus refl (lasts_same b.bus c.bus refl (bytes_known b.found b.bus stands.known)) stands.known;
      consts = stands.consts;
      opened = stands.opened;
      size = stands.size;
      bytes = stands.bytes;
      locks = stands.locks;
      lock_count = stands.lock_count;
      power = stands.power;
      under = stands.under;
      now = subst (λ (h : Option HaltCause). PowerIs h c (record a { armed = Some (record { after = n; mask = m }) })) (sym running) now;
    }

pub arm_makes : (b : BankState) (a : ArrayState) (n m : ℕ) → b.halted ≡ None → Stands b a
    → MakesEntry b (armed_with n m b) (entry_of b (armed_with n m b) 0 (Arm n m) Done []) a
arm_makes b a n m running stands =
    let e = entry_of b (armed_with n m b) 0 (Arm n m) Done [] in
    let none : refusal a 0 (Arm n m) ≡ None = refuses_as_array b a 0 (Arm n m) stands ∙ (arm_refusal b n m ∙ ap (λ (h : Option HaltCause). option_map Halted h) running) in
    record {
      admitted = (refl, subst (λ (d : Option Reply). Answers d e a) (sym none) (refl, refl));
      agrees = tt;
      stands = stands_armed b a n m stands running;
    }

-- where a halt is kept it is answered again
pub arm_kept : (b new : BankState) (a : ArrayState) (n m : ℕ) (cause : HaltCause) → b.halted ≡ Some cause → new ≡ with_bus b new.bus → Stays b.halted b.bus new.bus
    → Stands b a → MakesEntry b new (entry_of b new 0 (Arm n m) (Halted cause) []) a
arm_kept b new a n m cause halted same stays stands =
    refused_entry b new a 0 (Arm n m) (Halted cause) [] refl
    (refuses_as_array b a 0 (Arm n m) stands ∙ (arm_refusal b n m ∙ ap (λ (h : Option HaltCause). option_map Halted h) halted))
    (refused_by (Some cause) b new a (Arm n m) (Halted cause) [] halted (stands.power ∙ ap kept_power halted)
    (λ k is. kept_stuck b.halted b a stands.now k (halted ∙ is)) refl)
    (subst (λ (x : BankState). Stands x a) (sym same) (stays_standing b new.bus a stays stands))

-- ---- power comes back

pub power_nothing : (b : BankState) (a : ArrayState) → b.halted ≡ None → Stands b a → MakesEntry b b (entry_of b b 0 PowerOn Nothing []) a
power_nothing b a running stands =
    let e = entry_of b b 0 PowerOn Nothing [] in
    let is : refusal a 0 PowerOn ≡ Some Nothing = refuses_as_array b a 0 PowerOn stands ∙ (power_refusal b ∙ ap power_answer running) in
    record { admitted = (refl, subst (λ (d : Option Reply). Answers d e a) (sym is) (refl, refl)); agrees = tt; stands = stands }

pub power_stuck : (b : BankState) (a : ArrayState) (k : ℕ) → b.halted ≡ Some (Stuck k) → Stands b a
    → MakesEntry b b (entry_of b b 0 PowerOn (Halted (Stuck k)) []) a
power_stuck b a k halted stands =
    refused_entry b b a 0 PowerOn (Halted (Stuck k)) [] refl (refuses_as_array b a 0 PowerOn stands ∙ (power_refusal b ∙ ap power_answer halted))
    (refused_by (Some (Stuck k)) b b a PowerOn (Halted (Stuck k)) [] halted (stands.power ∙ ap kept_power halted)
    (λ j is. kept_stuck b.halted b a stands.now j (halted ∙ is)) refl) stands

pub power_makes : (b : BankState) (a : ArrayState) (n : ℕ) (bus : BusState) → b.halted ≡ Some (Off n) → PowersOn b.bus bus → KeepsLanes b.bus bus → Stands b a
    → MakesEntry b (record b { bus = bus; halted = None }) (entry_of b (record b { bus = bus; halted = None }) 0 PowerOn Done []) a
power_makes b a n bus halted powers kept stands =
    let e = entry_of b (record b { bus = bus; halted = None }) 0 PowerOn Done [] in
    let none : refusal a 0 PowerOn ≡ None = refuses_as_array b a 0 PowerOn stands ∙ (power_refusal b ∙ ap power_answer halted) in
    record {
      admitted = (refl, subst (λ (d : Option Reply). Answers d e a) (sym none) (refl, refl));
      agrees = tt;
      stands = stands_powered b a n bus stands halted powers kept;
    }

-- ---- the whole of both calls

arms_kept : (b new : BankState) (n m : ℕ) (cause : HaltCause) → b.halted ≡ Some cause → new ≡ with_bus b new.bus → Stays b.halted b.bus new.bus → Arms n m b new (Halted cause)
arms_kept b new n m cause halted same stays =
    let is : bank_refusal b 0 (Arm n m) ≡ Some (Halted cause) = arm_refusal b n m ∙ ap (λ (h : Option HaltCause). option_map Halted h) halted in
    let left : Refuses (Halted cause) b new = refuses_kept cause b new same (subst (λ (h : Option HaltCause). Stays h b.bus new.bus) halted stays) in
    record {
      refused = λ r refused. let reply : Halted cause ≡ r = cc in (reply, subst (λ (x : Reply). Refuses x b new) reply left);
      done = λ none. absurd (cc);
      makes = λ a stands. arm_kept b new a n m cause halted same stays stands;
    }

pub arms_reply : (h : Option HaltCause) (b new : BankState) (n m : ℕ) (reply : Reply) → b.halted ≡ h → Some reply ≡ option_map Halted h
    → new ≡ with_bus b new.bus → Stays b.halted b.bus new.bus → Arms n m b new reply
arms_reply None b new n m reply halted is same stays = absurd (cc)
arms_reply (Some cause) b new n m reply halted is same stays =
    let one : Halted cause ≡ reply = cc in
    subst (λ (r : Reply). Arms n m b new r) one (arms_kept b new n m cause halted same stays)

pub arms_done : (b new : BankState) (n m : ℕ) → b.halted ≡ None → new ≡ armed_with n m b → Arms n m b new Done
arms_done b new n m running same =
    let none : bank_refusal b 0 (Arm n m) ≡ None = arm_refusal b n m ∙ ap (λ (h : Option HaltCause). option_map Halted h) running in
    record {
      refused = λ r refused. absurd (cc);
      done = λ none. (refl, same);
      makes = λ a stands. subst (λ (x : BankState). MakesEntry b x (entry_of b x 0 (Arm n m) Done []) a) (sym same) (arm_makes b a n m running stands);
    }

pub powers_nothing : (b : BankState) → b.halted ≡ None → PowersBank b b Nothing
powers_nothing b running =
    let is : bank_refusal b 0 PowerOn ≡ Some Nothing = power_refusal b ∙ ap power_answer running in
    record {
      refused = λ r refused. let reply : Nothing ≡ r = cc in (reply, refl);
      done = λ none. absurd (cc);
      makes = λ a stands. power_nothing b a running stands;
    }

pub powers_stuck : (b : BankState) (k : ℕ) → b.halted ≡ Some (Stuck k) → PowersBank b b (Halted (Stuck k))
powers_stuck b k halted =
    let is : bank_refusal b 0 PowerOn ≡ Some (Halted (Stuck k)) = power_refusal b ∙ ap power_answer halted in
    record {
      refused = λ r refused. let reply : Halted (Stuck k) ≡ r = cc in (reply, refl);
      done = λ none. absurd (cc);
      makes = λ a stands. power_stuck b a k halted stands;
    }

pub powers_done : (b new : BankState) (n : ℕ) → b.halted ≡ Some (Off n) → new ≡ record b { bus = new.bus; halted = None } → PowersOn b.bus new.bus
    → KeepsLanes b.bus new.bus → PowersBank b new Done
powers_done b new n halted same powers kept =
    let none : bank_refusal b 0 PowerOn ≡ None = power_refusal b ∙ ap power_answer halted in
    record {
      refused = λ r refused. absurd (cc);
      done = λ none. (refl, same, powers);
      makes = λ a stands.
          subst (λ (x : BankState). MakesEntry b x (entry_of b x 0 PowerOn Done []) a) (sym same) (power_makes b a n new.bus halted powers kept stands);
    }

-- as the calls come to them
pub powers_from : (was b : BankState) (bus : BusState) (n : ℕ) → was ≡ b → was.halted ≡ Some (Off n) → PowersOn was.bus bus → KeepsLanes was.bus bus
    → PowersBank b (record was { bus = bus; halted = None }) Done
powers_from was b bus n same halted powers kept =
    let new = record was { bus = bus; halted = None } in
    subst (λ (x : BankState). PowersBank x new Done) same (powers_done was new n halted refl powers kept)

pub arms_from : (was b : BankState) (bus : BusState) (n m : ℕ) → was ≡ b → b.halted ≡ None
    → bus ≡ record was.bus { armed = Some (record { after = n; mask = m }) } → Arms n m b (record was { bus = bus; after = n }) Done
arms_from was b bus n m same running is =
    arms_done b (record was { bus = bus; after = n }) n m running
    (ap (λ (x : BusState). record was { bus = x; after = n }) is ∙ ap (λ (x : BankState). armed_with n m x) same)

-- ---- what they leave

pub arms_keep : (was b : BankState) (bus : BusState) (n m : ℕ) → was ≡ b → bus ≡ record was.bus { armed = Some (record { after = n; mask = m }) }
    → KeepsBank b (record was { bus = bus; after = n })
arms_keep was b bus n m same is =
    let new : BankState = record was { bus = bus; after = n } in
    subst (λ (x : BankState). KeepsBank x new) same
    (record { found = refl; lanes = keeps_chips was.bus bus (ap (λ (x : BusState). x.lanes) is) })

pub powers_keep : (was b : BankState) (bus : BusState) → was ≡ b → KeepsLanes was.bus bus → KeepsBank b (record was { bus = bus; halted = None })
powers_keep was b bus same kept =
    let new : BankState = record was { bus = bus; halted = None } in
    subst (λ (x : BankState). KeepsBank x new) same (record { found = refl; lanes = kept })
