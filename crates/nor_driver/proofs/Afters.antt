-- What the entry of a call leaves of an array: its armed cut, its power.
use Rattle.std.proofs.Common.{◌≡◌, ◌≢◌, ℕ, List, true, refl}
use Rattle.nor_array.specs.Array.{ArrayState}
use Rattle.nor_array.specs.After.{after, after_reply, after_done, after_opened, after_erased, after_failed, after_halted, left_by, power_of}
use Rattle.nor_array.specs.declared.entry.Entry.{Entry}
use Rattle.nor_array.specs.declared.entry.Halted.{Halted as HaltCause}
use Rattle.nor_array.specs.declared.entry.Halted.TheVariants.{Off as OffHalt, Stuck as StuckHalt}
use Rattle.nor_array.specs.declared.entry.Op.{Op}
use Rattle.nor_array.specs.declared.entry.Op.TheVariants.{Program, EraseOpen, EraseAll, Poll, Lock, Unlock, Arm, PowerOn}
use Rattle.nor_array.specs.declared.entry.Reply.{Reply}
use Rattle.nor_array.specs.declared.entry.Reply.TheVariants.{Done, Opened, Erased, Failed, Halted}
use Rattle.nor_array.specs.declared.state.Power.{Power}
use Rattle.nor_array.specs.declared.state.Power.TheVariants.{On}
use Rattle.nor_driver.specs.Fronts.{is_call}
use Rattle.nor_driver.proofs.Replies.{false_true}

-- ---- the armed cut stays

left_armed : (op : Op) (left : List ℕ) (a : ArrayState) → (left_by op left a).armed ≡ a.armed
left_armed (Program at new) left a = refl
left_armed (Lock b) left a = refl
left_armed (Unlock b) left a = refl
left_armed op left a = refl

halt_armed : (power : Power) (cause : HaltCause) (op : Op) (bytes : List ℕ) (a : ArrayState) → (after_halted power cause op bytes a).armed ≡ a.armed
halt_armed On cause op bytes a = left_armed op _ _
halt_armed power cause op bytes a = refl

done_armed : (op : Op) (a : ArrayState) → is_call op ≡ true → (after_done op a).armed ≡ a.armed
done_armed (Arm cut mask) a call = absurd (false_true call)
done_armed PowerOn a call = absurd (false_true call)
done_armed op a call = refl

opened_armed : (op : Op) (caller : ℕ) (a : ArrayState) → (after_opened op caller a).armed ≡ a.armed
opened_armed (EraseOpen b) caller a = refl
opened_armed EraseAll caller a = refl
opened_armed op caller a = refl

erased_armed : (op : Op) (a : ArrayState) → (after_erased op a).armed ≡ a.armed
erased_armed Poll a = refl
erased_armed op a = refl

failed_armed : (op : Op) (from : ℕ) (bytes : List ℕ) (a : ArrayState) → (after_failed op from bytes a).armed ≡ a.armed
failed_armed Poll from bytes a = refl
failed_armed op from bytes a = refl

reply_armed : (reply : Reply) (e : Entry) (a : ArrayState) → is_call e.op ≡ true → (after_reply reply e a).armed ≡ a.armed
reply_armed Done e a call = done_armed e.op a call
reply_armed Opened e a call = opened_armed e.op e.caller a
reply_armed Erased e a call = erased_armed e.op a
reply_armed (Failed from to lanes) e a call = failed_armed e.op from e.bytes a
reply_armed (Halted cause) e a call = halt_armed a.power cause e.op e.bytes a
reply_armed reply e a call = refl

pub same_armed : (a : ArrayState) (e : Entry) → is_call e.op ≡ true → (after a e).armed ≡ a.armed
same_armed a e call = reply_armed e.reply e a call

-- ---- power that is on was on

pub power_not_on : (cause : HaltCause) → power_of cause ≢ On
power_not_on (OffHalt n) e = cc
power_not_on (StuckHalt k) e = cc

halt_on : (power : Power) (cause : HaltCause) (op : Op) (bytes : List ℕ) (a : ArrayState) → (after_halted power cause op bytes a).power ≡ On → a.power ≡ On
halt_on On cause op bytes a on = absurd (power_not_on cause on)
halt_on power cause op bytes a on = on

done_on : (op : Op) (a : ArrayState) → is_call op ≡ true → (after_done op a).power ≡ On → a.power ≡ On
done_on (Arm cut mask) a call on = absurd (false_true call)
done_on PowerOn a call on = absurd (false_true call)
done_on op a call on = on

opened_on : (op : Op) (caller : ℕ) (a : ArrayState) → (after_opened op caller a).power ≡ On → a.power ≡ On
opened_on (EraseOpen b) caller a on = on
opened_on EraseAll caller a on = on
opened_on op caller a on = on

erased_on : (op : Op) (a : ArrayState) → (after_erased op a).power ≡ On → a.power ≡ On
erased_on Poll a on = on
erased_on op a on = on

failed_on : (op : Op) (from : ℕ) (bytes : List ℕ) (a : ArrayState) → (after_failed op from bytes a).power ≡ On → a.power ≡ On
failed_on Poll from bytes a on = on
failed_on op from bytes a on = on

reply_on : (reply : Reply) (e : Entry) (a : ArrayState) → is_call e.op ≡ true → (after_reply reply e a).power ≡ On → a.power ≡ On
reply_on Done e a call on = done_on e.op a call on
reply_on Opened e a call on = opened_on e.op e.caller a on
reply_on Erased e a call on = erased_on e.op a on
reply_on (Failed from to lanes) e a call on = failed_on e.op from e.bytes a on
reply_on (Halted cause) e a call on = halt_on a.power cause e.op e.bytes a on
reply_on reply e a call on = on

pub was_on : (a : ArrayState) (e : Entry) → is_call e.op ≡ true → (after a e).power ≡ On → a.power ≡ On
was_on a e call on = reply_on e.reply e a call on
