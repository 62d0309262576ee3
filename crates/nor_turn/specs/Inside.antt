-- How what contracts see of a lock and of a pass comes from what these hold.
use Rattle.std.specs.Prelude.{◌≡◌, ℕ, ◌%◌, true, Option, Some, None, IsSome}
use Rattle.atomic_table.specs.Table.{Me}
use Rattle.atomic_table.specs.Seated.{TableId}
use Rattle.nor_turn.specs.declared.view.View.{View}
use Rattle.nor_turn.specs.Passes.{LockView, PassView}
use Rattle.nor_turn.specs.Rule.{span}
use Rattle.nor_turn.specs.Steps.{in_hand}

-- the word of a ticket, which is its number modulo 2 ^ 64
abbrev pub ticket_word : Option ℕ → Option ℕ
ticket_word (Some k) = Some (k % span)
ticket_word None = None

abbrev pub lock_view : {V : Type 0} → TableId → V → LockView V
lock_view t x = record { table = t; opening = x }

module _ {V E : Type 0} where
  abbrev pub pass_view : TableId → View V E → PassView V E
  pass_view t v = record {
    table = t;
    opening = v.opening;
    name = v.name;
    splits = v.splits;
    taken = v.taken;
    seen = v.seen;
    share = v.share;
    room = v.room;
    ticket = ticket_word v.ticket;
    has_turn = v.has_turn;
    turn_front = v.turn_front;
    looks = v.looks;
    last = v.last;
  }

  -- the numbers that a pass holds are those that the table knows of it. It holds the slot while it has the turn, and has a ticket then
  pub record Agrees (me : Me (Option V) (View V E)) (share room ticket : ℕ) : Type 0 where
    pub share_is : me.0.share ≡ share
    pub room_is : me.0.room ≡ room
    pub ticket_is : (k : ℕ) → me.0.ticket ≡ Some k → ticket ≡ k % span
    pub hand_is : me.1 ≡ in_hand me.0.has_turn
    pub drawn : me.0.has_turn ≡ true → IsSome me.0.ticket
