-- What contracts see of a driver and of a caller, and what a call makes of both.
use Rattle.std.specs.Prelude.{◌≡◌, ◌+◌, ℕ, List, [], ◌∷◌, ◌++◌, length, Bool, true, false, All}
use Rattle.nor_array.specs.Array.{ArrayState}
use Rattle.nor_array.specs.Legal.{Legal}
use Rattle.nor_array.specs.declared.entry.Entry.{Entry}
use Rattle.nor_array.specs.declared.entry.Op.{Op}
use Rattle.nor_array.specs.declared.entry.Op.TheVariants.{Poll}
use Rattle.nor_array.specs.declared.entry.Reply.{Reply}
use Rattle.nor_array.specs.declared.entry.Reply.TheVariants.{Done, Opened}
use Rattle.nor_bank.specs.Calls.{facts_of, given_by}
use Rattle.nor_bank.specs.State.{BankState}
use Rattle.nor_turn.specs.Fronts.{Name, Front}
use Rattle.nor_turn.specs.Passes.{LockView, PassView, IsPassOf, Owns, Continues, first_pass, kept_half, split_half, both}
use Rattle.nor_array.specs.Entries.{IsOf, IsAwaited}
use Rattle.nor_bank.specs.Stands.{Stands}
use Rattle.nor_driver.specs.Fronts.{entries_of, closes}
use Rattle.nor_driver.specs.declared.caller.Answer.{Answer}

-- a driver: which lock it has, and the bank that it was made with
abbrev pub DriverView : Type 0
DriverView = LockView BankState

-- a caller: its number, its pass, and whether it has an erase that it opened and hasn't closed
pub record CallerView : Type 0 where
  pub number : ℕ
  pub pass : PassView BankState Entry
  pub erasing : Bool

-- the caller is one of the driver's
abbrev pub IsCallerOf : DriverView → CallerView → Type 0
IsCallerOf d c = IsPassOf d c.pass

-- ---- callers made of callers

-- the caller that a driver begins with: number 1, every share and room, nothing seen
abbrev pub first_caller : DriverView → CallerView
first_caller d = record { number = 1; pass = first_pass d; erasing = false }

-- what a split leaves a caller: half of its share and of its room
abbrev pub halved : CallerView → CallerView
halved c = record c { pass = kept_half c.pass }

-- the caller that is split off under a number: the other half, and the same seen; it has no erase
abbrev pub split_off : ℕ → CallerView → CallerView
split_off number c = record { number = number; pass = split_half c.pass; erasing = false }

-- the first caller with all that the second had: both shares and rooms, and the longer of what both have seen
abbrev pub folded : CallerView → CallerView → CallerView
folded c d = record c { pass = both c.pass d.pass }

-- ---- what a caller has seen

-- the entry is the caller's own, or of one that it took in
abbrev pub IsOwn : CallerView → Name × Entry → Type 0
IsOwn c pair = Owns c.pass pair.0

-- the front is what the caller has seen, and behind it entries of others
abbrev pub SeesOn : CallerView → Front Entry → Type 0
SeesOn c front = Continues c.pass front

-- The front begins with the first, and goes on behind it.
pub record Begins (first front : Front Entry) : Type 0 where
  pub rest : Front Entry
  pub whole : first ++ rest ≡ front

-- Under this name, with this number, an erase was opened in the front, and not closed since.
pub record HasOpened (name : Name) (number : ℕ) (front : Front Entry) : Type 0 where
  pub before : Front Entry
  pub entry : Entry
  pub later : Front Entry
  pub whole : front ≡ before ++ (name, entry) ∷ later
  pub opened : entry.reply ≡ Opened
  pub by : entry.caller ≡ number
  pub unclosed : All (λ pair. pair.0 ≡ name → closes pair.1.reply pair.1.op ≡ false) later

-- The front has others' entries behind what the pass had seen, and then one of its own, at this place.
pub record Adds (p : PassView BankState Entry) (e : Entry) (at : ℕ) (front : Front Entry) : Type 0 where
  pub between : Front Entry
  pub others : All (λ pair. ¬ Owns p pair.0) between
  pub whole : front ≡ (p.seen ++ between) ++ (p.name, e) ∷ []
  pub place : at ≡ length (p.seen ++ between)

-- A pass went on: it has seen another front, and made so many entries. All else of it that a caller knows is as it was.
pub record WentOn (made : ℕ) (p q : PassView BankState Entry) : Type 0 where
  pub table : q.table ≡ p.table
  pub opening : q.opening ≡ p.opening
  pub name : q.name ≡ p.name
  pub splits : q.splits ≡ p.splits
  pub taken : q.taken ≡ p.taken
  pub share : q.share ≡ p.share
  pub room : q.room + made ≡ p.room

-- The entries of a front are legal for every array that the driver's first bank stood for.
abbrev pub IsLegal : BankState → Front Entry → Type 0
IsLegal first front = (a : ArrayState) → Stands first a → Legal (facts_of first) a (entries_of front)

-- the bytes of an entry are what a read that was done has given
abbrev pub Gives : Reply → Op → (given bytes : List ℕ) → Type 0
Gives Done op given bytes = bytes ≡ given_by op given
Gives _ op given bytes = Unit {0}

-- A call was made and answered. Its entry, under the caller's own number, ends what the caller has now seen of the history,
-- which is legal, and which begins with what it had seen before; between the two stand entries of others alone. The reply is
-- none that a caller waits out. Of the caller's room one is gone.
pub record Called (first : BankState) (op : Op) (given : List ℕ) (c d : CallerView) (answer : Answer) : Type 0 where
  pub entry : Entry
  pub is : IsOf c.number op entry
  pub reply : entry.reply ≡ answer.reply
  pub awaited : IsAwaited entry.reply
  pub bytes : Gives answer.reply op given entry.bytes
  pub adds : Adds c.pass entry answer.position d.pass.seen
  pub legal : IsLegal first d.pass.seen
  pub number : d.number ≡ c.number
  pub pass : WentOn 1 c.pass d.pass

-- ---- erases

abbrev pub is_opened : Reply → Bool
is_opened Opened = true
is_opened _ = false

-- An erase was asked for, and made one entry where it wasn't opened. Where it was, it has made a second one since, of the
-- poll that closed it, which is the answer.
pub data Erases (first : BankState) (op : Op) (c d : CallerView) (answer : Answer) : Type 0 where
  Unopened : is_opened answer.reply ≡ false → Called first op [] c d answer → Erases first op c d answer
  Closed : (opening : Answer) → (mid : CallerView) → opening.reply ≡ Opened → Called first op [] c mid opening
      → Called first Poll [] mid d answer → Erases first op c d answer
